use Rattle.ob_arena.proofs.Cited.{RattleType, IsSync, Ghosts}
use Rattle.ob_arena.proofs.StorageThreads.{title_sync}
use Rattle.ob_arena.specs.contracts.storage.Title.{the_row}

pub sync : (B A : RattleType) (g : Ghosts A.Denot) → IsSync (the_row B A g)
sync = title_sync
