use Rattle.ob_arena.proofs.Cited.{RattleType, IsSend, Frees, Ghosts}
use Rattle.ob_arena.proofs.StorageThreads.{title_send}
use Rattle.ob_arena.specs.contracts.storage.Title.{the_row}

pub send : (B A : RattleType) (g : Ghosts A.Denot) → IsSend A → Frees g g.dealloc_token → IsSend (the_row B A g)
send B A g s = title_send B A g
