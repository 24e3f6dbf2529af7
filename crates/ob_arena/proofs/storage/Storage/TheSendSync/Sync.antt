use Rattle.ob_arena.proofs.Cited.{RattleType, IsSync}
use Rattle.ob_arena.proofs.StorageThreads.{storage_sync}
use Rattle.ob_arena.specs.contracts.storage.Storage.{the_row}

pub sync : (B : RattleType) → IsSync B → IsSync (the_row B)
sync = storage_sync
