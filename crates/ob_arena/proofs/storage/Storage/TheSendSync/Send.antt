use Rattle.ob_arena.proofs.Cited.{RattleType, IsSend}
use Rattle.ob_arena.proofs.StorageThreads.{storage_send}
use Rattle.ob_arena.specs.contracts.storage.Storage.{the_row}

pub send : (B : RattleType) → IsSend B → IsSend (the_row B)
send = storage_send
