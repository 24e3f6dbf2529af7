-- A manager that C owns may go from thread to thread, as its box may.
use denote.Param.Send.{IsSend}
use Rattle.obman_c_base.specs.contracts.owned.OwnedManager as manager
use Rattle.obman_c_base.proofs.owned.OwnedManager.TheSendSync.{the_send}
use Rattle.obman_c_base.proofs.Sending.{owned, both, crosses, heap_code}
use Rattle.obman_c_base.specs.contracts.owner.ManagerOwner.{the_row, struct, the_codes, the_heap}

pub send : IsSend the_row
send = crosses struct (the_codes heap_code) the_heap both
    (λ owner. owned manager.the_row the_send owner.alloc owner.at owner.value)
