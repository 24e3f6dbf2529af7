-- What C ends may go from thread to thread: it owns nothing, or what a box of a manager owns.
use denote.Param.Send.{IsSend}
use Rattle.obman_c_base.specs.contracts.owned.OwnedManager as manager
use Rattle.obman_c_base.proofs.owned.OwnedManager.TheSendSync.{the_send}
use Rattle.obman_c_base.proofs.Sending.{ended, both, crosses, heap_code}
use Rattle.obman_c_base.specs.contracts.owner.ManagerTaken.{the_row, struct, the_codes, the_heap}

pub send : IsSend the_row
send = crosses struct (the_codes heap_code) the_heap both
    (λ ending. ended manager.the_row the_send ending.alloc ending.at ending.value)
