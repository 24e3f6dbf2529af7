-- A reader that C owns may go from thread to thread, as its box may.
use denote.Param.Send.{IsSend}
use Rattle.obman_c_base.specs.contracts.owned.OwnedReader as reader
use Rattle.obman_c_base.proofs.owned.OwnedReader.TheSendSync.{the_send}
use Rattle.obman_c_base.proofs.Sending.{owned, both, crosses, heap_code}
use Rattle.obman_c_base.specs.contracts.reader_owner.ReaderOwner.{the_row, struct, the_codes, the_heap}

pub send : IsSend the_row
send = crosses struct (the_codes heap_code) the_heap both
    (λ owner. owned reader.the_row the_send owner.alloc owner.at owner.value)
