-- Two managers of one state answer each call alike.
use Rattle.std.proofs.Common.{◌≡◌, arith, false}
use Rattle.ob_store.specs.State.{Whole}
use Rattle.ob_manager.specs.Calls.{Call}
use Rattle.ob_manager.specs.declared.reply.Reply.{Reply}
use Rattle.ob_manager.specs.Steps.{Step, is_lack, reclaim_in}

pub answers_alike : (a b v w : Whole) (call : Call) (r t : Reply) → a.state ≡ b.state → Step a call r v
    → Step b call t w → is_lack r ≡ false → is_lack t ≡ false → reclaim_in r ≡ reclaim_in t
    → (r ≡ t) × (v.state ≡ w.state)
answers_alike a b v w call r t same one other enough enough' free = grind arith
