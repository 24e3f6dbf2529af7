-- A call whose parts stay is the same call.
use Rattle.std.proofs.Common.{◌≡◌, arith}
use Rattle.ob_manager.specs.Calls.{Call, with_parts}

pub own_parts : (call : Call) → with_parts (λ m. m) (λ t. t) (λ h. h) call ≡ call
own_parts call = grind arith
