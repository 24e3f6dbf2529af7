-- A refusal that isn't for want of memory is the model's.
use Rattle.std.proofs.Common.{◌≡◌, ◌≢◌, Bool, false, ℕ, List, Result, Ok, Err, arith}
use Rattle.std.specs.Prelude.{IfErr}
use Rattle.ob_name.specs.declared.name.NameRef.{NameRef}
use Rattle.ob_name.specs.Names.{ObjectName}
use Rattle.ob_name.specs.Refs.{parsed_name}
use Rattle.ob_name.specs.Texts.{checked_base, name_of}
use Rattle.ob_rights.specs.declared.fault.Fault.{Fault}
use Rattle.ob_rights.specs.declared.fault.Fault.TheVariants as fault
use Rattle.ob_manager.specs.Outcomes.{Refuses}
use Rattle.ob_manager.specs.Steps.{is_memory}

pub refuses_err : {A : Type 0} (e : Fault) (r : Result A Fault) → e ≢ fault.Memory → r ≡ Err e → Refuses e r
refuses_err e r other is = grind arith

-- whether a part of a call refuses for want of memory
abbrev pub wants : {A : Type 0} → Result A Fault → Bool
wants (Ok x) = false
wants (Err e) = is_memory e

-- a name never does
base_wants : (name : ObjectName) → wants (checked_base name) ≡ false
base_wants name = grind arith

pub text_wants : (text : List ℕ) (session : ℕ) → wants (name_of text session) ≡ false
text_wants text session = search (arith, base_wants)

pub name_known : (r : Result NameRef Fault) (text : List ℕ) (session : ℕ) → parsed_name r ≡ name_of text session
    → IfErr r (λ e. e ≢ fault.Memory)
name_known r text session is = grind (arith, text_wants text session)
