-- What a recorder has noted is the script of what it was told.
use Rattle.std.proofs.Common.{Bool, ◌≡◌, List, [], ◌∷◌, ◌++◌, ℕ, true, refl, append-nil, append_assoc, arith}
use Rattle.ob_script.specs.Recording.{AddsWhere, Recording, recording}
use Rattle.ob_script.specs.Telling.{text_for}
use Rattle.ob_shared.specs.declared.book.Entry.{Entry}
use Rattle.ob_console.specs.Retelling.{script_of}
use Rattle.obman_theorems.specs.Theorems.{AreNoted, IsRecord}

-- where it is on behind some lines, it was before, and they were added
on_before : (is_on : Bool) (r s : Recording) (lines : List ℕ) → AddsWhere is_on r lines s → r.is_on ≡ is_on
    → s.is_on ≡ true → (r.is_on ≡ true) × (s.text ≡ r.text ++ lines)
on_before is_on r s lines is was on = grind arith

noted : (journal : List Entry) (r t : Recording) → AreNoted r journal t → t.is_on ≡ true
    → (r.is_on ≡ true) × (t.text ≡ r.text ++ script_of journal)
noted [] r t are on = search (arith, append-nil)
noted (entry ∷ entries) r t are on =
    let rest = noted entries are.0 t are.2 on in
    let here = on_before r.is_on r are.0 (text_for entry.call entry.reply) are.1 refl rest.0 in
    search (arith, append_assoc)

pub record_is : (journal : List Entry) (r : Recording) → AreNoted (recording [] true) journal r → IsRecord journal r
record_is journal r are on = (noted journal (recording [] true) r are on).1
