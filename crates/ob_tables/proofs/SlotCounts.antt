-- How the handles of the object in a slot change with each change of the tables.
use Rattle.std.proofs.lemmas.Grind.{common_steps}
use Rattle.std.proofs.Common.{◌≡◌, ◌≢◌, ℕ, ◌+◌, ◌*◌, ◌<◌, ◌≤◌, List, [], ◌∷◌, length, Option, Some, None, refl, arith, zero, suc, Bool, true, false, cond, eqb}
use Rattle.std.proofs.lemmas.List.Sums.{sum_by-le, sum_by-cons, sum_by-le-sum_by, count_by-le-length}
use Rattle.std.proofs.lemmas.List.Elements.{All-from_get_or}
use Rattle.pin_core.specs.Holds.{same_id}
use Rattle.pin_core.specs.declared.id.Id.{Id}
use Rattle.ob_rights.specs.declared.handle_flags.HandleFlags.{HandleFlags}
use Rattle.ob_tables.specs.declared.entry.Entry.{Entry}
use Rattle.ob_tables.specs.Table.{at, entry_at}
use Rattle.ob_tables.specs.Counts.{names, names_slot, handles_in, handles_among, slot_handles_in, slot_handles}
use Rattle.ob_tables.specs.Tables.{new_table, table_of, with_table, with_entry_of, without_entry_of, with_flags_of, without_entries, IsBounded}
use Rattle.ob_tables.proofs.Counting.{counted-with_entry, counted-with_flags, counted-with_table, counted-without_entries}

-- 1 for an entry of the object in the slot, and else 0
abbrev pub one_in : ℕ → Entry → ℕ
one_in slot e = cond (eqb e.id.slot slot) 1 0

pub one_in-same : (e : Entry) → one_in e.id.slot e ≡ 1
one_in-same e = search arith

pub one_in-other : (e : Entry) (slot : ℕ) → slot ≢ e.id.slot → one_in slot e ≡ 0
one_in-other e slot other = search arith

pub slot_handles-with_entry : (slot : ℕ) (ts : List (List (Option Entry))) (p : ℕ) (e : Entry) → p < length ts
    → slot_handles slot (with_entry_of ts p e) ≡ slot_handles slot ts + one_in slot e
slot_handles-with_entry slot = counted-with_entry (names_slot slot) refl

pub slot_handles-without_entry : (slot : ℕ) (ts : List (List (Option Entry))) (p value : ℕ) (e : Entry)
    → entry_at (table_of ts p) value ≡ Some e → slot_handles slot (without_entry_of ts p value) + one_in slot e
    ≡ slot_handles slot ts
slot_handles-without_entry slot = grind (arith, common_steps)

pub slot_handles-with_flags : (slot : ℕ) (ts : List (List (Option Entry))) (p value : ℕ) (e : Entry)
    (flags : HandleFlags) → entry_at (table_of ts p) value ≡ Some e
    → slot_handles slot (with_flags_of ts p value flags) ≡ slot_handles slot ts
slot_handles-with_flags slot = search (arith, counted-with_flags)

pub slot_handles-with_table : (slot : ℕ) (ts : List (List (Option Entry))) (k : ℕ) (from : Option ℕ)
    → table_of ts k ≡ []
    → slot_handles slot (with_table ts k from) ≡ slot_handles slot ts + slot_handles_in slot (new_table ts from)
slot_handles-with_table slot = counted-with_table (names_slot slot) refl

pub slot_handles-without_entries : (slot : ℕ) (ts : List (List (Option Entry))) (p : ℕ) → p < length ts
    → slot_handles slot (without_entries ts p) + slot_handles_in slot (table_of ts p) ≡ slot_handles slot ts
slot_handles-without_entries slot = counted-without_entries (names_slot slot) refl

-- no slot has more handles than the tables have places
pub slot_handles-few : (slot processes handles : ℕ) (ts : List (List (Option Entry))) → IsBounded processes handles ts
    → slot_handles slot ts ≤ 65537 * 16384
slot_handles-few slot processes handles ts b =
    let each = All-from_get_or (λ (t : List (Option Entry)). slot_handles_in slot t ≤ 16384) ts [] in
    grind (arith, sum_by-le (slot_handles_in slot) 16384 ts, count_by-le-length (names_slot slot), each)

pub slot_handles-le : (id : Id) (ts : List (List (Option Entry))) → handles_among id ts ≤ slot_handles id.slot ts
slot_handles-le id ts = search (arith, sum_by-le-sum_by)

-- each entry of the Id's slot has the Id
abbrev pub AreOne : Id → List (List (Option Entry)) → Type 0
AreOne id ts = (p i : ℕ) (e : Entry) → at (table_of ts p) i ≡ Some e → e.id.slot ≡ id.slot → e.id ≡ id

-- then the handles of the slot are those of the object
slot_handles_in-one : (id : Id) (t : List (Option Entry))
    → ((i : ℕ) (e : Entry) → at t i ≡ Some e → e.id.slot ≡ id.slot → e.id ≡ id)
    → slot_handles_in id.slot t ≡ handles_in id t
slot_handles_in-one id [] one = refl
slot_handles_in-one id (x ∷ t) one =
    omega (arith, sum_by-cons (λ y. cond (names_slot id.slot y) 1 0) x t, sum_by-cons (λ y. cond (names id y) 1 0) x t, here x (λ e is. one zero e is), slot_handles_in-one id t (λ i. one (suc i)))
  where
    by : (e : Entry) (a b : Bool) → (e.id.slot ≡ id.slot → e.id ≡ id) → same_id e.id id ≡ a → eqb e.id.slot id.slot ≡ b
        → cond {A = ℕ} b 1 0 ≡ cond {A = ℕ} a 1 0
    by e true true own p q = refl
    by e true false own p q = absurd (grind arith)
    by e false true own p q = search arith
    by e false false own p q = refl

    here : (y : Option Entry) → ((e : Entry) → y ≡ Some e → e.id.slot ≡ id.slot → e.id ≡ id)
        → cond {A = ℕ} (names_slot id.slot y) 1 0 ≡ cond {A = ℕ} (names id y) 1 0
    here None own = refl
    here (Some e) own = by e (same_id e.id id) (eqb e.id.slot id.slot) (own e refl) refl refl

pub slot_handles-one : (id : Id) (ts : List (List (Option Entry))) → AreOne id ts
    → slot_handles id.slot ts ≡ handles_among id ts
slot_handles-one id [] one = refl
slot_handles-one id (t ∷ ts) one =
    omega (arith, sum_by-cons, slot_handles_in-one id t (one zero), slot_handles-one id ts (λ p. one (suc p)))
