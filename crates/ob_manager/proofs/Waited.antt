-- What a wait's tests say of its objects.
use Rattle.std.proofs.Common.{◌≡◌, ℕ, ◌<◌, ◌≤◌, List, [], ◌∷◌, ◌++◌, length, Result, Ok, Err, refl, arith, get_or, map, Bool, true, false, cond}
use Rattle.std.proofs.lemmas.Bool.Decides.{nat_tests}
use Rattle.std.specs.Prelude.{◌||◌}
use Rattle.std.specs.List.{list_any}
use Rattle.std.proofs.lemmas.List.{append_assoc, append-nil, length-map}
use Rattle.std.proofs.lemmas.List.Folds.{list_any_at}
use Rattle.pin_core.specs.Holds.{same_id}
use Rattle.pin_core.specs.declared.id.Id.{Id}
use Rattle.ob_rights.specs.declared.fault.Fault.{Fault}
use Rattle.ob_rights.specs.declared.fault.Fault.TheVariants as fault
use Rattle.ob_tables.specs.declared.entry.Entry.{Entry}
use Rattle.ob_tables.proofs.Counting.{found_counts}
use Rattle.ob_waits.specs.declared.wait.Mode.{Mode}
use Rattle.ob_waits.specs.declared.wait.Mode.TheVariants.{All}
use Rattle.ob_waits.specs.Rules.{IsWaitable}
use Rattle.ob_waits.specs.Waits.{nowhere}
use Rattle.ob_store.specs.Kept.{IsNamed}
use Rattle.ob_store.specs.Owners.{owns_at}
use Rattle.ob_store.specs.State.{State, handles_of}
use Rattle.ob_manager.specs.declared.waiting.Timeout.{Timeout}
use Rattle.ob_manager.specs.Checks.{caller, found}
use Rattle.ob_manager.specs.Rising.{listed}
use Rattle.ob_manager.specs.Outcomes.{◌>>=◌}
use Rattle.ob_manager.specs.Waiting.{all_found, has_twice, have_room, id_of, is_for_one_twice, lacks_synchronize, objects_of, wait, wait_on}

-- the objects of handles one by one, after those that were collected
abbrev pub objects_from : State → ℕ → List Id → Bool → List ℕ → Result (List Id) Fault
objects_from s p ids lacks [] = cond lacks (Err fault.Access) (Ok ids)
objects_from s p ids lacks (h ∷ hs) = found s p h >>= λ e. objects_from s p (ids ++ e.id ∷ []) (lacks
    || lacks_synchronize e) hs

module _ (s : State) (p : ℕ) where
  -- the rest of a collection, where the entries that are left are known
  abbrev rest_of : List Id → Bool → Result (List Entry) Fault → Result (List Id) Fault
  rest_of ids lacks (Err e) = Err e
  rest_of ids lacks (Ok es) = cond (lacks || list_any lacks_synchronize es) (Err fault.Access)
      (Ok (ids ++ map id_of es))

  from_rest : (hs : List ℕ) (ids : List Id) (lacks : Bool)
      → objects_from s p ids lacks hs ≡ rest_of ids lacks (all_found s p hs)
  from_rest [] ids lacks = grind (arith, append-nil)
  from_rest (h ∷ hs) ids lacks = grind (arith, append_assoc, from_rest hs)

  -- what is collected one by one is what the handles' objects are
  pub from_start : (hs : List ℕ) → objects_from s p [] false hs ≡ objects_of s p hs
  from_start hs = grind (arith, from_rest)

  -- as many entries as handles, each with an object
  pub all_there : (hs : List ℕ) (es : List Entry) → all_found s p hs ≡ Ok es → (length es ≡ length hs)
      × ((i : ℕ) → i < length es → 0 < handles_of s (get_or (map id_of es) i nowhere))
  all_there [] es is = grind arith
  all_there (h ∷ hs) es is = grind (arith, found_counts s.tables p h, all_there hs)

  -- the objects of a list that is to be waited for
  pub record AreAsked (ids : List Id) : Type 0 where
    pub not_empty : 0 < length ids
    pub at_most : length ids ≤ 64
    pub is_there : (i : ℕ) → i < length ids → 0 < handles_of s (get_or ids i nowhere)

  pub asked : (mode : Mode) (hs : List ℕ) (ids : List Id) → Ok ids ≡ listed s p mode hs → AreAsked ids
  asked mode hs ids is = grind (arith, nat_tests, all_there hs, length-map)

  -- a wait of a caller is a wait for what is listed
  pub waits_listed : (t : ℕ) (mode : Mode) (timeout : Timeout) (hs : List ℕ) → caller s t ≡ Ok p
      → wait s t mode timeout hs ≡ (listed s p mode hs >>= wait_on s t mode timeout)
  waits_listed t mode timeout hs own = grind arith

-- objects of which none stands twice, in slots of their own
apart : (ids : List Id) → has_twice same_id ids ≡ false → (i j : ℕ) → i < j → j < length ids
    → same_id (get_or ids i nowhere) (get_or ids j nowhere) ≡ false
apart [] none i j lt in' = absurd (omega arith)
apart (x ∷ xs) none i j lt in' = grind (arith, list_any_at (same_id x) xs, apart xs)

pub waitable : (s : State) (mode : Mode) (ids : List Id) → IsNamed s.objects s.tables s.waits
    → ((i : ℕ) → i < length ids → 0 < handles_of s (get_or ids i nowhere)) → (mode ≡ All → 0 < length ids)
    → length ids ≤ 64 → is_for_one_twice mode ids ≡ false → IsWaitable mode ids
waitable s mode ids named there some few none = record {
  not_empty = some;
  at_most = few;
  once = λ all. record {
    apart = λ i j lt in'. grind (arith, nat_tests, apart ids (rw all at none) i j lt, named.entries, there i, there j);
  };
}

-- a thread that owns no mutex may take each
pub room_unowned : (s : State) (t : ℕ) (ids : List Id) → ((k : ℕ) → owns_at t s.bodies k ≡ false)
    → have_room s t ids ≡ true
room_unowned s t [] none = refl
room_unowned s t (id ∷ ids) none = grind (arith, none id.slot, room_unowned s t ids none)
