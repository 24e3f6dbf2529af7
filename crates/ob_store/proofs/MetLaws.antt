-- A thread's wait comes as another object, or the same, is signaled: what is kept, and the slots by which it is enough to
-- settle.
use Rattle.ob_store.proofs.Cited.{◌≡◌, ℕ, zero, suc, ◌<◌, [], ◌∷◌, Option, Some, None, ◌∙◌, ap, sym, subst, arith, get_or, set, length, Id, Body, handles_among, Any, HasRoom, nowhere, ObjectsInvariant, IsLive, StoreInvariant, Yields, ObjectsState, kept_rest, PartsState, state_of, SignaledState, State, with_body, IsUnderWay, with_wait}
use Rattle.ob_store.proofs.OpenedLaws.{kept_opened, opened_joined, opened_state, with_opened}
use Rattle.ob_store.proofs.UnderWayLaws.{way_changed}
use Rattle.ob_store.proofs.WaitedLaws.{sound_waiting, state_waiting, waiting}

-- what holds of one holds of each of its list
pub single : (P : Id → Type 0) (x : Id) → P x → (i : ℕ) → i < length (x ∷ []) → P (get_or (x ∷ []) i nowhere)
single P x h zero lt = h
single P x h (suc i) lt = absurd (omega (arith, lt))

module _ (p : PartsState) (t : ℕ) (waited : Id) (d : Option ℕ) (kept : StoreInvariant p) where
  abbrev pub joining : PartsState
  joining = waiting (with_opened p.limits.reuse p) t Any (waited ∷ []) d

  module _ (q : ObjectsState) (a : SignaledState) (id : Id) (old new : Body)
      (there : 0 < handles_among waited p.tables.tables)
      (room : HasRoom p.limits.max_recursion t p.objects.seen.bodies (waited ∷ []))
      (live : IsLive p.processes.threads t)
      (bodied : get_or p.objects.seen.bodies id.slot None ≡ Some old)
      (yields : Yields p.waits.clock old new)
      (put : q.seen ≡ record joining.objects.seen { bodies = set p.objects.seen.bodies id.slot (Some new) })
      (rest : kept_rest q ≡ kept_rest joining.objects) where
    pub way_met : ObjectsInvariant q → IsUnderWay p.objects.keeper (record joining { objects = q; signaled = a })
        (with_body (with_wait (state_of p) t Any (waited ∷ []) d) id new)
    way_met tied =
        let opened = with_opened p.limits.reuse p in
        let sound = sound_waiting _ t Any _ d (kept_opened p.limits.reuse p kept) (single (λ x. 0 < handles_among x
        p.tables.tables) waited there) room live in
        subst (λ (s : State). IsUnderWay p.objects.keeper (record joining { objects = q; signaled = a })
        (with_body s id new))
        (state_waiting opened t Any (waited ∷ []) d ∙ opened_joined p t Any (waited ∷ []) d kept)
        (way_changed _ q a id old new sound bodied (subst (λ clock. Yields clock old new) (sym (ap (λ (s : State).
        s.clock) (opened_state p.limits.reuse p))) yields) put rest tied)
