-- A `&` to a storage can be made wherever one to each of its bodies can.
use Rattle.ob_arena.proofs.Cited.{arith, slot, slots, slot_lent, slots_lent, fit, storage_owns, storage_lends}
use Rattle.ob_arena.proofs.Steps.{ℕ, ◌+◌, List, [], ◌∷◌, Ura, Lft, Incl, ftrue, ffalse, Logic, RattleType, RowLaws, Laws, Ptr, block_ptr, null_ptr, ShrLaws, said, beside_shr_laws, nothing_shr_laws, said_shr_laws, Shares-less, Lends, Lends-both, Lends-nothing, Lends-said, Lends-false, Option, Some, None, type_size}

module _ (B : RattleType) (L : RowLaws B) where
  slot_laws : (b o : ℕ) (s : Option B.Denot) → ShrLaws (slot_lent B b o s)
  slot_laws b o (Some x) = L x b o
  slot_laws b o None = nothing_shr_laws

  slots_laws : (b o : ℕ) (ss : List (Option B.Denot)) → ShrLaws (slots_lent B b o ss)
  slots_laws b o [] = nothing_shr_laws
  slots_laws b o (s ∷ ss) = search (arith, slot_laws, beside_shr_laws, slots_laws b (o + type_size B) ss)

  pub storage_laws : (p : Ptr) (ss : List (Option B.Denot)) → ShrLaws (storage_lends B p ss)
  storage_laws (block_ptr b o) ss = search (arith, slots_laws, beside_shr_laws, said_shr_laws)
  storage_laws null_ptr ss = said_shr_laws ffalse tt

module _ {M : Type 1} {𝓤 : Ura M} (𝓛 : Logic 𝓤) (l : Lft) (B : RattleType) (L : Laws B) (lasts : Incl l B.lives) where
  slot_lends : (b o : ℕ) (s : Option B.Denot) → Lends 𝓛 (slot B b o s) (slot_lent B b o s) l
  slot_lends b o (Some x) = λ κ ts. Shares-less 𝓛 B B.lives l lasts (L.shares 𝓛) x κ ts b o
  slot_lends b o None = Lends-nothing 𝓛 (slot B b o None) l

  slots_lend : (b o : ℕ) (ss : List (Option B.Denot)) → Lends 𝓛 (slots B b o ss) (slots_lent B b o ss) l
  slots_lend b o [] = Lends-nothing 𝓛 ftrue l
  slots_lend b o (s ∷ ss) =
      Lends-both 𝓛 (slot B b o s) (slots B b (o + type_size B) ss) (slot_lent B b o s)
      (slots_lent B b (o + type_size B) ss) l (slot_lends b o s) (slots_lend b (o + type_size B) ss)

  pub storage_shares : (p : Ptr) (ss : List (Option B.Denot)) → Lends 𝓛 (storage_owns B p ss) (storage_lends B p ss) l
  storage_shares (block_ptr b o) ss = Lends-both 𝓛 (fit B ss) (slots B b o ss) (said (fit B ss)) (slots_lent B b o ss) l
      (Lends-said 𝓛 (fit B ss) tt l) (slots_lend b o ss)
  storage_shares null_ptr ss = Lends-false 𝓛 (said ffalse) l
