-- What is written one after the other.
use Rattle.std.proofs.Common.{◌≡◌, ℕ, ◌++◌, List, append_assoc, length}
use Rattle.std.specs.Int.{w32, to_le_bytes}
use Rattle.std.specs.List.{flat_map}
use Rattle.ob_codec.specs.Spelling.{list}

pub two_behind : (o a x y : List ℕ) → x ≡ o ++ a → (b : List ℕ) → y ≡ x ++ b → y ≡ o ++ (a ++ b)
two_behind o a x y p b q = rw (q, p) (append_assoc o a b)

-- how many there are, and these
pub list_behind : {A : Type 0} (text : A → List ℕ) (o x y : List ℕ) (rows : ℕ) (ys us : List A)
    → x ≡ o ++ to_le_bytes w32 rows → y ≡ x ++ flat_map text ys → ys ≡ us → length ys ≡ rows → y ≡ o ++ list text us
list_behind text o x y rows ys us p q is long =
    rw (q, p, ← is, ← long) (append_assoc o (to_le_bytes w32 (length ys)) (flat_map text ys))

pub five_behind : (o a b c d e v w x y z : List ℕ) → v ≡ o ++ a → w ≡ v ++ b → x ≡ w ++ c → y ≡ x ++ d → z ≡ y ++ e
    → z ≡ o ++ (a ++ (b ++ (c ++ (d ++ e))))
five_behind o a b c d e v w x y z p q r s t = rw (t, s, r, q, p) (simp append_assoc)

pub six_behind : (o a b c d e f u v w x y z : List ℕ) → u ≡ o ++ a → v ≡ u ++ b → w ≡ v ++ c → x ≡ w ++ d → y ≡ x ++ e
    → z ≡ y ++ f → z ≡ o ++ (a ++ (b ++ (c ++ (d ++ (e ++ f)))))
six_behind o a b c d e f u v w x y z p q r s t last = rw (last, t, s, r, q, p) (simp append_assoc)

pub eight_behind : (o a b c d e f g h s t u v w x y z : List ℕ) → s ≡ o ++ a → t ≡ s ++ b → u ≡ t ++ c → v ≡ u ++ d
    → w ≡ v ++ e → x ≡ w ++ f → y ≡ x ++ g → z ≡ y ++ h
    → z ≡ o ++ (a ++ (b ++ (c ++ (d ++ (e ++ (f ++ (g ++ h)))))))
eight_behind o a b c d e f g h s t u v w x y z p1 p2 p3 p4 p5 p6 p7 p8 =
    rw (p8, p7, p6, p5, p4, p3, p2, p1) (simp append_assoc)
