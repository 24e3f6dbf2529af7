-- The objects that are read off the headers and their tags, and the tags that are read off labels and names.
use Rattle.ob_store.proofs.Cited.{◌≡◌, ℕ, zero, suc, ◌∷◌, ◌++◌, [], ◌<◌, List, length, Option, Some, None, refl, ap, arith, get_or, set, replicate, false, cond, IsSome, padded, ObjectName, Label, ObjectHeader, at_place, nat_tests, ext_get_or, length-replicate, Tag, name_in, object_of, objects_in, no_tag, tag_of, tags_in, get_or_default, padded_at, object_at, no_label}
use Rattle.ob_store.proofs.ByPlace.{replicate_at}

pub object_read : (xs : List (Option ObjectHeader)) (ls : List Tag) (k : ℕ)
    → get_or (objects_in xs ls) k None ≡ object_at (get_or xs k None) (get_or ls k no_tag)
object_read [] ls k = refl
object_read (x ∷ xs) [] zero = refl
object_read (x ∷ xs) [] (suc k) = object_read xs [] k
object_read (x ∷ xs) (l ∷ ls) zero = refl
object_read (x ∷ xs) (l ∷ ls) (suc k) = object_read xs ls k

pub objects_length : (xs : List (Option ObjectHeader)) (ls : List Tag) → length (objects_in xs ls) ≡ length xs
objects_length [] ls = refl
objects_length (x ∷ xs) [] = ap suc (objects_length xs [])
objects_length (x ∷ xs) (l ∷ ls) = ap suc (objects_length xs ls)

-- a header changes, and its object stays
pub objects_kept : (xs : List (Option ObjectHeader)) (ls : List Tag) (k : ℕ) (y : Option ObjectHeader)
    → ((l : Tag) → object_at y l ≡ object_at (get_or xs k None) l) → objects_in (set xs k y) ls ≡ objects_in xs ls
objects_kept xs ls k y same = ext_get_or None _ _ (grind (arith, at_place, objects_length))
    (λ j lt. grind (arith, nat_tests, at_place, object_read, objects_length, same (get_or ls k no_tag)))

-- a header and its label come
pub objects_put : (xs : List (Option ObjectHeader)) (ls : List Tag) (k : ℕ) (y : ObjectHeader) (m : Tag) → k < length ls
    → objects_in (set xs k (Some y)) (set ls k m) ≡ set (objects_in xs ls) k (Some (object_of y m))
objects_put xs ls k y m lt = ext_get_or None _ _ (grind (arith, at_place, objects_length))
    (λ j within. grind (arith, nat_tests, at_place, object_read, objects_length))

-- a header leaves, and its tag stays
pub objects_out : (xs : List (Option ObjectHeader)) (ls : List Tag) (k : ℕ)
    → objects_in (set xs k None) ls ≡ set (objects_in xs ls) k None
objects_out xs ls k = ext_get_or None _ _ (grind (arith, at_place, objects_length))
    (λ j lt. grind (arith, nat_tests, at_place, object_read, objects_length))

-- a tag where there was none says nothing
pub objects_padded : (xs : List (Option ObjectHeader)) (ls : List Tag) (len : ℕ)
    → objects_in xs (padded no_tag len ls) ≡ objects_in xs ls
objects_padded xs ls len = ext_get_or None _ _ (search (arith, objects_length)) (λ k lt.
    search (arith, object_read, padded_at))

-- no header, no object
pub objects_none : (n : ℕ) (ls : List Tag) → objects_in (replicate n None) ls ≡ replicate n None
objects_none n ls = ext_get_or None _ _ (search (arith, objects_length, length-replicate)) (λ k lt.
    search (arith, object_read, replicate_at))

-- the object of a slot with a header
pub object_here : (xs : List (Option ObjectHeader)) (ls : List Tag) (k : ℕ) (x : ObjectHeader) (l : Tag)
    → get_or xs k None ≡ Some x
    → l ≡ get_or ls k l → k < length ls → get_or (objects_in xs ls) k None ≡ Some (object_of x l)
object_here xs ls k x l header label within = search (arith, object_read, header, get_or_default)

-- a slot with an object has a header
pub header_there : (xs : List (Option ObjectHeader)) (ls : List Tag) (k : ℕ) → IsSome (get_or (objects_in xs ls) k None)
    → IsSome (get_or xs k None)
header_there xs ls k there = search (arith, object_read)

pub tags_length : (ls : List Label) (ns : List (Option ObjectName)) → length (tags_in ls ns) ≡ length ls
tags_length [] ns = refl
tags_length (l ∷ ls) [] = ap suc (tags_length ls [])
tags_length (l ∷ ls) (n ∷ ns) = ap suc (tags_length ls ns)

tag_at : (ls : List Label) (ns : List (Option ObjectName)) (k : ℕ)
    → get_or (tags_in ls ns) k no_tag ≡ tag_of (get_or ls k no_label) (get_or ns k None)
tag_at [] ns k = refl
tag_at (l ∷ ls) [] zero = refl
tag_at (l ∷ ls) [] (suc k) = tag_at ls [] k
tag_at (l ∷ ls) (n ∷ ns) zero = refl
tag_at (l ∷ ls) (n ∷ ns) (suc k) = tag_at ls ns k

-- a slot's label and the place for its name are written
pub tags_push : (ls : List Label) (ns : List (Option ObjectName)) → length ns ≡ length ls
    → tags_in (ls ++ no_label ∷ []) (ns ++ None ∷ []) ≡ tags_in ls ns ++ no_tag ∷ []
tags_push ls ns same = ext_get_or no_tag _ _ (grind (arith, at_place, tags_length))
    (λ k lt. grind (arith, nat_tests, at_place, tag_at, tags_length))

pub tag_read : (ls : List Label) (ns : List (Option ObjectName)) (k : ℕ) (l : Label) (n : Option ObjectName)
    → l ≡ get_or ls k l → n ≡ get_or ns k n → k < length ls → k < length ns
    → tag_of l n ≡ get_or (tags_in ls ns) k (tag_of l n)
tag_read ls ns k l n is named labelled within = grind (
  arith,
  tag_at,
  tags_length,
  get_or_default ls k l no_label labelled,
  get_or_default ns k n None within,
  get_or_default (tags_in ls ns) k no_tag (tag_of l n),
)

-- an object has the name that stands beside its label, where that says so
pub name_here : (xs : List (Option ObjectHeader)) (ls : List Label) (ns : List (Option ObjectName)) (k : ℕ) (l : Label)
    (n : Option ObjectName) → IsSome (get_or (objects_in xs (tags_in ls ns)) k None) → l ≡ get_or ls k l
    → n ≡ get_or ns k n → k < length ls → k < length ns
    → cond l.is_named n None ≡ name_in (get_or (objects_in xs (tags_in ls ns)) k None)
name_here xs ls ns k l n there is named labelled within = search (arith, object_read, tag_at, get_or_default)

-- a label comes without a name, or with one
pub tags_plain : (ls : List Label) (ns : List (Option ObjectName)) (k : ℕ) (l : Label) → l.is_named ≡ false
    → tags_in (set ls k l) ns ≡ set (tags_in ls ns) k (tag_of l None)
tags_plain ls ns k l plain = ext_get_or no_tag _ _ (grind (arith, at_place, tags_length))
    (λ j lt. grind (arith, nat_tests, at_place, tag_at, tags_length))

pub tags_named : (ls : List Label) (ns : List (Option ObjectName)) (k : ℕ) (l : Label) (n : Option ObjectName)
    → k < length ns → tags_in (set ls k l) (set ns k n) ≡ set (tags_in ls ns) k (tag_of l n)
tags_named ls ns k l n lt = ext_get_or no_tag _ _ (grind (arith, at_place, tags_length))
    (λ j within. grind (arith, nat_tests, at_place, tag_at, tags_length))
