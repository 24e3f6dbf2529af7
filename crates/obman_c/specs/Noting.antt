-- How C has calls recorded, and takes what was recorded.
use Rattle.std.specs.Prelude.{◌≡◌, ◌≢◌, ◌⊎◌, ◌<◌, ℕ, Bool, true, false, List, []}
use Rattle.ob_script.specs.Recording.{Recording, recording}

-- calls are recorded from now on, or no more, and 0 is told; or 8 where they weren't and memory was wanting to begin, and
-- all stays
abbrev pub RecordTold : Bool → Recording → ℕ → Recording → Type 0
RecordTold on old status new = ((status ≡ 0) × (new ≡ recording old.text on))
    ⊎ ((on ≡ true) × (old.is_on ≡ false) × (status ≡ 8) × (new ≡ old))

-- 0 where lines were taken or none are left, and 122 where some are left and none fits
abbrev pub TakeTold : ℕ → List ℕ → ℕ → Type 0
TakeTold count left status = ((status ≡ 0) × ((0 < count) ⊎ (left ≡ [])))
    ⊎ ((status ≡ 122) × (count ≡ 0) × (left ≢ []))
