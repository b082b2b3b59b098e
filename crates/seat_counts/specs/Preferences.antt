-- The preferences that a plan uses, and the minor of its score: SPEC 11.3 to 11.5. Definitions only.
use Rattle.std.specs.Prelude.{ℕ, ◌+◌, ◌*◌, max, Bool, false, cond, List, eqb, pos, Float, get_or}
use Rattle.std.specs.Float.{nan, fin, binary32}
use Rattle.std.specs.Float.Ieee.{add, mul, div, of_int}
use Rattle.assignment.specs.Plan.{choice_of}
use Rattle.counting.specs.Fold.{fold_to, count_to, sum_to}
use Rattle.scheduling.specs.Schedule.{entry_at}

-- the preference of chooser c's seat in column s
abbrev pub preference_at : ℕ → ℕ → List ℕ → List ℕ → ℕ → ℕ → ℕ
preference_at choices slots preferences plan c s = entry_at preferences (c * choices + choice_of slots plan c s)

-- the greatest that is used, 0 without seats
unfoldable pub greatest_row : ℕ → ℕ → List ℕ → List ℕ → ℕ → ℕ
greatest_row choices slots preferences plan c = fold_to max 0 slots (preference_at choices slots preferences plan c)

unfoldable pub greatest : ℕ → ℕ → ℕ → List ℕ → List ℕ → ℕ
greatest choosers choices slots preferences plan = fold_to max 0 choosers (greatest_row choices slots preferences plan)

-- how many seats have preference p
abbrev pub has_preference : ℕ → ℕ → List ℕ → List ℕ → ℕ → ℕ → ℕ → Bool
has_preference choices slots preferences plan p c s = eqb (preference_at choices slots preferences plan c s) p

unfoldable pub uses_row : ℕ → ℕ → List ℕ → List ℕ → ℕ → ℕ → ℕ
uses_row choices slots preferences plan p c = count_to slots (has_preference choices slots preferences plan p c)

-- of one chooser, by preference
abbrev pub uses_in : ℕ → ℕ → List ℕ → List ℕ → ℕ → ℕ → ℕ
uses_in choices slots preferences plan c p = uses_row choices slots preferences plan p c

unfoldable pub uses : ℕ → ℕ → ℕ → List ℕ → List ℕ → ℕ → ℕ
uses choosers choices slots preferences plan p = sum_to choosers (uses_row choices slots preferences plan p)

-- the power of max_preference, or 1.0 at 0
abbrev pub scaling_of : ℕ → List Float → Float
scaling_of most powers = cond (eqb most 0) (fin false 1 (pos 0)) (get_or powers most nan)

-- (count × power) / scaling
abbrev pub weighted_by : ℕ → Float → Float → Float
weighted_by count power scaling = div binary32 (mul binary32 (of_int binary32 (pos count)) power) scaling

-- .. of one preference
abbrev pub term_of : (ℕ → ℕ) → List Float → Float → ℕ → Float
term_of count powers scaling p = weighted_by (count p) (get_or powers p nan) scaling

-- from +0.0, for each preference upward, rounded at every step
unfoldable pub minor_to : (ℕ → ℕ) → List Float → Float → ℕ → Float
minor_to count powers scaling n = fold_to (add binary32) (fin false 0 (pos 0)) n (term_of count powers scaling)

unfoldable pub minor_of : (ℕ → ℕ) → List Float → ℕ → Float
minor_of count powers most = minor_to count powers (scaling_of most powers) (most + 1)
