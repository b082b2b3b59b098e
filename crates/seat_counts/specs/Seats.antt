-- The seats of a plan, from Scoring::is_feasible: no chooser in a slot twice, every scheduled choice filled. SPEC 10.3, 10.4. Definitions only.
use Rattle.std.specs.Prelude.{ℕ, Bool, not, ◌&&◌, ◌||◌, List, eqb, leb}
use Rattle.assignment.specs.Plan.{is_scheduled, choice_of}
use Rattle.counting.specs.Fold.{count_to, all_to}
use Rattle.scheduling.specs.Schedule.{entry_at}

-- the entry of the schedule that chooser c's seat in column s has; the column need not be that slot
abbrev pub seat_entry : ℕ → List ℕ → List ℕ → ℕ → ℕ → ℕ
seat_entry slots sch plan c s = entry_at sch (choice_of slots plan c s)

-- chooser c's seat in column s is in another slot than those before it
abbrev pub differs_from : ℕ → List ℕ → List ℕ → ℕ → ℕ → ℕ → Bool
differs_from slots sch plan c s r = not (eqb (seat_entry slots sch plan c r) (seat_entry slots sch plan c s))

unfoldable pub is_new : ℕ → List ℕ → List ℕ → ℕ → ℕ → Bool
is_new slots sch plan c s = all_to s (differs_from slots sch plan c s)

-- no slot has chooser c twice
unfoldable pub once_each : ℕ → List ℕ → List ℕ → ℕ → Bool
once_each slots sch plan c = all_to slots (is_new slots sch plan c)

-- no slot has a chooser twice
unfoldable pub none_twice : ℕ → ℕ → List ℕ → List ℕ → Bool
none_twice choosers slots sch plan = all_to choosers (once_each slots sch plan)

-- how many of the first n seats are choice k
abbrev pub is_choice : List ℕ → ℕ → ℕ → Bool
is_choice plan k i = eqb (entry_at plan i) k

unfoldable pub part_count : ℕ → List ℕ → ℕ → ℕ
part_count n plan k = count_to n (is_choice plan k)

-- a choice that has a slot has from min to max seats
abbrev pub filled_by : Bool → ℕ → ℕ → ℕ → Bool
filled_by scheduled min max count = not scheduled || (leb min count && leb count max)

abbrev pub filled_at : List ℕ → List ℕ → List ℕ → (ℕ → ℕ) → ℕ → Bool
filled_at sch mins maxs count k = filled_by (is_scheduled sch k) (entry_at mins k) (entry_at maxs k) (count k)

unfoldable pub all_filled : ℕ → List ℕ → List ℕ → List ℕ → (ℕ → ℕ) → Bool
all_filled choices sch mins maxs count = all_to choices (filled_at sch mins maxs count)
