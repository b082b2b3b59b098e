-- Scheduling::is_feasible and Scoring::is_feasible, on day, schedule and plan: SPEC 10.1 to 10.4. Definitions only.
use Rattle.std.specs.Prelude.{ℕ, Bool, ◌&&◌, ◌||◌, List, leb}
use Rattle.assignment.specs.Calls.{seats}
use Rattle.assignment.specs.Plan.{is_scheduled}
use Rattle.counting.specs.Fold.{all_to}
use Rattle.input_data.specs.Day.{min_at, max_at, optional_at}
use Rattle.input_data.specs.declared.InputData.{InputData}
use Rattle.satisfies_constraints.specs.Constraints.{scheduling_met, assignment_met}
use Rattle.scheduling.specs.Schedule.{entry_at}
use Rattle.seat_counts.specs.Seats.{none_twice, part_count, all_filled}
use Rattle.slot_lists.specs.Sums.{weighed}

-- ---- a schedule

-- a choice without the optional mark has a slot
abbrev pub is_placed : InputData → List ℕ → ℕ → Bool
is_placed d sch k = is_scheduled sch k || optional_at d k

unfoldable pub all_placed : InputData → List ℕ → Bool
all_placed d sch = all_to d.choices (is_placed d sch)

-- the choosers are from the sum of min to the sum of max of a slot
abbrev pub seats_all : InputData → List ℕ → ℕ → Bool
seats_all d sch s = leb (weighed (min_at d) (entry_at sch) d.choices s) d.choosers && leb d.choosers (weighed (max_at d) (entry_at sch) d.choices s)

unfoldable pub all_seated : InputData → List ℕ → Bool
all_seated d sch = all_to d.slots (seats_all d sch)

-- Scheduling::is_feasible
unfoldable pub schedule_feasible : InputData → List ℕ → Bool
schedule_feasible d sch = all_placed d sch && all_seated d sch && scheduling_met d sch

-- ---- a plan

-- from min to max seats for each choice that has a slot
abbrev pub choices_filled : InputData → List ℕ → List ℕ → Bool
choices_filled d sch plan = all_filled d.choices sch d.mins d.maxs (part_count (seats d) plan)

-- Scoring::is_feasible: both lists of constraints, no chooser in a slot twice, and from min to max seats for each choice that has a slot
unfoldable pub plan_feasible : InputData → List ℕ → List ℕ → Bool
plan_feasible d sch plan =
    scheduling_met d sch && assignment_met d sch plan
    && none_twice d.choosers d.slots sch plan
    && choices_filled d sch plan
