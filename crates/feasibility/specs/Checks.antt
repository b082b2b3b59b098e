-- 11 and 13 of a schedule and a plan: SPEC 3.11, 3.13. Definitions only.
use Rattle.std.specs.Prelude.{ℕ, Bool, ◌&&◌, List}
use Rattle.assignment.specs.Calls.{seats}
use Rattle.assignment.specs.Plan.{bad_plan_for}
use Rattle.input_data.specs.Checks.{first_of}
use Rattle.input_data.specs.declared.InputData.{InputData}
use Rattle.scheduling.specs.Handed.{outside}
use Rattle.scheduling.specs.declared.Scheduling.{Scheduling}

-- 13 in full
abbrev pub bad_seats : InputData → Scheduling → List ℕ → Bool
bad_seats d sch plan = bad_plan_for d.choices (seats d) sch.entries plan

-- 11 and 13 of the parts that are there
unfoldable pub parts_number : Bool → Bool → InputData → Scheduling → List ℕ → ℕ
parts_number schedule seated d sch plan = first_of (schedule && outside d sch) 11 (first_of (seated && bad_seats d sch plan) 13 0)
