-- The number of a call that is handed a schedule, a plan or a solution beside a day that was read: SPEC 3.2, 3.11, 3.13, 3.21. Definitions only.
use Rattle.std.specs.Prelude.{ℕ, Bool, true, false, not, ◌&&◌, ◌||◌, List, eqb, Float, length}
use Rattle.feasibility.specs.Checks.{parts_number}
use Rattle.input_data.specs.Bytes.{wider}
use Rattle.input_data.specs.Checks.{first_of, day_number, has_bad_preferences}
use Rattle.input_data.specs.Lengths.{plan_length, preferences_length, powers_length}
use Rattle.input_data.specs.declared.Limits.{Limits}
use Rattle.input_data.specs.declared.InputData.{InputData}
use Rattle.input_data.specs.declared.checks.Beside.{Beside}
use Rattle.scheduling.specs.Handed.{schedule_of, not_schedule, outside}
use Rattle.score.specs.declared.Score.{Score}
use Rattle.scoring.specs.Calls.{has_schedule, has_plan, beside_tables, scored, ScoreAnswer, evaluate_lent}
use Rattle.scoring.specs.Solution.{Solution}

-- a solution with a schedule and a plan beside it, which are read where it has them
pub record Parts : Type 0 where
  pub kind : Solution
  pub schedule : List ℕ
  pub plan : List ℕ

abbrev pub parts : Solution → List ℕ → List ℕ → Parts
parts kind sch plan = record { kind = kind; schedule = sch; plan = plan }

-- what a call tests beside the day, where it is handed a plan of so many bytes too
abbrev pub with_plan : Limits → ℕ → Beside → Beside
with_plan l size b = wider (not (eqb size (plan_length l))) b

-- .. and what it tests of the tables of a score
abbrev pub beside_scoring : InputData → List ℕ → ℕ → Beside
beside_scoring d preferences powers = record {
  bad_lengths = not (eqb (length preferences) (preferences_length d)) || not (eqb powers (powers_length d));
  bad_preferences = has_bad_preferences d.max_preference preferences;
  bad_levels = false;
  bad_costs = false;
  bad_asked = false;
}

abbrev pub schedule_handed : Limits → InputData → List ℕ → Beside → ℕ
schedule_handed l d sch b = day_number l d (wider (not_schedule sch) b) (first_of (outside d (schedule_of sch)) 11 0)

abbrev pub parts_handed : Limits → InputData → List ℕ → List ℕ → Beside → ℕ
parts_handed l d sch plan b = day_number l d (wider (not_schedule sch) (with_plan l (length plan) b)) (parts_number true true d (schedule_of sch) plan)

abbrev pub solution_handed : Limits → InputData → Parts → List ℕ → ℕ → ℕ
solution_handed l d s preferences powers =
    day_number l d (wider (has_schedule s.kind && not_schedule s.schedule) (beside_tables l d (has_plan s.kind) preferences powers (length s.plan)))
    (parts_number (has_schedule s.kind) (has_plan s.kind) d (schedule_of s.schedule) s.plan)

-- its score, where no number refuses it
abbrev pub parts_scored : InputData → Parts → Bool → List ℕ → List Float → Score
parts_scored d s greedy preferences powers = scored d s.kind greedy preferences powers (schedule_of s.schedule) s.plan

-- what evaluate gives of it
abbrev pub parts_lent : Limits → List ℕ → Parts → Bool → List ℕ → List Float → ScoreAnswer
parts_lent l day s greedy preferences powers = evaluate_lent l day s.kind s.schedule s.plan greedy preferences powers
