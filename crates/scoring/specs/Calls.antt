-- What the verdict's calls and evaluate give: SPEC 3.2, 3.21, 3.24, 10.5, 11.1, 11.2. Definitions only.
use Rattle.std.specs.Prelude.{ℕ, Bool, true, false, cond, not, ◌&&◌, ◌||◌, List, eqb, pos, Float, length}
use Rattle.std.specs.Float.{fin}
use Rattle.assignment.specs.Calls.{beside_plan}
use Rattle.input_data.specs.Bytes.{day_of, lent_number}
use Rattle.input_data.specs.Checks.{first_of, day_number, has_bad_preferences}
use Rattle.input_data.specs.Lengths.{plan_length, preferences_length, powers_length}
use Rattle.input_data.specs.declared.Limits.{Limits}
use Rattle.input_data.specs.declared.InputData.{InputData}
use Rattle.input_data.specs.declared.checks.Beside.{Beside}
use Rattle.scheduling.specs.Handed.{schedule_of, not_schedule, outside, kept_of}
use Rattle.scheduling.specs.declared.Scheduling.{Scheduling}
use Rattle.score.specs.Order.{infinite_twice}
use Rattle.score.specs.declared.Score.{Score}
use Rattle.satisfies_constraints.specs.Constraints.{scheduling_met, assignment_met}
use Rattle.feasibility.specs.Checks.{parts_number}
use Rattle.feasibility.specs.Feasible.{schedule_feasible, plan_feasible}
use Rattle.plan_score.specs.Evaluate.{evaluated}
use Rattle.scoring.specs.declared.VerdictAnswer.{VerdictAnswer}
use Rattle.scoring.specs.Solution.{Solution}

abbrev pub verdict : ℕ → Bool → VerdictAnswer
verdict n b = record { number = n; holds = b }

-- the number, and the answer or no
abbrev pub verdict_of : ℕ → Bool → VerdictAnswer
verdict_of n b = cond (eqb n 0) (verdict 0 b) (verdict n false)

-- ---- a schedule

abbrev pub beside_none : Beside
beside_none = record { bad_lengths = false; bad_preferences = false; bad_levels = false; bad_costs = false; bad_asked = false }

unfoldable pub schedule_number : Limits → InputData → Scheduling → ℕ
schedule_number l d sch = day_number l d beside_none (first_of (outside d sch) 11 0)

unfoldable pub schedule_answer : Limits → InputData → Scheduling → VerdictAnswer
schedule_answer l d sch = verdict_of (schedule_number l d sch) (schedule_feasible d (kept_of d sch))

-- ---- a schedule and a plan

unfoldable pub verdict_number : Limits → InputData → Scheduling → List ℕ → ℕ
verdict_number l d sch plan = day_number l d (beside_plan l (length plan) false false) (parts_number true true d sch plan)

unfoldable pub plan_answer : Limits → InputData → Scheduling → List ℕ → VerdictAnswer
plan_answer l d sch plan = verdict_of (verdict_number l d sch plan) (plan_feasible d (kept_of d sch) plan)

-- ---- a score

-- which parts a solution has
abbrev pub has_schedule : Solution → Bool
has_schedule Solution.Invalid = false
has_schedule Solution.Scheduling = true
has_schedule Solution.Complete = true

abbrev pub has_plan : Solution → Bool
has_plan Solution.Invalid = false
has_plan Solution.Scheduling = false
has_plan Solution.Complete = true

-- 2. a table has not its length, or the plan, if there is one
abbrev pub wrong_tables : Limits → InputData → Bool → ℕ → ℕ → ℕ → Bool
wrong_tables l d there preferences powers plan =
    not (eqb preferences (preferences_length d)) || not (eqb powers (powers_length d)) || (there && not (eqb plan (plan_length l)))

abbrev pub beside_tables : Limits → InputData → Bool → List ℕ → ℕ → ℕ → Beside
beside_tables l d there preferences powers plan = record {
  bad_lengths = wrong_tables l d there (length preferences) powers plan;
  bad_preferences = has_bad_preferences d.max_preference preferences;
  bad_levels = false;
  bad_costs = false;
  bad_asked = false;
}

unfoldable pub evaluate_number : Limits → InputData → Solution → Scheduling → List ℕ → List ℕ → ℕ → ℕ
evaluate_number l d kind sch plan preferences powers =
    day_number l d (beside_tables l d (has_plan kind) preferences powers (length plan)) (parts_number (has_schedule kind) (has_plan kind) d sch plan)

-- anything without a plan scores infinite twice
abbrev pub scored : InputData → Solution → Bool → List ℕ → List Float → Scheduling → List ℕ → Score
scored d kind greedy preferences powers sch plan = cond (has_plan kind) (evaluated d greedy preferences powers (kept_of d sch) plan) infinite_twice

-- the number of the answer, and the score, or zeros where refused
pub record ScoreAnswer : Type 0 where
  pub number : ℕ
  pub score : Score

abbrev pub zero_score : Score
zero_score = record { major = fin false 0 (pos 0); minor = fin false 0 (pos 0) }

abbrev pub score_answer : ℕ → Score → ScoreAnswer
score_answer n s = record { number = n; score = s }

-- the number, and the score or zeros
abbrev pub score_or : ℕ → Score → ScoreAnswer
score_or n s = cond (eqb n 0) (score_answer 0 s) (score_answer n zero_score)

unfoldable pub evaluate_answer : Limits → InputData → Solution → Scheduling → List ℕ → Bool → List ℕ → List Float → ScoreAnswer
evaluate_answer l d kind sch plan greedy preferences powers =
    score_or (evaluate_number l d kind sch plan preferences (length powers)) (scored d kind greedy preferences powers sch plan)

-- ---- the calls, on lent bytes: the same answers, with 2 where bytes have not their length

abbrev pub schedule_lent_number : Limits → List ℕ → List ℕ → ℕ
schedule_lent_number l day sch = lent_number l day (not_schedule sch) (schedule_number l (day_of day) (schedule_of sch))

abbrev pub verdict_lent_number : Limits → List ℕ → List ℕ → List ℕ → ℕ
verdict_lent_number l day sch plan = lent_number l day (not_schedule sch) (verdict_number l (day_of day) (schedule_of sch) plan)

unfoldable pub scheduling_lent : Limits → List ℕ → List ℕ → VerdictAnswer
scheduling_lent l day sch =
    verdict_of (schedule_lent_number l day sch)
    (scheduling_met (day_of day) (kept_of (day_of day) (schedule_of sch)))

unfoldable pub schedule_lent : Limits → List ℕ → List ℕ → VerdictAnswer
schedule_lent l day sch =
    verdict_of (schedule_lent_number l day sch)
    (schedule_feasible (day_of day) (kept_of (day_of day) (schedule_of sch)))

unfoldable pub assignment_lent : Limits → List ℕ → List ℕ → List ℕ → VerdictAnswer
assignment_lent l day sch plan =
    verdict_of (verdict_lent_number l day sch plan)
    (assignment_met (day_of day) (kept_of (day_of day) (schedule_of sch)) plan)

unfoldable pub plan_lent : Limits → List ℕ → List ℕ → List ℕ → VerdictAnswer
plan_lent l day sch plan =
    verdict_of (verdict_lent_number l day sch plan)
    (plan_feasible (day_of day) (kept_of (day_of day) (schedule_of sch)) plan)

-- a schedule is looked at where the solution has one
abbrev pub evaluate_lent_number : Limits → List ℕ → Solution → List ℕ → List ℕ → List ℕ → ℕ → ℕ
evaluate_lent_number l day kind sch plan preferences powers =
    lent_number l day (has_schedule kind && not_schedule sch) (evaluate_number l (day_of day) kind (schedule_of sch) plan preferences powers)

unfoldable pub evaluate_lent : Limits → List ℕ → Solution → List ℕ → List ℕ → Bool → List ℕ → List Float → ScoreAnswer
evaluate_lent l day kind sch plan greedy preferences powers =
    score_or (evaluate_lent_number l day kind sch plan preferences (length powers)) (scored (day_of day) kind greedy preferences powers (schedule_of sch) plan)
