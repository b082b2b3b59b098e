-- The number of a call that is handed a plan, and what the calls about a chooser give: SPEC 3.2, 3.24, 8.2, 8.6. Definitions only.
use Rattle.std.specs.Prelude.{ℕ, ◌*◌, Bool, false, cond, not, ◌||◌, List, eqb, leb, length}
use Rattle.input_data.specs.Bytes.{day_of, lent_number}
use Rattle.input_data.specs.Checks.{first_of, day_number}
use Rattle.input_data.specs.Lengths.{plan_length}
use Rattle.input_data.specs.declared.Limits.{Limits}
use Rattle.input_data.specs.declared.InputData.{InputData}
use Rattle.input_data.specs.declared.checks.Beside.{Beside}
use Rattle.assignment.specs.Plan.{choice_of, bad_plan, is_in_choice}
use Rattle.assignment.specs.declared.InChoiceAnswer.{InChoiceAnswer}
use Rattle.assignment.specs.declared.ChoiceAnswer.{ChoiceAnswer}

-- what these calls test beside the day: the plan's length, a roster that is too short, what they are asked about
abbrev pub beside_plan : Limits → ℕ → Bool → Bool → Beside
beside_plan l size short asked = record { bad_lengths = not (eqb size (plan_length l)) || short; bad_preferences = false; bad_levels = false; bad_costs = false; bad_asked = asked }

abbrev pub seats : InputData → ℕ
seats d = d.choosers * d.slots

-- these calls have no schedule: of 13 they test the first half
unfoldable pub plan_number : Limits → InputData → List ℕ → Bool → Bool → ℕ
plan_number l d plan short asked = day_number l d (beside_plan l (length plan) short asked) (first_of (bad_plan d.choices (seats d) plan) 13 0)

-- ---- a chooser and a choice, a chooser and a slot

abbrev pub in_choice_number : Limits → InputData → List ℕ → ℕ → ℕ → ℕ
in_choice_number l d plan c k = plan_number l d plan false (leb d.choosers c || leb d.choices k)

abbrev pub in_choice : ℕ → Bool → InChoiceAnswer
in_choice n b = record { number = n; found = b }

-- the answer of a call that gives number n
abbrev pub in_choice_answer : ℕ → Bool → InChoiceAnswer
in_choice_answer n b = cond (eqb n 0) (in_choice 0 b) (in_choice n false)

-- is_in_choice on a lent day
unfoldable pub in_choice_lent : Limits → List ℕ → List ℕ → ℕ → ℕ → InChoiceAnswer
in_choice_lent l day plan c k = in_choice_answer (lent_number l day false (in_choice_number l (day_of day) plan c k)) (is_in_choice (day_of day).slots plan c k)

abbrev pub choice_number : Limits → InputData → List ℕ → ℕ → ℕ → ℕ
choice_number l d plan c s = plan_number l d plan false (leb d.choosers c || leb d.slots s)

abbrev pub choice : ℕ → ℕ → ChoiceAnswer
choice n k = record { number = n; choice = k }

abbrev pub choice_answer : ℕ → ℕ → ChoiceAnswer
choice_answer n k = cond (eqb n 0) (choice 0 k) (choice n 0)

-- choice_of on a lent day
unfoldable pub choice_lent : Limits → List ℕ → List ℕ → ℕ → ℕ → ChoiceAnswer
choice_lent l day plan c s = choice_answer (lent_number l day false (choice_number l (day_of day) plan c s)) (choice_of (day_of day).slots plan c s)
