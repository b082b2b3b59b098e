-- What the roster calls give and leave: SPEC 3.2, 3.21, 8.3 to 8.5. Definitions only.
use Rattle.std.specs.Prelude.{ℕ, ◌≡◌, Bool, false, cond, List, eqb, ltb, leb, length}
use Rattle.counting.specs.Written.{written}
use Rattle.input_data.specs.Bytes.{day_of, lent_number}
use Rattle.input_data.specs.Lengths.{roster_length}
use Rattle.input_data.specs.declared.Limits.{Limits}
use Rattle.input_data.specs.declared.InputData.{InputData}
use Rattle.assignment.specs.Plan.{choosers_ordered, choices_ordered}
use Rattle.rosters.specs.declared.RosterAnswer.{RosterAnswer}
use Rattle.assignment.specs.Calls.{plan_number}

abbrev pub short_roster : Limits → ℕ → Bool
short_roster l size = ltb size (roster_length l)

-- the choosers of choice k
abbrev pub choosers_number : Limits → InputData → List ℕ → ℕ → ℕ → ℕ
choosers_number l d plan k size = plan_number l d plan (short_roster l size) (leb d.choices k)

-- the choices of chooser c
abbrev pub choices_number : Limits → InputData → List ℕ → ℕ → ℕ → ℕ
choices_number l d plan c size = plan_number l d plan (short_roster l size) (leb d.choosers c)

abbrev pub roster_answer : ℕ → ℕ → RosterAnswer
roster_answer n m = record { number = n; length = m }

-- what a call leaves that gives number n: how many entries there are, and these in the front of the roster
pub record RosterLeaves (n : ℕ) (list before after : List ℕ) (r : RosterAnswer) : Type 0 where
  pub gives : r ≡ cond (eqb n 0) (roster_answer 0 (length list)) (roster_answer n 0)
  pub leaves : after ≡ cond (eqb n 0) (written before 0 list) before

-- choosers_ordered on a lent day
abbrev pub ChoosersOrdered : Limits → List ℕ → List ℕ → ℕ → List ℕ → List ℕ → RosterAnswer → Type 0
ChoosersOrdered l day plan k before after r =
    RosterLeaves
    (lent_number l day false (choosers_number l (day_of day) plan k (length before)))
    (choosers_ordered (day_of day).choosers (day_of day).slots plan k)
    before after r

-- choices_ordered on a lent day
abbrev pub ChoicesOrdered : Limits → List ℕ → List ℕ → ℕ → List ℕ → List ℕ → RosterAnswer → Type 0
ChoicesOrdered l day plan c before after r =
    RosterLeaves
    (lent_number l day false (choices_number l (day_of day) plan c (length before)))
    (choices_ordered (day_of day).choices (day_of day).slots plan c)
    before after r
