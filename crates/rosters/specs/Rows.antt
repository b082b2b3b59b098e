-- Either roster, row by row: what the walk goes through. Definitions only.
use Rattle.std.specs.Prelude.{ℕ, ◌*◌, Bool, List, false, leb, length}
use Rattle.input_data.specs.Bytes.{day_of, lent_number}
use Rattle.input_data.specs.declared.Limits.{Limits}
use Rattle.input_data.specs.declared.InputData.{InputData}
use Rattle.assignment.specs.Plan.{row, choosers_ordered, choices_ordered}
use Rattle.assignment.specs.Calls.{plan_number}
use Rattle.rosters.specs.Calls.{short_roster, RosterLeaves}
use Rattle.rosters.specs.declared.RosterAnswer.{RosterAnswer}
use Rattle.rosters.specs.declared.roster.Roster.{Roster}
use Rattle.rosters.specs.declared.roster.Roster.TheVariants.{ChoosersOf, ChoicesOf}
use Rattle.rosters.specs.declared.roster.Row.{Row}

-- 9. the choice or the chooser is not of the day
abbrev pub is_outside : Roster → InputData → Bool
is_outside (ChoosersOf k) d = leb d.choices k
is_outside (ChoicesOf c) d = leb d.choosers c

-- the row of the i-th of them
abbrev pub row_of : Roster → ℕ → ℕ → Row
row_of (ChoosersOf k) slots i = record { base = i * slots; choice = k; value = i }
row_of (ChoicesOf c) slots i = record { base = c * slots; choice = i; value = i }

-- what a row adds
abbrev pub run_of : ℕ → List ℕ → Row → List ℕ
run_of slots plan r = row slots plan r.base r.choice r.value

abbrev pub roster_of : Roster → InputData → List ℕ → List ℕ
roster_of (ChoosersOf k) d plan = choosers_ordered d.choosers d.slots plan k
roster_of (ChoicesOf c) d plan = choices_ordered d.choices d.slots plan c

abbrev pub roster_number : Limits → InputData → List ℕ → Roster → ℕ → ℕ
roster_number l d plan of size = plan_number l d plan (short_roster l size) (is_outside of d)

-- what the call leaves on a lent day
pub record Rostered (l : Limits) (day plan : List ℕ) (of : Roster) (before after : List ℕ) (r : RosterAnswer) : Type 0 where
  pub leaves : RosterLeaves (lent_number l day false (roster_number l (day_of day) plan of (length before))) (roster_of of (day_of day) plan) before after r
