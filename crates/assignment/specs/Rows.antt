-- The seats of a plan and its day. Assumes nothing.
use Rattle.std.specs.Prelude.{ℕ, ◌≡◌, List}
use Rattle.input_data.specs.declared.InputData.{InputData}
use Rattle.assignment.specs.declared.rows.Seats.{Seats}

-- they are those of the plan, in rows of the day's slots
pub record SeatsOf (d : InputData) (plan : List ℕ) (s : Seats) : Type 0 where
  pub choosers : s.choosers ≡ d.choosers
  pub choices : s.choices ≡ d.choices
  pub slots : s.slots ≡ d.slots
  pub bytes : s.plan.now ≡ plan
