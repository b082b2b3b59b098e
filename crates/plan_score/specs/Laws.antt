-- What the score of a plan asks. Definitions only.
use Rattle.std.specs.Prelude.{ℕ, ◌<◌, ◌≤◌, List}
use Rattle.input_data.specs.declared.InputData.{InputData}
use Rattle.seat_counts.specs.Laws.{Reading}

pub record Weighed (d : InputData) (preferences : List ℕ) (powers : ℕ) (plan : List ℕ) : Type 0 where
  pub reading : Reading d.choosers d.choices d.slots preferences plan
  pub most : d.max_preference ≤ 255
  pub table : d.max_preference < powers
