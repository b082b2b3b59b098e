-- Edge values read by chooser and choice. Definitions only.
use Rattle.std.specs.Prelude.{ℕ, ◌<◌, ◌≡◌, List, ◌≢◌, ltb, ℤ, length}
use Rattle.std.specs.Int.Signed.{mag}
use Rattle.counting.specs.Fold.{gate}
use Rattle.constraint.specs.Cases.{target_operand}
use Rattle.constraint.specs.Kind.{kind_number}
use Rattle.input_data.specs.Day.{constraint_at}
use Rattle.input_data.specs.declared.InputData.{InputData}
use Rattle.scheduling.specs.Schedule.{entry_at}
use Rattle.mip_flow.specs.Edges.{Seat}
use Rattle.mip_flow.specs.Index.{edge_of}
use Rattle.edge_values.specs.Values.{value_at}
use Rattle.plans.specs.Seatable.{member_of}

-- the value of the edge of chooser c to choice k, and 0 where there is no such edge
unfoldable pub read : List Seat → List ℤ → ℕ → ℕ → ℕ
read seats vs c k = gate (ltb (edge_of seats c k) (length seats)) (mag (value_at vs (edge_of seats c k)))

-- what 15 and 16 say of values by chooser and choice: edges that are named together have one value, a missing one 0
pub record ReadTogether (d : InputData) (sch : List ℕ) (X : ℕ → ℕ → ℕ) : Type 0 where
  pub same : (j : ℕ) → j < d.assignment.count → kind_number (constraint_at d.assignment j).kind ≡ 65539
      → (k : ℕ) → k < d.choices → entry_at sch k ≢ 0
      → X (constraint_at d.assignment j).left k ≡ X (target_operand (constraint_at d.assignment j).right) k
  pub together : (g : ℕ) → g < d.groups → entry_at d.lengths g ≢ 1 → (c : ℕ) → c < d.choosers
      → (i j : ℕ) → i < entry_at d.lengths g → j < entry_at d.lengths g → entry_at sch (member_of d g i) ≢ 0 → entry_at sch (member_of d g j) ≢ 0
      → X c (member_of d g i) ≡ X c (member_of d g j)
