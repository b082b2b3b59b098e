-- Which choosers' edges a schedule blocks: SPEC 2.8, 5.3. Definitions only.
use Rattle.std.specs.Prelude.{ℕ, ◌+◌, ◌*◌, Bool, not, ◌&&◌, ◌||◌, List, eqb}
use Rattle.counting.specs.Fold.{some_below}
use Rattle.constraint.specs.Kind.{kind_number}
use Rattle.constraint.specs.Cases.{target_operand}
use Rattle.constraint.specs.declared.Constraint.{Constraint}
use Rattle.input_data.specs.Day.{constraint_at}
use Rattle.input_data.specs.declared.ConstraintList.{ConstraintList}
use Rattle.scheduling.specs.Schedule.{entry_at}

-- choice k is another choice of the slot of choice x, which has one
abbrev pub beside_in : List ℕ → ℕ → ℕ → Bool
beside_in sch x k = not (eqb (entry_at sch x) 0) && eqb (entry_at sch k) (entry_at sch x) && not (eqb k x)

-- ChooserIsInChoice blocks the other choices of its choice's slot; ChooserIsNotInChoice blocks its choice
abbrev pub blocks_choice : ℕ → List ℕ → ℕ → ℕ → Bool
blocks_choice kind sch x k = (eqb kind 65537 && beside_in sch x k) || (eqb kind 65538 && eqb k x)

abbrev pub blocks_by : Constraint → List ℕ → ℕ → ℕ → Bool
blocks_by con sch c k = eqb c con.left && blocks_choice (kind_number con.kind) sch (target_operand con.right) k

abbrev pub blocks_at : ConstraintList → List ℕ → ℕ → ℕ → ℕ → Bool
blocks_at l sch c k j = blocks_by (constraint_at l j) sch c k

-- some assignment constraint blocks chooser c from choice k
unfoldable pub blocked_by : ConstraintList → List ℕ → ℕ → ℕ → Bool
blocked_by l sch c k = some_below 32 l.count (blocks_at l sch c k)

-- the place of chooser c and choice k in a table of blocks
abbrev pub cell : ℕ → ℕ → ℕ
cell c k = 32 * c + k
