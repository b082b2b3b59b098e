-- The premises of the feasibility rule: SPEC 12.7. Definitions only.
--
-- An unscheduled choice could break three tests of is_feasible: ChooserIsInChoice, a min above 0 and
-- ChoicesHaveSameChoosers. The Rust passes over unscheduled choices in all three, so that the rule needs
-- no premise about them (SPEC 12.8). ChoicesHaveSameChoosers of one choice with itself holds always.
use Rattle.std.specs.Prelude.{ℕ, ◌<◌, ◌≡◌, true, List, ◌≢◌}
use Rattle.constraint.specs.Cases.{target_operand}
use Rattle.constraint.specs.Kind.{kind_number}
use Rattle.input_data.specs.Day.{constraint_at}
use Rattle.input_data.specs.declared.InputData.{InputData}
use Rattle.plans.specs.Seatable.{member_of}
use Rattle.satisfies_constraints.specs.Constraints.{scheduling_met}
use Rattle.scheduling.specs.Schedule.{entry_at}

-- two choices are members of one dependent group
pub record ShareGroup (d : InputData) (a b : ℕ) : Type 0 where
  pub group : ℕ
  pub left : ℕ
  pub right : ℕ
  pub is_group : group < d.groups
  pub left_in : left < entry_at d.lengths group
  pub right_in : right < entry_at d.lengths group
  pub left_is : member_of d group left ≡ a
  pub right_is : member_of d group right ≡ b

-- any two different scheduled choices that ChoicesHaveSameChoosers ties share a dependent group
pub record Tied (d : InputData) (sch : List ℕ) : Type 0 where
  pub shares : (j : ℕ) → j < d.assignment.count → kind_number (constraint_at d.assignment j).kind ≡ 65536
      → (constraint_at d.assignment j).left ≢ target_operand (constraint_at d.assignment j).right
      → entry_at sch (constraint_at d.assignment j).left ≢ 0 → entry_at sch (target_operand (constraint_at d.assignment j).right) ≢ 0
      → ShareGroup d (constraint_at d.assignment j).left (target_operand (constraint_at d.assignment j).right)

-- the schedule meets every scheduling constraint, and ties are groups
pub record Premises (d : InputData) (sch : List ℕ) : Type 0 where
  pub scheduling : scheduling_met d sch ≡ true
  pub tied : Tied d sch
