-- Check 9 of one constraint, from constraint.rs: SPEC 3.9, 4.2, 4.3. Definitions only.
use Rattle.std.specs.Prelude.{ℕ, Bool, cond, not, ◌&&◌, ◌||◌, eqb, ltb}
use Rattle.constraint.specs.Cases.{case_of_target, target_operand, case_of_extra}
use Rattle.constraint.specs.declared.Constraint.{Constraint}
use Rattle.constraint.specs.declared.ConstraintType.{ConstraintType}
use Rattle.constraint.specs.declared.ConstraintType.TheVariants.{Invalid, ChoiceIsInSlot, ChoiceIsNotInSlot, ChoicesAreInSameSlot, ChoicesAreNotInSameSlot, ChoicesHaveOffset, SlotHasLimitedSize, SlotContainsChoice, SlotNotContainsChoice, SlotsHaveSameChoices, ChoicesHaveSameChoosers, ChooserIsInChoice, ChooserIsNotInChoice, ChoosersHaveSameChoices, ChoiceContainsChooser, ChoiceNotContainsChooser}

-- the case of a target that names what the left operand names: slot 1, choice 2, chooser 3
abbrev pub left_case : ConstraintType → ℕ
left_case Invalid = 0
left_case ChoiceIsInSlot = 2
left_case ChoiceIsNotInSlot = 2
left_case ChoicesAreInSameSlot = 2
left_case ChoicesAreNotInSameSlot = 2
left_case ChoicesHaveOffset = 2
left_case SlotHasLimitedSize = 1
left_case SlotContainsChoice = 1
left_case SlotNotContainsChoice = 1
left_case SlotsHaveSameChoices = 1
left_case ChoicesHaveSameChoosers = 2
left_case ChooserIsInChoice = 3
left_case ChooserIsNotInChoice = 3
left_case ChoosersHaveSameChoices = 3
left_case ChoiceContainsChooser = 2
left_case ChoiceNotContainsChooser = 2

-- the case of the target that a kind reads: slot 1, choice 2, chooser 3, limit 4
abbrev pub right_case : ConstraintType → ℕ
right_case Invalid = 0
right_case ChoiceIsInSlot = 1
right_case ChoiceIsNotInSlot = 1
right_case ChoicesAreInSameSlot = 2
right_case ChoicesAreNotInSameSlot = 2
right_case ChoicesHaveOffset = 2
right_case SlotHasLimitedSize = 4
right_case SlotContainsChoice = 2
right_case SlotNotContainsChoice = 2
right_case SlotsHaveSameChoices = 1
right_case ChoicesHaveSameChoosers = 2
right_case ChooserIsInChoice = 2
right_case ChooserIsNotInChoice = 2
right_case ChoosersHaveSameChoices = 3
right_case ChoiceContainsChooser = 3
right_case ChoiceNotContainsChooser = 3

-- the case of the extra that a kind reads: offset 1, operator 2; 0 where it reads none
abbrev pub read_case : ConstraintType → ℕ
read_case Invalid = 0
read_case ChoiceIsInSlot = 0
read_case ChoiceIsNotInSlot = 0
read_case ChoicesAreInSameSlot = 0
read_case ChoicesAreNotInSameSlot = 0
read_case ChoicesHaveOffset = 1
read_case SlotHasLimitedSize = 2
read_case SlotContainsChoice = 0
read_case SlotNotContainsChoice = 0
read_case SlotsHaveSameChoices = 0
read_case ChoicesHaveSameChoosers = 0
read_case ChooserIsInChoice = 0
read_case ChooserIsNotInChoice = 0
read_case ChoosersHaveSameChoices = 0
read_case ChoiceContainsChooser = 0
read_case ChoiceNotContainsChooser = 0

-- whether a number is one of the day's slots, choices or choosers; a limit may be any number
abbrev pub is_one_of : ℕ → ℕ → ℕ → ℕ → ℕ → Bool
is_one_of choosers choices slots case n = cond (eqb case 1) (ltb n slots) (cond (eqb case 2) (ltb n choices) (cond (eqb case 3) (ltb n choosers) (eqb case 4)))

unfoldable pub left_fits : ℕ → ℕ → ℕ → Constraint → Bool
left_fits choosers choices slots c = is_one_of choosers choices slots (left_case c.kind) c.left

unfoldable pub right_fits : ℕ → ℕ → ℕ → Constraint → Bool
right_fits choosers choices slots c = eqb (case_of_target c.right) (right_case c.kind) && is_one_of choosers choices slots (right_case c.kind) (target_operand c.right)

unfoldable pub extra_fits : Constraint → Bool
extra_fits c = eqb (read_case c.kind) 0 || eqb (case_of_extra c.extra) (read_case c.kind)

-- 9. an operand is outside the day, or the target or extra is not of the case that the kind reads
abbrev pub bad_operand : ℕ → ℕ → ℕ → Constraint → Bool
bad_operand choosers choices slots c = not (left_fits choosers choices slots c && right_fits choosers choices slots c && extra_fits c)
