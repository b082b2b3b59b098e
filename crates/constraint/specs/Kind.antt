-- The kinds of constraints and their numbers, from constraint.rs: SPEC 2.14, 4.2, 4.10. Definitions only.
use Rattle.std.specs.Prelude.{ℕ, Bool, cond, not, ◌&&◌, List, [], ◌∷◌, eqb, ltb, leb}
use Rattle.constraint.specs.declared.ConstraintType.{ConstraintType}
use Rattle.constraint.specs.declared.ConstraintType.TheVariants.{Invalid, ChoiceIsInSlot, ChoiceIsNotInSlot, ChoicesAreInSameSlot, ChoicesAreNotInSameSlot, ChoicesHaveOffset, SlotHasLimitedSize, SlotContainsChoice, SlotNotContainsChoice, SlotsHaveSameChoices, ChoicesHaveSameChoosers, ChooserIsInChoice, ChooserIsNotInChoice, ChoosersHaveSameChoices, ChoiceContainsChooser, ChoiceNotContainsChooser}

abbrev pub kind_number : ConstraintType → ℕ
kind_number Invalid = 0
kind_number ChoiceIsInSlot = 1
kind_number ChoiceIsNotInSlot = 2
kind_number ChoicesAreInSameSlot = 3
kind_number ChoicesAreNotInSameSlot = 4
kind_number ChoicesHaveOffset = 5
kind_number SlotHasLimitedSize = 6
kind_number SlotContainsChoice = 7
kind_number SlotNotContainsChoice = 8
kind_number SlotsHaveSameChoices = 9
kind_number ChoicesHaveSameChoosers = 65536
kind_number ChooserIsInChoice = 65537
kind_number ChooserIsNotInChoice = 65538
kind_number ChoosersHaveSameChoices = 65539
kind_number ChoiceContainsChooser = 65540
kind_number ChoiceNotContainsChooser = 65541

abbrev pub kinds : List ConstraintType
kinds = ChoiceIsInSlot ∷ ChoiceIsNotInSlot ∷ ChoicesAreInSameSlot ∷ ChoicesAreNotInSameSlot ∷ ChoicesHaveOffset ∷ SlotHasLimitedSize ∷ SlotContainsChoice ∷ SlotNotContainsChoice ∷ SlotsHaveSameChoices ∷ ChoicesHaveSameChoosers ∷ ChooserIsInChoice ∷ ChooserIsNotInChoice ∷ ChoosersHaveSameChoices ∷ ChoiceContainsChooser ∷ ChoiceNotContainsChooser ∷ []

-- the kind of a list that has the number, or Invalid
abbrev pub kind_in : List ConstraintType → ℕ → ConstraintType
kind_in [] n = Invalid
kind_in (k ∷ ks) n = cond (eqb n (kind_number k)) k (kind_in ks n)

-- a number that is no kind of the Rust reads as Invalid
unfoldable pub kind_of : ℕ → ConstraintType
kind_of n = kind_in kinds n

-- the least number of an assignment constraint, CONSTRAINT_TYPE_DISCRIMINATION_LIMIT
abbrev pub discrimination_limit : ℕ
discrimination_limit = 65536

abbrev pub is_valid : ConstraintType → Bool
is_valid k = not (eqb (kind_number k) 0)

abbrev pub is_scheduling : ConstraintType → Bool
is_scheduling k = ltb (kind_number k) discrimination_limit && is_valid k

abbrev pub is_assignment : ConstraintType → Bool
is_assignment k = leb discrimination_limit (kind_number k) && is_valid k

abbrev pub is_size_limit : ConstraintType → Bool
is_size_limit k = eqb (kind_number k) 6
