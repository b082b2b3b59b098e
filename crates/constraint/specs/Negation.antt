-- Negation of a constraint, from constraint.rs: SPEC 4.1, 4.2, 4.8. Definitions only.
use Rattle.std.specs.Prelude.{ℕ, cond, ℤ}
use Rattle.constraint.specs.Kind.{kind_of, is_size_limit}
use Rattle.constraint.specs.Cases.{negated_operator, target_of, extra_of}
use Rattle.constraint.specs.declared.ConstraintType.{ConstraintType}
use Rattle.constraint.specs.declared.ConstraintType.TheVariants.{Invalid, ChoiceIsInSlot, ChoiceIsNotInSlot, ChoicesAreInSameSlot, ChoicesAreNotInSameSlot, ChoicesHaveOffset, SlotHasLimitedSize, SlotContainsChoice, SlotNotContainsChoice, SlotsHaveSameChoices, ChoicesHaveSameChoosers, ChooserIsInChoice, ChooserIsNotInChoice, ChoosersHaveSameChoices, ChoiceContainsChooser, ChoiceNotContainsChooser}
use Rattle.constraint.specs.declared.ConstraintTarget.{ConstraintTarget}
use Rattle.constraint.specs.declared.ConstraintTarget.TheVariants as Target
use Rattle.constraint.specs.declared.ConstraintExtra.{ConstraintExtra}
use Rattle.constraint.specs.declared.ConstraintExtra.TheVariants as Extra
use Rattle.constraint.specs.declared.Constraint.{Constraint}

-- the number of an answer, and the constraint, or zeros where it is refused
pub record NegationAnswer : Type 0 where
  pub number : ℕ
  pub constraint : Constraint

-- kinds without a negation become Invalid; a size limit keeps its kind
abbrev pub negated_kind : ConstraintType → ConstraintType
negated_kind Invalid = Invalid
negated_kind ChoiceIsInSlot = ChoiceIsNotInSlot
negated_kind ChoiceIsNotInSlot = ChoiceIsInSlot
negated_kind ChoicesAreInSameSlot = ChoicesAreNotInSameSlot
negated_kind ChoicesAreNotInSameSlot = ChoicesAreInSameSlot
negated_kind ChoicesHaveOffset = Invalid
negated_kind SlotHasLimitedSize = SlotHasLimitedSize
negated_kind SlotContainsChoice = SlotNotContainsChoice
negated_kind SlotNotContainsChoice = SlotContainsChoice
negated_kind SlotsHaveSameChoices = Invalid
negated_kind ChoicesHaveSameChoosers = Invalid
negated_kind ChooserIsInChoice = ChooserIsNotInChoice
negated_kind ChooserIsNotInChoice = ChooserIsInChoice
negated_kind ChoosersHaveSameChoices = Invalid
negated_kind ChoiceContainsChooser = ChoiceNotContainsChooser
negated_kind ChoiceNotContainsChooser = ChoiceContainsChooser

abbrev pub constraint : ConstraintType → ℕ → ConstraintTarget → ConstraintExtra → Constraint
constraint k l t x = record { kind = k; left = l; right = t; extra = x }

abbrev pub negation_answer : ℕ → Constraint → NegationAnswer
negation_answer n c = record { number = n; constraint = c }

-- a refusal: its number, and zeros
abbrev pub negation_refused : ℕ → NegationAnswer
negation_refused n = negation_answer n (constraint Invalid 0 Target.None Extra.None)

-- the constraint with its kind negated and another extra; left and target are kept
abbrev pub negated_with : Constraint → ConstraintExtra → NegationAnswer
negated_with c x = negation_answer 0 (constraint (negated_kind c.kind) c.left c.right x)

-- a size limit negates its operator; without one it is refused by 9
abbrev pub size_limit_negation : Constraint → ConstraintExtra → NegationAnswer
size_limit_negation c Extra.None = negation_refused 9
size_limit_negation c (Extra.Offset z) = negation_refused 9
size_limit_negation c (Extra.SlotSizeLimitOp o) = negated_with c (Extra.SlotSizeLimitOp (negated_operator o))

unfoldable pub negation_of : Constraint → NegationAnswer
negation_of c = cond (is_size_limit c.kind) (size_limit_negation c c.extra) (negated_with c c.extra)

-- the constraint that six numbers stand for
abbrev pub constraint_of : ℕ → ℕ → ℕ → ℕ → ℕ → ℤ → Constraint
constraint_of k l t n x z = constraint (kind_of k) l (target_of t n) (extra_of x z)
