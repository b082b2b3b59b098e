-- What check 9 leaves of a constraint: its operands are of the day. Assumes nothing.
use Rattle.std.specs.Prelude.{ℕ, ◌<◌, ◌≡◌, refl, true, false, ◌&&◌, eqb, ◌⊎◌, ◌≢◌}
use Rattle.std.proofs.Common.{sym, ap, ◌∙◌, inl, inr}
use borrow.Author.Tests.{eqb-true, ne_eqb, ltb-true, not-false}
use Rattle.counting.specs.Tests.{and_split}
use Rattle.constraint.specs.Kind.{kind_number, kind_of}
use Rattle.constraint.specs.Cases.{case_of_target, target_operand, case_of_extra}
use Rattle.constraint.specs.declared.Constraint.{Constraint}
use Rattle.constraint.specs.declared.ConstraintType.{ConstraintType}
use Rattle.constraint.specs.declared.ConstraintType.TheVariants.{Invalid, ChoiceIsInSlot, ChoiceIsNotInSlot, ChoicesAreInSameSlot, ChoicesAreNotInSameSlot, ChoicesHaveOffset, SlotHasLimitedSize, SlotContainsChoice, SlotNotContainsChoice, SlotsHaveSameChoices, ChoicesHaveSameChoosers, ChooserIsInChoice, ChooserIsNotInChoice, ChoosersHaveSameChoices, ChoiceContainsChooser, ChoiceNotContainsChooser}
use Rattle.input_data.specs.Operands.{left_case, right_case, read_case, is_one_of, left_fits, right_fits, extra_fits, bad_operand}

-- two kinds do not share a number
pub kind_of_number : (k : ConstraintType) → kind_of (kind_number k) ≡ k
unfolding kind_of
kind_of_number Invalid = refl
kind_of_number ChoiceIsInSlot = refl
kind_of_number ChoiceIsNotInSlot = refl
kind_of_number ChoicesAreInSameSlot = refl
kind_of_number ChoicesAreNotInSameSlot = refl
kind_of_number ChoicesHaveOffset = refl
kind_of_number SlotHasLimitedSize = refl
kind_of_number SlotContainsChoice = refl
kind_of_number SlotNotContainsChoice = refl
kind_of_number SlotsHaveSameChoices = refl
kind_of_number ChoicesHaveSameChoosers = refl
kind_of_number ChooserIsInChoice = refl
kind_of_number ChooserIsNotInChoice = refl
kind_of_number ChoosersHaveSameChoices = refl
kind_of_number ChoiceContainsChooser = refl
kind_of_number ChoiceNotContainsChooser = refl

-- a kind that says of one chooser and one choice that he is in it, or is not
abbrev pub OfChooserChoice : ConstraintType → Type 0
OfChooserChoice k = (kind_number k ≡ 65537) ⊎ (kind_number k ≡ 65538)

cases : (k : ConstraintType) → OfChooserChoice k → (left_case k ≡ 3) × (right_case k ≡ 2)
unfolding kind_of
cases k (inl e) = let p : k ≡ ChooserIsInChoice = sym (kind_of_number k) ∙ ap kind_of e in rw p (refl, refl)
cases k (inr e) = let p : k ≡ ChooserIsNotInChoice = sym (kind_of_number k) ∙ ap kind_of e in rw p (refl, refl)

module _ (choosers choices slots : ℕ) (c : Constraint) (fine : bad_operand choosers choices slots c ≡ false) where
  parts : ((left_fits choosers choices slots c && right_fits choosers choices slots c) ≡ true) × (extra_fits c ≡ true)
  parts = and_split (not-false _ fine)

  fits : (left_fits choosers choices slots c ≡ true) × (right_fits choosers choices slots c ≡ true)
  fits = and_split parts.0

  -- the extra is of the case that the kind reads, where it reads one
  pub extra_is_case : read_case c.kind ≢ 0 → case_of_extra c.extra ≡ read_case c.kind
  unfolding extra_fits
  extra_is_case n = eqb-true _ _ (rw (ne_eqb (read_case c.kind) 0 n) at parts.1)

  -- for every kind: left is one of what the kind names by it ..
  pub left_is : is_one_of choosers choices slots (left_case c.kind) c.left ≡ true
  unfolding left_fits
  left_is = fits.0

  right_fits_lem : (eqb (case_of_target c.right) (right_case c.kind) ≡ true) × (is_one_of choosers choices slots (right_case c.kind) (target_operand c.right) ≡ true)
  unfolding right_fits
  right_fits_lem = and_split fits.1

  -- .. and so is the target, which is of the case that the kind reads
  pub right_is_case : case_of_target c.right ≡ right_case c.kind
  right_is_case = eqb-true _ _ right_fits_lem.0

  pub right_is : is_one_of choosers choices slots (right_case c.kind) (target_operand c.right) ≡ true
  right_is = right_fits_lem.1

  pub left_chooser : OfChooserChoice c.kind → c.left < choosers
  left_chooser k = ltb-true _ _ (rw (cases c.kind k).0 at left_is)

  pub right_below : OfChooserChoice c.kind → target_operand c.right < choices
  right_below k = ltb-true _ _ (rw (cases c.kind k).1 at right_is)
