-- How the negation's answer follows from the numbers that came in. Assumes nothing.
use Rattle.std.specs.Prelude.{ℕ, ◌≡◌, true, false, cond, ℤ, pos}
use Rattle.std.proofs.Math.Path.{sym}
use Rattle.std.proofs.Common.{ap, ◌∙◌}
use Rattle.constraint.specs.Kind.{kind_number, kind_of}
use Rattle.constraint.specs.Cases.{operator_of, extra_operand}
use Rattle.constraint.specs.Negation.{negated_kind, negation_of, constraint_of}
use Rattle.constraint.specs.Numbers.{has_operator, has_extra, negated_extra, case_is, operand_is, extra_case_is, extra_operand_is, negated_case_is, negation_refused_lem, negation_limit, negation_else}
use Rattle.seating.specs.Constraints.{negation_numbers, refused_numbers, negated_numbers}

-- a size limit without an operator, one with, and every other kind
module _ (k l t n x : ℕ) (z : ℤ) where
  pub numbers_refused : k ≡ 6 → has_operator x z ≡ false → refused_numbers 9 ≡ negation_numbers (negation_of (constraint_of k l t n x z))
  numbers_refused e h = sym (ap negation_numbers (negation_refused_lem k l t n x z e h))

  pub numbers_limit : k ≡ 6 → has_operator x z ≡ true → negated_numbers 6 l t n 2 (extra_operand (negated_extra (operator_of z))) ≡ negation_numbers (negation_of (constraint_of k l t n x z))
  unfolding kind_of
  numbers_limit e h = sym (ap negation_numbers (negation_limit k l t n x z e h) ∙ rw (case_is t n, operand_is t n, negated_case_is x z h))

  pub numbers_else : (k ≡ 6 → ⊥) → negated_numbers (kind_number (negated_kind (kind_of k))) l t n (cond (has_extra x z) x 0) (cond (has_extra x z) z (pos 0)) ≡ negation_numbers (negation_of (constraint_of k l t n x z))
  numbers_else h = sym (ap negation_numbers (negation_else k l t n x z h) ∙ rw (case_is t n, operand_is t n, extra_case_is x z, extra_operand_is x z))
