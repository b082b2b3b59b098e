-- The negation's answer in numbers: SPEC 2.14, 4.8. Definitions only.
use Rattle.std.specs.Prelude.{ℕ, cond, ℤ}
use Rattle.constraint.specs.Kind.{kind_number}
use Rattle.constraint.specs.Cases.{case_of_target, target_operand, case_of_extra, extra_operand}
use Rattle.constraint.specs.Negation.{NegationAnswer, negation_refused}
use Rattle.constraint.specs.Numbers.{is_target}
use Rattle.seating.specs.declared.constraints.NegationNumbers.{NegationNumbers}

-- number and values of each case
abbrev pub negation_numbers : NegationAnswer → NegationNumbers
negation_numbers a = record {
  number = a.number;
  kind = kind_number a.constraint.kind;
  left = a.constraint.left;
  target_case = case_of_target a.constraint.right;
  target = target_operand a.constraint.right;
  extra_case = case_of_extra a.constraint.extra;
  extra = extra_operand a.constraint.extra;
}

abbrev pub refused_numbers : ℕ → NegationNumbers
refused_numbers n = negation_numbers (negation_refused n)

-- an answer with another kind and extra; left and target are kept
abbrev pub negated_numbers : ℕ → ℕ → ℕ → ℕ → ℕ → ℤ → NegationNumbers
negated_numbers k l t n x z = record {
  number = 0;
  kind = k;
  left = l;
  target_case = cond (is_target t) t 0;
  target = cond (is_target t) n 0;
  extra_case = x;
  extra = z;
}
