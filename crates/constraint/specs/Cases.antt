-- Operators, targets and extras, and the numbers by which they cross a boundary: SPEC 2.14, 4.6, 4.9. Definitions only.
use Rattle.std.specs.Prelude.{ℕ, cond, List, [], ◌∷◌, eqb, ℤ, pos, negsuc}
use Rattle.counting.specs.Ints.{eq_z}
use Rattle.constraint.specs.declared.SlotSizeLimitOp.{SlotSizeLimitOp}
use Rattle.constraint.specs.declared.SlotSizeLimitOp.TheVariants.{Eq, Gt, Geq, Neq, Leq, Lt}
use Rattle.constraint.specs.declared.ConstraintTarget.{ConstraintTarget}
use Rattle.constraint.specs.declared.ConstraintTarget.TheVariants as Target
use Rattle.constraint.specs.declared.ConstraintExtra.{ConstraintExtra}
use Rattle.constraint.specs.declared.ConstraintExtra.TheVariants as Extra

-- the operators' numbers, from constraint.rs
abbrev pub operator_number : SlotSizeLimitOp → ℤ
operator_number Eq = pos 1
operator_number Gt = pos 2
operator_number Geq = pos 3
operator_number Neq = negsuc 0
operator_number Leq = negsuc 1
operator_number Lt = negsuc 2

abbrev pub negated_operator : SlotSizeLimitOp → SlotSizeLimitOp
negated_operator Eq = Neq
negated_operator Gt = Leq
negated_operator Geq = Lt
negated_operator Neq = Eq
negated_operator Leq = Gt
negated_operator Lt = Geq

abbrev pub operators : List SlotSizeLimitOp
operators = Eq ∷ Gt ∷ Geq ∷ Neq ∷ Leq ∷ Lt ∷ []

-- the operator of a list that has the number, or no extra
abbrev pub operator_in : List SlotSizeLimitOp → ℤ → ConstraintExtra
operator_in [] z = Extra.None
operator_in (o ∷ os) z = cond (eq_z z (operator_number o)) (Extra.SlotSizeLimitOp o) (operator_in os z)

unfoldable pub operator_of : ℤ → ConstraintExtra
unfolding eq_z
operator_of z = operator_in operators z

-- none 0, slot 1, choice 2, chooser 3, limit 4
abbrev pub case_of_target : ConstraintTarget → ℕ
case_of_target Target.None = 0
case_of_target (Target.Slot n) = 1
case_of_target (Target.Choice n) = 2
case_of_target (Target.Chooser n) = 3
case_of_target (Target.Limit n) = 4

abbrev pub target_operand : ConstraintTarget → ℕ
target_operand Target.None = 0
target_operand (Target.Slot n) = n
target_operand (Target.Choice n) = n
target_operand (Target.Chooser n) = n
target_operand (Target.Limit n) = n

-- any other case reads as none
abbrev pub target_of : ℕ → ℕ → ConstraintTarget
target_of c n = cond (eqb c 1) (Target.Slot n) (cond (eqb c 2) (Target.Choice n) (cond (eqb c 3) (Target.Chooser n) (cond (eqb c 4) (Target.Limit n) Target.None)))

-- none 0, offset 1, operator 2
abbrev pub case_of_extra : ConstraintExtra → ℕ
case_of_extra Extra.None = 0
case_of_extra (Extra.Offset z) = 1
case_of_extra (Extra.SlotSizeLimitOp o) = 2

abbrev pub extra_operand : ConstraintExtra → ℤ
extra_operand Extra.None = pos 0
extra_operand (Extra.Offset z) = z
extra_operand (Extra.SlotSizeLimitOp o) = operator_number o

-- any other case, and a number that is no operator, reads as none
abbrev pub extra_of : ℕ → ℤ → ConstraintExtra
extra_of c z = cond (eqb c 1) (Extra.Offset z) (cond (eqb c 2) (operator_of z) Extra.None)
