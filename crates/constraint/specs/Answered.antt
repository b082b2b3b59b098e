-- What results of the code stand for. Definitions only.
use Rattle.std.specs.Prelude.{Result, Ok, Err}
use Rattle.refusal.specs.Number.{number}
use Rattle.refusal.specs.declared.Refusal.{Refusal}
use Rattle.constraint.specs.Negation.{NegationAnswer, negation_answer, negation_refused}
use Rattle.constraint.specs.declared.SlotSizeLimitOp.{SlotSizeLimitOp}
use Rattle.constraint.specs.declared.UnknownOperator.{UnknownOperator}
use Rattle.constraint.specs.declared.Constraint.{Constraint}
use Rattle.constraint.specs.declared.ConstraintExtra.{ConstraintExtra}
use Rattle.constraint.specs.declared.ConstraintExtra.TheVariants as Extra

-- the operator that was read, or no extra
abbrev pub extra_read : Result SlotSizeLimitOp UnknownOperator → ConstraintExtra
extra_read (Ok op) = Extra.SlotSizeLimitOp op
extra_read (Err n) = Extra.None

-- a negation, or its refusal
abbrev pub negation_answered : Result Constraint Refusal → NegationAnswer
negation_answered (Ok c) = negation_answer 0 c
negation_answered (Err r) = negation_refused (number r)
