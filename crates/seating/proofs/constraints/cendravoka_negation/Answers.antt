use Rattle.std.proofs.Common.{◌∙◌, ap, w32}
use Rattle.counting.specs.Tests.{so}
use Rattle.constraint.specs.Cases.{operator_of, extra_operand}
use Rattle.constraint.specs.Numbers.{has_operator, negated_extra}
use Rattle.seating.specs.Constraints.{negated_numbers}
use Rattle.seating.specs.ConstraintsLaws.{numbers_refused, numbers_limit, numbers_else}
use Rattle.counting.specs.Signed.{back}
use Rattle.seating.proofs.constraints.cendravoka_negation.Goals as goal

pub returns-then-has_operator : goal.returns-then-has_operator
returns-then-has_operator c = let a = c.args in
    let b = back w32 a.extra c.ranges.extra.sfits in
    c.negated_with.ensures
    ∙ ap (negated_numbers 6 a.left a.target_case a.target 2) (back w32 c.negated_operator-operator.result c.negated_operator-operator.type_inv ∙ c.negated_operator-operator.ensures ∙ ap (λ v. extra_operand (negated_extra (operator_of v))) b)
    ∙ numbers_limit a.kind a.left a.target_case a.target a.extra_case a.extra c.if-kind-eq6.true (so (c.has_operator.ensures ∙ ap (has_operator a.extra_case) b) c.if-has_operator.true)

pub returns-then-kind-eq6 : goal.returns-then-kind-eq6
returns-then-kind-eq6 c = let a = c.args in
    let b = back w32 a.extra c.ranges.extra.sfits in
    c.refuse.ensures ∙ numbers_refused a.kind a.left a.target_case a.target a.extra_case a.extra c.if-kind-eq6.true (so (c.has_operator.ensures ∙ ap (has_operator a.extra_case) b) c.if-has_operator.false)

pub returns : goal.returns
returns c = let a = c.args in
    let b = back w32 a.extra c.ranges.extra.sfits in
    c.negated_with-2.ensures
    ∙ rw (back w32 c.keep-2.result c.keep-2.type_inv, c.keep-2.ensures, c.keep.ensures, c.negated_kind.ensures, c.has_extra-there.ensures, b)
    (numbers_else a.kind a.left a.target_case a.target a.extra_case a.extra c.if-kind-eq6.false)
