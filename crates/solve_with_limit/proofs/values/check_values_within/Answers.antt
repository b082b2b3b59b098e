use Rattle.std.proofs.Common.{refl}
use Rattle.solve_with_limit.specs.Checking.{plan_room, can_check, can_decode, checked_refused, checked_done}
use Rattle.solve_with_limit.proofs.values.check_values_within.Goals as goal

pub check_edge_values-requires : goal.check_edge_values-requires
check_edge_values-requires c = can_check _ _ _ c.args.fixed.within _ _ c.short_values-short.ensures c.in_ok-model.ensures

pub returns-in_err-check_edge_values : goal.returns-in_err-check_edge_values
returns-in_err-check_edge_values c = checked_refused _ _ _ c.args.fixed.within _ _ c.short_values-short.ensures c.in_ok-model.ensures _ _ c.from_residual-in_err-check_edge_values.ensures.1 c.in_err-check_edge_values.ensures refl

pub invariant_of-accepted : goal.invariant_of-accepted
invariant_of-accepted c = record { decoding = can_decode _ _ _ c.args.fixed.within _ _ c.short_values-short.ensures c.in_ok-model.ensures _ refl refl c.in_ok-check_edge_values.ensures }

pub decode-requires : goal.decode-requires
decode-requires c = plan_room _ _ _ c.args.fixed.within _ _ c.short_values-short.ensures c.in_ok-model.ensures

pub returns : goal.returns
returns c = checked_done _ _ _ c.args.fixed.within _ _ c.short_values-short.ensures c.in_ok-model.ensures _ refl refl c.in_ok-check_edge_values.ensures c.decode.ensures refl
