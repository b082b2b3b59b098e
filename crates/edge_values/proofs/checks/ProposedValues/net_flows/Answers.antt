use Rattle.std.proofs.Common.{refl}
use Rattle.edge_values.specs.Balance.{flows_none, in_fits, flows_more}
use Rattle.edge_values.proofs.checks.ProposedValues.net_flows.Goals as goal

pub loop-e-init : goal.loop-e-init
loop-e-init c = flows_none _ _ _ _ refl

pub overflow_sub-net : goal.overflow_sub-net
overflow_sub-net c = in_fits c.requires c.loop-e.invariant c.loop-e-test.true

pub loop-e-preserved : goal.loop-e-preserved
loop-e-preserved c = flows_more c.requires c.loop-e.invariant c.loop-e-test.true
