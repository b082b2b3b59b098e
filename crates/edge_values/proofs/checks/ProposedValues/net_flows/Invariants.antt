use Rattle.edge_values.specs.Balance.{NetFlows}
use Rattle.edge_values.proofs.checks.ProposedValues.net_flows.Given as goal

abbrev pub invariant-loop-e : goal.invariant-loop-e
invariant-loop-e l = NetFlows l.e l.e l.self.model.now.from.now l.self.model.now.to.now l.self.values.now l.net
