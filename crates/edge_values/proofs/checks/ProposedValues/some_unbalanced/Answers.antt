use Rattle.std.proofs.Common.{◌∙◌, rules, not, get_or, pos}
use Rattle.counting.specs.Ints.{eq_z}
use Rattle.edge_values.specs.Balance.{balance_is}
use Rattle.edge_values.specs.Number.{walking}
use Rattle.edge_values.proofs.checks.ProposedValues.some_unbalanced.Goals as goal

pub net_flows-net-requires : goal.net_flows-net-requires
net_flows-net-requires c = walking c.args.self.now.checkable c.requires

pub returns : goal.returns
unfolding eq_z
returns c =
    c.any_below.ensures (λ v. not (eq_z (get_or c.net_flows-net.result v (pos 0)) (get_or c.args.self.now.model.now.supplies.now v (pos 0)))) (λ k h x p. search rules)
    ∙ balance_is _ _ _ _ _ _ _ c.args.self.now.checkable.few_nodes c.net_flows-net.ensures
