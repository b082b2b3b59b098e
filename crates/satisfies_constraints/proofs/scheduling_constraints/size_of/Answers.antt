use Rattle.std.proofs.Common.{rules, eqb, suc}
use Rattle.scheduling.specs.Schedule.{entry_at}
use Rattle.satisfies_constraints.proofs.scheduling_constraints.size_of.Goals as goal

pub returns : goal.returns
returns c = c.count_below.ensures.counts (λ k. eqb (entry_at c.args.entries.now k) (suc c.args.slot)) (λ k h x p. search rules)
