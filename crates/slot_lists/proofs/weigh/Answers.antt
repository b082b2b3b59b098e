use Rattle.std.proofs.Common.{rules}
use Rattle.scheduling.specs.Schedule.{entry_at}
use Rattle.slot_lists.specs.Sums.{one}
use Rattle.slot_lists.proofs.weigh.Goals as goal

pub returns : goal.returns
returns c = record {
  lens = c.sums.ensures.first one (λ k h x p. search rules);
  covered = c.sums.ensures.second (entry_at c.args.mins.now) (λ k h x p. search rules);
}
