use Rattle.std.proofs.Common.{rules}
use Rattle.scheduling.specs.Schedule.{entry_at}
use Rattle.feasibility.proofs.schedule.SlotSizes.of.Goals as goal

pub returns : goal.returns
returns c =
    let d = c.args.day.now in
    let s = rw c.choices-n.ensures at c.sums.ensures in
    record {
      mins = s.first (entry_at d.mins) (λ k h x p. search rules);
      maxs = s.second (entry_at d.maxs) (λ k h x p. search rules);
    }
