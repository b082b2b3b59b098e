use Rattle.seat_counts.specs.Laws.{Parts}
use Rattle.seat_counts.proofs.plan.part_counts.Given as goal

abbrev pub invariant-loop-k : goal.invariant-loop-k
invariant-loop-k l = Parts l.k-index l.plan l.counts
