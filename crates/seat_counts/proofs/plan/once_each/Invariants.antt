use Rattle.std.proofs.Common.{◌≡◌}
use Rattle.counting.specs.Fold.{all_to}
use Rattle.seat_counts.specs.Seats.{is_new}
use Rattle.seat_counts.specs.Laws.{Marked}
use Rattle.seat_counts.proofs.plan.once_each.Given as goal

abbrev pub invariant-loop-k : goal.invariant-loop-k
invariant-loop-k l = (l.once ≡ all_to l.k-index (is_new l.slots l.entries l.plan l.chooser)) × Marked l.slots l.entries l.plan l.chooser l.k-index l.marks
