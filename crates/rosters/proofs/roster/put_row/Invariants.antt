use Rattle.counting.specs.Fold.{join_to}
use Rattle.rosters.specs.Filled.{Lists}
use Rattle.rosters.specs.Laws.{seat_of}
use Rattle.rosters.proofs.roster.put_row.Given as goal

abbrev pub invariant-loop-seat : goal.invariant-loop-seat
invariant-loop-seat l = Lists l.initial.filled (join_to l.seat-index (seat_of l.seats.plan.now l.row)) l.filled
