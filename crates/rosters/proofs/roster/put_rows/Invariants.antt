use Rattle.counting.specs.Fold.{join_to}
use Rattle.rosters.specs.Filled.{Lists}
use Rattle.rosters.specs.Laws.{run_at}
use Rattle.rosters.proofs.roster.put_rows.Given as goal

abbrev pub invariant-loop-i : goal.invariant-loop-i
invariant-loop-i l = Lists l.initial.filled (join_to l.i (run_at l.of l.seats)) l.filled
