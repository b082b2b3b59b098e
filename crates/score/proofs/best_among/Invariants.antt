use Rattle.std.proofs.Common.{◌≡◌, ◌-◌, ◌<◌}
use Rattle.score.specs.Best.{best_to}
use Rattle.score.specs.Listed.{scores_in}
use Rattle.score.proofs.best_among.Given as goal

abbrev pub invariant-loop-position : goal.invariant-loop-position
invariant-loop-position l = (0 < l.position) × (l.best ≡ best_to (scores_in l.floats l.count) (l.position - 1))
