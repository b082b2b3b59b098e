use Rattle.dependent_groups.specs.Members.{Kept}
use Rattle.dependent_groups.proofs.scheduled.Given as goal

abbrev pub invariant-loop-k : goal.invariant-loop-k
invariant-loop-k l = Kept l.schedule l.group l.k-index l.choices l.count
