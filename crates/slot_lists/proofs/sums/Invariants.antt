use Rattle.slot_lists.specs.SumsLaws.{Summed}
use Rattle.slot_lists.proofs.sums.Given as goal

abbrev pub invariant-loop-k : goal.invariant-loop-k
invariant-loop-k g l = Summed (goal.A-post g l.fn.a) l.n l.entries l.k l.first × Summed (goal.B-post g l.fn.b) l.n l.entries l.k l.second
