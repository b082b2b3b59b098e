use Rattle.edge_groups.specs.Together.{PutsThose}
use Rattle.edge_groups.proofs.put_present.Given as goal

abbrev pub invariant-loop-i : goal.invariant-loop-i
invariant-loop-i g l = PutsThose (goal.F-post g l.fn.edge) l.fn.n l.initial.buffer l.initial.used l.i l.buffer l.used
