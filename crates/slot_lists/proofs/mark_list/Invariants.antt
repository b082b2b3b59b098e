use Rattle.slot_lists.specs.Marks.{Noted}
use Rattle.slot_lists.proofs.mark_list.Given as goal

abbrev pub invariant-loop-k : goal.invariant-loop-k
invariant-loop-k l = Noted l.list l.k-index l.entry l.initial.marks l.marks
