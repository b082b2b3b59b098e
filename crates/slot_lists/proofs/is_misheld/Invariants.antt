use Rattle.scheduling.specs.Schedule.{entry_at}
use Rattle.slot_lists.specs.Sums.{one, weighed}
use Rattle.slot_lists.specs.Marks.{Marks}
use Rattle.slot_lists.proofs.is_misheld.Given as goal

abbrev pub invariant-loop-s : goal.invariant-loop-s
invariant-loop-s l = Marks l.lists.stride (weighed one (entry_at l.entries) l.n) l.lists.bytes.now l.s l.marks
