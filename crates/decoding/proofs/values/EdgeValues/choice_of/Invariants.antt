use Rattle.std.proofs.Common.{length}
use Rattle.scheduling.specs.Schedule.{entry_at}
use Rattle.decoding.specs.Decoding.{one_in, Searching}
use Rattle.decoding.proofs.values.EdgeValues.choice_of.Given as goal

abbrev pub invariant-loop-k : goal.invariant-loop-k
invariant-loop-k l = Searching (length l.list) (one_in l.self (entry_at l.list) l.chooser) l.k-index
