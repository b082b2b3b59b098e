use Rattle.carried_lists.specs.CarriedLaws.{Walking}
use Rattle.carried_lists.proofs.CarriedLists.carry.Given as goal

abbrev pub invariant-loop-k : goal.invariant-loop-k
invariant-loop-k l = Walking l.n l.last l.next l.mins l.initial.self l.k l.self
