use Rattle.counting.specs.WrittenLaws.{Fills}
use Rattle.decoding.specs.Decoding.{choice_had}
use Rattle.decoding.proofs.put_row.Given as goal

abbrev pub invariant-loop-s : goal.invariant-loop-s
invariant-loop-s l = Fills l.initial.plan l.at l.s (choice_had l.accepted.lists l.accepted.edges l.chooser) l.plan
