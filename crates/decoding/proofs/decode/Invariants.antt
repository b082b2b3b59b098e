use Rattle.decoding.specs.Decoding.{decoded_row, Rows}
use Rattle.decoding.proofs.decode.Given as goal

abbrev pub invariant-loop-c : goal.invariant-loop-c
invariant-loop-c l = Rows l.initial.plan (decoded_row l.accepted.sizes l.accepted.lists l.accepted.edges) l.c l.plan
