use Rattle.std.proofs.Common.{◌∙◌, ap}
use lib.Ieee.{binary32, to_bits}
use Rattle.seating.proofs.scores.cendravoka_greedy_major.Goals as goal

pub returns : goal.returns
unfolding to_bits
returns c = c.bits.ensures ∙ ap (to_bits binary32) c.greedy_major.ensures
