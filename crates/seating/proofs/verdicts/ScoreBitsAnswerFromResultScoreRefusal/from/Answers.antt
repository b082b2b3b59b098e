use Rattle.std.proofs.Common.{rules}
use lib.Ieee.{to_bits}
use Rattle.seating.proofs.verdicts.ScoreBitsAnswerFromResultScoreRefusal.from.Goals as goal

pub returns-in-Err : goal.returns-in-Err
unfolding to_bits
returns-in-Err c = search rules
