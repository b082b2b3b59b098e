use Rattle.score.proofs.Floats.{nan_bits_lem}
use Rattle.counting.specs.Tests.{so}
use Rattle.score.proofs.bits.Goals as goal

pub returns-then-is_nan : goal.returns-then-is_nan
returns-then-is_nan c = nan_bits_lem c.args.x (so c.is_nan.ensures.value c.if-is_nan.true)
