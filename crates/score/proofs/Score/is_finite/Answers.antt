use Rattle.score.proofs.Floats.{finite_is}
use Rattle.score.proofs.Score.is_finite.Goals as goal

pub returns : goal.returns
returns c = simp (c.is_finite.ensures.value, c.is_finite-2.ensures.value, c.is_nan.ensures.value, finite_is)
