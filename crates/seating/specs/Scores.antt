-- Scores in numbers: SPEC 2.16, 11.10. Definitions only.
use Rattle.std.specs.Prelude.{ℕ, Option, None, Some, Float}
use Rattle.std.specs.Float.{binary32}
use Rattle.std.specs.Float.Ieee.{to_bits}
use Rattle.score.specs.declared.Score.{Score}
use Rattle.score.specs.declared.Ranked.{Ranked}
use Rattle.score.specs.Best.{BestAnswer}
pub use Rattle.score.specs.Listed.{best_in}
use Rattle.seating.specs.declared.scores.ScoreBits.{ScoreBits}
use Rattle.seating.specs.declared.scores.BestBits.{BestBits}

abbrev pub score : Float → Float → Score
score a b = record { major = a; minor = b }

-- the bits of both floats; NaN's are 7FC00000
abbrev pub score_bits : Score → ScoreBits
score_bits s = record { major = to_bits binary32 s.major; minor = to_bits binary32 s.minor }

abbrev pub no_bits : ScoreBits
no_bits = record { major = 0; minor = 0 }

abbrev pub refused_bits : ℕ → BestBits
refused_bits n = record { number = n; found = 0; position = 0; score = no_bits }

-- number and values of each case
abbrev pub found_bits : ℕ → Option Ranked → BestBits
found_bits n None = refused_bits n
found_bits n (Some r) = record { number = n; found = 1; position = r.position; score = score_bits r.score }

abbrev pub best_bits : BestAnswer → BestBits
best_bits a = found_bits a.number a.best
