-- The best of scores that are listed as floats: SPEC 3.1, 3.2, 11.10. Definitions only.
use Rattle.std.specs.Prelude.{ℕ, ◌+◌, ◌*◌, cond, not, List, eqb, ltb, length, get_or, Float}
use Rattle.std.specs.Float.{nan}
use Rattle.counting.specs.Fold.{table_to}
use Rattle.score.specs.declared.Score.{Score}
use Rattle.score.specs.Best.{BestAnswer, best_of, best_refused}

-- the score at a place of a list of floats: major, minor, major, minor, ..
abbrev pub score_at : List Float → ℕ → Score
score_at l k = record { major = get_or l (2 * k) nan; minor = get_or l (2 * k + 1) nan }

-- the first `count` scores that are listed
unfoldable pub scores_in : List Float → ℕ → List Score
scores_in l count = table_to count (score_at l)

-- 1: more than 64 scores. 2: not exactly two floats for each
unfoldable pub best_in : List Float → ℕ → BestAnswer
unfolding scores_in
best_in l count = cond (ltb 64 count) (best_refused 1) (cond (not (eqb (length l) (2 * count))) (best_refused 2) (best_of (scores_in l count) count))
