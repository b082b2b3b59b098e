-- The best of a list of scores: SPEC 11.10. Definitions only.
use Rattle.std.specs.Prelude.{ℕ, zero, suc, cond, List, ltb, get_or, Option, None, Some}
use Rattle.std.specs.Float.{nan}
use Rattle.counting.specs.Fold.{fold_to}
use Rattle.score.specs.declared.Score.{Score}
use Rattle.score.specs.declared.Ranked.{Ranked}
use Rattle.score.specs.Order.{score_order, is_less}

-- what the logic reads past a list's end; no answer depends on it
abbrev pub no_floats : Score
no_floats = record { major = nan; minor = nan }

abbrev pub ranked : ℕ → Score → Ranked
ranked k s = record { position = k; score = s }

-- the score at a place of a list
abbrev pub ranked_at : List Score → ℕ → Ranked
ranked_at scores k = ranked k (get_or scores k no_floats)

abbrev pub later_at : List Score → ℕ → Ranked
later_at scores k = ranked_at scores (suc k)

-- a later one is taken only when it is less
unfoldable pub better_of : Ranked → Ranked → Ranked
unfolding score_order
better_of held later = cond (is_less (score_order later.score held.score)) later held

-- the first is kept, and then n later ones are gone through
unfoldable pub best_to : List Score → ℕ → Ranked
unfolding better_of fold_to
best_to scores n = fold_to better_of (ranked_at scores 0) n (later_at scores)

-- an empty list has none
unfoldable pub best_among : List Score → ℕ → Option Ranked
unfolding best_to
best_among scores zero = None
best_among scores (suc n) = Some (best_to scores n)

-- the number of an answer, and the best; none where it is refused
pub record BestAnswer : Type 0 where
  pub number : ℕ
  pub best : Option Ranked

abbrev pub best_answer : ℕ → Option Ranked → BestAnswer
best_answer n b = record { number = n; best = b }

abbrev pub best_refused : ℕ → BestAnswer
best_refused n = best_answer n None

-- the best of the first `count` of a list; more than 64 are refused by 1
unfoldable pub best_of : List Score → ℕ → BestAnswer
unfolding best_among
best_of scores count = cond (ltb 64 count) (best_refused 1) (best_answer 0 (best_among scores count))
