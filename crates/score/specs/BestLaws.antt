-- Laws of the best of a list of scores. Assumes nothing.
use Rattle.std.specs.Prelude.{ℕ, zero, suc, ◌+◌, ◌≤◌, ◌≡◌, refl, List, Some}
use Rattle.std.proofs.Common.{le_refl, add-one, arith, le-ltb}
use Rattle.counting.specs.Tests.{bool_cases}
use Rattle.score.specs.declared.Score.{Score}
use Rattle.score.specs.declared.Ranked.{Ranked}
use Rattle.score.specs.Order.{score_order, is_less}
use Rattle.score.specs.Best.{ranked_at, later_at, better_of, best_to, best_answer, best_refused, best_of}

-- ---- laws

pub best_empty : (scores : List Score) (count : ℕ) → count ≡ 0 → best_of scores count ≡ best_refused 0
unfolding best_of
best_empty scores count e = rw e

pub best_first : (scores : List Score) → best_to scores 0 ≡ ranked_at scores 0
unfolding best_to
best_first scores = refl

pub best_later : (scores : List Score) (n : ℕ) → best_to scores (n + 1) ≡ better_of (best_to scores n) (ranked_at scores (n + 1))
unfolding best_to
best_later scores n = rw add-one

pub best_done : (scores : List Score) (count n : ℕ) → count ≤ 64 → n + 1 ≡ count → best_of scores count ≡ best_answer 0 (Some (best_to scores n))
unfolding best_of
best_done scores count n h e = rw (le-ltb 64 count h, ← e, add-one)

better_place : (held later : Ranked) (n : ℕ) → held.position ≤ n → later.position ≤ n → (better_of held later).position ≤ n
unfolding better_of
better_place held later n h l = bool_cases (is_less (score_order later.score held.score)) (λ e. rw e l) (λ e. rw e h)

-- the best of n + 1 scores stands at one of their places
pub best_place : (scores : List Score) (n : ℕ) → (best_to scores n).position ≤ n
unfolding best_to
best_place scores zero = le_refl 0
best_place scores (suc n) = better_place (best_to scores n) (later_at scores n) (suc n) (omega (arith, best_place scores n)) (le_refl (suc n))
