-- The place of the best is below 64. Assumes nothing.
use Rattle.std.specs.Prelude.{ℕ, zero, suc, ◌*◌, ◌<◌, ◌≤◌, List, length, Option, None, Some, Float}
use Rattle.std.proofs.Common.{arith}
use Rattle.counting.specs.Tests.{eq_cases, lt_cases}
use Rattle.score.specs.declared.Score.{Score}
use Rattle.score.specs.declared.Ranked.{Ranked}
use Rattle.score.specs.Best.{BestAnswer}
use Rattle.score.specs.Best.{best_among, best_of}
use Rattle.score.specs.BestLaws.{best_place}
use Rattle.score.specs.Listed.{scores_in}
use Rattle.score.specs.ListedLaws.{in_many, in_uneven, in_order_lem}
pub use Rattle.score.specs.Listed.{best_in}

-- the place of the best is below 64
abbrev pub near_place : Option Ranked → Type 0
near_place None = Unit {0}
near_place (Some r) = r.position < 64

pub record Near (a : BestAnswer) : Type 0 where
  pub place : near_place a.best

among_near : (a : List Score) (count : ℕ) → count ≤ 64 → near_place (best_among a count)
unfolding best_among
among_near a zero h = tt
among_near a (suc n) h = omega (arith, best_place a n)

among : (a : List Score) (count : ℕ) → Near (best_of a count)
unfolding best_of
among a count = lt_cases 64 count (λ l e. rw e (record { place = tt })) (λ l e. rw e (record { place = among_near a count l }))

pub near : (l : List Float) (count : ℕ) → Near (best_in l count)
near l count = lt_cases 64 count
    (λ h e. rw (in_many l count h) (record { place = tt }))
    (λ h e. eq_cases (length l) (2 * count)
    (λ q t. rw (in_order_lem l count h q) (among (scores_in l count) count))
    (λ q t. rw (in_uneven l count h q) (record { place = tt })))
