-- The best of listed scores, as a walk over the list finds it. Assumes nothing.
use Rattle.std.specs.Prelude.{ℕ, ◌+◌, ◌*◌, ◌<◌, ◌≤◌, ◌-◌, ◌≡◌, Bool, cond, List, length, get_or, Float, Some}
use Rattle.std.proofs.Common.{sym, ap, ap₂, ◌∙◌, arith, lt-ltb, le-ltb, eq-eqb, ne_eqb}
use Rattle.counting.specs.Lists.{table_at}
use Rattle.score.specs.declared.Score.{Score}
use Rattle.score.specs.declared.Ranked.{Ranked}
use Rattle.score.specs.Order.{is_less, score_order}
use Rattle.score.specs.Best.{no_floats, ranked, ranked_at, better_of, best_to, best_of, best_answer, best_refused}
use Rattle.score.specs.BestLaws.{best_empty, best_first, best_later, best_done}
use Rattle.score.specs.Listed.{score_at, scores_in, best_in}

-- ---- laws

pub in_many : (l : List Float) (count : ℕ) → 64 < count → best_in l count ≡ best_refused 1
unfolding best_in
in_many l count h = rw (lt-ltb 64 count h)

pub in_uneven : (l : List Float) (count : ℕ) → count ≤ 64 → (length l ≡ 2 * count → ⊥) → best_in l count ≡ best_refused 2
unfolding best_in
in_uneven l count h n = rw (le-ltb 64 count h, ne_eqb (length l) (2 * count) n)

pub in_order_lem : (l : List Float) (count : ℕ) → count ≤ 64 → length l ≡ 2 * count → best_in l count ≡ best_of (scores_in l count) count
unfolding best_in
in_order_lem l count h e = rw (le-ltb 64 count h, eq-eqb (length l) (2 * count) e)

pub in_empty : (l : List Float) (count : ℕ) → count ≤ 64 → length l ≡ 2 * count → count ≡ 0 → best_in l count ≡ best_refused 0
in_empty l count h e z = in_order_lem l count h e ∙ best_empty (scores_in l count) count z

pub in_done : (l : List Float) (count : ℕ) → count ≤ 64 → length l ≡ 2 * count → 0 < count → best_in l count ≡ best_answer 0 (Some (best_to (scores_in l count) (count - 1)))
in_done l count h e z = in_order_lem l count h e ∙ best_done (scores_in l count) count (count - 1) h (omega arith)

listed : (l : List Float) (count k : ℕ) → k < count → get_or (scores_in l count) k no_floats ≡ score_at l k
unfolding scores_in
listed l count k h = table_at count (score_at l) no_floats k h

-- the first of a list, and one more walked past
pub held_first : (l : List Float) (count : ℕ) {s : Score} → 0 < count → s ≡ score_at l 0 → ranked 0 s ≡ best_to (scores_in l count) 0
held_first l count h e = rw (e, best_first (scores_in l count), listed l count 0 h)

-- the next score of the list
pub next : (l : List Float) (count i : ℕ) {s : Score} → i < count → s ≡ score_at l i → s ≡ get_or (scores_in l count) i no_floats
next l count i h e = e ∙ sym (listed l count i h)

better_is : (held later : Ranked) {less : Bool} → less ≡ is_less (score_order later.score held.score) → cond less later held ≡ better_of held later
unfolding better_of
better_is held later e = rw e

-- one more score is walked past: it is taken where it is less
pub held_next : (l : List Float) (count k : ℕ) {held : Ranked} {s : Score} {less : Bool}
    → 0 < k → k < count → held ≡ best_to (scores_in l count) (k - 1) → s ≡ score_at l k → less ≡ is_less (score_order s held.score)
    → cond less (ranked k s) held ≡ best_to (scores_in l count) (k + 1 - 1)
held_next l count k {held = held} {s = s} {less = less} z h e q t =
    let i : k - 1 + 1 ≡ k = omega arith in
    let j : k + 1 - 1 ≡ k = omega arith in
    let p : ranked k s ≡ ranked_at (scores_in l count) k = ap (ranked k) (next l count k h q) in
    better_is held (ranked k s) t
    ∙ ap₂ better_of e p
    ∙ ap (λ m. better_of (best_to (scores_in l count) (k - 1)) (ranked_at (scores_in l count) m)) (sym i)
    ∙ sym (best_later (scores_in l count) (k - 1))
    ∙ ap (best_to (scores_in l count)) (i ∙ sym j)
