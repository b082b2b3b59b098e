-- The walk from one schedule to the next, as the code makes it. Assumes nothing.
use Rattle.std.specs.Prelude.{ℕ, zero, suc, ◌+◌, ◌*◌, ◌<◌, ◌≤◌, ◌≡◌, refl, Bool, cond, List, ◌≢◌, eqb, ltb, length, set}
use Rattle.std.proofs.Common.{sym, ap, ◌∙◌, arith, length-set, eq-eqb, ne_eqb, lt-ltb, le-ltb}
use Rattle.counting.specs.Fold.{fold_to, gate}
use Rattle.counting.specs.FoldLaws.{fold_none, fold_more}
use Rattle.counting.specs.Tests.{eq_cases, lt_cases, bool_cases}
use Rattle.scheduling.specs.Schedule.{entry_at}
use Rattle.slot_lists.specs.Lists.{place_of, left_by}
use Rattle.slot_lists.specs.SumsLaws.{put, added, subtracted, Sums, AreSums, less, more, weighed_put, sums_ext, both_ext, sums_left, sums_joined}
use Rattle.slot_lists.specs.Sums.{weighed, one}
use Rattle.slot_lists.specs.Walk.{midway, length_at, leaves, joins, visit, carried}
use Rattle.slot_lists.specs.declared.SlotSums.{SlotSums}

pub carried_none : (stride : ℕ) (old new : ℕ → ℕ) (n : ℕ) (l : List ℕ) → carried stride old new n l 0 ≡ l
unfolding carried
carried_none stride old new n l = fold_none (visit stride old new n) l (λ k. k)

pub carried_more : (stride : ℕ) (old new : ℕ → ℕ) (n : ℕ) (l : List ℕ) (i : ℕ) → carried stride old new n l (i + 1) ≡ visit stride old new n (carried stride old new n l i) i
unfolding carried
carried_more stride old new n l i = fold_more (visit stride old new n) l i (λ k. k)

-- before and after choice k has moved
pub midway_here : (old new : ℕ → ℕ) (k : ℕ) → midway old new k k ≡ old k
midway_here old new k = rw (le-ltb k k (omega arith))

pub midway_more : (old new : ℕ → ℕ) (k j : ℕ) → put (put (midway old new k) k 0) k (new k) j ≡ midway old new (k + 1) j
midway_more old new k j = eq_cases j k
    (λ p e. rw (e, lt-ltb j (k + 1) (omega arith)) (ap new (sym p)))
    (λ p e. rw e (lt_cases j k (λ b t. rw (t, lt-ltb j (k + 1) (omega arith))) (λ b t. rw (t, le-ltb j (k + 1) (omega arith)))))

pub midway_first : (old new : ℕ → ℕ) (j : ℕ) → midway old new 0 j ≡ old j
midway_first old new j = rw (le-ltb j 0 (omega arith))

pub midway_last : (old new : ℕ → ℕ) (n j : ℕ) → j < n → midway old new n j ≡ new j
midway_last old new n j h = rw (lt-ltb j n h)

-- a choice that stays where it is changes nothing
pub midway_same : (old new : ℕ → ℕ) (k j : ℕ) → old k ≡ new k → midway old new k j ≡ midway old new (k + 1) j
midway_same old new k j q = eq_cases j k
    (λ p e. rw (le-ltb j k (omega arith), lt-ltb j (k + 1) (omega arith)) (ap old p ∙ q ∙ ap new (sym p)))
    (λ p e. lt_cases j k (λ b t. rw (t, lt-ltb j (k + 1) (omega arith))) (λ b t. rw (t, le-ltb j (k + 1) (omega arith))))

-- the sums follow a choice that moves
module _ (old new : ℕ → ℕ) {n : ℕ} (k : ℕ) (l : k < n) (ho : old k ≤ 8) (hn : new k ≤ 8) where
  pub sums_between : {w : ℕ → ℕ} {a : List ℕ} → Sums w (midway old new k) n a → Sums w (put (midway old new k) k 0) n (subtracted (old k) (w k) a)
  sums_between p = sums_left p k l (old k) (midway_here old new k) ho

  sums_moved : {w : ℕ → ℕ} {a : List ℕ} → Sums w (midway old new k) n a → Sums w (midway old new (k + 1)) n (added (new k) (w k) (subtracted (old k) (w k) a))
  sums_moved p = sums_ext (λ j b. midway_more old new k j) (sums_joined (sums_between p) k l (new k) (rw (eq-eqb k k refl)) hn)

  module _ {w : ℕ → ℕ} {s : SlotSums} (p : AreSums w (midway old new k) n s) where
    pub both_between : AreSums w (put (midway old new k) k 0) n (less (old k) (w k) s)
    both_between = record { lens = sums_between p.lens; covered = sums_between p.covered }

    -- .. and one that does not
    pub both_visited : {s' : SlotSums} → s' ≡ cond (eqb (old k) (new k)) s (more (new k) (w k) (less (old k) (w k) s)) → AreSums w (midway old new (k + 1)) n s'
    both_visited q = rw q (eq_cases (old k) (new k)
        (λ e t. rw t (both_ext (λ j b. midway_same old new k j e) p))
        (λ e t. rw t (record { lens = sums_moved p.lens; covered = sums_moved p.covered })))

-- ---- the code's step is the definition's

leaves_ext : (stride e : ℕ) (len len' : ℕ → ℕ) (k : ℕ) (l : List ℕ) → ((s : ℕ) → e ≡ suc s → len s ≡ len' s) → leaves stride e len k l ≡ leaves stride e len' k l
leaves_ext stride zero len len' k l h = refl
leaves_ext stride (suc s) len len' k l h = ap (λ n. left_by stride s n k l) (h s refl)

pub joins_ext : (stride e : ℕ) (len len' : ℕ → ℕ) (k : ℕ) (l : List ℕ) → ((s : ℕ) → e ≡ suc s → len s ≡ len' s) → joins stride e len k l ≡ joins stride e len' k l
joins_ext stride zero len len' k l h = refl
joins_ext stride (suc s) len len' k l h = ap (λ n. set l (stride * s + n) k) (h s refl)

-- the list that choice k is to join is not the one that it has left
pub joined_same : (old new : ℕ → ℕ) (n k s : ℕ) → k < n → old k ≢ new k → new k ≡ suc s → weighed one (put (midway old new k) k 0) n s ≡ length_at old new n k s
joined_same old new n k s l d e = omega (
  arith,
  weighed_put one (midway old new k) n s k 0 l,
  ap (λ (z : Bool). gate z 1) (ne_eqb 0 (suc s) (λ z. omega arith)),
  ap (λ (z : Bool). gate z 1) (ne_eqb (midway old new k k) (suc s) (λ z. d (sym (midway_here old new k) ∙ z ∙ sym e))),
)

module _ (old new : ℕ → ℕ) {n : ℕ} {a : List ℕ} (k : ℕ) (l : k < n) (ho : old k ≤ 8) (hn : new k ≤ 8) (p : Sums one (midway old new k) n a) where
  joined_length : (s : ℕ) → old k ≢ new k → new k ≡ suc s → entry_at (subtracted (old k) 1 a) s ≡ length_at old new n k s
  joined_length s d e = (sums_between old new k l ho hn p).at s (omega arith) ∙ joined_same old new n k s l d e

  pub visit_is : (stride : ℕ) (b b' : List ℕ) → b' ≡ cond (eqb (old k) (new k)) b (joins stride (new k) (entry_at (subtracted (old k) 1 a)) k (leaves stride (old k) (entry_at a) k b)) → b' ≡ visit stride old new n b k
  unfolding visit
  visit_is stride b b' q = q ∙ eq_cases (old k) (new k)
      (λ e t. rw t)
      (λ e t. rw (t, leaves_ext stride (old k) (entry_at a) (length_at old new n k) k b (λ s f. p.at s (omega arith)))
      (joins_ext stride (new k) (entry_at (subtracted (old k) 1 a)) (length_at old new n k) k _ (λ s f. joined_length s e f)))

left_length : (stride s len k : ℕ) (l : List ℕ) → length (left_by stride s len k l) ≡ length l
unfolding left_by
left_length stride s len k l = bool_cases (ltb (place_of stride s len k l) len) (λ e. rw e (simp length-set)) (λ e. rw e)

pub leaves_length : (stride e : ℕ) (len : ℕ → ℕ) (k : ℕ) (l : List ℕ) → length (leaves stride e len k l) ≡ length l
leaves_length stride zero len k l = refl
leaves_length stride (suc s) len k l = left_length stride s (len s) k l

joins_length : (stride e : ℕ) (len : ℕ → ℕ) (k : ℕ) (l : List ℕ) → length (joins stride e len k l) ≡ length l
joins_length stride zero len k l = refl
joins_length stride (suc s) len k l = length-set l (stride * s + len s) k

visit_length : (stride : ℕ) (old new : ℕ → ℕ) (n : ℕ) (l : List ℕ) (k : ℕ) → length (visit stride old new n l k) ≡ length l
unfolding visit
visit_length stride old new n l k = bool_cases (eqb (old k) (new k)) (λ e. rw e)
    (λ e. rw e (joins_length stride (new k) (length_at old new n k) k (leaves stride (old k) (length_at old new n k) k l) ∙ leaves_length stride (old k) (length_at old new n k) k l))

-- the walk keeps the buffer's length
pub carried_length : (stride : ℕ) (old new : ℕ → ℕ) (n : ℕ) (l : List ℕ) (i : ℕ) → length (carried stride old new n l i) ≡ length l
unfolding carried fold_to
carried_length stride old new n l zero = refl
carried_length stride old new n l (suc i) = visit_length stride old new n (carried stride old new n l i) i ∙ carried_length stride old new n l i
