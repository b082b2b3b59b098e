-- Levels that ascend are at most max_preference if the last one is. Assumes nothing.
use Rattle.std.specs.Prelude.{ℕ, zero, suc, ◌+◌, ◌-◌, ◌<◌, ◌≤◌, ◌≡◌, refl, Bool, true, List, ltb, leb, length, get_or}
use Rattle.std.proofs.Math.Path.{sym}
use Rattle.std.proofs.Common.{ap₂, ◌∙◌, arith, ltb-false, leb-false, le-ltb, lt-ltb}
use Rattle.std.proofs.Math.Bool.{false, ◌||◌}
use Rattle.counting.specs.Fold.{any_to}
use Rattle.counting.specs.FoldLaws.{fold_none, fold_at}
use Rattle.counting.specs.Tests.{bool_cases, eq_cases, lt_cases, Passes, some_passes, one_passes, none_each, each_none}
use Rattle.input_data.specs.Checks.{bad_level_at, has_bad_levels}

-- a level that is not below the next
abbrev pub descends_at : List ℕ → ℕ → Bool
descends_at ls i = leb (get_or ls (i + 1) 0) (get_or ls i 0)

or_assoc : (a b c : Bool) → ((a || b) || c) ≡ (a || (b || c))
or_assoc true b c = refl
or_assoc false b c = refl

module _ (m : ℕ) (ls : List ℕ) (n : ℕ) (long : length ls ≡ n + 1) where
  -- where none descends, the last level is the greatest
  below_last : any_to n (descends_at ls) ≡ false → (j k : ℕ) → j + k ≡ n → get_or ls j 0 ≤ get_or ls n 0
  below_last e j zero p = let q : j ≡ n = omega arith in rw q (omega arith)
  below_last e j (suc k) p =
      let s : get_or ls j 0 < get_or ls (j + 1) 0 = leb-false _ _ (none_each n (descends_at ls) e j (omega arith)) in
      let r : get_or ls (j + 1) 0 ≤ get_or ls n 0 = below_last e (j + 1) k (omega arith) in
      omega arith

  -- the last level is above the most
  last_bad : ltb m (get_or ls n 0) ≡ true → any_to (n + 1) (bad_level_at m ls) ≡ true
  last_bad t = one_passes (n + 1) (bad_level_at m ls) n (omega arith) (rw t)

  one_descends : any_to n (descends_at ls) ≡ true → any_to (n + 1) (bad_level_at m ls) ≡ true
  one_descends t =
      let p : Passes n (descends_at ls) = some_passes n (descends_at ls) t in
      let b : ltb (p.at + 1) (length ls) ≡ true = lt-ltb (p.at + 1) (length ls) (omega (arith, p.below, long)) in
      one_passes (n + 1) (bad_level_at m ls) p.at (omega (arith, p.below)) (rw (b, p.holds) (bool_cases (ltb m (get_or ls p.at 0)) (λ x. rw x) (λ x. rw x)))

  none_bad : ltb m (get_or ls n 0) ≡ false → any_to n (descends_at ls) ≡ false → any_to (n + 1) (bad_level_at m ls) ≡ false
  none_bad t u = each_none (n + 1) (bad_level_at m ls) (λ i h. eq_cases i n
      (λ q f. let o : ltb (i + 1) (length ls) ≡ false = le-ltb (i + 1) (length ls) (omega (arith, long)) in let v : ltb m (get_or ls i 0) ≡ false = rw q t in rw (o, v))
      (λ q f. let v : ltb m (get_or ls i 0) ≡ false = le-ltb m (get_or ls i 0) (omega (arith, below_last u i (n - i) (omega arith), ltb-false m (get_or ls n 0) t)) in
      rw (v, none_each n (descends_at ls) u i (omega arith)) (bool_cases (ltb (i + 1) (length ls)) (λ x. rw x) (λ x. rw x))))

  join : any_to (n + 1) (bad_level_at m ls) ≡ (ltb m (get_or ls n 0) || any_to n (descends_at ls))
  join = bool_cases (ltb m (get_or ls n 0))
      (λ t. last_bad t ∙ rw t)
      (λ t. bool_cases (any_to n (descends_at ls)) (λ u. one_descends u ∙ rw (t, u)) (λ u. none_bad t u ∙ rw (t, u)))

  few : ltb 256 (length ls) ≡ ltb 255 n
  few = lt_cases 255 n (λ h e. lt-ltb 256 (length ls) (omega (arith, long)) ∙ sym e) (λ h e. le-ltb 256 (length ls) (omega (arith, long)) ∙ sym e)

  pub levels_by_last : (ltb 255 n || ltb m (get_or ls n 0) || any_to n (descends_at ls)) ≡ has_bad_levels m ls
  unfolding has_bad_levels
  levels_by_last = or_assoc (ltb 255 n) _ _ ∙ sym (ap₂ ◌||◌ few (fold_at ◌||◌ false (bad_level_at m ls) long ∙ join))

pub no_levels : (m : ℕ) (ls : List ℕ) → length ls ≡ 0 → false ≡ has_bad_levels m ls
unfolding has_bad_levels
no_levels m ls e = sym (ap₂ ◌||◌ (le-ltb 256 (length ls) (omega arith)) (fold_at ◌||◌ false (bad_level_at m ls) e ∙ fold_none ◌||◌ false (bad_level_at m ls)))
