-- What a caller reads of stored groups and blocked edges: every edge is there, and each group stands between its start and its end. Assumes nothing.
use Prim.Native.Nat.{ℕ, zero, suc, ◌+◌, ◌-◌, ◌<◌, ◌≤◌}
use Rattle.std.proofs.Common.{arith, sym, ◌∙◌, length-append, take-suc, take_at, drop_at, ltb-true}
use Rattle.std.specs.Prelude.{◌≡◌, true, ltb, length, get_or, take}
use Rattle.std.proofs.Math.Path.{refl, ap}
use mathlib.Core.List.{List, [], ◌∷◌, ◌++◌, append-nil}
use Rattle.std.proofs.Math.ListN.{drop}
use Rattle.std.proofs.Math.Seq.{split_at}
use Rattle.counting.specs.Tests.{and_split, bool_cases}
use Rattle.edge_groups.specs.Groups.{each, self, all_there, present, groups_of, blocked_of, flat, ends_from}
use Rattle.edge_groups.specs.Stored.{each_append, there_append}

-- ---- every edge is there

there_at : (n : ℕ) (l : List ℕ) (i : ℕ) → all_there n l ≡ true → i < length l → get_or l i 0 < n
unfolding all_there
there_at n [] i e h = absurd (omega arith)
there_at n (a ∷ l) zero e h = let p : (ltb a n ≡ true) × (all_there n l ≡ true) = and_split e in ltb-true a n p.0
there_at n (a ∷ l) (suc i) e h = let p : (ltb a n ≡ true) × (all_there n l ≡ true) = and_split e in there_at n l i p.1 (omega arith)

present_there : (n : ℕ) (l : List ℕ) → all_there n (present n l) ≡ true
unfolding all_there each
present_there n [] = refl
present_there n (a ∷ l) = bool_cases (ltb a n) (λ e. rw (e, e, present_there n l)) (λ e. rw (e, present_there n l))

groups_there : (n : ℕ) (ls : List (List ℕ)) → all_there n (flat (groups_of n ls)) ≡ true
unfolding all_there each
groups_there n [] = refl
groups_there n (l ∷ ls) = bool_cases (all_there n l)
    (λ e. rw (e, there_append n l (flat (groups_of n ls)), e, groups_there n ls))
    (λ e. rw (e, groups_there n ls))

blocked_all_there : (n : ℕ) (ls : List (List ℕ)) → all_there n (blocked_of n ls) ≡ true
unfolding all_there each
blocked_all_there n [] = refl
blocked_all_there n (l ∷ ls) = bool_cases (all_there n l)
    (λ e. rw (e, blocked_all_there n ls))
    (λ e. rw (e, there_append n (present n l) (blocked_of n ls), present_there n l, blocked_all_there n ls))

pub entries_there : (n : ℕ) (ls : List (List ℕ)) (i : ℕ) → i < length (flat (groups_of n ls)) → get_or (flat (groups_of n ls)) i 0 < n
entries_there n ls i h = there_at n (flat (groups_of n ls)) i (groups_there n ls) h

pub blocked_there : (n : ℕ) (ls : List (List ℕ)) (i : ℕ) → i < length (blocked_of n ls) → get_or (blocked_of n ls) i 0 < n
blocked_there n ls i h = there_at n (blocked_of n ls) i (blocked_all_there n ls) h

-- ---- each group stands between its start and its end

-- where group g ends among the entries, and where it starts: at the end of the one before it
abbrev pub group_end : List (List ℕ) → ℕ → ℕ
group_end gs g = get_or (ends_from 0 gs) g 0

abbrev pub group_start : List (List ℕ) → ℕ → ℕ
group_start gs zero = 0
group_start gs (suc g) = group_end gs g

end_from : (m : ℕ) (gs : List (List ℕ)) (g : ℕ) → g < length gs → get_or (ends_from m gs) g 0 ≡ m + length (flat (take (suc g) gs))
unfolding ends_from each
end_from m [] g h = absurd (omega arith)
end_from m (x ∷ gs) zero h = rw append-nil
end_from m (x ∷ gs) (suc g) h = end_from (m + length x) gs g (omega arith) ∙ omega (arith, length-append x (flat (take (suc g) gs)))

module _ (gs : List (List ℕ)) where
  end_is : (g : ℕ) → g < length gs → group_end gs g ≡ length (flat (take (suc g) gs))
  end_is g h = omega (arith, end_from 0 gs g h)

  start_is : (g : ℕ) → g < length gs → group_start gs g ≡ length (flat (take g gs))
  unfolding each
  start_is zero h = refl
  start_is (suc g) h = end_is g (omega arith)

  one_more : (g : ℕ) → g < length gs → flat (take (suc g) gs) ≡ flat (take g gs) ++ get_or gs g []
  unfolding each
  one_more g h = rw (take-suc gs g [] h, each_append, append-nil)

  around : (g : ℕ) → g < length gs → flat gs ≡ flat (take g gs) ++ (get_or gs g [] ++ flat (drop (suc g) gs))
  unfolding each
  around g h = ap (λ l. flat l) (split_at gs g [] h) ∙ each_append self (take g gs) (get_or gs g [] ∷ drop (suc g) gs)

  pub end_is_after : (g : ℕ) → g < length gs → group_end gs g ≡ group_start gs g + length (get_or gs g [])
  end_is_after g h = omega (arith, end_is g h, start_is g h, ap length (one_more g h), length-append (flat (take g gs)) (get_or gs g []))

  pub ends_ascend : (g : ℕ) → g < length gs → group_start gs g ≤ group_end gs g
  ends_ascend g h = omega (arith, end_is_after g h)

  pub end_within : (g : ℕ) → g < length gs → group_end gs g ≤ length (flat gs)
  end_within g h = omega (arith, end_is_after g h, start_is g h, ap length (around g h), length-append (flat (take g gs)) (get_or gs g [] ++ flat (drop (suc g) gs)), length-append (get_or gs g []) (flat (drop (suc g) gs)))

  -- the group, read back
  pub group_read : (g : ℕ) → g < length gs → take (group_end gs g - group_start gs g) (drop (group_start gs g) (flat gs)) ≡ get_or gs g []
  group_read g h =
      let s : length (flat (take g gs)) ≡ group_start gs g = sym (start_is g h) in
      let n : length (get_or gs g []) ≡ group_end gs g - group_start gs g = omega (arith, end_is_after g h) in
      ap (λ l. take (group_end gs g - group_start gs g) (drop (group_start gs g) l)) (around g h)
      ∙ ap (λ l. take (group_end gs g - group_start gs g) l) (drop_at (flat (take g gs)) (get_or gs g [] ++ flat (drop (suc g) gs)) (group_start gs g) s)
      ∙ take_at (get_or gs g []) (flat (drop (suc g) gs)) (group_end gs g - group_start gs g) n
