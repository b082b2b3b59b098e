-- Checks 14 and 17 of a model's values, as they are for numbers by the three kinds of nodes. Assumes nothing.
use Rattle.std.specs.Prelude.{ℕ, zero, suc, ◌+◌, ◌-◌, ◌*◌, ◌/◌, ◌%◌, ◌≤◌, ◌<◌, ◌≡◌, refl, true, false, List, ◌++◌, ◌≢◌, eqb, ltb, ℤ, pos, negsuc, neg_ℤ, ◌-ℤ◌, length, get_or}
use Rattle.std.proofs.Math.Path.{sym, ap, subst}
use Rattle.std.proofs.Common.{◌∙◌, div-add-mod', mod-lt, div-lt_iff_lt-mul, arith, get_or-append-add, eq-eqb, ne_eqb, lt-ltb, le-ltb, ltb-false}
use Rattle.std.proofs.Math.Bool.{not}
use Rattle.std.proofs.Math.IntN.{sub_ℕ}
use Rattle.std.specs.Int.Signed.{mag, non_neg}
use Rattle.std.proofs.Math.ListN.{length-append, get_or-append}
use Rattle.std.proofs.lemmas.Bool.{not-false}
use Rattle.counting.specs.Fold.{fold_to, gate, sum_to, sum_z, table_to}
use Rattle.counting.specs.Lists.{length_table, table_at}
use Rattle.counting.specs.Signed.{eq_z_same, same_eq_z}
use Rattle.counting.specs.Tests.{bool_cases, eq_cases, lt_cases, or_split, none_each, each_none, never}
use Rattle.input_data.specs.declared.Limits.{Limits}
use Rattle.scheduling.specs.Schedule.{entry_at}
use Rattle.mip_flow_static_data.specs.Nodes.{chooser_supply, choice_supply, slot_supply, supplies}
use Rattle.edge_values.specs.Values.{value_at, out_of_bounds, outside_at, some_outside, flow_at, flow, unbalanced_at, some_unbalanced}
use Rattle.plans.specs.Model.{ModelInput, sizes_of, entries_of, network_of}
use Rattle.plans.specs.Good.{Good}
use Rattle.counting.specs.Sums.{grid_lt}
use Rattle.plans.specs.Flow.{ByKind, Accepted, meets, covered_of}
use Rattle.plans.specs.SeatPairs.{frame_of, edge_count, from_length}

-- ---- differences of naturals as integers

difference : (a b : ℕ) → pos a -ℤ pos b ≡ sub_ℕ a b
difference a zero = rw (le-ltb a 0 (omega arith)) (ap pos (omega arith))
difference a (suc b) = refl

negation : (b : ℕ) → neg_ℤ (pos b) ≡ sub_ℕ 0 b
negation zero = refl
negation (suc b) = rw (lt-ltb 0 (suc b) (omega arith)) (ap negsuc (omega arith))

sub_same : (a b c d : ℕ) → sub_ℕ a b ≡ sub_ℕ c d → a + d ≡ c + b
sub_same a b c d e = lt_cases a b
    (λ l t. lt_cases c d
    (λ m u. let f : negsuc (b - suc a) ≡ negsuc (d - suc c) = rw (t, u) at e in let g : b - suc a ≡ d - suc c = cc in omega arith)
    (λ m u. let f : negsuc (b - suc a) ≡ pos (c - d) = rw (t, u) at e in absurd (let g : ◌≡◌ {A = ℕ} 0 1 = cc in omega arith)))
    (λ l t. lt_cases c d
    (λ m u. let f : pos (a - b) ≡ negsuc (d - suc c) = rw (t, u) at e in absurd (let g : ◌≡◌ {A = ℕ} 0 1 = cc in omega arith))
    (λ m u. let f : pos (a - b) ≡ pos (c - d) = rw (t, u) at e in let g : a - b ≡ c - d = cc in omega arith))

same_sub : (a b c d : ℕ) → a + d ≡ c + b → sub_ℕ a b ≡ sub_ℕ c d
same_sub a b c d e = lt_cases a b
    (λ l t. rw (t, lt-ltb c d (omega arith)) (ap negsuc (omega arith)))
    (λ l t. rw (t, le-ltb c d (omega arith)) (ap pos (omega arith)))

-- ---- values that are not negative

whole : (z : ℤ) → non_neg z ≡ true → z ≡ pos (mag z)
whole (pos a) e = refl
whole (negsuc a) e = never (sym e)

-- 14 does not apply to a value
inside : (v : ℤ) (max : ℕ) → out_of_bounds v max ≡ false → (non_neg v ≡ true) × (mag v ≤ max)
inside (pos a) max e = let r : (ltb a 0 ≡ false) × (ltb max a ≡ false) = or_split e in (refl, ltb-false max a r.1)
inside (negsuc a) max e = never e

not_outside : (v : ℤ) (max : ℕ) → non_neg v ≡ true → mag v ≤ max → out_of_bounds v max ≡ false
not_outside (pos a) max e h = rw (le-ltb a 0 (omega arith), le-ltb max a h)
not_outside (negsuc a) max e h = never (sym e)

-- a sum of such integers is a sum of naturals
sum_whole : (n : ℕ) (f : ℕ → ℤ) (g : ℕ → ℕ) → ((k : ℕ) → k < n → f k ≡ pos (g k)) → sum_z n f ≡ pos (sum_to n g)
unfolding fold_to
sum_whole zero f g h = refl
sum_whole (suc n) f g h = rw (sum_whole n f g (λ k l. h k (omega arith)), h n (omega arith))

flow_whole : (n : ℕ) (ends : List ℕ) (vs : List ℤ) → ((e : ℕ) → e < n → non_neg (value_at vs e) ≡ true) → (p : ℕ) → flow n ends vs p ≡ pos (meets n (λ e. get_or ends e 0) (λ e. mag (value_at vs e)) p)
unfolding flow
flow_whole n ends vs h p = sum_whole n (flow_at ends vs p) (λ e. gate (eqb (get_or ends e 0) p) (mag (value_at vs e)))
    (λ e l. bool_cases (eqb (get_or ends e 0) p) (λ t. rw t (whole (value_at vs e) (h e l))) (λ t. rw t))

-- ---- the supplies, node by node

append_at {ℓ} : {A : Type ℓ} (xs ys : List A) (d : A) (m n : ℕ) → length xs ≡ m → get_or (xs ++ ys) (m + n) d ≡ get_or ys n d
append_at xs ys d m n e = rw (← e) (get_or-append-add xs ys n d)

module _ (l : Limits) (x : ModelInput) (g : Good l x) where
  abbrev C : ℕ
  C = x.day.choosers

  abbrev S : ℕ
  S = x.day.slots

  abbrev K : ℕ
  K = x.day.choices

  abbrev E : ℕ → ℕ
  E = entry_at (entries_of x)

  abbrev of_choosers : List ℤ
  of_choosers = table_to (C * S) chooser_supply

  abbrev of_choices : List ℤ
  of_choices = table_to K (choice_supply (entries_of x) x.day.mins)

  abbrev of_slots : List ℤ
  of_slots = table_to S (slot_supply (sizes_of l x.day) x.state.covered)

  front : length (of_choosers ++ of_choices) ≡ C * S + K
  front = omega (arith, length-append of_choosers of_choices, length_table (C * S) chooser_supply, length_table K (choice_supply (entries_of x) x.day.mins))

  abbrev supply : ℕ → ℤ
  supply p = get_or (network_of l x).supplies p (pos 0)

  supplies_length_lem : length (network_of l x).supplies ≡ C * S + K + S
  unfolding network_of supplies
  supplies_length_lem = omega (arith, front, length-append (of_choosers ++ of_choices) of_slots, length_table S (slot_supply (sizes_of l x.day) x.state.covered))

  supply_chooser : (p : ℕ) → p < C * S → supply p ≡ pos 1
  unfolding network_of supplies
  supply_chooser p h =
      get_or-append (of_choosers ++ of_choices) of_slots (pos 0) p (omega (arith, front))
      ∙ get_or-append of_choosers of_choices (pos 0) p (omega (arith, length_table (C * S) chooser_supply))
      ∙ table_at (C * S) chooser_supply (pos 0) p h

  supply_at : (k : ℕ) → k < K → supply (C * S + k) ≡ choice_supply (entries_of x) x.day.mins k
  unfolding network_of supplies
  supply_at k h =
      get_or-append (of_choosers ++ of_choices) of_slots (pos 0) (C * S + k) (omega (arith, front))
      ∙ append_at of_choosers of_choices (pos 0) (C * S) k (length_table (C * S) chooser_supply)
      ∙ table_at K (choice_supply (entries_of x) x.day.mins) (pos 0) k h

  supply_choice : (k : ℕ) → k < K → E k ≢ 0 → supply (C * S + k) ≡ sub_ℕ 0 ((frame_of l x g).least k)
  supply_choice k h d = supply_at k h ∙ rw (ne_eqb (E k) 0 d) (negation (entry_at x.day.mins k))

  supply_spare : (k : ℕ) → k < K → E k ≡ 0 → supply (C * S + k) ≡ sub_ℕ 0 0
  supply_spare k h d = supply_at k h ∙ rw (eq-eqb (E k) 0 d)

  supply_slot : (s : ℕ) → s < S → supply (C * S + K + s) ≡ sub_ℕ (covered_of (frame_of l x g) s) C
  unfolding network_of supplies
  supply_slot s h =
      append_at (of_choosers ++ of_choices) of_slots (pos 0) (C * S + K) s front
      ∙ table_at S (slot_supply (sizes_of l x.day) x.state.covered) (pos 0) s h
      ∙ difference (entry_at x.state.covered s) C
      ∙ ap (λ (n : ℕ). sub_ℕ n C) (g.covered s h)

  -- ---- balance of every node is balance by kind

  module _ (out inn : ℕ → ℕ) where
    Even : ℕ → Type 0
    Even p = sub_ℕ (out p) (inn p) ≡ supply p

    by_kind : ((p : ℕ) → p < C * S + K + S → sub_ℕ (out p) (inn p) ≡ supply p) → ByKind (frame_of l x g) out inn
    by_kind h = record {
      chooser = λ c s hc hs. omega (arith, sub_same (out (c * S + s)) (inn (c * S + s)) 1 0 (h (c * S + s) (omega (arith, grid_lt hc hs)) ∙ supply_chooser (c * S + s) (grid_lt hc hs)));
      choice = λ k hk hs. omega (arith, sub_same (out (C * S + k)) (inn (C * S + k)) 0 ((frame_of l x g).least k) (h (C * S + k) (omega arith) ∙ supply_choice k hk hs));
      spare = λ k hk hs. omega (arith, sub_same (out (C * S + k)) (inn (C * S + k)) 0 0 (h (C * S + k) (omega arith) ∙ supply_spare k hk hs));
      room = λ s hs. omega (arith, sub_same (out (C * S + K + s)) (inn (C * S + K + s)) (covered_of (frame_of l x g) s) C (h (C * S + K + s) (omega arith) ∙ supply_slot s hs));
    }

    balanced : ByKind (frame_of l x g) out inn → (p : ℕ) → p < C * S + K + S → sub_ℕ (out p) (inn p) ≡ supply p
    unfolding Even
    balanced b p h = lt_cases p (C * S)
        (λ i t.
        let hs : 0 < S = eq_cases S 0 (λ e w. absurd (omega (arith, ap (λ (z : ℕ). C * z) e))) (λ e w. omega arith) in
        subst Even (div-add-mod' p S) (chooser (p / S) (p % S) ((div-lt_iff_lt-mul hs).1 i) (mod-lt p hs)))
        (λ i t. lt_cases p (C * S + K)
        (λ m u. subst Even (omega arith) (choice (p - C * S) (omega arith)))
        (λ m u. subst Even (omega arith) (room (p - (C * S + K)) (omega arith))))
      where
        chooser : (c s : ℕ) → c < C → s < S → Even (c * S + s)
        chooser c s hc hs = same_sub (out (c * S + s)) (inn (c * S + s)) 1 0 (omega (arith, b.chooser c s hc hs)) ∙ sym (supply_chooser (c * S + s) (grid_lt hc hs))

        choice : (k : ℕ) → k < K → Even (C * S + k)
        choice k hk = eq_cases (E k) 0
            (λ e t. same_sub (out (C * S + k)) (inn (C * S + k)) 0 0 (omega (arith, b.spare k hk e)) ∙ sym (supply_spare k hk e))
            (λ e t. same_sub (out (C * S + k)) (inn (C * S + k)) 0 ((frame_of l x g).least k) (omega (arith, b.choice k hk e)) ∙ sym (supply_choice k hk e))

        room : (s : ℕ) → s < S → Even (C * S + K + s)
        room s hs = same_sub (out (C * S + K + s)) (inn (C * S + K + s)) (covered_of (frame_of l x g) s) C (omega (arith, b.room s hs)) ∙ sym (supply_slot s hs)

  -- ---- the two checks

  abbrev from_at : ℕ → ℕ
  from_at i = get_or (network_of l x).from i 0

  abbrev to_at : ℕ → ℕ
  to_at i = get_or (network_of l x).to i 0

  abbrev max_at : ℕ → ℕ
  max_at i = get_or (network_of l x).max i 0

  abbrev edges : ℕ
  edges = length (network_of l x).from

  module _ (vs : List ℤ) where
    abbrev v : ℕ → ℕ
    v e = mag (value_at vs e)

    -- values to which 14 and 17 do not apply
    pub record Passed : Type 0 where
      pub whole_values : (e : ℕ) → e < edge_count l x → non_neg (value_at vs e) ≡ true
      pub accepted : Accepted (frame_of l x g) (edge_count l x) from_at to_at max_at v

    sides : ((e : ℕ) → e < edges → non_neg (value_at vs e) ≡ true) → (p : ℕ)
        → flow edges (network_of l x).from vs p -ℤ flow edges (network_of l x).to vs p ≡ sub_ℕ (meets edges from_at v p) (meets edges to_at v p)
    sides h p =
        rw (flow_whole edges (network_of l x).from vs h p, flow_whole edges (network_of l x).to vs h p)
        (difference (meets edges from_at v p) (meets edges to_at v p))

    pub tests_passed : some_outside edges (network_of l x).max vs ≡ false
        → some_unbalanced (length (network_of l x).supplies) edges (network_of l x).from (network_of l x).to (network_of l x).supplies vs ≡ false → Passed
    unfolding some_outside some_unbalanced
    tests_passed o u =
        let a : (e : ℕ) → e < edges → (non_neg (value_at vs e) ≡ true) × (v e ≤ max_at e) = λ e h. inside (value_at vs e) (max_at e) (none_each edges (outside_at (network_of l x).max vs) o e h) in
        let n : edges ≡ edge_count l x = from_length l x g in
        record {
          whole_values = λ e h. (a e (omega arith)).0;
          accepted = record {
            within = λ e h. (a e (omega arith)).1;
            kinds = rw n at (by_kind (meets edges from_at v) (meets edges to_at v) (λ p h.
                sym (sides (λ e i. (a e i).0) p)
                ∙ same_eq_z _ _ (not-false _ (none_each (length (network_of l x).supplies) (unbalanced_at edges (network_of l x).from (network_of l x).to (network_of l x).supplies vs) u p (omega (arith, supplies_length_lem))))));
          };
        }

    pub passed_outside : Passed → some_outside edges (network_of l x).max vs ≡ false
    unfolding some_outside
    passed_outside p = each_none edges (outside_at (network_of l x).max vs) (λ e h.
        let i : e < edge_count l x = omega (arith, from_length l x g) in
        not_outside (value_at vs e) (max_at e) (p.whole_values e i) (p.accepted.within e i))

    pub passed_unbalanced : Passed → some_unbalanced (length (network_of l x).supplies) edges (network_of l x).from (network_of l x).to (network_of l x).supplies vs ≡ false
    unfolding some_unbalanced
    passed_unbalanced p = each_none (length (network_of l x).supplies) (unbalanced_at edges (network_of l x).from (network_of l x).to (network_of l x).supplies vs) (λ q h.
        let n : edge_count l x ≡ edges = sym (from_length l x g) in
        ap not (eq_z_same _ _ (
        sides (λ e i. p.whole_values e (omega arith)) q
        ∙ balanced (meets edges from_at v) (meets edges to_at v) (rw n at p.accepted.kinds) q (omega (arith, supplies_length_lem)))))
