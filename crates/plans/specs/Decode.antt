-- Values that 14 and 17 pass, read by chooser and choice, and the plan that they decode to. Assumes nothing.
use Rattle.std.specs.Prelude.{ℕ, zero, suc, ◌+◌, ◌*◌, ◌≤◌, ◌<◌, ◌≡◌, refl, Bool, true, false, List, [], ◌++◌, ◌≢◌, eqb, ltb, ℤ, pos, negsuc, length, get_or}
use Rattle.std.proofs.Common.{sym, ◌∙◌, arith, get_or-append-add}
use Rattle.std.proofs.Math.Path.{ap}
use Rattle.std.specs.Int.Signed.{mag, non_neg}
use Rattle.std.proofs.Math.ListN.{get_or-append}
use borrow.Author.Tests.{eqb-true, eq-eqb, lt-ltb, le-ltb, ltb-true}
use Rattle.counting.specs.Fold.{gate, sum_to, join_to, table_to}
use Rattle.counting.specs.FoldLaws.{fold_suc}
use Rattle.counting.specs.HoldsLaws.{holds_in, holds_has}
use Rattle.counting.specs.Ints.{eq_z}
use Rattle.counting.specs.Lists.{length_table, table_at, length_join}
use Rattle.counting.specs.Search.{first_to}
use Rattle.counting.specs.SearchLaws.{first_passes, first_found}
use Rattle.counting.specs.Sums.{sum_const, OneHot, one_hot, one_hot_same, grid_lt}
use Rattle.counting.specs.Tests.{eq_cases, lt_cases, and_split, never}
use Rattle.input_data.specs.Accepted.{first_zero}
use Rattle.input_data.specs.Checks.{first_of}
use Rattle.input_data.specs.Day.{min_at, max_at}
use Rattle.input_data.specs.Lengths.{Within}
use Rattle.input_data.specs.declared.Limits.{Limits}
use Rattle.scheduling.specs.Schedule.{entry_at}
use Rattle.schedule_state.specs.Good.{choices_most}
use Rattle.mip_flow.specs.Index.{edge_of}
use Rattle.model_buffers.specs.declared.Lengths.{Lengths}
use Rattle.decoding.specs.Decode.{is_one, has_one, choice_for, decoded}
use Rattle.edge_values.specs.Values.{Network, value_at, some_outside, some_used, some_uneven, some_unbalanced, values_number}
use Rattle.plans.specs.Model.{ModelInput, entries_of, count_of, list_of, seats_of, network_of, plan_of, number_with}
use Rattle.plans.specs.Read.{read}
use Rattle.plans.specs.Good.{Good, good}
use Rattle.plans.specs.Pairs.{gate_on, gate_one, and_join, sum_ext, value}
use Rattle.plans.specs.Flow.{Flow, cap_of, accepted_flow}
use Rattle.plans.specs.SeatPairs.{frame_of, is_seat, seat_present, edge_count, row_at, item_at, model_edges, read_value}
use Rattle.plans.specs.Balance.{Passed, tests_passed}

-- ---- none of 14 to 17 applies

pub record AllPassed (m : Network) (vs : List ℤ) : Type 0 where
  pub outside : some_outside (length m.from) m.max vs ≡ false
  pub used : some_used (length m.blocked) m.blocked vs ≡ false
  pub uneven : some_uneven m.groups vs ≡ false
  pub unbalanced : some_unbalanced (length m.supplies) (length m.from) m.from m.to m.supplies vs ≡ false

pub all_passed : (m : Network) (vs : List ℤ) → values_number m vs ≡ 0 → AllPassed m vs
unfolding values_number
all_passed m vs e =
    let a = first_zero _ 14 _ (omega arith) e in
    let b = first_zero _ 15 _ (omega arith) a.1 in
    let c = first_zero _ 16 _ (omega arith) b.1 in
    let d = first_zero _ 17 _ (omega arith) c.1 in
    record { outside = a.0; used = b.0; uneven = c.0; unbalanced = d.0 }

pub values_zero : (m : Network) (vs : List ℤ) → AllPassed m vs → values_number m vs ≡ 0
unfolding values_number first_of
values_zero m vs a = rw (a.outside, a.used, a.uneven, a.unbalanced)

-- ---- a plan as a list

module _ (n m : ℕ) (f : ℕ → ℕ → ℕ) where
  abbrev rows : ℕ → List ℕ
  rows k = join_to k (λ c. table_to m (f c))

  rows_length : (k : ℕ) → length (join_to k (λ c. table_to m (f c))) ≡ k * m
  rows_length k = length_join k (λ c. table_to m (f c)) ∙ sum_ext k (λ c. length (table_to m (f c))) (λ c. m) (λ c h. length_table m (f c)) ∙ sum_const k m

  rows_at : (k c s : ℕ) → c < k → s < m → get_or (join_to k (λ c. table_to m (f c))) (c * m + s) 0 ≡ f c s
  rows_at zero c s hc hs = absurd (omega arith)
  rows_at (suc k) c s hc hs = rw (fold_suc ◌++◌ [] k (λ c. table_to m (f c))) (eq_cases c k
      (λ p t. rw (p, ← rows_length k) (get_or-append-add (rows k) (table_to m (f k)) s 0 ∙ table_at m (f k) 0 s hs))
      (λ p t. let i : c < k = omega arith in
      get_or-append (rows k) (table_to m (f k)) 0 (c * m + s) (omega (arith, rows_length k, grid_lt i hs)) ∙ rows_at k c s i hs))

-- a value that is not negative is 1 if its magnitude is
one_is : (z : ℤ) → non_neg z ≡ true → eq_z z (pos 1) ≡ eqb (mag z) 1
unfolding eq_z
one_is (pos a) e = refl
one_is (negsuc a) e = never (sym e)

module _ (l : Limits) (x : ModelInput) where
  abbrev C : ℕ
  C = x.day.choosers

  abbrev S : ℕ
  S = x.day.slots

  abbrev K : ℕ
  K = x.day.choices

  abbrev E : ℕ → ℕ
  E = entry_at (entries_of x)

  -- what 14 and 17 say of values by chooser and choice
  pub record ReadFlow (X : ℕ → ℕ → ℕ) : Type 0 where
    pub most_one : (c k : ℕ) → c < C → k < K → X c k ≤ 1
    -- nothing where there is no open seat
    pub off : (c k : ℕ) → c < C → k < K → is_seat l x c k ≡ false → X c k ≡ 0
    -- every chooser has one choice in every slot
    pub chooser : (c s : ℕ) → c < C → s < S → sum_to K (λ k. gate (eqb (E k) (suc s)) (X c k)) ≡ 1
    -- every scheduled choice has from min to max choosers
    pub least : (k : ℕ) → k < K → E k ≢ 0 → min_at x.day k ≤ sum_to C (λ c. X c k)
    pub most : (k : ℕ) → k < K → E k ≢ 0 → sum_to C (λ c. X c k) ≤ max_at x.day k

  module _ (g : Good l x) (vs : List ℤ) (p : Passed l x g vs) where
    abbrev X : ℕ → ℕ → ℕ
    X = read (seats_of l x) vs

    abbrev at : ℕ → ℕ → ℕ
    at = value (edge_count l x) (row_at l x) (item_at l x) (λ i. mag (value_at vs i))

    narrow : (k : ℕ) → k < K → k < 32
    narrow k h = omega (arith, choices_most g.ready)

    same : (c k : ℕ) → c < C → k < K → X c k ≡ at c k
    same c k h i = read_value l x g vs c k h (narrow k i)

    whole_flow : Flow (frame_of l x g) at
    whole_flow = accepted_flow (frame_of l x g) (model_edges l x g) (λ i. mag (value_at vs i)) p.accepted

    pub read_flow : ReadFlow (read (seats_of l x) vs)
    unfolding cap_of
    read_flow = record {
      most_one = λ c k h i. omega (arith, same c k h i, rw (lt-ltb c C h) at (whole_flow.within c k));
      off = λ c k h i e. same c k h i ∙ whole_flow.off c k (sym (seat_present l x g c k h) ∙ e);
      chooser = λ c s h i. sum_ext K (λ k. gate (eqb (E k) (suc s)) (X c k)) (λ k. gate (eqb (E k) (suc s)) (at c k)) (λ k j. ap (λ (z : ℕ). gate (eqb (E k) (suc s)) z) (same c k h j)) ∙ whole_flow.chooser c s h i;
      least = λ k h d. omega (arith, seated k h, whole_flow.choice k h d);
      most = λ k h d. omega (arith, seated k h, whole_flow.choice k h d, g.ready.day.min_max k h, rw (le-ltb C C (omega arith)) at (whole_flow.within C k));
    }
      where
        seated : (k : ℕ) → k < K → sum_to C (λ c. X c k) ≡ sum_to C (λ c. at c k)
        seated k h = sum_ext C (λ c. X c k) (λ c. at c k) (λ c i. same c k i h)

    -- ---- decoding

    -- an edge is there and has 1 where 1 is read
    one_read : (c k : ℕ) → c < C → k < K → is_one (length (seats_of l x)) vs (edge_of (seats_of l x) c k) ≡ eqb (X c k) 1
    unfolding read
    one_read c k h i = lt_cases (edge_of (seats_of l x) c k) (length (seats_of l x))
        (λ b t. rw t (one_is (value_at vs (edge_of (seats_of l x) c k)) (p.whole_values (edge_of (seats_of l x) c k) (omega arith))))
        (λ b t. rw t)

    abbrev finds : ℕ → ℕ → ℕ → Bool
    finds c s = has_one (length (seats_of l x)) vs (edge_of (seats_of l x)) (list_of l x s) c

    -- k is a choice of slot s that chooser c has
    pub record Has (c s k : ℕ) : Type 0 where
      pub choice : k < K
      pub slot : E k ≡ suc s
      pub one : read (seats_of l x) vs c k ≡ 1

    some_choice : (c s : ℕ) → c < C → s < S → (k : ℕ) × Has c s k
    some_choice c s h i =
        let r : OneHot K (λ k. gate (eqb (E k) (suc s)) (X c k)) = one_hot K (λ k. gate (eqb (E k) (suc s)) (X c k)) (read_flow.chooser c s h i) in
        let t : eqb (E r.at) (suc s) ≡ true = gate_one (eqb (E r.at) (suc s)) (X c r.at) r.hot in
        (r.at, record { choice = r.below; slot = eqb-true (E r.at) (suc s) t; one = sym (gate_on (X c r.at) t) ∙ r.hot })

    -- there is one alone
    pub has_same : (c s j k : ℕ) → c < C → s < S → Has c s j → Has c s k → j ≡ k
    has_same c s j k h i a b =
        one_hot_same K (λ q. gate (eqb (E q) (suc s)) (X c q)) (read_flow.chooser c s h i) j k a.choice b.choice
        (λ z. omega (arith, a.one, gate_on (X c j) (eq-eqb (E j) (suc s) a.slot)))
        (λ z. omega (arith, b.one, gate_on (X c k) (eq-eqb (E k) (suc s) b.slot)))

    -- .. and the search finds it
    pub finds_one : (c s : ℕ) → c < C → s < S → first_to (count_of x s) (finds c s) < count_of x s
    finds_one c s h i =
        let k = some_choice c s h i in
        let j = holds_has (g.lists.at s i) k.0 (and_join (lt-ltb k.0 K k.1.choice) (eq-eqb (E k.0) (suc s) k.1.slot)) in
        first_found (count_of x s) (finds c s) j.0 j.1
        (rw j.2 (one_read c k.0 h k.1.choice ∙ eq-eqb (X c k.0) 1 k.1.one))

    abbrev chosen : ℕ → ℕ → ℕ
    chosen = choice_for (length (seats_of l x)) vs (edge_of (seats_of l x)) (count_of x) (list_of l x)

    pub chosen_has : (c s : ℕ) → c < C → s < S → Has c s (chosen c s)
    unfolding choice_for
    chosen_has c s h i =
        let n = first_to (count_of x s) (finds c s) in
        let f : first_to (count_of x s) (finds c s) < count_of x s = finds_one c s h i in
        let m : (ltb (chosen c s) K ≡ true) × (eqb (E (chosen c s)) (suc s) ≡ true) = and_split (holds_in (g.lists.at s i) n f) in
        let b : chosen c s < K = ltb-true (chosen c s) K m.0 in
        record {
          choice = b;
          slot = eqb-true (E (chosen c s)) (suc s) m.1;
          one = eqb-true (X c (chosen c s)) 1 (sym (one_read c (chosen c s) h b) ∙ first_passes (count_of x s) (finds c s) f);
        }

  module _ (vs : List ℤ) where
    pub plan_length_lem : length (plan_of l x vs) ≡ C * S
    unfolding plan_of decoded
    plan_length_lem = rows_length C S (choice_for (length (seats_of l x)) vs (edge_of (seats_of l x)) (count_of x) (list_of l x)) C

    pub plan_at : (c s : ℕ) → c < C → s < S → get_or (plan_of l x vs) (c * S + s) 0 ≡ choice_for (length (seats_of l x)) vs (edge_of (seats_of l x)) (count_of x) (list_of l x) c s
    unfolding plan_of decoded
    plan_at c s h i = rows_at C S (choice_for (length (seats_of l x)) vs (edge_of (seats_of l x)) (count_of x) (list_of l x)) C c s h i

module _ (l : Limits) (x : ModelInput) (lens : Lengths) (short : Bool) (w : Within l) (e : number_with l x lens short ≡ 0) (vs : List ℤ) (v : values_number (network_of l x) vs ≡ 0) where
  pub values_passed : Passed l x (good l x lens short w e) vs
  values_passed = let a = all_passed (network_of l x) vs v in tests_passed l x (good l x lens short w e) vs a.outside a.unbalanced

  -- for accepted values the decoder finds a choice for every chooser in every slot
  pub found : (c s : ℕ) → c < x.day.choosers → s < x.day.slots
      → first_to (count_of x s) (has_one (length (seats_of l x)) vs (edge_of (seats_of l x)) (list_of l x s) c) < count_of x s
  found c s h i = finds_one l x (good l x lens short w e) vs values_passed c s h i
