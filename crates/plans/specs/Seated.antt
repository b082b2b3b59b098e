-- Plans that seat everybody and values by chooser and choice: each from the other. Assumes nothing.
use Prim.Native.Nat.{ℕ, zero, suc, ◌+◌, ◌-◌, ◌*◌, ◌≤◌, ◌<◌}
use Rattle.std.specs.Prelude.{◌≡◌, refl, Bool, false, cond, not, List, ◌≢◌, eqb, ltb, leb, length, get_or}
use Rattle.std.proofs.Math.Path.{sym, ap}
use Rattle.std.proofs.Common.{◌∙◌}
use Rattle.std.proofs.Math.Bool.{true}
use native.Mathlib.Omega.{arith}
use borrow.Author.Tests.{eq-eqb, ne_eqb, lt-ltb, le-ltb, ltb-true, leb-true, le-leb, not-true}
use Rattle.counting.specs.Fold.{gate, sum_to}
use Rattle.counting.specs.FoldLaws.{fold_suc}
use Rattle.counting.specs.Sums.{sum_zeros, sum_add, sum_swap, sum_only, sum_const, sum_mono, one_hot_same}
use Rattle.counting.specs.Tests.{bool_cases, eq_cases, lt_cases, eqb_sym, and_split}
use Rattle.constraint.specs.Cases.{target_operand}
use Rattle.constraint.specs.Kind.{kind_number, kind_of}
use Rattle.constraint.specs.declared.Constraint.{Constraint}
use Rattle.constraint.specs.declared.ConstraintType.{ConstraintType}
use Rattle.constraint.specs.declared.ConstraintType.TheVariants.{ChoosersHaveSameChoices}
use Rattle.input_data.specs.Accepted.{Accepted}
use Rattle.input_data.specs.Checks.{length_in, member_count}
use Rattle.input_data.specs.Day.{min_at, constraint_at}
use Rattle.input_data.specs.Fits.{kind_of_number, left_is, right_is}
use Rattle.input_data.specs.Operands.{left_case, right_case}
use Rattle.input_data.specs.declared.Limits.{Limits}
use Rattle.input_data.specs.declared.InputData.{InputData}
use Rattle.scheduling.specs.Schedule.{entry_at}
use Rattle.blocks.specs.Blocks.{cell}
use Rattle.schedule_state.specs.State.{blocked_at}
use Rattle.mip_flow.specs.Edges.{preference_of, is_open}
use Rattle.edge_groups.specs.Names.{member_start}
use Rattle.plans.specs.Model.{ModelInput, entries_of, offer_of}
use Rattle.plans.specs.Read.{ReadTogether}
use Rattle.plans.specs.Seatable.{choice_in, sits, seats_in, member_of, Seatable}
use Rattle.plans.specs.Good.{Good}
use Rattle.plans.specs.Pairs.{gate_on, gate_same, gate_nothing, sum_ext}
use Rattle.plans.specs.Flow.{Flow, present, present_true, present_seat, present_width, cap_of, covered_of}
use Rattle.plans.specs.SeatPairs.{frame_of, is_seat, seat_true}
use Rattle.plans.specs.Decode.{ReadFlow}

-- ---- operands of the day

same_cases : (k : ConstraintType) → kind_number k ≡ 65539 → (left_case k ≡ 3) × (right_case k ≡ 3)
unfolding kind_of
same_cases k e = let p : k ≡ ChoosersHaveSameChoices = sym (kind_of_number k) ∙ ap kind_of e in rw p (refl, refl)

module _ {l : Limits} {d : InputData} (a : Accepted l d) where
  module _ (j : ℕ) (h : j < d.assignment.count) (e : kind_number (constraint_at d.assignment j).kind ≡ 65539) where
    abbrev con : Constraint
    con = constraint_at d.assignment j

    pub left_chooser : (constraint_at d.assignment j).left < d.choosers
    left_chooser = ltb-true _ _ (rw (same_cases con.kind e).0 at (left_is d.choosers d.choices d.slots con (a.assignment.operands j h)))

    pub right_chooser : target_operand (constraint_at d.assignment j).right < d.choosers
    right_chooser = ltb-true _ _ (rw (same_cases con.kind e).1 at (right_is d.choosers d.choices d.slots con (a.assignment.operands j h)))

  -- a group's members are among those that are counted
  pub member_choice : (g : ℕ) → g < d.groups → (i : ℕ) → i < entry_at d.lengths g → member_of d g i < d.choices
  unfolding member_start member_count
  member_choice g h i b = a.member (member_start d.lengths g + i) (omega (
    arith,
    fold_suc ◌+◌ 0 g (entry_at d.lengths),
    sum_ext (suc g) (entry_at d.lengths) (length_in d.groups d.lengths) (λ k c. sym (gate_on (entry_at d.lengths k) (lt-ltb k d.groups (omega arith)))),
    sum_mono (suc g) 16 (length_in d.groups d.lengths) (omega (arith, a.groups)),
  ))

module _ (l : Limits) (x : ModelInput) (g : Good l x) (plan : List ℕ) where
  abbrev C : ℕ
  C = x.day.choosers

  abbrev S : ℕ
  S = x.day.slots

  abbrev K : ℕ
  K = x.day.choices

  abbrev E : ℕ → ℕ
  E = entry_at (entries_of x)

  abbrev P : ℕ → ℕ → ℕ
  P = choice_in x.day plan

  abbrev sit : ℕ → ℕ → Bool
  sit = sits x.day (entries_of x) plan

  -- ---- what an open seat is

  open_tests : (c k : ℕ) → is_open (offer_of l x) c k ≡ true → (leb (get_or x.preferences (c * K + k) 0) x.limit ≡ true) × (not (get_or x.state.blocks (cell c k) false) ≡ true)
  unfolding is_open preference_of
  open_tests c k e = and_split e

  open_preference : (c k : ℕ) → is_open (offer_of l x) c k ≡ true → get_or x.preferences (c * K + k) 0 ≤ x.limit
  unfolding is_open preference_of
  open_preference c k e = leb-true _ _ (open_tests c k e).0

  open_unblocked : (c k : ℕ) → c < C → k < K → is_open (offer_of l x) c k ≡ true → blocked_at x.day (entries_of x) c k ≡ false
  unfolding is_open preference_of
  open_unblocked c k h i e = sym (g.blocks c k h i) ∙ not-true _ (open_tests c k e).1

  open_is : (c k : ℕ) → c < C → k < K → get_or x.preferences (c * K + k) 0 ≤ x.limit → blocked_at x.day (entries_of x) c k ≡ false → is_open (offer_of l x) c k ≡ true
  unfolding is_open preference_of
  open_is c k h i p b = rw (le-leb _ _ p, g.blocks c k h i, b)

  -- the plan stands in a table of values
  pub record Reads (X : ℕ → ℕ → ℕ) (c s : ℕ) : Type 0 where
    pub choice : choice_in x.day plan c s < K
    pub slot : E (choice_in x.day plan c s) ≡ suc s
    pub one : X c (choice_in x.day plan c s) ≡ 1

  suc_of : (n : ℕ) → n ≢ 0 → suc (n - 1) ≡ n
  suc_of zero d = absurd (d refl)
  suc_of (suc n) d = omega arith

  inside : (k : ℕ) → k < K → E k ≢ 0 → E k - 1 < S
  inside k h d = omega (arith, g.fits k h, suc_of (E k) d)

  -- ---- values give a plan

  module _ (X : ℕ → ℕ → ℕ) (ok : ReadFlow l x X) (reads : (c s : ℕ) → c < C → s < S → Reads X c s) where
    -- a value says who sits where
    pub seat_value : (c k : ℕ) → c < C → k < K → E k ≢ 0 → X c k ≡ gate (sits x.day (entries_of x) plan c k) 1
    seat_value c k hc hk d =
        let s = E k - 1 in
        let hs : E k - 1 < S = inside k hk d in
        let r : Reads X c (E k - 1) = reads c (E k - 1) hc hs in
        let n : suc (E k - 1) ≡ E k = suc_of (E k) d in
        eq_cases (P c (E k - 1)) k
        (λ e t. rw t (ap (X c) (sym e) ∙ r.one))
        (λ e t. rw t (eq_cases (X c k) 0 (λ z w. z) (λ z w. absurd (e (
        one_hot_same K (λ j. gate (eqb (E j) (suc (E k - 1))) (X c j)) (ok.chooser c (E k - 1) hc hs) (P c (E k - 1)) k r.choice hk
        (λ q. omega (arith, r.one, gate_on (X c (P c (E k - 1))) (eq-eqb (E (P c (E k - 1))) (suc (E k - 1)) r.slot)))
        (λ q. z (sym (gate_on (X c k) (eq-eqb (E k) (suc (E k - 1)) (sym n))) ∙ q)))))))

    seats_sum : (k : ℕ) → k < K → E k ≢ 0 → seats_in x.day (entries_of x) plan k ≡ sum_to C (λ c. X c k)
    seats_sum k hk d = sym (sum_ext C (λ c. X c k) (λ c. gate (sit c k) 1) (λ c h. seat_value c k h hk d))

    -- so what is equal in the values is equal in the plan
    sits_same : (a b i j : ℕ) → a < C → b < C → i < K → j < K → E i ≢ 0 → E j ≢ 0 → X a i ≡ X b j → sit a i ≡ sit b j
    sits_same a b i j ha hb hi hj di dj e = gate_same (sit a i) (sit b j) (sym (seat_value a i ha hi di) ∙ e ∙ seat_value b j hb hj dj)

    pub flow_seatable : length plan ≡ C * S → ReadTogether x.day (entries_of x) X → Seatable x.day (entries_of x) x.limit x.preferences plan
    flow_seatable long tog =
        let day = g.ready.day in
        record {
          long = long;
          seat = λ c s hc hs.
              let r : Reads X c s = reads c s hc hs in
              let o : is_open (offer_of l x) c (P c s) ≡ true = bool_cases (is_seat l x c (P c s))
              (λ e. (seat_true l x g c (P c s) e).open_seat)
              (λ e. absurd (omega (arith, r.one, ok.off c (P c s) hc r.choice e))) in
              record { choice = r.choice; slot = r.slot; preference = open_preference c (P c s) o; unblocked = open_unblocked c (P c s) hc r.choice o };
          least = λ k hk d. omega (arith, seats_sum k hk d, ok.least k hk d);
          most = λ k hk d. omega (arith, seats_sum k hk d, ok.most k hk d);
          same = λ j h e k hk d. sits_same _ _ k k (left_chooser day j h e) (right_chooser day j h e) hk hk d d (tog.same j h e k hk d);
          together = λ q h e c hc i j hi hj di dj. sits_same c c _ _ hc hc (member_choice day q h i hi) (member_choice day q h j hj) di dj (tog.together q h e c hc i j hi hj di dj);
        }

    -- .. and the other way round
    pub seated_together : Seatable x.day (entries_of x) x.limit x.preferences plan → ReadTogether x.day (entries_of x) X
    seated_together ok =
        let day = g.ready.day in
        record {
          same = λ j h e k hk d. value_same _ _ k k (left_chooser day j h e) (right_chooser day j h e) hk hk d d (ok.same j h e k hk d);
          together = λ q h e c hc i j hi hj di dj. value_same c c _ _ hc hc (member_choice day q h i hi) (member_choice day q h j hj) di dj (ok.together q h e c hc i j hi hj di dj);
        }
      where
        value_same : (a b i j : ℕ) → a < C → b < C → i < K → j < K → E i ≢ 0 → E j ≢ 0 → sit a i ≡ sit b j → X a i ≡ X b j
        value_same a b i j ha hb hi hj di dj e = seat_value a i ha hi di ∙ ap (λ (t : Bool). gate t 1) e ∙ sym (seat_value b j hb hj dj)

  -- ---- a plan gives values

  abbrev count : ℕ → ℕ
  count = seats_in x.day (entries_of x) plan

  -- 1 where a chooser sits, and for a choice how many sit there above its min
  unfoldable pub table : ℕ → ℕ → ℕ
  table a k = gate (present (frame_of l x g) a k) (cond (ltb a C) (gate (sits x.day (entries_of x) plan a k) 1) (seats_in x.day (entries_of x) plan k - min_at x.day k))

  module _ (ok : Seatable x.day (entries_of x) x.limit x.preferences plan) where
    table_seat : (c k : ℕ) → c < C → k < K → E k ≢ 0 → table c k ≡ gate (sit c k) 1
    unfolding table
    table_seat c k hc hk d = rw (lt-ltb c C hc) (eq_cases (P c (E k - 1)) k
        (λ e t.
        let r = ok.seat c (E k - 1) hc (inside k hk d) in
        let m : is_open (offer_of l x) c k ≡ true = ap (is_open (offer_of l x) c) (sym e) ∙ open_is c (P c (E k - 1)) hc r.choice r.preference r.unblocked in
        rw (t, present_seat (frame_of l x g) c k hc hk d m))
        (λ e t. rw t (gate_nothing (present (frame_of l x g) c k))))

    table_width : (k : ℕ) → k < K → E k ≢ 0 → table C k ≡ count k - min_at x.day k
    unfolding table
    table_width k hk d = rw (present_width (frame_of l x g) k hk d, le-ltb C C (omega arith))

    table_off : (a k : ℕ) → present (frame_of l x g) a k ≡ false → table a k ≡ 0
    unfolding table
    table_off a k e = rw e

    table_chooser : (c s : ℕ) → c < C → s < S → sum_to K (λ k. gate (eqb (E k) (suc s)) (table c k)) ≡ 1
    table_chooser c s hc hs =
        let r = ok.seat c s hc hs in
        sum_ext K (λ k. gate (eqb (E k) (suc s)) (table c k)) (λ k. gate (eqb k (P c s)) 1) (λ k h. eq_cases (E k) (suc s)
        (λ e t.
        let n : E k - 1 ≡ s = omega arith in
        rw (t, table_seat c k hc h (λ z. omega arith), n, eqb_sym (P c s) k))
        (λ e t. rw (t, ne_eqb k (P c s) (λ q. e (ap E q ∙ r.slot)))))
        ∙ sum_only K (λ k. 1) (P c s) r.choice

    table_choice : (k : ℕ) → k < K → E k ≢ 0 → table C k + min_at x.day k ≡ sum_to C (λ c. table c k)
    table_choice k hk d = omega (arith, table_width k hk d, ok.least k hk d, sum_ext C (λ c. table c k) (λ c. gate (sit c k) 1) (λ c h. table_seat c k h hk d))

    table_within : (a k : ℕ) → table a k ≤ cap_of (frame_of l x g) a k
    unfolding table cap_of
    table_within a k = bool_cases (present (frame_of l x g) a k)
        (λ e.
        let r = present_true (frame_of l x g) a k e in
        rw e (lt_cases a C
        (λ h t. rw t (bool_cases (sit a k) (λ w. rw w (omega arith)) (λ w. rw w (omega arith))))
        (λ h t. rw t (omega (arith, ok.most k r.item r.placed)))))
        (λ e. rw e (omega arith))

    table_room : (s : ℕ) → s < S → C ≡ sum_to K (λ k. gate (eqb (E k) (suc s)) (table C k)) + covered_of (frame_of l x g) s
    table_room s hs = omega (
      arith,
      sum_add K (λ k. gate (eqb (E k) (suc s)) (table C k)) (λ k. gate (eqb (E k) (suc s)) (min_at x.day k)),
      sum_ext K (λ k. gate (eqb (E k) (suc s)) (table C k) + gate (eqb (E k) (suc s)) (min_at x.day k)) (λ k. sum_to C (λ c. gate (eqb (E k) (suc s)) (table c k))) (λ k h. eq_cases (E k) (suc s)
          (λ e t. rw t (table_choice k h (λ z. omega arith)))
          (λ e t. rw t (sym (sum_zeros C (λ c. 0) (λ c w. refl))))),
      sum_swap K C (λ k c. gate (eqb (E k) (suc s)) (table c k)),
      sum_ext C (λ c. sum_to K (λ k. gate (eqb (E k) (suc s)) (table c k))) (λ c. 1) (λ c h. table_chooser c s h hs),
      sum_const C 1,
    )

    pub table_flow : Flow (frame_of l x g) table
    table_flow = record { off = table_off; within = table_within; chooser = table_chooser; choice = table_choice; room = table_room }

    pub table_reads : (c s : ℕ) → c < C → s < S → Reads table c s
    table_reads c s hc hs =
        let r = ok.seat c s hc hs in
        let n : E (P c s) - 1 ≡ s = omega (arith, r.slot) in
        record {
          choice = r.choice;
          slot = r.slot;
          one = table_seat c (P c s) hc r.choice (λ z. omega (arith, r.slot)) ∙ rw (n, eq-eqb (P c s) (P c s) refl);
        }
