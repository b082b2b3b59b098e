-- A run is the search (Run.antt): steps driven by answers make the asks of SPEC 9, in order, and its result. Assumes nothing.
use Rattle.std.specs.Prelude.{ℕ, suc, ◌+◌, ◌-◌, ◌<◌, ◌≤◌, ◌≡◌, Bool, cond, not, ◌&&◌, ◌||◌, ◌≢◌, eqb, leb, length}
use Rattle.std.proofs.Math.Path.{refl, ap}
use Rattle.std.proofs.Common.{sym, ap₂, ◌∙◌, zero-add, add-zero}
use Rattle.std.proofs.Math.Bool.{true, false}
use mathlib.Core.List.{List, [], ◌∷◌, ◌++◌}
use Rattle.std.proofs.Math.Nat.{le_refl}
use native.Mathlib.Omega.{arith}
use Rattle.std.proofs.Math.Dec.{ltb}
use borrow.Author.Tests.{ne_eqb, lt-ltb, le-ltb, lt-leb, not-true}
use Rattle.counting.specs.FoldLaws.{fold_ext}
use Rattle.counting.specs.Fold.{gate, only_if}
use Rattle.counting.specs.Lists.{table_at}
use Rattle.counting.specs.Tests.{bool_cases, lt_cases, eq_cases, never, or_split, and_split, below_each, each_below}
use Rattle.input_data.specs.Accepted.{past, first_zero, number_past}
use Rattle.input_data.specs.Checks.{first_of, day_number}
use Rattle.input_data.specs.Lengths.{Within}
use Rattle.input_data.specs.declared.Limits.{Limits}
use Rattle.input_data.specs.declared.InputData.{InputData}
use Rattle.scheduling.specs.Schedule.{entry_at, kept, bad_entry_at, bad_slots}
use Rattle.scheduling.specs.ScheduleLaws.{kept_at_lem, kept_twice}
use Rattle.scheduling.specs.declared.Scheduling.{Scheduling}
use Rattle.scheduling.specs.Handed.{outside, kept_of}
use Rattle.assignment.specs.Calls.{seats}
use Rattle.assignment.specs.Plan.{kept_plan, kept_seat, bad_plan_for, unseated}
use Rattle.preference_search.specs.Search.{LimitSolveResult, Feasible, Infeasible, Incomplete, Told, told, Ask, Outcome, nothing, marked, is_feasible, found_at, learnt, learnt_greedy, ask_at, ended, waiting, asked, level_at, start_of, middle, ends_at, low_after, high_after, search_from, search_levels, search_greedy, searched, most_asks}
use Rattle.preference_search.specs.Steps.{Step, step, search_with, search_answer, search_refused, remembers, recalled, remembered, over, next, begun_levels, begun_step, begun_answer, known_by, told_step, told_answer}
use Rattle.preference_search_checks.specs.Checks.{beside_levels, wrong_length, bad_if, outside_cached, bad_cached, begin_number, spent_at, spent, bad_told, held_number, tell_number}
use Rattle.assignment_solver.specs.Calls.{begin_answer, tell_answer}
use Rattle.preference_search.specs.Laws.{middle_least, middle_most, above_start, low_above}
use Rattle.preference_search_checks.specs.Numbers.{day_small, day_few}
use Rattle.assignment.specs.Laws.{Small, seats_most}
use Rattle.preference_search_runs.specs.Run.{after, run, ask_of, asked_after, asks_of, counts, counted, outcome, memory, RunIsSearch}
use Rattle.preference_search.specs.declared.CachedAssignment.{CachedAssignment}
use Rattle.preference_search.specs.declared.Known.{Known}
use Rattle.preference_search.specs.declared.Search.{Search}
use Rattle.preference_search.specs.declared.SearchAnswer.{SearchAnswer}

-- ---- what is handed back

-- 13 reads no byte past the last seat
kept_good : (choices n : ℕ) (sch plan : List ℕ) → n ≤ 512 → bad_plan_for choices n sch (kept_plan n plan) ≡ bad_plan_for choices n sch plan
unfolding bad_plan_for
kept_good choices n sch plan h = fold_ext ◌||◌ false n (unseated choices sch (kept_plan n plan)) (unseated choices sch plan)
    (λ i b. ap (λ k. leb choices k || eqb (entry_at sch k) 0) (table_at 512 (kept_seat n plan) 0 i (omega arith) ∙ ap (λ (t : Bool). gate t (entry_at plan i)) (lt-ltb i n b)))

gate_twice : (b : Bool) (x : ℕ) → gate b (gate b x) ≡ gate b x
gate_twice true x = refl
gate_twice false x = refl

-- what is handed back is handed back as it is
plan_twice : (n : ℕ) (plan : List ℕ) → kept_plan n (kept_plan n plan) ≡ kept_plan n plan
plan_twice n plan = fold_ext ◌++◌ [] 512 (λ i. kept_seat n (kept_plan n plan) i ∷ []) (λ i. kept_seat n plan i ∷ [])
    (λ i h. ap (λ (v : ℕ). v ∷ []) (ap (gate (ltb i n)) (table_at 512 (kept_seat n plan) 0 i h) ∙ gate_twice (ltb i n) (entry_at plan i)))

-- ---- an answer is taken, or the caller keeps what it has

module _ (l : Limits) (d : InputData) (levels : List ℕ) where
  tell_refused : (s : Search) (t : Told) → tell_number l d s levels t ≢ 0 → tell_answer l d s levels t ≡ search_refused (tell_number l d s levels t)
  unfolding tell_answer
  tell_refused s t n = rw (ne_eqb (tell_number l d s levels t) 0 n)

  tell_done : (s : Search) (t : Told) → tell_number l d s levels t ≡ 0 → tell_answer l d s levels t ≡ told_answer d s levels t
  unfolding tell_answer
  tell_done s t e = rw e

  told_number : (s : Search) (t : Told) → (told_answer d s levels t).number ≡ 0
  unfolding told_answer
  told_number s t = refl

  module _ (a : SearchAnswer) (t : Told) where
    module _ (n : tell_number l d a.search levels t ≢ 0) where
      pub after_refused : after l d levels a t ≡ a
      unfolding after
      after_refused = rw (tell_refused a.search t n, ne_eqb (tell_number l d a.search levels t) 0 n)

      run_refused : (ts : List Told) → run l d levels a (t ∷ ts) ≡ run l d levels a ts
      unfolding run
      run_refused ts = ap (λ b. run l d levels b ts) after_refused

      asked_refused : (ts : List Told) → asked_after l d levels a (t ∷ ts) ≡ asked_after l d levels a ts
      unfolding asked_after
      asked_refused ts = rw (after_refused, tell_refused a.search t n, ne_eqb (tell_number l d a.search levels t) 0 n)

    module _ (e : tell_number l d a.search levels t ≡ 0) where
      pub after_done : after l d levels a t ≡ told_answer d a.search levels t
      unfolding after
      after_done = rw (tell_done a.search t e, told_number a.search t)

      run_done : (ts : List Told) → run l d levels a (t ∷ ts) ≡ run l d levels (told_answer d a.search levels t) ts
      unfolding run
      run_done ts = ap (λ b. run l d levels b ts) after_done

      asked_done : (ts : List Told) → asked_after l d levels a (t ∷ ts) ≡ asks_of l d levels (told_answer d a.search levels t) ts
      unfolding asked_after
      asked_done ts = rw (after_done, tell_done a.search t e, told_number a.search t)

  -- a search that has ended takes no answer
  pub ended_refuses : (s : Search) (t : Told) → s.asking ≡ false → tell_number l d s levels t ≢ 0
  unfolding tell_number held_number spent_at
  ended_refuses s t e z =
      let p = (past l d (beside_levels d levels (wrong_length l t)) (held_number d s (length levels) t) z).none in
      let q = first_zero (outside d s.schedule || outside_cached d s.cached) 11 _ (omega arith) p in
      let r = first_zero (bad_told d s t) 13 _ (omega arith) q.1 in
      let u = first_zero (spent s (length levels)) 18 0 (omega arith) r.1 in
      never (rw e at u.0)

  ended_stays : (a : SearchAnswer) → a.search.asking ≡ false → (ts : List Told) → (run l d levels a ts ≡ a) × (asked_after l d levels a ts ≡ [])
  unfolding run asked_after
  ended_stays a e [] = (refl, refl)
  ended_stays a e (t ∷ ts) =
      let n = ended_refuses a.search t e in
      let r = ended_stays a e ts in
      (run_refused a t n ts ∙ r.0, asked_refused a t n ts ∙ r.1)

-- ---- a run from some ask on

-- SameAsSearch, with n asks counted before
record Makes (n : ℕ) (o : Outcome) (m : CachedAssignment) (asks : List Ask) (a : SearchAnswer) : Type 0 where
  asks_are : asks ≡ o.asks
  count_is : a.search.asks ≡ n + length o.asks
  knows_it : known_by a.search ≡ o.known
  waits : a.search.asking ≡ not o.over
  remembers_it : a.search.cached ≡ m

ask_yes : (a : SearchAnswer) → a.search.asking ≡ true → ask_of a ≡ ask_at a.index a.level ∷ []
ask_yes a e = ap (λ (b : Bool). only_if b (ask_at a.index a.level ∷ [])) e

ask_no : (a : SearchAnswer) → a.search.asking ≡ false → ask_of a ≡ []
ask_no a e = ap (λ (b : Bool). only_if b (ask_at a.index a.level ∷ [])) e

-- the same run, told otherwise
makes_eq : {n : ℕ} {o : Outcome} {m : CachedAssignment} {xs ys : List Ask} {a b : SearchAnswer} → ys ≡ xs → b ≡ a → Makes n o m xs a → Makes n o m ys b
makes_eq e f p = record {
  asks_are = e ∙ p.asks_are;
  count_is = ap (λ (x : SearchAnswer). x.search.asks) f ∙ p.count_is;
  knows_it = ap (λ (x : SearchAnswer). known_by x.search) f ∙ p.knows_it;
  waits = ap (λ (x : SearchAnswer). x.search.asking) f ∙ p.waits;
  remembers_it = ap (λ (x : SearchAnswer). x.search.cached) f ∙ p.remembers_it;
}

module _ (l : Limits) (d : InputData) (levels : List ℕ) {n : ℕ} {o : Outcome} {m : CachedAssignment} where
  makes_refused : (a : SearchAnswer) (t : Told) (ts : List Told) → tell_number l d a.search levels t ≢ 0 → Makes n o m (asks_of l d levels a ts) (run l d levels a ts) → Makes n o m (asks_of l d levels a (t ∷ ts)) (run l d levels a (t ∷ ts))
  makes_refused a t ts e p = makes_eq (ap (λ x. ask_of a ++ x) (asked_refused l d levels a t e ts)) (run_refused l d levels a t e ts) p

  makes_ended : (a : SearchAnswer) (ts : List Told) → a.search.asking ≡ false → Makes n o m [] a → Makes n o m (asks_of l d levels a ts) (run l d levels a ts)
  makes_ended a ts e p = let r = ended_stays l d levels a e ts in makes_eq (ap₂ ◌++◌ (ask_no a e) r.1) r.0 p

  makes_done : (a : SearchAnswer) (t : Told) (ts : List Told) → tell_number l d a.search levels t ≡ 0 → a.search.asking ≡ true
      → Makes (n + 1) o m (asks_of l d levels (told_answer d a.search levels t) ts) (run l d levels (told_answer d a.search levels t) ts)
      → Makes n (asked (ask_at a.index a.level) o) m (asks_of l d levels a (t ∷ ts)) (run l d levels a (t ∷ ts))
  makes_done a t ts e w p = makes_eq (ap₂ ◌++◌ (ask_yes a w) (asked_done l d levels a t e ts)) (run_done l d levels a t e ts) (record {
    asks_are = ap (λ (x : List Ask). ask_at a.index a.level ∷ x) p.asks_are;
    count_is = omega (arith, p.count_is);
    knows_it = p.knows_it;
    waits = p.waits;
    remembers_it = p.remembers_it;
  })

-- ---- the search over levels

module _ (levels : List ℕ) (n start low high : ℕ) (k : Known) where
  pub search_over : high < low → (ts : List Told) → search_from levels n start low high k ts ≡ ended k
  unfolding search_from
  search_over h [] = rw (lt-ltb high low h)
  search_over h (t ∷ ts) = rw (lt-ltb high low h)

  module _ (h : low ≤ high) where
    pub search_none : search_from levels n start low high k [] ≡ waiting (ask_at (middle low high) (level_at levels (middle low high))) k
    unfolding search_from
    search_none = rw (le-ltb high low h)

    pub search_some : (t : Told) (ts : List Told) → search_from levels n start low high k (t ∷ ts) ≡ asked (ask_at (middle low high) (level_at levels (middle low high)))
        (cond (ends_at start (middle low high) t.result)
        (ended (learnt n (level_at levels (middle low high)) k t))
        (search_from levels n start (low_after low (middle low high) t.result) (high_after high (middle low high) t.result) (learnt n (level_at levels (middle low high)) k t) ts))
    unfolding search_from
    search_some t ts = rw (le-ltb high low h)

  module _ (asks : ℕ) (sch : List ℕ) (c : CachedAssignment) where
    next_over : high < low → next levels asks start low high sch k c ≡ over false asks start low high sch k c
    unfolding next
    next_over h = rw (lt-ltb high low h)

    next_asks : low ≤ high → next levels asks start low high sch k c ≡ step (level_at levels (middle low high)) (middle low high) (search_with true false (asks + 1) start low high sch k c)
    unfolding next
    next_asks h = rw (le-ltb high low h)

module _ (l : Limits) (d : InputData) (sch : List ℕ) (t : Told) (ts : List Told) where
  counted_yes : counts l d sch t ≡ true → counted l d sch (t ∷ ts) ≡ t ∷ counted l d sch ts
  unfolding counted
  counted_yes e = rw e

  counted_no : counts l d sch t ≡ false → counted l d sch (t ∷ ts) ≡ counted l d sch ts
  unfolding counted
  counted_no e = rw e

-- ---- what stays as it is through a run

pub record Standing (l : Limits) (d : InputData) (levels sch : List ℕ) (c : CachedAssignment) : Type 0 where
  pub within : Within l
  pub day : day_number l d (beside_levels d levels false) 0 ≡ 0
  pub inside : bad_slots d.choices d.slots sch ≡ false
  pub same : kept d.choices sch ≡ sch
  pub cached_inside : outside_cached d c ≡ false
  pub cached_good : bad_cached d c ≡ false

-- what is known passes 13, and is as it is handed back
pub record Sound (d : InputData) (sch : List ℕ) (k : Known) : Type 0 where
  pub good : (k.found && bad_plan_for d.choices (seats d) sch k.plan) ≡ false
  pub whole : k.found ≡ true → kept_plan (seats d) k.plan ≡ k.plan

module _ {l : Limits} {d : InputData} {levels sch : List ℕ} {c : CachedAssignment} (st : Standing l d levels sch c) where
  small : Small d
  small = day_small l d levels false 0 st.within st.day

  few : length levels ≤ 256
  few = day_few l d levels false 0 st.within st.day

  module _ (g : Bool) (n start low high : ℕ) (k : Known) (t : Told) where
    abbrev s : Search
    s = search_with true g n start low high sch k c

    -- an answer is taken exactly where it counts
    taken : Sound d sch k → spent s (length levels) ≡ false → counts l d sch t ≡ true → tell_number l d s levels t ≡ 0
    unfolding tell_number held_number first_of
    taken w p q =
        let u : (not (wrong_length l t) ≡ true) × (not (is_feasible t.result && bad_plan_for d.choices (seats d) sch t.plan) ≡ true) = and_split q in
        let wrong : wrong_length l t ≡ false = not-true _ u.0 in
        let bad : (is_feasible t.result && bad_plan_for d.choices (seats d) sch t.plan) ≡ false = not-true _ u.1 in
        rw wrong (number_past l d (beside_levels d levels false) 0 (held_number d s (length levels) t) st.day ∙ rw (st.inside, st.cached_inside, bad, w.good, st.cached_good, p))

    not_taken : counts l d sch t ≡ false → tell_number l d s levels t ≢ 0
    unfolding tell_number held_number
    not_taken q z =
        let r = past l d (beside_levels d levels (wrong_length l t)) (held_number d s (length levels) t) z in
        let u = first_zero (outside d s.schedule || outside_cached d c) 11 _ (omega arith) r.none in
        let v = first_zero (bad_told d s t) 13 _ (omega arith) u.1 in
        let x : ((bad_if d (is_feasible t.result) s.schedule t.plan || bad_if d k.found s.schedule k.plan) ≡ false) × (bad_cached d c ≡ false) = or_split v.0 in
        let y : (bad_if d (is_feasible t.result) s.schedule t.plan ≡ false) × (bad_if d k.found s.schedule k.plan ≡ false) = or_split x.0 in
        never (rw (r.lengths, y.0) at q)

  -- what is learnt from an answer that counts is sound again
  found_sound : (level : ℕ) (mark : Bool) (plan : List ℕ) → bad_plan_for d.choices (seats d) sch plan ≡ false → Sound d sch (found_at (seats d) level plan mark)
  found_sound level mark plan e = record { good = kept_good d.choices (seats d) sch plan (seats_most small) ∙ e; whole = λ f. plan_twice (seats d) plan }

  learn_sound : (level : ℕ) (k : Known) (r : LimitSolveResult) (plan : List ℕ) → Sound d sch k → counts l d sch (told r plan) ≡ true → Sound d sch (learnt (seats d) level k (told r plan))
  learn_sound level k Feasible plan w q =
      let u : (not (wrong_length l (told Feasible plan)) ≡ true) × (not (bad_plan_for d.choices (seats d) sch plan) ≡ true) = and_split q in
      found_sound level k.optimal plan (not-true _ u.1)
  learn_sound level k Infeasible plan w q = w
  learn_sound level k Incomplete plan w q = record { good = w.good; whole = w.whole }

  -- ---- a range

  -- the answer that a step of a search over levels makes
  abbrev answered : ℕ → Step → SearchAnswer
  answered start s = search_answer (most_asks false (length levels) start) s

  range_told : (n start low high : ℕ) (k : Known) (t : Told) → told_answer d (search_with true false n start low high sch k c) levels t ≡ answered start
      (cond (ends_at start (middle low high) t.result)
      (over false n start low high sch (learnt (seats d) (level_at levels (middle low high)) k t) c)
      (next levels n start (low_after low (middle low high) t.result) (high_after high (middle low high) t.result) sch (learnt (seats d) (level_at levels (middle low high)) k t) c))
  unfolding told_answer told_step
  range_told n start low high k t = rw st.same

  -- n asks were counted before, and each level that is left may be asked for
  record InRange (n start low high : ℕ) : Type 0 where
    from : start ≤ low
    to : high < length levels
    asks : n + (suc high - low) ≤ length levels

  range_unspent : (n start low high : ℕ) (k : Known) → InRange n start low high → low ≤ high → spent (search_with true false (n + 1) start low high sch k c) (length levels) ≡ false
  unfolding spent_at
  range_unspent n start low high k i h =
      let m : n + 1 ≤ 256 = omega (arith, i.asks, few) in
      rw (le-ltb 256 (n + 1) m, le-ltb low start i.from, le-ltb high low h, lt-leb (length levels) high i.to)

  -- the range that is left
  narrower : (n start low high : ℕ) (r : LimitSolveResult) → InRange n start low high → low ≤ high → ends_at start (middle low high) r ≡ false → InRange (n + 1) start (low_after low (middle low high) r) (high_after high (middle low high) r)
  narrower n start low high Feasible i h e =
      let m = middle_most low high h in
      let q = middle_least low high in
      let p = above_start start (middle low high) Feasible (omega (arith, q, i.from)) e refl in
      record { from = low_above start low high Feasible i.from; to = omega (arith, m, i.to); asks = omega (arith, m, q, p, i.asks) }
  narrower n start low high Infeasible i h e = let q = middle_least low high in let m = middle_most low high h in record { from = low_above start low high Infeasible i.from; to = i.to; asks = omega (arith, q, m, i.asks) }
  narrower n start low high Incomplete i h e = let q = middle_least low high in let m = middle_most low high h in record { from = low_above start low high Incomplete i.from; to = i.to; asks = omega (arith, q, m, i.asks) }

  over_makes : (most : ℕ) (g : Bool) (n start low high : ℕ) (k : Known) → Makes n (ended k) (remembered g sch k c) [] (search_answer most (over g n start low high sch k c))
  over_makes most g n start low high k = record { asks_are = refl; count_is = sym (add-zero n); knows_it = refl; waits = refl; remembers_it = refl }

  abbrev RangeMakes : ℕ → ℕ → ℕ → ℕ → Known → Step → List Told → Type 0
  RangeMakes n start low high k a ts =
      Makes n (search_from levels (seats d) start low high k (counted l d sch ts)) (memory false sch false (search_from levels (seats d) start low high k (counted l d sch ts)) c) (asks_of l d levels (answered start a) ts) (run l d levels (answered start a) ts)

  range_over : (ts : List Told) (n start low high : ℕ) (k : Known) → high < low → RangeMakes n start low high k (next levels n start low high sch k c) ts
  range_over ts n start low high k h = rw (search_over levels (seats d) start low high k h (counted l d sch ts), next_over levels (seats d) start low high k n sch c h)
      (makes_ended l d levels (answered start (over false n start low high sch k c)) ts refl (over_makes (most_asks false (length levels) start) false n start low high k))

  range_makes : (ts : List Told) (n start low high : ℕ) (k : Known) → InRange n start low high → Sound d sch k → RangeMakes n start low high k (next levels n start low high sch k c) ts
  unfolding run asked_after counted
  range_makes [] n start low high k i w = lt_cases high low
      (λ h e. range_over [] n start low high k h)
      (λ h e. rw (next_asks levels (seats d) start low high k n sch c h, search_none levels (seats d) start low high k h) (record { asks_are = refl; count_is = refl; knows_it = refl; waits = refl; remembers_it = refl }))
  range_makes (t ∷ ts) n start low high k i w = lt_cases high low
      (λ h e. range_over (t ∷ ts) n start low high k h)
      (λ h e.
      let a : SearchAnswer = answered start (step (level_at levels (middle low high)) (middle low high) (search_with true false (n + 1) start low high sch k c)) in
      let k' : Known = learnt (seats d) (level_at levels (middle low high)) k t in
      rw (next_asks levels (seats d) start low high k n sch c h) (bool_cases (counts l d sch t)
      (λ q. rw (counted_yes l d sch t ts q, search_some levels (seats d) start low high k h t (counted l d sch ts))
      (makes_done l d levels a t ts (taken false (n + 1) start low high k t w (range_unspent n start low high k i h) q) refl
      (rw (range_told (n + 1) start low high k t) (bool_cases (ends_at start (middle low high) t.result)
      (λ x. rw x (makes_ended l d levels (answered start (over false (n + 1) start low high sch k' c)) ts refl (over_makes (most_asks false (length levels) start) false (n + 1) start low high k')))
      (λ x. rw x (range_makes ts (n + 1) start (low_after low (middle low high) t.result) (high_after high (middle low high) t.result) k' (narrower n start low high t.result i h x) (learn_sound (level_at levels (middle low high)) k t.result t.plan w q)))))))
      (λ q. rw (counted_no l d sch t ts q) (makes_refused l d levels a t ts (not_taken false (n + 1) start low high k t q) (rw (next_asks levels (seats d) start low high k n sch c h) at (range_makes ts n start low high k i w))))))

  -- ---- nothing is known yet

  nothing_sound : (mark : Bool) → Sound d sch (marked nothing mark)
  nothing_sound mark = record { good = refl; whole = λ f. never (sym f) }

  -- ---- a greedy search

  greedy_told : (t : Told) → told_answer d (search_with true true 1 0 0 0 sch (marked nothing false) c) levels t ≡ search_answer 1 (over true 1 0 0 0 sch (learnt_greedy (seats d) d.max_preference t) c)
  unfolding told_answer told_step
  greedy_told t = rw st.same

  greedy_unspent : spent (search_with true true 1 0 0 0 sch (marked nothing false) c) (length levels) ≡ false
  unfolding spent_at
  greedy_unspent = refl

  abbrev greedy_ask : SearchAnswer
  greedy_ask = search_answer 1 (step d.max_preference 0 (search_with true true 1 0 0 0 sch (marked nothing false) c))

  greedy_makes : (ts : List Told) → Makes 0 (search_greedy d.max_preference (seats d) (counted l d sch ts)) (memory false sch true (search_greedy d.max_preference (seats d) (counted l d sch ts)) c) (asks_of l d levels greedy_ask ts) (run l d levels greedy_ask ts)
  unfolding run asked_after counted search_greedy
  greedy_makes [] = record { asks_are = refl; count_is = refl; knows_it = refl; waits = refl; remembers_it = refl }
  greedy_makes (t ∷ ts) = bool_cases (counts l d sch t)
      (λ q. rw (counted_yes l d sch t ts q) (makes_done l d levels greedy_ask t ts (taken true 1 0 0 0 (marked nothing false) t (nothing_sound false) greedy_unspent q) refl
      (rw (greedy_told t) (makes_ended l d levels (search_answer 1 (over true 1 0 0 0 sch (learnt_greedy (seats d) d.max_preference t) c)) ts refl (over_makes 1 true 1 0 0 0 (learnt_greedy (seats d) d.max_preference t))))))
      (λ q. rw (counted_no l d sch t ts q) (makes_refused l d levels greedy_ask t ts (not_taken true 1 0 0 0 (marked nothing false) t q) (greedy_makes ts)))

  -- ---- the search over levels

  levels_makes : (bound : ℕ) (ts : List Told) → Makes 0 (search_levels levels bound (seats d) (counted l d sch ts)) (memory false sch false (search_levels levels bound (seats d) (counted l d sch ts)) c) (asks_of l d levels (answered (start_of levels bound) (begun_levels levels (start_of levels bound) sch c)) ts) (run l d levels (answered (start_of levels bound) (begun_levels levels (start_of levels bound) sch c)) ts)
  unfolding search_levels begun_levels
  levels_makes bound ts = eq_cases (length levels) 0
      (λ z e. rw e (makes_ended l d levels (answered (start_of levels bound) (step 0 0 (search_with false false 0 0 0 0 sch nothing c))) ts refl (record { asks_are = refl; count_is = refl; knows_it = refl; waits = refl; remembers_it = refl })))
      (λ z e. rw e (range_makes ts 0 (start_of levels bound) (start_of levels bound) (length levels - 1) nothing (record { from = le_refl (start_of levels bound); to = omega arith; asks = omega arith }) (nothing_sound true)))

  -- ---- what a search knows is sound

  range_sound : (ts : List Told) (start low high : ℕ) (k : Known) → Sound d sch k → Sound d sch (search_from levels (seats d) start low high k (counted l d sch ts)).known
  unfolding counted
  range_sound [] start low high k w = lt_cases high low
      (λ h e. rw (search_over levels (seats d) start low high k h []) w)
      (λ h e. rw (search_none levels (seats d) start low high k h) w)
  range_sound (t ∷ ts) start low high k w = lt_cases high low
      (λ h e. rw (search_over levels (seats d) start low high k h (counted l d sch (t ∷ ts))) w)
      (λ h e.
      let m = middle low high in
      let k' : Known = learnt (seats d) (level_at levels m) k t in
      bool_cases (counts l d sch t)
      (λ q.
      let w' = learn_sound (level_at levels m) k t.result t.plan w q in
      rw (counted_yes l d sch t ts q, search_some levels (seats d) start low high k h t (counted l d sch ts))
      (bool_cases (ends_at start m t.result)
      (λ x. rw x w')
      (λ x. rw x (range_sound ts start (low_after low m t.result) (high_after high m t.result) k' w'))))
      (λ q. rw (counted_no l d sch t ts q) (range_sound ts start low high k w)))

  greedy_learnt_sound : (r : LimitSolveResult) (plan : List ℕ) → counts l d sch (told r plan) ≡ true → Sound d sch (learnt_greedy (seats d) d.max_preference (told r plan))
  greedy_learnt_sound Feasible plan q = learn_sound d.max_preference nothing Feasible plan (nothing_sound true) q
  greedy_learnt_sound Infeasible plan q = nothing_sound false
  greedy_learnt_sound Incomplete plan q = nothing_sound false

  greedy_sound : (ts : List Told) → Sound d sch (search_greedy d.max_preference (seats d) (counted l d sch ts)).known
  unfolding counted search_greedy
  greedy_sound [] = nothing_sound false
  greedy_sound (t ∷ ts) = bool_cases (counts l d sch t)
      (λ q. rw (counted_yes l d sch t ts q) (greedy_learnt_sound t.result t.plan q))
      (λ q. rw (counted_no l d sch t ts q) (greedy_sound ts))

  pub searched_sound : (greedy : Bool) (bound : ℕ) (ts : List Told) → Sound d sch (searched greedy levels bound d.max_preference (seats d) (counted l d sch ts)).known
  unfolding search_levels
  searched_sound true bound ts = greedy_sound ts
  searched_sound false bound ts = eq_cases (length levels) 0
      (λ z e. rw e (nothing_sound true))
      (λ z e. rw e (range_sound ts (start_of levels bound) (start_of levels bound) (length levels - 1) nothing (nothing_sound true)))

-- ---- a search that was begun

module _ (l : Limits) (d : InputData) (sch : Scheduling) (levels : List ℕ) (bound : ℕ) (greedy : Bool) (c : CachedAssignment) (w : Within l) (e : begin_number l d sch levels c ≡ 0) where
  pub standing : Standing l d levels (kept_of d sch) c
  unfolding begin_number
  standing =
      let rest = first_of (outside d sch || outside_cached d c) 11 (first_of (bad_cached d c) 13 0) in
      let s = day_small l d levels false rest w e in
      let p = (past l d (beside_levels d levels false) rest e).none in
      let q = first_zero (outside d sch || outside_cached d c) 11 _ (omega arith) p in
      let r = first_zero (bad_cached d c) 13 0 (omega arith) q.1 in
      let u : (outside d sch ≡ false) × (outside_cached d c ≡ false) = or_split q.0 in
      record {
        within = w;
        day = number_past l d (beside_levels d levels false) rest 0 e;
        inside = each_below 32 d.choices (bad_entry_at d.slots (kept_of d sch)) (λ k h. ap (λ x. ltb d.slots x) (kept_at_lem d.choices sch.entries k h s.choices) ∙ below_each 32 d.choices (bad_entry_at d.slots sch.entries) s.choices u.0 k h);
        same = kept_twice d.choices sch.entries;
        cached_inside = u.1;
        cached_good = r.0;
      }

  begun_makes : (ts : List Told) → Makes 0 (outcome d sch levels bound greedy c (counted l d (kept_of d sch) ts))
      (memory (remembers d.choices (kept_of d sch) greedy c) (kept_of d sch) greedy (outcome d sch levels bound greedy c (counted l d (kept_of d sch) ts)) c)
      (asks_of l d levels (begun_answer d sch levels bound greedy c) ts) (run l d levels (begun_answer d sch levels bound greedy c) ts)
  unfolding begun_answer begun_step
  begun_makes ts = bool_cases (remembers d.choices (kept_of d sch) greedy c)
      (λ h. rw h (makes_ended l d levels (search_answer (most_asks greedy (length levels) (start_of levels bound)) (step 0 0 (search_with false greedy 0 0 0 0 (kept_of d sch) (recalled d c) c))) ts refl (record { asks_are = refl; count_is = refl; knows_it = refl; waits = refl; remembers_it = refl })))
      (λ h. rw h (bool_cases greedy (λ g. rw g (greedy_makes standing ts)) (λ g. rw g (levels_makes standing bound ts))))

  -- the answer that begin gives
  pub begin_is : begin_answer l d sch levels bound greedy c ≡ begun_answer d sch levels bound greedy c
  unfolding begin_answer
  begin_is = rw e

  pub run_is_search : (ts : List Told) → RunIsSearch l d sch levels bound greedy c (begin_answer l d sch levels bound greedy c) ts
  run_is_search ts = let p = begun_makes ts in rw begin_is (record {
    is = record { asks_are = p.asks_are; count_is = p.count_is ∙ zero-add _; knows_it = p.knows_it; waits = p.waits; remembers_it = p.remembers_it };
  })
