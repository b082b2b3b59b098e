-- A run makes no more asks than it reports (MostAsks.antt): each answer leaves half of the levels at most. Assumes nothing.
use Rattle.std.specs.Prelude.{ℕ, zero, suc, ◌-◌, ◌^◌, ◌<◌, ◌≤◌, ◌≡◌, refl, Bool, true, false, List, [], ◌∷◌, eqb, ltb, length}
use Rattle.std.proofs.Common.{sym, ap, ◌∙◌, arith, le_refl}
use Rattle.std.proofs.Math.Nat.{two-pow-succ}
use Rattle.std.proofs.lemmas.List.{nil_from_length}
use Rattle.counting.specs.Tests.{bool_cases, lt_cases, eq_cases, never}
use Rattle.input_data.specs.Lengths.{Within}
use Rattle.input_data.specs.declared.InputData.{InputData}
use Rattle.input_data.specs.declared.Limits.{Limits}
use Rattle.scheduling.specs.Handed.{kept_of}
use Rattle.scheduling.specs.declared.Scheduling.{Scheduling}
use Rattle.assignment.specs.Calls.{seats}
use Rattle.preference_search.specs.Digits.{digits_pass, no_digits}
use Rattle.preference_search.specs.Laws.{middle_least, above_start, low_above}
use Rattle.preference_search.specs.Search.{LimitSolveResult, Feasible, Infeasible, Incomplete, Told, nothing, learnt, level_at, start_of, middle, ends_at, low_after, high_after, search_from, search_levels, search_greedy, searched, binary_digits, most_asks}
use Rattle.preference_search.specs.Steps.{remembers, next, begun_levels, begun_step, begun_answer, told_step, told_answer, most_asks_of}
use Rattle.preference_search_checks.specs.Checks.{begin_number, tell_number}
use Rattle.assignment_solver.specs.Calls.{begin_answer}
use Rattle.preference_search.specs.declared.CachedAssignment.{CachedAssignment}
use Rattle.preference_search.specs.declared.Known.{Known}
use Rattle.preference_search.specs.declared.Search.{Search}
use Rattle.preference_search.specs.declared.SearchAnswer.{SearchAnswer}
use Rattle.preference_search_runs.specs.MostAsks.{answer_after, asks_after, FewAsks}
use Rattle.preference_search_runs.specs.Run.{after, run, counted, outcome}
use Rattle.preference_search_runs.specs.Whole.{after_refused, after_done, ended_refuses, search_over, search_none, search_some, begin_is, run_is_search}

-- ---- the asks of the search

-- an answer at the middle leaves half of the levels at most
halved : (start low high j : ℕ) (r : LimitSolveResult) → start ≤ low → low ≤ high → ends_at start (middle low high) r ≡ false → suc high - low < 2 ^ suc j → suc (high_after high (middle low high) r) - low_after low (middle low high) r < 2 ^ j
unfolding middle
halved start low high j Feasible a h e f =
    let m = above_start start (middle low high) Feasible (omega (arith, a, middle_least low high)) e refl in
    omega (arith, f, two-pow-succ j, m)
halved start low high j Infeasible a h e f = omega (arith, f, two-pow-succ j)
halved start low high j Incomplete a h e f = omega (arith, f, two-pow-succ j)

-- with fewer than 2 ^ k levels left, k asks at most
module _ (levels : List ℕ) (n start : ℕ) where
  range_few : (k low high : ℕ) (known : Known) (ts : List Told) → start ≤ low → suc high - low < 2 ^ k → length (search_from levels n start low high known ts).asks ≤ k
  range_few zero low high known ts a f = rw (search_over levels n start low high known (omega (arith, f)) ts) (le_refl 0)
  range_few (suc j) low high known [] a f = lt_cases high low
      (λ h e. rw (search_over levels n start low high known h []) (omega arith))
      (λ h e. rw (search_none levels n start low high known h) (omega arith))
  range_few (suc j) low high known (t ∷ ts) a f = lt_cases high low
      (λ h e. rw (search_over levels n start low high known h (t ∷ ts)) (omega arith))
      (λ h e. rw (search_some levels n start low high known h t ts) (bool_cases (ends_at start (middle low high) t.result)
      (λ x. rw x (omega arith))
      (λ x. rw x (omega (arith, range_few j (low_after low (middle low high) t.result) (high_after high (middle low high) t.result) (learnt n (level_at levels (middle low high)) known t) ts (low_above start low high t.result a) (halved start low high j t.result a h x f))))))

search_few : (greedy : Bool) (levels : List ℕ) (bound most n : ℕ) (ts : List Told) → length (searched greedy levels bound most n ts).asks ≤ most_asks greedy (length levels) (start_of levels bound)
unfolding search_greedy search_levels
search_few true levels bound most n [] = le_refl 1
search_few true levels bound most n (t ∷ ts) = le_refl 1
search_few false levels bound most n ts = eq_cases (length levels) 0
    (λ z e. rw e (omega arith))
    (λ z e. rw e (
    let s = start_of levels bound in
    range_few levels n s (binary_digits (length levels - s)) s (length levels - 1) nothing ts (le_refl s) (omega (arith, digits_pass (length levels - s)))))

none_without_levels : (greedy : Bool) (levels : List ℕ) (bound : ℕ) → greedy ≡ false → levels ≡ [] → most_asks greedy (length levels) (start_of levels bound) ≡ 0
none_without_levels greedy levels bound g n =
    let z : length levels - start_of levels bound ≡ 0 = omega (arith, ap length n) in
    rw (g, z) no_digits

-- ---- what is reported

module _ (levels : List ℕ) (most : ℕ) where
  -- an answer reports it, and so does the next one
  record Reports (a : SearchAnswer) : Type 0 where
    most_is : a.most_asks ≡ most
    next_is : a.search.asking ≡ true → most_asks_of levels a.search ≡ most

told_same : (d : InputData) (s : Search) (levels : List ℕ) (t : Told) → (told_step d s levels t).search.asking ≡ true → most_asks_of levels (told_step d s levels t).search ≡ most_asks_of levels s
unfolding told_step next
told_same d s levels t = bool_cases s.greedy
    (λ g. rw g (λ w. never (sym w)))
    (λ g. rw g (bool_cases (ends_at s.start (middle s.low s.high) t.result)
    (λ e. rw e (λ w. never (sym w)))
    (λ e. rw e (bool_cases (ltb (high_after s.high (middle s.low s.high) t.result) (low_after s.low (middle s.low s.high) t.result))
    (λ h. rw h (λ w. never (sym w)))
    (λ h. rw h (λ w. refl))))))

module _ (l : Limits) (d : InputData) (levels : List ℕ) (most : ℕ) where
  after_reports : (a : SearchAnswer) (t : Told) → Reports levels most a → Reports levels most (after l d levels a t)
  unfolding told_answer
  after_reports a t p = eq_cases (tell_number l d a.search levels t) 0
      (λ z e. rw (after_done l d levels a t z) (bool_cases a.search.asking
      (λ w. record { most_is = p.next_is w; next_is = λ v. told_same d a.search levels t v ∙ p.next_is w })
      (λ w. absurd (ended_refuses l d levels a.search t w z))))
      (λ z e. rw (after_refused l d levels a t z) p)

  run_reports : (ts : List Told) (a : SearchAnswer) → Reports levels most a → Reports levels most (run l d levels a ts)
  unfolding run
  run_reports [] a p = p
  run_reports (t ∷ ts) a p = run_reports ts (after l d levels a t) (after_reports a t p)

begun_reports : (d : InputData) (sch : Scheduling) (levels : List ℕ) (bound : ℕ) (greedy : Bool) (c : CachedAssignment) → Reports levels (most_asks greedy (length levels) (start_of levels bound)) (begun_answer d sch levels bound greedy c)
unfolding begun_answer begun_step begun_levels next
begun_reports d sch levels bound greedy c = record {
  most_is = refl;
  next_is = bool_cases (remembers d.choices (kept_of d sch) greedy c)
      (λ h. rw h (λ w. never (sym w)))
      (λ h. rw h (bool_cases greedy
      (λ g. rw g (λ w. refl))
      (λ g. rw g (bool_cases (eqb (length levels) 0)
      (λ z. rw z (λ w. never (sym w)))
      (λ z. rw z (bool_cases (ltb (length levels - 1) (start_of levels bound))
      (λ o. rw o (λ w. never (sym w)))
      (λ o. rw o (λ w. refl))))))));
}

-- ---- a run

module _ (l : Limits) (d : InputData) (sch : Scheduling) (levels : List ℕ) (bound : ℕ) (greedy : Bool) (c : CachedAssignment) (w : Within l) (e : begin_number l d sch levels c ≡ 0) (ts : List Told) where
  abbrev most : ℕ
  most = most_asks greedy (length levels) (start_of levels bound)

  outcome_few : length (outcome d sch levels bound greedy c (counted l d (kept_of d sch) ts)).asks ≤ most
  outcome_few = bool_cases (remembers d.choices (kept_of d sch) greedy c)
      (λ h. rw h (omega arith))
      (λ h. rw h (search_few greedy levels bound d.max_preference (seats d) (counted l d (kept_of d sch) ts)))

  pub few_asks : FewAsks l d sch levels bound greedy c ts
  few_asks =
      let p = (run_is_search l d sch levels bound greedy c w e ts).is in
      let m : (answer_after l d sch levels bound greedy c ts).most_asks ≡ most = (run_reports l d levels most ts (begin_answer l d sch levels bound greedy c) (rw (begin_is l d sch levels bound greedy c w e) (begun_reports d sch levels bound greedy c))).most_is in
      let few : length (asks_after l d sch levels bound greedy c ts) ≤ most = rw p.asks_are outcome_few in
      record {
        few = rw m few;
        count_is = p.count_is ∙ sym (ap length p.asks_are);
        most_is = m;
        without_levels = λ g n. nil_from_length (asks_after l d sch levels bound greedy c ts) (omega (arith, few, none_without_levels greedy levels bound g n));
        from_memory = λ h. p.asks_are ∙ rw h;
      }
