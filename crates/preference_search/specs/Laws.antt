-- Laws of the steps: the start, the middle, what narrows a range; two schedules as the library compares them; parts of lent bytes. Assumes nothing.
use Rattle.std.specs.Prelude.{Option, unwrap_or, ℕ, ◌+◌, ◌-◌, ◌<◌, ◌≤◌, ◌≡◌, refl, min, Bool, true, false, ◌&&◌, List, ◌≢◌, eqb, leb, Some, None, length, take, drop, get_or}
use Rattle.std.proofs.Common.{sym, ap, ◌∙◌, arith, length-drop, length-take-le, le-ltb, get_or-take, ext_get_or, eqb-true, eq-eqb}
use Rattle.std.proofs.lemmas.Bool.{eqb-false, not-true, not-false}
use Rattle.std.proofs.lemmas.Slice.Eq.{bytes_eq-Decides}
use Rattle.std.specs.Str.{bytes_eq}
use Rattle.std.proofs.lemmas.List.Quantifiers.{position-Some}
use Rattle.std.proofs.lemmas.List.Sums.{fails_before_first}
use Rattle.std.specs.List.{position, position_or_len}
use Rattle.counting.specs.SearchLaws.{first_at, first_none}
use Rattle.counting.specs.Fold.{any_to}
use Rattle.counting.specs.Tests.{bool_cases, lt_cases, never, Passes, some_passes, none_each, places_all}
use Rattle.assignment.specs.Calls.{seats}
use Rattle.assignment.specs.Laws.{Small}
use Rattle.input_data.specs.declared.InputData.{InputData}
use Rattle.scheduling.specs.Handed.{kept_of}
use Rattle.preference_search.specs.Search.{LimitSolveResult, Feasible, Infeasible, Incomplete, Told, reaches, start_of, middle, level_at, of_result, told, marked, learnt, ends_at, low_after, high_after, is_feasible}
use Rattle.preference_search.specs.Steps.{next, known_by, asked_again, told_range, differs_in, is_equal}
use Rattle.preference_search.specs.declared.Known.{Known}
use Rattle.preference_search.specs.declared.Search.{Search}

abbrev pub is_infeasible : LimitSolveResult → Bool
is_infeasible r = of_result r false true false

-- what tell works with: a small day, and a told plan that has all its seats
pub record Holding (d : InputData) (t : Told) : Type 0 where
  pub small : Small d
  pub long : is_feasible t.result ≡ true → seats d ≤ length t.plan

-- a range that is not spent
pub record Ranged (s : Search) (levels : List ℕ) : Type 0 where
  pub few : length levels ≤ 256
  pub from : s.start ≤ s.low
  pub ascends : s.low ≤ s.high
  pub to : s.high < length levels
  pub asks : s.asks ≤ 256

-- the start, as the library finds it
pub start_is : (levels : List ℕ) (bound : ℕ) (o : Option ℕ) → o ≡ position (leb bound) levels → unwrap_or o (length levels - 1) ≡ start_of levels bound
unfolding start_of
start_is levels bound (Some i) e = let q = position-Some (leb bound) levels i 0 (sym e) in omega (arith, q.0, first_at (length levels) (reaches levels bound) i q.0 q.2 q.1)
start_is levels bound None e =
    let p = leb bound in
    lt_cases (position_or_len p levels) (length levels)
    (λ h t. let z : Some (position_or_len p levels) ≡ None = rw t at (sym e) in cc)
    (λ h t. omega (arith, first_none (length levels) (reaches levels bound) (λ k l. fails_before_first p levels k 0 (omega arith))))

pub start_most : (levels : List ℕ) (bound : ℕ) → start_of levels bound ≤ length levels - 1
unfolding start_of
start_most levels bound = omega arith

-- the middle is in the range
pub middle_least : (low high : ℕ) → low ≤ middle low high
unfolding middle
middle_least low high = omega arith

pub middle_most : (low high : ℕ) → low ≤ high → middle low high ≤ high
unfolding middle
middle_most low high h = omega arith

-- a feasible answer that does not end the search is above the start
pub above_start : (start m : ℕ) (r : LimitSolveResult) → start ≤ m → ends_at start m r ≡ false → is_feasible r ≡ true → start < m
above_start start m Feasible h e f = let d : m ≢ start = eqb-false m start e in omega arith
above_start start m Infeasible h e f = never (sym f)
above_start start m Incomplete h e f = never (sym f)

-- what any answer leaves is not below it
pub low_above : (start low high : ℕ) (r : LimitSolveResult) → start ≤ low → start ≤ low_after low (middle low high) r
low_above start low high Feasible h = h
low_above start low high Infeasible h = omega (arith, h, middle_least low high)
low_above start low high Incomplete h = omega (arith, h, middle_least low high)

-- an answer that is not feasible: the best plan so far stays, and the range goes on above the middle
pub record Stays (seats level : ℕ) (k : Known) (start low high m : ℕ) (r : LimitSolveResult) (plan : List ℕ) : Type 0 where
  pub known : learnt seats level k (told r plan) ≡ marked k (is_infeasible r && k.optimal)
  pub ends : ends_at start m r ≡ false
  pub from : low_after low m r ≡ m + 1
  pub to : high_after high m r ≡ high

pub stays : (seats level : ℕ) (k : Known) (start low high m : ℕ) (r : LimitSolveResult) (plan : List ℕ) → is_feasible r ≡ false → Stays seats level k start low high m r plan
stays seats level k start low high m Feasible plan f = never f
stays seats level k start low high m Infeasible plan f = record { known = refl; ends = refl; from = refl; to = refl }
stays seats level k start low high m Incomplete plan f = record { known = refl; ends = refl; from = refl; to = refl }

pub told_again : (d : InputData) (s : Search) (levels : List ℕ) (r : LimitSolveResult) (plan : List ℕ) → is_feasible r ≡ false → middle s.low s.high < s.high → asked_again levels s (middle s.low s.high + 1) s.high (kept_of d s.schedule) (is_infeasible r && s.optimal) ≡ told_range d s levels (told r plan)
unfolding next
told_again d s levels r plan f h =
    let m = middle s.low s.high in
    let q = stays (seats d) (level_at levels m) (known_by s) s.start s.low s.high m r plan f in
    rw (q.ends, q.known, q.from, q.to, le-ltb s.high (m + 1) (omega arith))

-- two schedules over the day's choices, as the library compares them
pub equal_parts : (choices : ℕ) (a b : List ℕ) → length a ≡ 32 → length b ≡ 32 → bytes_eq (take (min choices 32) a) (take (min choices 32) b) ≡ is_equal choices a b
equal_parts choices a b p q =
    let n = min choices 32 in
    let f = differs_in a b in
    let same = bytes_eq-Decides (take n a) (take n b) in
    rw (sym (places_all 32 choices f)) (bool_cases (any_to n f)
    (λ t. let w : Passes n f = some_passes n f t in
    let d : eqb (get_or a w.at 0) (get_or b w.at 0) ≡ false = not-true _ w.holds in
    rw t (bool_cases (bytes_eq (take n a) (take n b))
    (λ e. let g : get_or a w.at 0 ≡ get_or b w.at 0 = sym (get_or-take n a w.at 0 w.below) ∙ ap (λ l. get_or l w.at 0) (same.0 e) ∙ get_or-take n b w.at 0 w.below in
    never (sym (eq-eqb _ _ g) ∙ d))
    (λ e. e)))
    (λ t. rw t (same.1 (ext_get_or 0 (take n a) (take n b) (length-take-le n a (omega arith) ∙ sym (length-take-le n b (omega arith)))
    (λ k l. let h : k < n = omega (arith, length-take-le n a (omega arith)) in
    get_or-take n a k 0 h ∙ eqb-true _ _ (not-false _ (none_each n f t k h)) ∙ sym (get_or-take n b k 0 h))))))

-- a part of lent bytes
pub part_long : (at n : ℕ) (b : List ℕ) → at + n ≤ length b → length (take n (drop at b)) ≡ n
part_long at n b h = length-take-le n (drop at b) (omega (arith, length-drop at b))
