-- The seats of a plan that seats everybody: how often a chooser has a choice, how many seats a choice has. Assumes nothing.
use Prim.Native.Nat.{ℕ, zero, suc, ◌+◌, ◌-◌, ◌*◌, ◌<◌, ◌≤◌}
use Rattle.std.specs.Prelude.{◌≡◌, Bool, ◌&&◌, List, ◌≢◌, eqb}
use Rattle.std.proofs.Math.Path.{refl, ap}
use Rattle.std.proofs.Common.{sym, ◌∙◌, suc-mul, zero-mul}
use Rattle.std.proofs.Math.Bool.{true, false, not}
use native.Mathlib.Omega.{arith}
use borrow.Author.Tests.{ne_eqb, le-leb}
use Rattle.assignment.specs.Calls.{seats}
use Rattle.assignment.specs.Plan.{choice_of, is_seat}
use Rattle.counting.specs.Fold.{gate, sum_to}
use Rattle.counting.specs.FoldLaws.{fold_none, fold_suc}
use Rattle.counting.specs.Sums.{sum_zeros, sum_only, grid_lt}
use Rattle.counting.specs.Tests.{eq_cases, each_all}
use Rattle.input_data.specs.Day.{min_at, max_at}
use Rattle.input_data.specs.declared.InputData.{InputData}
use Rattle.plans.specs.Pairs.{sum_ext, sum_split}
use Rattle.plans.specs.Seatable.{choice_in, sits, seats_in, Allowed, Seatable}
use Rattle.satisfies_constraints.specs.Constraints.{times_in}
use Rattle.scheduling.specs.Schedule.{entry_at}
use Rattle.seat_counts.specs.Seats.{seat_entry, differs_from, is_new, once_each, none_twice, is_choice, part_count, filled_at, all_filled}

-- a table of n rows of m, summed row by row
sum_rows : (n m : ℕ) (f : ℕ → ℕ) → sum_to (n * m) f ≡ sum_to n (λ c. sum_to m (λ s. f (c * m + s)))
sum_rows zero m f = rw (zero-mul m) (fold_none ◌+◌ 0 f ∙ sym (fold_none ◌+◌ 0 (λ c. sum_to m (λ s. f (c * m + s)))))
sum_rows (suc n) m f = rw (suc-mul n m) (sum_split (n * m) m f ∙ omega (arith, sum_rows n m f, fold_suc ◌+◌ 0 n (λ c. sum_to m (λ s. f (c * m + s)))))

-- a plan that seats everybody, and bytes that begin with it; entries of the schedule are of the day's slots
pub record Stands (d : InputData) (sch : List ℕ) (limit : ℕ) (preferences plan bytes : List ℕ) : Type 0 where
  pub few : d.choices ≤ 32
  pub fits : (k : ℕ) → k < d.choices → entry_at sch k ≤ d.slots
  pub seatable : Seatable d sch limit preferences plan
  pub front : (i : ℕ) → i < seats d → entry_at bytes i ≡ entry_at plan i

module _ {d : InputData} {sch : List ℕ} {limit : ℕ} {preferences plan bytes : List ℕ} (st : Stands d sch limit preferences plan bytes) where
  -- a seat of the bytes is that of the plan
  pub seat_same : (c s : ℕ) → c < d.choosers → s < d.slots → choice_of d.slots bytes c s ≡ choice_in d plan c s
  seat_same c s hc hs = st.front (c * d.slots + s) (grid_lt hc hs)

  pub allowed : (c s : ℕ) → c < d.choosers → s < d.slots → Allowed d sch limit preferences c s (choice_in d plan c s)
  allowed c s hc hs = st.seatable.seat c s hc hs

  -- chooser c has choice k in column s only where that is k's slot
  seat_is : (c k s : ℕ) → c < d.choosers → s < d.slots → entry_at sch k ≢ 0 → is_seat bytes (c * d.slots) k s ≡ (eqb s (entry_at sch k - 1) && sits d sch plan c k)
  seat_is c k s hc hs e = rw (seat_same c s hc hs) (eq_cases s (entry_at sch k - 1)
      (λ p t. rw (t, p))
      (λ p t. rw t (ne_eqb (choice_in d plan c s) k (λ q. let z : entry_at sch k ≡ suc s = ap (entry_at sch) (sym q) ∙ (allowed c s hc hs).slot in p (omega arith)))))

  -- once where it sits in it, and not at all elsewhere
  pub times_scheduled : (c k : ℕ) → c < d.choosers → k < d.choices → entry_at sch k ≢ 0 → times_in d.slots bytes c k ≡ gate (sits d sch plan c k) 1
  unfolding times_in
  times_scheduled c k hc hk e =
      let t : ℕ = entry_at sch k - 1 in
      let ht : t < d.slots = omega (arith, st.fits k hk) in
      sum_ext d.slots (λ s. gate (is_seat bytes (c * d.slots) k s) 1) (λ s. gate (eqb s t) (gate (sits d sch plan c k) 1)) (λ s hs. ap (λ (b : Bool). gate b 1) (seat_is c k s hc hs e) ∙ both (eqb s t) (sits d sch plan c k))
      ∙ sum_only d.slots (λ s. gate (sits d sch plan c k) 1) t ht
    where
      both : (a b : Bool) → gate (a && b) 1 ≡ gate a (gate b 1)
      both true b = refl
      both false b = refl

  pub times_unscheduled : (c k : ℕ) → c < d.choosers → entry_at sch k ≡ 0 → times_in d.slots bytes c k ≡ 0
  unfolding times_in
  times_unscheduled c k hc e = sum_zeros d.slots (λ s. gate (is_seat bytes (c * d.slots) k s) 1)
      (λ s hs. ap (λ (b : Bool). gate b 1) (ne_eqb (entry_at bytes (c * d.slots + s)) k (λ q. let z : entry_at sch k ≡ suc s = ap (entry_at sch) (sym q ∙ seat_same c s hc hs) ∙ (allowed c s hc hs).slot in absurd (omega arith))))

  -- the seats of a choice are its choosers
  pub part_seats : (k : ℕ) → k < d.choices → entry_at sch k ≢ 0 → part_count (seats d) bytes k ≡ seats_in d sch plan k
  unfolding part_count times_in
  part_seats k hk e =
      sum_rows d.choosers d.slots (λ i. gate (is_choice bytes k i) 1)
      ∙ sum_ext d.choosers (λ c. sum_to d.slots (λ s. gate (is_choice bytes k (c * d.slots + s)) 1)) (λ c. gate (sits d sch plan c k) 1) (λ c hc. counted c hc)
    where
      counted : (c : ℕ) → c < d.choosers → sum_to d.slots (λ s. gate (is_choice bytes k (c * d.slots + s)) 1) ≡ gate (sits d sch plan c k) 1
      counted c hc = times_scheduled c k hc hk e

  -- ---- is_feasible's tests of the seats

  pub none_twice_lem : none_twice d.choosers d.slots sch bytes ≡ true
  unfolding none_twice once_each is_new
  none_twice_lem = each_all d.choosers (once_each d.slots sch bytes) (λ c hc. each_all d.slots (is_new d.slots sch bytes c) (λ s hs. each_all s (differs_from d.slots sch bytes c s) (λ r hr.
      let hr' : r < d.slots = omega arith in
      let p : seat_entry d.slots sch bytes c r ≡ suc r = ap (entry_at sch) (seat_same c r hc hr') ∙ (allowed c r hc hr').slot in
      let q : seat_entry d.slots sch bytes c s ≡ suc s = ap (entry_at sch) (seat_same c s hc hs) ∙ (allowed c s hc hs).slot in
      ap not (ne_eqb (seat_entry d.slots sch bytes c r) (seat_entry d.slots sch bytes c s) (λ z. absurd (omega (arith, z, p, q)))))))

  pub all_filled_lem : all_filled d.choices sch d.mins d.maxs (part_count (seats d) bytes) ≡ true
  unfolding all_filled
  all_filled_lem = each_all d.choices (filled_at sch d.mins d.maxs (part_count (seats d) bytes)) (λ k hk. eq_cases (entry_at sch k) 0
      (λ e t. rw t)
      (λ e t. rw (t, part_seats k hk e, le-leb (min_at d k) (seats_in d sch plan k) (st.seatable.least k hk e), le-leb (seats_in d sch plan k) (max_at d k) (st.seatable.most k hk e))))
