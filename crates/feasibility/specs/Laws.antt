-- What the tests of a schedule and of a plan ask, and their laws. Assumes nothing.
use Rattle.std.specs.Prelude.{ℕ, ◌+◌, ◌<◌, ◌≤◌, ◌≡◌, refl, Bool, true, not, ◌&&◌, ◌||◌, List, eqb, leb, replicate}
use Rattle.std.proofs.Common.{ap, ap₂, arith}
use Rattle.assignment.specs.Calls.{seats}
use Rattle.assignment.specs.Laws.{Small}
use Rattle.counting.specs.Fold.{all_to}
use Rattle.counting.specs.FoldLaws.{fold_ext}
use Rattle.input_data.specs.declared.InputData.{InputData}
use Rattle.satisfies_constraints.specs.Laws.{ScheduleRead, PlanRead}
use Rattle.scheduling.specs.Schedule.{entry_at}
use Rattle.seat_counts.specs.Laws.{Seated, Choices, Parts}
use Rattle.seat_counts.specs.Seats.{filled_at, all_filled, part_count}
use Rattle.slot_lists.specs.SumsLaws.{Weighs, Sums}
use Rattle.feasibility.specs.Feasible.{seats_all, all_seated}

abbrev pub sums_seat : ℕ → ℕ → List ℕ → List ℕ → Bool
sums_seat choosers slots mins maxs = all_to slots (λ s. leb (entry_at mins s) choosers && leb choosers (entry_at maxs s))

-- a schedule of n choices, and how much they weigh by min and by max
pub record Weighable (d : InputData) (sch : List ℕ) (n : ℕ) : Type 0 where
  pub mins : Weighs sch d.mins n
  pub maxs : Weighs sch d.maxs n

pub record Schedulable (d : InputData) (sch : List ℕ) : Type 0 where
  pub read : ScheduleRead d
  pub sizes : Weighable d sch d.choices

pub record Judged (d : InputData) (sch plan : List ℕ) : Type 0 where
  pub scheduling : ScheduleRead d
  pub assignment : PlanRead d plan
  pub seated : Seated d.choosers d.slots sch plan
  pub choices : Choices (seats d) plan

-- a day within what the types hold, and a plan with room for its seats
pub record Parted (d : InputData) (size : ℕ) : Type 0 where
  pub small : Small d
  pub inside : seats d ≤ size

-- ---- laws

-- two arrays with the sums of min and of max
pub record SizeSums (d : InputData) (sch : List ℕ) (n : ℕ) (a c : List ℕ) : Type 0 where
  pub mins : Sums (entry_at d.mins) (entry_at sch) n a
  pub maxs : Sums (entry_at d.maxs) (entry_at sch) n c

-- sums that an array holds
pub seated_sums : (d : InputData) (sch : List ℕ) {mins maxs : List ℕ} → d.slots ≤ 8 → Sums (entry_at d.mins) (entry_at sch) d.choices mins → Sums (entry_at d.maxs) (entry_at sch) d.choices maxs → sums_seat d.choosers d.slots mins maxs ≡ all_seated d sch
unfolding all_seated
seated_sums d sch {mins = mins} {maxs = maxs} h p q = fold_ext ◌&&◌ true d.slots (λ s. leb (entry_at mins s) d.choosers && leb d.choosers (entry_at maxs s)) (seats_all d sch)
    (λ s b. let u = p.at s (omega arith) in let v = q.at s (omega arith) in ap₂ (λ (x y : ℕ). leb x d.choosers && leb d.choosers y) u v)

-- counts that an array holds
pub filled_parts : {n choices : ℕ} (sch mins maxs : List ℕ) {plan counts : List ℕ} → choices ≤ 32 → Parts n plan counts → all_filled choices sch mins maxs (entry_at counts) ≡ all_filled choices sch mins maxs (part_count n plan)
unfolding all_filled
filled_parts {n = n} {choices = choices} sch mins maxs {plan = plan} {counts = counts} h p = fold_ext ◌&&◌ true choices (filled_at sch mins maxs (entry_at counts)) (filled_at sch mins maxs (part_count n plan))
    (λ k b. ap (λ (x : ℕ). not (not (eqb (entry_at sch k) 0)) || (leb (entry_at mins k) x && leb x (entry_at maxs k))) (p.at k (omega arith)))
