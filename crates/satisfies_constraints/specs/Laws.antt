-- What the constraint tests ask, and their laws. Assumes nothing.
use Rattle.std.specs.Prelude.{ℕ, zero, suc, ◌≤◌, ◌≡◌, List, eqb, ℤ, pos, ◌-ℤ◌, length}
use Rattle.std.proofs.Common.{sym, ◌∙◌, arith, eq-eqb, ne_eqb}
use Rattle.assignment.specs.Inside.{InPlan}
use Rattle.std.specs.Prelude.{Some}
use Rattle.std.specs.Option.{option_eq}
use Rattle.counting.specs.Ints.{eq_z}
use Rattle.counting.specs.Tests.{eq_cases}
use Rattle.input_data.specs.Accepted.{AcceptedList}
use Rattle.input_data.specs.declared.InputData.{InputData}
use Rattle.scheduling.specs.Schedule.{slot_in}
use Rattle.scheduling.specs.ScheduleLaws.{slot_entry}
use Rattle.satisfies_constraints.specs.Constraints.{has_offset}

-- what the test of a schedule asks of its day
pub record ScheduleRead (d : InputData) : Type 0 where
  pub few : d.choices ≤ 32
  pub short : d.slots ≤ 8
  pub accepted : AcceptedList d.choosers d.choices d.slots 1 6 d.scheduling

-- what the test of a plan asks of its day and the plan
pub record PlanRead (d : InputData) (plan : List ℕ) : Type 0 where
  pub accepted : AcceptedList d.choosers d.choices d.slots 65536 65539 d.assignment
  pub inside : InPlan d.choosers d.slots (length plan)

-- ---- entries

-- an entry names slot s
pub names_slot : (e s : ℕ) → option_eq eqb (slot_in e) (Some s) ≡ eqb e (suc s)
names_slot zero s = sym (ne_eqb 0 (suc s) (λ z. omega arith))
names_slot (suc t) s = eq_cases t s (λ w u. u ∙ sym (eq-eqb (suc t) (suc s) (omega arith))) (λ w u. u ∙ sym (ne_eqb (suc t) (suc s) (λ v. w (omega arith))))

-- an offset of two entries that have a slot
pub offset_slots : (left right : ℕ) (z : ℤ) {l r : ℕ} → Some l ≡ slot_in left → Some r ≡ slot_in right → has_offset left right z ≡ eq_z (pos r -ℤ pos l) z
unfolding has_offset
offset_slots left right z {l = l} {r = r} e f = rw (slot_entry left l e, slot_entry right r f)
