-- Which plans can be had from a state at a limit: SPEC 7.8, 7.9, 12.5. Statement only; the proofs are `plans_seatable`, `same_plans` and `within_limit` in proofs/Plans.antt.
--
-- It rests on the contract of `check_values`, the promise ValuesLent of flow_model's Calls.antt, at full_day: it cites plan_of,
-- and enter_number and values_number, of which check_number is made.
use Rattle.std.specs.Prelude.{ℕ, ◌+◌, ◌*◌, ◌<◌, ◌≤◌, ◌≡◌, List, ◌↔◌, ℤ, get_or}
use Rattle.input_data.specs.Lengths.{Within}
use Rattle.input_data.specs.declared.Limits.{Limits}
use Rattle.model_buffers.specs.declared.Lengths.{Lengths}
use Rattle.plans.specs.Model.{ModelInput, entries_of, model_number, check_number, plan_of}
use Rattle.plans.specs.Seatable.{Seatable, choice_in}

-- SPEC 7.8: some accepted values decode to the plan
pub record CanBeHad (l : Limits) (x : ModelInput) (plan : List ℕ) : Type 0 where
  pub lengths : Lengths
  pub room : ℕ
  pub values : List ℤ
  pub accepted : check_number l x lengths values room ≡ 0
  pub decodes : plan_of l x values ≡ plan

-- Where a model can be built, the plans that can be had are those that seat everybody.
abbrev pub PlansSeatable : Type 0
PlansSeatable =
    (l : Limits) → Within l → (x : ModelInput) (lengths : Lengths) → model_number l x lengths ≡ 0
    → (plan : List ℕ) → CanBeHad l x plan ↔ Seatable x.day (entries_of x) x.limit x.preferences plan

-- So states of one day that agree in their schedule have the same plans at every limit, whatever the order of their lists ..
abbrev pub SamePlans : Type 0
SamePlans =
    (l : Limits) → Within l → (x y : ModelInput) (lengths : Lengths) → model_number l x lengths ≡ 0 → model_number l y lengths ≡ 0
    → x.day ≡ y.day → entries_of x ≡ entries_of y → x.limit ≡ y.limit → x.preferences ≡ y.preferences
    → (plan : List ℕ) → CanBeHad l x plan ↔ CanBeHad l y plan

-- .. and no plan that can be had holds a preference above the limit.
abbrev pub WithinLimit : Type 0
WithinLimit =
    (l : Limits) → Within l → (x : ModelInput) (plan : List ℕ) → CanBeHad l x plan
    → (c s : ℕ) → c < x.day.choosers → s < x.day.slots
    → get_or x.preferences (c * x.day.choices + choice_in x.day plan c s) 0 ≤ x.limit
