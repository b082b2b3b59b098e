-- What the calls that build a model and check values give and leave: SPEC 3.22, 6.13, 7.7. Definitions only.
use Rattle.std.specs.Prelude.{ℕ, ◌≡◌, cond, List, eqb, ℤ, Result, length}
use Rattle.counting.specs.Written.{written}
use Rattle.refusal.specs.declared.Refusal.{Refusal}
use Rattle.input_data.specs.Bytes.{lent_number}
use Rattle.input_data.specs.declared.Limits.{Limits}
use Rattle.schedule_state.specs.Bytes.{not_state}
use Rattle.model_buffers.specs.Answers.{model_answer, model_refused}
use Rattle.model_buffers.specs.Buffers.{Buffers, lengths_of}
use Rattle.model_buffers.specs.Answered.{model_answered}
use Rattle.model_buffers.specs.Lent.{held, lent_with}
use Rattle.model_buffers.specs.declared.Counts.{Counts}
use Rattle.model_buffers.specs.declared.ModelAnswer.{ModelAnswer}
use Rattle.model_buffers.specs.declared.buffers.LentBuffers.{LentBuffers}
use Rattle.edge_groups.specs.Groups.{flat}
use Rattle.edge_values.specs.Values.{values_number}
use Rattle.plans.specs.Model.{ModelInput, network_of, plan_of, model_number, enter_number}
use Rattle.flow_model.specs.Lent.{with_model}

-- how much of the buffers a model uses
unfoldable pub model_counts : Limits → ModelInput → ModelAnswer
model_counts l x = model_answer 0 (length (network_of l x).from) (length (flat (network_of l x).groups)) (length (network_of l x).groups) (length (network_of l x).blocked)

-- the counts, or the number and zeros
abbrev pub model_answer_of : ℕ → Limits → ModelInput → ModelAnswer
model_answer_of n l x = cond (eqb n 0) (model_counts l x) (model_refused n)

-- what a call that builds a model gives and leaves, whose number is n
pub record ModelLeaves (n : ℕ) (l : Limits) (x : ModelInput) (b b' : Buffers) (r : ModelAnswer) : Type 0 where
  pub gives : r ≡ model_answer_of n l x
  pub leaves : b' ≡ cond (eqb n 0) (with_model l x b) b

-- 14 to 17 of the values, where the call's number before these is n
abbrev pub checked_with : ℕ → Limits → ModelInput → List ℤ → ℕ
checked_with n l x vs = cond (eqb n 0) (values_number (network_of l x) vs) n

-- what a call that checks values gives and leaves, whose number is n before values are looked at: the finished model is there on 14 to 17 too, the plan only where the values are accepted
pub record ValuesLeaves (n : ℕ) (l : Limits) (x : ModelInput) (vs : List ℤ) (b : Buffers) (plan : List ℕ) (b' : Buffers) (plan' : List ℕ) (r : ModelAnswer) : Type 0 where
  pub gives : r ≡ model_answer_of (checked_with n l x vs) l x
  pub leaves : b' ≡ cond (eqb n 0) (with_model l x b) b
  pub decodes : plan' ≡ cond (eqb (checked_with n l x vs) 0) (written plan 0 (plan_of l x vs)) plan

-- ---- the calls, on lent bytes

-- the call that builds a model
abbrev pub ModelLent : Limits → List ℕ → List ℕ → ModelInput → Buffers → Buffers → ModelAnswer → Type 0
ModelLent l day st x b b' r = ModelLeaves (lent_number l day (not_state st) (model_number l x (lengths_of b))) l x b b' r

-- the call that checks values
abbrev pub ValuesLent : Limits → List ℕ → List ℕ → ModelInput → List ℤ → Buffers → List ℕ → Buffers → List ℕ → ModelAnswer → Type 0
ValuesLent l day st x vs b plan b' plan' r =
    ValuesLeaves (lent_number l day (not_state st) (enter_number l x (lengths_of b) (length vs) (length plan))) l x vs b plan b' plan' r

-- ---- the calls, on lent structs

-- the call that builds a model
pub record ModelBuilt (l : Limits) (day st : List ℕ) (x : ModelInput) (b b' : LentBuffers) (r : Result Counts Refusal) : Type 0 where
  pub lent : ModelLent l day st x (held b) (held b') (model_answered r)
  pub same : b' ≡ lent_with b (held b')

-- the call that checks values
pub record ValuesChecked (l : Limits) (day st : List ℕ) (x : ModelInput) (vs : List ℤ) (b : LentBuffers) (plan : List ℕ) (b' : LentBuffers) (plan' : List ℕ) (r : Result Counts Refusal) : Type 0 where
  pub lent : ValuesLent l day st x vs (held b) plan (held b') plan' (model_answered r)
  pub same : b' ≡ lent_with b (held b')
