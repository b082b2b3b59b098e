-- What the calls leave, refused or done. Assumes nothing.
use Rattle.std.specs.Prelude.{ℕ, ◌≡◌, refl, false, List, Ok, eqb, ℤ}
use Rattle.std.proofs.Common.{◌∙◌, ne_eqb}
use Rattle.counting.specs.Written.{written}
use Rattle.refusal.specs.Laws.{some_number}
use Rattle.refusal.specs.Number.{number}
use Rattle.refusal.specs.declared.Refusal.{Refusal}
use Rattle.input_data.specs.declared.Limits.{Limits}
use Rattle.model_buffers.specs.Answers.{model_refused, counted_answer}
use Rattle.model_buffers.specs.Lent.{held}
use Rattle.model_buffers.specs.declared.buffers.LentBuffers.{LentBuffers}
use Rattle.edge_values.specs.Values.{values_number}
use Rattle.plans.specs.Model.{ModelInput, network_of, plan_of}
use Rattle.flow_model.specs.Calls.{model_counts, ModelBuilt, ValuesLeaves}
use Rattle.flow_model.specs.Lent.{ModelMade, EnteredWith, EnteredLent}
use Rattle.flow_model.specs.Made.{held_made, same_made}
use Rattle.flow_model.specs.declared.FlowModel.{FlowModel}

-- no refusal's number is 0
not_zero : (r : Refusal) → eqb (number r) 0 ≡ false
not_zero r = ne_eqb (number r) 0 (some_number r)

-- the answer that a made model gives
answer_made : {l : Limits} {x : ModelInput} {b b' : LentBuffers} {m : FlowModel} → ModelMade l x b b' m → counted_answer m.counts ≡ model_counts l x
unfolding model_counts
answer_made p = rw (p.edges, p.entries, p.groups, p.blocked) refl

module _ {l : Limits} {day st : List ℕ} {x : ModelInput} {b b' : LentBuffers} where
  -- a call that builds a model
  pub build_done : {m : FlowModel} → EnteredLent l day st x false b b' (Ok m) → ModelBuilt l day st x b b' (Ok m.counts)
  build_done p = record { lent = rw (← p.number) (record { gives = answer_made p.made; leaves = held_made p.made }); same = same_made p.made }

-- a call that checks values
module _ {n : ℕ} {l : Limits} {x : ModelInput} {b b' : LentBuffers} {m : FlowModel} (p : EnteredWith n l x b b' (Ok m)) {vs : List ℤ} {plan : List ℕ} where
  -- refused by 14 to 17: the model is there, the plan is not touched
  pub values_refused : (r : Refusal) → number r ≡ values_number (network_of l x) vs → ValuesLeaves n l x vs (held b) plan (held b') plan (model_refused (number r))
  values_refused r q = rw (← p.number) (record { gives = rw (← q, not_zero r) refl; leaves = held_made p.made; decodes = rw (← q, not_zero r) refl })

  pub values_done : {plan' : List ℕ} → 0 ≡ values_number (network_of l x) vs → plan' ≡ written plan 0 (plan_of l x vs) → ValuesLeaves n l x vs (held b) plan (held b') plan' (counted_answer m.counts)
  values_done q r = rw (← p.number) (record { gives = answer_made p.made ∙ rw (← q) refl; leaves = held_made p.made; decodes = r ∙ rw (← q) refl })
