-- What a made model says of the lent buffers. Assumes nothing.
use Rattle.std.specs.Prelude.{◌≡◌, refl}
use Rattle.input_data.specs.declared.Limits.{Limits}
use Rattle.model_buffers.specs.Lent.{held, lent_with}
use Rattle.model_buffers.specs.declared.buffers.LentBuffers.{LentBuffers}
use Rattle.plans.specs.Model.{ModelInput}
use Rattle.flow_model.specs.Lent.{with_model, ModelMade}
use Rattle.flow_model.specs.declared.FlowModel.{FlowModel}

module _ {l : Limits} {x : ModelInput} {b b' : LentBuffers} {m : FlowModel} (p : ModelMade l x b b' m) where
  -- what stands in them
  pub held_made : held b' ≡ with_model l x (held b)
  held_made = rw p.buffers refl

  -- they are the same ones
  pub same_made : b' ≡ lent_with b (held b')
  same_made = rw p.buffers refl
