use Rattle.std.proofs.Common.{ltb, ◌∙◌, w32, ap, negsuc, arith}
use Rattle.counting.specs.Signed.{back}
use Rattle.counting.specs.Tests.{bool_cases}
use Rattle.input_data.specs.Bytes.{signed_of}
use Rattle.input_data.proofs.bytes.signed.Goals as goal

pub returns : goal.returns
unfolding signed_of
returns c = back w32 _ c.cast_signed.type_inv ∙ c.cast_signed.ensures ∙ bool_cases (ltb c.args.x 2147483648) (λ e. simp e) (λ e. rw e (ap negsuc (omega arith)))
