use Rattle.std.proofs.Common.{arith}
use Rattle.mip_flow.specs.Stored.{choices_same, choices_room, scheduled_most}
use Rattle.flow_edges.proofs.put_choices.Goals as goal

pub put_choice-requires : goal.put_choice-requires
put_choice-requires c = (c.loop-k-test.true, choices_room _ _ 1 c.loop-k.invariant c.requires (omega (arith, scheduled_most)))

pub returns-clause-same : goal.returns-clause-same
returns-clause-same c = choices_same _ _ _ c.loop-k.invariant
