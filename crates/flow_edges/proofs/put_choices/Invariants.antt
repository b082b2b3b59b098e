use Rattle.std.proofs.Common.{◌≡◌}
use Rattle.counting.specs.Fold.{join_to}
use Rattle.mip_flow.specs.Edges.{place_at}
use Rattle.mip_flow.specs.Stored.{choices_of, store_choices}
use Rattle.flow_edges.proofs.put_choices.Given as goal

abbrev pub invariant-loop-k : goal.invariant-loop-k
invariant-loop-k l = l.edges ≡ store_choices (choices_of l.choices.nodes.sizes l.choices.schedule.now l.choices.day.now.mins l.choices.day.now.maxs) l.initial.edges (join_to l.k (place_at l.choices.schedule.now))
