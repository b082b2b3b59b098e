use Rattle.std.proofs.Common.{◌≡◌}
use Rattle.counting.specs.Fold.{join_to}
use Rattle.slot_lists.specs.Parts.{list_length, list_entry}
use Rattle.mip_flow.specs.Edges.{chooser_seats}
use Rattle.mip_flow.specs.Stored.{with_index, store_seats}
use Rattle.flow_edges.proofs.put_seats.Given as goal

abbrev pub invariant-loop-c : goal.invariant-loop-c
invariant-loop-c l = with_index l.edges l.index ≡ store_seats l.seats.offer.now (with_index l.initial.edges l.initial.index) (join_to l.c (chooser_seats l.seats.offer.now (list_length l.seats.lists.now) (list_entry l.seats.lists.now)))
