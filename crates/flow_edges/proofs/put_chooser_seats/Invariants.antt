use Rattle.std.proofs.Common.{◌≡◌}
use Rattle.counting.specs.Fold.{join_to}
use Rattle.slot_lists.specs.Parts.{list_length, list_entry}
use Rattle.mip_flow.specs.Edges.{slot_seats_at}
use Rattle.mip_flow.specs.Stored.{with_index, store_seats}
use Rattle.flow_edges.proofs.put_chooser_seats.Given as goal

abbrev pub invariant-loop-s : goal.invariant-loop-s
invariant-loop-s l = with_index l.edges l.index ≡ store_seats l.seats.offer.now (with_index l.initial.edges l.initial.index) (join_to l.s (slot_seats_at l.seats.offer.now (list_length l.seats.lists.now) (list_entry l.seats.lists.now) l.c))
