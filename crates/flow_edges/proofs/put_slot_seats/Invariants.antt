use Rattle.std.proofs.Common.{◌≡◌}
use Rattle.counting.specs.Fold.{join_to}
use Rattle.scheduling.specs.Schedule.{entry_at}
use Rattle.mip_flow.specs.Edges.{listed_seat}
use Rattle.mip_flow.specs.Stored.{with_index, store_seats}
use Rattle.flow_edges.proofs.put_slot_seats.Given as goal

abbrev pub invariant-loop-k : goal.invariant-loop-k
invariant-loop-k l = with_index l.edges l.index ≡ store_seats l.seats.offer.now (with_index l.initial.edges l.initial.index) (join_to l.k-index (listed_seat l.seats.offer.now l.c l.s (entry_at l.list)))
