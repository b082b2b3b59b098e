use Rattle.std.proofs.Common.{w64, ◌∙◌}
use Rattle.counting.specs.Signed.{back}
use Rattle.mip_flow.specs.Stored.{no_seat, one_seat}
use Rattle.flow_edges.proofs.edges.put_seat.Goals as goal

pub returns-then-not-has_edge : goal.returns-then-not-has_edge
returns-then-not-has_edge c = no_seat _ _ _ _ _ (cc)

pub returns : goal.returns
returns c = rw (c.push.ensures, c.push-2.ensures) (one_seat _ _ _ _ _ (cc) (cc) (cc) (back w64 _ c.cost.type_inv ∙ c.cost.ensures))
