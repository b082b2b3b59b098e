use Rattle.std.proofs.Common.{arith}
use Rattle.model_buffers.specs.StoredLaws.{filled_long}
use Rattle.edge_groups.specs.Together.{puts_none, puts_more}
use Rattle.edge_groups.proofs.put_present.Goals as goal

pub put_edge-requires : goal.put_edge-requires
put_edge-requires g c =
    let v = c.loop-i.invariant in
    (c.requires.1 _ c.loop-i-test.true _ c.edge.ensures, omega (arith, v.few, v.stored.used, filled_long v.stored))

pub loop-i-init : goal.loop-i-init
loop-i-init g c = puts_none

pub loop-i-preserved : goal.loop-i-preserved
loop-i-preserved g c = puts_more _ c.loop-i-test.true c.edge.ensures c.put_edge.ensures c.loop-i.invariant
