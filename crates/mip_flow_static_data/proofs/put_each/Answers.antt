use Rattle.std.proofs.Common.{arith}
use Rattle.counting.specs.WrittenLaws.{fill_none, fill_more, fill_all}
use Rattle.mip_flow_static_data.proofs.put_each.Goals as goal

pub loop-k-init : goal.loop-k-init
loop-k-init g c = λ of t. fill_none _ _ of

pub loop-k-preserved : goal.loop-k-preserved
loop-k-preserved g c = λ of t. fill_more (c.loop-k.invariant of t) (t _ c.loop-k-test.true _ c.f.ensures)

pub returns : goal.returns
returns g c = λ of t. fill_all (omega arith) (c.loop-k.invariant of t)
