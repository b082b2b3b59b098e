use Rattle.std.proofs.Common.{arith}
use Rattle.decoding.specs.Decoding.{rows_none, plan_more, plan_all}
use Rattle.decoding.proofs.decode.Goals as goal

pub loop-c-init : goal.loop-c-init
loop-c-init c = rows_none _ _

pub loop-c-preserved : goal.loop-c-preserved
loop-c-preserved c = let a = c.args.accepted.now in plan_more a.sizes a.lists a.edges c.loop-c.invariant c.put_row.ensures

pub returns : goal.returns
returns c = let a = c.args.accepted.now in plan_all a.sizes a.lists a.edges (omega arith) c.loop-c.invariant
