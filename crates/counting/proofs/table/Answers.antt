use Rattle.std.proofs.Common.{◌≡◌, arith}
use Rattle.std.proofs.lemmas.List.{length-replicate}
use Rattle.counting.specs.Lists.{filled_none, filled_more, filled_all}
use Rattle.counting.proofs.table.Goals as goal

pub loop-k-init : goal.loop-k-init
loop-k-init g c = λ of t. filled_none of g.row.N _ (length-replicate g.row.N c.args.fill)

pub loop-k-preserved : goal.loop-k-preserved
loop-k-preserved g c = λ of t.
    filled_more c.loop-k-test.true (t _ c.loop-k-test.true _ c.f.ensures) (c.loop-k.invariant of t)

pub returns : goal.returns
returns g c = λ of t. let e : c.loop-k.k ≡ g.row.N = omega arith in filled_all e (c.loop-k.invariant of t)
