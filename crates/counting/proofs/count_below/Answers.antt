use Rattle.std.proofs.Common.{sym, arith, ◌+◌}
use Rattle.counting.specs.Fold.{gate}
use Rattle.counting.specs.FoldLaws.{fold_none}
use Rattle.counting.specs.Tests.{byte_most, count_more}
use Rattle.counting.proofs.count_below.Goals as goal

pub loop-k-init : goal.loop-k-init
loop-k-init g c = (omega arith, λ f t. sym (fold_none ◌+◌ 0 (λ k. gate (f k) 1)))

pub loop-k-preserved : goal.loop-k-preserved
loop-k-preserved g c = (
  omega (arith, c.loop-k.invariant.0, c.from-count.ensures, byte_most c.test.result),
  λ f t. rw c.from-count.ensures (count_more c.loop-k.k f (c.loop-k.invariant.1 f t) (t _ c.loop-k-test.true _ c.test.ensures)),
)
