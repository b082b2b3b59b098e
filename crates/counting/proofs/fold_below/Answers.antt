use Rattle.std.proofs.Common.{sym, ap₂, ◌∙◌, arith}
use Rattle.counting.specs.FoldLaws.{fold_none, fold_more, fold_at}
use Rattle.counting.proofs.fold_below.Goals as goal

pub loop-k-init : goal.loop-k-init
loop-k-init g c = λ of by t u. sym (fold_none by c.args.start of)

pub loop-k-preserved : goal.loop-k-preserved
loop-k-preserved g c = λ of by t u. u _ _ _ c.op-all.ensures ∙ ap₂ by (c.loop-k.invariant of by t u) (t _ c.loop-k-test.true _ c.f.ensures) ∙ sym (fold_more by c.args.start c.loop-k.k of)

pub returns : goal.returns
returns g c = λ of by t u. c.loop-k.invariant of by t u ∙ fold_at by c.args.start of (omega (arith, c.loop-k.auto.k-end, c.loop-k-test.false))
