use Rattle.std.proofs.Common.{◌≡◌, ◌-◌, ap, ◌∙◌, arith}
use Rattle.score.specs.Best.{best_to}
use Rattle.score.specs.ListedLaws.{held_first, held_next}
use Rattle.score.proofs.best_among.Goals.{then-is_less, else-is_less}
use Rattle.score.proofs.best_among.Goals as goal

pub loop-position-init : goal.loop-position-init
loop-position-init c = (omega arith, held_first c.args.floats.now c.args.count c.requires.0 c.score_at.ensures)

pub loop-position-preserved : goal.loop-position-preserved
loop-position-preserved c =
    let v = c.loop-position in
    let step = held_next c.args.floats.now c.args.count v.position v.invariant.0 c.loop-position-test.true v.invariant.1 c.score_at-score.ensures c.is_less.ensures in (
      omega arith,
      elim c.if-is_less.branch [
        | then-is_less w ↦ w.best-is ∙ (rw w.if-is_less.true at step)
        | else-is_less w ↦ w.best-is ∙ (rw w.if-is_less.false at step)
      ],
    )

pub returns : goal.returns
returns c = let e : c.loop-position.position - 1 ≡ c.args.count - 1 = omega arith in c.loop-position.invariant.1 ∙ ap (best_to _) e
