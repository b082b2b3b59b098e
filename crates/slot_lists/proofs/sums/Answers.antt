use Rattle.slot_lists.specs.SumsLaws.{summed_none, summed_more}
use Rattle.slot_lists.proofs.sums.Goals as goal

pub loop-k-init : goal.loop-k-init
loop-k-init g c = (summed_none _ _ _, summed_none _ _ _)

pub loop-k-preserved : goal.loop-k-preserved
loop-k-preserved g c =
    let r = c.requires in
    let (p, q) = c.loop-k.invariant in (
      summed_more r.slots r.first c.loop-k-test.true p c.a.ensures c.add.ensures,
      summed_more r.slots r.second c.loop-k-test.true q c.b.ensures c.add-in-loop-k.ensures,
    )
