use Rattle.std.proofs.Common.{refl, rules}
use Rattle.slot_lists.specs.Marks.{noted_none, noted_more}
use Rattle.slot_lists.proofs.mark_list.Goals as goal

pub loop-k-init : goal.loop-k-init
loop-k-init c = noted_none _ _ _

pub loop-k-preserved : goal.loop-k-preserved
loop-k-preserved c = noted_more c.args.list.now c.loop-k.invariant c.told-marks refl (search rules) refl
