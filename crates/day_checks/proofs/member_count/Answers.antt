use Rattle.std.proofs.Common.{◌∙◌, arith}
use Rattle.counting.specs.FoldLaws.{fold_at}
use Rattle.counting.specs.Sums.{sum_places}
use Rattle.input_data.specs.Checks.{member_count}
use Rattle.day_checks.proofs.member_count.Goals as goal

pub returns : goal.returns
unfolding member_count
returns c = c.loop-i.invariant.1 ∙ fold_at _ _ _ (omega arith) ∙ sum_places 16 c.args.day.now.groups _
