use Rattle.counting.specs.WrittenLaws.{fill_none, fill_more}
use Rattle.decoding.specs.Decoding.{finds, found_in}
use Rattle.decoding.proofs.put_row.Goals as goal

pub loop-s-init : goal.loop-s-init
loop-s-init c = fill_none _ _ _

pub choice_of-requires : goal.choice_of-requires
choice_of-requires c = finds c.args.accepted.now.decoding _ _ c.requires.0 c.loop-s-test.true c.list.ensures.holds

pub loop-s-preserved : goal.loop-s-preserved
loop-s-preserved c = fill_more c.loop-s.invariant (found_in c.args.accepted.now.decoding _ _ c.requires.0 c.loop-s-test.true c.list.ensures.holds c.choice_of.ensures)
