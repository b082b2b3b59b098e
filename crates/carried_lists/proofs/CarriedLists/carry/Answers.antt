use Rattle.carried_lists.specs.CarriedLaws.{walking_start, walking_visits, walking_more, walking_all}
use Rattle.carried_lists.proofs.CarriedLists.carry.Goals as goal

pub loop-k-init : goal.loop-k-init
loop-k-init c = walking_start c.requires

pub visit-requires : goal.visit-requires
visit-requires c = walking_visits c.requires c.loop-k.invariant c.loop-k-test.true

pub loop-k-preserved : goal.loop-k-preserved
loop-k-preserved c = walking_more c.requires c.loop-k.invariant c.loop-k-test.true c.visit.ensures

pub returns : goal.returns
returns c = walking_all c.loop-k.invariant c.loop-k-test.false
