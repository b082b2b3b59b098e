use Rattle.std.proofs.Common.{ap}
use Rattle.counting.specs.Tests.{so}
use Rattle.scheduling.specs.Schedule.{entry_at}
use Rattle.decoding.specs.Decoding.{search_on, search_end}
use Rattle.decoding.proofs.values.EdgeValues.choice_of.Goals as goal

pub loop-k-preserved : goal.loop-k-preserved
loop-k-preserved c = search_on c.requires.found c.loop-k.invariant (so c.has_one.ensures c.if-has_one.false)

pub returns-then-has_one : goal.returns-then-has_one
returns-then-has_one c = ap (entry_at c.args.list.now) (search_end c.loop-k.invariant (so c.has_one.ensures c.if-has_one.true))
