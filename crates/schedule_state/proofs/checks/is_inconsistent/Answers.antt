use Rattle.schedule_state.specs.Good.{small_day, inconsistent_is}
use Rattle.schedule_state.proofs.checks.is_inconsistent.Goals as goal

pub is_misblocked-requires : goal.is_misblocked-requires
is_misblocked-requires c = small_day c.requires.ready

pub returns : goal.returns
returns c = inconsistent_is c.requires c.args.lists.now (rw (c.slots-slots.ensures, c.choices.ensures) at c.is_misheld.ensures) (rw c.slots-slots.ensures at c.sums_differ.ensures) c.is_misblocked.ensures
