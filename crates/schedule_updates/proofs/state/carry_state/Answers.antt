use Rattle.blocks.specs.BlocksLaws.{unfilled}
use Rattle.schedule_updates.specs.Numbers.{state_made}
use Rattle.schedule_updates.proofs.state.carry_state.Goals as goal

pub fill_blocks-requires : goal.fill_blocks-requires
fill_blocks-requires c = unfilled c.requires.1

pub returns-clause-state : goal.returns-clause-state
returns-clause-state c = state_made c.args.day.now (rw (c.mins.ensures, c.choices.ensures) at c.carry.ensures) c.fill_blocks.ensures
