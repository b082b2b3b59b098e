use Rattle.blocks.specs.BlocksLaws.{unfilled}
use Rattle.schedule_state.proofs.checks.is_misblocked.Goals as goal

pub fill_blocks-requires : goal.fill_blocks-requires
fill_blocks-requires c = unfilled c.requires.blocking
