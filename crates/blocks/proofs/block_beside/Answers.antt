use Rattle.std.proofs.Common.{refl}
use Rattle.blocks.specs.BlocksLaws.{shares, row_more}
use Rattle.blocks.proofs.block_beside.Goals as goal

pub loop-k-preserved : goal.loop-k-preserved
loop-k-preserved c = let a = c.args in row_more (shares a.entries.now a.x) c.loop-k.invariant c.told-blocks c.requires.0 c.loop-k-test.true refl
