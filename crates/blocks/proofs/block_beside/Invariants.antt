use Rattle.blocks.specs.BlocksLaws.{Blocked, so_far, shares}
use Rattle.blocks.proofs.block_beside.Given as goal

abbrev pub invariant-loop-k : goal.invariant-loop-k
invariant-loop-k l = Blocked (so_far l.chooser (shares l.entries l.x) l.k) l.initial.blocks l.blocks
