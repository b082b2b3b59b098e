use Rattle.blocks.specs.BlocksLaws.{Blocks, blocked_to}
use Rattle.blocks.proofs.fill_blocks.Given as goal

abbrev pub invariant-loop-j : goal.invariant-loop-j
invariant-loop-j l = Blocks (blocked_to l.day.assignment l.entries l.j) l.blocks
