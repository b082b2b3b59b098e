use Rattle.std.proofs.Common.{◌≡◌, rules}
use Rattle.input_data.specs.Day.{constraint_at}
use Rattle.blocks.specs.BlocksLaws.{blocks_none, blocks_more, blocks_all}
use Rattle.blocks.proofs.fill_blocks.Goals as goal

pub loop-j-init : goal.loop-j-init
loop-j-init c = blocks_none c.args.entries.now c.told-blocks c.requires

pub loop-j-preserved : goal.loop-j-preserved
loop-j-preserved c =
    let l = c.args.day.now.assignment in
    let e : c.from-constraint.result ≡ constraint_at l c.loop-j.j = search rules in
    blocks_more l c.args.entries.now c.loop-j.j c.loop-j.invariant e c.block_constraint.ensures

pub returns : goal.returns
returns c = blocks_all c.args.day.now.assignment c.args.entries.now c.requires.blocking.count (search rules) c.loop-j.invariant
