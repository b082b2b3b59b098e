use Rattle.std.proofs.Common.{◌<◌, arith, rules}
use Rattle.edge_groups.specs.Bounds.{room_after, row_le}
use Rattle.edge_groups.specs.Input.{number_of}
use Rattle.dependent_groups.specs.Members.{members_few}
use Rattle.dependent_groups.proofs.put_choosers.Goals as goal

pub group_or_block-requires : goal.group_or_block-requires
group_or_block-requires c =
    let m = c.args.members.now in
    let i = c.loop-c.c-counter in
    let b : i < c.args.input.now.sizes.choosers = omega arith in (
      (λ k h. search (rules, m.inside.small k h, m.inside.few, c.args.input.now.few)),
      (λ k h e p. search rules),
      room_after _ _ _ _ _ c.loop-c.invariant c.requires (members_few (number_of c.args.input.now) m.choices m.count i) (row_le i _ m.count b) (omega arith),
    )
