use Rattle.std.proofs.Common.{ap, ◌∙◌}
use Rattle.edge_groups.specs.Bounds.{room_less}
use Rattle.edge_groups.specs.Groups.{store_groups}
use Rattle.edge_groups.specs.Grouping.{group_other}
use Rattle.edge_groups.specs.Input.{number_of}
use Rattle.dependent_groups.specs.Members.{rows_few, members_named}
use Rattle.dependent_groups.proofs.put_group.Goals as goal

pub put_choosers-requires : goal.put_choosers-requires
put_choosers-requires c =
    let i = c.args.input.now in
    room_less _ _ (rows_few (number_of i) i.schedule.now c.args.group.now c.scheduled-members.ensures i.few) i.few c.requires.1

pub returns : goal.returns
returns c =
    let i = c.args.input.now in
    let named = members_named (number_of i) i.schedule.now c.args.group.now c.scheduled-members.ensures i.sizes.choosers in
    c.put_choosers.ensures ∙ ap (store_groups i.index.now.count c.args.groups.now) (named ∙ group_other _ _ _ _ _ _ c.if-group-eq1.false)
