use Rattle.std.proofs.Common.{◌<◌, ◌≡◌, arith, rules}
use Rattle.counting.specs.Fold.{table_to}
use Rattle.scheduling.specs.Schedule.{entry_at}
use Rattle.edge_groups.specs.Input.{number_of}
use Rattle.edge_groups.specs.Bounds.{room_after, groups_few, start_more, start_within}
use Rattle.edge_groups.specs.Grouping.{part_ends, part_long, part_choices, part_names}
use Rattle.edge_groups.specs.Stored.{groups_laws}
use Rattle.create_edge_groups.proofs.put_dependent.Goals as goal

pub overflow_add-end : goal.overflow_add-end
overflow_add-end c = omega (arith, part_ends c.requires.0 (omega arith) c.loop-g.invariant.0 c.group_length.ensures.0)

pub offset_bounds-members-start : goal.offset_bounds-members-start
offset_bounds-members-start c = omega (arith, part_ends c.requires.0 (omega arith) c.loop-g.invariant.0 c.group_length.ensures.0)

pub slice_bounds-put_group-end : goal.slice_bounds-put_group-end
slice_bounds-put_group-end c = omega (arith, part_ends c.requires.0 (omega arith) c.loop-g.invariant.0 c.group_length.ensures.0)

pub put_group-requires : goal.put_group-requires
put_group-requires c =
    let e = c in
    let a = e.args in
    let d = a.day.now in
    let g = e.loop-g.g in
    let v = e.loop-g.invariant in
    let p = e.requires in
    let b : g < d.groups = omega arith in
    let m : e.table-members.result ≡ table_to 32 (entry_at d.members) = e.table-members.ensures (entry_at d.members) (λ k h x q. search rules) in
    let long = part_long p.0 b v.0 e.group_length.ensures.0 m in (
      part_choices p.0 b v.0 e.group_length.ensures.0 m,
      room_after _ _ _ _ _ v.1 p.1 (groups_few (number_of a.input.now) a.input.now.sizes a.input.now.schedule.now d.lengths d.members a.input.now.few g)
          (omega (arith, long, start_within d.lengths g d.groups b, p.0.few)) (omega (arith, p.0.count)),
    )

pub loop-g-preserved : goal.loop-g-preserved
loop-g-preserved c =
    let e = c in
    let a = e.args in
    let d = a.day.now in
    let v = e.loop-g.invariant in
    let b : e.loop-g.g < d.groups = omega arith in
    let m : e.table-members.result ≡ table_to 32 (entry_at d.members) = e.table-members.ensures (entry_at d.members) (λ k h x q. search rules) in
    let names = part_names e.requires.0 b v.0 e.group_length.ensures.0 m (number_of a.input.now) a.input.now.sizes a.input.now.schedule.now in
    (rw e.group_length.ensures.0 (start_more _ _ v.0), grind (arith, groups_laws))
