use Rattle.std.proofs.Common.{◌∙◌}
use Rattle.satisfies_constraints.specs.ByNumber.{schedule_numbers, slot_left}
use Rattle.satisfies_constraints.proofs.scheduling_constraints.scheduling_at.Goals as goal

pub meets_schedule-requires : goal.meets_schedule-requires
meets_schedule-requires c =
    let r = c.requires.0 in
    (rw c.choices.ensures r.few, rw (c.get.ensures, c.scheduling.ensures) (slot_left r.accepted r.short c.args.j c.requires.1))

pub returns : goal.returns
returns c =
    let r = c.requires.0 in
    (rw (c.choices.ensures, c.get.ensures, c.scheduling.ensures) at c.meets_schedule.ensures) ∙ schedule_numbers r.accepted r.short c.args.j c.requires.1 c.args.day.now.choices c.args.entries.now
