use Rattle.std.proofs.Common.{◌∙◌, arith}
use Rattle.input_data.specs.Lengths.{full_day}
use Rattle.input_data.specs.Numbers.{full_within}
use Rattle.schedule_updates.specs.Numbers.{part_inside}
use Rattle.schedule_updates.proofs.listing.slot_list.Goals as goal

pub overflow_add-result : goal.overflow_add-result
overflow_add-result c =
    let a = c.args in
    omega (arith, part_inside full_day a.day.now a.state.now a.slot a.lists.now full_within (c.from-answer.ensures ∙ c.slot_list_part.ensures))

pub slice_bounds-result-end : goal.slice_bounds-result-end
slice_bounds-result-end c =
    let a = c.args in
    omega (arith, part_inside full_day a.day.now a.state.now a.slot a.lists.now full_within (c.from-answer.ensures ∙ c.slot_list_part.ensures))
