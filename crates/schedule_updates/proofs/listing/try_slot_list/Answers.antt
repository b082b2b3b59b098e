use Rattle.std.proofs.Common.{ap, ◌∙◌, refl, arith, rules}
use Rattle.input_data.specs.Lengths.{full_day}
use Rattle.input_data.specs.Numbers.{full_within}
use Rattle.schedule_updates.specs.Numbers.{listed_refuses, list_number_lem, part_inside}
use Rattle.schedule_updates.proofs.listing.try_slot_list.Goals as goal

pub returns-in_err-part : goal.returns-in_err-part
returns-in_err-part c =
    let a = c.args in
    listed_refuses full_day a.day.now a.state.now a.slot a.lists.now _ _ c.from_residual.ensures.1 refl c.in_err-part.ensures

pub overflow_add-result : goal.overflow_add-result
overflow_add-result c =
    let a = c.args in
    omega (arith, part_inside full_day a.day.now a.state.now a.slot a.lists.now full_within c.in_ok-part.ensures)

pub slice_bounds-result-end : goal.slice_bounds-result-end
slice_bounds-result-end c =
    let a = c.args in
    omega (arith, part_inside full_day a.day.now a.state.now a.slot a.lists.now full_within c.in_ok-part.ensures)

pub returns : goal.returns
returns c =
    let a = c.args in
    record {
      number = ap (λ t. t.number) c.in_ok-part.ensures ∙ list_number_lem full_day a.day.now a.state.now a.slot a.lists.now;
      part = rw (← c.in_ok-part.ensures) (search rules);
    }
