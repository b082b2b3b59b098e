use Rattle.std.proofs.Common.{◌∙◌}
use Rattle.schedule_updates.specs.Numbers.{unread, list_is, list_refuses}
use Rattle.schedule_updates.proofs.listing.part_within.Goals as goal

pub returns-in_err-day : goal.returns-in_err-day
returns-in_err-day c = let a = c.args in list_refuses a.fixed.limits a.day.now a.state.now a.slot a.lists.now _ _ c.from_residual.ensures.1 (unread _ _ _ _ c.in_err-day.ensures)

pub returns-in_err-sums : goal.returns-in_err-sums
returns-in_err-sums c =
    let a = c.args in
    list_refuses a.fixed.limits a.day.now a.state.now a.slot a.lists.now _ _ c.from_residual-in_err-sums.ensures.1
    (c.in_err-sums.ensures.number ∙ list_is a.fixed.limits a.day.now c.in_ok-day.ensures a.state.now a.slot a.lists.now)
