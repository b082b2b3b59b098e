use Rattle.std.proofs.Common.{◌∙◌, refl, rules}
use Rattle.schedule_updates.specs.Numbers.{unread, leaves_refused, update_is, update_long, update_carries, state_carried, updated_leaves}
use Rattle.schedule_updates.proofs.state.update_within.Goals as goal

pub returns-in_err-day : goal.returns-in_err-day
returns-in_err-day c = leaves_refused _ _ c.from_residual.ensures.1 (unread _ _ _ _ c.in_err-day.ensures)

pub returns-in_err-sums : goal.returns-in_err-sums
returns-in_err-sums c =
    let a = c.args in
    leaves_refused _ _ c.from_residual-in_err-sums.ensures.1 (c.in_err-sums.ensures.number ∙ update_is a.fixed.limits a.day.now c.in_ok-day.ensures a.state.now a.schedule.now a.lists.now)

pub of-requires : goal.of-requires
of-requires c = let a = c.args in (update_long a.fixed.limits a.day.now a.state.now a.schedule.now a.lists.now a.fixed.within c.in_ok-day.ensures c.in_ok-sums.ensures.number)

pub carry_state-requires : goal.carry_state-requires
carry_state-requires c =
    let a = c.args in
    update_carries a.fixed.limits a.day.now a.state.now a.schedule.now a.lists.now a.fixed.within c.in_ok-day.ensures c.in_ok-sums.ensures.number refl refl
    (rw c.of.ensures at c.kept-last.ensures) (rw (c.choices.ensures, c.in_ok-sums.ensures.entries) at c.kept-next.ensures) c.in_ok-sums.ensures.sums

pub returns : goal.returns
returns c =
    let a = c.args in
    updated_leaves a.fixed.limits a.day.now a.state.now a.schedule.now a.lists.now a.fixed.within c.in_ok-day.ensures c.in_ok-sums.ensures.number
    (rw c.of.ensures at c.kept-last.ensures) (rw (c.choices.ensures, c.in_ok-sums.ensures.entries) at c.kept-next.ensures)
    (state_carried a.fixed.limits _ {c' = c.carry_state.new.lists} refl c.carry_state.ensures.state c.carry_state.ensures.lists (search rules))
