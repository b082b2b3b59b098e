use Rattle.std.proofs.Common.{◌∙◌, refl, rules}
use Rattle.schedule_updates.specs.Numbers.{unread, leaves_refused, build_is, build_carries, state_carried, built_leaves}
use Rattle.schedule_updates.proofs.state.build_within.Goals as goal

pub returns-in_err-day : goal.returns-in_err-day
returns-in_err-day c = leaves_refused _ _ c.from_residual.ensures.1 (unread _ _ _ _ c.in_err-day.ensures)

pub returns-in_err-entries : goal.returns-in_err-entries
returns-in_err-entries c = let a = c.args in
    leaves_refused _ _ c.from_residual-in_err-entries.ensures.1 (c.in_err-entries.ensures.number ∙ build_is a.fixed.limits a.day.now c.in_ok-day.ensures a.schedule.now _)

pub carry_state-requires : goal.carry_state-requires
carry_state-requires c = let a = c.args in
    build_carries a.fixed.limits a.day.now a.schedule.now _ a.fixed.within c.in_ok-day.ensures c.in_ok-entries.ensures.number refl refl (rw (c.choices.ensures, c.in_ok-entries.ensures.entries) at c.kept-first.ensures) c.none.ensures

pub returns : goal.returns
returns c = let a = c.args in
    built_leaves a.fixed.limits a.day.now a.schedule.now c.in_ok-day.ensures c.in_ok-entries.ensures.number (rw (c.choices.ensures, c.in_ok-entries.ensures.entries) at c.kept-first.ensures)
    (state_carried a.fixed.limits _ {c' = c.carry_state.new.lists} refl c.carry_state.ensures.state c.carry_state.ensures.lists (search rules))
