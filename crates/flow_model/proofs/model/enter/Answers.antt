use Rattle.std.proofs.Common.{◌∙◌}
use Rattle.flow_model.specs.Entering.{entered_unread, entered_refused, entered_state, buildable, are_lists, entered_done}
use Rattle.flow_model.proofs.model.enter.Goals as goal

pub returns-in_err-day : goal.returns-in_err-day
returns-in_err-day c = let a = c.args in entered_unread a.fixed.limits a.day.now a.state.now a.input.now a.short a.buffers.now _ _ c.from_residual.ensures.1 c.in_err-day.ensures

pub returns-in_err-sums : goal.returns-in_err-sums
returns-in_err-sums c =
    let a = c.args in
    entered_refused a.fixed.limits a.day.now a.state.now a.input.now a.short a.buffers.now c.in_ok-day.ensures c.lengths.ensures _ _ c.from_residual-in_err-sums.ensures.1 c.in_err-sums.ensures

pub of-requires : goal.of-requires
of-requires c = let a = c.args in entered_state a.fixed.limits a.day.now a.state.now a.input.now a.short a.buffers.now c.in_ok-day.ensures c.lengths.ensures a.fixed.within c.in_ok-sums.ensures

pub put_model-requires : goal.put_model-requires
put_model-requires c =
    let a = c.args in
    let s = c.decoded-state.ensures ∙ c.of.ensures in (
      buildable a.fixed.limits a.day.now a.state.now a.input.now a.short a.buffers.now c.in_ok-day.ensures c.lengths.ensures a.fixed.within c.in_ok-sums.ensures s,
      are_lists a.fixed.limits a.day.now a.state.now a.input.now a.short a.buffers.now c.in_ok-day.ensures c.lengths.ensures a.fixed.within c.in_ok-sums.ensures s,
    )

pub returns : goal.returns
returns c =
    let a = c.args in
    let s = c.decoded-state.ensures ∙ c.of.ensures in
    entered_done a.fixed.limits a.day.now a.state.now a.input.now a.short a.buffers.now c.in_ok-day.ensures c.lengths.ensures a.fixed.within c.in_ok-sums.ensures s c.put_model.ensures
