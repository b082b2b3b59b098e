use Rattle.std.proofs.Common.{rules}
use Rattle.schedule_state.specs.Bytes.{state_in}
use Rattle.schedule_state.proofs.state.LentState.entries.Goals as goal

pub returns : goal.returns
unfolding state_in
returns c = rw (← c.self.view_is) (search rules)
