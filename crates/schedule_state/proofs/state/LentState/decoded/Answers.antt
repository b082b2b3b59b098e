use Rattle.std.proofs.Common.{rules}
use Rattle.schedule_state.specs.Bytes.{state_in, covered_in, block_in}
use Rattle.schedule_state.proofs.state.LentState.decoded.Goals as goal

pub returns : goal.returns
unfolding state_in
returns c =
    let b = c.self.inside.bytes.now in
    rw (c.schedule.ensures, ← c.self.view_is, c.table.ensures (covered_in b) (λ k h x p. search rules), c.table-2.ensures (block_in b) (λ k h x p. search rules))
