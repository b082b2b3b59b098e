use Rattle.std.proofs.Common.{◌≤◌, length, arith}
use Rattle.counting.specs.Lists.{padded_front, padded_all}
use Rattle.counting.proofs.front.Goals as goal

pub returns : goal.returns
returns g c =
    let m = c.min-m.result in
    let l : m ≤ length c.args.bytes.now = omega arith in
    let h : m ≤ g.row.N = omega arith in
    rw c.copy_from_slice.ensures.after (padded_all c.args.n c.min-m.ensures (padded_front c.args.bytes.now g.row.N m l h))
