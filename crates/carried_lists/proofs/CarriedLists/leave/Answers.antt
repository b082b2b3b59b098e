use Rattle.std.proofs.Common.{◌*◌, get_or}
use native.Mathlib.Nat.{add-sub_cancel_left}
use Rattle.slot_lists.specs.ListsLaws.{leave_in_part}
use Rattle.carried_lists.proofs.CarriedLists.leave.Goals as goal

pub returns : goal.returns
returns c =
    let l = c.args.self.now in
    let s = c.args.slot in
    rw (c.remove.ensures, add-sub_cancel_left (l.stride * s) (get_or l.sums.now.lens s 0), leave_in_part l.stride s (get_or l.sums.now.lens s 0) c.args.choice l.bytes.now c.requires.len c.requires.part)
