use Rattle.std.proofs.Common.{sym, ◌∙◌}
use Rattle.carried_lists.specs.CarriedLaws.{slot_named, slot_unnamed}
use Rattle.carried_lists.proofs.CarriedLists.visit.Goals as goal
use Rattle.carried_lists.proofs.CarriedLists.visit.Goals.{in-Some, in_default}

pub enter-requires : goal.enter-requires
enter-requires c =
    let q = c.requires.enters c.in-Some-slot_in.slot c.if-last-next.false (slot_named (sym c.in-Some-slot_in.is ∙ c.slot_in-2.ensures)) in
    elim c.match-slot_in.branch [
      | in-Some w ↦ rw (w.self-is, w.leave.ensures) (rw (slot_named (sym w.in-Some.is ∙ c.slot_in.ensures)) at q)
      | in_default w ↦ rw w.self-is (rw (slot_unnamed (sym w.in_default.is ∙ c.slot_in.ensures)) at q)
    ]
