use Rattle.std.proofs.Common.{sym, ap, ◌∙◌, arith, ◌<◌, ◌-ℤ◌}
use mir.Syntax.{w32}
use mir.Val.{to_z}
use Rattle.counting.specs.Ints.{eq_z}
use Rattle.counting.specs.Signed.{bits_eqb, sub_eq, sub_fits}
use Rattle.scheduling.specs.ScheduleLaws.{slot_entry}
use Rattle.satisfies_constraints.specs.Laws.{offset_slots}
use Rattle.satisfies_constraints.proofs.scheduling_constraints.has_offset.Goals as goal

pub returns-in-Some-Some : goal.returns-in-Some-Some
returns-in-Some-Some c =
    let a = c.args in
    let l = c.in-Some-Some.l in
    let r = c.in-Some-Some.r in
    let e = sym c.in-Some-Some.is-0 ∙ c.slot_in.ensures in
    let f = sym c.in-Some-Some.is-1 ∙ c.slot_in-2.ensures in
    let x : l < 2147483648 = omega (arith, slot_entry a.left l e, c.ranges.left.fits) in
    let y : r < 2147483648 = omega (arith, slot_entry a.right r f, c.ranges.right.fits) in
    bits_eqb w32 (to_z w32 r -ℤ to_z w32 l) a.offset (sub_fits w32 r l y x).sfits c.ranges.offset.sfits
    ∙ ap (λ z. eq_z z a.offset) (sub_eq w32 r l y x)
    ∙ sym (offset_slots a.left a.right a.offset e f)
