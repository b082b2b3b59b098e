use Rattle.std.proofs.Common.{sym, suc, ◌∙◌, ◌*◌, ◌≡◌, ◌≤◌, ◌<◌, true, ◌&&◌, arith, rules}
use Rattle.assignment.specs.Inside.{row_length, row_at}
use Rattle.scheduling.specs.ScheduleLaws.{slot_entry}
use Rattle.seat_counts.specs.Seats.{seat_entry, once_each}
use Rattle.seat_counts.specs.Laws.{fold_next, marked_more, marked_new}
use Rattle.seat_counts.proofs.plan.once_each.Goals as goal

pub unwrap-slot-requires : goal.unwrap-slot-requires
unwrap-slot-requires c =
    let a = c.args in
    let base = a.chooser * a.slots in
    let s = c.loop-k.k-index in
    let h : s < a.slots = omega (arith, row_length base a.slots a.plan.now c.requires.inside) in
    let q = rw (row_at base a.slots a.plan.now s h) at c.slot_in.ensures in
    let n = c.requires.slot s h in
    search (rules, q, n)

pub loop-k-preserved : goal.loop-k-preserved
loop-k-preserved c =
    let v = c.loop-k.invariant in
    let a = c.args in
    let base = a.chooser * a.slots in
    let s = c.loop-k.k-index in
    let t = c.unwrap-slot.result in
    let h : s < a.slots = omega (arith, row_length base a.slots a.plan.now c.requires.inside) in
    let e = seat_entry a.slots a.entries.now a.plan.now a.chooser s in
    let m : e ≤ 8 = c.requires.small s h in
    let q : e ≡ suc t = slot_entry e t (sym c.unwrap-slot.ensures ∙ (rw (row_at base a.slots a.plan.now s h) at c.slot_in.ensures)) in
    (fold_next ◌&&◌ true _ _ v.0 (marked_new _ _ _ _ s t q (omega arith) v.1), marked_more _ _ _ _ s t q (omega arith) v.1)

pub returns : goal.returns
unfolding once_each
returns c =
    let a = c.args in
    let e : c.loop-k.k-index ≡ a.slots = omega (arith, row_length (a.chooser * a.slots) a.slots a.plan.now c.requires.inside) in
    rw e at c.loop-k.invariant.0
