use Rattle.std.proofs.Common.{refl, sym, ◌∙◌, ◌≡◌, ◌<◌, arith}
use Rattle.assignment.specs.Inside.{row_length, row_at}
use Rattle.assignment.specs.Plan.{row}
use Rattle.counting.specs.WrittenLaws.{put_start}
use Rattle.rosters.specs.Laws.{seat_room, seat_listed, seat_passed}
use Rattle.rosters.proofs.roster.put_row.Goals as goal
use Rattle.rosters.proofs.roster.put_row.Goals.{then-seat-row, else-seat-row}

pub loop-seat-init : goal.loop-seat-init
loop-seat-init c = record { put = put_start _ _ _ _; same = refl }

pub push-requires : goal.push-requires
push-requires c =
    let s = c.args.seats.now in
    let r = c.args.row in
    let i = c.loop-seat.seat-index in
    let h : i < s.slots = omega (arith, row_length r.base s.slots s.plan.now c.requires.inside) in
    seat_room s r c.requires h c.loop-seat.invariant.put (sym (row_at r.base s.slots s.plan.now i h) ∙ c.if-seat-row.true)

pub loop-seat-preserved : goal.loop-seat-preserved
loop-seat-preserved c =
    let s = c.args.seats.now in
    let r = c.args.row in
    let i = c.loop-seat.seat-index in
    let h : i < s.slots = omega (arith, row_length r.base s.slots s.plan.now c.requires.inside) in
    let e = row_at r.base s.slots s.plan.now i h in
    elim c.if-seat-row.branch [
      | then-seat-row w ↦ rw (w.filled-is, w.push.ensures) (seat_listed _ _ _ c.loop-seat.invariant (sym e ∙ w.if-seat-row.true))
      | else-seat-row w ↦ rw w.filled-is (seat_passed _ _ _ c.loop-seat.invariant (λ z. w.if-seat-row.false (e ∙ z)))
    ]

pub returns : goal.returns
unfolding row
returns c =
    let s = c.args.seats.now in
    let q : c.loop-seat.seat-index ≡ s.slots = omega (arith, row_length c.args.row.base s.slots s.plan.now c.requires.inside) in
    rw q at c.loop-seat.invariant
