use Rattle.std.proofs.Common.{rules, arith}
use Rattle.seat_counts.specs.Laws.{greatest_small}
use Rattle.seat_counts.specs.Preferences.{greatest_row, greatest}
use Rattle.seat_counts.proofs.preferences.SeatPreferences.greatest.Goals as goal

pub returns-clause-small : goal.returns-clause-small
unfolding greatest
returns-clause-small c =
    let t = c.args.self.now in
    let v = c.greatest_of.ensures (greatest_row t.seats.choices t.seats.slots t.preferences.now t.seats.plan.now) (λ k h x p. search rules) in
    omega (arith, v, greatest_small t.reading)
