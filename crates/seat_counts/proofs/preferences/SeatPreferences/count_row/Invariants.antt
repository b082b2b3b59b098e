use Rattle.seat_counts.specs.Laws.{Added, uses_to}
use Rattle.seat_counts.proofs.preferences.SeatPreferences.count_row.Given as goal

abbrev pub invariant-loop-s : goal.invariant-loop-s
invariant-loop-s l = Added (uses_to l.self.seats.choices l.self.seats.slots l.self.preferences.now l.self.seats.plan.now l.chooser l.s) l.initial.counts l.counts
