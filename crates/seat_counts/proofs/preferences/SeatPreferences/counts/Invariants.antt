use Rattle.seat_counts.specs.Laws.{UsesHeld, uses_before}
use Rattle.seat_counts.proofs.preferences.SeatPreferences.counts.Given as goal

abbrev pub invariant-loop-c : goal.invariant-loop-c
invariant-loop-c l = UsesHeld (uses_before l.self.seats.choices l.self.seats.slots l.self.preferences.now l.self.seats.plan.now l.c) l.counts
