use Rattle.std.proofs.Common.{rules}
use lib.Ieee.{of_bits, add, binary32}
use Rattle.scheduling.specs.Schedule.{entry_at}
use Rattle.seat_counts.specs.Preferences.{scaling_of, term_of, minor_of, minor_to}
use Rattle.seat_counts.proofs.preferences.minor.Goals as goal

pub returns : goal.returns
unfolding minor_of minor_to of_bits
returns c =
    let a = c.args in
    c.fold_below.ensures (term_of (entry_at a.counts.now) a.powers.now (scaling_of a.most a.powers.now)) (add binary32)
    (λ k h x p. search rules)
    (λ x y z p. search rules)
