use Rattle.std.proofs.Common.{◌≡◌, ◌≤◌, ◌*◌, get_or}
use Rattle.counting.specs.Fold.{sum_to}
use Rattle.day_checks.proofs.member_count.Given as goal

-- Each length is below 2^32, so the sum of 16 fits in 64 bits: the bound is part of the invariant.
abbrev pub invariant-loop-i : goal.invariant-loop-i
invariant-loop-i l = (l.sum ≤ 4294967295 * l.i) × (l.sum ≡ sum_to l.i (λ g. get_or l.day.lengths g 0))
