use Rattle.std.proofs.Common.{T, sym, subst}
use lib.Ieee.{of_bits, neg}
use Rattle.sample.proofs.lines.HundredthsDisplay.fmt.Goals as goal

-- The two tests are what the cast asks, with the numbers by their bits.
pub truncating_f32_to_u64-n-requires : goal.truncating_f32_to_u64-n-requires
unfolding of_bits neg
truncating_f32_to_u64-n-requires g c = record { lower_bound = subst T (sym c.if-hundredths.true) tt; upper_bound = subst T (sym c.if-hundredths-2.true) tt }
