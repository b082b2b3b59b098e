use native.Mathlib.Omega.{arith}
use lib.IntN.{pos}
use mir.Syntax.{w32}
use Rattle.counting.specs.Signed.{back, bits_eqb}
use Rattle.constraint.proofs.numbers.is_operator.Statement.{statement}
use Rattle.constraint.proofs.numbers.is_operator.Tie as tie

returns : tie.Need-returns
returns c = rw (back w32 c.args.number c.ranges.number.sfits, bits_eqb w32 c.args.number (pos 0) c.ranges.number.sfits (omega arith))

pub is_operator_spec : {M : Type 1} → statement M
is_operator_spec = tie.close (tie.spec returns)
