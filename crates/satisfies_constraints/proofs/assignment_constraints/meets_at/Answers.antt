use Rattle.satisfies_constraints.specs.ByNumber.{operands_in}
use Rattle.satisfies_constraints.proofs.assignment_constraints.meets_at.Goals as goal

pub meets-requires : goal.meets-requires
meets-requires c = rw c.get.ensures (operands_in c.requires.0 c.args.j c.requires.1)
