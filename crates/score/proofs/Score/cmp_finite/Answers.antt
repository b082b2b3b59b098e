use Rattle.std.proofs.Common.{refl, sym, ◌∙◌}
use Rattle.score.specs.TotalCmp.{minor_number, nan_decides, majors_decide}
use Rattle.score.proofs.Score.cmp_finite.Goals as goal

pub compare_numbers-requires : goal.compare_numbers-requires
compare_numbers-requires c = (minor_number c.args.self c.requires.0, minor_number c.args.other c.requires.1)

pub returns-then-has_nan_beside : goal.returns-then-has_nan_beside
returns-then-has_nan_beside c = nan_decides c.args.self c.args.other c.requires.0 c.requires.1 c.compare_numbers.ensures
    (rw c.has_nan_beside.ensures at c.if-has_nan_beside.true)

pub compare_numbers-requires-in-Equal : goal.compare_numbers-requires-in-Equal
compare_numbers-requires-in-Equal c = (minor_number c.args.self c.requires.0, minor_number c.args.other c.requires.1)

pub returns-in-Less : goal.returns-in-Less
returns-in-Less c = majors_decide c.args.self c.args.other c.requires.0 c.requires.1 refl
    (rw c.has_nan_beside.ensures at c.if-has_nan_beside.false) (sym c.in-Less.is ∙ c.compare_numbers-2.ensures) refl

pub returns-in-Greater : goal.returns-in-Greater
returns-in-Greater c = majors_decide c.args.self c.args.other c.requires.0 c.requires.1 refl
    (rw c.has_nan_beside.ensures at c.if-has_nan_beside.false) (sym c.in-Greater.is ∙ c.compare_numbers-2.ensures) refl

pub returns-in-Equal : goal.returns-in-Equal
returns-in-Equal c = majors_decide c.args.self c.args.other c.requires.0 c.requires.1 c.compare_numbers-in-Equal.ensures
    (rw c.has_nan_beside.ensures at c.if-has_nan_beside.false) (sym c.in-Equal.is ∙ c.compare_numbers-2.ensures) refl
