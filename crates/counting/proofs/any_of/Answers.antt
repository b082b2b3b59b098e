use Rattle.std.proofs.Common.{◌≤◌, min, ap, ◌∙◌, arith}
use Rattle.counting.specs.Fold.{any_to}
use Rattle.counting.specs.Tests.{places_all}
use Rattle.counting.proofs.any_of.Goals as goal

pub returns : goal.returns
returns g c = λ f t.
    let below : min c.args.n g.row.MOST ≤ g.row.MOST = omega arith in
    let e = c.min.ensures in
    c.any_below.ensures f (λ k h x p. t k (omega arith) x p) ∙ ap (λ m. any_to m f) e ∙ places_all g.row.MOST c.args.n f
