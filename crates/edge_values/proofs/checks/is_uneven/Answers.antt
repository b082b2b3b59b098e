use Rattle.std.proofs.Common.{◌≡◌, sym, ◌∙◌, rules, get_or}
use Rattle.std.proofs.lemmas.Option.{get_or_from_slice_get}
use Rattle.counting.specs.Ints.{eq_z}
use Rattle.edge_values.specs.Checks.{differs_first, uneven_first}
use Rattle.edge_values.proofs.checks.is_uneven.Goals as goal

pub returns : goal.returns
unfolding eq_z
returns c =
    let group = c.args.group.now in
    let first : get_or group 0 0 ≡ c.in-Some.first.now = get_or_from_slice_get group 0 _ 0 (sym c.in-Some.ensures.value) in
    c.any_below.ensures (differs_first c.args.values.now group) (λ k h x p. rw first (search rules)) ∙ uneven_first _ _
