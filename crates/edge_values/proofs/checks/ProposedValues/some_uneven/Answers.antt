use Rattle.std.proofs.Common.{sym, ap, ◌∙◌, false, ◌||◌, arith}
use Rattle.std.proofs.lemmas.List.{length-take-le}
use Rattle.counting.specs.FoldLaws.{fold_none, fold_at}
use Rattle.counting.specs.Tests.{any_more}
use Rattle.edge_values.specs.Values.{is_uneven}
use Rattle.edge_values.specs.Checks.{start_none, start_more, part_is, part_named, end_is}
use Rattle.edge_values.proofs.checks.ProposedValues.some_uneven.Goals as goal

pub loop-end-init : goal.loop-end-init
loop-end-init c = (start_none _, sym (fold_none ◌||◌ false _), omega arith)

pub slice_bounds-is_uneven-count : goal.slice_bounds-is_uneven-count
slice_bounds-is_uneven-count c = let g = c.args.self.now.checkable.grouped in let e = end_is g _ c.loop-end-test.true in rw (c.loop-end.invariant.0, e.1) (g.ascend _ e.0)

pub is_uneven-bad-requires : goal.is_uneven-bad-requires
is_uneven-bad-requires c = let g = c.args.self.now.checkable.grouped in let e = end_is g _ c.loop-end-test.true in rw e.1 (part_named g _ e.0 _ c.loop-end.invariant.0)

pub loop-end-preserved : goal.loop-end-preserved
loop-end-preserved c =
    let g = c.args.self.now.checkable.grouped in
    let e = end_is g _ c.loop-end-test.true in
    (e.1 ∙ start_more _ _, any_more _ _ c.loop-end.invariant.1 (c.is_uneven-bad.ensures ∙ ap (is_uneven c.args.self.now.values.now) (rw e.1 (part_is _ _ _ c.loop-end.invariant.0))), rw e.1 (g.inside _ e.0))

pub returns : goal.returns
returns c = c.loop-end.invariant.1 ∙ fold_at _ _ _ (omega (arith, length-take-le _ _ c.args.self.now.checkable.grouped.ends_long))
