use Rattle.std.proofs.Common.{refl, rules, ap, ◌∙◌, arith}
use Rattle.counting.specs.WrittenLaws.{put_start}
use Rattle.rosters.specs.Filled.{filled_with}
use Rattle.rosters.specs.Laws.{row_in, rows_more, rows_all}
use Rattle.rosters.proofs.roster.put_rows.Goals as goal

pub loop-i-init : goal.loop-i-init
loop-i-init c = record { put = put_start _ _ _ _; same = refl }

pub loop-i-preserved : goal.loop-i-preserved
loop-i-preserved c =
    let p = c.loop-i.invariant in
    let q = c.put_row.ensures in
    let g = c.put_row.new.filled in
    record {
      put = rows_more c.args.of c.args.seats.now c.loop-i.i p.put c.row.ensures q.put;
      same = q.same ∙ ap (λ h. filled_with h g.roster.now g.used) p.same;
    }

pub returns : goal.returns
returns c =
    let q = rows_all _ _ _ _ c.rows-i-end.ensures c.loop-i-test.false c.loop-i.auto.i-end c.loop-i.invariant.put in
    let h = q.holds in
    record { count = q.count; holds = search rules }

pub put_row-requires : goal.put_row-requires
put_row-requires c = row_in c.args.of c.args.seats.now c.requires (omega (arith, c.rows-i-end.ensures)) c.loop-i.invariant.put c.row.ensures
