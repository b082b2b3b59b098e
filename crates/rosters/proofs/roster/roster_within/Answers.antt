use Rattle.std.proofs.Common.{sym}
use Rattle.rosters.specs.Laws.{roster_unread, roster_refused, roster_done, roster_in}
use Rattle.rosters.proofs.roster.roster_within.Goals as goal

pub returns-in_err-day : goal.returns-in_err-day
returns-in_err-day c = roster_unread _ _ _ _ _ _ _ c.in_err-day.ensures c.from_residual.ensures.1

pub returns-in_err-seats : goal.returns-in_err-seats
returns-in_err-seats c = roster_refused _ _ _ _ _ _ _ _ _ c.in_err-seats.was c.from_residual-in_err-seats.ensures.1 c.in_ok-day.ensures (rw (c.plan_length.ensures, c.is_outside.ensures) at c.check_plan.ensures.number)

pub returns : goal.returns
returns c = roster_done _ _ _ _ _ _ c.in_ok-day.ensures (rw (c.plan_length.ensures, c.is_outside.ensures) at c.in_ok-seats.ensures.number) c.in_ok-seats.ensures.seats c.put_rows.ensures

pub put_rows-requires : goal.put_rows-requires
put_rows-requires c = roster_in _ _ _ _ _ _ c.args.fixed.within (sym (rw (c.plan_length.ensures, c.is_outside.ensures) at c.in_ok-seats.ensures.number)) c.in_ok-seats.ensures.seats
