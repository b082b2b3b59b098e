use Rattle.counting.specs.Tests.{so}
use Rattle.schedule_state.specs.Good.{weighs_of}
use Rattle.schedule_state.specs.Numbers.{handed_state, passed, found_day, found_11, found_12, found_none}
use Rattle.schedule_state.proofs.number.check_state.Goals as goal

pub returns-in_err-check_day : goal.returns-in_err-check_day
returns-in_err-check_day c = let a = c.args in found_day a.fixed.limits a.day.now _ a.beside a.also a.lists.now _ _ c.from_residual.ensures.1 c.in_err-check_day.ensures

pub of-state-requires : goal.of-state-requires
of-state-requires c = let a = c.args in handed_state a.fixed.limits a.day.now a.beside c.in_ok-check_day.ensures a.fixed.within c.requires

pub returns-then-also-names_outside : goal.returns-then-also-names_outside
returns-then-also-names_outside c =
    let a = c.args in
    rw (← c.of-state.ensures)
    (found_11 a.fixed.limits a.day.now c.of-state.result a.beside a.also a.lists.now c.in_ok-check_day.ensures (rw c.names_outside.ensures at c.if-also-names_outside.true))

pub weigh-sums-requires : goal.weigh-sums-requires
weigh-sums-requires c =
    let a = c.args in
    let q = passed a.fixed.limits a.day.now a.beside c.in_ok-check_day.ensures a.fixed.within c.requires c.of-state.result a.also (rw c.names_outside.ensures at c.if-also-names_outside.false) in
    rw (c.kept-entries.ensures, c.mins.ensures, c.choices.ensures) (weighs_of q.ready q.names)

pub is_inconsistent-requires : goal.is_inconsistent-requires
is_inconsistent-requires c =
    let a = c.args in
    let q = passed a.fixed.limits a.day.now a.beside c.in_ok-check_day.ensures a.fixed.within c.requires c.of-state.result a.also (rw c.names_outside.ensures at c.if-also-names_outside.false) in
    record {
      ready = q.ready;
      own = c.kept-entries.ensures;
      names = rw c.kept-entries.ensures q.names;
      sums = rw (c.mins.ensures, c.choices.ensures) at c.weigh-sums.ensures;
    }

pub returns-then-is_inconsistent : goal.returns-then-is_inconsistent
returns-then-is_inconsistent c =
    let a = c.args in
    rw (← c.of-state.ensures)
    (found_12 a.fixed.limits a.day.now c.of-state.result a.beside a.also a.lists.now c.in_ok-check_day.ensures (rw c.names_outside.ensures at c.if-also-names_outside.false)
    (so c.is_inconsistent.ensures c.if-is_inconsistent.true))

pub returns : goal.returns
returns c =
    let a = c.args in
    rw (← c.of-state.ensures)
    (found_none a.fixed.limits a.day.now c.of-state.result a.beside a.also a.lists.now c.in_ok-check_day.ensures (rw c.names_outside.ensures at c.if-also-names_outside.false)
    (so c.is_inconsistent.ensures c.if-is_inconsistent.false) (rw (c.kept-entries.ensures, c.mins.ensures, c.choices.ensures) at c.weigh-sums.ensures))
