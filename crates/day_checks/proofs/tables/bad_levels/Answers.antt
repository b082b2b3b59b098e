use Rattle.std.proofs.Common.{◌-◌, ◌<◌, ◌≡◌, sym, arith, length, rules, get_or}
use Rattle.std.proofs.lemmas.Option.{slice_get_within, get_or_from_slice_get}
use Rattle.input_data.specs.Levels.{levels_by_last, descends_at}
use Rattle.day_checks.proofs.tables.bad_levels.Goals as goal

pub returns : goal.returns
returns c =
    let a = c.args in
    let n = length a.levels.now - 1 in
    let inside : n < length a.levels.now = slice_get_within a.levels.now n _ (sym c.in-Some.ensures.value) in
    let last : get_or a.levels.now n 0 ≡ c.in-Some.last.now = get_or_from_slice_get a.levels.now n _ 0 (sym c.in-Some.ensures.value) in
    rw (c.any_below.ensures (descends_at a.levels.now) (λ k h x p. search rules), sym last) (levels_by_last a.most a.levels.now n (omega arith))
