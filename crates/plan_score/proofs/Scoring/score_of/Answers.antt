use Rattle.std.proofs.Common.{◌∙◌}
use Rattle.seat_counts.specs.Laws.{weighing, minor_holds}
use Rattle.plan_score.proofs.Scoring.score_of.Goals as goal

pub minor-minor-requires : goal.minor-minor-requires
minor-minor-requires c =
    let r = c.requires in
    let s = c.of-seats.ensures.seats in
    rw c.max_preference.ensures (weighing r.reading (rw (s.choosers, s.choices, s.slots, s.bytes, c.of-seats.ensures.table) at c.counts-counts.ensures) r.most r.table)

pub returns : goal.returns
returns c =
    let s = c.of-seats.ensures.seats in
    let t = c.of-seats.ensures.table in
    let counted = rw (s.choosers, s.choices, s.slots, s.bytes, t) at c.counts-counts.ensures in
    let most = rw (s.choosers, s.choices, s.slots, s.bytes, t) at c.greatest.ensures.value in
    c.finite_or_infinite.ensures ∙ rw (c.major_of.ensures, most, c.minor-minor.ensures, c.max_preference.ensures, minor_holds c.args.self.now.powers.now c.args.day.now.max_preference counted c.requires.most)
