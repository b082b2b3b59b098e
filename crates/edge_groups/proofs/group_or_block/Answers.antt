use Rattle.std.proofs.Common.{rules, ltb}
use Rattle.edge_groups.specs.Together.{one_some, together_group, together_blocked}
use Rattle.edge_groups.proofs.group_or_block.Goals as goal

pub returns-then-all : goal.returns-then-all
returns-then-all g c = λ count name t.
    let a = c.all_below-all.ensures (λ i. ltb (name i) count) (λ k h x p. search (rules, one_some count name k, t k h)) in
    rw c.close.ensures (together_group count name _ a t c.args.groups.now c.put_present.new.buffer c.put_present.new.used c.if-all.true c.put_present.ensures)

pub returns-else-all : goal.returns-else-all
returns-else-all g c = λ count name t.
    let a = c.all_below-all.ensures (λ i. ltb (name i) count) (λ k h x p. search (rules, one_some count name k, t k h)) in
    together_blocked count name _ a t c.args.groups.now c.put_present-else-all.new.buffer c.put_present-else-all.new.used c.if-all.false c.put_present-else-all.ensures
