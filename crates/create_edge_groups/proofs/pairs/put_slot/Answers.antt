use Rattle.std.proofs.Common.{ℕ, ◌≡◌, [], ◌∷◌, get_or, length, arith, rules}
use Rattle.scheduling.specs.Schedule.{entry_at}
use Rattle.slot_lists.specs.PartsLaws.{list_long, list_choices, list_join}
use Rattle.edge_groups.specs.Input.{number_of}
use Rattle.edge_groups.specs.Bounds.{room_after, pairs_few}
use Rattle.edge_groups.specs.Grouping.{pair_small, pair_table}
use Rattle.edge_groups.specs.Names.{slot_names}
use Rattle.edge_groups.specs.Stored.{groups_laws}
use Rattle.create_edge_groups.proofs.pairs.put_slot.Goals as goal

pub group_or_block-requires : goal.group_or_block-requires
group_or_block-requires c =
    let e = c in
    let a = e.args in
    let p = e.requires in
    let l = a.input.now.listed in
    let h = e.list-list.ensures.holds in
    let k = list_choices l p.2 h _ e.loop-k-test.true in (
      (λ i b. search (rules, pair_small a.a a.b i b p.0 p.1, k)),
      (λ i b x q. search rules),
      room_after _ _ _ 2 1 e.loop-k.invariant p.3 (pairs_few (number_of a.input.now.group) a.a a.b (entry_at e.list-list.result.now) e.loop-k.k-index) (omega (arith, list_long l p.2 h)) (omega (arith, list_long l p.2 h)),
    )

pub loop-k-preserved : goal.loop-k-preserved
loop-k-preserved c =
    let a = c.args in
    let k = entry_at c.list-list.result.now c.loop-k.k-index in
    let e = c.group_or_block.ensures a.input.now.group.index.now.count (λ i. number_of a.input.now.group (get_or (a.a ∷ a.b ∷ []) i 0) k) (λ i b x q. search rules) in
    let t = pair_table (number_of a.input.now.group) a.a a.b k in
    grind (arith, groups_laws)

pub returns : goal.returns
unfolding slot_names
returns c =
    let a = c.args in
    let p = c.requires in
    let edge = number_of a.input.now.group in
    let all : c.loop-k.k-index ≡ length c.list-list.result.now = omega arith in
    let e = list_join a.input.now.listed p.2 c.list-list.ensures.holds (λ (k : ℕ). (edge a.a k ∷ edge a.b k ∷ []) ∷ []) in
    cc
