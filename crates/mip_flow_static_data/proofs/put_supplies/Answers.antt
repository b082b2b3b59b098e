use Rattle.std.proofs.Common.{◌++◌, ◌+◌, ◌*◌, arith, rules, length-append}
use Rattle.counting.specs.Fold.{table_to}
use Rattle.counting.specs.Lists.{length_table}
use Rattle.counting.specs.WrittenLaws.{written_then}
use Rattle.mip_flow_static_data.specs.Nodes.{chooser_supply, choice_supply, slot_supply, supplies}
use Rattle.mip_flow_static_data.proofs.put_supplies.Goals as goal

pub returns : goal.returns
unfolding supplies
returns c =
    let a = c.args in
    let z = a.sizes in
    let n = z.choosers * z.slots in
    let f = choice_supply a.schedule.now a.day.now.mins in
    let xs = table_to n chooser_supply in
    let ys = table_to z.choices f in
    let zs = table_to z.slots (slot_supply z a.covered.now) in
    written_then _ 0 (xs ++ ys) zs (n + z.choices)
    (written_then _ 0 xs ys n
    (c.put_each.ensures chooser_supply (λ k h x p. search rules))
    (c.put_each-2.ensures f (λ k h x p. search rules))
    (omega (arith, length_table n chooser_supply)))
    (c.put_each-3.ensures (slot_supply z a.covered.now) (λ k h x p. search rules))
    (omega (arith, length-append xs ys, length_table n chooser_supply, length_table z.choices f))
