use Rattle.mip_flow.specs.Stored.{choices_of, no_choice, one_choice}
use Rattle.flow_edges.proofs.edges.put_choice.Goals as goal

pub returns-in_default : goal.returns-in_default
returns-in_default c = let a = c.args.choices.now in no_choice (choices_of a.nodes.sizes a.schedule.now a.day.now.mins a.day.now.maxs) c.args.k _ c.in_default.ensures

pub returns : goal.returns
returns c =
    let a = c.args.choices.now in
    rw (c.push.ensures) (one_choice (choices_of a.nodes.sizes a.schedule.now a.day.now.mins a.day.now.maxs) c.args.k _ c.in-Some.ensures (cc) (cc) (cc))
