use Rattle.std.proofs.Common.{rules, ◌≡◌}
use Rattle.fw_flow.specs.declared.choice.Cut.TheVariants.{At}
use Rattle.fw_model.specs.Choice.{cut_of}
use Rattle.fw_recover.proofs.CutProgressLaws.{met-settles, met-canonical}
use Rattle.fw_recover.proofs.rebuild.front_after.Goals as goal

pub returns-in-Some-At-clause-settled : goal.returns-in-Some-At-clause-settled
returns-in-Some-At-clause-settled c =
    let is : cut_of c.args.choice.now c.args.node ≡ At c.in-Some-At.front = search rules in
    met-settles c.args.settled.now c.in-Some-At.front (cut_of c.args.choice.now c.args.node) c.meet.result is c.meet.ensures.names

pub returns-in-Some-At-clause-canonical : goal.returns-in-Some-At-clause-canonical
returns-in-Some-At-clause-canonical c =
    let is : cut_of c.args.choice.now c.args.node ≡ At c.in-Some-At.front = search rules in
    met-canonical c.args.settled.now c.in-Some-At.front (cut_of c.args.choice.now c.args.node) c.meet.result is c.meet.ensures.names
