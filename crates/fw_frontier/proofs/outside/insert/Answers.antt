use Rattle.std.proofs.Common.{arith}
use Rattle.std.proofs.lemmas.Grind.{common_steps}
use Rattle.fw_frontier.proofs.InsideLaws.{insert-place}
use Rattle.fw_frontier.proofs.outside.insert.Goals as goal

pub returns : goal.returns
returns c =
    let there = insert-place c.args.s c.args.outside.now.items in
    grind (arith, common_steps, there)
