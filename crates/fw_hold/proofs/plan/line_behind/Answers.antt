use Rattle.fw_hold.proofs.PlaceLaws.{behind_last}
use Rattle.fw_hold.proofs.plan.line_behind.Goals as goal

pub returns-in-Some-clause-exact : goal.returns-in-Some-clause-exact
returns-in-Some-clause-exact c = behind_last c.args.numbers.now c.in-Some.number.now c.in-Some.ensures.value
