use Rattle.fw_policy.proofs.CodeLaws.{in_bound}
use Rattle.fw_policy.proofs.offering.of_bound.Goals as goal

pub returns-in_ok-acknowledged-in-Output : goal.returns-in_ok-acknowledged-in-Output
returns-in_ok-acknowledged-in-Output c = λ b g k f.
    in_bound b c.args.low.now c.args.settled.now c.in_ok-copy-in-Output.field-0 c.in_ok-acknowledged-in-Output.field-0 c.args.border.now c.in-Output.bound c.in-Output.is
    c.in_ok-copy-in-Output.ensures (c.in_ok-acknowledged-in-Output.ensures b g k)
