use Rattle.fw_generate.specs.Texts.{batch_lines}
use Rattle.fw_generate.proofs.FlowLaws.{the_flow}
use Rattle.fw_generate.proofs.InputLaws.{inputs_accepted}
use Rattle.fw_generate.proofs.ScheduleLaws.{schedule_accepted}
use Rattle.fw_generate.proofs.WellFormed.{flow_accepted}
use Rattle.fw_generate.proofs.laws.generated_texts_are_accepted.Goals as goal

pub returns : goal.returns
returns c size words h =
    (the_flow, record { declared = flow_accepted; inputs = inputs_accepted size words h; schedule = schedule_accepted size (batch_lines size words).1 h })
