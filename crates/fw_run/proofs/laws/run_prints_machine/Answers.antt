use Rattle.fw_run.proofs.MachineTextLaws.{machine_prints}
use Rattle.fw_run.proofs.laws.run_prints_machine.Goals as goal

pub returns : goal.returns
returns c = machine_prints
