use Rattle.fw_lasting.proofs.StartLaws.{read-those}
use Rattle.fw_lasting.proofs.laws.read_batches_are_those.Goals as goal

pub returns : goal.returns
returns c = read-those
