use Rattle.fw_lasting.proofs.StartLaws.{read-for}
use Rattle.fw_lasting.proofs.laws.read_roots_are_for_them.Goals as goal

pub returns : goal.returns
returns c = read-for
