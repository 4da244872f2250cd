use Rattle.fw_lasting.proofs.KeepLaws.{told-over}
use Rattle.fw_lasting.proofs.laws.told_roots_are_over.Goals as goal

pub returns : goal.returns
returns g c = told-over g.E.HeldEngine.stand g.E.HeldEngine.keep_of g.E.HeldEngine.flow_of
