use Rattle.fw_lasting.proofs.StartLaws.{starts-on}
use Rattle.fw_lasting.proofs.laws.starts_go_on.Goals as goal

pub returns : goal.returns
returns g c = starts-on g.K.Store.view g.E.HeldEngine.stand g.E.HeldEngine.keep_of g.E.HeldEngine.flow_of
