use Rattle.fw_run.proofs.HeldCallLaws.{calls-one_run}
use Rattle.fw_run.specs.Answers.{known_by}
use Rattle.fw_run.proofs.laws.calls_are_one_run.Goals as goal

pub returns : goal.returns
returns g c = calls-one_run (known_by g.F.Folder.texts g.F.Folder.fetch_count g.F.Folder.fault_count g.K.Store.view g.O.Sink.view)
