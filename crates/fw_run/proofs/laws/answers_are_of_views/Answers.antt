use Rattle.fw_run.proofs.HeldCallLaws.{answers-views}
use Rattle.fw_run.specs.Answers.{known_by}
use Rattle.fw_run.proofs.laws.answers_are_of_views.Goals as goal

pub returns : goal.returns
returns g c = answers-views (known_by g.F.Folder.texts g.F.Folder.fetch_count g.F.Folder.fault_count g.K.Store.view g.O.Sink.view)
