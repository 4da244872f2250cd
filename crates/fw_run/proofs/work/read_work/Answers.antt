use Rattle.fw_run.proofs.CallLaws.{work_of-flow}
use Rattle.fw_run.proofs.work.read_work.Goals as goal

pub returns-in-Ok-fetch_flow-clause-work : goal.returns-in-Ok-fetch_flow-clause-work
returns-in-Ok-fetch_flow-clause-work g c = rw c.in-Check.is (work_of-flow (g.F.Folder.texts c.args.folder.now) c.in-Check.name.now c.in-Ok-fetch_flow.flow c.in-Ok-fetch_flow.ensures.flow)

pub returns-in-Err-clause-refused : goal.returns-in-Err-clause-refused
returns-in-Err-clause-refused g c = rw c.in-Run.is c.in-Err.ensures.refused
