use Rattle.fw_disk.specs.FolderCalls.{calls_of}
use Rattle.fw_disk.proofs.RunCalls.{no_calls}
use Rattle.fw_disk.proofs.claim.see_run.Goals as goal

pub returns : goal.returns
returns g c = no_calls (calls_of c.args.folder.now.calls)
