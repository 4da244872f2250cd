use Rattle.fw_disk.specs.FolderCalls.{calls_of}
use Rattle.fw_disk.proofs.RunCalls.{no_calls}
use Rattle.fw_disk.proofs.claim.claim_empty.Goals as goal

pub returns-in_err-locked-clause-of_run : goal.returns-in_err-locked-clause-of_run
returns-in_err-locked-clause-of_run g c = no_calls (calls_of c.args.folder.now.calls)
