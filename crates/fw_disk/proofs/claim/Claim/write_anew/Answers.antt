use Rattle.fw_disk.specs.FolderCalls.{calls_of}
use Rattle.fw_disk.proofs.RunCalls.{no_calls}
use Rattle.fw_disk.proofs.claim.Claim.write_anew.Goals as goal

pub returns-then-not-are_mostly_gone-clause-of_run : goal.returns-then-not-are_mostly_gone-clause-of_run
returns-then-not-are_mostly_gone-clause-of_run g c = no_calls (calls_of c.args.folder.now.calls)

pub returns-in_err-text-clause-of_run : goal.returns-in_err-text-clause-of_run
returns-in_err-text-clause-of_run g c = no_calls (calls_of c.args.folder.now.calls)
