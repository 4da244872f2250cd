use Rattle.fw_disk.specs.FolderCalls.{calls_of}
use Rattle.fw_disk.proofs.PutMoments.{run_keeps}
use Rattle.fw_disk.proofs.claim.claim_folder.Goals as goal

pub returns-in-Empty-clause-any_moment : goal.returns-in-Empty-clause-any_moment
returns-in-Empty-clause-any_moment g c start = run_keeps start (calls_of c.args.folder.now.calls) (calls_of c.claim_empty.new.folder.calls) c.claim_empty.ensures.of_run
