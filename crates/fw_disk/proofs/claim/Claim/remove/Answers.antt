use Rattle.std.proofs.Common.{true, false}
use Rattle.fw_disk.specs.FolderCalls.{calls_of}
use Rattle.fw_disk.proofs.PutMoments.{removal_moments, removal_gone}
use Rattle.fw_disk.proofs.claim.Claim.remove.Goals as goal

pub returns-in_err-remove-clause-any_moment : goal.returns-in_err-remove-clause-any_moment
returns-in_err-remove-clause-any_moment g c start = removal_moments start c.args.id (calls_of c.args.folder.now.calls) (calls_of c.remove.new.self.calls) false c.in_err-remove.ensures

pub returns-clause-any_moment : goal.returns-clause-any_moment
returns-clause-any_moment g c start = removal_moments start c.args.id (calls_of c.args.folder.now.calls) (calls_of c.remove.new.self.calls) true c.in_ok-remove.ensures

pub returns-clause-gone : goal.returns-clause-gone
returns-clause-gone g c start = removal_gone start c.args.id (calls_of c.args.folder.now.calls) (calls_of c.remove.new.self.calls) c.in_ok-remove.ensures
