use Rattle.fw_disk.specs.FolderCalls.{calls_of}
use Rattle.fw_disk.proofs.ClaimLaws.{same_stand}
use Rattle.fw_disk.proofs.PutMoments.{then_keeps}
use Rattle.fw_disk.proofs.claim.found.Goals as goal

pub returns-in_err-add_found-clause-any_moment : goal.returns-in_err-add_found-clause-any_moment
returns-in_err-add_found-clause-any_moment g c start =
    then_keeps start (calls_of c.args.folder.now.calls) (calls_of c.loop-name.folder.calls) (calls_of c.add_found.new.folder.calls) (c.loop-name.invariant.1 start) (c.add_found.ensures.any_moment start)

pub loop-name-preserved : goal.loop-name-preserved
loop-name-preserved g c = (
  c.in_ok-add_found.ensures.noted,
  λ start. then_keeps start (calls_of c.args.folder.now.calls) (calls_of c.loop-name.folder.calls) (calls_of c.add_found.new.folder.calls) (c.loop-name.invariant.1 start) (c.add_found.ensures.any_moment start),
  c.in_ok-add_found.ensures.stand c.loop-name.invariant.2,
)

pub returns-clause-stand : goal.returns-clause-stand
returns-clause-stand g c = same_stand c.args.lines.now.told c.loop-name.found.told c.add_gone.new.self.told c.in_ok-add_gone.ensures.same c.loop-name.invariant.2
