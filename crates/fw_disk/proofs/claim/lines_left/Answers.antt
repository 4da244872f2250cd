use Rattle.fw_disk.specs.FolderCalls.{calls_of}
use Rattle.fw_disk.proofs.PutMoments.{then_keeps, run_keeps}
use Rattle.fw_disk.proofs.claim.lines_left.Goals as goal

pub returns-in_err-see_run-clause-any_moment : goal.returns-in_err-see_run-clause-any_moment
returns-in_err-see_run-clause-any_moment g c start =
    let found = calls_of c.found.new.folder.calls in
    let seen = calls_of c.see_run.new.folder.calls in
    then_keeps start (calls_of c.args.folder.now.calls) found seen (c.found.ensures.any_moment start) (run_keeps start found seen c.see_run.ensures)

pub returns-clause-any_moment : goal.returns-clause-any_moment
returns-clause-any_moment g c start =
    let found = calls_of c.found.new.folder.calls in
    let seen = calls_of c.see_run.new.folder.calls in
    then_keeps start (calls_of c.args.folder.now.calls) found seen (c.found.ensures.any_moment start) (run_keeps start found seen c.see_run.ensures)

pub returns-clause-by_text : goal.returns-clause-by_text
returns-clause-by_text g c = record {
  lines = c.in_ok-told.told.told;
  tell = c.in_ok-told.ensures;
  stand = c.in_ok-lines.ensures.stand;
  have = c.in_ok-lines.ensures.have;
}
