use Rattle.std.proofs.Common.{is_ok}
use Rattle.fw_disk.specs.FolderCalls.{calls_of, appended, flushed}
use Rattle.fw_disk.proofs.RunCalls.{one_call, one_more}
use Rattle.fw_disk.proofs.folder.Folder.append.Goals as goal

pub returns-in_err-file-clause-of_run : goal.returns-in_err-file-clause-of_run
returns-in_err-file-clause-of_run g c run =
    one_call (calls_of c.args.self.now.calls) _ (appended c.args.place c.args.bytes.now _) run c.appended.ensures

pub returns-then-not-flushes-clause-of_run : goal.returns-then-not-flushes-clause-of_run
returns-then-not-flushes-clause-of_run g c run =
    one_call (calls_of c.args.self.now.calls) _ (appended c.args.place c.args.bytes.now _) run c.appended.ensures

pub returns-clause-of_run : goal.returns-clause-of_run
returns-clause-of_run g c run =
    one_more (calls_of c.args.self.now.calls) _ (calls_of c.flush_file.new.self.calls) (flushed c.args.place (is_ok c.flush_file.result))
    (one_call (calls_of c.args.self.now.calls) _ (appended c.args.place c.args.bytes.now _) run c.appended.ensures) run c.flush_file.ensures
