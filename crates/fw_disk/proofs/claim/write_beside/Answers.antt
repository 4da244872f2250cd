use Rattle.std.proofs.Common.{is_ok, true, false, refl}
use Rattle.fw_disk.specs.FolderCalls.{calls_of, renamed, folder_flushed}
use Rattle.fw_disk.specs.declared.cause.DiskPlace.TheVariants.{Run, RunBeside}
use Rattle.fw_disk.proofs.RunCalls.{one_more, made_flushed, made_refused}
use Rattle.fw_disk.proofs.claim.write_beside.Goals as goal

pub returns-in_err-make : goal.returns-in_err-make
returns-in_err-make g c =
    made_refused RunBeside c.args.text.now (calls_of c.args.folder.now.calls) (calls_of c.make.new.self.calls) refl c.in_err-make.ensures.refused

pub returns-in_err-rename : goal.returns-in_err-rename
returns-in_err-rename g c =
    let old = calls_of c.args.folder.now.calls in
    let made = calls_of c.make.new.self.calls in
    one_more old made (calls_of c.rename.new.self.calls) (renamed RunBeside Run false) (made_flushed RunBeside c.args.text.now true old made refl c.in_ok-make.ensures.done) refl c.in_err-rename.ensures

pub returns : goal.returns
returns g c =
    let old = calls_of c.args.folder.now.calls in
    let made = calls_of c.make.new.self.calls in
    let named = calls_of c.rename.new.self.calls in
    one_more old named (calls_of c.flush.new.self.calls) (folder_flushed (is_ok c.flush.result))
    (one_more old made named (renamed RunBeside Run true) (made_flushed RunBeside c.args.text.now true old made refl c.in_ok-make.ensures.done) refl c.in_ok-rename.ensures) refl c.flush.ensures
