use Rattle.std.proofs.Common.{is_ok, refl}
use Rattle.fw_disk.specs.FolderCalls.{calls_of, removed}
use Rattle.fw_disk.specs.declared.cause.DiskPlace.TheVariants.{RunBeside}
use Rattle.fw_disk.proofs.RunCalls.{one_call, and_then, one_more}
use Rattle.fw_disk.proofs.claim.write_run.Goals as goal

pub returns-in-Ok : goal.returns-in-Ok
returns-in-Ok g c =
    let old = calls_of c.args.folder.now.calls in
    let gone = calls_of c.remove.new.self.calls in
    and_then old gone (calls_of c.write_beside.new.folder.calls) (one_call old gone (removed RunBeside (is_ok c.remove.result)) refl c.remove.ensures) c.write_beside.ensures

pub returns-in-Err : goal.returns-in-Err
returns-in-Err g c =
    let old = calls_of c.args.folder.now.calls in
    let gone = calls_of c.remove.new.self.calls in
    let written = calls_of c.write_beside.new.folder.calls in
    one_more old written (calls_of c.remove-in-Err.new.self.calls) (removed RunBeside (is_ok c.remove-in-Err.result))
    (and_then old gone written (one_call old gone (removed RunBeside (is_ok c.remove.result)) refl c.remove.ensures) c.write_beside.ensures) refl c.remove-in-Err.ensures
