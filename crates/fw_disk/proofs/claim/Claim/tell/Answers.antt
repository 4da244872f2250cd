use Rattle.std.proofs.Common.{refl, subst}
use Rattle.fw_disk.specs.FolderCalls.{calls_of, IsLonger}
use Rattle.fw_disk.specs.declared.cause.DiskPlace.TheVariants.{Run}
use Rattle.fw_disk.proofs.RunCalls.{no_calls}
use Rattle.fw_disk.proofs.claim.Claim.tell.Goals as goal

pub returns-in_err-text-clause-of_run : goal.returns-in_err-text-clause-of_run
returns-in_err-text-clause-of_run g c = no_calls (calls_of c.args.folder.now.calls)

pub returns-in_err-append-clause-of_run : goal.returns-in_err-append-clause-of_run
returns-in_err-append-clause-of_run g c = c.append.ensures.of_run refl

pub returns-clause-of_run : goal.returns-clause-of_run
returns-clause-of_run g c = c.append.ensures.of_run refl

pub returns-clause-told : goal.returns-clause-told
returns-clause-told g c =
    let old = calls_of c.args.folder.now.calls in
    (_, c.in_ok-text.ensures, subst (λ bytes. IsLonger c.args.has_line Run bytes old (calls_of c.append.new.self.calls)) c.as_bytes.ensures.value c.in_ok-append.ensures.longer)
