use Rattle.std.proofs.Common.{is_ok, sym, subst}
use Rattle.std.proofs.lemmas.Result.{on_ok_weaker}
use Rattle.std.specs.Prelude.{IsSome}
use Rattle.fw_disk.specs.FolderCalls.{calls_of}
use Rattle.fw_disk.specs.PowerLoss.{AtEachMoment}
use Rattle.fw_disk.specs.RunLines.{digest_line, digests_of}
use Rattle.fw_disk.specs.Survival.{IsRunFileKnown, IsWithLine}
use Rattle.fw_disk.proofs.LineMoments.{still_line, then_removed}
use Rattle.fw_disk.proofs.PutMoments.{then_puts, run_puts, removed_beside, still_on_disk}
use Rattle.fw_disk.proofs.claim.Claim.put.Goals as goal

pub returns-in_err-write_anew-clause-any_moment : goal.returns-in_err-write_anew-clause-any_moment
returns-in_err-write_anew-clause-any_moment g c start =
    run_puts c.args.id c.args.contents.now start (calls_of c.args.folder.now.calls) (calls_of c.write_anew.new.folder.calls) c.write_anew.ensures.of_run

pub returns-in_err-add-clause-any_moment : goal.returns-in_err-add-clause-any_moment
returns-in_err-add-clause-any_moment g c start =
    run_puts c.args.id c.args.contents.now start (calls_of c.args.folder.now.calls) (calls_of c.write_anew.new.folder.calls) c.write_anew.ensures.of_run

pub returns-in-Ok-clause-any_moment : goal.returns-in-Ok-clause-any_moment
returns-in-Ok-clause-any_moment g c start =
    let id = c.args.id in
    let contents = c.args.contents.now in
    let old = calls_of c.args.folder.now.calls in
    let anew = calls_of c.write_anew.new.folder.calls in
    let put = calls_of c.tell_and_name-put.new.folder.calls in
    let removed = calls_of c.remove.new.self.calls in
    then_puts id contents start old put removed
    (then_puts id contents start old anew put (run_puts id contents start old anew c.write_anew.ensures.of_run) (c.tell_and_name-put.ensures.any_moment start))
    (removed_beside id contents start put removed (is_ok c.remove.result) c.remove.ensures)

pub returns-in-Ok-clause-on_disk : goal.returns-in-Ok-clause-on_disk
returns-in-Ok-clause-on_disk g c =
    on_ok_weaker c.tell_and_name-put.result
    (λ on start. still_on_disk c.args.id c.args.contents.now start (calls_of c.tell_and_name-put.new.folder.calls) (calls_of c.remove.new.self.calls) (is_ok c.remove.result) c.remove.ensures (on start))
    c.tell_and_name-put.ensures.on_disk

pub returns-in-Err-clause-any_moment : goal.returns-in-Err-clause-any_moment
returns-in-Err-clause-any_moment g c start =
    let id = c.args.id in
    let contents = c.args.contents.now in
    let old = calls_of c.args.folder.now.calls in
    let anew = calls_of c.write_anew.new.folder.calls in
    let put = calls_of c.tell_and_name-put.new.folder.calls in
    let removed = calls_of c.remove.new.self.calls in
    then_puts id contents start old put removed
    (then_puts id contents start old anew put (run_puts id contents start old anew c.write_anew.ensures.of_run) (c.tell_and_name-put.ensures.any_moment start))
    (removed_beside id contents start put removed (is_ok c.remove.result) c.remove.ensures)

pub returns-in_err-write_anew-clause-line : goal.returns-in_err-write_anew-clause-line
returns-in_err-write_anew-clause-line g c some few start known =
    still_line c.args.id c.args.contents.now (digest_line c.args.id c.args.digest) start (calls_of c.args.folder.now.calls) (calls_of c.write_anew.new.folder.calls) (c.write_anew.ensures.rest few).1

pub returns-in_err-add-clause-line : goal.returns-in_err-add-clause-line
returns-in_err-add-clause-line g c some few start known =
    still_line c.args.id c.args.contents.now (digest_line c.args.id c.args.digest) start (calls_of c.args.folder.now.calls) (calls_of c.write_anew.new.folder.calls) (c.write_anew.ensures.rest few).1

pub returns-in-Ok-clause-line : goal.returns-in-Ok-clause-line
returns-in-Ok-clause-line g c some few start known =
    let id = c.args.id in
    let contents = c.args.contents.now in
    let line = digest_line id c.args.digest in
    let old = calls_of c.args.folder.now.calls in
    let anew = calls_of c.write_anew.new.folder.calls in
    let put = calls_of c.tell_and_name-put.new.folder.calls in
    let rest = c.write_anew.ensures.rest few in
    let has = c.has-has_line.ensures.1 (subst (λ lines. IsSome (digests_of lines.told id)) (sym rest.0) some) in
    let moments = subst (λ h. AtEachMoment (IsWithLine id contents line start h) h put) rest.1
    (c.tell_and_name-put.ensures.line has start (subst (IsRunFileKnown start) (sym rest.1) known)) in
    then_removed id contents line start old put (calls_of c.remove.new.self.calls) (is_ok c.remove.result) c.remove.ensures moments

pub returns-in-Err-clause-line : goal.returns-in-Err-clause-line
returns-in-Err-clause-line g c some few start known =
    let id = c.args.id in
    let contents = c.args.contents.now in
    let line = digest_line id c.args.digest in
    let old = calls_of c.args.folder.now.calls in
    let anew = calls_of c.write_anew.new.folder.calls in
    let put = calls_of c.tell_and_name-put.new.folder.calls in
    let rest = c.write_anew.ensures.rest few in
    let has = c.has-has_line.ensures.1 (subst (λ lines. IsSome (digests_of lines.told id)) (sym rest.0) some) in
    let moments = subst (λ h. AtEachMoment (IsWithLine id contents line start h) h put) rest.1
    (c.tell_and_name-put.ensures.line has start (subst (IsRunFileKnown start) (sym rest.1) known)) in
    then_removed id contents line start old put (calls_of c.remove.new.self.calls) (is_ok c.remove.result) c.remove.ensures moments
