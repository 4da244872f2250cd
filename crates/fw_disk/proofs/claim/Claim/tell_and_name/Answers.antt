use Rattle.std.proofs.Common.{is_ok, true, false, refl, subst}
use Rattle.fw_disk.specs.FolderCalls.{calls_of, removed, folder_flushed}
use Rattle.fw_disk.specs.RunLines.{digest_line}
use Rattle.fw_disk.specs.Survival.{IsLineWritten}
use Rattle.fw_disk.specs.declared.cause.DiskPlace.TheVariants.{Record}
use Rattle.fw_disk.proofs.LineMoments.{early_made, early_refused, early_run, known_made, told, late_all, late_next}
use Rattle.fw_disk.proofs.PutMoments.{then_puts, run_puts, removed_beside, beside_made, beside_refused, beside_ready, still_ready, flush_puts, flushed_on_disk, undone}
use Rattle.fw_disk.proofs.claim.Claim.tell_and_name.Goals as goal

pub returns-in_err-make-clause-any_moment : goal.returns-in_err-make-clause-any_moment
returns-in_err-make-clause-any_moment g c start =
    let id = c.args.id in
    let contents = c.args.contents.now in
    let old = calls_of c.args.folder.now.calls in
    let removed = calls_of c.remove.new.self.calls in
    then_puts id contents start old removed (calls_of c.make.new.self.calls) (removed_beside id contents start old removed (is_ok c.remove.result) c.remove.ensures)
    (beside_refused id contents start removed (calls_of c.make.new.self.calls) c.in_err-make.ensures.refused)

pub returns-in_err-tell-clause-any_moment : goal.returns-in_err-tell-clause-any_moment
returns-in_err-tell-clause-any_moment g c start =
    let id = c.args.id in
    let contents = c.args.contents.now in
    let old = calls_of c.args.folder.now.calls in
    let removed = calls_of c.remove.new.self.calls in
    let made = calls_of c.make.new.self.calls in
    let told = calls_of c.tell.new.folder.calls in
    then_puts id contents start old made told
    (then_puts id contents start old removed made (removed_beside id contents start old removed (is_ok c.remove.result) c.remove.ensures) (beside_made id contents start removed made true c.in_ok-make.ensures.done))
    (run_puts id contents start made told c.tell.ensures.of_run)

pub returns-in_err-give_name-clause-any_moment : goal.returns-in_err-give_name-clause-any_moment
returns-in_err-give_name-clause-any_moment g c start =
    let id = c.args.id in
    let contents = c.args.contents.now in
    let old = calls_of c.args.folder.now.calls in
    let removed = calls_of c.remove.new.self.calls in
    let made = calls_of c.make.new.self.calls in
    let told = calls_of c.tell.new.folder.calls in
    let ready = still_ready id contents start made told c.tell.ensures.of_run (beside_ready id contents start removed made c.in_ok-make.ensures.done) in
    then_puts id contents start old told (calls_of c.give_name.new.self.calls)
    (then_puts id contents start old made told
    (then_puts id contents start old removed made (removed_beside id contents start old removed (is_ok c.remove.result) c.remove.ensures) (beside_made id contents start removed made true c.in_ok-make.ensures.done))
    (run_puts id contents start made told c.tell.ensures.of_run))
    (c.give_name.ensures.any_moment start contents ready)

pub returns-in-Ok-clause-any_moment : goal.returns-in-Ok-clause-any_moment
returns-in-Ok-clause-any_moment g c start =
    let id = c.args.id in
    let contents = c.args.contents.now in
    let old = calls_of c.args.folder.now.calls in
    let removed = calls_of c.remove.new.self.calls in
    let made = calls_of c.make.new.self.calls in
    let told = calls_of c.tell.new.folder.calls in
    let named = calls_of c.give_name.new.self.calls in
    let ready = still_ready id contents start made told c.tell.ensures.of_run (beside_ready id contents start removed made c.in_ok-make.ensures.done) in
    then_puts id contents start old named (calls_of c.flush.new.self.calls)
    (then_puts id contents start old told named
    (then_puts id contents start old made told
    (then_puts id contents start old removed made (removed_beside id contents start old removed (is_ok c.remove.result) c.remove.ensures) (beside_made id contents start removed made true c.in_ok-make.ensures.done))
    (run_puts id contents start made told c.tell.ensures.of_run))
    (c.give_name.ensures.any_moment start contents ready))
    (flush_puts id contents start named (calls_of c.flush.new.self.calls) true c.in-Ok.ensures)

pub returns-in-Ok-clause-on_disk : goal.returns-in-Ok-clause-on_disk
returns-in-Ok-clause-on_disk g c start =
    let id = c.args.id in
    let contents = c.args.contents.now in
    let removed = calls_of c.remove.new.self.calls in
    let made = calls_of c.make.new.self.calls in
    let told = calls_of c.tell.new.folder.calls in
    let named = calls_of c.give_name.new.self.calls in
    let ready = still_ready id contents start made told c.tell.ensures.of_run (beside_ready id contents start removed made c.in_ok-make.ensures.done) in
    flushed_on_disk id contents start named (calls_of c.flush.new.self.calls) c.in-Ok.ensures (c.in_ok-give_name.ensures.named start contents ready)

pub returns-in-Err-clause-any_moment : goal.returns-in-Err-clause-any_moment
returns-in-Err-clause-any_moment g c start =
    let id = c.args.id in
    let contents = c.args.contents.now in
    let old = calls_of c.args.folder.now.calls in
    let removed = calls_of c.remove.new.self.calls in
    let made = calls_of c.make.new.self.calls in
    let told = calls_of c.tell.new.folder.calls in
    let named = calls_of c.give_name.new.self.calls in
    let ready = still_ready id contents start made told c.tell.ensures.of_run (beside_ready id contents start removed made c.in_ok-make.ensures.done) in
    then_puts id contents start old named (calls_of c.remove-in-Err.new.self.calls)
    (then_puts id contents start old told named
    (then_puts id contents start old made told
    (then_puts id contents start old removed made (removed_beside id contents start old removed (is_ok c.remove.result) c.remove.ensures) (beside_made id contents start removed made true c.in_ok-make.ensures.done))
    (run_puts id contents start made told c.tell.ensures.of_run))
    (c.give_name.ensures.any_moment start contents ready))
    (undone id contents start named (calls_of c.flush.new.self.calls) (calls_of c.remove-in-Err.new.self.calls) (is_ok c.remove-in-Err.result) c.in-Err.ensures c.remove-in-Err.ensures
    (c.in_ok-give_name.ensures.named start contents ready))

pub returns-in_err-make-clause-line : goal.returns-in_err-make-clause-line
returns-in_err-make-clause-line g c has start known =
    let id = c.args.id in
    let contents = c.args.contents.now in
    let line = digest_line id c.args.digest.now in
    let old = calls_of c.args.folder.now.calls in
    let gone = calls_of c.remove.new.self.calls in
    let beside = calls_of c.make.new.self.calls in
    (early_refused id contents line start old gone beside (is_ok c.remove.result) c.remove.ensures c.in_err-make.ensures.refused).0

pub returns-in_err-tell-clause-line : goal.returns-in_err-tell-clause-line
returns-in_err-tell-clause-line g c has start known =
    let id = c.args.id in
    let contents = c.args.contents.now in
    let line = digest_line id c.args.digest.now in
    let old = calls_of c.args.folder.now.calls in
    let gone = calls_of c.remove.new.self.calls in
    let beside = calls_of c.make.new.self.calls in
    (early_run id contents line start old beside (calls_of c.tell.new.folder.calls) c.tell.ensures.of_run
    (early_made id contents line start old gone beside (is_ok c.remove.result) c.remove.ensures c.in_ok-make.ensures.done)).0

pub returns-in_err-give_name-clause-line : goal.returns-in_err-give_name-clause-line
returns-in_err-give_name-clause-line g c has start known =
    let id = c.args.id in
    let contents = c.args.contents.now in
    let line = digest_line id c.args.digest.now in
    let old = calls_of c.args.folder.now.calls in
    let gone = calls_of c.remove.new.self.calls in
    let beside = calls_of c.make.new.self.calls in
    let written = calls_of c.tell.new.folder.calls in
    let named = calls_of c.give_name.new.self.calls in
    let early = early_made id contents line start old gone beside (is_ok c.remove.result) c.remove.ensures c.in_ok-make.ensures.done in
    let still = known_made id contents line start old gone beside (is_ok c.remove.result) c.remove.ensures c.in_ok-make.ensures.done known in
    let late = late_all id contents line start old written named c.give_name.ensures.beside (told id contents c.args.digest.now start old beside written early c.tell.ensures.of_run still (subst (λ flushes. IsLineWritten flushes id c.args.digest.now beside written) has c.in_ok-tell.ensures.told)) in
    late.0

pub returns-in-Ok-clause-line : goal.returns-in-Ok-clause-line
returns-in-Ok-clause-line g c has start known =
    let id = c.args.id in
    let contents = c.args.contents.now in
    let line = digest_line id c.args.digest.now in
    let old = calls_of c.args.folder.now.calls in
    let gone = calls_of c.remove.new.self.calls in
    let beside = calls_of c.make.new.self.calls in
    let written = calls_of c.tell.new.folder.calls in
    let named = calls_of c.give_name.new.self.calls in
    let early = early_made id contents line start old gone beside (is_ok c.remove.result) c.remove.ensures c.in_ok-make.ensures.done in
    let still = known_made id contents line start old gone beside (is_ok c.remove.result) c.remove.ensures c.in_ok-make.ensures.done known in
    let late = late_all id contents line start old written named c.give_name.ensures.beside (told id contents c.args.digest.now start old beside written early c.tell.ensures.of_run still (subst (λ flushes. IsLineWritten flushes id c.args.digest.now beside written) has c.in_ok-tell.ensures.told)) in
    (late_next id contents line start old named (calls_of c.flush.new.self.calls) (folder_flushed true) refl c.in-Ok.ensures late).0

pub returns-in-Err-clause-line : goal.returns-in-Err-clause-line
returns-in-Err-clause-line g c has start known =
    let id = c.args.id in
    let contents = c.args.contents.now in
    let line = digest_line id c.args.digest.now in
    let old = calls_of c.args.folder.now.calls in
    let gone = calls_of c.remove.new.self.calls in
    let beside = calls_of c.make.new.self.calls in
    let written = calls_of c.tell.new.folder.calls in
    let named = calls_of c.give_name.new.self.calls in
    let early = early_made id contents line start old gone beside (is_ok c.remove.result) c.remove.ensures c.in_ok-make.ensures.done in
    let still = known_made id contents line start old gone beside (is_ok c.remove.result) c.remove.ensures c.in_ok-make.ensures.done known in
    let late = late_all id contents line start old written named c.give_name.ensures.beside (told id contents c.args.digest.now start old beside written early c.tell.ensures.of_run still (subst (λ flushes. IsLineWritten flushes id c.args.digest.now beside written) has c.in_ok-tell.ensures.told)) in
    let flushed = calls_of c.flush.new.self.calls in
    (late_next id contents line start old flushed (calls_of c.remove-in-Err.new.self.calls) (removed (Record id) (is_ok c.remove-in-Err.result)) refl c.remove-in-Err.ensures
    (late_next id contents line start old named flushed (folder_flushed false) refl c.in-Err.ensures late)).0
