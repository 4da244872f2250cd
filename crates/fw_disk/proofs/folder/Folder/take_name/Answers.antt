use Rattle.std.proofs.Common.{[], ◌∷◌, inl, inr, ⊎_elim, is_ok, true, false, refl, ap}
use Rattle.fw_disk.specs.FolderCalls.{calls_of, made, flushed, renamed, removed}
use Rattle.fw_disk.specs.declared.cause.DiskPlace.TheVariants.{Record, Beside}
use Rattle.fw_disk.proofs.LineMoments.{one_beside, then_beside}
use Rattle.fw_disk.proofs.RunCalls.{on_err}
use Rattle.fw_disk.proofs.PutMoments.{not_taken, renamed_puts, renamed_named, undone_flush, undone_rename}
use Rattle.fw_disk.proofs.folder.Folder.take_name.Goals as goal

pub returns-in_err-file-clause-any_moment : goal.returns-in_err-file-clause-any_moment
returns-in_err-file-clause-any_moment g c start contents ready =
    not_taken c.args.id contents start (calls_of c.args.self.now.calls) (calls_of c.create.new.self.calls) (inl c.in_err-file.ensures)

pub returns-in-Ok-clause-any_moment : goal.returns-in-Ok-clause-any_moment
returns-in-Ok-clause-any_moment g c start contents ready =
    let id = c.args.id in
    let taken = calls_of c.create.new.self.calls in
    renamed_puts id contents start (calls_of c.args.self.now.calls) (flushed (Record id) true ∷ taken) (calls_of c.rename_over.new.self.calls) true
    (ap (λ h. flushed (Record id) true ∷ h) {y = made (Record id) [] true ∷ calls_of c.args.self.now.calls} c.in_ok-file.ensures) c.in-Ok.ensures.done ready

pub returns-in-Ok-clause-named : goal.returns-in-Ok-clause-named
returns-in-Ok-clause-named g c start contents ready =
    let id = c.args.id in
    let taken = calls_of c.create.new.self.calls in
    renamed_named id contents start (calls_of c.args.self.now.calls) (flushed (Record id) true ∷ taken) (calls_of c.rename_over.new.self.calls)
    (ap (λ h. flushed (Record id) true ∷ h) {y = made (Record id) [] true ∷ calls_of c.args.self.now.calls} c.in_ok-file.ensures) c.in-Ok.ensures.done ready

pub returns-clause-any_moment : goal.returns-clause-any_moment
returns-clause-any_moment g c start contents ready =
    let id = c.args.id in
    let old = calls_of c.args.self.now.calls in
    let taken = calls_of c.create.new.self.calls in
    let tried = calls_of c.rename_over.new.self.calls in
    let gone = calls_of c.remove.new.self.calls in
    ⊎_elim (λ e. undone_flush id contents start old taken tried gone (is_ok c.remove.result) c.in_ok-file.ensures e c.remove.ensures)
    (λ e. undone_rename id contents start old (flushed (Record id) true ∷ taken) tried gone (is_ok c.remove.result)
    (ap (λ h. flushed (Record id) true ∷ h) {y = made (Record id) [] true ∷ calls_of c.args.self.now.calls} c.in_ok-file.ensures) e c.remove.ensures ready) c.in-Err.ensures.refused

pub returns-in_err-file-clause-beside : goal.returns-in_err-file-clause-beside
returns-in_err-file-clause-beside g c =
    one_beside (calls_of c.args.self.now.calls) (calls_of c.create.new.self.calls) (made (Record c.args.id) [] false) refl c.in_err-file.ensures

pub returns-in-Ok-clause-beside : goal.returns-in-Ok-clause-beside
returns-in-Ok-clause-beside g c =
    let id = c.args.id in
    let old = calls_of c.args.self.now.calls in
    let taken = calls_of c.create.new.self.calls in
    let named = calls_of c.rename_over.new.self.calls in
    then_beside old taken named (one_beside old taken (made (Record id) [] true) refl c.in_ok-file.ensures)
    (then_beside taken (flushed (Record id) true ∷ taken) named (one_beside taken (flushed (Record id) true ∷ taken) (flushed (Record id) true) refl refl)
    (one_beside (flushed (Record id) true ∷ taken) named (renamed (Beside id) (Record id) true) refl c.in-Ok.ensures.done))

pub returns-clause-beside : goal.returns-clause-beside
returns-clause-beside g c =
    let id = c.args.id in
    let old = calls_of c.args.self.now.calls in
    let taken = calls_of c.create.new.self.calls in
    let tried = calls_of c.rename_over.new.self.calls in
    let gone = calls_of c.remove.new.self.calls in
    then_beside old tried gone
    (then_beside old taken tried (one_beside old taken (made (Record id) [] true) refl c.in_ok-file.ensures)
    (⊎_elim (λ e. one_beside taken tried (flushed (Record id) false) refl e)
    (λ e. then_beside taken (flushed (Record id) true ∷ taken) tried (one_beside taken (flushed (Record id) true ∷ taken) (flushed (Record id) true) refl refl)
    (one_beside (flushed (Record id) true ∷ taken) tried (renamed (Beside id) (Record id) false) refl e)) c.in-Err.ensures.refused))
    (one_beside tried gone (removed (Record id) (is_ok c.remove.result)) refl c.remove.ensures)

pub returns-in_err-file-clause-undone : goal.returns-in_err-file-clause-undone
returns-in_err-file-clause-undone g c = on_err c.from_residual.result _ (inl c.in_err-file.ensures)

pub returns-clause-undone : goal.returns-clause-undone
returns-clause-undone g c = inr (is_ok c.remove.result, calls_of c.rename_over.new.self.calls, c.remove.ensures)
