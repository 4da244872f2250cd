use Rattle.std.proofs.Common.{[], ◌∷◌, None, refl, sym, ap, ◌∙◌, subst}
use Rattle.std.specs.Option.{ForSome}
use Rattle.fw_heard.specs.Note.{note_of}
use Rattle.fw_disk.specs.FolderCalls.{calls_of}
use Rattle.fw_disk.specs.Survival.{Survive}
use Rattle.fw_disk.specs.Told.{told_by, last_given, HasDigestsOf}
use Rattle.fw_disk.specs.declared.claim.Wanted.TheVariants.{Empty}
use Rattle.fw_disk.proofs.SurvivalLaws.{new_survive, whole_at_first}
use Rattle.fw_disk.proofs.ToldLaws.{opened_kept, opened_new}
use Rattle.fw_disk.proofs.disk_store.DiskStore.new.Goals as goal

pub invariant_of-result : goal.invariant_of-result
invariant_of-result g c =
    let noted = c.note.ensures ∙ ap (λ notes. note_of (4 ∷ []) [] ∷ notes) c.new-heard.ensures in
    record {
      has_digests = subst (λ notes. ForSome (told_by g.S.Start.held notes) (HasDigestsOf None Empty)) (sym noted) (opened_kept g.S.Start.held [] None Empty refl (λ q. refl));
      survive = subst (λ notes. Survive g.S.Start.held notes (calls_of c.new.result.calls)) (sym noted)
          (new_survive g.S.Start.held (calls_of c.new.result.calls) c.requires);
      whole = whole_at_first (calls_of c.new.result.calls) c.new.ensures;
    }

pub returns : goal.returns
returns g c =
    let noted = c.note.ensures ∙ ap (λ notes. note_of (4 ∷ []) [] ∷ notes) c.new-heard.ensures in
    let told = ap (told_by g.S.Start.held) noted ∙ opened_new g.S.Start.held c.requires in
    λ i. record { records = told i; given = last_given (noted i); faults = 0 }
