use Rattle.std.proofs.Common.{◌≡◌, true, ◌∷◌, Some, IfSome, refl, sym, ap, ◌∙◌, subst}
use Rattle.std.specs.Option.{ForSome}
use Rattle.fw_disk.specs.FolderCalls.{calls_of, folder_flushed}
use Rattle.fw_disk.specs.Survival.{IsOld, Survive}
use Rattle.fw_disk.specs.Told.{told_by, digests_in, HasDigestsOf}
use Rattle.fw_disk.specs.declared.claim.Wanted.TheVariants.{AsLeft}
use Rattle.fw_disk.proofs.SurvivalLaws.{opened_survive, whole_at_first, old_whole}
use Rattle.fw_disk.proofs.ToldLaws.{opened_kept, opened_tells}
use Rattle.fw_disk.proofs.disk_store.DiskStore.reopen.Goals as goal

pub left-requires : goal.left-requires
left-requires g c =
    let old = calls_of c.new-folder.result.calls in
    let calls = calls_of c.claim_left.new.folder.calls in
    record {
      has_digests = subst (λ notes. ForSome (told_by g.S.Start.held notes) (HasDigestsOf (Some c.in-Ok.claim) AsLeft)) (sym c.note.ensures)
          (opened_kept g.S.Start.held c.claim_left.new.heard.notes (Some c.in-Ok.claim) AsLeft refl (λ q. c.in-Ok.ensures.noted q));
      survive = subst (λ notes. Survive g.S.Start.held notes calls) (sym c.note.ensures)
          (opened_survive g.S.Start.held c.claim_left.new.heard.notes calls (λ start. subst (λ old. IsOld start (folder_flushed true ∷ old) calls) c.new-folder.ensures (c.in-Ok.ensures.flushed start)));
      whole = old_whole old calls (whole_at_first old c.new-folder.ensures) c.claim_left.ensures.any_moment;
    }

pub left-requires-in-Err-clause-whole : goal.left-requires-in-Err-clause-whole
left-requires-in-Err-clause-whole g c =
    let old = calls_of c.new-folder.result.calls in
    old_whole old (calls_of c.claim_left.new.folder.calls) (whole_at_first old c.new-folder.ensures) c.claim_left.ensures.any_moment

pub returns-in-Ok-clause-opened : goal.returns-in-Ok-clause-opened
returns-in-Ok-clause-opened g c = λ some.
    let left = c.left.result in
    subst (λ notes. IfSome g.S.Start.held (λ held. HasDigestsOf left.claim left.wanted held → told_by g.S.Start.held notes ≡ Some held)) (sym (c.left.ensures.notes ∙ c.note.ensures))
    (opened_tells g.S.Start.held c.claim_left.new.heard.notes left.claim left.wanted (λ q. ap (λ claim. digests_in claim q) c.left.ensures.claim.0 ∙ c.in-Ok.ensures.noted q))
