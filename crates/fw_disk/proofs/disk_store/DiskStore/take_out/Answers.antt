use Rattle.std.proofs.Common.{[], Some, refl, sym, ap, ◌∙◌, subst}
use Rattle.std.specs.Prelude.{unwrap_or}
use Rattle.std.specs.Option.{ForSome}
use Rattle.fw_disk.specs.FolderCalls.{calls_of}
use Rattle.fw_disk.specs.RunLines.{digests_under}
use Rattle.fw_disk.specs.Survival.{IsOldOrGone, Survive}
use Rattle.fw_disk.specs.Told.{told_by, HasDigestsOf}
use Rattle.fw_disk.proofs.Moments.{last}
use Rattle.fw_disk.proofs.PutMoments.{keeps_then_gone, still_gone}
use Rattle.fw_disk.proofs.SurvivalLaws.{removal_survived, refusal_survived, removal_whole}
use Rattle.fw_disk.proofs.ToldLaws.{removed_kept, same_kept, told_not_removed}
use Rattle.fw_disk.proofs.disk_store.DiskStore.take_out.Goals as goal

pub returns-in_err-see_claim-clause-any_moment : goal.returns-in_err-see_claim-clause-any_moment
returns-in_err-see_claim-clause-any_moment g c start =
    let seen = calls_of c.see_claim.new.self.folder.calls in
    keeps_then_gone start c.args.id (calls_of c.args.self.now.folder.calls) seen seen (c.see_claim.ensures.any_moment start) (still_gone start c.args.id seen)

pub returns-in-Ok-clause-any_moment : goal.returns-in-Ok-clause-any_moment
returns-in-Ok-clause-any_moment g c start =
    keeps_then_gone start c.args.id (calls_of c.args.self.now.folder.calls) (calls_of c.see_claim.new.self.folder.calls) (calls_of c.remove-removed.new.folder.calls)
    (c.see_claim.ensures.any_moment start) (c.remove-removed.ensures.any_moment start)

pub returns-in-Err-clause-any_moment : goal.returns-in-Err-clause-any_moment
returns-in-Err-clause-any_moment g c start =
    keeps_then_gone start c.args.id (calls_of c.args.self.now.folder.calls) (calls_of c.see_claim.new.self.folder.calls) (calls_of c.remove-removed.new.folder.calls)
    (c.see_claim.ensures.any_moment start) (c.remove-removed.ensures.any_moment start)

pub invariant_of-self : goal.invariant_of-self
invariant_of-self g c =
    let seen = c.see_claim.new.self in
    let id = c.args.id in
    let old = calls_of seen.folder.calls in
    let now = calls_of c.remove-removed.new.folder.calls in
    let had = subst (λ claim. ForSome (told_by g.S.Start.held seen.heard.notes) (HasDigestsOf claim seen.wanted)) c.in-Some.is seen.has_digests in
    let kept = removed_kept g.S.Start.held seen.heard.notes (Some c.in-Some.claim) (Some c.remove-removed.new.self) seen.wanted id had refl
    (λ q apart. ap (λ digests. unwrap_or digests []) (c.remove-removed.ensures.others q apart)) c.in-Ok.ensures.none in
    record {
      has_digests = subst (λ notes. ForSome (told_by g.S.Start.held notes) (HasDigestsOf (Some c.remove-removed.new.self) seen.wanted)) (sym c.note.ensures) kept;
      survive = subst (λ notes. Survive g.S.Start.held notes now) (sym c.note.ensures)
          (removal_survived g.S.Start.held seen.heard.notes old now seen.survive id (λ start. last (IsOldOrGone id start old) old now (c.remove-removed.ensures.any_moment start)));
      whole = removal_whole old now seen.whole id c.remove-removed.ensures.any_moment;
    }

pub invariant_of-self-in-Err : goal.invariant_of-self-in-Err
invariant_of-self-in-Err g c =
    let seen = c.see_claim.new.self in
    let id = c.args.id in
    let old = calls_of seen.folder.calls in
    let now = calls_of c.remove-removed.new.folder.calls in
    let had = subst (λ claim. ForSome (told_by g.S.Start.held seen.heard.notes) (HasDigestsOf claim seen.wanted)) c.in-Some.is seen.has_digests in
    let kept = same_kept g.S.Start.held seen.heard.notes (Some c.in-Some.claim) (Some c.remove-removed.new.self) seen.wanted refl (λ q. ap (λ lines. digests_under lines.told q) c.in-Err.ensures.refused) had in
    record {
      has_digests = subst (λ told. ForSome told (HasDigestsOf (Some c.remove-removed.new.self) seen.wanted)) (sym (ap (told_by g.S.Start.held) c.note-in-Err.ensures ∙ told_not_removed g.S.Start.held seen.heard.notes id)) kept;
      survive = subst (λ notes. Survive g.S.Start.held notes now) (sym c.note-in-Err.ensures)
          (refusal_survived g.S.Start.held seen.heard.notes old now seen.survive id (λ start. last (IsOldOrGone id start old) old now (c.remove-removed.ensures.any_moment start)));
      whole = removal_whole old now seen.whole id c.remove-removed.ensures.any_moment;
    }
