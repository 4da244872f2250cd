use Rattle.std.proofs.Common.{[], ◌∷◌, Some, refl, sym, ap, ◌∙◌, subst}
use Rattle.std.specs.Option.{ForSome}
use Rattle.fw_disk.specs.Contents.{contents_of}
use Rattle.fw_disk.specs.FolderCalls.{calls_of}
use Rattle.fw_disk.specs.PowerLoss.{Disk, AtEachMoment}
use Rattle.fw_disk.specs.Survival.{MayBePut, IsOldOrNew, IsOnDisk, Survive}
use Rattle.fw_disk.specs.Told.{told_by, HasDigestsOf}
use Rattle.fw_disk.proofs.Moments.{last}
use Rattle.fw_disk.proofs.PutMoments.{still, keeps_then_puts}
use Rattle.fw_disk.proofs.SurvivalLaws.{put_survives, same_survive, put_whole}
use Rattle.fw_disk.proofs.ToldLaws.{put_kept, same_kept, at_each_id}
use Rattle.fw_disk.proofs.disk_store.DiskStore.put_new.Goals as goal

pub returns-in_err-see_claim-clause-any_moment : goal.returns-in_err-see_claim-clause-any_moment
returns-in_err-see_claim-clause-any_moment g c start =
    let contents = contents_of c.args.bytes.now in
    let seen = calls_of c.see_claim.new.self.folder.calls in
    keeps_then_puts start c.args.id contents (calls_of c.args.self.now.folder.calls) seen seen (c.see_claim.ensures.any_moment start) (still c.args.id contents start seen)

pub returns-in_err-put-in-Some-clause-any_moment : goal.returns-in_err-put-in-Some-clause-any_moment
returns-in_err-put-in-Some-clause-any_moment g c start =
    let seen = calls_of c.see_claim.new.self.folder.calls in
    let put = calls_of c.put.new.folder.calls in
    keeps_then_puts start c.args.id (contents_of c.args.bytes.now) (calls_of c.args.self.now.folder.calls) seen put (c.see_claim.ensures.any_moment start)
    (subst (λ contents. AtEachMoment (IsOldOrNew c.args.id contents start seen) seen put) (c.deref.ensures.value ∙ c.in_ok-contents.ensures) (c.put.ensures.any_moment start))

pub returns-clause-any_moment : goal.returns-clause-any_moment
returns-clause-any_moment g c start =
    let seen = calls_of c.see_claim.new.self.folder.calls in
    let put = calls_of c.put.new.folder.calls in
    keeps_then_puts start c.args.id (contents_of c.args.bytes.now) (calls_of c.args.self.now.folder.calls) seen put (c.see_claim.ensures.any_moment start)
    (subst (λ contents. AtEachMoment (IsOldOrNew c.args.id contents start seen) seen put) (c.deref.ensures.value ∙ c.in_ok-contents.ensures) (c.put.ensures.any_moment start))

pub returns-clause-on_disk : goal.returns-clause-on_disk
returns-clause-on_disk g c start =
    subst (λ contents. IsOnDisk c.args.id contents start (calls_of c.put.new.folder.calls)) (c.deref.ensures.value ∙ c.in_ok-contents.ensures) (c.in_ok-put-in-Some.ensures.on_disk start)

pub invariant_of-self : goal.invariant_of-self
invariant_of-self g c =
    let seen = c.see_claim.new.self in
    let id = c.args.id in
    let old = calls_of seen.folder.calls in
    let now = calls_of c.put.new.folder.calls in
    let had = subst (λ claim. ForSome (told_by g.S.Start.held seen.heard.notes) (HasDigestsOf claim seen.wanted)) c.in-Some.is seen.has_digests in
    let same = at_each_id (Some c.in-Some.claim) (Some c.put.new.self) id c.in_err-put-in-Some.ensures.refused c.put.ensures.others in
    let moments : (start : Disk) → AtEachMoment (IsOldOrNew id (contents_of c.args.bytes.now) start old) old now = λ start. subst (λ contents. AtEachMoment (IsOldOrNew id contents start old) old now) (c.deref.ensures.value ∙ c.in_ok-contents.ensures) (c.put.ensures.any_moment start) in
    record {
      has_digests = same_kept g.S.Start.held seen.heard.notes (Some c.in-Some.claim) (Some c.put.new.self) seen.wanted refl same had;
      survive = same_survive g.S.Start.held seen.heard.notes old now seen.survive (MayBePut id (contents_of c.args.bytes.now)) (λ start. last (IsOldOrNew id (contents_of c.args.bytes.now) start old) old now (moments start));
      whole = put_whole old now seen.whole id c.args.bytes.now moments;
    }

pub invariant_of-self-2 : goal.invariant_of-self-2
invariant_of-self-2 g c =
    let seen = c.see_claim.new.self in
    let id = c.args.id in
    let old = calls_of seen.folder.calls in
    let now = calls_of c.put.new.folder.calls in
    let had = subst (λ claim. ForSome (told_by g.S.Start.held seen.heard.notes) (HasDigestsOf claim seen.wanted)) c.in-Some.is seen.has_digests in
    let kept = put_kept g.S.Start.held seen.heard.notes (Some c.in-Some.claim) (Some c.put.new.self) seen.wanted id had refl
    (λ q. c.put.ensures.others q) c.args.bytes.now (c.in_ok-put-in-Some.ensures.stands ∙ ap (λ digest. digest ∷ []) c.digest.ensures) in
    let moments : (start : Disk) → AtEachMoment (IsOldOrNew id (contents_of c.args.bytes.now) start old) old now = λ start. subst (λ contents. AtEachMoment (IsOldOrNew id contents start old) old now) (c.deref.ensures.value ∙ c.in_ok-contents.ensures) (c.put.ensures.any_moment start) in
    let on_disk : (start : Disk) → IsOnDisk id (contents_of c.args.bytes.now) start now = λ start. subst (λ contents. IsOnDisk id contents start now) (c.deref.ensures.value ∙ c.in_ok-contents.ensures) (c.in_ok-put-in-Some.ensures.on_disk start) in
    record {
      has_digests = subst (λ notes. ForSome (told_by g.S.Start.held notes) (HasDigestsOf (Some c.put.new.self) seen.wanted)) (sym c.note.ensures) kept;
      survive = subst (λ notes. Survive g.S.Start.held notes now) (sym c.note.ensures)
          (put_survives g.S.Start.held seen.heard.notes old now seen.survive id c.args.bytes.now (λ start. last (IsOldOrNew id (contents_of c.args.bytes.now) start old) old now (moments start)) on_disk);
      whole = put_whole old now seen.whole id c.args.bytes.now moments;
    }
