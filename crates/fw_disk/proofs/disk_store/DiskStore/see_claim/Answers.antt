use Rattle.std.proofs.Common.{subst}
use Rattle.fw_disk.specs.FolderCalls.{calls_of}
use Rattle.fw_disk.specs.Survival.{IsNoRecord, IsOld}
use Rattle.fw_disk.specs.Told.{HasDigestsOf}
use Rattle.fw_disk.proofs.Moments.{last}
use Rattle.fw_disk.proofs.SurvivalLaws.{same_survive, old_whole}
use Rattle.fw_disk.proofs.ToldLaws.{claim_kept}
use Rattle.fw_disk.proofs.disk_store.DiskStore.see_claim.Goals as goal

pub invariant_of-self-in-Break-1 : goal.invariant_of-self-in-Break-1
invariant_of-self-in-Break-1 g c =
    let store = c.args.self.now in
    let old = calls_of store.folder.calls in
    let now = calls_of c.claim_folder.new.folder.calls in
    record {
      has_digests = store.has_digests;
      survive = same_survive g.S.Start.held store.heard.notes old now store.survive (λ id found. IsNoRecord found) (λ start. last (IsOld start old) old now (c.claim_folder.ensures.any_moment start));
      whole = old_whole old now store.whole c.claim_folder.ensures.any_moment;
    }

pub invariant_of-self-2 : goal.invariant_of-self-2
invariant_of-self-2 g c =
    let store = c.args.self.now in
    let old = calls_of store.folder.calls in
    let now = calls_of c.claim_folder.new.folder.calls in
    let claim = c.in_ok-claim_folder.field-0 in
    record {
      has_digests = λ held e. claim_kept claim store.wanted held c.in_ok-claim_folder.ensures.claim (subst (λ (had : _). HasDigestsOf had store.wanted held) c.in_default.is (store.has_digests held e));
      survive = same_survive g.S.Start.held store.heard.notes old now store.survive (λ id found. IsNoRecord found) (λ start. last (IsOld start old) old now (c.claim_folder.ensures.any_moment start));
      whole = old_whole old now store.whole c.claim_folder.ensures.any_moment;
    }
