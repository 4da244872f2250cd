use Rattle.std.proofs.Common.{sym, ◌∙◌, subst}
use Rattle.std.specs.Option.{ForSome}
use Rattle.fw_disk.specs.FolderCalls.{calls_of}
use Rattle.fw_disk.specs.Survival.{Survive}
use Rattle.fw_disk.specs.Told.{told_by, HasDigestsOf}
use Rattle.fw_disk.proofs.SurvivalLaws.{gave_survive}
use Rattle.fw_disk.proofs.ToldLaws.{told_gave, given_from}
use Rattle.fw_disk.proofs.disk_store.DiskStore.read_into.Goals as goal

pub invariant_of-self-2 : goal.invariant_of-self-2
invariant_of-self-2 g c =
    let seen = c.see_claim.new.self in
    let calls = calls_of seen.folder.calls in
    record {
      has_digests = subst (λ notes. ForSome (told_by g.S.Start.held notes) (HasDigestsOf seen.claim seen.wanted)) (sym c.note.ensures)
          (λ held e. seen.has_digests held (given_from c.args.id _ (told_by g.S.Start.held seen.heard.notes) held (sym (told_gave g.S.Start.held seen.heard.notes c.args.id _) ∙ e)).0);
      survive = subst (λ notes. Survive g.S.Start.held notes calls) (sym c.note.ensures) (gave_survive g.S.Start.held seen.heard.notes calls calls seen.survive c.args.id _);
      whole = seen.whole;
    }
