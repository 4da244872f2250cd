use Rattle.std.proofs.Common.{◌++◌, ◌∷◌, [], Some, refl, sym, ap, subst, ◌∙◌}
use Rattle.std.specs.Prelude.{IfOk, IsErr}
use Rattle.std.proofs.Math.Logic.{∥∥₁_map}
use Rattle.cimboery.specs.Keyed.{sorted_recs}
use Rattle.cimboery.specs.Memory.{record_map}
use Rattle.cimboery.specs.Session.{IsAt}
use Rattle.cimboery.specs.Story.{Story, after_feed}
use Rattle.embedded.proofs.ToldLaws.{feed-kept, kept-at, kept-same, moved}
use Rattle.embedded.proofs.run.Run.feed.Goals as goal

pub invariant_of-self : goal.invariant_of-self
invariant_of-self c =
    let old = c.args.self.now in
    record { kept = ∥∥₁_map old.kept (kept-same _ _ old.source old.came.items _ old.told.items _ c.reserve.ensures.items refl) }

pub invariant_of-self-in-Break-branch-2 : goal.invariant_of-self-in-Break-branch-2
invariant_of-self-in-Break-branch-2 c =
    let old = c.args.self.now in
    let new = c.feed.new.self in
    let by = c.feed.ensures in
    let err = subst IsErr (sym c.in_err-feed.was) refl in
    record {
      kept = ∥∥₁_map old.kept (kept-at _ _ _ _ old.source old.came.items _ old.told.items
          (moved (λ engine store arrivals story. IsAt engine (Some (record_map store.store.records.entries)) arrivals story)
          old.session.engine new.engine old.session.store new.store old.session.arrivals new.arrivals (by.stays err) by.store (by.came err))
          by.told c.reserve.ensures.items);
    }

pub invariant_of-self-2 : goal.invariant_of-self-2
invariant_of-self-2 c =
    let old = c.args.self.now in
    let new = c.feed.new.self in
    let by = c.feed.ensures in
    let After : Story → Type 0 = λ story. IsAt new.engine (Some (record_map new.store.store.records.entries)) new.arrivals story in
    record {
      kept = ∥∥₁_map old.kept (λ kept. kept-same _ After old.source _ _ old.told.items _
          (c.push_reserved.ensures.items ∙ ap (λ cs. cs ++ c.args.batch ∷ []) c.reserve.ensures.items) refl
          (feed-kept _ _ _ After old.source old.came.items c.args.batch old.told.items
          (λ story at. subst (λ rs. After (after_feed old.source (sorted_recs rs) story)) c.deref.ensures.value
          (subst (λ r. IfOk r (λ epoch. After (after_feed old.source (sorted_recs c.deref.result.now) story))) c.in_ok-feed.was (by.fed story at)))
          by.told kept));
    }
