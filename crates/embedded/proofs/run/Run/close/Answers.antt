use Rattle.std.proofs.Common.{◌++◌, ◌∷◌, [], Some, refl, sym, ap, subst, ◌∙◌}
use Rattle.std.specs.Prelude.{IfOk, IsErr}
use Rattle.std.proofs.Math.Logic.{∥∥₁_map}
use Rattle.cimboery.specs.Engine.{was_refused}
use Rattle.cimboery.specs.Memory.{record_map}
use Rattle.cimboery.specs.Session.{IsAt}
use Rattle.cimboery.specs.Story.{Story, after_close}
use Rattle.embedded.proofs.ToldLaws.{close-kept, kept-at, kept-same, moved}
use Rattle.embedded.proofs.run.Run.close.Goals as goal

pub invariant_of-self : goal.invariant_of-self
invariant_of-self c =
    let old = c.args.self.now in
    record { kept = ∥∥₁_map old.kept (kept-same _ _ old.source old.came.items _ old.told.items _ c.reserve.ensures.items refl) }

pub invariant_of-self-in-Break-branch-2 : goal.invariant_of-self-in-Break-branch-2
invariant_of-self-in-Break-branch-2 c =
    let old = c.args.self.now in
    let new = c.close.new.self in
    let by = c.close.ensures in
    let err = subst IsErr (sym c.in_err-close.was) refl in
    record {
      kept = ∥∥₁_map old.kept (kept-at _ _ _ _ old.source old.came.items _ old.told.items
          (moved (λ engine store arrivals story. IsAt engine (Some (record_map store.store.records.entries)) arrivals story)
          old.session.engine new.engine old.session.store new.store old.session.arrivals new.arrivals by.engine by.store (by.came err))
          (ap was_refused by.engine) c.reserve.ensures.items);
    }

pub invariant_of-self-2 : goal.invariant_of-self-2
invariant_of-self-2 c =
    let old = c.args.self.now in
    let new = c.close.new.self in
    let by = c.close.ensures in
    let After : Story → Type 0 = λ story. IsAt new.engine (Some (record_map new.store.store.records.entries)) new.arrivals story in
    record {
      kept = ∥∥₁_map old.kept (λ kept. kept-same _ After old.source _ _ old.told.items _
          (c.push_reserved.ensures.items ∙ ap (λ cs. cs ++ c.new.result ∷ []) c.reserve.ensures.items) refl
          (close-kept _ _ _ After old.source old.came.items c.new.result old.told.items c.new.ensures.items
          (λ story at. subst (λ r. IfOk r (λ epoch. After (after_close old.source story))) c.in_ok-close.was (by.closes story at))
          (ap was_refused by.engine) kept));
    }
