use Rattle.std.proofs.Common.{◌++◌, ◌∷◌, [], refl, sym, ap, ◌∙◌}
use Rattle.std.proofs.Math.Logic.{∥∥₁_map}
use Rattle.cimboery.specs.Engine.{flow_of, was_refused}
use Rattle.embedded.proofs.ToldLaws.{kept-same, step-kept, told_after}
use Rattle.embedded.proofs.run.Run.step.Goals as goal

pub invariant_of-self : goal.invariant_of-self
invariant_of-self c =
    let old = c.args.self.now in
    record { kept = ∥∥₁_map old.kept (kept-same _ _ old.source old.came.items _ old.told.items _ refl c.reserve.ensures.items) }

pub invariant_of-self-in-Break-branch-2 : goal.invariant_of-self-in-Break-branch-2
invariant_of-self-in-Break-branch-2 c =
    let old = c.args.self.now in
    let by = c.step.ensures in
    record {
      kept = ∥∥₁_map old.kept (λ kept. kept-same _ _ old.source old.came.items _ (told_after old.told.items c.step.result) _ refl
          (c.reserve.ensures.items ∙ sym (ap (told_after old.told.items) c.in_err-stepped.was))
          (step-kept (flow_of old.session.engine) c.args.step.now c.step.result _ _ _ old.source old.came.items old.told.items
          (was_refused old.session.engine) _ by.goes_on (λ e. cc) by.told by.refused kept));
    }

pub invariant_of-self-2 : goal.invariant_of-self-2
invariant_of-self-2 c =
    let old = c.args.self.now in
    let by = c.step.ensures in
    record {
      kept = ∥∥₁_map old.kept (λ kept. kept-same _ _ old.source old.came.items _ (told_after old.told.items c.step.result) _ refl
          (c.push_reserved.ensures.items ∙ ap (λ ts. ts ++ c.in_ok-stepped.stepped ∷ []) c.reserve.ensures.items
          ∙ sym (ap (told_after old.told.items) c.in_ok-stepped.was))
          (step-kept (flow_of old.session.engine) c.args.step.now c.step.result _ _ _ old.source old.came.items old.told.items
          (was_refused old.session.engine) _ by.goes_on (λ e. cc) by.told by.refused kept));
    }
