use Rattle.std.proofs.Common.{◌++◌, ◌∷◌, [], Ok, refl, sym, ap, ◌∙◌}
use Rattle.std.proofs.Math.Logic.{∥∥₁_map}
use Rattle.cimboery.specs.Engine.{flow_of, was_refused}
use Rattle.embedded.proofs.ToldLaws.{first-kept, first_told, kept-same}
use Rattle.embedded.proofs.run.Run.auto_step.Goals as goal

pub invariant_of-self : goal.invariant_of-self
invariant_of-self c =
    let old = c.args.self.now in
    record { kept = ∥∥₁_map old.kept (kept-same _ _ old.source old.came.items _ old.told.items _ refl c.reserve.ensures.items) }

pub invariant_of-self-in-Break-branch-2 : goal.invariant_of-self-in-Break-branch-2
invariant_of-self-in-Break-branch-2 c =
    let old = c.args.self.now in
    let by = c.auto_step.ensures in
    record {
      kept = ∥∥₁_map old.kept (λ kept. kept-same _ _ old.source old.came.items _ (first_told old.told.items c.auto_step.result) _ refl
          (c.reserve.ensures.items ∙ sym (ap (first_told old.told.items) c.in_err-stepped.was))
          (first-kept (flow_of old.session.engine) old.session.arrivals c.auto_step.result _ _ old.source old.came.items old.told.items
          (was_refused old.session.engine) _ by.goes_on by.told by.refused kept));
    }

pub invariant_of-self-in-Idle : goal.invariant_of-self-in-Idle
invariant_of-self-in-Idle c =
    let old = c.args.self.now in
    let by = c.auto_step.ensures in
    record {
      kept = ∥∥₁_map old.kept (λ kept. kept-same _ _ old.source old.came.items _ (first_told old.told.items c.auto_step.result) _ refl
          (c.reserve.ensures.items ∙ sym (ap (first_told old.told.items) (c.in_ok-stepped.was ∙ ap Ok c.in-Idle.is)))
          (first-kept (flow_of old.session.engine) old.session.arrivals c.auto_step.result _ _ old.source old.came.items old.told.items
          (was_refused old.session.engine) _ by.goes_on by.told by.refused kept));
    }

pub invariant_of-self-2 : goal.invariant_of-self-2
invariant_of-self-2 c =
    let old = c.args.self.now in
    let by = c.auto_step.ensures in
    record {
      kept = ∥∥₁_map old.kept (λ kept. kept-same _ _ old.source old.came.items _ (first_told old.told.items c.auto_step.result) _ refl
          (c.push_reserved.ensures.items ∙ ap (λ ts. ts ++ c.in_ok-stepped.stepped ∷ []) c.reserve.ensures.items
          ∙ ap (λ s. old.told.items ++ s ∷ []) c.in_default.is
          ∙ sym (ap (first_told old.told.items) (c.in_ok-stepped.was ∙ ap Ok c.in_default.is)))
          (first-kept (flow_of old.session.engine) old.session.arrivals c.auto_step.result _ _ old.source old.came.items old.told.items
          (was_refused old.session.engine) _ by.goes_on by.told by.refused kept));
    }
