use Rattle.std.proofs.Common.{◌↔◌, ◌≡◌, true, length, sym, ap, subst, ◌∙◌}
use Rattle.std.proofs.lemmas.Bool.{both_ways}
use Rattle.std.proofs.lemmas.Result.{IfOk-at_ok}
use Rattle.fw_flow.specs.Dataflow.{Dataflow}
use Rattle.fw_model.specs.History.{IsComplete}
use Rattle.fw_model.specs.Machine.{family_of, events, AreCanonical}
use Rattle.fw_progress.specs.Progress.{Standing, IsOfFlow}
use Rattle.fw_progress.specs.Settle.{HasMore, AreGrown}
use Rattle.fw_progress.proofs.SettleLaws.{grown-fronts, settles-more, settles-none}
use Rattle.fw_progress.proofs.progress.Progress.grows.Goals as goal

pub returns-then-not-any_has_more-clause-exact : goal.returns-then-not-any_has_more-clause-exact
returns-then-not-any_has_more-clause-exact c = λ sys state e s es ef.
    let flow = c.args.flow.now in
    let failed = c.args.failed.now in
    let h = events state.history in
    let kept = c.self.inside.kept.items in
    let settled = c.self.inside.settled.items in
    let r = c.any_has_more.result in
    let fresh = c.in_ok-freshen.ensures.fresh in
    let complete = subst (λ f. IsComplete sys h (family_of f kept)) (sym e) (subst (λ (x : Standing). IsComplete sys h (family_of flow x.kept)) (sym c.self.view_is) (fresh.complete sys h e s).1) in
    let is_settled = ap (λ (x : Standing). x.settled) c.self.view_is ∙ fresh.settled ∙ es in
    let one : length failed ≡ length sys.flow.nodes = c.requires.failed ∙ ap (λ (f : Dataflow). length f.nodes) (sym e) in
    let test = subst (λ xs. (r ≡ true) ↔ HasMore failed kept xs) c.deref-2.ensures.value (subst (λ xs. (r ≡ true) ↔ HasMore failed xs c.deref-2.result.now) c.deref.ensures.value c.any_has_more.ensures) in
    settles-none sys state failed kept settled ef is_settled one complete (λ more. both_ways r c.if-not-any_has_more.true (test.1 more))

pub returns-clause-exact : goal.returns-clause-exact
returns-clause-exact c = λ sys state e s es ef.
    let flow = c.args.flow.now in
    let failed = c.args.failed.now in
    let h = events state.history in
    let kept = c.self.inside.kept.items in
    let settled = c.self.inside.settled.items in
    let r = c.any_has_more.result in
    let both = c.in_ok-both.field-0.items in
    let fresh = c.in_ok-freshen.ensures.fresh in
    let complete = subst (λ f. IsComplete sys h (family_of f kept)) (sym e) (subst (λ (x : Standing). IsComplete sys h (family_of flow x.kept)) (sym c.self.view_is) (fresh.complete sys h e s).1) in
    let is_settled = ap (λ (x : Standing). x.settled) c.self.view_is ∙ fresh.settled ∙ es in
    let one : length failed ≡ length sys.flow.nodes = c.requires.failed ∙ ap (λ (f : Dataflow). length f.nodes) (sym e) in
    let test = subst (λ xs. (r ≡ true) ↔ HasMore failed kept xs) c.deref-2.ensures.value (subst (λ xs. (r ≡ true) ↔ HasMore failed xs c.deref-2.result.now) c.deref.ensures.value c.any_has_more.ensures) in
    let o = subst (λ (x : Standing). IsOfFlow flow x) (sym c.self.view_is) (c.freshen.ensures.progress fresh.ready) in
    let grown = subst (λ xs. AreGrown flow (length failed) failed settled xs both) c.deref-4.ensures.value
    (subst (λ xs. AreGrown flow (length failed) failed xs c.deref-4.result.now both) c.deref-3.ensures.value
    (IfOk-at_ok (λ g. AreGrown flow (length failed) failed c.deref-3.result.now c.deref-4.result.now g.items) c.in_ok-both.was c.grown-both.ensures)) in (
      family_of sys.flow kept,
      settles-more sys state failed kept settled both ef is_settled one (subst (λ f. AreCanonical f settled) (sym e) o.settled) (subst (λ f. AreCanonical f kept) (sym e) o.kept) complete
          (test.0 c.if-not-any_has_more.false) (subst (λ f. AreGrown f (length failed) failed settled kept both) (sym e) grown),
    )

pub returns-clause-fronts : goal.returns-clause-fronts
returns-clause-fronts c =
    let flow = c.args.flow.now in
    let failed = c.args.failed.now in
    let kept = c.self.inside.kept.items in
    let settled = c.self.inside.settled.items in
    let both = c.in_ok-both.field-0.items in
    let fresh = c.in_ok-freshen.ensures.fresh in
    let o = subst (λ (x : Standing). IsOfFlow flow x) (sym c.self.view_is) (c.freshen.ensures.progress fresh.ready) in
    let grown = subst (λ xs. AreGrown flow (length failed) failed settled xs both) c.deref-4.ensures.value
    (subst (λ xs. AreGrown flow (length failed) failed xs c.deref-4.result.now both) c.deref-3.ensures.value
    (IfOk-at_ok (λ g. AreGrown flow (length failed) failed c.deref-3.result.now c.deref-4.result.now g.items) c.in_ok-both.was c.grown-both.ensures)) in
    grown-fronts flow failed kept settled both c.requires.failed o.settled o.kept grown
