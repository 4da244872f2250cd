use Rattle.std.proofs.Common.{[], ◌∷◌, refl, ap, ◌∙◌}
use Rattle.fw_flow.specs.Dataflow.{bounds_of}
use Rattle.fw_model.specs.Inclusions.{owner}
use Rattle.fw_certify.proofs.LeftLaws.{greatest-broken, old-broken, passing-broken}
use Rattle.fw_certify.proofs.CodeLaws.{cover-named}
use Rattle.fw_certify.proofs.left.Left.breaks_alone.Goals as goal

pub passes_at-requires-clause-front : goal.passes_at-requires-clause-front
passes_at-requires-clause-front g c =
    let flow = c.args.self.now.flow.now in
    let offers = c.args.self.now.offers.now in
    let side = c.args.self.now.side in
    let from = c.args.self.now.from.now in
    let bound = c.args.self.now.bound.now in
    (cover-named (bounds_of flow (owner flow side)) c.domain.result (c.copy.result ∷ []) c.args.stamp.now c.in_ok-up_to.up_to (c.domain.ensures ∙ ap (bounds_of flow) c.node.ensures) (ap (λ o. o ∷ []) c.copy.ensures) c.requires.stamp c.in_ok-up_to.ensures).canonical

pub returns-then-not-has_inside-clause-broken : goal.returns-then-not-has_inside-clause-broken
returns-then-not-has_inside-clause-broken g c =
    let flow = c.args.self.now.flow.now in
    let offers = c.args.self.now.offers.now in
    let side = c.args.self.now.side in
    let from = c.args.self.now.from.now in
    let bound = c.args.self.now.bound.now in
    old-broken flow offers side from c.args.greatest.now bound c.args.stamp.now c.has_inside.result c.if-not-has_inside.true c.has_inside.ensures

pub returns-then-not-contains-clause-broken : goal.returns-then-not-contains-clause-broken
returns-then-not-contains-clause-broken g c =
    let flow = c.args.self.now.flow.now in
    let offers = c.args.self.now.offers.now in
    let side = c.args.self.now.side in
    let from = c.args.self.now.from.now in
    let bound = c.args.self.now.bound.now in
    greatest-broken flow offers side from c.args.greatest.now bound c.args.stamp.now c.contains.result c.if-not-contains.true c.contains.ensures

pub returns-clause-broken : goal.returns-clause-broken
returns-clause-broken g c =
    let flow = c.args.self.now.flow.now in
    let offers = c.args.self.now.offers.now in
    let side = c.args.self.now.side in
    let from = c.args.self.now.from.now in
    let bound = c.args.self.now.bound.now in
    let named = cover-named (bounds_of flow (owner flow side)) c.domain.result (c.copy.result ∷ []) c.args.stamp.now c.in_ok-up_to.up_to (c.domain.ensures ∙ ap (bounds_of flow) c.node.ensures) (ap (λ o. o ∷ []) c.copy.ensures) c.requires.stamp c.in_ok-up_to.ensures in
    passing-broken flow offers side from c.args.greatest.now bound c.in_ok-up_to.up_to c.args.stamp.now c.has_inside.result c.contains.result c.in_ok-passes.passes _ c.if-not-has_inside.false c.has_inside.ensures
    c.if-not-contains.false c.contains.ensures named c.in_ok-passes.ensures refl
