use Rattle.std.proofs.Common.{refl}
use Rattle.fw_model.specs.Inclusions.{owner}
use Rattle.fw_flow.specs.Dataflow.{bounds_of}
use Rattle.fw_certify.proofs.LeftLaws.{outside-held, passing-held, within-held}
use Rattle.fw_certify.proofs.left.Left.holds.Goals as goal

pub returns-then-not-is_inside-clause-held : goal.returns-then-not-is_inside-clause-held
returns-then-not-is_inside-clause-held g c =
    let flow = c.args.self.now.flow.now in
    let offers = c.args.self.now.offers.now in
    let side = c.args.self.now.side in
    let from = c.args.self.now.from.now in
    let bound = c.args.self.now.bound.now in
    outside-held flow offers side from bound c.args.front.now c.args.other.now c.is_inside.result c.if-not-is_inside.true (c.is_inside.ensures flow (owner flow side) c.requires.left.canonical)

pub returns-then-subset-clause-held : goal.returns-then-subset-clause-held
returns-then-subset-clause-held g c =
    let flow = c.args.self.now.flow.now in
    let offers = c.args.self.now.offers.now in
    let side = c.args.self.now.side in
    let from = c.args.self.now.from.now in
    let bound = c.args.self.now.bound.now in
    within-held flow offers side from bound c.args.front.now c.args.other.now c.subset.result c.if-subset.true (c.subset.ensures.domain (bounds_of flow (owner flow side)) c.requires.front)

pub returns-clause-held : goal.returns-clause-held
returns-clause-held g c =
    let flow = c.args.self.now.flow.now in
    let offers = c.args.self.now.offers.now in
    let side = c.args.self.now.side in
    let from = c.args.self.now.from.now in
    let bound = c.args.self.now.bound.now in
    passing-held flow offers side from bound c.args.front.now c.args.other.now c.is_inside.result c.subset.result c.in_ok-passes.passes _ c.if-not-is_inside.false
    (c.is_inside.ensures flow (owner flow side) c.requires.left.canonical) c.if-subset.false (c.subset.ensures.domain (bounds_of flow (owner flow side)) c.requires.front) c.in_ok-passes.ensures refl
