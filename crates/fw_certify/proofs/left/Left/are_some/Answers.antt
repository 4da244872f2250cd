use Rattle.std.proofs.Common.{[], ap, refl}
use Rattle.fw_flow.specs.Dataflow.{bounds_of}
use Rattle.fw_model.specs.Inclusions.{owner}
use Rattle.std.proofs.lemmas.Result.{IfOk-weaker}
use Rattle.std.specs.List.{AllByRecursion}
use Rattle.fw_flow.specs.declared.choice.Cut.TheVariants.{At, Present}
use Rattle.fw_flow.specs.declared.choice.Offered.TheVariants as form
use Rattle.fw_offers.specs.Sides.{IsLeft}
use Rattle.fw_certify.specs.Checked.{AreCanonicalFronts, IsAnyLeft}
use Rattle.fw_certify.proofs.LeftLaws.{none-between, none-batches, none-listed}
use Rattle.fw_certify.proofs.CodeLaws.{last-left, listed-fronts, node-offers, none-is, offered-here, range-ends, records-left, some-left}
use Rattle.fw_certify.proofs.left.Left.are_some.Goals as goal

pub offered_by-requires : goal.offered_by-requires
offered_by-requires g c =
    let flow = c.args.self.now.flow.now in
    let offers = c.args.self.now.offers.now in
    let side = c.args.self.now.side in
    let from = c.args.self.now.from.now in
    let bound = c.args.self.now.bound.now in
    node-offers flow offers side from bound c.node.result c.node.ensures c.flow_is_well_formed.ensures c.requires.left

pub returns-then-branch : goal.returns-then-branch
returns-then-branch g c =
    let flow = c.args.self.now.flow.now in
    let offers = c.args.self.now.offers.now in
    let side = c.args.self.now.side in
    let from = c.args.self.now.from.now in
    let bound = c.args.self.now.bound.now in
    some-left flow offers side from bound Present c.in_ok-has.field-0 c.if-branch.true c.in_ok-has.ensures.left

pub has_record-requires-clause-records : goal.has_record-requires-clause-records
has_record-requires-clause-records g c =
    let flow = c.args.self.now.flow.now in
    let offers = c.args.self.now.offers.now in
    let side = c.args.self.now.side in
    let from = c.args.self.now.from.now in
    let bound = c.args.self.now.bound.now in
    listed-fronts flow offers side from bound c.node.result c.offered_by.result.now c.in-Listed.records c.as_slice.result.now c.node.ensures c.flow_is_well_formed.ensures c.requires.left
    c.offered_by.ensures c.in-Listed.is c.as_slice.ensures

pub returns-in-Listed : goal.returns-in-Listed
returns-in-Listed g c =
    let flow = c.args.self.now.flow.now in
    let offers = c.args.self.now.offers.now in
    let side = c.args.self.now.side in
    let from = c.args.self.now.from.now in
    let bound = c.args.self.now.bound.now in
    let is = offered-here flow offers side c.node.result c.offered_by.result.now (form.Listed c.in-Listed.records) c.node.ensures c.offered_by.ensures c.in-Listed.is in
    IfOk-weaker c.has_record.result _ _
    (λ b. records-left (IsAnyLeft flow offers side from bound) (AllByRecursion (λ r. IsLeft flow offers side from bound (At r.front) → ⊥)) c.in-Listed.records c.as_slice.result.now b c.as_slice.ensures
    (none-listed flow offers side from bound c.in-Listed.records is (none-is flow offers side from bound Present Present c.in_ok-has.field-0 refl c.if-branch.false c.in_ok-has.ensures.left)))
    c.has_record.ensures

pub returns-in-Between : goal.returns-in-Between
returns-in-Between g c =
    let flow = c.args.self.now.flow.now in
    let offers = c.args.self.now.offers.now in
    let side = c.args.self.now.side in
    let from = c.args.self.now.from.now in
    let bound = c.args.self.now.bound.now in
    let is = offered-here flow offers side c.node.result c.offered_by.result.now (form.Between c.in-Between.least c.in-Between.greatest) c.node.ensures c.offered_by.ensures c.in-Between.is in
    let ends : AreCanonicalFronts (bounds_of flow (owner flow side)) (form.Between c.in-Between.least c.in-Between.greatest) =
    range-ends flow offers side from bound (form.Between c.in-Between.least c.in-Between.greatest) c.flow_is_well_formed.ensures c.requires.left is in
    IfOk-weaker c.has-in-Between.result _ _
    (λ b. last-left flow offers side from bound (At c.in_ok-copy-in-Between.field-0) (At c.in-Between.least) b (ap At c.in_ok-copy-in-Between.ensures)
    (none-between flow offers side from c.in-Between.least c.in-Between.greatest bound c.requires.left.offers_fit c.flow_is_well_formed.ensures c.requires.left.there is ends.0
    (none-is flow offers side from bound Present Present c.in_ok-has.field-0 refl c.if-branch.false c.in_ok-has.ensures.left)))
    c.has-in-Between.ensures.left

pub returns : goal.returns
returns g c =
    let flow = c.args.self.now.flow.now in
    let offers = c.args.self.now.offers.now in
    let side = c.args.self.now.side in
    let from = c.args.self.now.from.now in
    let bound = c.args.self.now.bound.now in
    let is = offered-here flow offers side c.node.result c.offered_by.result.now (form.Batches c.in-Batches.least c.in-Batches.greatest c.in-Batches.exhausted) c.node.ensures c.offered_by.ensures c.in-Batches.is in
    let ends : AreCanonicalFronts (bounds_of flow (owner flow side)) (form.Batches c.in-Batches.least c.in-Batches.greatest c.in-Batches.exhausted) =
    range-ends flow offers side from bound (form.Batches c.in-Batches.least c.in-Batches.greatest c.in-Batches.exhausted) c.flow_is_well_formed.ensures c.requires.left is in
    IfOk-weaker c.has-in-Batches-2.result _ _
    (λ b. last-left flow offers side from bound (At c.all.result) (At []) b (ap At c.all.ensures)
    (none-batches flow offers side from c.in-Batches.least c.in-Batches.greatest bound c.in-Batches.exhausted c.requires.left.offers_fit c.flow_is_well_formed.ensures c.requires.left.there is ends.0
    (none-is flow offers side from bound Present Present c.in_ok-has.field-0 refl c.if-branch.false c.in_ok-has.ensures.left)
    (none-is flow offers side from bound (At c.in_ok-copy-in-Batches.field-0) (At c.in-Batches.least) c.in_ok-has-in-Batches.field-0 (ap At c.in_ok-copy-in-Batches.ensures) c.if-branch-2.false c.in_ok-has-in-Batches.ensures.left)))
    c.has-in-Batches-2.ensures.left
