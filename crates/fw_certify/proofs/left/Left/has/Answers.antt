use Rattle.fw_model.specs.Inclusions.{owner}
use Rattle.std.proofs.lemmas.Result.{IfOk-weaker}
use Rattle.fw_certify.proofs.CodeLaws.{node-offers, offered-is}
use Rattle.fw_certify.proofs.LeftLaws.{not_offered-left, not_within-left, passing-left}
use Rattle.fw_certify.proofs.left.Left.has.Goals as goal

pub is_offered-requires : goal.is_offered-requires
is_offered-requires g c =
    let flow = c.args.self.now.flow.now in
    let offers = c.args.self.now.offers.now in
    let side = c.args.self.now.side in
    let from = c.args.self.now.from.now in
    let bound = c.args.self.now.bound.now in
    node-offers flow offers side from bound c.node.result c.node.ensures c.flow_is_well_formed.ensures c.requires.left

pub returns-then-not-is_offered-clause-left : goal.returns-then-not-is_offered-clause-left
returns-then-not-is_offered-clause-left g c =
    let flow = c.args.self.now.flow.now in
    let offers = c.args.self.now.offers.now in
    let side = c.args.self.now.side in
    let from = c.args.self.now.from.now in
    let bound = c.args.self.now.bound.now in
    not_offered-left flow offers side from bound c.args.cut.now c.node.result c.is_offered.result c.node.ensures c.if-not-is_offered.true
    (offered-is flow offers side from bound c.args.cut.now c.node.result c.is_offered.result c.node.ensures c.flow_is_well_formed.ensures c.requires.left c.requires.cut c.is_offered.ensures)

pub returns-then-not-lies_within-clause-left : goal.returns-then-not-lies_within-clause-left
returns-then-not-lies_within-clause-left g c =
    let flow = c.args.self.now.flow.now in
    let offers = c.args.self.now.offers.now in
    let side = c.args.self.now.side in
    let from = c.args.self.now.from.now in
    let bound = c.args.self.now.bound.now in
    not_within-left flow offers side from bound c.args.cut.now c.lies_within.result c.if-not-lies_within.true (c.lies_within.ensures flow (owner flow side) c.requires.left.canonical)

pub returns-clause-left : goal.returns-clause-left
returns-clause-left g c =
    let flow = c.args.self.now.flow.now in
    let offers = c.args.self.now.offers.now in
    let side = c.args.self.now.side in
    let from = c.args.self.now.from.now in
    let bound = c.args.self.now.bound.now in
    IfOk-weaker c.passes.result _ _
    (λ b h. passing-left flow offers side from bound c.args.cut.now c.node.result c.is_offered.result c.lies_within.result b c.node.ensures c.if-not-is_offered.false
    (offered-is flow offers side from bound c.args.cut.now c.node.result c.is_offered.result c.node.ensures c.flow_is_well_formed.ensures c.requires.left c.requires.cut c.is_offered.ensures)
    c.if-not-lies_within.false (c.lies_within.ensures flow (owner flow side) c.requires.left.canonical) h)
    c.passes.ensures
