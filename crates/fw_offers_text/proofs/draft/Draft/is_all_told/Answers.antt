use Rattle.std.proofs.Common.{length, arith, sym, ◌∙◌, ap}
use Rattle.fw_offers_text.specs.Draft.{is_node_whole}
use Rattle.fw_offers_text.proofs.PlaceLaws.{one_place, all_places, one_more}
use Rattle.fw_offers_text.proofs.draft.Draft.is_all_told.Goals as goal

pub returns-then-not-is_node_told : goal.returns-then-not-is_node_told
returns-then-not-is_node_told c =
    one_place (is_node_whole c.args.flow.now c.args.self.now) (length c.args.flow.now.nodes) c.loop-place.place (omega arith)
    (ap (is_node_whole c.args.flow.now c.args.self.now) (sym c.at.ensures) ∙ sym c.is_node_told.ensures ∙ c.if-not-is_node_told.true)

pub loop-place-preserved : goal.loop-place-preserved
loop-place-preserved c =
    one_more (is_node_whole c.args.flow.now c.args.self.now) c.loop-place.place c.loop-place.invariant
    (ap (is_node_whole c.args.flow.now c.args.self.now) (sym c.at.ensures) ∙ sym c.is_node_told.ensures ∙ c.if-not-is_node_told.false)

pub returns : goal.returns
returns c = all_places (is_node_whole c.args.flow.now c.args.self.now) (length c.args.flow.now.nodes) (λ k below. c.loop-place.invariant k (omega (arith, below)))
