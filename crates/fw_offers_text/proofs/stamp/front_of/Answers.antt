use Rattle.std.proofs.Common.{Some, None, cond, sym, ◌∙◌, ap}
use Rattle.fw_offers_text.proofs.FrontLaws.{front_or_none}
use Rattle.fw_offers_text.proofs.stamp.front_of.Goals as goal

pub returns-then-same : goal.returns-then-same
returns-then-same c = λ b h.
    ap (λ x. cond x (Some c.of_outside-told.result) None) (sym c.if-same.true)
    ∙ front_or_none b c.args.stamps.items c.of_outside-told.result c.outside.result.now c.in_ok-least.least c.same.result c.of_outside-told.ensures c.outside.ensures h c.in_ok-least.ensures.names c.same.ensures.one.0 c.same.ensures.one.1

pub returns-else-same : goal.returns-else-same
returns-else-same c = λ b h.
    ap (λ x. cond x (Some c.of_outside-told.result) None) (sym c.if-same.false)
    ∙ front_or_none b c.args.stamps.items c.of_outside-told.result c.outside.result.now c.in_ok-least.least c.same.result c.of_outside-told.ensures c.outside.ensures h c.in_ok-least.ensures.names c.same.ensures.one.0 c.same.ensures.one.1
