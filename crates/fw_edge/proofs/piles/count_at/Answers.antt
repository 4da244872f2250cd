use Rattle.std.proofs.Common.{List, [], length, unwrap_or, Option, sym, ap, ◌∙◌}
use Rattle.fw_flow.specs.declared.event.Message.{Message}
use Rattle.fw_edge.proofs.PiledLaws.{how_many-piled}
use Rattle.fw_edge.proofs.piles.count_at.Goals as goal

pub returns-in-Some : goal.returns-in-Some
returns-in-Some c =
    c.len.ensures.len ∙ ap (λ (o : Option (List Message)). length (unwrap_or o [])) c.in-Some.ensures.value
    ∙ sym (how_many-piled c.args.at.now c.args.piles.now.entries c.requires)

pub returns-in-None : goal.returns-in-None
returns-in-None c =
    ap (λ (o : Option (List Message)). length (unwrap_or o [])) c.in-None.ensures.value
    ∙ sym (how_many-piled c.args.at.now c.args.piles.now.entries c.requires)
