use Rattle.std.proofs.Common.{length, get_or, ◌∙◌, ap, arith}
use Rattle.fw_flow.proofs.ProjectionLaws.{one-limit}
use Rattle.fw_flow.proofs.projection.limit.Goals as goal

pub returns-in-len1-up : goal.returns-in-len1-up
returns-in-len1-up c =
    let e = c.outside.ensures in
    one-limit c.args.bounds.now c.args.f.now c.first-item.result c.at.result c.requires.line c.requires.front
    (omega (arith, c.in-len1-up.len_at_least, ap length e)) (c.first-item.is ∙ ap (λ u. get_or u 0 c.first-item.result) e) c.at.ensures
