use Rattle.std.proofs.Common.{◌≡◌, [], ◌∷◌, length, ap, ◌∙◌, arith}
use Rattle.fw_frontier.proofs.FewLaws.{until_one}
use Rattle.fw_frontier.proofs.few.Few.until.Goals as goal

pub returns-in-len1 : goal.returns-in-len1
returns-in-len1 c =
    let long : length c.args.stamps.now ≡ 1 = omega (arith, c.in-len1.len_at_least, c.in-len1.len_below) in
    ap (λ s. s ∷ []) c.copy.ensures ∙ until_one c.args.stamps.now c.only-item.result long c.only-item.is
