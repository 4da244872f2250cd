use Rattle.std.proofs.Common.{[], arith}
use Rattle.fw_collect.specs.declared.drops.AtNode.{AtNode}
use Rattle.fw_collect.proofs.applying.is_repeated.Goals as goal

pub returns-then-place-eq0 : goal.returns-then-place-eq0
returns-then-place-eq0 c =
    let any : AtNode = record { node = 0; at = [] } in
    (λ e. absurd (cc), λ all. absurd (let l = (all any).0 in omega arith))
