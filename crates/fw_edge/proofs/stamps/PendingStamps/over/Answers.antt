use Rattle.std.proofs.Common.{List, ◌++◌, length, map, nat_lt, ap, ◌∙◌}
use Rattle.std.specs.Bool.{then_some}
use Rattle.fw_time.specs.Stamp.{Stamp}
use Rattle.fw_flow.specs.declared.event.Message.{Message}
use Rattle.fw_edge.specs.Stamps.{counted_first}
use Rattle.fw_edge.proofs.HeadLaws.{counted-apart}
use Rattle.fw_edge.proofs.stamps.PendingStamps.over.Goals as goal

pub returns : goal.returns
returns c =
    let n = c.len-len.result in
    ap (λ r. counted_first r ++ map (λ (pile : Stamp × List Message). (pile.0, length pile.1)) c.iter.result) c.then_some.ensures
    ∙ ap (λ es. counted_first (then_some (nat_lt 0 n) (c.args.at, n)) ++ map (λ (pile : Stamp × List Message). (pile.0, length pile.1)) es) c.iter.ensures.rest
    ∙ counted-apart c.args.at c.args.head.now c.args.piles.now.entries n c.requires c.len-len.ensures.len
