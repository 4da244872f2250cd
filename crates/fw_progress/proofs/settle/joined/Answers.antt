use Rattle.std.proofs.Common.{sym, subst}
use Rattle.std.specs.Prelude.{IfOk}
use Rattle.fw_flow.specs.Dataflow.{bounds_of}
use Rattle.fw_frontier.specs.Front.{frontier_of, IsFrontOf}
use Rattle.fw_frontier.specs.Frontier.{join}
use Rattle.fw_progress.specs.Settle.{IsJoined}
use Rattle.fw_progress.proofs.SettleLaws.{in_domain_of}
use Rattle.fw_progress.proofs.settle.joined.Goals as goal

pub returns-else-subset : goal.returns-else-subset
returns-else-subset c =
    let f = c.args.settled.now in
    let g = c.args.kept.now in
    let b = bounds_of c.args.flow.now c.args.node in
    subst (λ flag. IfOk c.join.result (λ both. IsJoined b flag f g both)) (sym c.if-failed.false)
    (in_domain_of (λ both. IsFrontOf b both (join (frontier_of b f) (frontier_of b g))) c.join.result (rw c.domain.ensures at c.join.ensures))
