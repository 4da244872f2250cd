use Rattle.std.proofs.Common.{arith}
use Rattle.fw_progress.proofs.LeapLaws.{one_can_leap, cannot_leap}
use Rattle.fw_progress.proofs.leap.can_leap.Goals as goal

pub loop-place-preserved : goal.loop-place-preserved
loop-place-preserved c =
    one_can_leap c.args.flow.now c.args.counts.now c.args.fronts.now c.args.next.now c.loop-place.place c.at-node.result c.at-node.ensures c.loop-place.invariant
    (c.in_ok-can_leap_at.ensures.0 c.if-not-branch.false)

pub returns-then-not-branch : goal.returns-then-not-branch
returns-then-not-branch c =
    cannot_leap c.args.flow.now c.args.counts.now c.args.fronts.now c.args.next.now c.at-node.result c.in_ok-can_leap_at.field-0 (omega (arith, c.at-node.ensures)) c.in_ok-can_leap_at.ensures c.if-not-branch.true
