use Rattle.std.proofs.Common.{arith}
use Rattle.fw_progress.proofs.ProposedLaws.{left_none, left_more, left_all, are_proposed}
use Rattle.fw_progress.proofs.leap.lowered.Goals as goal

pub loop-init : goal.loop-init
loop-init c = record {
  one_each = c.in_ok-next.ensures.one_each;
  canonical = c.in_ok-next.ensures.canonical;
  left = left_none c.args.flow.now c.args.counts.now c.args.marks.now c.args.fronts.now c.in_ok-next.next.items c.in_ok-next.ensures.raised;
}

pub loop-preserved : goal.loop-preserved
loop-preserved c = record {
  one_each = c.in_ok-lower.ensures.one_each;
  canonical = c.in_ok-lower.ensures.canonical;
  left = left_more c.args.flow.now c.args.counts.now c.args.marks.now c.loop.counter c.args.fronts.now c.loop.next.items c.lower.new.next.items c.loop.invariant.left
      (c.in_ok-lower.ensures.pass c.if-not-branch.false);
}

pub returns-then-not-branch-clause-proposed : goal.returns-then-not-branch-clause-proposed
returns-then-not-branch-clause-proposed c =
    are_proposed c.args.flow.now c.args.counts.now c.args.marks.now c.loop.counter c.args.fronts.now c.loop.next.items c.lower.new.next.items
    (omega (arith, c.loop-test.true, c.nodes-end.ensures.count)) c.loop.invariant.left (c.in_ok-lower.ensures.last c.if-not-branch.true)

pub returns-clause-none : goal.returns-clause-none
returns-clause-none c =
    left_all c.args.flow.now c.args.counts.now c.args.marks.now c.loop.counter c.args.fronts.now c.loop.next.items
    (omega (arith, c.loop-test.false, c.loop.auto.counter-end, c.nodes-end.ensures.count)) c.loop.invariant.left
