use Rattle.std.proofs.Common.{arith}
use Rattle.fw_progress.proofs.ProposedLaws.{none_lowered, more_lowered, is_pass, is_last_pass}
use Rattle.fw_progress.proofs.leap.lower.Goals as goal

pub loop-place-init : goal.loop-place-init
loop-place-init c = record {
  one_each = c.requires.one_each;
  canonical = c.requires.canonical;
  there = omega (arith);
  lowered = none_lowered c.args.flow.now c.args.counts.now c.args.marks.now c.args.next.now.items;
}

pub loop-place-preserved : goal.loop-place-preserved
loop-place-preserved c =
    record {
      one_each = c.in_ok-lowered.ensures.one_each;
      canonical = c.in_ok-lowered.ensures.canonical;
      there = omega (arith, c.loop-place-test.true, c.nodes-place-end.ensures.count);
      lowered = more_lowered c.args.flow.now c.args.counts.now c.args.marks.now c.loop-place.place c.at-node.result c.args.next.now.items c.loop-place.next.items c.lower_at.new.next.items
          c.loop-place.lowered c.in_ok-lowered.field-0 c.at-node.ensures (omega (arith, c.loop-place-test.true, c.nodes-place-end.ensures.count)) c.loop-place.invariant.lowered
          c.in_ok-lowered.ensures.lowered c.in_ok-lowered.ensures.low;
    }

pub returns-clause-pass : goal.returns-clause-pass
returns-clause-pass c =
    is_pass c.args.flow.now c.args.counts.now c.args.marks.now c.loop-place.place c.loop-place.lowered c.args.next.now.items c.loop-place.next.items
    (omega (arith, c.loop-place-test.false, c.nodes-place-end.ensures.count, c.loop-place.invariant.there)) c.loop-place.invariant.lowered

pub returns-clause-last : goal.returns-clause-last
returns-clause-last c =
    is_last_pass c.args.flow.now c.args.counts.now c.args.marks.now c.loop-place.place c.loop-place.lowered c.args.next.now.items c.loop-place.next.items
    (omega (arith, c.loop-place-test.false, c.nodes-place-end.ensures.count, c.loop-place.invariant.there)) c.loop-place.invariant.lowered
