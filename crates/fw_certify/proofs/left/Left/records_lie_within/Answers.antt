use Rattle.std.proofs.Common.{arith}
use Rattle.std.proofs.lemmas.Bool.{both_ways}
use Rattle.fw_lemmas.proofs.Each.{each-taken}
use Rattle.fw_certify.specs.Checked.{IsHeld}
use Rattle.fw_certify.proofs.CodeLaws.{each-here}
use Rattle.fw_certify.proofs.left.Left.records_lie_within.Goals as goal

pub returns-then-not-branch-clause-each : goal.returns-then-not-branch-clause-each
returns-then-not-branch-clause-each g c =
    let flow = c.args.self.now.flow.now in
    let offers = c.args.self.now.offers.now in
    let side = c.args.self.now.side in
    let from = c.args.self.now.from.now in
    let bound = c.args.self.now.bound.now in (
      (λ h. absurd (cc)),
      (λ all. absurd (both_ways c.in_ok-holds.field-0 c.if-not-branch.true (c.in_ok-holds.ensures.held.1
          (each-here (λ r. IsHeld flow offers side from bound c.args.front.now r.front) c.args.records.now c.loop-record.record-index c.record-item.result c.loop-record-test.true c.record-item.is all)))),
    )

pub loop-record-preserved : goal.loop-record-preserved
loop-record-preserved g c =
    let flow = c.args.self.now.flow.now in
    let offers = c.args.self.now.offers.now in
    let side = c.args.self.now.side in
    let from = c.args.self.now.from.now in
    let bound = c.args.self.now.bound.now in
    let before = c.loop-record.invariant.spent in
    let now = c.in_ok-holds.ensures.bound in
    record {
      held = each-taken (λ r. IsHeld flow offers side from bound c.args.front.now r.front) c.args.records.now c.loop-record.record-index c.record-item.result c.loop-record-test.true c.record-item.is
          c.loop-record.invariant.held (c.in_ok-holds.ensures.held.0 c.if-not-branch.false);
      spent = omega arith;
    }
