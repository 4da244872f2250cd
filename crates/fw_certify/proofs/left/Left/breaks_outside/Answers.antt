use Rattle.std.proofs.Common.{◌≡◌, ◌<◌, true, length, get_or, subst, arith}
use Rattle.std.proofs.lemmas.Bool.{both_ways}
use Rattle.fw_lemmas.proofs.Each.{each-taken}
use Rattle.fw_time.specs.Stamp.{in_domain}
use Rattle.fw_frontier.proofs.CanonicalLaws.{in_domain-canonical}
use Rattle.fw_flow.specs.Dataflow.{bounds_of}
use Rattle.fw_model.specs.Inclusions.{owner}
use Rattle.fw_certify.specs.Checked.{IsBroken}
use Rattle.fw_certify.proofs.CodeLaws.{each-here}
use Rattle.fw_certify.proofs.left.Left.breaks_outside.Goals as goal

pub breaks_alone-requires-clause-stamp : goal.breaks_alone-requires-clause-stamp
breaks_alone-requires-clause-stamp g c =
    let flow = c.args.self.now.flow.now in
    let offers = c.args.self.now.offers.now in
    let side = c.args.self.now.side in
    let from = c.args.self.now.from.now in
    let bound = c.args.self.now.bound.now in
    let out = c.outside-stamp-items.ensures in
    let there : c.loop-stamp.stamp-index < length c.args.front.now = subst (λ os. c.loop-stamp.stamp-index < length os) out c.loop-stamp-test.true in
    let is : c.stamp-item.result ≡ get_or c.args.front.now c.loop-stamp.stamp-index c.stamp-item.result = subst (λ os. c.stamp-item.result ≡ get_or os c.loop-stamp.stamp-index c.stamp-item.result) out c.stamp-item.is in
    each-here (λ o. in_domain (bounds_of flow (owner flow side)) o ≡ true) c.args.front.now c.loop-stamp.stamp-index c.stamp-item.result there is (in_domain-canonical (bounds_of flow (owner flow side)) c.args.front.now c.requires.front)

pub returns-then-not-branch-clause-each : goal.returns-then-not-branch-clause-each
returns-then-not-branch-clause-each g c =
    let flow = c.args.self.now.flow.now in
    let offers = c.args.self.now.offers.now in
    let side = c.args.self.now.side in
    let from = c.args.self.now.from.now in
    let bound = c.args.self.now.bound.now in
    let out = c.outside-stamp-items.ensures in
    let there : c.loop-stamp.stamp-index < length c.args.front.now = subst (λ os. c.loop-stamp.stamp-index < length os) out c.loop-stamp-test.true in
    let is : c.stamp-item.result ≡ get_or c.args.front.now c.loop-stamp.stamp-index c.stamp-item.result = subst (λ os. c.stamp-item.result ≡ get_or os c.loop-stamp.stamp-index c.stamp-item.result) out c.stamp-item.is in (
      (λ h. absurd (cc)),
      (λ all. absurd (both_ways c.in_ok-breaks_alone.field-0 c.if-not-branch.true (c.in_ok-breaks_alone.ensures.broken.1
          (each-here (λ o. IsBroken flow offers side from c.args.greatest.now bound o) c.args.front.now c.loop-stamp.stamp-index c.stamp-item.result there is all)))),
    )

pub loop-stamp-preserved : goal.loop-stamp-preserved
loop-stamp-preserved g c =
    let flow = c.args.self.now.flow.now in
    let offers = c.args.self.now.offers.now in
    let side = c.args.self.now.side in
    let from = c.args.self.now.from.now in
    let bound = c.args.self.now.bound.now in
    let out = c.outside-stamp-items.ensures in
    let there : c.loop-stamp.stamp-index < length c.args.front.now = subst (λ os. c.loop-stamp.stamp-index < length os) out c.loop-stamp-test.true in
    let is : c.stamp-item.result ≡ get_or c.args.front.now c.loop-stamp.stamp-index c.stamp-item.result = subst (λ os. c.stamp-item.result ≡ get_or os c.loop-stamp.stamp-index c.stamp-item.result) out c.stamp-item.is in
    let before = c.loop-stamp.invariant.spent in
    let now = c.in_ok-breaks_alone.ensures.bound in
    record {
      broken = each-taken (λ o. IsBroken flow offers side from c.args.greatest.now bound o) c.args.front.now c.loop-stamp.stamp-index c.stamp-item.result there is c.loop-stamp.invariant.broken
          (c.in_ok-breaks_alone.ensures.broken.0 c.if-not-branch.false);
      spent = omega arith;
    }
