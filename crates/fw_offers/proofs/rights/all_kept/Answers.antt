use Rattle.std.proofs.Common.{◌+◌, ◌<◌, ◌∷◌, [], length, refl, ap, ◌∙◌, arith}
use Rattle.std.proofs.lemmas.List.{length-append}
use Rattle.fw_frontier.specs.Front.{IsFrontOf}
use Rattle.fw_flow.specs.Dataflow.{bounds_of}
use Rattle.fw_model.specs.Covers.{set_of}
use Rattle.fw_model.specs.Choice.{cut_of}
use Rattle.fw_model.specs.Lowerings.{choice_of}
use Rattle.fw_offers.proofs.RightLaws.{each_more, kept_here, canonical_here}
use Rattle.fw_offers.proofs.rights.all_kept.Goals as goal

pub loop-cut-preserved : goal.loop-cut-preserved
loop-cut-preserved c =
    let flow = c.args.flow.now in
    let cuts = c.args.cuts.now in
    let old = c.loop-cut.invariant in
    let notices = c.loop-cut.notices.items in
    let front = c.in_ok-front.front in
    let i = c.loop-cut.cut-index in
    let one = c.requires.one_each in
    let there : i < length cuts = c.loop-cut-test.true in
    let inside : i < length flow.nodes = omega arith in
    let canonical = canonical_here flow cuts i c.cut-item.result there c.cut-item.is (c.requires.canonical i inside) in
    record {
      one_each = ap length c.in_ok-push.ensures.items ∙ length-append notices (front ∷ []) ∙ ap (λ n. n + 1) old.one_each;
      kept = each_more (λ p f. IsFrontOf (bounds_of flow p) f (set_of flow p (cut_of (choice_of cuts []) p))) notices c.push.new.self.items front i i []
          c.in_ok-push.ensures.items old.one_each refl old.kept (kept_here flow cuts i c.cut-item.result front there c.cut-item.is (c.in_ok-front.ensures flow i canonical));
    }
