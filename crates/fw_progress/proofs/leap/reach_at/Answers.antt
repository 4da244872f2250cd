use Rattle.std.proofs.Common.{refl, subst, arith}
use Rattle.std.proofs.lemmas.Result.{IfOk-weaker}
use Rattle.fw_progress.specs.Growths.{IsMore}
use Rattle.fw_progress.proofs.LeapLaws.{one_more}
use Rattle.fw_progress.proofs.leap.reach_at.Goals as goal

pub returns : goal.returns
returns c =
    let flow = c.args.flow.now in
    let p = c.args.node in
    let at = c.place.ensures in
    let there = c.requires.there in
    let more = subst (λ xs. IsMore flow xs p c.index-next-place.result) c.deref.ensures.value (c.if-not-is_more.ensures.more refl) in
    let all = one_more flow c.args.counts.now p c.place.result c.in_ok-copy.field-0 c.index-next-place.result c.args.fronts.now.items c.args.next.now c.grow.new.fronts.items c.args.work.now c.grow.new.work
    c.args.growths.now.items c.grow.new.growths.items c.flow_is_well_formed.ensures (omega (arith, there, c.requires.one_each)) c.requires.next_canonical at (omega (arith, there, c.requires.next_each, at))
    c.index-next-place.is c.in_ok-copy.ensures more in
    record {
      grown = IfOk-weaker c.grow.result _ _ (λ u g. (all g).0) c.grow.ensures;
      alone = IfOk-weaker c.grow.result _ _ (λ u g. (all g).1) c.grow.ensures;
      reached = IfOk-weaker c.grow.result _ _ (λ u g. (all g).2) c.grow.ensures;
    }
