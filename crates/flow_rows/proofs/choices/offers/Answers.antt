use Rattle.std.proofs.Common.{◌+◌, ◌∷◌, [], length, ap, ◌∙◌, arith}
use Rattle.std.proofs.lemmas.List.{length-append}
use Rattle.flow_rows.proofs.Written.{offers_are, offers_more}
use Rattle.flow_rows.proofs.choices.offers.Goals as goal

pub loop-place-preserved : goal.loop-place-preserved
loop-place-preserved c =
    let old = c.loop-place.invariant in
    let offers = c.loop-place.offers.items in
    let offer = c.in_ok-offer.offer in
    record {
      one_each = ap length c.in_ok-push.ensures.items ∙ length-append offers (offer ∷ []) ∙ ap (λ n. n + 1) old.one_each;
      each = offers_more c.args.flow.now c.loop-place.place c.at-node.result offers c.push.new.self.items offer c.in_ok-push.ensures.items old.one_each
          c.at-node.ensures old.each c.in_ok-offer.ensures;
    }

pub returns : goal.returns
returns c =
    offers_are c.args.flow.now c.loop-place.offers.items
    (omega (arith, c.loop-place.invariant.one_each, c.loop-place.auto.place-end, c.loop-place-test.false, c.nodes-place-end.ensures.count)) c.loop-place.invariant.each
