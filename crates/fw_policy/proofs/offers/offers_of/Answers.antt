use Rattle.std.proofs.Common.{length, take, sym, ◌∙◌, subst, arith, rules}
use Rattle.std.proofs.lemmas.List.{take_all, length_push}
use Rattle.std.proofs.lemmas.Iterator.Consumers.{YieldsList-turn, YieldsList-end}
use Rattle.std.proofs.lemmas.Iterator.Adapters.{YieldsList-from_vec}
use Rattle.std.specs.Prelude.{List}
use Rattle.fw_flow.specs.Dataflow.{Dataflow}
use Rattle.fw_policy.specs.declared.view.NodeView.{NodeView}
use Rattle.fw_policy.specs.Known.{AreNodesKnown}
use Rattle.fw_policy.specs.Offering.{AreOffersBy}
use Rattle.fw_policy.proofs.AboveLaws.{offers-above}
use Rattle.fw_policy.proofs.KnownLaws.{are-known, offer_more}
use Rattle.fw_policy.proofs.OfferLaws.{offers-in}
use Rattle.fw_policy.proofs.ShapedLaws.{shaped-known, shaped-offers}
use Rattle.fw_policy.proofs.offers.offers_of.Goals as goal

pub loop-known-preserved : goal.loop-known-preserved
loop-known-preserved c =
    let views = c.args.views.items in
    let turn = YieldsList-turn (YieldsList-from_vec {s = c.into_iter-known-iterator.result} views (search rules) (search rules))
    c.loop-known.yielded c.loop-known.known-iterator c.loop-known.yielded_by c.next.result c.next.new.self c.in-Some.known c.in-Some.is c.next.ensures.steps in
    let place = c.at-node.ensures ∙ c.len-in-loop-known.ensures ∙ c.loop-known.invariant.0 in
    let more = length_push c.loop-known.yielded c.in-Some.known in (
      omega (arith, more, c.in_ok-push.ensures.len, c.loop-known.invariant.0),
      omega (arith, more, turn.0),
      λ k. subst (λ n. AreOffersBy c.args.flow.now c.args.entries.now 0 (take n views) c.push.new.self.items) (sym more)
          (offer_more c.args.flow.now c.args.entries.now views c.loop-known.offers.items c.push.new.self.items (length c.loop-known.yielded) c.at-node.result c.in-Some.known c.in_ok-offer.field-0 k
          turn.0 turn.1 place (c.loop-known.invariant.2 k) c.in_ok-offer.ensures c.in_ok-push.ensures.items),
    )

pub returns-clause-exact : goal.returns-clause-exact
returns-clause-exact c = λ sys state lost e v whole.
    let views = c.args.views.items in
    let k = subst (λ (flow : Dataflow). AreNodesKnown flow c.args.entries.now 0 views) e (are-known sys state lost state.low views c.args.entries.now v) in
    let end = YieldsList-end (YieldsList-from_vec {s = c.into_iter-known-iterator.result} views (search rules) (search rules))
    c.loop-known.yielded c.loop-known.known-iterator c.loop-known.yielded_by c.next.result c.next.new.self c.in-None.is c.next.ensures.steps in
    let all = take_all (length c.loop-known.yielded) views (omega (arith, end.1)) in
    offers-in sys state lost views c.args.entries.now c.loop-known.offers.items
    (subst (λ (flow : Dataflow). AreOffersBy flow c.args.entries.now 0 views c.loop-known.offers.items) (sym e)
    (subst (λ (xs : List NodeView). AreOffersBy c.args.flow.now c.args.entries.now 0 xs c.loop-known.offers.items) all (c.loop-known.invariant.2 k))) v whole

pub returns-clause-above : goal.returns-clause-above
returns-clause-above c = λ sys state lost floor e v.
    let views = c.args.views.items in
    let k = subst (λ (flow : Dataflow). AreNodesKnown flow c.args.entries.now 0 views) e (are-known sys state lost floor views c.args.entries.now v) in
    let end = YieldsList-end (YieldsList-from_vec {s = c.into_iter-known-iterator.result} views (search rules) (search rules))
    c.loop-known.yielded c.loop-known.known-iterator c.loop-known.yielded_by c.next.result c.next.new.self c.in-None.is c.next.ensures.steps in
    let all = take_all (length c.loop-known.yielded) views (omega (arith, end.1)) in
    offers-above sys state lost floor views c.args.entries.now c.loop-known.offers.items
    (subst (λ (flow : Dataflow). AreOffersBy flow c.args.entries.now 0 views c.loop-known.offers.items) (sym e)
    (subst (λ (xs : List NodeView). AreOffersBy c.args.flow.now c.args.entries.now 0 xs c.loop-known.offers.items) all (c.loop-known.invariant.2 k))) v

pub returns-clause-of_flow : goal.returns-clause-of_flow
returns-clause-of_flow c = λ s.
    let flow = c.args.flow.now in
    let views = c.args.views.items in
    let k = shaped-known flow views c.args.entries.now s in
    let end = YieldsList-end (YieldsList-from_vec {s = c.into_iter-known-iterator.result} views (search rules) (search rules))
    c.loop-known.yielded c.loop-known.known-iterator c.loop-known.yielded_by c.next.result c.next.new.self c.in-None.is c.next.ensures.steps in
    let all = take_all (length c.loop-known.yielded) views (omega (arith, end.1)) in
    shaped-offers flow views c.args.entries.now c.loop-known.offers.items c.flow_is_well_formed.ensures c.requires s
    (subst (λ (xs : List NodeView). AreOffersBy flow c.args.entries.now 0 xs c.loop-known.offers.items) all (c.loop-known.invariant.2 k))
