use Rattle.std.specs.Prelude.{MatchOption}
use Rattle.std.proofs.Common.{subst}
use Rattle.fw_frontier.specs.Front.{Front}
use Rattle.fw_certify.specs.Checked.{IsGreatestFront}
use Rattle.fw_certify.proofs.CodeLaws.{front-cut, front-no_cut, present-cut}
use Rattle.fw_certify.proofs.begin.greatest_cut.Goals as goal

pub returns-then-can_stay : goal.returns-then-can_stay
returns-then-can_stay c = present-cut c.args.flow.now c.args.offers.now c.args.node c.can_stay.result c.can_stay.ensures c.if-can_stay.true

pub returns-in-Some : goal.returns-in-Some
returns-in-Some c = front-cut c.args.flow.now c.args.offers.now c.args.node c.in-Some.front c.can_stay.result c.offered_by.result.now c.requires.offers c.requires.there c.can_stay.ensures c.if-can_stay.false c.offered_by.ensures (λ b k. subst (λ o. MatchOption o ((f : Front) → IsGreatestFront b c.offered_by.result.now f → ⊥) (IsGreatestFront b c.offered_by.result.now)) c.in-Some.is (c.in_ok-front.ensures b k))

pub returns-in-None : goal.returns-in-None
returns-in-None c = front-no_cut c.args.flow.now c.args.offers.now c.args.node c.can_stay.result c.offered_by.result.now c.requires.offers c.requires.there c.can_stay.ensures c.if-can_stay.false c.offered_by.ensures (λ b k. subst (λ o. MatchOption o ((f : Front) → IsGreatestFront b c.offered_by.result.now f → ⊥) (IsGreatestFront b c.offered_by.result.now)) c.in-None.is (c.in_ok-front.ensures b k))
