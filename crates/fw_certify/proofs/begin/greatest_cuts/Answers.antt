use Rattle.std.specs.Prelude.{MatchOption}
use Rattle.std.proofs.Common.{◌+◌, ◌<◌, ◌∷◌, [], length, ap, subst, ◌∙◌}
use Rattle.fw_flow.specs.declared.choice.Cut.{Cut}
use Rattle.std.proofs.lemmas.List.{length-append}
use Rattle.fw_flow.specs.declared.choice.Cut.TheVariants.{Present}
use Rattle.fw_model.specs.Certificates.{IsGreatestOffered}
use Rattle.fw_model.specs.Offers.{IsOffered}
use Rattle.fw_offers.proofs.RightLaws.{each_more}
use Rattle.fw_certify.proofs.BeginLaws.{none-begins}
use Rattle.fw_certify.proofs.begin.greatest_cuts.Goals as goal

pub loop-place-preserved : goal.loop-place-preserved
loop-place-preserved c =
    let flow = c.args.flow.now in
    let old = c.loop-place.invariant in
    let cuts = c.loop-place.cuts.items in
    let cut = c.in-Some.cut in
    record {
      one_each = ap length c.in_ok-push-in-Some.ensures.items ∙ length-append cuts (cut ∷ []) ∙ ap (λ n. n + 1) old.one_each;
      greatest = each_more (λ p x. IsGreatestOffered flow (IsOffered flow c.args.offers.now) p x) cuts c.push.new.self.items cut c.loop-place.place c.at.result Present
          c.in_ok-push-in-Some.ensures.items old.one_each c.at.ensures old.greatest (subst (λ o. MatchOption o ((x : Cut) → IsGreatestOffered flow (IsOffered flow c.args.offers.now) c.at.result x → ⊥) (IsGreatestOffered flow (IsOffered flow c.args.offers.now) c.at.result)) c.in-Some.is c.in_ok-cut.ensures);
    }

pub returns-in-None : goal.returns-in-None
returns-in-None c = λ start.
    let flow = c.args.flow.now in
    let there : c.loop-place.place < length flow.nodes = subst (λ n. c.loop-place.place < n) c.nodes-place-end.ensures.count c.loop-place-test.true in
    none-begins flow c.args.offers.now c.loop-place.place c.at.result start c.at.ensures there
    (subst (λ o. MatchOption o ((x : Cut) → IsGreatestOffered flow (IsOffered flow c.args.offers.now) c.at.result x → ⊥) (IsGreatestOffered flow (IsOffered flow c.args.offers.now) c.at.result)) c.in-None.is c.in_ok-cut.ensures)
