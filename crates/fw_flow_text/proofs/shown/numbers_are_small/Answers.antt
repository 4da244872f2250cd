use Rattle.std.proofs.Common.{◌≡◌, sym, ◌∙◌, subst, arith, inl, inr}
use Rattle.std.proofs.lemmas.Bool.{cases_lt}
use Rattle.fw_flow.specs.Dataflow.{kind_of}
use Rattle.fw_flow_text.specs.FlowText.{named_kind}
use Rattle.fw_flow_text.specs.Spelled.{IsSmallKind}
use Rattle.fw_flow_text.proofs.shown.numbers_are_small.Goals as goal

pub loop-place-preserved : goal.loop-place-preserved
loop-place-preserved c = λ p lt.
    let flow = c.args.flow.now in
    let place = c.loop-place.place in
    elim (cases_lt p place) [
      | inl before ↦ c.loop-place.invariant p before
      | inr past ↦
          let same : place ≡ p = omega (arith, lt, past) in
          subst (λ q. IsSmallKind (named_kind flow (kind_of flow q))) (c.at.ensures ∙ same)
          (subst (λ k. IsSmallKind (named_kind flow k)) c.kind.ensures c.kind_is_small.ensures)
    ]
