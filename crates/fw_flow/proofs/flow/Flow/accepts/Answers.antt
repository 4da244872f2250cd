use Rattle.std.proofs.Common.{◌≡◌, length, refl, sym, ◌∙◌, ap, arith, below_more}
use Rattle.std.proofs.lemmas.Bool.{false≢true}
use Rattle.fw_lines.specs.Batches.{batches_at}
use Rattle.fw_flow.specs.Dataflow.{kind_of}
use Rattle.fw_flow.specs.Premises.{may_have}
use Rattle.fw_flow.proofs.PremiseLaws.{MayHave, well_formed-below, may_have-there}
use Rattle.fw_flow.proofs.flow.Flow.accepts.Goals as goal

pub returns-then-not-may_have : goal.returns-then-not-may_have
returns-then-not-may_have c =
    let flow = c.args.self.now in
    let count = length (batches_at c.args.batches.now c.loop-place.place) in
    let said : may_have (kind_of flow c.loop-place.place) count ≡ c.may_have.result =
    ap (λ kind. may_have kind count) (sym (c.kind.ensures ∙ ap (kind_of flow) c.at.ensures)) ∙ ap (may_have c.kind.result) (sym c.count.ensures) ∙ sym c.may_have.ensures in (
      λ e. absurd (false≢true e),
      λ w. sym c.if-not-may_have.true ∙ sym said ∙ may_have-there flow c.args.batches.now c.loop-place.place (omega (arith, c.loop-place-test.true, c.nodes-place-end.ensures.count)) w,
    )

pub loop-place-preserved : goal.loop-place-preserved
loop-place-preserved c =
    let flow = c.args.self.now in
    let count = length (batches_at c.args.batches.now c.loop-place.place) in
    let said : may_have (kind_of flow c.loop-place.place) count ≡ c.may_have.result =
    ap (λ kind. may_have kind count) (sym (c.kind.ensures ∙ ap (kind_of flow) c.at.ensures)) ∙ ap (may_have c.kind.result) (sym c.count.ensures) ∙ sym c.may_have.ensures in
    below_more (MayHave flow c.args.batches.now) c.loop-place.place c.loop-place.invariant (said ∙ c.if-not-may_have.false)

pub returns : goal.returns
returns c = (
  λ _. well_formed-below c.args.self.now c.args.batches.now c.loop-place.place (omega arith) c.nodes-place-end.ensures.well_formed c.are_bags.ensures c.loop-place.invariant,
  λ _. refl,
)
