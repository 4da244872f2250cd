use Rattle.std.proofs.Common.{◌≡◌, Some, not, ◌&&◌, ◌-◌, length, sym, ◌∙◌, ap, subst}
use Rattle.std.specs.Prelude.{slice_get}
use Rattle.fw_frontier.specs.Front.{same_front}
use Rattle.fw_offers_text.specs.Draft.{NodeTold}
use Rattle.fw_offers_text.proofs.PlaceLaws.{above_some}
use Rattle.fw_offers_text.proofs.draft.NodeDraft.takes_front.Goals as goal

pub returns-then-subset : goal.returns-then-subset
returns-then-subset c =
    let last = c.in-Some.last.now in
    let front = c.args.front.now in
    let records = ap (λ (n : NodeTold). n.records) c.self.view_is in
    ap not c.same.ensures.test ∙ ap (λ b. b && not (same_front last.front front)) (sym c.if-subset.true ∙ c.subset.ensures.test)
    ∙ above_some c.args.self.now.records last front (subst (λ rs. Some last ≡ slice_get rs (length rs - 1)) (c.deref.ensures.value ∙ records) c.in-Some.ensures.value)

pub returns-else-subset : goal.returns-else-subset
returns-else-subset c =
    let last = c.in-Some.last.now in
    let front = c.args.front.now in
    let records = ap (λ (n : NodeTold). n.records) c.self.view_is in
    c.if-subset.false ∙ ap (λ b. b && not (same_front last.front front)) (sym c.if-subset.false ∙ c.subset.ensures.test)
    ∙ above_some c.args.self.now.records last front (subst (λ rs. Some last ≡ slice_get rs (length rs - 1)) (c.deref.ensures.value ∙ records) c.in-Some.ensures.value)
