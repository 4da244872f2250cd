use Rattle.std.proofs.Common.{sym, ap, ◌∙◌, [], ◌∷◌}
use Rattle.fw_flow.specs.Dataflow.{Dataflow, greatest_number}
use Rattle.fw_flow.proofs.Parents.{greatest-one, greatest-two, greatest-three}
use Rattle.fw_flow.proofs.flow.Flow.greatest.Goals as goal

pub returns-in_default-parent_of : goal.returns-in_default-parent_of
returns-in_default-parent_of c =
    let flow = c.args.self.now in
    let up = c.parent_of.ensures flow (ap (λ (f : Dataflow). f.loops) (sym c.self.view_is) ∙ sym c.deref.ensures.value) in
    c.new-in_default-parent_of.ensures
    ∙ ap (λ m. greatest_number ∷ m ∷ []) c.max.ensures
    ∙ sym (greatest-one flow c.args.domain c.in-Loop.inner c.in-Loop.is (λ x e. c.in_default-parent_of.not-Loop x (up ∙ e)))

pub returns-in_default-parent_of-2 : goal.returns-in_default-parent_of-2
returns-in_default-parent_of-2 c =
    let flow = c.args.self.now in
    let up = c.parent_of.ensures flow (ap (λ (f : Dataflow). f.loops) (sym c.self.view_is) ∙ sym c.deref.ensures.value) in
    let upper = c.parent_of-2.ensures flow (ap (λ (f : Dataflow). f.loops) (sym c.self.view_is) ∙ sym c.deref-2.ensures.value) in
    c.new-in_default-parent_of-2.ensures
    ∙ (λ i. greatest_number ∷ c.max-in_default-parent_of-2.ensures i ∷ c.max-in_default-parent_of-2-2.ensures i ∷ [])
    ∙ sym (greatest-two flow c.args.domain c.in-Loop.inner c.in-Loop-parent_of.middle c.in-Loop.is (sym up ∙ c.in-Loop-parent_of.is)
    (λ x e. c.in_default-parent_of-2.not-Loop x (upper ∙ e)))

pub returns : goal.returns
returns c =
    let flow = c.args.self.now in
    let up = c.parent_of.ensures flow (ap (λ (f : Dataflow). f.loops) (sym c.self.view_is) ∙ sym c.deref.ensures.value) in
    let upper = c.parent_of-2.ensures flow (ap (λ (f : Dataflow). f.loops) (sym c.self.view_is) ∙ sym c.deref-2.ensures.value) in
    c.new-2.ensures
    ∙ (λ i. greatest_number ∷ c.max-2.ensures i ∷ c.max-3.ensures i ∷ c.max-4.ensures i ∷ [])
    ∙ sym (greatest-three flow c.args.domain c.in-Loop.inner c.in-Loop-parent_of.middle c.in-Loop-parent_of-2.outer c.in-Loop.is
    (sym up ∙ c.in-Loop-parent_of.is) (sym upper ∙ c.in-Loop-parent_of-2.is))
