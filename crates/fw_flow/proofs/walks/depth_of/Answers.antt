use Rattle.std.proofs.Common.{sym, ◌∙◌}
use Rattle.fw_flow.specs.Dataflow.{domain_of_kind}
use Rattle.fw_flow.proofs.Parents.{depth-flat, depth-one, depth-two, depth-three}
use Rattle.fw_flow.proofs.walks.depth_of.Goals as goal

pub returns-in_default : goal.returns-in_default
returns-in_default c = λ flow made. depth-flat flow (domain_of_kind flow c.args.kind) (λ x e. c.in_default.not-Loop x (c.domain.ensures flow made ∙ e))

pub returns-in_default-parent_of : goal.returns-in_default-parent_of
returns-in_default-parent_of c = λ flow made.
    depth-one flow (domain_of_kind flow c.args.kind) c.in-Loop.inner (sym (c.domain.ensures flow made) ∙ c.in-Loop.is)
    (λ x e. c.in_default-parent_of.not-Loop x (c.parent_of.ensures flow made ∙ e))

pub returns-in_default-parent_of-2 : goal.returns-in_default-parent_of-2
returns-in_default-parent_of-2 c = λ flow made.
    depth-two flow (domain_of_kind flow c.args.kind) c.in-Loop.inner c.in-Loop-parent_of.middle (sym (c.domain.ensures flow made) ∙ c.in-Loop.is)
    (sym (c.parent_of.ensures flow made) ∙ c.in-Loop-parent_of.is)
    (λ x e. c.in_default-parent_of-2.not-Loop x (c.parent_of-2.ensures flow made ∙ e))

pub returns : goal.returns
returns c = λ flow made.
    depth-three flow (domain_of_kind flow c.args.kind) c.in-Loop.inner c.in-Loop-parent_of.middle c.in-Loop-parent_of-2.field-0
    (sym (c.domain.ensures flow made) ∙ c.in-Loop.is) (sym (c.parent_of.ensures flow made) ∙ c.in-Loop-parent_of.is)
    (sym (c.parent_of-2.ensures flow made) ∙ c.in-Loop-parent_of-2.is)
