use Rattle.std.proofs.Common.{sym, ◌∙◌, arith, below_more}
use Rattle.std.proofs.lemmas.Bool.{false≢true}
use Rattle.fw_flow.specs.Check.{HasAllowedPolicy}
use Rattle.fw_flow.proofs.Tests.{IsFirstBreak-here, HasAllowedPolicy-from_node, HasAllowedPolicy-at_node}
use Rattle.fw_flow.proofs.check.policy_line.Goals as goal

pub returns-then-not-is_policy_allowed : goal.returns-then-not-is_policy_allowed
returns-then-not-is_policy_allowed c = λ flow made.
    IsFirstBreak-here (HasAllowedPolicy flow) c.args.lines.now c.loop-place.place (omega arith) (c.loop-place.invariant flow made)
    (λ h.
    false≢true
    (sym c.if-not-is_policy_allowed.true
    ∙ c.is_policy_allowed.ensures.1
    (HasAllowedPolicy-at_node flow c.args.nodes.now made c.loop-place.place c.index-nodes-place.result c.index-nodes-place.is (omega arith) h)))

pub loop-place-preserved : goal.loop-place-preserved
loop-place-preserved c = λ flow made.
    below_more (HasAllowedPolicy flow) c.loop-place.place (c.loop-place.invariant flow made)
    (HasAllowedPolicy-from_node flow c.args.nodes.now made c.loop-place.place c.index-nodes-place.result c.index-nodes-place.is (omega arith)
    (c.is_policy_allowed.ensures.0 c.if-not-is_policy_allowed.false))
