use Rattle.std.proofs.Common.{◌≡◌, ◌⊎◌, ℕ, Some, sym, subst, inl, inr}
use Rattle.fw_flow.specs.declared.restoring.Restoring.{Restoring}
use Rattle.fw_flow.specs.declared.restoring.Restoring.TheVariants.{Anything, Checkpoints, Events}
use Rattle.fw_flow.specs.Dataflow.{Dataflow}
use Rattle.fw_node.specs.declared.node.Node.{Node}
use Rattle.fw_rollback.specs.New.{IsFirstTable}
use Rattle.fw_rollback.specs.Restored.{IsNew}
use Rattle.fw_rollback.proofs.parts.table_of.Goals as goal

-- a node that has a table has a new one at first
first-some : (flow : Dataflow) (p : ℕ) (way : Restoring) (node : Node) → (way ≡ Anything) ⊎ ((way ≡ Checkpoints) ⊎ (way ≡ Events)) → IsNew flow p node
    → IsFirstTable flow p way (Some node)
first-some flow p way node (inl e) new = subst (λ (w : Restoring). IsFirstTable flow p w (Some node)) (sym e) new
first-some flow p way node (inr (inl e)) new = subst (λ (w : Restoring). IsFirstTable flow p w (Some node)) (sym e) new
first-some flow p way node (inr (inr e)) new = subst (λ (w : Restoring). IsFirstTable flow p w (Some node)) (sym e) new

pub returns-in_ok-new-in-Anything : goal.returns-in_ok-new-in-Anything
returns-in_ok-new-in-Anything c =
    let flow = c.args.flow.now in
    let p = c.args.node in
    let node : Node = c.in_ok-new-in-Anything.field-0 in
    subst (λ (w : Restoring). IsFirstTable flow p w (Some node)) c.restoring.ensures
    (first-some flow p c.restoring.result node c.in-Anything.is (λ settled. c.in_ok-new-in-Anything.ensures.table settled))
