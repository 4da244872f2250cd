-- By what a node is restored after a failure, and whether it can send again what it sent.
use Rattle.std.specs.Prelude.{ℕ, Bool, true, false}
use Rattle.fw_flow.specs.Kind.{Kind}
use Rattle.fw_flow.specs.declared.kind.Kind.TheVariants.{Input, OutputEpoch, OutputNumber}
use Rattle.fw_flow.specs.declared.kind.Policy.{Policy}
use Rattle.fw_flow.specs.declared.kind.Policy.TheVariants as policy
use Rattle.fw_flow.specs.declared.restoring.Restoring.{Restoring}
use Rattle.fw_flow.specs.declared.restoring.Restoring.TheVariants.{Batches, Bound, Anything, Checkpoints, Events}
use Rattle.fw_flow.specs.Dataflow.{Dataflow, kind_of, policy_of}

-- the way of an inner node, by its policy
abbrev pub restoring_of_policy : Policy → Restoring
restoring_of_policy policy.None = Anything
restoring_of_policy policy.Lazy = Checkpoints
restoring_of_policy policy.Logged = Checkpoints
restoring_of_policy policy.Eager = Checkpoints
restoring_of_policy policy.Full = Events

-- the way of a node, by its kind and policy
abbrev pub restoring : Kind → Policy → Restoring
restoring Input p = Batches
restoring OutputEpoch p = Bound
restoring OutputNumber p = Bound
restoring kind p = restoring_of_policy p

-- the way in which the node at a place is restored
abbrev pub way_of : Dataflow → ℕ → Restoring
way_of flow p = restoring (kind_of flow p) (policy_of flow p)

-- whether a node of the policy can send again what it sent
abbrev pub can_resend : Policy → Bool
can_resend policy.None = false
can_resend policy.Lazy = false
can_resend policy.Logged = true
can_resend policy.Eager = true
can_resend policy.Full = true
