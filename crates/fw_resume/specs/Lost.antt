-- At which stamps events were lost, as the frontiers of a root tell it.
use Rattle.std.specs.Prelude.{◌≡◌, ℕ, ◌<◌, List, [], filter, length, slice_index_or}
use Rattle.fw_time.specs.Stamp.{Stamp}
use Rattle.fw_frontier.specs.Front.{inside}
use Rattle.fw_flow.specs.declared.kind.Policy.{Policy}
use Rattle.fw_flow.specs.declared.kind.Policy.TheVariants as policy
use Rattle.fw_flow.specs.Dataflow.{System, Dataflow, policy_of}
use Rattle.fw_model.specs.Machine.{Machine}
use Rattle.fw_policy.specs.View.{KnowsLosses}
use Rattle.fw_regain.specs.Down.{down}
use Rattle.fw_root.specs.declared.root.NodeFronts.{NodeFronts}

-- the frontiers of node p
abbrev pub fronts_said : List NodeFronts → ℕ → NodeFronts
fronts_said fronts p = slice_index_or fronts p (record { settled = []; low = []; third = [] })

-- at which stamps events of a node of the policy were lost: where it logs them, the least outside stamps of the third frontier that are
-- settled
abbrev pub lost_told : Policy → NodeFronts → List Stamp
lost_told policy.Full f = filter (inside f.settled) f.third
lost_told other f = []

-- These are the stamps at which events of the first n nodes were lost.
pub record AreLostTold (flow : Dataflow) (fronts : List NodeFronts) (n : ℕ) (lost : List (List Stamp)) : Type 0 where
  pub one_each : length lost ≡ n
  pub each : (p : ℕ) → p < n → slice_index_or lost p [] ≡ lost_told (policy_of flow p) (fronts_said fronts p)

-- Of each node that logs its events the stamps tell, where every node is failed, which stamp of what is settled lies at or above one that
-- was lost.
abbrev pub KnowAllLosses : System → Machine → List (List Stamp) → Type 0
KnowAllLosses sys state lost =
    (p : ℕ) → p < length sys.flow.nodes → policy_of sys.flow p ≡ policy.Full → KnowsLosses sys (down sys state) p (slice_index_or lost p [])
