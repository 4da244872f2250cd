-- The frontiers of nodes that a root tells, and what was lost by these.
use Rattle.std.specs.Prelude.{◌≡◌, ℕ, ◌<◌, ◌^◌, List, [], length, slice_index_or}
use Rattle.fw_frontier.specs.Front.{Front, frontier_of, IsFrontOf}
use Rattle.fw_flow.specs.declared.kind.Policy.{Policy}
use Rattle.fw_flow.specs.declared.kind.Policy.TheVariants as policy
use Rattle.fw_flow.specs.Dataflow.{bounds_of, policy_of}
use Rattle.fw_model.specs.Machine.{front_of, no_stamps}
use Rattle.fw_policy.specs.Offering.{below_all, unlogged_stamps}
use Rattle.fw_record.specs.OfNode.{AreOfDomain}
use Rattle.fw_root.specs.declared.root.NodeFronts.{NodeFronts}
use Rattle.fw_running.specs.declared.running.Running.{Running}
use Rattle.fw_running.specs.Kept.{lost_at}

-- the third frontier of node p by its policy: where it logs its events what is settled, and at or above none that is in flight or was
-- lost, if these are at stamps of its domain; else without stamps
abbrev pub IsThirdBy : Running → ℕ → Policy → Front → Type 0
IsThirdBy running p policy.Full f = AreOfDomain running.flow p (unlogged_stamps p running.parts.keep.entries (lost_at running p))
    → IsFrontOf (bounds_of running.flow p) f
    (below_all (unlogged_stamps p running.parts.keep.entries (lost_at running p)) (frontier_of (bounds_of running.flow p) (front_of running.progress.settled p)))
IsThirdBy running p other f = f ≡ no_stamps (bounds_of running.flow p)

-- the third frontier of node p
abbrev pub IsThirdOf : Running → ℕ → Front → Type 0
IsThirdOf running p f = IsThirdBy running p (policy_of running.flow p) f

-- no front has more stamps than 32 bits can count
pub record AreCountable (f : NodeFronts) : Type 0 where
  pub settled : length f.settled < 2 ^ 32
  pub low : length f.low < 2 ^ 32
  pub third : length f.third < 2 ^ 32

-- The three frontiers are those of node p.
pub record AreFrontsAt (running : Running) (p : ℕ) (f : NodeFronts) : Type 0 where
  pub settled : f.settled ≡ front_of running.progress.settled p
  pub low : f.low ≡ front_of running.parts.low p
  pub third : IsThirdOf running p f.third
  pub few : AreCountable f

-- a node without frontiers
abbrev pub no_fronts : NodeFronts
no_fronts = record { settled = []; low = []; third = [] }

-- These are the frontiers of the first n nodes.
pub record AreFrontsTold (running : Running) (n : ℕ) (fronts : List NodeFronts) : Type 0 where
  pub one_each : length fronts ≡ n
  pub each : (p : ℕ) → p < n → AreFrontsAt running p (slice_index_or fronts p no_fronts)
