-- For the proofs: counts of nothing, and the largest frontiers by counts.
use Rattle.std.specs.Prelude.{◌≡◌, ℕ, ◌<◌, List, [], length, set, ◌⊎◌}
use Rattle.fw_bag.specs.declared.rec.Rec.{Rec}
use Rattle.fw_frontier.specs.Frontier.{Within}
use Rattle.fw_frontier.specs.Front.{Front, IsFrontOf}
use Rattle.fw_flow.specs.Dataflow.{Dataflow, bounds_of, node_frontier, out_edges}
use Rattle.fw_lines.specs.Batches.{batches_at}
use Rattle.fw_model.specs.Machine.{family_of, AreCanonical}
use Rattle.fw_progress.specs.declared.counts.Counts.{Counts}
use Rattle.fw_progress.specs.Counts.{pending_of, owed_of, batches_in, injected_in, sent_of, target_by, AreCounts, IsAdmissibleBy, AreStuckOutside}
use Rattle.fw_progress.specs.Growths.{ArePut}

-- The counts are those of no event: nothing is pending, owed, injected or sent.
pub record AreOfNothing (flow : Dataflow) (given : List (ℕ × List (List Rec))) (counts : Counts) : Type 0 where
  pub counts_of : AreCounts flow counts
  pub pending : (e : ℕ) → pending_of counts e ≡ []
  pub owed : (p : ℕ) → owed_of counts p ≡ []
  pub batches : (p : ℕ) → p < length flow.nodes → batches_in counts p ≡ length (batches_at given p)
  pub injected : (p : ℕ) → injected_in counts p ≡ 0
  pub sent : (p : ℕ) → sent_of counts p ≡ []

-- a node has no more than it can have by the others, and nothing changes
pub record IsWithin (flow : Dataflow) (counts : Counts) (p : ℕ) (old new : List Front) (work rest : List ℕ) : Type 0 where
  pub within : Within (family_of flow old p) (target_by flow counts (family_of flow old) p)
  pub fronts : new ≡ old
  pub waiting : rest ≡ work

-- a node has a smaller frontier, and the receivers of its out-edges wait
pub record IsShrunk (flow : Dataflow) (p : ℕ) (front : Front) (old new : List Front) (work rest : List ℕ) : Type 0 where
  pub changed : new ≡ set old p front
  pub put : ArePut flow (out_edges flow p) work rest

-- a node had more than it can have by the others: it has that from now on, and the receivers of its out-edges wait
pub record HasLess (flow : Dataflow) (counts : Counts) (p : ℕ) (old new : List Front) (work rest : List ℕ) : Type 0 where
  pub front : Front
  pub can_have : IsFrontOf (bounds_of flow p) front (target_by flow counts (family_of flow old) p)
  pub had_more : Within (family_of flow old p) (node_frontier flow p front) → ⊥
  pub shrunk : IsShrunk flow p front old new work rest

-- A node has no more than it can have by the others: it had no more, or it has a smaller frontier from now on, and the receivers of
-- its out-edges wait.
abbrev pub HasFallen : Dataflow → Counts → ℕ → List Front → List Front → List ℕ → List ℕ → Type 0
HasFallen flow counts p old new work rest = IsWithin flow counts p old new work rest ⊎ HasLess flow counts p old new work rest

-- The frontiers are admissible, and none can be widened.
pub record AreLargest (flow : Dataflow) (counts : Counts) (fronts : List Front) : Type 0 where
  pub one_each : length fronts ≡ length flow.nodes
  pub canonical : AreCanonical flow fronts
  pub admissible : IsAdmissibleBy flow counts (family_of flow fronts)
  pub stuck : AreStuckOutside flow counts fronts []
