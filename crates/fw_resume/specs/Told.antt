-- The counts that a root tells, as progress keeps them.
use Rattle.std.specs.Prelude.{◌≡◌, ℕ, ◌<◌, true, List, [], length, slice_index_or, unwrap_or}
use Rattle.std.specs.List.{AllByRecursion}
use Rattle.fw_time.specs.Stamp.{Stamp, in_domain}
use Rattle.fw_bag.specs.declared.rec.Rec.{Rec}
use Rattle.fw_frontier.specs.declared.state.SentCount.{SentCount}
use Rattle.fw_lines.specs.Batches.{batches_at}
use Rattle.fw_flow.specs.Dataflow.{Dataflow, bounds_of, receiver}
use Rattle.fw_flow.specs.SentTable.{EpochsAscend}
use Rattle.fw_progress.specs.declared.counts.Counts.{Counts}
use Rattle.fw_progress.specs.Tally.{times_in, has_one, IsTallyOf}
use Rattle.fw_regain.specs.RootOf.{pending_said, is_said_owed, table_said}
use Rattle.fw_root.specs.OfFlow.{nodes_as, number_standing_for, place_among_nodes}
use Rattle.fw_root.specs.declared.of_flow.Role.TheVariants as role
use Rattle.fw_root.specs.declared.root.OwedAt.{OwedAt}
use Rattle.fw_root.specs.declared.root.PendingAt.{PendingAt}
use Rattle.fw_root.specs.declared.root.Root.{Root}

-- It is pending on an edge of the flow, at a stamp of the receiver.
pub record IsPendingOf (flow : Dataflow) (p : PendingAt) : Type 0 where
  pub edge : p.edge < length flow.edges
  pub at : in_domain (bounds_of flow (receiver flow p.edge)) p.at ≡ true

-- It is owed to a node of the flow, of a stamp of its own.
pub record IsOwedOf (flow : Dataflow) (o : OwedAt) : Type 0 where
  pub node : o.node < length flow.nodes
  pub at : in_domain (bounds_of flow o.node) o.at ≡ true

-- The counts of a sequence ascend by epochs, have stamps, and each is of some messages.
pub record AreGoodSends (ss : List SentCount) : Type 0 where
  pub in_order : EpochsAscend (table_said ss)
  pub stamped : AllByRecursion (λ (s : SentCount). 0 < length s.cause) ss
  pub some : AllByRecursion (λ (s : SentCount). 0 < s.count) ss

-- The tallies are of what is said to be pending on each edge.
pub record ArePendingTold (flow : Dataflow) (said : List PendingAt) (tallies : List (List (Stamp × ℕ))) : Type 0 where
  pub one_each : length tallies ≡ length flow.edges
  pub times : (e : ℕ) → e < length flow.edges → (t : Stamp) → times_in t (slice_index_or tallies e []) ≡ pending_said said e t
  pub of_domain : (e : ℕ) → e < length flow.edges → IsTallyOf (bounds_of flow (receiver flow e)) (slice_index_or tallies e [])

-- The tallies have what is said to be owed to each node.
pub record AreOwedTold (flow : Dataflow) (said : List OwedAt) (tallies : List (List (Stamp × ℕ))) : Type 0 where
  pub one_each : length tallies ≡ length flow.nodes
  pub has : (p : ℕ) → p < length flow.nodes → (t : Stamp) → has_one t (slice_index_or tallies p []) ≡ is_said_owed said p t
  pub of_domain : (p : ℕ) → p < length flow.nodes → IsTallyOf (bounds_of flow p) (slice_index_or tallies p [])

-- The numbers are those of the batches of the first n nodes.
pub record AreBatchesTold (given : List (ℕ × List (List Rec))) (n : ℕ) (counts : List ℕ) : Type 0 where
  pub one_each : length counts ≡ n
  pub each : (p : ℕ) → p < n → slice_index_or counts p 0 ≡ length (batches_at given p)

-- The numbers are those that stand for the first n nodes; 0 for one that is none of the inputs.
pub record AreInjectedTold (inputs injected : List ℕ) (n : ℕ) (counts : List ℕ) : Type 0 where
  pub one_each : length counts ≡ n
  pub each : (p : ℕ) → p < n → slice_index_or counts p 0 ≡ unwrap_or (number_standing_for inputs injected p) 0

-- what is said that a node sent, the tables being those of these nodes; nothing for one that is none of them
abbrev pub sends_standing_for : List ℕ → List (List SentCount) → ℕ → List SentCount
sends_standing_for nodes sends p = slice_index_or sends (place_among_nodes nodes p) []

-- The tables are those that stand for the first n nodes.
pub record AreTablesTold (sequences : List ℕ) (sends : List (List SentCount)) (n : ℕ) (tables : List (List (ℕ × ℕ))) : Type 0 where
  pub one_each : length tables ≡ n
  pub each : (p : ℕ) → p < n → slice_index_or tables p [] ≡ table_said (sends_standing_for sequences sends p)

-- The counts are those that a root tells.
pub record AreCountsTold (flow : Dataflow) (given : List (ℕ × List (List Rec))) (root : Root) (counts : Counts) : Type 0 where
  pub pending : ArePendingTold flow root.pending counts.pending.items
  pub owed : AreOwedTold flow root.owed counts.owed.items
  pub batches : AreBatchesTold given (length flow.nodes) counts.batches.items
  pub injected : AreInjectedTold (nodes_as flow role.Input) root.injected (length flow.nodes) counts.injected.items
  pub sent : AreTablesTold (nodes_as flow role.ByCount) root.sends (length flow.nodes) counts.sent.items
