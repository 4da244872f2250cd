-- What decides which frontiers are complete, as counts, and how far each node's frontier can go by it.
use Rattle.std.specs.Prelude.{◌≡◌, ℕ, ◌<◌, Bool, true, false, not, ◌&&◌, ◌||◌, ◌==◌, nat_lt, List, [], length, slice_index_or}
use Rattle.std.specs.List.{list_all, list_any}
use Rattle.std.specs.Map.{keys_of}
use Rattle.fw_time.specs.Stamp.{Stamp, in_domain}
use Rattle.fw_frontier.specs.Frontier.{Frontier, IsFrontier, Within, meet}
use Rattle.fw_frontier.specs.Front.{Front}
use Rattle.fw_flow.specs.Kind.{Kind}
use Rattle.fw_flow.specs.declared.kind.Kind.TheVariants.{Enter, Feedback, Leave, Sequence, Regroup}
use Rattle.fw_flow.specs.Dataflow.{Dataflow, kind_of, sender, receiver, in_edges, bounds_of, is_input_kind, node_frontier}
use Rattle.fw_flow.specs.Projection.{first_coordinate, phi_by_count, table_count}
use Rattle.fw_model.specs.Machine.{family_of}
use Rattle.fw_progress.specs.declared.counts.Counts.{Counts}
use Rattle.fw_progress.specs.Tally.{IsTallyOf}

-- how many messages are pending on an edge, by stamp
abbrev pub pending_of : Counts → ℕ → List (Stamp × ℕ)
pending_of counts e = slice_index_or counts.pending.items e []

-- the stamps of which a node is owed a notification
abbrev pub owed_of : Counts → ℕ → List (Stamp × ℕ)
owed_of counts p = slice_index_or counts.owed.items p []

-- how many batches a node has
abbrev pub batches_in : Counts → ℕ → ℕ
batches_in counts p = slice_index_or counts.batches.items p 0

-- how many of them it injected
abbrev pub injected_in : Counts → ℕ → ℕ
injected_in counts p = slice_index_or counts.injected.items p 0

-- how many messages a node sent by epoch, if it is a sequence
abbrev pub sent_of : Counts → ℕ → List (ℕ × ℕ)
sent_of counts p = slice_index_or counts.sent.items p []

-- All counts are there: those of an edge at stamps of its receiver, and those of a node at its own.
pub record AreCounts (flow : Dataflow) (counts : Counts) : Type 0 where
  pub pending_each : length counts.pending.items ≡ length flow.edges
  pub owed_each : length counts.owed.items ≡ length flow.nodes
  pub batches_each : length counts.batches.items ≡ length flow.nodes
  pub injected_each : length counts.injected.items ≡ length flow.nodes
  pub sent_each : length counts.sent.items ≡ length flow.nodes
  pub pending : (e : ℕ) → e < length flow.edges → IsTallyOf (bounds_of flow (receiver flow e)) (pending_of counts e)
  pub owed : (p : ℕ) → p < length flow.nodes → IsTallyOf (bounds_of flow p) (owed_of counts p)

-- whether a node is in a list
abbrev pub is_in : List ℕ → ℕ → Bool
is_in nodes p = list_any (λ q. q == p) nodes

-- these are nodes of the flow
abbrev pub AreNodes : Dataflow → List ℕ → Type 0
AreNodes flow nodes = list_all (λ p. nat_lt p (length flow.nodes)) nodes ≡ true

-- ---- for the proofs

-- all stamps of a node's domain; of an input those that it injected, and all once it injected each batch
abbrev pub given_by : Dataflow → Counts → ℕ → Frontier
given_by flow counts p t =
    in_domain (bounds_of flow p) t
    && (not (is_input_kind (kind_of flow p)) || (injected_in counts p == batches_in counts p || nat_lt (first_coordinate t) (injected_in counts p)))

-- up to where nothing is owed to a node and an input injected all
abbrev pub clear_by : Dataflow → Counts → ℕ → Frontier
clear_by flow counts p = meet (given_by flow counts p) (node_frontier flow p (keys_of (owed_of counts p)))

-- up to where nothing is pending on an edge
abbrev pub unpending_by : Dataflow → Counts → ℕ → Frontier
unpending_by flow counts e = node_frontier flow (receiver flow e) (keys_of (pending_of counts e))

-- whether a node of the kind sends at other stamps than those of its events
abbrev pub moves_stamps : Kind → Bool
moves_stamps (Enter l) = true
moves_stamps (Feedback l) = true
moves_stamps (Leave l) = true
moves_stamps Sequence = true
moves_stamps (Regroup n) = true
moves_stamps kind = false

-- all that can come on an edge by a frontier of its sender
abbrev pub projected_by : Dataflow → Counts → ℕ → Frontier → Frontier
projected_by flow counts e f = phi_by_count flow (table_count f (sent_of counts (sender flow e))) e f

-- up to where nothing is pending on an edge, and all came that can come by a frontier of its sender
abbrev pub come_by : Dataflow → Counts → ℕ → Frontier → Frontier
come_by flow counts e f = meet (unpending_by flow counts e) (projected_by flow counts e f)

-- up to where nothing is owed to a node and nothing is pending on its in-edges, and an input injected all
abbrev pub quiet_by : Dataflow → Counts → ℕ → Frontier
quiet_by flow counts p t = clear_by flow counts p t && list_all (λ e. unpending_by flow counts e t) (in_edges flow p)

-- the largest frontier that a node can have, the others as they are
abbrev pub target_by : Dataflow → Counts → (ℕ → Frontier) → ℕ → Frontier
target_by flow counts family p t =
    clear_by flow counts p t && list_all (λ e. come_by flow counts e (family (sender flow e)) t) (in_edges flow p)

-- each frontier lies in what its node can have
pub record IsAdmissibleBy (flow : Dataflow) (counts : Counts) (family : ℕ → Frontier) : Type 0 where
  pub frontier : (p : ℕ) → IsFrontier (bounds_of flow p) (family p)
  pub within : (p : ℕ) → p < length flow.nodes → Within (family p) (target_by flow counts family p)

-- a node has the largest frontier that it can have
abbrev pub IsStuckBy : Dataflow → Counts → List Front → ℕ → Type 0
IsStuckBy flow counts fronts p = Within (target_by flow counts (family_of flow fronts) p) (family_of flow fronts p)

-- each node that is not in the list has the largest frontier that it can have
abbrev pub AreStuckOutside : Dataflow → Counts → List Front → List ℕ → Type 0
AreStuckOutside flow counts fronts work = (p : ℕ) → p < length flow.nodes → is_in work p ≡ false → IsStuckBy flow counts fronts p
