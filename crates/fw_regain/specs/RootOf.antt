-- What a root says of a state of the machine: all but where the run stands in its schedule, the ids, and what the store holds.
use Rattle.std.specs.Prelude.{◌≡◌, ◌↔◌, ℕ, ◌+◌, ◌<◌, Bool, ◌&&◌, ◌==◌, if◌then◌else◌, List, [], ◌∷◌, map, filter, length, slice_index_or, Option, Some, None}
use Rattle.std.specs.List.{AllZip, list_any}
use Rattle.fw_time.specs.Stamp.{Stamp, same}
use Rattle.fw_frontier.specs.Front.{Front, IsFrontOf}
use Rattle.fw_frontier.specs.declared.state.SentCount.{SentCount}
use Rattle.fw_flow.specs.Counting.{how_many}
use Rattle.fw_flow.specs.declared.event.Message.{Message}
use Rattle.fw_flow.specs.declared.kind.Policy.TheVariants as policy
use Rattle.fw_flow.specs.Dataflow.{System, bounds_of, policy_of}
use Rattle.fw_flow.specs.Projection.{IsSentTable, first_coordinate}
use Rattle.fw_model.specs.Choice.{kept, is_counted}
use Rattle.fw_model.specs.History.{injected_count, is_owed_notice, pending_messages}
use Rattle.fw_model.specs.Machine.{Machine, Write, Written, checkpoint, logged_event, events, ack_count_of}
use Rattle.fw_regain.specs.Down.{down}
use Rattle.fw_regain.specs.Third.{third_of}
use Rattle.fw_root.specs.OfFlow.{nodes_as}
use Rattle.fw_root.specs.declared.of_flow.Role.TheVariants as role
use Rattle.fw_root.specs.declared.root.NamedWrite.{NamedWrite}
use Rattle.fw_root.specs.declared.root.NodeFronts.{NodeFronts}
use Rattle.fw_root.specs.declared.root.OwedAt.{OwedAt}
use Rattle.fw_root.specs.declared.root.PendingAt.{PendingAt}
use Rattle.fw_root.specs.declared.root.Root.{Root}

-- the tag of what is written, which stands on a checkpoint with this front or on none: 1 of a whole checkpoint, 2 of an event, 3 of
-- changes
abbrev pub tag_written : Written → Option Front → ℕ
tag_written (checkpoint f low) None = 1
tag_written (checkpoint f low) (Some base) = 3
tag_written (logged_event serial) base = 2

-- A root names the write: by its node, and by what is written.
pub record IsWriteNamed (named : NamedWrite) (write : Write) : Type 0 where
  pub node : named.node ≡ write.node
  pub tag : named.tag ≡ tag_written write.written write.base

-- how many messages are said to be pending on edge e at a stamp
abbrev pub pending_said : List PendingAt → ℕ → Stamp → ℕ
pending_said [] e t = 0
pending_said (p ∷ ps) e t = if p.edge == e && same p.at t then p.count + pending_said ps e t else pending_said ps e t

-- whether a notification of a stamp is said to be owed to node p
abbrev pub is_said_owed : List OwedAt → ℕ → Stamp → Bool
is_said_owed os p t = list_any (λ (o : OwedAt). o.node == p && same o.at t) os

-- how many messages a sequence is said to have sent, by epoch
abbrev pub table_said : List SentCount → List (ℕ × ℕ)
table_said ss = map (λ (s : SentCount). (first_coordinate s.cause, s.count)) ss

-- the third of the fronts that are said of node p
abbrev pub third_said : Root → ℕ → Front
third_said root p = slice_index_or (map (λ (f : NodeFronts). f.third) root.fronts) p []

-- The root is one of the state: of the inputs how much they injected, of the outputs how much they acknowledged, of each node what is
-- settled and its low watermark, and of one that logs its events the third frontier; the writes that are kept, in order of asking; what
-- is pending, what is owed, and how many messages each sequence sent.
pub record IsRootOf (sys : System) (state : Machine) (root : Root) : Type 0 where
  pub injected : root.injected ≡ map (λ s. injected_count s (events state.history)) (nodes_as sys.flow role.Input)
  pub bounds : root.bounds ≡ map (ack_count_of state) (nodes_as sys.flow role.Output)
  pub settled : map (λ (f : NodeFronts). f.settled) root.fronts ≡ state.settled
  pub low : map (λ (f : NodeFronts). f.low) root.fronts ≡ state.low
  pub third : (p : ℕ) → p < length sys.flow.nodes → policy_of sys.flow p ≡ policy.Full
      → IsFrontOf (bounds_of sys.flow p) (third_said root p) (third_of sys state p)
  pub writes : AllZip IsWriteNamed root.writes (filter (λ (write : Write). is_counted kept write.stage) state.writes)
  pub pending : (e : ℕ) (t : Stamp) → pending_said root.pending e t
      ≡ how_many (λ (m : Message). same m.at t) (pending_messages sys (events state.history) e)
  pub owed : (p : ℕ) (t : Stamp) → is_said_owed root.owed p t ≡ is_owed_notice sys (events state.history) p t
  pub sends : AllZip (λ ss p. IsSentTable sys (events state.history) p (table_said ss)) root.sends (nodes_as sys.flow role.ByCount)

-- a root of a state is one of that in which every node is failed, and the other way round
abbrev pub DownHasTheSameRoots : Type 0
DownHasTheSameRoots = (sys : System) (state : Machine) (root : Root) → IsRootOf sys state root ↔ IsRootOf sys (down sys state) root
