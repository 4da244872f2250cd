-- Which roots are those of a dataflow and its batches: the form of each part, and what may stand after what.
use Rattle.std.specs.Prelude.{◌≡◌, ℕ, ◌<◌, ◌≤◌, ◌^◌, Bool, true, not, ◌&&◌, ◌||◌, ◌==◌, nat_lt, List, length}
use Rattle.std.specs.List.{list_any, AllZip}
use Rattle.std.specs.Ordering.{nat_cmp, ordering_then, is_lt}
use Rattle.fw_time.specs.Stamp.{Stamp, stamp_cmp, in_domain}
use Rattle.fw_time.specs.declared.stamp.Bounds.{Bounds}
use Rattle.fw_frontier.specs.Front.{Front}
use Rattle.fw_frontier.specs.declared.state.SentCount.{SentCount}
use Rattle.fw_bytes.specs.Sound.{after_last, may_follow_stamps, may_follow_counts, IsList, IsStamp, IsSentCount}
use Rattle.fw_bytes.specs.Exact.{AreBytes}
use Rattle.fw_flow.specs.Dataflow.{Dataflow, node_ids, receiver, bounds_of}
use Rattle.fw_root.specs.declared.extent.Extent.{Extent}
use Rattle.fw_root.specs.declared.extent.Extent.TheVariants.{Any}
use Rattle.fw_root.specs.declared.of_flow.Role.TheVariants as role
use Rattle.fw_root.specs.declared.root.Digests.{Digests}
use Rattle.fw_root.specs.declared.root.Mark.{Mark}
use Rattle.fw_root.specs.declared.root.NodeFronts.{NodeFronts}
use Rattle.fw_root.specs.declared.root.NamedWrite.{NamedWrite}
use Rattle.fw_root.specs.declared.root.PendingAt.{PendingAt}
use Rattle.fw_root.specs.declared.root.OwedAt.{OwedAt}
use Rattle.fw_root.specs.declared.root.Root.{Root}
use Rattle.fw_root.specs.OfFlow.{Given, nodes_as, limit_for, allows_size, allows_stamp, low_extent, third_extent}

-- ---- what may stand after what

-- an outside stamp may come next: it is the domain's, allowed, and in order
abbrev pub may_follow_outside : Bounds → Extent → Front → Stamp → Bool
may_follow_outside bounds extent before s = in_domain bounds s && (allows_stamp bounds extent s && may_follow_stamps before s)

-- whether there are records with the tag, so far
abbrev pub is_write_tag : ℕ → Bool
is_write_tag tag = tag == 1 || (tag == 2 || tag == 3)

-- ids ascend strictly below the next one, of nodes that the flow has
abbrev pub may_follow_writes : Dataflow → ℕ → List NamedWrite → NamedWrite → Bool
may_follow_writes flow next_id before w =
    nat_lt w.id next_id
    && (nat_lt w.node (length flow.nodes) && (is_write_tag w.tag && after_last (λ last next. nat_lt last.id next.id) before w))

-- whether one of the writes has the id
abbrev pub has_id : ℕ → List NamedWrite → Bool
has_id id ws = list_any (λ w. w.id == id) ws

-- other ids ascend strictly below the next one
abbrev pub may_follow_others : ℕ → List NamedWrite → List ℕ → ℕ → Bool
may_follow_others next_id ws before id = nat_lt id next_id && (not (has_id id ws) && after_last nat_lt before id)

-- whether a place and a stamp come before others in order
abbrev pub comes_before : ℕ → Stamp → ℕ → Stamp → Bool
comes_before i s j t = is_lt (ordering_then (nat_cmp i j) (stamp_cmp s t))

-- pending counts are at least 1, on edges of the flow at stamps of the receiver's domain, and ascend strictly by edge and stamp
abbrev pub may_follow_pending : Dataflow → List PendingAt → PendingAt → Bool
may_follow_pending flow before p =
    nat_lt p.edge (length flow.edges)
    && (in_domain (bounds_of flow (receiver flow p.edge)) p.at
    && (nat_lt 0 p.count && after_last (λ last next. comes_before last.edge last.at next.edge next.at) before p))

-- stamps are owed to nodes of the flow, of their domains, and ascend strictly by node and stamp
abbrev pub may_follow_owed : Dataflow → List OwedAt → OwedAt → Bool
may_follow_owed flow before o =
    nat_lt o.node (length flow.nodes)
    && (in_domain (bounds_of flow o.node) o.at && after_last (λ last next. comes_before last.node last.at next.node next.at) before o)

-- a sequence sent from stamps of its domain, and they ascend strictly
abbrev pub may_follow_sends : Dataflow → ℕ → List SentCount → SentCount → Bool
may_follow_sends flow p before s = in_domain (bounds_of flow p) s.cause && may_follow_counts before s

-- ---- the form of each part

-- so many bytes
pub record AreSoMany (n : ℕ) (text : List ℕ) : Type 0 where
  pub many : length text ≡ n
  pub bytes : AreBytes text

-- three digests of 32 bytes
pub record AreDigests (d : Digests) : Type 0 where
  pub flow : AreSoMany 32 d.flow
  pub inputs : AreSoMany 32 d.inputs
  pub schedule : AreSoMany 32 d.schedule

-- the lines are bytes, and as many as eight bytes can say
pub record AreLines (lines : List ℕ) : Type 0 where
  pub few : length lines < 2 ^ 64
  pub bytes : AreBytes lines

-- the numbers of a mark are below 2^62
pub record IsMark (m : Mark) : Type 0 where
  pub digests : AreDigests m.digests
  pub turn : m.turn < 2 ^ 62
  pub line : m.line < 2 ^ 62
  pub singles : m.singles < 2 ^ 62
  pub steps : m.steps < 2 ^ 62
  pub idle : m.idle < 2 ^ 62
  pub lines : AreLines m.lines

-- a number may stand for a node
pub record IsNumberFor (flow : Dataflow) (batches : Given) (p n : ℕ) : Type 0 where
  pub small : n < 2 ^ 64
  pub within : n ≤ limit_for flow batches p

-- a front of the domain, in its one spelling, that is allowed there
pub record IsFrontIn (bounds : Bounds) (extent : Extent) (f : Front) : Type 0 where
  pub outside : IsList (2 ^ 32) IsStamp (may_follow_outside bounds extent) f
  pub size : allows_size extent (length f) ≡ true

-- the three frontiers of a node, where the inputs injected so much
pub record AreNodeFronts (flow : Dataflow) (batches : Given) (injected : List ℕ) (p : ℕ) (f : NodeFronts) : Type 0 where
  pub settled : IsFrontIn (bounds_of flow p) Any f.settled
  pub low : IsFrontIn (bounds_of flow p) (low_extent flow batches injected p) f.low
  pub third : IsFrontIn (bounds_of flow p) (third_extent flow p) f.third

-- a write with its id
pub record IsNamedWrite (w : NamedWrite) : Type 0 where
  pub id : w.id < 2 ^ 64
  pub node : w.node < 2 ^ 32
  pub tag : w.tag < 256

-- a count of what is pending
pub record IsPendingAt (p : PendingAt) : Type 0 where
  pub edge : p.edge < 2 ^ 32
  pub at : IsStamp p.at
  pub count : p.count < 2 ^ 64

-- a stamp that is owed
pub record IsOwedAt (o : OwedAt) : Type 0 where
  pub node : o.node < 2 ^ 32
  pub at : IsStamp o.at

-- ids of 64 bits
abbrev pub IsId : ℕ → Type 0
IsId id = id < 2 ^ 64

-- the counts of a sequence
abbrev pub AreCountsOfSequence : Dataflow → ℕ → List SentCount → Type 0
AreCountsOfSequence flow p ss = IsList (2 ^ 32) IsSentCount (may_follow_sends flow p) ss

-- The root is one of the dataflow and its batches.
pub record IsRootFor (flow : Dataflow) (batches : Given) (r : Root) : Type 0 where
  pub mark : IsMark r.mark
  pub next_id : r.next_id < 2 ^ 62
  pub injected : AllZip (IsNumberFor flow batches) (nodes_as flow role.Input) r.injected
  pub bounds : AllZip (IsNumberFor flow batches) (nodes_as flow role.Output) r.bounds
  pub fronts : AllZip (AreNodeFronts flow batches r.injected) (node_ids flow) r.fronts
  pub writes : IsList (2 ^ 64) IsNamedWrite (may_follow_writes flow r.next_id) r.writes
  pub others : IsList (2 ^ 64) IsId (may_follow_others r.next_id r.writes) r.others
  pub pending : IsList (2 ^ 64) IsPendingAt (may_follow_pending flow) r.pending
  pub owed : IsList (2 ^ 64) IsOwedAt (may_follow_owed flow) r.owed
  pub sends : AllZip (AreCountsOfSequence flow) (nodes_as flow role.ByCount) r.sends
