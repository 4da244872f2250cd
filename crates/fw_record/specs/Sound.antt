-- Which records have a spelling: the form of each part, and what may stand after what.
use Rattle.std.specs.Prelude.{ℕ, ◌<◌, ◌^◌, Bool, nat_lt, List, [], ◌∷◌}
use Rattle.std.specs.declared.cmp.Ordering.{Ordering}
use Rattle.std.specs.Ordering.{nat_cmp, ordering_then, is_le}
use Rattle.std.specs.Cmp.Lexicographic.{slice_cmp}
use Rattle.fw_time.specs.Stamp.{Stamp, stamp_cmp}
use Rattle.fw_bag.specs.declared.rec.Rec.{Rec}
use Rattle.fw_bag.specs.Bag.{IsRec}
use Rattle.fw_bag.specs.Rec.{rec_cmp}
use Rattle.fw_frontier.specs.declared.state.Entries.{Entries}
use Rattle.fw_frontier.specs.declared.state.Entries.TheVariants.{Totals}
use Rattle.fw_frontier.specs.declared.state.State.{State}
use Rattle.fw_bytes.specs.Sound.{after_last, IsList, IsStamp, IsFront, AreSentCounts}
use Rattle.fw_flow.specs.declared.choice.OfEdge.{OfEdge}
use Rattle.fw_record.specs.declared.logged.Logged.{Logged}
use Rattle.fw_record.specs.declared.record.Checkpoint.{Checkpoint}
use Rattle.fw_record.specs.declared.record.Event.{Event}
use Rattle.fw_record.specs.declared.record.Event.TheVariants.{Deliver, Notify}
use Rattle.fw_record.specs.declared.record.Record.{Record}
use Rattle.fw_record.specs.declared.record.Record.TheVariants as tagged

-- ---- what may stand after what

-- edges ascend strictly
abbrev pub may_follow_edges : List OfEdge → ℕ → Bool
may_follow_edges es edge = after_last (λ last next. nat_lt last.edge next) es edge

-- keys ascend strictly
abbrev pub may_follow_totals : List Rec → Rec → Bool
may_follow_totals rs r = after_last (λ last next. nat_lt last.key next.key) rs r

-- the order of logged messages: by edge, stamp, causes and rec
abbrev pub logged_cmp : Logged → Logged → Ordering
logged_cmp x y =
    ordering_then (nat_cmp x.edge y.edge)
    (ordering_then (stamp_cmp x.message.at y.message.at)
    (ordering_then (slice_cmp stamp_cmp x.message.causes y.message.causes) (rec_cmp x.message.rec y.message.rec)))

-- logged messages ascend, equal ones repeated
abbrev pub may_follow_logged : List Logged → Logged → Bool
may_follow_logged ms m = after_last (λ last next. is_le (logged_cmp last next)) ms m

-- ---- the form of each part

-- an edge with a front
pub record IsEdgeFront (e : OfEdge) : Type 0 where
  pub edge : e.edge < 2 ^ 32
  pub front : IsFront e.front

-- edges with fronts, in order
abbrev pub AreOfEdges : List OfEdge → Type 0
AreOfEdges es = IsList (2 ^ 32) IsEdgeFront (λ before e. may_follow_edges before e.edge) es

-- totals, in order
abbrev pub AreTotals : List Rec → Type 0
AreTotals rs = IsList (2 ^ 64) IsRec may_follow_totals rs

-- what a node holds
abbrev pub AreEntries : Entries → Type 0
AreEntries (Totals totals) = AreTotals totals

-- a node's table
pub record IsState (s : State) : Type 0 where
  pub sent : s.sent < 2 ^ 64
  pub sends : AreSentCounts s.sends
  pub entries : AreEntries s.entries

-- one stamp alone: a message of this version has one cause
abbrev pub IsOneStamp : List Stamp → Type 0
IsOneStamp [] = ⊥
IsOneStamp (s ∷ []) = IsStamp s
IsOneStamp (s ∷ t ∷ ss) = ⊥

-- a logged message
pub record IsLoggedMessage (m : Logged) : Type 0 where
  pub edge : m.edge < 2 ^ 32
  pub at : IsStamp m.message.at
  pub causes : IsOneStamp m.message.causes
  pub rec : IsRec m.message.rec

-- logged messages, in order
abbrev pub IsLog : List Logged → Type 0
IsLog ms = IsList (2 ^ 64) IsLoggedMessage may_follow_logged ms

-- a checkpoint
pub record IsCheckpoint (c : Checkpoint) : Type 0 where
  pub node : c.node < 2 ^ 32
  pub front : IsFront c.recorded.front
  pub notified : IsFront c.recorded.notified
  pub delivered : AreOfEdges c.recorded.delivered
  pub discarded : AreOfEdges c.recorded.discarded
  pub state : IsState c.state
  pub log : IsLog c.log

-- an event
abbrev pub IsEvent : Event → Type 0
IsEvent (Deliver edge at rec) = (edge < 2 ^ 32) × IsStamp at × IsRec rec
IsEvent (Notify at) = IsStamp at

-- the record has a spelling
abbrev pub IsSound : Record → Type 0
IsSound (tagged.State c) = IsCheckpoint c
IsSound (tagged.Event node event) = (node < 2 ^ 32) × IsEvent event
IsSound (tagged.Changes base c) = (base < 2 ^ 64) × IsCheckpoint c
