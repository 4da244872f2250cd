-- What is left of a history of which each node keeps the events inside a frontier.
use Rattle.std.specs.Prelude.{◌≡◌, ℕ, ◌<◌, true, not, List, filter, length}
use Rattle.std.specs.List.{AllByRecursion, flat_map}
use Rattle.fw_frontier.specs.Frontier.{Frontier, IsFrontier, Within}
use Rattle.fw_flow.specs.declared.choice.Choice.{Choice}
use Rattle.fw_flow.specs.declared.event.Event.{Event}
use Rattle.fw_flow.specs.declared.event.Message.{Message}
use Rattle.fw_flow.specs.Dataflow.{bounds_of, Dataflow, System, sender, receiver}
use Rattle.fw_flow.specs.NodeFunction.{event_stamp, event_node}
use Rattle.fw_flow.specs.Projection.{all_inside, phi}
use Rattle.fw_model.specs.Choice.{IsNoticeKept, HasItsNotices, NoticeComesFromSender, ComesFromSender}
use Rattle.fw_model.specs.Covers.{covers_in, stamp_of_notice}
use Rattle.fw_model.specs.History.{delivered_messages}
use Rattle.fw_model.specs.Machine.{Machine}

-- the stamps that each node keeps are a frontier of its domain
abbrev pub AreFrontiers : Dataflow → (ℕ → Frontier) → Type 0
AreFrontiers flow keep = (p : ℕ) → IsFrontier (bounds_of flow p) (keep p)

-- the events of a history inside what their nodes keep
abbrev pub kept_events : Dataflow → (ℕ → Frontier) → List Event → List Event
kept_events flow keep h = filter (λ v. keep (event_node flow v) (event_stamp v)) h

-- the events at stamps inside
abbrev pub events_inside : Frontier → List Event → List Event
events_inside f vs = filter (λ v. f (event_stamp v)) vs

-- the messages at stamps inside
abbrev pub messages_inside : Frontier → List Message → List Message
messages_inside f ms = filter (λ m. f m.at) ms

-- the messages at stamps outside
abbrev pub messages_outside : Frontier → List Message → List Message
messages_outside f ms = filter (λ m. not (f m.at)) ms

-- the messages all of whose causes are inside
abbrev pub messages_from : Frontier → List Message → List Message
messages_from f ms = filter (λ m. all_inside f m.causes) ms

-- on each edge what was delivered inside what the receiver keeps is inside phi of what the sender keeps
abbrev pub ComeFromKept : System → List Event → (ℕ → Frontier) → Type 0
ComeFromKept sys h keep = (e : ℕ)
    → AllByRecursion (λ (m : Message). keep (receiver sys.flow e) m.at ≡ true → phi sys h e (keep (sender sys.flow e)) m.at ≡ true)
    (delivered_messages h e)

-- on each edge what was delivered inside what the receiver keeps has all its causes inside what the sender keeps
abbrev pub HaveKeptCauses : Dataflow → List Event → (ℕ → Frontier) → Type 0
HaveKeptCauses flow h keep = (e : ℕ)
    → AllByRecursion (λ (m : Message). keep (receiver flow e) m.at ≡ true → all_inside (keep (sender flow e)) m.causes ≡ true)
    (delivered_messages h e)

-- What nodes keep of a history is consistent, with a notification frontier for each. On each edge what was delivered
-- inside what the receiver keeps comes from what the sender keeps. What a node was notified of inside what it keeps lies
-- in its notification frontier, which lies in what it keeps and comes from the sender's.
pub record IsConsistentlyKept (sys : System) (h : List Event) (keep notice : ℕ → Frontier) : Type 0 where
  pub kept : AreFrontiers sys.flow keep
  pub noted : AreFrontiers sys.flow notice
  pub delivered : ComeFromKept sys h keep
  pub notified : (p : ℕ) → AllByRecursion (λ t. keep p t ≡ true → notice p t ≡ true) (flat_map (stamp_of_notice p) h)
  pub own : (p : ℕ) → Within (notice p) (keep p)
  pub notices : (e : ℕ) → Within (notice (receiver sys.flow e)) (phi sys h e (notice (sender sys.flow e)))

-- A choice meets the inclusions by which what nodes keep is consistent, whether it is offered or not.
pub record MeetsInclusions (sys : System) (state : Machine) (choice : Choice) : Type 0 where
  pub one_cut_each : length choice.cuts ≡ length sys.flow.nodes
  pub one_notice_each : length choice.notices ≡ length sys.flow.nodes
  pub delivered : (d : ℕ) → d < length sys.flow.edges → ComesFromSender sys.flow (covers_in sys state) choice d
  pub notified : (p : ℕ) → p < length sys.flow.nodes → HasItsNotices sys.flow (covers_in sys state) choice p
  pub own : (p : ℕ) → p < length sys.flow.nodes → IsNoticeKept sys.flow choice p
  pub notices : (d : ℕ) → d < length sys.flow.edges → NoticeComesFromSender sys.flow (covers_in sys state) choice d
