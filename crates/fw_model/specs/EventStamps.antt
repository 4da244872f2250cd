-- Stamps of a node's events as data: they stand for where its events are and where they sent, thinned inside a base.
use Rattle.std.specs.Prelude.{◌≡◌, ℕ, ◌<◌, Bool, true, not, ◌&&◌, Some, List, [], ◌∷◌, length, map, if◌then◌else◌}
use Rattle.std.specs.List.{AllByRecursion, flat_map}
use Rattle.fw_time.specs.Stamp.{Stamp, in_domain}
use Rattle.fw_frontier.specs.Frontier.{Frontier, everything}
use Rattle.fw_flow.specs.declared.choice.Counted.{Counted}
use Rattle.fw_flow.specs.declared.choice.Stamps.{Stamps}
use Rattle.fw_flow.specs.declared.event.Event.{Event}
use Rattle.fw_flow.specs.declared.event.Message.{Message}
use Rattle.fw_flow.specs.Dataflow.{System, Dataflow, kind_of, policy_of, sender, receiver, bounds_of, send_stamp, is_sequence_kind}
use Rattle.fw_flow.specs.Restoring.{can_resend}
use Rattle.fw_model.specs.Sending.{is_single_kind}
use Rattle.fw_model.specs.Alike.{StandForCauses}
use Rattle.fw_model.specs.Covers.{stamp_of_notice}
use Rattle.fw_model.specs.History.{delivered_messages, sent_messages}
use Rattle.fw_model.specs.Offers.{AreAtEdgeStamps, counted_on_edge, stamps_on, stamps_on_from}
use Rattle.fw_model.specs.Thinned.{IsThinned, IsThinnedIf}
use Rattle.fw_model.specs.Writes.{takes_checkpoints}

-- the causes of these messages, in a row
abbrev pub causes_of : List Counted → List Stamp
causes_of ms = flat_map (λ (m : Counted). m.causes) ms

-- the causes of these messages as the machine has them, in a row
abbrev pub causes_in : List Message → List Stamp
causes_in ms = flat_map (λ (m : Message). m.causes) ms

-- the message has one cause, and is at the send stamp of node p at it
abbrev pub IsOfCause : Dataflow → ℕ → Counted → Type 0
IsOfCause flow p m = (t : Stamp) × (send_stamp flow p t ≡ Some m.at) × (m.causes ≡ t ∷ [])

-- Messages on edge e stand for those that node p sent there, which is of a single kind: they are at the send stamps of their
-- causes, and the causes stand for those of what was sent, perhaps not the whole.
pub record StandForSent (whole : Bool) (sys : System) (h : List Event) (p : ℕ) (base : Frontier) (e : ℕ) (ms : List Counted) : Type 0 where
  pub of_cause : AllByRecursion (IsOfCause sys.flow p) ms
  pub thinned : StandForCauses sys.flow p whole base (causes_in (sent_messages sys h e)) (causes_of ms)

-- Messages stand for those that a sequence sent on edge e: they are at these numbers, thinned everywhere, so that one is at
-- the last number at least.
abbrev pub StandForNumbered : System → List Event → ℕ → List Counted → Type 0
StandForNumbered sys h e ms =
    IsThinned (everything (bounds_of sys.flow (receiver sys.flow e))) (map (λ (m : Message). m.at) (sent_messages sys h e))
    (stamps_on_from e (everything (bounds_of sys.flow (sender sys.flow e))) ms)

-- whether it is told where a node sent: of one that cannot send again what it sent
abbrev pub tells_sent : Dataflow → ℕ → Bool
tells_sent flow p = not (can_resend (policy_of flow p))

-- the base of where a node sent: where that need not be told it is everything, so that any of it may be missing
abbrev pub base_of_sent : Dataflow → ℕ → Frontier → Frontier
base_of_sent flow p base = if tells_sent flow p then base else λ t. true

-- The stamps stand for the events of node p in a history, thinned inside a base; where perhaps not the whole is asked, of those inside
-- it some may be missing. Where a node sent that can send it again need not be told.
pub record AreStampsIf (whole : Bool) (sys : System) (h : List Event) (p : ℕ) (base : Frontier) (stamps : Stamps) : Type 0 where
  pub on_edges : AreAtEdgeStamps sys.flow stamps.delivered × AreAtEdgeStamps sys.flow stamps.sent
  pub in_domain : AllByRecursion (λ t. in_domain (bounds_of sys.flow p) t ≡ true) stamps.notified
  pub delivered : (d : ℕ) → receiver sys.flow d ≡ p
      → IsThinnedIf whole base (map (λ (m : Message). m.at) (delivered_messages h d)) (stamps_on d stamps.delivered)
  pub notified : IsThinnedIf whole base (flat_map (stamp_of_notice p) h) stamps.notified
  pub sent : is_single_kind (kind_of sys.flow p) ≡ true → (e : ℕ) → e < length sys.flow.edges → sender sys.flow e ≡ p
      → StandForSent (whole && tells_sent sys.flow p) sys h p (base_of_sent sys.flow p base) e (counted_on_edge e stamps.sent)
  pub numbered : is_sequence_kind (kind_of sys.flow p) ≡ true → tells_sent sys.flow p ≡ true → (e : ℕ) → e < length sys.flow.edges
      → sender sys.flow e ≡ p → StandForNumbered sys h e stamps.sent

-- the same, where the whole is asked of a node that takes checkpoints
abbrev pub AreStampsOf : System → List Event → ℕ → Frontier → Stamps → Type 0
AreStampsOf sys h p base stamps = AreStampsIf (takes_checkpoints (policy_of sys.flow p)) sys h p base stamps
