-- What counts of the nodes' events inside a cut: as delivered, as sent and not to be sent again, and as notified.
use Rattle.std.specs.Prelude.{ℕ, Bool, true, false, ◌==◌, if◌then◌else◌, List, [], ◌∷◌, map, filter}
use Rattle.std.specs.List.{flat_map}
use Rattle.fw_time.specs.Stamp.{Stamp}
use Rattle.fw_frontier.specs.Frontier.{Frontier, nothing, everything, cover}
use Rattle.fw_frontier.specs.Front.{Front}
use Rattle.fw_flow.specs.declared.choice.Cut.{Cut}
use Rattle.fw_flow.specs.declared.choice.Cut.TheVariants.{Present, At}
use Rattle.fw_flow.specs.declared.event.Event.{Event}
use Rattle.fw_flow.specs.declared.event.Event.TheVariants.{Inject, Deliver, Notify}
use Rattle.fw_flow.specs.declared.event.Message.{Message}
use Rattle.fw_flow.specs.Kind.{Kind}
use Rattle.fw_flow.specs.declared.kind.Policy.{Policy}
use Rattle.fw_flow.specs.declared.kind.Policy.TheVariants as policy
use Rattle.fw_flow.specs.declared.restoring.Restoring.{Restoring}
use Rattle.fw_flow.specs.declared.restoring.Restoring.TheVariants.{Batches, Bound, Anything, Checkpoints, Events}
use Rattle.fw_flow.specs.Dataflow.{System, Dataflow, kind_of, policy_of, sender, receiver, bounds_of, is_notified_kind, node_frontier}
use Rattle.fw_flow.specs.Restoring.{can_resend, way_of}
use Rattle.fw_flow.specs.Projection.{all_inside, phi, psi}
use Rattle.fw_model.specs.History.{delivered_messages, sent_messages}
use Rattle.fw_model.specs.Machine.{Machine, events}

-- the set of a cut: all where the node stays as it is
abbrev pub set_of : Dataflow → ℕ → Cut → Frontier
set_of flow p Present = everything (bounds_of flow p)
set_of flow p (At f) = node_frontier flow p f

-- What is counted of the nodes' events, as covers: of what was delivered on an edge inside a cut of its receiver; of what was
-- sent on an edge by events inside a cut of its sender; and of what a node was notified of inside a cut. And what of an edge
-- comes from a frontier of its sender.
pub record Tallies : Type 0 where
  pub delivered : ℕ → Cut → Frontier
  pub sent : ℕ → Cut → Frontier
  pub notified : ℕ → Cut → Frontier
  pub arrived : ℕ → Frontier → Frontier

-- What counts of a node's events in a cut: as delivered on an in-edge; as sent on an out-edge, and it can't be sent again;
-- and as notified. And what of an edge comes from a frontier of its sender.
pub record Covers : Type 0 where
  pub delivered : ℕ → Cut → Frontier
  pub discarded : ℕ → Cut → Frontier
  pub notified : ℕ → Cut → Frontier
  pub arrived : ℕ → Frontier → Frontier

-- whether a node that is restored by anything settled or acknowledged takes all of its cut as delivered
abbrev pub takes_its_cut : Restoring → Bool
takes_its_cut Batches = false
takes_its_cut Bound = true
takes_its_cut Anything = true
takes_its_cut Checkpoints = false
takes_its_cut Events = false

-- whether a node that keeps nothing is notified, and so takes all of its cut as notified
abbrev pub takes_its_notices : Kind → Policy → Bool
takes_its_notices kind policy.None = is_notified_kind kind
takes_its_notices kind p = false

-- what counts as delivered on edge d inside a cut of its receiver
abbrev pub delivered_cover : Dataflow → Tallies → ℕ → Cut → Frontier
delivered_cover flow tallies d Present = tallies.delivered d Present
delivered_cover flow tallies d (At f) =
    if takes_its_cut (way_of flow (receiver flow d)) then node_frontier flow (receiver flow d) f
    else tallies.delivered d (At f)

-- what of this that was sent on edge e inside a frontier cannot be sent again, by the way in which the sender is restored:
-- a node that is restored by anything settled counts as having sent whatever it can
abbrev pub discarded_at : Dataflow → ℕ → Restoring → Frontier → Front → Frontier
discarded_at flow e Anything sent f = psi flow e (node_frontier flow (sender flow e) f)
discarded_at flow e way sent f = sent

-- what was sent on edge e inside a cut of its sender and cannot be sent again
abbrev pub discarded_cover : Dataflow → Tallies → ℕ → Cut → Frontier
discarded_cover flow tallies e Present =
    if can_resend (policy_of flow (sender flow e)) then nothing else tallies.sent e Present
discarded_cover flow tallies e (At f) =
    if can_resend (policy_of flow (sender flow e)) then nothing
    else discarded_at flow e (way_of flow (sender flow e)) (tallies.sent e (At f)) f

-- what counts as notified of node p inside a cut
abbrev pub notified_cover : Dataflow → Tallies → ℕ → Cut → Frontier
notified_cover flow tallies p Present = tallies.notified p Present
notified_cover flow tallies p (At f) =
    if takes_its_notices (kind_of flow p) (policy_of flow p) then node_frontier flow p f else tallies.notified p (At f)

-- what counts in a cut, by what is counted and by the policies and kinds of the nodes
abbrev pub covers_by : Dataflow → Tallies → Covers
covers_by flow tallies = record {
  delivered = λ d cut. delivered_cover flow tallies d cut;
  discarded = λ e cut. discarded_cover flow tallies e cut;
  notified = λ p cut. notified_cover flow tallies p cut;
  arrived = λ e f. tallies.arrived e f;
}

-- the stamps of these messages that are inside
abbrev pub stamps_inside : Frontier → List Message → List Stamp
stamps_inside f ms = filter f (map (λ m. m.at) ms)

-- the stamps of the messages all of whose causes are inside
abbrev pub stamps_from : Frontier → List Message → List Stamp
stamps_from f ms = map (λ m. m.at) (filter (λ m. all_inside f m.causes) ms)

-- the stamp of which an event notified node p, if it did
abbrev pub stamp_of_notice : ℕ → Event → List Stamp
stamp_of_notice p (Inject s x) = []
stamp_of_notice p (Deliver e m) = []
stamp_of_notice p (Notify q t) = if q == p then t ∷ [] else []

-- the stamps inside of which node p was notified
abbrev pub notified_inside : ℕ → Frontier → List Event → List Stamp
notified_inside p f h = filter f (flat_map (stamp_of_notice p) h)

-- what is counted in a state of the machine, in its history
abbrev pub tallies_in : System → Machine → Tallies
tallies_in sys state = record {
  delivered = λ d cut. cover (bounds_of sys.flow (receiver sys.flow d))
      (stamps_inside (set_of sys.flow (receiver sys.flow d) cut) (delivered_messages (events state.history) d));
  sent = λ e cut. cover (bounds_of sys.flow (receiver sys.flow e))
      (stamps_from (set_of sys.flow (sender sys.flow e) cut) (sent_messages sys (events state.history) e));
  notified = λ p cut. cover (bounds_of sys.flow p) (notified_inside p (set_of sys.flow p cut) (events state.history));
  arrived = λ e f. phi sys (events state.history) e f;
}

-- what counts in a state of the machine
abbrev pub covers_in : System → Machine → Covers
covers_in sys state = covers_by sys.flow (tallies_in sys state)
