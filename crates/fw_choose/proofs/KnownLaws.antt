-- Where all stamps of a node are known, what is to be known of them is, also if the node counts as failed.
use Rattle.std.proofs.Common.{◌≡◌, ◌↔◌, ℕ, Bool, true, false, cond, not, ◌||◌, ◌==◌, List, [], ◌∷◌, filter}
use Rattle.std.specs.List.{AllByRecursion, Contains, flat_map}
use Rattle.fw_lemmas.proofs.Each.{each-append, each-map, each-prefix, each-suffix, each_of-map}
use Rattle.fw_time.specs.Stamp.{Stamp}
use Rattle.fw_frontier.specs.Front.{Front}
use Rattle.fw_flow.specs.declared.choice.Stamps.{Stamps}
use Rattle.fw_flow.specs.declared.event.Event.{Event}
use Rattle.fw_flow.specs.declared.event.Message.{Message}
use Rattle.fw_flow.specs.declared.restoring.Restoring.{Restoring}
use Rattle.fw_flow.specs.declared.restoring.Restoring.TheVariants.{Batches, Bound, Anything, Checkpoints, Events}
use Rattle.fw_flow.specs.Dataflow.{System}
use Rattle.fw_flow.specs.NodeFunction.{event_node}
use Rattle.fw_flow.specs.Restoring.{way_of}
use Rattle.fw_model.specs.Choice.{is_serial_logged, logged_history}
use Rattle.fw_model.specs.Covers.{stamp_of_notice}
use Rattle.fw_model.specs.EventStamps.{AreStampsOf}
use Rattle.fw_model.specs.History.{message_on, delivered_messages}
use Rattle.fw_model.specs.Machine.{Machine, SerialEvent, events}
use Rattle.fw_model.specs.Offers.{stamps_on}
use Rattle.fw_policy.specs.View.{IsKnownOf, IsKnownOfFailed, IsLostAt, KnowsLosses, base_of}

-- what holds of each that is taken of events holds of each that is taken of some of them
left-each : {A : Type 0} (P : A → Type 0) (g : Event → List A) (keep : SerialEvent → Bool) (h : List SerialEvent) → AllByRecursion P (flat_map g (events h))
    → AllByRecursion P (flat_map g (events (filter keep h)))
left-each P g keep [] a = tt
left-each {A} P g keep (v ∷ h) a = by (keep v) (left-each P g keep h (each-suffix P (g v.event) (flat_map g (events h)) a))
  where
    by : (b : Bool) → AllByRecursion P (flat_map g (events (filter keep h))) → AllByRecursion P (flat_map g (events (cond b (v ∷ filter keep h) (filter keep h))))
    by true rest = each-append P (g v.event) (flat_map g (events (filter keep h))) (each-prefix P (g v.event) (flat_map g (events h)) a) rest
    by false rest = rest

failed-known : (sys : System) (floor : List Front) (state : Machine) (p : ℕ) (stamps : Stamps) → AreStampsOf sys (events state.history) p (base_of sys floor state p) stamps
    → (way : Restoring) → IsKnownOfFailed sys floor state p stamps way
failed-known sys floor state p stamps a Batches = a
failed-known sys floor state p stamps a Bound = a.notified.among
failed-known sys floor state p stamps a Anything = a.notified.among
failed-known sys floor state p stamps a Checkpoints = a.notified.among
failed-known sys floor state p stamps a Events =
    let h = events state.history in
    let base = base_of sys floor state p in
    let keep : SerialEvent → Bool = λ v. not (event_node sys.flow v.event == p) || is_serial_logged v.serial state.writes in
    record {
      delivered = λ d at.
          let t = a.delivered d at in
          let Kept : Stamp → Type 0 = λ s. base s ≡ false → Contains (stamps_on d stamps.delivered) s in (
            t.among,
            each-map Kept (λ (m : Message). m.at) (delivered_messages (logged_history sys state p) d)
                (left-each (λ (m : Message). Kept m.at) (message_on d) keep state.history (each_of-map Kept (λ (m : Message). m.at) (delivered_messages h d) t.outside)),
          );
      notified = (a.notified.among, left-each (λ s. base s ≡ false → Contains stamps.notified s) (stamp_of_notice p) keep state.history a.notified.outside);
    }

pub stamps-known : (sys : System) (floor : List Front) (state : Machine) (p : ℕ) (stamps : Stamps) → AreStampsOf sys (events state.history) p (base_of sys floor state p) stamps
    → (lost : Bool) → IsKnownOf sys floor state p stamps lost
stamps-known sys floor state p stamps a true = failed-known sys floor state p stamps a (way_of sys.flow p)
stamps-known sys floor state p stamps a false = a

-- where all stamps are known at which events were lost, enough of them is
pub losses-known : (sys : System) (state : Machine) (p : ℕ) (gone : List Stamp) → ((t : Stamp) → Contains gone t ↔ IsLostAt sys state p t) → KnowsLosses sys state p gone
losses-known sys state p gone k t i = (λ x. (x.0, (k x.0).0 x.1, x.2), λ x. (x.0, (k x.0).1 x.1, x.2))
