-- Where steps ask for a write.
use Rattle.std.proofs.Common.{◌≡◌, ◌<◌, ℕ, [], ◌∷◌, ◌++◌, List, length, Option, sym, subst, arith}
use Rattle.std.proofs.lemmas.List.{length-append}
use Rattle.fw_time.specs.Stamp.{Stamp}
use Rattle.fw_flow.specs.declared.event.Event.{Event}
use Rattle.fw_flow.specs.declared.event.Event.TheVariants.{Deliver as Delivered, Notify as Notified}
use Rattle.fw_flow.specs.declared.kind.Policy.{Policy}
use Rattle.fw_flow.specs.declared.kind.Policy.TheVariants as policy
use Rattle.fw_flow.specs.declared.step.Step.TheVariants.{Deliver, Notify, Checkpoint}
use Rattle.fw_flow.specs.Dataflow.{System, policy_of, receiver}
use Rattle.fw_flow.specs.NodeFunction.{event_node}
use Rattle.fw_model.specs.Machine.{Machine, Write, front_of}
use Rattle.fw_model.specs.Steps.{Effect, LeadsTo, checkpoint_of, with_event, write_of_event}
use Rattle.fw_running.specs.Steps.{AsksAWrite, IsStepEnabled}

-- a list with one more
one-more : (writes : List Write) (write : Write) → length writes < length (writes ++ write ∷ [])
one-more writes write = let long = length-append writes (write ∷ []) in omega (arith, long)

-- an event of a node that logs each
logged-more : (sys : System) (state : Machine) (v : Event) → policy_of sys.flow (event_node sys.flow v) ≡ policy.Full
    → length state.writes < length (with_event sys state v).writes
logged-more sys state v full =
    subst (λ (p : Policy). length state.writes < length (state.writes ++ write_of_event p (event_node sys.flow v) state.next)) (sym full)
    (one-more state.writes _)

pub delivery-more : (sys : System) (state : Machine) (e : ℕ) (at : Option Stamp) → policy_of sys.flow (receiver sys.flow e) ≡ policy.Full
    → (next : Machine) (effect : Effect) → LeadsTo sys state (Deliver e at) next effect → length state.writes < length next.writes
delivery-more sys state e at full next effect leads =
    subst (λ (m : Machine). length state.writes < length m.writes) (sym leads.3) (logged-more sys state (Delivered e leads.0) full)

pub notification-more : (sys : System) (state : Machine) (p : ℕ) (at : Option Stamp) → policy_of sys.flow p ≡ policy.Full
    → (next : Machine) (effect : Effect) → LeadsTo sys state (Notify p at) next effect → length state.writes < length next.writes
notification-more sys state p at full next effect leads =
    subst (λ (m : Machine). length state.writes < length m.writes) (sym leads.3) (logged-more sys state (Notified p leads.0) full)

-- so where these are enabled, they ask for a write
pub delivery-asks : (sys : System) (state : Machine) (e : ℕ) (at : Option Stamp) → policy_of sys.flow (receiver sys.flow e) ≡ policy.Full
    → IsStepEnabled sys state (Deliver e at) → AsksAWrite sys state (Deliver e at)
delivery-asks sys state e at full is = (is.0, is.1, is.2, delivery-more sys state e at full is.0 is.1 is.2)

pub notification-asks : (sys : System) (state : Machine) (p : ℕ) (at : Option Stamp) → policy_of sys.flow p ≡ policy.Full
    → IsStepEnabled sys state (Notify p at) → AsksAWrite sys state (Notify p at)
notification-asks sys state p at full is = (is.0, is.1, is.2, notification-more sys state p at full is.0 is.1 is.2)

-- and so does a checkpoint
pub checkpoint-asks : (sys : System) (state : Machine) (p : ℕ) → IsStepEnabled sys state (Checkpoint p) → AsksAWrite sys state (Checkpoint p)
checkpoint-asks sys state p is =
    let more = subst (λ (m : Machine). length state.writes < length m.writes) (sym is.2.3) (one-more state.writes (checkpoint_of state p (front_of state.settled p))) in
    (is.0, is.1, is.2, more)
