-- What is to be sent again after a recovery, and what logs hold of it.
use Rattle.std.specs.Prelude.{◌≡◌, ℕ, ◌<◌, false, List, length}
use Rattle.std.specs.List.{AllByRecursion}
use Rattle.fw_frontier.specs.Front.{Front}
use Rattle.fw_frontier.specs.Frontier.{Frontier}
use Rattle.fw_flow.specs.declared.choice.Choice.{Choice}
use Rattle.fw_flow.specs.declared.event.Message.{Message}
use Rattle.fw_flow.specs.Dataflow.{System, receiver, sender, node_frontier}
use Rattle.fw_model.specs.Choice.{kept_of}
use Rattle.fw_model.specs.Filtering.{messages_outside, messages_from}
use Rattle.fw_model.specs.History.{sent_messages}
use Rattle.fw_model.specs.Machine.{front_of, Machine, events, Written, checkpoint, logged_event}

-- the frontier that a list of one for each node has at the receiver of edge e
abbrev pub at_receiver : System → List Front → ℕ → Frontier
at_receiver sys fronts e = node_frontier sys.flow (receiver sys.flow e) (front_of fronts (receiver sys.flow e))

-- what was sent on edge e from inside f, but for what lies inside low at the receiver: what a log holds
abbrev pub logged_messages : System → Machine → List Front → ℕ → Frontier → List Message
logged_messages sys state low e f = messages_outside (at_receiver sys low e) (messages_from f (sent_messages sys (events state.history) e))

-- what is to be sent again on edge e: what the sender's kept events sent outside the receiver's cut
abbrev pub messages_to_resend : System → Machine → Choice → ℕ → List Message
messages_to_resend sys state choice e =
    messages_outside (kept_of sys.flow choice (receiver sys.flow e)) (messages_from (kept_of sys.flow choice (sender sys.flow e)) (sent_messages sys (events state.history) e))

-- What is to be sent again on edge e lies outside low at the receiver, so that the log without what lies inside holds it.
pub record HoldsWhatIsSentAgain (sys : System) (state : Machine) (choice : Choice) (low : List Front) (e : ℕ) : Type 0 where
  pub outside : AllByRecursion (λ (m : Message). at_receiver sys low e m.at ≡ false) (messages_to_resend sys state choice e)
  pub logged : messages_outside (kept_of sys.flow choice (receiver sys.flow e)) (logged_messages sys state low e (kept_of sys.flow choice (sender sys.flow e)))
      ≡ messages_to_resend sys state choice e

-- the log that is kept with what is written of node p holds what is to be sent again on the node's edges, if it is a checkpoint
abbrev pub LogHoldsWhatIsSentAgain : System → Machine → Choice → ℕ → Written → Type 0
LogHoldsWhatIsSentAgain sys state choice p (checkpoint f low) =
    (e : ℕ) → e < length sys.flow.edges → sender sys.flow e ≡ p → HoldsWhatIsSentAgain sys state choice low e
LogHoldsWhatIsSentAgain sys state choice p (logged_event serial) = Unit {0}
