-- Where nothing more can come, and where all that is denoted at an output is acknowledged.
use Rattle.std.specs.Prelude.{◌≡◌, ℕ, ◌<◌, Bool, true, false, List, [], ◌∷◌, length}
use Rattle.std.specs.List.{AllByRecursion}
use Rattle.fw_time.specs.Stamp.{Stamp, in_domain}
use Rattle.fw_flow.specs.declared.event.Event.{Event}
use Rattle.fw_flow.specs.declared.event.Message.{Message}
use Rattle.fw_flow.specs.declared.kind.Kind.TheVariants.{OutputEpoch}
use Rattle.fw_flow.specs.declared.step.Step.{Step}
use Rattle.fw_flow.specs.declared.step.Step.TheVariants.{Inject, Deliver, Notify, Progress as ProgressStep, Persist, Recover, Ack}
use Rattle.fw_flow.specs.Dataflow.{System, kind_of, receiver, bounds_of, is_input_kind, is_output_kind, node_frontier}
use Rattle.fw_flow.specs.WholeBags.{Timed}
use Rattle.fw_model.specs.Auto.{AreIdle, IsAutoRun, auto_steps}
use Rattle.fw_model.specs.Denotation.{Family, bag_at}
use Rattle.fw_model.specs.History.{pending_messages, delivered_messages, is_owed_notice, is_exhausted, IsEnabled}
use Rattle.fw_model.specs.Machine.{Machine, Write, events, front_of, is_failed, ack_count_of}
use Rattle.fw_model.specs.Acknowledgements.{stamps_acknowledged, first_stamps, Shows}
use Rattle.fw_model.specs.Steps.{Outcome, is_in_flight, HasEpoch, StepsTo, Run}
use Rattle.fw_rest.specs.StepsToRest.{stamps_due}

-- no event may come
abbrev pub IsAtRest : System → List Event → Type 0
IsAtRest sys h = (v : Event) → IsEnabled sys h v → ⊥

-- no node is failed
abbrev pub AreAllLive : System → Machine → Type 0
AreAllLive sys state = (p : ℕ) → p < length sys.flow.nodes → is_failed state p ≡ false

-- `auto` has nothing to do
abbrev pub HasNothingToDo : System → Machine → Type 0
HasNothingToDo sys state = AreIdle sys state (auto_steps sys.flow)

-- whether the step is of a kind that `auto` takes: an event, a growth of settled or an acknowledgement, asked for at a stamp or not
abbrev pub is_of_auto : Step → Bool
is_of_auto (Inject s) = true
is_of_auto (Deliver e at) = true
is_of_auto (Notify p at) = true
is_of_auto ProgressStep = true
is_of_auto Persist = true
is_of_auto (Ack o) = true
is_of_auto step = false

-- the stamp is one of the first so many epochs or numbers, which an output acknowledged
abbrev pub IsAcknowledged : ℕ → Stamp → Type 0
IsAcknowledged count t = (x : ℕ) × (x < count) × (t ≡ x ∷ [])

-- Output o acknowledged all that is denoted at it: the stamp of each rec that the family has on its in-edge, and if it is an output
-- of epochs, each epoch of which some node has a batch; just as many stamps as are due.
pub record HasAcknowledgedAll (sys : System) (family : Family) (state : Machine) (o : ℕ) : Type 0 where
  pub recs : (e : ℕ) → receiver sys.flow e ≡ o → AllByRecursion (λ (r : Timed). IsAcknowledged (ack_count_of state o) r.at) (family e)
  pub batches : kind_of sys.flow o ≡ OutputEpoch → (x : ℕ) → HasEpoch sys.batches x → x < ack_count_of state o
  pub count : ack_count_of state o ≡ stamps_due sys family o

-- Nothing waits: no message is pending, no notification is owed, each input injected all, each stamp is settled, no write is in flight,
-- and what came to each output is acknowledged.
pub record NothingWaits (sys : System) (state : Machine) : Type 0 where
  pub queues : (e : ℕ) → pending_messages sys (events state.history) e ≡ []
  pub notices : (p : ℕ) → p < length sys.flow.nodes → (t : Stamp) → in_domain (bounds_of sys.flow p) t ≡ true
      → is_owed_notice sys (events state.history) p t ≡ false
  pub inputs : (s : ℕ) → is_input_kind (kind_of sys.flow s) ≡ true → is_exhausted sys (events state.history) s ≡ true
  pub settled : (p : ℕ) → p < length sys.flow.nodes → (t : Stamp) → in_domain (bounds_of sys.flow p) t ≡ true
      → node_frontier sys.flow p (front_of state.settled p) t ≡ true
  pub writes : AllByRecursion (λ (write : Write). is_in_flight write.stage ≡ false) state.writes
  pub outputs : (o e : ℕ) → o < length sys.flow.nodes → is_output_kind (kind_of sys.flow o) ≡ true → receiver sys.flow e ≡ o
      → AllByRecursion (λ (m : Message). IsAcknowledged (ack_count_of state o) m.at) (delivered_messages (events state.history) e)

-- Of these outcomes one shows what is denoted at each stamp of output o: at that of each rec that the family has on its in-edge, and if
-- it is an output of epochs, at each epoch of which some node has a batch. They acknowledge just the stamps that are due, in order and
-- each once.
pub record HasShownAll (sys : System) (family : Family) (outcomes : List Outcome) (o : ℕ) : Type 0 where
  pub recs : (e : ℕ) → receiver sys.flow e ≡ o → AllByRecursion (λ (r : Timed). Shows o r.at (bag_at family e r.at) outcomes) (family e)
  pub batches : kind_of sys.flow o ≡ OutputEpoch → (e : ℕ) → receiver sys.flow e ≡ o → (x : ℕ) → HasEpoch sys.batches x
      → Shows o (x ∷ []) (bag_at family e (x ∷ [])) outcomes
  pub stamps : stamps_acknowledged o outcomes ≡ first_stamps (stamps_due sys family o)

-- From a state a recovery is taken, enabled or not, and then the steps that `auto` takes, at most so many, with these outcomes.
pub record RecoversAndGoesOn (sys : System) (state : Machine) (most : ℕ) (outcomes : List Outcome) (last : Machine) : Type 0 where
  pub recovered : Machine
  pub recovery : Outcome
  pub recovers : StepsTo sys state Recover recovered recovery
  pub steps : List Step
  pub taken : IsAutoRun sys recovered most steps last
  pub runs : Run sys state (Recover ∷ steps) outcomes last
