-- Laws of legal histories: at which stamps their events and messages are.
use Rattle.std.specs.Prelude.{◌≡◌, ℕ, true, false, List}
use Rattle.std.specs.List.{AllByRecursion}
use Rattle.fw_time.specs.Stamp.{in_domain}
use Rattle.fw_flow.specs.declared.event.Event.{Event}
use Rattle.fw_flow.specs.declared.event.Message.{Message}
use Rattle.fw_flow.specs.Dataflow.{System, kind_of, is_input_kind, HasEpochs, bounds_of_edge}
use Rattle.fw_flow.specs.WellFormed.{IsWellFormed}
use Rattle.fw_model.specs.History.{IsLegal, sent_messages, injected_count, AreEventsInDomain}

-- in a legal history of a well-formed flow with epochs each event is at a stamp of its node's domain
abbrev pub LegalEventsAreInDomain : Type 0
LegalEventsAreInDomain = (sys : System) (h : List Event) → IsWellFormed sys.flow → HasEpochs sys → IsLegal sys h
    → (p : ℕ) → AreEventsInDomain sys.flow h p

-- in a legal history of a well-formed flow with epochs each message that was sent is at a stamp of its edge
abbrev pub LegalMessagesAreInDomain : Type 0
LegalMessagesAreInDomain = (sys : System) (h : List Event) → IsWellFormed sys.flow → HasEpochs sys → IsLegal sys h
    → (e : ℕ) → AllByRecursion (λ (m : Message). in_domain (bounds_of_edge sys.flow e) m.at ≡ true) (sent_messages sys h e)

-- in a legal history only inputs inject
abbrev pub OnlyInputsInject : Type 0
OnlyInputsInject = (sys : System) (h : List Event) → IsLegal sys h
    → (p : ℕ) → is_input_kind (kind_of sys.flow p) ≡ false → injected_count p h ≡ 0
