-- Laws of collections: what is planned and given up is what the machine's collection takes.
use Rattle.std.specs.Prelude.{◌≡◌, ℕ, ◌<◌, Bool, true, not, ◌&&◌, if◌then◌else◌, List, [], ◌∷◌, length, filter, map}
use Rattle.std.specs.List.{AllByRecursion, list_any}
use Rattle.fw_time.specs.Stamp.{in_domain}
use Rattle.fw_bag.specs.declared.rec.Rec.{Rec}
use Rattle.fw_frontier.specs.Frontier.{Within}
use Rattle.fw_frontier.specs.Front.{Front}
use Rattle.fw_flow.specs.Dataflow.{System, Dataflow, kind_of, policy_of, sender, receiver, bounds_of, node_frontier, is_input_kind}
use Rattle.fw_flow.specs.declared.event.Message.{Message}
use Rattle.fw_flow.specs.Restoring.{can_resend}
use Rattle.fw_model.specs.Filtering.{messages_outside}
use Rattle.fw_model.specs.SortedMessages.{sorted_messages}
use Rattle.fw_model.specs.Machine.{SerialEvent, Write, front_of}
use Rattle.fw_model.specs.Steps.{is_given_up, is_forgotten}
use Rattle.fw_model.specs.Writes.{takes_checkpoints}
use Rattle.fw_keep.specs.declared.entry.Entry.{Entry}
use Rattle.fw_keep.specs.declared.entry.Written as entry
use Rattle.fw_keep.specs.declared.entry.Written.TheVariants as written
use Rattle.fw_record.specs.Event.{stamp_of_event}
use Rattle.fw_keep.specs.Catalogue.{KeepState, AreDistinct}
use Rattle.fw_keep.specs.Newest.{is_forgotten_below}
use Rattle.fw_edge.specs.Messages.{MessagesState}
use Rattle.fw_border.specs.Sources.{SourceState, given_up}
use Rattle.fw_collect.specs.declared.drops.Drops.{Drops}
use Rattle.fw_collect.specs.declared.drops.OfNode.{OfNode}
use Rattle.fw_collect.specs.Drops.{IsPlanned, without_batches}
use Rattle.fw_collect.specs.Dropped.{is_below_some, is_dropped, log_outside, log_left, source_left}

-- ---- what the plan gives up

-- whether what is written in an entry of a catalogue is given up, where the low watermark rises to these fronts: a checkpoint that is
-- forgotten below its node's, an event at a stamp that is given up
abbrev pub is_written_given_up : Dataflow → List Front → KeepState → Entry → entry.Written → Bool
is_written_given_up flow low keep e (written.Checkpoint recorded stamps sent) =
    takes_checkpoints (policy_of flow e.node) && is_forgotten_below e.node (front_of low e.node) keep e
is_written_given_up flow low keep e (written.Event event) = is_given_up (without_batches flow) low e.node (stamp_of_event event)

abbrev pub is_entry_given_up : Dataflow → List Front → KeepState → Entry → Bool
is_entry_given_up flow low keep e = is_written_given_up flow low keep e e.written

-- of the entries of a catalogue those go that are given up, each by itself: an event's stamp takes no other event with it
abbrev pub DropsWhatIsGivenUp : Type 0
DropsWhatIsGivenUp = (flow : Dataflow) (low : List Front) (keep : KeepState) (drops : Drops) → IsPlanned flow low keep.entries drops
    → AllByRecursion (λ (e : Entry). is_dropped drops keep e ≡ is_entry_given_up flow low keep e) keep.entries

-- the log of each edge loses the messages inside the receiver's front, where the sender may send again; no other one does
abbrev pub DropsMessagesBelowReceivers : Type 0
DropsMessagesBelowReceivers = (flow : Dataflow) (low : List Front) (entries : List Entry) (drops : Drops) → IsPlanned flow low entries drops
    → (e : ℕ) (log : MessagesState) → e < length flow.edges
    → log_left drops.messages.items e log
    ≡ (if can_resend (policy_of flow (sender flow e)) then log_outside (front_of low (receiver flow e)) log else log)

-- each input loses the batches inside its front
abbrev pub DropsBatchesOfInputs : Type 0
DropsBatchesOfInputs = (flow : Dataflow) (low : List Front) (entries : List Entry) (drops : Drops) → IsPlanned flow low entries drops
    → (s : ℕ) (source : SourceState) → s < length flow.nodes
    → source_left drops.batches.items s source ≡ (if is_input_kind (kind_of flow s) then given_up (front_of low s) source else source)

-- the fronts stand beside different nodes, as those of a plan do
abbrev pub AreOfDifferentNodes : List OfNode → Type 0
AreOfDifferentNodes fronts = AreDistinct (map (λ (d : OfNode). d.node) fronts)

-- where fronts stand beside different nodes, an entry of a catalogue goes below them exactly where it is forgotten below some one of them: none
-- changes what another one finds
abbrev pub ForgetsBelowEach : Type 0
ForgetsBelowEach = (fronts : List OfNode) (keep : KeepState) (e : Entry) → AreOfDifferentNodes fronts
    → is_below_some fronts keep e ≡ list_any (λ (d : OfNode). is_forgotten_below d.node d.front keep e) fronts

-- ---- what the machine collects

-- an entry of a catalogue goes with one of these writes: it is given up exactly where a collection to the fronts forgets the write
abbrev pub GoesWith : System → List SerialEvent → List Front → List Write → KeepState → Entry → Write → Type 0
GoesWith sys h low writes keep e write = is_entry_given_up sys.flow low keep e ≡ is_forgotten sys low h writes write

-- ---- what logs and inputs hold

-- the low watermark rises to these fronts: at each node it lies within
abbrev pub RisesTo : Dataflow → List Front → List Front → Type 0
RisesTo flow low next =
    (p : ℕ) → p < length flow.nodes → Within (node_frontier flow p (front_of low p)) (node_frontier flow p (front_of next p))

-- of the messages that were sent on edge e those outside the low watermark of its receiver, in order: what its log holds
abbrev pub sent_outside : Dataflow → List Front → ℕ → List Message → List Message
sent_outside flow low e sent =
    sorted_messages (messages_outside (node_frontier flow (receiver flow e) (front_of low (receiver flow e))) sent)

-- of the batches of input s, by epoch, those outside its low watermark: what it holds
abbrev pub batches_outside : Dataflow → List Front → ℕ → List (ℕ × List Rec) → List (ℕ × List Rec)
batches_outside flow low s batches = filter (λ batch. not (node_frontier flow s (front_of low s) (batch.0 ∷ []))) batches

-- where the log of an edge whose sender may send again holds what was sent outside the low watermark, after a collection it
-- holds what was sent outside the one that rose
abbrev pub LogsHoldWhatIsOutside : Type 0
LogsHoldWhatIsOutside = (flow : Dataflow) (low next : List Front) (entries : List Entry) (drops : Drops) → IsPlanned flow next entries drops
    → RisesTo flow low next → (e : ℕ) (log : MessagesState) (sent : List Message) → e < length flow.edges → receiver flow e < length flow.nodes
    → can_resend (policy_of flow (sender flow e)) ≡ true
    → AllByRecursion (λ (m : Message). in_domain (bounds_of flow (receiver flow e)) m.at ≡ true) sent
    → log.messages ≡ sent_outside flow low e sent → (log_left drops.messages.items e log).messages ≡ sent_outside flow next e sent

-- where an input holds its batches outside the low watermark, after a collection it holds those outside the one that rose
abbrev pub InputsHoldWhatIsOutside : Type 0
InputsHoldWhatIsOutside = (flow : Dataflow) (low next : List Front) (entries : List Entry) (drops : Drops) → IsPlanned flow next entries drops
    → RisesTo flow low next → (s : ℕ) (source : SourceState) (batches : List (ℕ × List Rec)) → s < length flow.nodes
    → is_input_kind (kind_of flow s) ≡ true
    → AllByRecursion (λ (batch : ℕ × List Rec). in_domain (bounds_of flow s) (batch.0 ∷ []) ≡ true) batches
    → source.held ≡ batches_outside flow low s batches → (source_left drops.batches.items s source).held ≡ batches_outside flow next s batches
