-- The laws of fetching: restoring what fetching gives of a chain of records is restoring these records, one after the other.
use Rattle.std.specs.Prelude.{◌≡◌, ℕ, true, List, [], ◌∷◌, ◌++◌, Option, Some}
use Rattle.std.specs.List.{AllByRecursion, AllZip, Contains}
use Rattle.fw_frontier.specs.Front.{Front}
use Rattle.fw_flow.specs.declared.choice.Choice.{Choice}
use Rattle.fw_flow.specs.declared.choice.Cut.TheVariants.{At}
use Rattle.fw_flow.specs.declared.event.Event.{Event}
use Rattle.fw_flow.specs.declared.restoring.Restoring.TheVariants.{Checkpoints}
use Rattle.fw_flow.specs.Dataflow.{Dataflow, System, kind_of, node_frontier}
use Rattle.fw_flow.specs.Restoring.{way_of}
use Rattle.fw_model.specs.Choice.{cut_of}
use Rattle.fw_model.specs.Machine.{Machine}
use Rattle.fw_model.specs.Filtering.{events_inside}
use Rattle.fw_record.specs.declared.record.Checkpoint.{Checkpoint}
use Rattle.fw_record.specs.declared.record.Record.{Record}
use Rattle.fw_record.specs.declared.record.Record.TheVariants as tagged
use Rattle.fw_keep.specs.Catalogue.{IsCatalogue}
use Rattle.fw_keep.specs.Chains.{changes_of, logged_in_all, states_of}
use Rattle.fw_keep.specs.declared.entry.Entry.{Entry}
use Rattle.fw_keep.specs.Entry.{is_checkpoint}
use Rattle.fw_keep.specs.Joined.{IsJoinedCheckpoint, AreJoined, IsFetchedOver, bases_of}
use Rattle.fw_keep.specs.Stored.{Records, IsFetched}
use Rattle.fw_edge.specs.Messages.{MessagesState}
use Rattle.fw_node.specs.declared.node.Node.{Node}
use Rattle.fw_node.specs.ChainOf.{HaveChanges}
use Rattle.fw_node.specs.StateOf.{IsStateOf}
use Rattle.fw_rollback.specs.Asked.{asked_of, first_up_to, is_at_cut}
use Rattle.fw_rollback.specs.Restored.{IsFromChain, log_of}
use Rattle.fw_stands.specs.Recovered.{Recovers}
use Rattle.fw_running.specs.declared.running.Running.{Running}
use Rattle.fw_running.specs.Stands.{StandsApart}

-- the record holds changes
abbrev pub HoldsChanges : Record → Type 0
HoldsChanges (tagged.State c) = ⊥
HoldsChanges (tagged.Event node event) = ⊥
HoldsChanges (tagged.Changes base c) = Unit {0}

-- the first of these records has the whole state of a node, and each later one changes
abbrev pub AreOfChain : List Record → Type 0
AreOfChain [] = ⊥
AreOfChain (tagged.State c ∷ rs) = AllByRecursion HoldsChanges rs
AreOfChain (tagged.Event node event ∷ rs) = ⊥
AreOfChain (tagged.Changes base c ∷ rs) = ⊥

-- Where of these events those inside the front of each checkpoint of a chain have what it says, those inside the last front have the state of
-- the checkpoint that is joined of these.
abbrev pub JoinedHasTheState : Type 0
JoinedHasTheState = (flow : Dataflow) (p : ℕ) (first : Checkpoint) (rest : List Record) (last joined : Checkpoint) → AllByRecursion HoldsChanges rest
    → IsJoinedCheckpoint (tagged.State first ∷ rest) last joined → (before : List Event)
    → IsStateOf (kind_of flow p) (events_inside (node_frontier flow p first.recorded.front) before) first.state
    → HaveChanges flow p before first.recorded.front (states_of (changes_of rest ++ last ∷ []))
    → IsStateOf (kind_of flow p) (events_inside (node_frontier flow p joined.recorded.front) before) joined.state

-- the log of an edge has of the joined log what it has of the logs of the chain, whatever the watermarks
abbrev pub JoinedLogIsAllLogs : Type 0
JoinedLogIsAllLogs = (first : Checkpoint) (rest : List Record) (last joined : Checkpoint) → AllByRecursion HoldsChanges rest
    → IsJoinedCheckpoint (tagged.State first ∷ rest) last joined → (flow : Dataflow) (low : List Front) (e : ℕ)
    → log_of flow low e (logged_in_all e (joined ∷ [])) ≡ log_of flow low e (logged_in_all e (first ∷ changes_of rest ++ last ∷ []))

-- a node and logs that are restored from the first records are restored from the second ones
abbrev pub IsRestoredAs : List Record → List Record → Type 0
IsRestoredAs given read = (flow : Dataflow) (low : List Front) (p : ℕ) (f : Front) (node : Node) (logs : List MessagesState)
    → IsFromChain flow low p f (first_up_to f given) (changes_of given) node logs
    → IsFromChain flow low p f (first_up_to f read) (changes_of read) node logs

-- What is restored from the one record that is joined of a chain is restored from the records of the chain.
abbrev pub FetchedRestoresTheChain : Type 0
FetchedRestoresTheChain = (rs : List Record) (own given : Record) → AreOfChain (rs ++ own ∷ []) → AreJoined rs own given
    → IsRestoredAs (given ∷ []) (rs ++ own ∷ [])

-- What is restored from the whole record that fetching gives of a checkpoint is restored from the records that are read of the checkpoints on which
-- it stands and of itself, one after the other, where the store tells its records.
abbrev pub FetchedRestoresWhatIsRead : Type 0
FetchedRestoresWhatIsRead = (flow : Dataflow) (held : Records) (got : Option (ℕ × List ℕ)) (entries : List Entry) (e : Entry)
    (joined : Checkpoint) (read : List Record)
    → AllByRecursion (λ (x : Entry). is_checkpoint x.written ≡ true) (bases_of entries e ++ e ∷ [])
    → IsFetchedOver flow (Some held) got (bases_of entries e) e (tagged.State joined)
    → AllZip (IsFetched flow (Some held)) (bases_of entries e ++ e ∷ []) read → IsRestoredAs (tagged.State joined ∷ []) read

-- Where an engine stands for a state, and the choice of a recovery cuts a node that is restored by checkpoints exactly to an acknowledged one, the
-- entries of the node that it asks for are just those whose records fetching this one joins: those on which it stands, in order, and itself.
abbrev pub RecoveryReadsWhatIsFetched : Type 0
RecoveryReadsWhatIsFetched = (sys : System) (running : Running) (records : Option Records) (state : Machine) → StandsApart sys running records state
    → IsCatalogue running.parts.keep → (choice : Choice) (settled : List Front) → Recovers sys state choice settled
    → (p : ℕ) (f : Front) (e : Entry) → way_of sys.flow p ≡ Checkpoints → cut_of choice p ≡ At f
    → Contains running.parts.keep.entries e → is_at_cut p (At f) e ≡ true
    → asked_of sys.flow choice running.parts.keep.entries p ≡ bases_of running.parts.keep.entries e ++ e ∷ []
