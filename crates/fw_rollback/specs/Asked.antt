-- Which writes the cuts of a choice ask for, and the records that were fetched of them.
use Rattle.std.specs.Prelude.{◌≡◌, ℕ, ◌<◌, Bool, true, false, ◌&&◌, ◌==◌, if◌then◌else◌}
use Rattle.std.specs.Prelude.{List, [], ◌∷◌, length, filter, Option, Some, None, Result, Ok, Err, slice_index_or}
use Rattle.std.specs.Option.{ForSome, option_and_then}
use Rattle.std.specs.List.{AllByRecursion, AllZip, Contains, flat_map, list_any}
use Rattle.std.specs.FinMap as map
use Rattle.fw_time.specs.Stamp.{in_domain}
use Rattle.fw_frontier.specs.Front.{Front, same_front}
use Rattle.fw_flow.specs.declared.choice.Choice.{Choice}
use Rattle.fw_flow.specs.declared.choice.Cut.{Cut}
use Rattle.fw_flow.specs.declared.choice.Cut.TheVariants.{Present, At}
use Rattle.fw_flow.specs.declared.restoring.Restoring.{Restoring}
use Rattle.fw_flow.specs.declared.restoring.Restoring.TheVariants.{Checkpoints, Events}
use Rattle.fw_flow.specs.Dataflow.{Dataflow, out_edges, bounds_of, node_frontier}
use Rattle.fw_flow.specs.Restoring.{way_of}
use Rattle.fw_model.specs.Choice.{cut_of}
use Rattle.fw_record.specs.declared.logged.Logged.{Logged}
use Rattle.fw_record.specs.declared.record.Checkpoint.{Checkpoint}
use Rattle.fw_record.specs.declared.record.Event.{Event as LoggedEvent}
use Rattle.fw_record.specs.declared.record.Record.{Record}
use Rattle.fw_record.specs.declared.record.Record.TheVariants as tagged
use Rattle.fw_keep.specs.declared.entry.Entry.{Entry}
use Rattle.fw_keep.specs.declared.entry.Written.{Written}
use Rattle.fw_keep.specs.declared.entry.Written.TheVariants as written
use Rattle.fw_keep.specs.declared.fault.KeepFault.{KeepFault}
use Rattle.fw_keep.specs.declared.fault.KeepFault.TheVariants as fault
use Rattle.fw_record.specs.Event.{stamp_of_event}
use Rattle.fw_keep.specs.Chains.{changes_of, states_of}
use Rattle.fw_keep.specs.Entry.{is_written_at}
use Rattle.fw_keep.specs.Newest.{is_written_between, whole_front, whole_within}
use Rattle.fw_keep.specs.Stored.{Records, SpellsNone, IsFetched}
use Rattle.fw_node.specs.ChainOf.{last_front}
use Rattle.fw_record.specs.Event.{event_of}
use Rattle.fw_rollback.specs.declared.asked.Found.{Found}

-- the frontier of a cut; none where the node stays as it is
abbrev pub front_at : Cut → Option Front
front_at Present = None
front_at (At f) = Some f

-- whether the entry is an acknowledged checkpoint of node p that stands exactly at the cut
abbrev pub is_at_cut : ℕ → Cut → Entry → Bool
is_at_cut p Present e = false
is_at_cut p (At f) e = (e.node == p) && (e.acknowledged && is_written_at f e.written)

-- whether one of these entries is such a one
abbrev pub has_one_at_cut : ℕ → Cut → List Entry → Bool
has_one_at_cut p cut entries = list_any (is_at_cut p cut) entries

-- these say of each node whether one of the entries is an acknowledged checkpoint of it that stands exactly at its cut
abbrev pub AreEnds : Choice → List Entry → List Bool → Type 0
AreEnds choice entries ends = (p : ℕ) → slice_index_or ends p false ≡ has_one_at_cut p (cut_of choice p) entries

-- the front of the newest whole checkpoint of node p within its cut, if it is cut and has one
abbrev pub whole_in_cut : Choice → List Entry → ℕ → Option Front
whole_in_cut choice entries p = option_and_then (λ f. whole_within p f entries) (front_at (cut_of choice p))

-- the front of the entry, if node p is cut and the entry is a whole checkpoint of it within its cut
abbrev pub whole_front_in_cut : Choice → ℕ → Entry → Option Front
whole_front_in_cut choice p e = option_and_then (λ f. whole_front p f e) (front_at (cut_of choice p))

-- these are those of each node, among the entries
abbrev pub AreWholes : Choice → List Entry → List (Option Front) → Type 0
AreWholes choice entries wholes = (p : ℕ) → slice_index_or wholes p None ≡ whole_in_cut choice entries p

-- Of each node this is found: the front of its newest whole checkpoint within its cut, if it is cut and has one, and whether an acknowledged
-- checkpoint of it stands exactly at its cut.
pub record AreFound (choice : Choice) (entries : List Entry) (found : Found) : Type 0 where
  pub wholes : AreWholes choice entries found.wholes
  pub ends : AreEnds choice entries found.ends

-- the front from which on the checkpoints of node p are read where it is cut to f: that of its newest whole one within f, in flight or
-- acknowledged, where an acknowledged one stands exactly at f; else none is read
abbrev pub read_from : ℕ → Front → List Entry → Option Front
read_from p f entries = if has_one_at_cut p (At f) entries then whole_within p f entries else None

-- whether node p needs what is written, where it is restored in this way to f, and its checkpoints are read from this front on: those up to f,
-- or each event inside
abbrev pub is_needed : Dataflow → Option Front → ℕ → Front → Restoring → Written → Bool
is_needed flow (Some whole) p f Checkpoints what = is_written_between whole f what
is_needed flow whole p f Events (written.Event event) = node_frontier flow p f (stamp_of_event event)
is_needed flow whole p f way what = false

-- whether the cut of its node asks for the entry, among these: it is acknowledged, and the node needs it
abbrev pub is_asked_at : Dataflow → List Entry → Cut → Entry → Bool
is_asked_at flow entries Present e = false
is_asked_at flow entries (At f) e = e.acknowledged && is_needed flow (read_from e.node f entries) e.node f (way_of flow e.node) e.written

-- whether the choice asks for the entry, among these
abbrev pub is_asked_for : Dataflow → Choice → List Entry → Entry → Bool
is_asked_for flow choice entries e = is_asked_at flow entries (cut_of choice e.node) e

-- the entries of node p that its cut asks for, in order
abbrev pub asked_of : Dataflow → Choice → List Entry → ℕ → List Entry
asked_of flow choice entries p = filter (λ e. (e.node == p) && is_asked_for flow choice entries e) entries

-- the records of node p, where these are those of each node
abbrev pub given_of : List (List Record) → ℕ → List Record
given_of given p = slice_index_or given p []

-- for each node one record was fetched of each entry that its cut asks for, in order
abbrev pub AreFetched : Dataflow → Choice → Option Records → List Entry → List (List Record) → Type 0
AreFetched flow choice records entries given =
    (p : ℕ) → p < length flow.nodes → AllZip (IsFetched flow records) (asked_of flow choice entries p) (given_of given p)

-- An entry that the choice asks for has this id, and these bytes, which the store gave under it, spell no record of the entry.
pub record IsEntryDamaged (flow : Dataflow) (choice : Choice) (records : Option Records) (entries : List Entry) (got : Option (ℕ × List ℕ))
    (id : ℕ) (bytes : List ℕ) : Type 0 where
  pub entry : Entry
  pub there : Contains entries entry
  pub asked : is_asked_for flow choice entries entry ≡ true
  pub named : entry.id ≡ id
  pub given : got ≡ Some (id, bytes)
  pub told : ForSome records (λ held. map.get held id ≡ Some bytes)
  pub none : SpellsNone flow entry bytes

-- some entry is one that the choice asks for
pub record AsksForSome (flow : Dataflow) (choice : Choice) (entries : List Entry) : Type 0 where
  pub entry : Entry
  pub there : Contains entries entry
  pub asked : is_asked_for flow choice entries entry ≡ true

-- Where the store failed, the choice asks for some entry; where the answer is that a record is damaged, it is one that the choice asks for.
abbrev pub ComesOfReading : {T : Type 0} → Dataflow → Choice → Option Records → List Entry → Option (ℕ × List ℕ) → Result T KeepFault → Type 0
ComesOfReading flow choice records entries given (Ok x) = Unit {0}
ComesOfReading flow choice records entries given (Err (fault.Damaged id bytes)) = IsEntryDamaged flow choice records entries given id bytes.items
ComesOfReading flow choice records entries given (Err fault.StoreFault) = AsksForSome flow choice entries
ComesOfReading flow choice records entries given (Err fault.NoMemory) = Unit {0}

-- ---- what records hold

-- the whole checkpoint of which the first record is, if it is of one
abbrev pub first_checkpoint : List Record → Option Checkpoint
first_checkpoint [] = None
first_checkpoint (tagged.State c ∷ rs) = Some c
first_checkpoint (tagged.Event p event ∷ rs) = None
first_checkpoint (tagged.Changes base c ∷ rs) = None

-- the front of the last changes that the records hold, or, where they hold none, of this checkpoint
abbrev pub leads_to : Checkpoint → List Record → Front
leads_to c rs = last_front c.recorded.front (states_of (changes_of rs))

-- the whole checkpoint of which the first record is, if the last changes that the records hold, or else it itself, are of just this front
abbrev pub first_up_to : Front → List Record → Option Checkpoint
first_up_to f rs = option_and_then (λ c. if same_front (leads_to c rs) f then Some c else None) (first_checkpoint rs)

-- the events of records, in order
abbrev pub events_of : List Record → List LoggedEvent
events_of rs = flat_map event_of rs

-- ---- for the proofs

-- what the building of node p asks of a record: a checkpoint's messages are on edges from the node, an event is at a stamp of its
-- domain
abbrev pub CanServe : Dataflow → ℕ → Record → Type 0
CanServe flow p (tagged.State c) = AllByRecursion (λ (l : Logged). Contains (out_edges flow p) l.edge) c.log
CanServe flow p (tagged.Event q event) = in_domain (bounds_of flow p) (stamp_of_event event) ≡ true
CanServe flow p (tagged.Changes base c) = AllByRecursion (λ (l : Logged). Contains (out_edges flow p) l.edge) c.log

abbrev pub CanServeEach : Dataflow → List (List Record) → Type 0
CanServeEach flow given = (p : ℕ) → p < length flow.nodes → AllByRecursion (CanServe flow p) (given_of given p)
