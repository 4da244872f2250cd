-- Of what the step of progress is made: which nodes are to settle, what the eager ones of them ask, and what becomes of what is kept as
-- they settle.
use Rattle.std.specs.Prelude.{◌≡◌, ◌≢◌, ℕ, ◌<◌, ◌≤◌, Bool, true, false, not, ◌&&◌, nat_lt, List, ◌++◌, length, slice_set, Option, Some, None, option_map}
use Rattle.std.specs.List.{range_with_len}
use Rattle.fw_frontier.specs.Front.{Front}
use Rattle.fw_flow.specs.Dataflow.{System, Dataflow, kind_of, policy_of}
use Rattle.fw_model.specs.Machine.{Machine, family_of, front_of}
use Rattle.fw_model.specs.Steps.{GrowsTo, eager_writes, is_asked_for_checkpoints, is_eager}
use Rattle.fw_model.specs.Writes.{takes_checkpoints}
use Rattle.fw_node.specs.declared.node.Node.{Node}
use Rattle.fw_keep.specs.declared.entry.Entry.{Entry}
use Rattle.fw_keep.specs.Catalogue.{AreInFlight}
use Rattle.fw_keep.specs.Stored.{Records, KeepsBytes}
use Rattle.fw_progress.specs.declared.traces.Traces.{Traces}
use Rattle.fw_progress.specs.Settle.{is_growing, has_more, IsGrownAt, NoneGrows, AreGrownBefore}
use Rattle.fw_progress.specs.Trace.{AreThinnedAt}
use Rattle.fw_stands.specs.Entries.{AreBasesOf}
use Rattle.fw_stands.specs.Parts.{sums_up}
use Rattle.fw_stands.specs.Settling.{IsSettledTable, AreSettledAt}
use Rattle.fw_stands.specs.Written.{uncollected, AreEntriesOf, AreStored}
use Rattle.fw_running.specs.declared.running.Running.{Running}
use Rattle.fw_running.specs.Kept.{table_of, is_down}
use Rattle.fw_running.specs.Logging.{ChangesKeep, IsNotAsked}
use Rattle.fw_running.specs.Stands.{Stands}
use Rattle.fw_settle.specs.Checkpoints.{AsksCheckpoint}

-- ---- which nodes are to settle

-- whether node p is to settle: it is not failed, and more is kept of it than is settled
abbrev pub grows : Running → ℕ → Bool
grows running p = is_growing running.failed.items running.progress.settled running.progress.kept p

-- no node from the one place up to the other is to settle
abbrev pub NoneGrowsIn : Running → ℕ → ℕ → Type 0
NoneGrowsIn running from until = NoneGrows running.failed.items running.progress.settled running.progress.kept from until

-- Node p is the first from a place on that is to settle.
pub record IsNextToSettle (running : Running) (place p : ℕ) : Type 0 where
  pub from : place ≤ p
  pub there : p < length running.flow.nodes
  pub is : grows running p ≡ true
  pub others : NoneGrowsIn running place p

-- some eager node is to settle
abbrev pub HasEagerToSettle : Running → Type 0
HasEagerToSettle running = (p : ℕ) × (is_eager (policy_of running.flow p) ≡ true) × (grows running p ≡ true)

-- the answer is that node, and none where none from the place on is to settle
abbrev pub IsFoundToSettle : Running → ℕ → Option ℕ → Type 0
IsFoundToSettle running place None = NoneGrowsIn running place (length running.flow.nodes)
IsFoundToSettle running place (Some p) = IsNextToSettle running place p

-- Node p, from a place on, is not failed, and none between is to settle.
pub record IsNextLive (running : Running) (place p : ℕ) : Type 0 where
  pub from : place ≤ p
  pub there : p < length running.flow.nodes
  pub live : is_down running p ≡ false
  pub others : NoneGrowsIn running place p

-- the answer is such a node, and none where none from the place on is to settle
abbrev pub IsFoundLive : Running → ℕ → Option ℕ → Type 0
IsFoundLive running place None = NoneGrowsIn running place (length running.flow.nodes)
IsFoundLive running place (Some p) = IsNextLive running place p

-- ---- what is asked

-- Writes are asked: their entries are in flight, behind the others, and the bytes of those stay.
pub record AddsEntries (old new : List Entry) (before after : Option Records) : Type 0 where
  pub more : List Entry
  pub entries : new ≡ old ++ more
  pub in_flight : AreInFlight more
  pub change : Records → Records
  pub records : after ≡ option_map change before
  pub bytes : KeepsBytes old before after

-- No entry is added, and the bytes of the entries stay.
pub record KeepsEntries (old new : List Entry) (before after : Option Records) : Type 0 where
  pub entries : new ≡ old
  pub change : Records → Records
  pub records : after ≡ option_map change before
  pub bytes : KeepsBytes old before after

-- Node p asks its checkpoint at what it settles.
pub record AsksAtGrown (p : ℕ) (old new : Running) (before after : Option Records) : Type 0 where
  pub front : Front
  pub grown : IsGrownAt old.flow old.progress.settled old.progress.kept p (Some front)
  pub asks : AsksCheckpoint p front old new before after

-- Node p asks it if it is eager, and nothing else.
pub record AsksIfEager (p : ℕ) (old new : Running) (before after : Option Records) : Type 0 where
  pub eager : is_eager (policy_of old.flow p) ≡ true → AsksAtGrown p old new before after
  pub other : is_eager (policy_of old.flow p) ≡ false → IsNotAsked old.parts.keep.entries new.parts.keep.entries before after

-- these entries are those of the checkpoints that the eager ones of the first so many nodes ask, each stands on that of the others at which
-- its changes begin, a whole one on none, and the records are stored with these, in each state for which the engine stood
abbrev pub AreOfEagerWrites : Running → Option Records → List Entry → List Entry → Option Records → ℕ → Type 0
AreOfEagerWrites old before more new after place =
    (sys : System) (state : Machine) (settled : List Front) → Stands sys old before state → GrowsTo sys state (family_of sys.flow old.progress.kept) settled
    → let writes = eager_writes sys state settled (range_with_len 0 place) in
    AreEntriesOf sys state more writes × AreBasesOf old.parts.keep.entries more writes × AreStored sys state after new (uncollected state ++ writes)

-- The eager ones of the first so many nodes that are to settle asked their checkpoints.
pub record HaveAsked (place : ℕ) (old new : Running) (before after : Option Records) : Type 0 where
  pub adds : AddsEntries old.parts.keep.entries new.parts.keep.entries before after
  pub writes : AreOfEagerWrites old before adds.more new.parts.keep.entries after place

-- ---- what settles

-- what is kept with these traces
abbrev pub with_traces : Traces → Running → Running
with_traces traces running = record running { traces = traces }

-- what is kept with this that becomes of settling
abbrev pub settled_into : Running → Running → Running
settled_into new old = record old {
  parts = record old.parts { tables = new.parts.tables };
  progress = record old.progress { settled = new.progress.settled };
  traces = new.traces;
  ready = record old.ready { growing = new.ready.growing; outputs = new.ready.outputs };
}

-- nothing but tables, what is settled, traces and places is changed
abbrev pub ChangesSettled : Running → Running → Type 0
ChangesSettled old new = new ≡ settled_into new old

-- whether the table of node p settles where a checkpoint is asked of it, and not at progress: it keeps totals, and takes checkpoints
-- when asked
abbrev pub settles_when_asked : Dataflow → ℕ → Bool
settles_when_asked flow p = is_asked_for_checkpoints (policy_of flow p) && sums_up (kind_of flow p)

-- a node's table, if it has one, is settled to a front
abbrev pub IsTableSettled : Dataflow → ℕ → Front → Option Node → Option Node → Type 0
IsTableSettled flow p f None new = new ≡ None
IsTableSettled flow p f (Some old) None = ⊥
IsTableSettled flow p f (Some old) (Some new) = IsSettledTable flow p f old new

-- The table of node p, if it has one, is settled to a front, and those of the others stay.
pub record SettlesTable (p : ℕ) (f : Front) (old new : Running) : Type 0 where
  pub here : IsTableSettled old.flow p f (table_of old p) (table_of new p)
  pub others : (q : ℕ) → q ≢ p → table_of new q ≡ table_of old q

-- So it is where this is so, and else all stay.
pub record SettlesTableIf (is_so : Bool) (p : ℕ) (f : Front) (old new : Running) : Type 0 where
  pub settles : is_so ≡ true → SettlesTable p f old new
  pub stays : is_so ≡ false → new.parts.tables ≡ old.parts.tables

-- The traces of node p, if it takes checkpoints, are thinned inside a front, and what it sent there is counted in all.
pub record SettlesTraces (p : ℕ) (f : Front) (flow : Dataflow) (old new : Traces) : Type 0 where
  pub takes : takes_checkpoints (policy_of flow p) ≡ true → AreThinnedAt flow p f old new
  pub other : takes_checkpoints (policy_of flow p) ≡ false → new ≡ old

-- Node p settles this front: its traces are settled to it, and so is its table, unless that waits for a checkpoint.
pub record SettlesTo (p : ℕ) (f : Front) (old new : Running) : Type 0 where
  pub settled : new.progress.settled ≡ slice_set old.progress.settled p f
  pub table : SettlesTableIf (not (settles_when_asked old.flow p)) p f old new
  pub traces : SettlesTraces p f old.flow old.traces new.traces

-- Nothing settles.
pub record SettlesNothing (old new : Running) : Type 0 where
  pub settled : new.progress.settled ≡ old.progress.settled
  pub tables : new.parts.tables ≡ old.parts.tables
  pub traces : new.traces ≡ old.traces

-- Node p, which is not failed, settles what is kept of it, where that is more than is settled.
pub record SettlesKept (p : ℕ) (old new : Running) : Type 0 where
  pub more : has_more (front_of old.progress.kept p) (front_of old.progress.settled p) ≡ true
      → (f : Front) × IsGrownAt old.flow old.progress.settled old.progress.kept p (Some f) × SettlesTo p f old new
  pub none : has_more (front_of old.progress.kept p) (front_of old.progress.settled p) ≡ false → SettlesNothing old new

-- whether node p is among the first so many, is to settle and takes checkpoints
abbrev pub settles_traces : Running → ℕ → ℕ → Bool
settles_traces running place p = nat_lt p place && (grows running p && takes_checkpoints (policy_of running.flow p))

-- whether node p is to settle, and its table then
abbrev pub settles_table : Running → ℕ → Bool
settles_table running p = grows running p && not (settles_when_asked running.flow p)

-- The first so many nodes that are to settle did so: what is kept of them is settled, and their traces are settled to it, and their
-- tables, but those that wait for a checkpoint.
pub record HaveSettled (place : ℕ) (old new : Running) : Type 0 where
  pub settled : AreGrownBefore old.flow old.failed.items old.progress.settled old.progress.kept new.progress.settled place
  pub tables : (p : ℕ) → p < place → settles_table old p ≡ true
      → IsTableSettled old.flow p (front_of new.progress.settled p) (table_of old p) (table_of new p)
  pub other_tables : (p : ℕ) → (p < place → settles_table old p ≡ false) → table_of new p ≡ table_of old p
  pub traces : AreSettledAt old.flow (settles_traces old place) new.progress.settled old.traces new.traces

-- ---- the step

-- What settling makes of what is kept where some node is to settle: the eager ones ask their checkpoints, and all that are to settle do.
pub record Progresses (old new : Running) (before after : Option Records) : Type 0 where
  pub asked : Running
  pub keeps : ChangesKeep old asked
  pub asks : HaveAsked (length old.flow.nodes) old asked before after
  pub others : ChangesSettled asked new
  pub settles : HaveSettled (length old.flow.nodes) asked new
