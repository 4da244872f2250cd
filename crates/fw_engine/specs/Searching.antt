-- What a search of the places that are kept answers, and what the first step that is enabled makes of what an engine keeps.
use Rattle.std.specs.Prelude.{◌≡◌, ℕ, ◌<◌, true, List, Option, Some, None, Result, Ok, Err, slice_index_or}
use Rattle.fw_time.specs.Stamp.{Stamp, in_domain}
use Rattle.fw_flow.specs.declared.event.Event.{Event}
use Rattle.fw_flow.specs.declared.step.Step.TheVariants.{Persist}
use Rattle.fw_flow.specs.Dataflow.{System, bounds_of}
use Rattle.fw_model.specs.Auto.{IsIdle}
use Rattle.fw_model.specs.Machine.{Machine}
use Rattle.fw_keep.specs.Stored.{Records}
use Rattle.fw_progress.specs.History.{StandsForHistory}
use Rattle.fw_stands.specs.FirstSteps.{NoneToAcknowledge}
use Rattle.fw_running.specs.declared.fault.EngineFault.{EngineFault}
use Rattle.fw_running.specs.declared.fault.EngineFault.TheVariants as fault
use Rattle.fw_running.specs.declared.running.Running.{Running}
use Rattle.fw_running.specs.declared.stepped.Stepped.{Stepped}
use Rattle.fw_running.specs.declared.stepped.Stepped.TheVariants.{Did, Idle}
use Rattle.fw_running.specs.Fed.{FollowsFirstWithin}
use Rattle.fw_running.specs.Kept.{source_of}
use Rattle.fw_running.specs.Places.{place_limit}
use Rattle.fw_running.specs.Ready.{CanInject, IsOwing}
use Rattle.fw_running.specs.ReadyState.{ReadyState}
use Rattle.fw_running.specs.Stands.{Stands}
use Rattle.fw_running.specs.Steps.{AnswersFirst, outcome_of, FirstMayCall}
use Rattle.fw_events.specs.Noticing.{FindsNotice}
use Rattle.fw_engine.specs.declared.auto.Notice.{Notice}

-- ---- what a search leaves

-- what is kept with these places
abbrev pub with_ready : ReadyState → Running → Running
with_ready ready running = record running { ready = ready }

-- what is kept with these edges, outputs or inputs as ready
abbrev pub with_ready_edges : List ℕ → Running → Running
with_ready_edges edges running = with_ready (record running.ready { edges = edges }) running

abbrev pub with_ready_outputs : List ℕ → Running → Running
with_ready_outputs outputs running = with_ready (record running.ready { outputs = outputs }) running

abbrev pub with_ready_inputs : List ℕ → Running → Running
with_ready_inputs inputs running = with_ready (record running.ready { inputs = inputs }) running

-- what is kept with the progress of another, and its nodes as growing and as owing
abbrev pub with_notices : Running → Running → Running
with_notices new running = record running {
  progress = new.progress;
  ready = record running.ready { growing = new.ready.growing; owing = new.ready.owing };
}

-- Nothing but progress and the nodes that grow and are owed is changed; counts and what is settled stay, and progress stands for the
-- histories for which it stood.
pub record IsSearched (old new : Running) : Type 0 where
  pub others : new ≡ with_notices new old
  pub counts : new.progress.counts ≡ old.progress.counts
  pub settled : new.progress.settled ≡ old.progress.settled
  pub stands : (sys : System) (h : List Event) → sys.flow ≡ old.flow → StandsForHistory sys h old.progress → StandsForHistory sys h new.progress

-- ---- what a search finds

-- node p may not be notified: it is owed nothing or failed, or no stamp is found
abbrev pub HasNoNotice : Running → ℕ → Type 0
HasNoNotice running p = IsOwing running p → FindsNotice running.flow running.progress p None None

-- Node p may be notified, and this is its next stamp.
pub record HasNotice (running : Running) (p : ℕ) (t : Stamp) : Type 0 where
  pub owing : IsOwing running p
  pub of_domain : in_domain (bounds_of running.flow p) t ≡ true
  pub found : FindsNotice running.flow running.progress p None (Some t)

-- the answer is the next stamp of node p, if it may be notified
abbrev pub IsNoticeOf : Running → ℕ → Option Stamp → Type 0
IsNoticeOf running p None = HasNoNotice running p
IsNoticeOf running p (Some t) = HasNotice running p t

-- no node before this one may be notified, or none at all
abbrev pub HasNoneBefore : Running → Option ℕ → Type 0
HasNoneBefore running None = (p : ℕ) → HasNoNotice running p
HasNoneBefore running (Some n) = (n < place_limit) × ((p : ℕ) → p < n → HasNoNotice running p)

-- the answer is the first node that may be notified, with its next stamp; none where there is none
abbrev pub IsFirstNotified : Running → Option Notice → Type 0
IsFirstNotified running None = (p : ℕ) → HasNoNotice running p
IsFirstNotified running (Some first) = HasNotice running first.node first.at × ((p : ℕ) → p < first.node → HasNoNotice running p)

-- ---- what the first step answers

-- of any system and state
abbrev pub IsAny : System → Machine → Type 0
IsAny sys state = Unit {0}

-- no write can be acknowledged
abbrev pub NoneToPersist : System → Machine → Type 0
NoneToPersist sys state = IsIdle sys state Persist

-- The answer is that of the first step that is enabled, but that no input injects: something comes before the injections where a step is
-- taken, and where none is, nothing does.
abbrev pub AnswersEarlier : System → Machine → Result Stepped EngineFault → Running → Option Records → Type 0
AnswersEarlier sys state (Ok (Did shown)) new after = (NoneToAcknowledge sys state → ⊥) × AnswersFirst sys state (Ok (Did shown)) new after
AnswersEarlier sys state (Ok Idle) new after = NoneToAcknowledge sys state × Stands sys new after state
AnswersEarlier sys state (Err e) new after = AnswersFirst sys state (Err e) new after

-- so it is from each state for which the engine stood and in which nothing earlier is enabled
abbrev pub TakesFirstAfter : (System → Machine → Type 0) → Running → Option Records → Result Stepped EngineFault → Running → Option Records → Type 0
TakesFirstAfter Earlier old before result new after =
    (sys : System) (state : Machine) → Stands sys old before state → Earlier sys state → AnswersEarlier sys state result new after

-- where nothing comes before the injections, the answer is that of the first step that is enabled
abbrev pub InjectsFirst : Running → Option Records → Result Stepped EngineFault → Running → Option Records → Type 0
InjectsFirst old before result new after =
    (sys : System) (state : Machine) → Stands sys old before state → NoneToAcknowledge sys state → AnswersFirst sys state result new after

-- ---- where no input injects more batches than these

-- node s is an input that is not failed, has a batch to inject, and injected fewer than these
abbrev pub CanInjectWithin : List ℕ → Running → ℕ → Type 0
CanInjectWithin came running s = CanInject running s × ((source_of running s).injected < slice_index_or came s 0)

-- the answer is that of the first step that is enabled then; where the store fails, the engine stands where it stood
abbrev pub AnswersWithin : List ℕ → System → Machine → Result Stepped EngineFault → Running → Option Records → Type 0
AnswersWithin came sys state (Ok stepped) new after = FollowsFirstWithin sys (λ s. slice_index_or came s 0) state (outcome_of stepped) new after
AnswersWithin came sys state (Err fault.StoreFault) new after = FirstMayCall sys state × Stands sys new after state
AnswersWithin came sys state (Err (fault.Damaged id)) new after = ⊥
AnswersWithin came sys state (Err fault.NoMemory) new after = Unit {0}

abbrev pub TakesFirstWithin : List ℕ → Running → Option Records → Result Stepped EngineFault → Running → Option Records → Type 0
TakesFirstWithin came old before result new after =
    (sys : System) (state : Machine) → Stands sys old before state → AnswersWithin came sys state result new after

-- so it is where nothing comes before the injections
abbrev pub InjectsWithin : List ℕ → Running → Option Records → Result Stepped EngineFault → Running → Option Records → Type 0
InjectsWithin came old before result new after =
    (sys : System) (state : Machine) → Stands sys old before state → NoneToAcknowledge sys state → AnswersWithin came sys state result new after
