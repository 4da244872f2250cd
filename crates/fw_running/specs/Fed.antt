-- How what an engine keeps is fed a batch, and which steps are taken by themselves while sources are fed.
use Rattle.std.specs.Prelude.{◌≡◌, ◌≢◌, ℕ, ◌+◌, max, Bool, ◌&&◌, nat_lt, List, [], ◌∷◌, ◌++◌, filter, map, Option}
use Rattle.fw_bag.specs.declared.rec.Rec.{Rec}
use Rattle.fw_flow.specs.declared.step.Step.{Step}
use Rattle.fw_flow.specs.declared.step.Step.TheVariants.{Inject, Progress as ProgressStep, Persist}
use Rattle.fw_flow.specs.Dataflow.{Dataflow, System, node_ids}
use Rattle.fw_border.specs.Sources.{fed_source, can_be_fed}
use Rattle.fw_keep.specs.Stored.{Records}
use Rattle.fw_model.specs.Auto.{deliveries, notifications, acknowledgements, TakesFirst}
use Rattle.fw_model.specs.History.{injected_count}
use Rattle.fw_model.specs.Machine.{Machine, events}
use Rattle.fw_model.specs.Steps.{Outcome}
use Rattle.fw_progress.specs.Counts.{pending_of, owed_of, batches_in, injected_in, sent_of}
use Rattle.fw_progress.specs.Progress.{can_have_more}
use Rattle.fw_running.specs.declared.running.Running.{Running}
use Rattle.fw_running.specs.Kept.{queue_at, log_at, table_of, source_of, output_of, lost_at}
use Rattle.fw_running.specs.Stands.{Stands}

-- ---- a batch

-- whether a batch can take the place of the last one of source s: that one is held and not injected, and there can be one more
abbrev pub can_feed : Running → ℕ → Bool
can_feed running s = can_be_fed (source_of running s) && can_have_more running.progress.counts s

-- What stays of an engine that is fed: all but its sources, and how many batches and epochs there are. At which places something may be
-- done is nothing to what it stands for.
pub record StaysWhenFed (old new : Running) : Type 0 where
  pub of_flow : new.flow ≡ old.flow
  pub settled : new.progress.settled ≡ old.progress.settled
  pub failed : new.failed.items ≡ old.failed.items
  pub low : new.parts.low ≡ old.parts.low
  pub tables : (p : ℕ) → table_of new p ≡ table_of old p
  pub queues : (e : ℕ) → queue_at new e ≡ queue_at old e
  pub logs : (e : ℕ) → log_at new e ≡ log_at old e
  pub outputs : (o : ℕ) → output_of new o ≡ output_of old o
  pub kept : new.progress.kept ≡ old.progress.kept
  pub work : new.progress.work ≡ old.progress.work
  pub pending : (e : ℕ) → pending_of new.progress.counts e ≡ pending_of old.progress.counts e
  pub owed : (p : ℕ) → owed_of new.progress.counts p ≡ owed_of old.progress.counts p
  pub injected : (p : ℕ) → injected_in new.progress.counts p ≡ injected_in old.progress.counts p
  pub sent : (p : ℕ) → sent_of new.progress.counts p ≡ sent_of old.progress.counts p
  pub traces : new.traces ≡ old.traces
  pub lost : (p : ℕ) → lost_at new p ≡ lost_at old p
  pub entries : new.parts.keep.entries ≡ old.parts.keep.entries

-- An engine keeps what it kept, but source s is fed a batch of these recs, and an empty one is behind it: so there is one batch more, and
-- where no other source has as many there is one epoch more.
pub record IsFedBatch (s : ℕ) (recs : List Rec) (old new : Running) : Type 0 where
  pub stays : StaysWhenFed old new
  pub keep : new.parts.keep ≡ old.parts.keep
  -- what is fed
  pub source : source_of new s ≡ fed_source recs ([] ∷ []) (source_of old s)
  pub others : (q : ℕ) → q ≢ s → source_of new q ≡ source_of old q
  pub more : batches_in new.progress.counts s ≡ batches_in old.progress.counts s + 1
  pub as_many : (q : ℕ) → q ≢ s → batches_in new.progress.counts q ≡ batches_in old.progress.counts q
  pub epochs : new.epochs ≡ max old.epochs ((source_of old s).given + 1)

-- ---- steps that are taken by themselves

-- the injections of the nodes that injected fewer batches than these
abbrev pub injections_within : Dataflow → (ℕ → ℕ) → Machine → List Step
injections_within flow came state =
    map Inject (filter (λ s. nat_lt (injected_count s (events state.history)) (came s)) (node_ids flow))

-- the steps that are taken by themselves, in their order, where no node injects more batches than these
abbrev pub auto_steps_within : Dataflow → (ℕ → ℕ) → Machine → List Step
auto_steps_within flow came state =
    Persist ∷ (deliveries flow ++ (notifications flow ++ (ProgressStep ∷ (acknowledgements flow ++ injections_within flow came state))))

-- From a state the machine takes the first of these steps that is enabled, where no node injects more batches than came, with the outcome,
-- and the engine then stands for the state that it leads to.
pub record FollowsFirstWithin (sys : System) (came : ℕ → ℕ) (state : Machine) (outcome : Outcome) (running : Running) (records : Option Records)
    : Type 0 where
  pub next : Machine
  pub takes : TakesFirst sys state (auto_steps_within sys.flow came state) next outcome
  pub stands : Stands sys running records next
