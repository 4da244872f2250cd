-- Where something may be done, by what an engine keeps.
use Rattle.std.specs.Prelude.{◌≡◌, ◌≢◌, ℕ, ◌<◌, Bool, true, false, List, [], length, None}
use Rattle.fw_time.specs.Stamp.{Stamp}
use Rattle.fw_frontier.specs.Front.{Front}
use Rattle.fw_flow.specs.declared.event.Message.{Message}
use Rattle.fw_flow.specs.Dataflow.{Dataflow, kind_of, receiver, is_input_kind}
use Rattle.fw_model.specs.Machine.{front_of}
use Rattle.fw_border.specs.Sources.{SourceState, next_batch}
use Rattle.fw_progress.specs.Counts.{owed_of}
use Rattle.fw_progress.specs.Settle.{has_more}
pub use Rattle.fw_stands.specs.Acknowledging.{HasSomething, CanAcknowledgeBy}
use Rattle.fw_running.specs.declared.running.Running.{Running}
use Rattle.fw_running.specs.Kept.{queue_at, source_of, output_of, is_down}

-- these messages are pending on edge e, some at least, and its receiver is not failed
pub record CanDeliverBy (flow : Dataflow) (e : ℕ) (down : Bool) (pending : List Message) : Type 0 where
  pub there : e < length flow.edges
  pub live : down ≡ false
  pub some : pending ≢ []

-- something is pending on edge e, and its receiver is not failed
abbrev pub CanDeliver : Running → ℕ → Type 0
CanDeliver running e = CanDeliverBy running.flow e (is_down running (receiver running.flow e)) (queue_at running e)

-- node p is owed a notification at these stamps, one at least, and is not failed
pub record IsOwingBy (flow : Dataflow) (p : ℕ) (down : Bool) (owed : List (Stamp × ℕ)) : Type 0 where
  pub there : p < length flow.nodes
  pub live : down ≡ false
  pub some : owed ≢ []

-- node p is owed a notification, and is not failed
abbrev pub IsOwing : Running → ℕ → Type 0
IsOwing running p = IsOwingBy running.flow p (is_down running p) (owed_of running.progress.counts p)

-- at node p one frontier has more than another one
pub record HasGrownBy (flow : Dataflow) (p : ℕ) (kept settled : Front) : Type 0 where
  pub there : p < length flow.nodes
  pub more : has_more kept settled ≡ true

-- more is kept as complete at node p than is settled
abbrev pub HasGrown : Running → ℕ → Type 0
HasGrown running p = HasGrownBy running.flow p (front_of running.progress.kept p) (front_of running.progress.settled p)

-- output o is not failed and may acknowledge its next stamp
abbrev pub CanAcknowledge : Running → ℕ → Type 0
CanAcknowledge running o =
    CanAcknowledgeBy running.flow o (is_down running o) running.epochs (output_of running o) (front_of running.progress.settled o)

-- node s is an input, of which this is kept, that is not failed and has a batch to inject
pub record CanInjectBy (flow : Dataflow) (s : ℕ) (down : Bool) (kept : SourceState) : Type 0 where
  pub there : s < length flow.nodes
  pub live : down ≡ false
  pub input : is_input_kind (kind_of flow s) ≡ true
  pub some : next_batch kept ≢ None

-- node s is an input that is not failed and has a batch to inject
abbrev pub CanInject : Running → ℕ → Type 0
CanInject running s = CanInjectBy running.flow s (is_down running s) (source_of running s)
