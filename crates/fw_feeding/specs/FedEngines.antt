-- What an engine keeps that is fed.
use Rattle.std.specs.Prelude.{◌≡◌, ◌↔◌, ℕ, ◌<◌, List, length}
use Rattle.fw_bag.specs.declared.rec.Rec.{Rec}
use Rattle.fw_flow.specs.Dataflow.{Dataflow, batches_of}
use Rattle.fw_model.specs.Machine.{Machine}
use Rattle.fw_model.specs.Steps.{HasEpoch}
use Rattle.fw_progress.specs.Counts.{batches_in}
use Rattle.fw_stands.specs.Parts.{IsSourceOf}
use Rattle.fw_running.specs.declared.running.Running.{Running}
use Rattle.fw_running.specs.Fed.{StaysWhenFed}
use Rattle.fw_running.specs.Kept.{source_of}
use Rattle.fw_feeding.specs.Feeding.{with_batches}

-- An engine is fed with the later batches: it keeps what it kept, but its sources are those of the later ones, and so are the counts of
-- batches and epochs.
pub record IsFedWith (flow : Dataflow) (later : List (List (List Rec))) (state : Machine) (old new : Running) : Type 0 where
  pub stays : StaysWhenFed old new
  -- what is fed
  pub epochs : (x : ℕ) → (x < new.epochs) ↔ HasEpoch later x
  pub batches : (p : ℕ) → p < length flow.nodes → batches_in new.progress.counts p ≡ length (batches_of (with_batches flow later) p)
  pub sources : (s : ℕ) → s < length flow.nodes → IsSourceOf (with_batches flow later) state s (source_of new s)
