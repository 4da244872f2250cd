-- What changes of what is kept, where an engine is fed.
use Rattle.std.specs.Prelude.{◌≡◌, ℕ, ◌+◌, max, true, List}
use Rattle.fw_bag.specs.declared.rec.Rec.{Rec}
use Rattle.fw_border.specs.Sources.{fed_batch, with_source}
use Rattle.fw_progress.specs.Progress.{CountsBatch, IsProgressOf}
use Rattle.fw_running.specs.declared.running.Running.{Running}
use Rattle.fw_running.specs.Fed.{can_feed}
use Rattle.fw_running.specs.Kept.{source_of}
use Rattle.fw_running.specs.Places.{HasAllPlaces}

-- What is kept is what was, but source s is fed a batch of these recs, which is counted, and every place is among those where something may
-- be done.
pub record FeedsRunning (s : ℕ) (recs : List Rec) (old new : Running) : Type 0 where
  pub can : can_feed old s ≡ true
  pub others : new ≡ record old {
    epochs = max old.epochs ((source_of old s).given + 1);
    parts = record old.parts { sources = with_source (fed_batch recs) old.parts.sources s };
    progress = new.progress;
    ready = new.ready;
  }
  pub counts : CountsBatch s old.progress new.progress
  pub of_flow : IsProgressOf old.flow old.progress → IsProgressOf old.flow new.progress
  pub places : HasAllPlaces old.flow new.ready
