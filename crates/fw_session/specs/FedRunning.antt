-- What an engine keeps, where a source is fed that is open in a story.
use Rattle.std.specs.Prelude.{◌≡◌, ℕ, ◌+◌, ◌^◌, ◌<◌, true, List, length, Option}
use Rattle.fw_bag.specs.declared.rec.Rec.{Rec}
use Rattle.fw_flow.specs.Dataflow.{Dataflow}
use Rattle.fw_flow.specs.WellFormed.{IsWellFormedSystem}
use Rattle.fw_keep.specs.Stored.{Records}
use Rattle.fw_running.specs.declared.running.Running.{Running}
use Rattle.fw_running.specs.Fed.{can_feed, IsFedBatch}
use Rattle.fw_running.specs.Stands.{Stands}
use Rattle.fw_feeding.specs.Feeding.{with_batches}
use Rattle.fw_session.specs.Story.{Story, IsStory, system_now, came_to, fed_batches}

-- where it stands for the state of the story and is fed a batch, it stands for that state over the batches with that one, if these make a
-- well-formed system
abbrev pub FedBatchesStand : Type 0
FedBatchesStand =
    (flow : Dataflow) (story : Story) (s : ℕ) (recs : List Rec) (old new : Running) (records : Option Records) → IsStory flow story
    → story.now.opened s ≡ true → IsFedBatch s recs old new → IsWellFormedSystem (with_batches flow (fed_batches s recs story.now.batches))
    → Stands (system_now flow story) old records story.now.state
    → Stands (with_batches flow (fed_batches s recs story.now.batches)) new records story.now.state

-- where it stands for the state of the story, it can be fed a batch of the source, if there is room for one
abbrev pub OpenSourcesCanBeFed : Type 0
OpenSourcesCanBeFed =
    (flow : Dataflow) (story : Story) (s : ℕ) (running : Running) (records : Option Records) → IsStory flow story → story.now.opened s ≡ true
    → length (came_to flow story.now s) + 1 < 2 ^ 20 → Stands (system_now flow story) running records story.now.state → can_feed running s ≡ true
