-- What a store holds of a session that lasts: the batches that came, and a root.
use Rattle.std.specs.Prelude.{◌≡◌, ◌⊎◌, ℕ, ◌≤◌, true, [], Option, Some}
use Rattle.fw_came.specs.Source.{HoldsSource}
use Rattle.fw_flow.specs.declared.choice.Choice.{Choice}
use Rattle.fw_flow.specs.Dataflow.{Dataflow, is_input_kind, kind_of}
use Rattle.fw_feeding.specs.FedRuns.{FedMachine}
use Rattle.fw_hold.specs.Engine.{Standings}
use Rattle.fw_hold.specs.Kept.{HaveNoRoot, IsCounted}
use Rattle.fw_keep.specs.Stored.{Records}
use Rattle.fw_model.specs.Steps.{Outcome, cuts, did}
use Rattle.fw_root.specs.declared.root.Digests.{Digests}
use Rattle.fw_root.specs.declared.root.Root.{Root}
use Rattle.fw_session.specs.Story.{Story, IsStory, system_now, came_to}
use Rattle.fw_lasting.specs.Again.{IsStartBehind}
use Rattle.fw_lasting.specs.RootOver.{IsRootOver}

-- ---- what came

-- the records hold what came to each input
abbrev pub HoldsWhatCame : Dataflow → FedMachine → Records → Type 0
HoldsWhatCame flow now held = (s : ℕ) → is_input_kind (kind_of flow s) ≡ true → HoldsSource held s (came_to flow now s) (now.opened s)

-- ---- roots

-- The root counts, is one of these digests, and one of the story's state over its batches.
pub record IsRootOfStory (flow : Dataflow) (digests : Digests) (held : Records) (story : Story) (root : Root) : Type 0 where
  pub counted : IsCounted held root
  pub of_digests : root.mark.digests ≡ digests
  pub over : IsRootOver flow story.now.batches story.now.state root (Some held)

-- Behind so many roots the last one is that of the story, and the ids that it knows were drawn; or there is none, and no step was taken.
abbrev pub HoldsRootOf : Dataflow → Digests → Records → Story → ℕ → ℕ → Type 0
HoldsRootOf flow digests held story turn next =
    (HaveNoRoot held × (story.effects ≡ []) × (turn ≡ 0))
    ⊎ ((root : Root) × IsRootOfStory flow digests held story root × (turn ≡ root.mark.turn) × (root.next_id ≤ next))

-- A session went on from a story by a start, of which this came: its engine stands for the state of the story behind it.
pub record GoesOnByStart {E : Type 0} (Stand : Standings E) (flow : Dataflow) (story : Story) (outcome : Outcome) (engine : E)
    (records : Option Records) : Type 0 where
  pub choice : Choice
  pub next : Story
  pub behind : IsStartBehind flow story choice next
  pub of_story : IsStory flow next
  pub shows : outcome ≡ did (cuts choice)
  pub stands : Stand (system_now flow next) engine records next.now.state

-- The records hold a story: what came in it, and a root of it.
pub record HoldsStory (flow : Dataflow) (digests : Digests) (held : Records) (story : Story) (turn next : ℕ) : Type 0 where
  pub of_story : IsStory flow story
  pub came : HoldsWhatCame flow story.now held
  pub rooted : HoldsRootOf flow digests held story turn next
