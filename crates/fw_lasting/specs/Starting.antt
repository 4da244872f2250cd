-- How a session that lasts starts.
use Rattle.std.specs.Prelude.{◌≡◌, ◌⊎◌, ℕ, Bool, List, [], Option, None, Some}
use Rattle.std.specs.Option.{ForSome}
use Rattle.fw_engine.specs.declared.engine.Engine.{Engine}
use Rattle.fw_flow.specs.declared.choice.Choice.{Choice}
use Rattle.fw_flow.specs.Dataflow.{Dataflow}
use Rattle.fw_hold.specs.declared.fault.HoldFault.{HoldFault}
use Rattle.fw_hold.specs.declared.fault.HoldFault.TheVariants.{Engine as OfEngine, ForeignRoot}
use Rattle.fw_hold.specs.Starting.{IsForeign}
use Rattle.fw_keep.specs.Stored.{Records}
use Rattle.fw_model.specs.Steps.{cuts, did}
use Rattle.fw_root.specs.declared.root.Digests.{Digests}
use Rattle.fw_running.specs.declared.fault.EngineFault.TheVariants as fault
use Rattle.fw_running.specs.Steps.{outcome_of}
use Rattle.fw_session.specs.declared.arrivals.Arrivals.{Arrivals}
use Rattle.fw_session.specs.Story.{Story}
use Rattle.fw_lasting.specs.Again.{IsStartBehind}
use Rattle.fw_lasting.specs.declared.start.Resumed.{Resumed}
use Rattle.fw_lasting.specs.KeptStory.{HoldsStory}
use Rattle.fw_lasting.specs.UnderWay.{IsUnderWay}

-- the records hold some story
abbrev pub HoldsSome : Dataflow → Digests → Records → Type 0
HoldsSome flow digests held = (story : Story) × (turn : ℕ) × (next : ℕ) × HoldsStory flow digests held story turn next

-- a session may start over the records, where they are told: they hold a story, or the root that counts is one of other texts
abbrev pub MayStart : Dataflow → Digests → Option Records → Type 0
MayStart flow digests records = ForSome records (λ held. HoldsSome flow digests held ⊎ IsForeign digests held)

-- the store failed, or memory was refused
abbrev pub IsOfOutside : HoldFault → Type 0
IsOfOutside known = (known ≡ OfEngine fault.StoreFault) ⊎ (known ≡ OfEngine fault.NoMemory)

-- a root of other texts is answered, unless the store fails or memory is refused before it is known
abbrev pub IsForeignFault : HoldFault → Type 0
IsForeignFault known = (known ≡ ForeignRoot) ⊎ IsOfOutside known

-- a start found a root behind so many steps, with these lines
abbrev pub TellsAgain : ℕ → List ℕ → Option Resumed → Type 0
TellsAgain steps lines None = ⊥
TellsAgain steps lines (Some resumed) = (resumed.steps ≡ steps) × (resumed.lines ≡ lines)

-- Where a start found no root it is at the story that the records hold; else at that of a start behind it, in which every node was restored by
-- what is told.
abbrev pub GoesOnFrom : Dataflow → Story → Option Resumed → Story → Type 0
GoesOnFrom flow story None now = now ≡ story
GoesOnFrom flow story (Some resumed) now =
    (choice : Choice) × IsStartBehind flow story choice now × (outcome_of resumed.stepped ≡ did (cuts choice))

-- A start found that the records hold this story: it is under way, at a story that goes on from it.
pub record HasStarted (flow : Dataflow) (digests : Digests) (engine : Engine) (arrivals : Arrivals) (records : Option Records) (turn : ℕ)
    (resumed : Option Resumed) (story : Story) : Type 0 where
  pub now : Story
  pub goes_on : GoesOnFrom flow story resumed now
  pub under_way : IsUnderWay digests engine arrivals records turn story now
