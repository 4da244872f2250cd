-- Where a session that lasts stands: the story at which it is, and the one that its store holds.
use Rattle.std.specs.Prelude.{◌≡◌, ◌⊎◌, ℕ, ◌+◌, ◌^◌, ◌<◌, ◌≤◌, if◌then◌else◌, nat_lt, List, Option, IfSome, IsSome, Result, Ok, Err}
use Rattle.std.specs.FinMap as map
use Rattle.std.specs.Option.{ForSome}
use Rattle.fw_engine.specs.declared.engine.Engine.{Engine}
use Rattle.fw_engine.specs.Engine.{flow_of, keep_of, StandsFor}
use Rattle.fw_flow.specs.Dataflow.{Dataflow}
use Rattle.fw_held.specs.declared.restartable.RestartableEngine.{RestartableEngine}
use Rattle.fw_hold.specs.Engine.{IsRootIn, KeepsOutside, Standings}
use Rattle.fw_keep.specs.Catalogue.{KeepState}
use Rattle.fw_keep.specs.Stored.{HasEntries, Records}
use Rattle.fw_living.specs.declared.fault.LifeFault.{LifeFault}
use Rattle.fw_living.specs.declared.fault.LifeFault.TheVariants as life
use Rattle.fw_living.specs.Life.{life_faults_after}
use Rattle.fw_root.specs.declared.root.Digests.{Digests}
use Rattle.fw_root.specs.declared.root.Mark.{Mark}
use Rattle.fw_root.specs.declared.root.Root.{Root}
use Rattle.fw_root.specs.Sound.{IsMark}
use Rattle.fw_running.specs.declared.fault.EngineFault.{EngineFault}
use Rattle.fw_running.specs.declared.fault.EngineFault.TheVariants as fault
use Rattle.fw_running.specs.declared.stepped.Stepped.{Stepped}
use Rattle.fw_running.specs.declared.stepped.Stepped.TheVariants.{Did, Idle}
use Rattle.fw_session.specs.declared.arrivals.Arrivals.{Arrivals}
use Rattle.fw_session.specs.Session.{IsAt}
use Rattle.fw_session.specs.Story.{Story}
use Rattle.fw_lasting.specs.KeptStory.{HoldsStory, IsRootOfStory}

-- A session is under way: it is at a story, and its store, where it tells its records, holds one with the same batches and the same open sources.
pub record IsUnderWay (digests : Digests) (engine : Engine) (arrivals : Arrivals) (records : Option Records) (turn : ℕ) (kept now : Story)
    : Type 0 where
  pub at : IsAt engine records arrivals now
  pub holds : ForSome records (λ held. HoldsStory (flow_of engine) digests held kept turn (keep_of engine).next)
  pub same_batches : now.now.batches ≡ kept.now.batches
  pub same_opened : now.now.opened ≡ kept.now.opened

-- how many steps were done, with one that answered so; from 2^62 on none is counted, and no root is put
abbrev pub steps_after : ℕ → Result Stepped EngineFault → ℕ
steps_after steps (Ok Idle) = steps
steps_after steps (Ok (Did effect)) = if nat_lt steps (2 ^ 62) then steps + 1 else steps
steps_after steps (Err e) = steps

-- where the store tells its records, they hold the story
abbrev pub StillHolds : Dataflow → Digests → Option Records → Story → Type 0
StillHolds flow digests records story = ForSome records (λ held. (turn : ℕ) × (next : ℕ) × HoldsStory flow digests held story turn next)

-- where the store tells its records, they hold the one story or the other
abbrev pub KeepsEither : Dataflow → Digests → Option Records → Story → Story → Type 0
KeepsEither flow digests records kept now = ForSome records (λ held. (turn : ℕ) × (next : ℕ)
    × (HoldsStory flow digests held kept turn next ⊎ HoldsStory flow digests held now turn next))

-- where the store tells its records, the root that counts is that of this story, behind so many steps, and has these lines
abbrev pub SaysLast : Dataflow → Digests → Story → ℕ → List ℕ → Option Records → Type 0
SaysLast flow digests story steps lines records = ForSome records (λ held. (root : Root) × IsRootOfStory flow digests held story root
    × (root.mark.steps ≡ steps) × (root.mark.lines ≡ lines))

-- What a call leaves, whatever it answers: the flow; a record under each entry's id; and nothing is changed but under the ids that were drawn,
-- of which there are at most as many as there may be nodes.
pub record LeavesRecords (old : Engine) (before : Option Records) (new : Engine) (after : Option Records) : Type 0 where
  pub flow : flow_of new ≡ flow_of old
  pub stored : ForSome after (HasEntries (keep_of new))
  pub outside : KeepsOutside (keep_of old).next (keep_of new).next before after
  pub drawn : (keep_of new).next ≤ (keep_of old).next + 256
  pub never_back : (keep_of old).next ≤ (keep_of new).next

-- ---- how often the store fails

-- A record was put under an id of its own, and so often the store failed behind that; that one lay there is a fault too, and is not counted.
abbrev pub CountsPutting : {T : Type 0} → Result T LifeFault → ℕ → Option Records → ℕ → ℕ → Type 0
CountsPutting result id records before after =
    (after ≡ life_faults_after result before) ⊎ ((after ≡ before) × IfSome records (λ held. IsSome (map.get held id)))

-- why a sweep was not done
abbrev pub of_sweep : EngineFault → LifeFault
of_sweep fault.StoreFault = life.StoreFault
of_sweep (fault.Damaged id) = life.StoreFault
of_sweep fault.NoMemory = life.NoMemory

-- ---- the next root

-- for which states of a system's machine an engine stands that can start again
abbrev pub StandsAgain : Standings RestartableEngine
StandsAgain sys made records state = StandsFor sys made.engine records state

-- its catalogue, and its flow
abbrev pub keep_again : RestartableEngine → KeepState
keep_again made = keep_of made.engine

abbrev pub flow_again : RestartableEngine → Dataflow
flow_again made = flow_of made.engine

-- the mark of the turn behind this one
pub record IsNextMark (digests : Digests) (turn steps : ℕ) (lines : List ℕ) (mark : Mark) : Type 0 where
  pub sound : IsMark mark
  pub of_digests : mark.digests ≡ digests
  pub next_turn : mark.turn ≡ turn + 1
  pub as_many : mark.steps ≡ steps
  pub of_lines : mark.lines ≡ lines

-- The root is that of an engine, with a mark of the turn behind this one.
pub record IsNextRoot (made : RestartableEngine) (digests : Digests) (turn steps : ℕ) (lines : List ℕ) (root : Root) : Type 0 where
  pub marked : IsNextMark digests turn steps lines root.mark
  pub told : IsRootIn StandsAgain keep_again flow_again made root.mark root
  pub few : (keep_of made.engine).next < 2 ^ 62
