-- Laws of what a store holds of a session that lasts.
use Rattle.std.specs.Prelude.{◌≡◌, ℕ, ◌+◌, ◌^◌, ◌<◌, ◌≤◌, Bool, true, false, List, [], ◌∷◌, ◌++◌, length, Option, Some, IsSome, Result, IfOk, if◌then◌else◌}
use Rattle.std.specs.List.{Contains}
use Rattle.std.specs.FinMap as map
use Rattle.std.specs.Option.{ForSome}
use Rattle.fw_bag.specs.declared.rec.Rec.{Rec}
use Rattle.fw_engine.specs.declared.engine.Engine.{Engine}
use Rattle.fw_engine.specs.Engine.{flow_of, keep_of}
use Rattle.fw_flow.specs.declared.choice.Choice.{Choice}
use Rattle.fw_flow.specs.declared.step.Step.{Step}
use Rattle.fw_flow.specs.declared.step.Step.TheVariants.{Recover}
use Rattle.fw_flow.specs.Dataflow.{Dataflow, batches_of_nodes}
use Rattle.fw_flow.specs.WellFormed.{IsWellFormed}
use Rattle.fw_keep.specs.Catalogue.{KeepState}
use Rattle.fw_keep.specs.Stored.{Records}
use Rattle.fw_lines.specs.Batches.{IsBatch, batches_at}
use Rattle.fw_model.specs.Machine.{Machine, first_state}
use Rattle.fw_model.specs.Steps.{Effect, cuts, LeadsTo}
use Rattle.fw_feeding.specs.Feeding.{with_batches, GoOnEach}
use Rattle.fw_feeding.specs.OpenRuns.{OpenRun}
use Rattle.fw_hold.specs.Engine.{Standings, IsRootIn, ResumesHeld}
use Rattle.fw_hold.specs.Found.{ChangesOnly, IsLeftOrGone}
use Rattle.fw_hold.specs.Kept.{root_id}
use Rattle.fw_named.specs.Named.{named_ids}
use Rattle.fw_outside.specs.Outside.{StoreView}
use Rattle.fw_regain.specs.Down.{down}
use Rattle.fw_root.specs.declared.root.Digests.{Digests}
use Rattle.fw_root.specs.declared.root.Mark.{Mark}
use Rattle.fw_root.specs.declared.root.Root.{Root}
use Rattle.fw_root.specs.OfFlow.{Given}
use Rattle.fw_root.specs.Sound.{IsMark, IsRootFor}
use Rattle.fw_root.specs.Spelling.{root_spelling}
use Rattle.fw_running.specs.declared.fault.EngineFault.{EngineFault}
use Rattle.fw_running.specs.declared.stepped.Stepped.{Stepped}
use Rattle.fw_running.specs.Steps.{outcome_of}
use Rattle.fw_session.specs.declared.arrivals.Arrivals.{Arrivals}
use Rattle.fw_session.specs.Story.{Story, IsStory, opening, system_now, came_to, after_feed, after_close}
use Rattle.fw_lasting.specs.Again.{IsStartBehind}
use Rattle.fw_came.specs.Came.{batch_bytes, batch_id}
use Rattle.fw_lasting.specs.KeptStory.{GoesOnByStart, HoldsStory, IsRootOfStory}
use Rattle.fw_lasting.specs.RootOver.{IsRootOver}
use Rattle.fw_lasting.specs.UnderWay.{IsUnderWay, SaysLast}

-- a root of the state to which an open run leads is one over all batches that go on behind those of now
abbrev pub RootsStayOverMore : Type 0
RootsStayOverMore =
    (opened : ℕ → Bool) (flow : Dataflow) (now later : List (List (List Rec))) → GoOnEach opened flow now later
    → (steps : List Step) (effects : List Effect) (state : Machine)
    → OpenRun opened (with_batches flow now) (first_state (with_batches flow now)) steps effects state
    → (root : Root) (records : Option Records) → IsRootOver flow now state root records → IsRootOver flow later state root records

-- where a recovery leads from what is left of the state of a story, the story goes on by a start to one of that state
abbrev pub StoriesStartAgain : Type 0
StoriesStartAgain = (flow : Dataflow) (story : Story) → IsStory flow story → (choice : Choice) (state : Machine)
    → LeadsTo (system_now flow story) (down (system_now flow story) story.now.state) Recover state (cuts choice)
    → (next : Story) × IsStartBehind flow story choice next × IsStory flow next × (next.now ≡ record story.now { state = state })

-- Where records hold a story, and a batch of an open source is put under the id of the next one, they hold the story that goes on by it:
-- the put alone feeds the source.
abbrev pub PutBatchesAreFed : Type 0
PutBatchesAreFed = (flow : Dataflow) (digests : Digests) (held new : Records) (story : Story) (turn next : ℕ)
    → HoldsStory flow digests held story turn next → (s : ℕ) (recs : List Rec) → story.now.opened s ≡ true → IsBatch recs
    → length (came_to flow story.now s) + 1 < 2 ^ 20 → next ≤ 2 ^ 63 → let id = batch_id s (length (came_to flow story.now s)) in
    map.get new id ≡ Some (batch_bytes false recs) → ChangesOnly id (Some held) (Some new)
    → HoldsStory flow digests new (after_feed s recs story) turn next

-- where an empty batch is put there, as the one with which the source is closed, they hold the story in which it is closed
abbrev pub PutEndsAreClosed : Type 0
PutEndsAreClosed = (flow : Dataflow) (digests : Digests) (held new : Records) (story : Story) (turn next : ℕ)
    → HoldsStory flow digests held story turn next → (s : ℕ) → story.now.opened s ≡ true → next ≤ 2 ^ 63
    → let id = batch_id s (length (came_to flow story.now s)) in
    map.get new id ≡ Some (batch_bytes true []) → ChangesOnly id (Some held) (Some new)
    → HoldsStory flow digests new (after_close s story) turn next

-- records that hold a story do so where nothing is changed under the ids that the root names, nor from the first id of a batch on
abbrev pub OtherIdsLeaveStories : Type 0
OtherIdsLeaveStories = (flow : Dataflow) (digests : Digests) (held new : Records) (story : Story) (turn next after : ℕ) → next ≤ after
    → HoldsStory flow digests held story turn next
    → ((root : Root) → IsRootOfStory flow digests held story root → root.next_id ≤ next → (id : ℕ) → Contains (named_ids root) id
    → map.get new id ≡ map.get held id)
    → ((id : ℕ) → 2 ^ 63 ≤ id → map.get new id ≡ map.get held id) → HoldsStory flow digests new story turn after

-- where a root of a story that has the same batches is put as the next one, the records hold that story in place of the one before
abbrev pub PutRootsAreKept : Type 0
PutRootsAreKept = (flow : Dataflow) (digests : Digests) (held new : Records) (kept now : Story) (turn next : ℕ) (root : Root)
    → HoldsStory flow digests held kept turn next → IsStory flow now → now.now.batches ≡ kept.now.batches → now.now.opened ≡ kept.now.opened
    → IsRootOver flow now.now.batches now.now.state root (Some held) → root.mark.digests ≡ digests → root.mark.turn ≡ turn + 1
    → map.get new (root_id (turn + 1)) ≡ Some (root_spelling root) → ChangesOnly (root_id (turn + 1)) (Some held) (Some new)
    → HoldsStory flow digests new now (turn + 1) root.next_id

-- where it could not be put, they hold the one before
abbrev pub RootsLeftStayKept : Type 0
RootsLeftStayKept = (flow : Dataflow) (digests : Digests) (held new : Records) (story : Story) (turn next : ℕ)
    → HoldsStory flow digests held story turn next → ChangesOnly (root_id (turn + 1)) (Some held) (Some new)
    → IsLeftOrGone (root_id (turn + 1)) (Some held) (Some new) → HoldsStory flow digests new story turn next

-- what an engine tells that stands for a state over batches is a root of it
abbrev pub ToldRootsAreOver : {E : Type 0} → Standings E → (E → KeepState) → (E → Dataflow) → Type 0
ToldRootsAreOver {E} Stand keep_of flow_of = (engine : E) (mark : Mark) (root : Root) (batches : List (List (List Rec))) (records : Option Records)
    (state : Machine) → IsRootIn Stand keep_of flow_of engine mark root → length batches ≡ length (flow_of engine).nodes
    → Stand (with_batches (flow_of engine) batches) engine records state → IsMark mark → (keep_of engine).next < 2 ^ 62
    → IsRootOver (flow_of engine) batches state root records

-- ---- a start

-- batches by node that are those that came, and an empty one behind them of each open source, are those of the story
abbrev pub ReadBatchesAreThose : Type 0
ReadBatchesAreThose = (flow : Dataflow) (story : Story) → IsStory flow story → (given : Given)
    → ((p : ℕ) → p < length flow.nodes → batches_at given p ≡ came_to flow story.now p ++ (if story.now.opened p then [] ∷ [] else []))
    → batches_of_nodes flow given ≡ story.now.batches

-- and a root of the story is one of them
abbrev pub ReadRootsAreForThem : Type 0
ReadRootsAreForThem = (flow : Dataflow) (story : Story) → IsStory flow story → (given : Given) → batches_of_nodes flow given ≡ story.now.batches
    → (root : Root) (records : Option Records) → IsRootOver flow story.now.batches story.now.state root records → IsRootFor flow given root

-- from the root of a story an engine is made that stands for the state of the story behind a start
abbrev pub StartsGoOn : {E K : Type 0} → (K → StoreView) → Standings E → (E → KeepState) → (E → Dataflow) → Type 0
StartsGoOn {E} {K} view Stand keep_of flow_of = (flow : Dataflow) (story : Story) (given : Given) (root : Root) (before : K)
    (result : Result (E × Stepped) EngineFault) (after : K) → IsStory flow story → batches_of_nodes flow given ≡ story.now.batches
    → IsRootOver flow story.now.batches story.now.state root (view before).records
    → ResumesHeld view Stand keep_of flow_of flow given root before result after → IsSome (view after).records
    → IfOk result (λ made. GoesOnByStart Stand flow story (outcome_of made.1) made.0 (view after).records)

-- where no step was taken, the state of a story is the first one over its batches
abbrev pub StoriesWithoutStepsAreAtFirst : Type 0
StoriesWithoutStepsAreAtFirst = (flow : Dataflow) (story : Story) → IsStory flow story → story.effects ≡ []
    → story.now.state ≡ first_state (system_now flow story)

-- records with nothing hold the opening
abbrev pub EmptyStoresHoldOpenings : Type 0
EmptyStoresHoldOpenings = (flow : Dataflow) (digests : Digests) → IsWellFormed flow → HoldsStory flow digests map.empty (opening flow) 0 0

-- what a session keeps is held by its store, with the lines that were told last: from there a start goes on
abbrev pub KeptStoriesStartAgain : Type 0
KeptStoriesStartAgain = (digests : Digests) (engine : Engine) (arrivals : Arrivals) (records : Option Records) (turn steps : ℕ) (story : Story)
    (lines : List ℕ) → IsUnderWay digests engine arrivals records turn story story → SaysLast (flow_of engine) digests story steps lines records
    → ForSome records (λ held. (HoldsStory (flow_of engine) digests held story turn (keep_of engine).next)
    × SaysLast (flow_of engine) digests story steps lines (Some held))
