-- What is read of a source from a store.
use Rattle.std.specs.Prelude.{◌≡◌, ℕ, ◌^◌, ◌<◌, ◌≤◌, ◌==◌, Bool, true, false, List, [], ◌∷◌, ◌++◌, length, take, slice_index_or, if◌then◌else◌, Option, Some, None, IsSome, Ok, Err}
use Rattle.std.specs.FinMap as map
use Rattle.std.specs.List.{AllByRecursion}
use Rattle.std.specs.Option.{ForSome}
use Rattle.fw_bag.specs.declared.rec.Rec.{Rec}
use Rattle.fw_came.specs.Came.{batch_reading}
use Rattle.fw_came.specs.Source.{HoldsSource}
use Rattle.fw_came.specs.declared.batch.CameBatch.{CameBatch}
use Rattle.fw_flow.specs.Dataflow.{Dataflow, batches_of_nodes, is_input_kind, kind_of}
use Rattle.fw_keep.specs.Stored.{Records}
use Rattle.fw_lines.specs.Batches.{IsBatch, batches_at}
use Rattle.fw_outside.specs.Outside.{StayIfTold}
use Rattle.fw_root.specs.OfFlow.{Given}
use Rattle.fw_session.specs.declared.arrivals.Arrivals.{Arrivals}
use Rattle.fw_session.specs.Session.{came_in, is_open_in}
use Rattle.fw_session.specs.Story.{Story, IsStory, came_to}
use Rattle.fw_lasting.specs.KeptStory.{HoldsWhatCame}
use Rattle.fw_lasting.specs.declared.source.CameTo.{CameTo}

-- ---- one batch

-- these are bytes as a program can have them, under the id
pub record AreUnder (id : ℕ) (held : Records) (bytes : List ℕ) : Type 0 where
  pub there : map.get held id ≡ Some bytes
  pub few : length bytes < 2 ^ 64

-- where the store tells its records, nothing is under the id; or bytes are, and spell this batch
abbrev pub IsBatchUnder : ℕ → Option Records → Option CameBatch → Type 0
IsBatchUnder id records None = ForSome records (λ held. map.get held id ≡ None)
IsBatchUnder id records (Some batch) = ForSome records (λ held. (bytes : List ℕ) × AreUnder id held bytes × (batch_reading bytes ≡ Ok batch))

-- where the store tells its records, bytes are under the id that spell no batch
abbrev pub IsNoBatchUnder : ℕ → Option Records → Type 0
IsNoBatchUnder id records = ForSome records (λ held. (bytes : List ℕ) × AreUnder id held bytes × (left : ℕ) × (batch_reading bytes ≡ Err left))

-- ---- those of a source

-- Such batches may have come to a source: with the empty one behind them of one that is open they are at most 2^20, and one that is
-- closed has a last one.
pub record MayHaveCome (came : List (List Rec)) (opened : Bool) : Type 0 where
  pub batches : AllByRecursion IsBatch came
  pub few : length came ≤ 2 ^ 20
  pub room : opened ≡ true → length came < 2 ^ 20
  pub last : opened ≡ false → 0 < length came

-- the batches of source s are those of before with these behind them, and the others stay
abbrev pub AddsTo : ℕ → Given → Given → List (List Rec) → Type 0
AddsTo s old new more = (other : ℕ) → batches_at new other ≡ (if s == other then batches_at old other ++ more else batches_at old other)

-- the first so many batches that came are read, and more came to a source that is closed
pub record IsReadUpTo (s : ℕ) (came : List (List Rec)) (opened : Bool) (count : ℕ) (old now : Given) : Type 0 where
  pub within : count ≤ length came
  pub more : opened ≡ false → count < length came
  pub added : AddsTo s old now (take count came)

-- All that came is read, and behind it an empty batch is added where the source is open.
pub record IsReadTo (s : ℕ) (came : List (List Rec)) (opened : Bool) (read : CameTo) (old new : Given) : Type 0 where
  pub count : read.count ≡ length came
  pub is_open : read.open ≡ opened
  pub added : AddsTo s old new (came ++ (if opened then [] ∷ [] else []))

-- this is true for whatever came to source s, where the records of before hold that, and are told
abbrev pub ForWhatCame : ℕ → Option Records → Option Records → (List (List Rec) → Bool → Type 0) → Type 0
ForWhatCame s before after P = (came : List (List Rec)) (opened : Bool) (held : Records) → MayHaveCome came opened → before ≡ Some held
    → HoldsSource held s came opened → IsSome after → P came opened

-- While the batches of source s are read, the store has what it had, where it tells that; it failed no more often; and so many batches that
-- came are read.
pub record IsReading (s : ℕ) (before after : Option Records) (failed fails count : ℕ) (old now : Given) : Type 0 where
  pub stays : StayIfTold before after
  pub same : fails ≡ failed
  pub so_far : ForWhatCame s before after (λ came opened. IsReadUpTo s came opened count old now)

-- ---- those of all nodes

-- this is true for whatever came to a node: nothing, where it is no input
abbrev pub ForWhatCameAt : Dataflow → ℕ → Option Records → Option Records → (List (List Rec) → Bool → Type 0) → Type 0
ForWhatCameAt flow place before after P = (is_input_kind (kind_of flow place) ≡ true → ForWhatCame place before after P)
    × (is_input_kind (kind_of flow place) ≡ false → P [] false)

-- this is true for the story of which the records of before hold what came, where they are told
abbrev pub ForStory : Dataflow → Option Records → Option Records → (Story → Type 0) → Type 0
ForStory flow before after P = (story : Story) (held : Records) → IsStory flow story → before ≡ Some held → HoldsWhatCame flow story.now held
    → IsSome after → P story

-- The batches are those of the story, and what is kept of each node is whether this is a source that is open, and how many batches came.
pub record IsWhatCame (flow : Dataflow) (story : Story) (given : Given) (arrivals : Arrivals) : Type 0 where
  pub batches : batches_of_nodes flow given ≡ story.now.batches
  pub opens : (s : ℕ) → is_open_in arrivals s ≡ story.now.opened s
  pub counts : (s : ℕ) → came_in arrivals s ≡ length (came_to flow story.now s)
  pub one_each : length arrivals.came.items ≡ length flow.nodes

-- what came to a node is read
pub record HasReadNode (flow : Dataflow) (story : Story) (q : ℕ) (given : Given) (opened : List Bool) (came : List ℕ) : Type 0 where
  pub batches : batches_at given q ≡ came_to flow story.now q ++ (if story.now.opened q then [] ∷ [] else [])
  pub is_open : slice_index_or opened q false ≡ story.now.opened q
  pub count : slice_index_or came q 0 ≡ length (came_to flow story.now q)

-- What came to the nodes before a place is read, and nothing of those behind it.
pub record IsReadBefore (flow : Dataflow) (place : ℕ) (before after : Option Records) (failed fails : ℕ) (given : Given) (opened : List Bool)
    (came : List ℕ) : Type 0 where
  pub stays : StayIfTold before after
  pub same : fails ≡ failed
  pub many_opened : length opened ≡ place
  pub many_came : length came ≡ place
  pub read : ForStory flow before after (λ story. (q : ℕ) → q < place → HasReadNode flow story q given opened came)
  pub behind : ForStory flow before after (λ story. (q : ℕ) → place ≤ q → batches_at given q ≡ [])
