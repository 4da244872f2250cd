-- Calls of `hold` with the same texts, one after another over one store that tells its records.
use Rattle.std.specs.Prelude.{◌≡◌, ◌⊎◌, ℕ, ◌+◌, ◌^◌, ◌<◌, List, [], ◌∷◌, length, Option, Some, IsSome}
use Rattle.std.specs.FinMap as map
use Rattle.fw_outside.specs.Outside.{SinkView, StoreView}
use Rattle.fw_flow.specs.Dataflow.{Dataflow}
use Rattle.fw_keep.specs.Stored.{Records, IsEmptyStore}
use Rattle.fw_generate.specs.Laws.{AreAccepted}
use Rattle.fw_generate.specs.Texts.{Texts}
use Rattle.fw_command.specs.Command.{TextNames}
use Rattle.fw_command.specs.Texts.{spelled_items, spelled_system}
use Rattle.fw_command.specs.Words.{held_of}
use Rattle.fw_hold.specs.Chain.{Started, StartsLead}
use Rattle.fw_hold.specs.Kept.{Found, no_root, kept_at_first, system_in}
use Rattle.fw_hold.specs.Moves.{KeptPoint}
use Rattle.fw_run.specs.declared.status.Status.{Status}
use Rattle.fw_run.specs.Answers.{Outside, Known, TellsRecords, outside_of}
use Rattle.fw_run.specs.Headline.{AreOneRightRun}
use Rattle.fw_run.specs.Held.{GoesOnFrom, HeldAnswers, IsNoStart}
use Rattle.fw_run.specs.HeldTexts.{AreHeldTexts, HoldsEarlier, EarlierStarts, MayBegin, held_texts}

-- ---- over which stores a start may begin

-- before the first start: none was made, and nothing is kept
abbrev pub no_starts : Dataflow → Texts → EarlierStarts
no_starts flow texts = record { many = 0; found = no_root; kept = kept_at_first (system_in (held_texts flow texts)) }

-- an empty store holds what no start left
abbrev pub EmptyHoldsNoStart : Type 0
EmptyHoldsNoStart = (flow : Dataflow) (texts : Texts) (records : Option Records) → IsSome records → IsEmptyStore records
    → HoldsEarlier flow texts records (no_starts flow texts)

-- over what earlier starts left a call with the same texts may begin
abbrev pub LaterCallMayBegin : Type 0
LaterCallMayBegin = (folder : List ℕ → Option (List ℕ)) (words : List (List ℕ)) (names : TextNames) (flow : Dataflow) (texts : Texts)
    (records : Option Records) (earlier : EarlierStarts) → held_of words ≡ Some names → AreHeldTexts (Some folder) names flow texts
    → HoldsEarlier flow texts records earlier → MayBegin words (Some folder) records

-- ---- calls

-- a call: what was outside before it, its status, and what is outside behind it
pub record HeldCall (F K O : Type 0) : Type 0 where
  pub before : Outside F K O
  pub status : Status
  pub after : Outside F K O

-- The call was made with these texts over these records: the folder tells them, the store tells its records at the end, and what is promised
-- of it is true.
pub record IsCallOver {F K O : Type 0} (known : Known F K O) (names : TextNames) (flow : Dataflow) (texts : Texts) (records : Option Records)
    (call : HeldCall F K O) : Type 0 where
  pub told : IsSome (known.texts call.before.folder)
  pub read : AreHeldTexts (known.texts call.before.folder) names flow texts
  pub over : (known.store call.before.store).records ≡ records
  pub tells : TellsRecords known call.after
  pub answers : HeldAnswers known names call.before call.status call.after

-- the calls were made one after another, each over what the one before left
abbrev pub AreCallsOver : {F K O : Type 0} → Known F K O → TextNames → Dataflow → Texts → Option Records → List (HeldCall F K O) → Type 0
AreCallsOver known names flow texts records [] = Unit {0}
AreCallsOver known names flow texts records (call ∷ calls) =
    IsCallOver known names flow texts records call × AreCallsOver known names flow texts (known.store call.after.store).records calls

-- the call went on from what earlier starts left: it made the moves of this start, keeps what it keeps, and wrote what its status says of it
pub record IsCallOf {F K O : Type 0} (known : Known F K O) (flow : Dataflow) (texts : Texts) (earlier : EarlierStarts) (start : Started)
    (call : HeldCall F K O) : Type 0 where
  pub goes : GoesOnFrom flow texts earlier (known.store call.after.store).records call.status (known.out call.before.out) (known.out call.after.out)
  pub moves : goes.on.moves ≡ start.moves
  pub now : goes.on.now ≡ start.now

-- what earlier starts left, with one start more: this was found of it
abbrev pub with_start : EarlierStarts → Found → Started → EarlierStarts
with_start earlier found start = record { many = earlier.many + 1; found = found; kept = start.now }

-- These are the starts that the calls made: each call made the next one, which the records behind it hold, or no start was made.
abbrev pub AreStartsOf : {F K O : Type 0} → Known F K O → Dataflow → Texts → EarlierStarts → List (HeldCall F K O) → List Started → Type 0
AreStartsOf known flow texts earlier [] starts = starts ≡ []
AreStartsOf known flow texts earlier (call ∷ calls) starts =
    (IsNoStart call.before call.status call.after × AreStartsOf known flow texts earlier calls starts)
    ⊎ ((start : Started) × (others : List Started) × (found : Found) × (starts ≡ start ∷ others) × IsCallOf known flow texts earlier start call
    × HoldsEarlier flow texts (known.store call.after.store).records (with_start earlier found start)
    × AreStartsOf known flow texts (with_start earlier found start) calls others)

-- what calls did together: the starts that they made are one run of the machine, and all is right where it ends
pub record DoOneRun {F K O : Type 0} (known : Known F K O) (flow : Dataflow) (texts : Texts) (earlier : EarlierStarts) (calls : List (HeldCall F K O))
    : Type 0 where
  pub starts : List Started
  pub last : KeptPoint
  pub made : AreStartsOf known flow texts earlier calls starts
  pub lead : StartsLead (spelled_system flow texts) (spelled_items flow texts) earlier.kept starts last
  pub one : AreOneRightRun (spelled_system flow texts) starts last

-- Fewer than 2^61 calls with accepted texts, made one after another over a store that is empty at first, did one run.
abbrev pub CallsAreOneRun : {F K O : Type 0} → Known F K O → Type 0
CallsAreOneRun {F} {K} {O} known = (names : TextNames) (flow : Dataflow) (texts : Texts) (calls : List (HeldCall F K O)) → AreAccepted texts flow
    → length calls < 2 ^ 61 → AreCallsOver known names flow texts (Some map.empty) calls → DoOneRun known flow texts (no_starts flow texts) calls

-- ---- calls over folders, stores and outputs of any types

-- what is known of a folder: its texts, where it tells them, how often it was asked and how often it failed
pub record FolderView : Type 0 where
  pub texts : Option (List ℕ → Option (List ℕ))
  pub fetches : ℕ
  pub read_faults : ℕ

abbrev pub folder_view_of : {F K O : Type 0} → Known F K O → F → FolderView
folder_view_of known folder =
    record { texts = known.texts folder; fetches = known.fetches folder; read_faults = known.read_faults folder }

-- what is known of what is outside of a call
abbrev pub view_of : {F K O : Type 0} → Known F K O → Outside F K O → Outside FolderView StoreView SinkView
view_of known outside = outside_of (folder_view_of known outside.folder) (known.store outside.store) (known.out outside.out)

-- of views all is known
abbrev pub known_of_views : Known FolderView StoreView SinkView
known_of_views = record {
  texts = λ (folder : FolderView). folder.texts;
  fetches = λ (folder : FolderView). folder.fetches;
  read_faults = λ (folder : FolderView). folder.read_faults;
  store = λ (store : StoreView). store;
  out = λ (out : SinkView). out;
}

-- What is promised of a call of `hold` is promised of what is known of it. So calls over folders, stores and outputs of different types can
-- stand in one list, where each store holds what the one before it told at the end.
abbrev pub AnswersAreOfViews : {F K O : Type 0} → Known F K O → Type 0
AnswersAreOfViews {F} {K} {O} known = (names : TextNames) (before : Outside F K O) (status : Status) (after : Outside F K O)
    → HeldAnswers known names before status after → HeldAnswers known_of_views names (view_of known before) status (view_of known after)
