-- How a start of a held run begins, and what it leaves.
use Rattle.std.specs.Prelude.{◌≡◌, ◌⊎◌, ℕ, ◌+◌, ◌^◌, ◌<◌, List, [], ◌∷◌, ◌++◌, codes, Option, Some, Result, Ok, Err, IsErrOf}
use Rattle.std.specs.Fmt.{decimal}
use Rattle.std.specs.FinMap as map
use Rattle.std.specs.Option.{ForSome}
use Rattle.fw_outside.specs.Outside.{SinkView}
use Rattle.fw_flow.specs.Dataflow.{Dataflow}
use Rattle.fw_keep.specs.Catalogue.{KeepState}
use Rattle.fw_keep.specs.Stored.{Records}
use Rattle.fw_root.specs.declared.root.Digests.{Digests}
use Rattle.fw_root.specs.declared.root.Head.{Head}
use Rattle.fw_root.specs.declared.root.Root.{Root}
use Rattle.fw_root.specs.OfFlow.{Given}
use Rattle.fw_running.specs.declared.fault.EngineFault.TheVariants as engine
use Rattle.fw_command.specs.Writing.{IsWritten, IsCutOff}
use Rattle.fw_hold.specs.declared.fault.HoldFault.{HoldFault}
use Rattle.fw_hold.specs.declared.fault.HoldFault.TheVariants.{Out, Engine, DamagedRoot, ForeignRoot}
use Rattle.fw_hold.specs.declared.plan.HeldPlan.{HeldPlan}
use Rattle.fw_hold.specs.declared.place.SchedulePlace.{SchedulePlace}
use Rattle.fw_hold.specs.Engine.{Standings}
use Rattle.fw_hold.specs.Found.{BeginAs}
use Rattle.fw_hold.specs.Going.{HoldsKeptIn, AreForward, IsRunAt, WritesUpTo}
use Rattle.fw_hold.specs.Kept.{HeldTexts, Found, no_root, a_root, root_id, HoldsKeptPoint, IsKeptBy, system_in}
use Rattle.fw_hold.specs.Moves.{Move, restored, turned, passed, ended_early, SchedulePoint, KeptPoint, MakesAll, moves_text}

-- ---- what a start finds

-- The head counts: bytes that begin with it are under the id of its turn, and under the other id is nothing, or bytes that begin with a
-- head of an earlier turn.
pub record IsCountedHead (held : Records) (head : Head) : Type 0 where
  pub bytes : List ℕ
  pub there : map.get held (root_id head.turn) ≡ Some bytes
  pub begins : BeginAs bytes head
  pub other : (others : List ℕ) → map.get held (root_id (head.turn + 1)) ≡ Some others
      → (earlier : Head) × BeginAs others earlier × (earlier.turn < head.turn)

-- the root that counts is one of other texts
abbrev pub IsForeign : Digests → Records → Type 0
IsForeign digests held = (head : Head) × IsCountedHead held head × (head.digests ≡ digests → ⊥)

-- the records are told, and it is
abbrev pub IsForeignIn : Digests → Option Records → Type 0
IsForeignIn digests records = (held : Records) × (records ≡ Some held) × IsForeign digests held

-- the records hold what fewer than 2^61 starts kept
pub record HoldsStarts (texts : HeldTexts) (held : Records) : Type 0 where
  pub starts : ℕ
  pub few : starts < 2 ^ 61
  pub found : Found
  pub kept : KeptPoint
  pub holds : HoldsKeptPoint texts starts held found kept

-- a start may begin over the records, where they are told: they hold what starts kept, or the root that counts is one of other texts
abbrev pub MayStart : HeldTexts → Option Records → Type 0
MayStart texts records = ForSome records (λ held. HoldsStarts texts held ⊎ IsForeign texts.digests held)

-- the records are told, and the root counts there, and is of what is kept
abbrev pub IsKeptIn : HeldTexts → ℕ → Option Records → KeptPoint → Root → Type 0
IsKeptIn texts starts records kept root = (held : Records) × (records ≡ Some held) × IsKeptBy texts starts held kept root

-- what a plan, a dataflow and its batches are of texts
abbrev pub held_texts_of : Dataflow → Given → HeldPlan → HeldTexts
held_texts_of flow batches plan =
    record { flow = flow; batches = batches; items = plan.items.now; numbers = plan.numbers.now; digests = plan.digests }

-- ---- what it tells and does

-- `resumed at STEPS`, and these lines
abbrev pub resumed_text : ℕ → List ℕ → List ℕ
resumed_text steps lines = codes "resumed at " ++ (decimal steps ++ (codes "\n" ++ lines))

-- what a root opens with
abbrev pub lines_of_root : Root → List ℕ
lines_of_root root = resumed_text root.mark.steps root.mark.lines

-- `resumed at STEPS`, and the lines of the turn that was kept last once more; nothing where there is no root
abbrev pub opening_text : Found → KeptPoint → List ℕ
opening_text no_root kept = []
opening_text a_root kept = resumed_text kept.point.steps kept.lines

-- what an answer says of a text that is to open a run: it was written, or cut off; or memory was refused before
abbrev pub TellsOpening : {T : Type 0} → List ℕ → Result T HoldFault → SinkView → SinkView → Type 0
TellsOpening text (Ok value) before after = IsWritten text before after
TellsOpening text (Err (Out fault)) before after = IsCutOff text fault before after
TellsOpening text (Err (Engine engine.StoreFault)) before after = ⊥
TellsOpening text (Err (Engine (engine.Damaged id))) before after = ⊥
TellsOpening text (Err (Engine engine.NoMemory)) before after = after ≡ before
TellsOpening text (Err (DamagedRoot id)) before after = ⊥
TellsOpening text (Err ForeignRoot) before after = ⊥

-- behind a root every node is restored first, and no other move restores one
abbrev pub RestoresAsFound : Found → List Move → Type 0
RestoresAsFound no_root moves = AreForward moves
RestoresAsFound a_root [] = ⊥
RestoresAsFound a_root (restored choice ∷ moves) = AreForward moves
RestoresAsFound a_root (turned effect ∷ moves) = ⊥
RestoresAsFound a_root (passed ∷ moves) = ⊥
RestoresAsFound a_root (ended_early ∷ moves) = ⊥

-- the same, where a move is made at all
abbrev pub BeginsAsFound : Found → List Move → Type 0
BeginsAsFound found moves = (moves ≡ []) ⊎ RestoresAsFound found moves

-- the lines that were to be written last: those of the last turn, and of the opening where no move was made
abbrev pub lines_written_last : Found → KeptPoint → List Move → KeptPoint → List ℕ
lines_written_last found kept [] now = opening_text found kept
lines_written_last found kept (move ∷ moves) now = now.lines

-- of what is answered this is true, where all went well
abbrev pub IfWell : {T : Type 0} → Result T HoldFault → (T → Type 0) → Type 0
IfWell (Ok value) P = P value
IfWell (Err fault) P = Unit {0}

-- A start found this kept, and made moves from there, perhaps none; the records hold what is kept behind them. Its text is what it opens
-- with and the lines of its moves; or nothing, where it ended before it came to open. The answer says what was written of it. Where all went
-- well it opened, and this is true of the value, of what is kept and of the last point.
pub record EndsStart {T : Type 0} (texts : HeldTexts) (starts : ℕ) (found : Found) (kept : KeptPoint) (answer : Result T HoldFault)
    (records : Option Records) (before after : SinkView) (IsSo : T → KeptPoint → SchedulePoint → Type 0) : Type 0 where
  pub moves : List Move
  pub now : KeptPoint
  pub last : SchedulePoint
  pub made : MakesAll (system_in texts) texts.items kept kept.point moves now last
  pub begins : BeginsAsFound found moves
  pub holds : HoldsKeptIn texts (starts + 1) records now
  pub text : List ℕ
  pub told : (text ≡ opening_text found kept ++ moves_text texts.flow moves) ⊎ ((text ≡ []) × (moves ≡ []))
  pub opened : IfWell answer (λ value. (text ≡ opening_text found kept ++ moves_text texts.flow moves) × RestoresAsFound found moves)
  pub wrote : WritesUpTo text (lines_written_last found kept moves now) answer before after
  pub so : IfWell answer (λ value. IsSo value now last)

-- A start found this kept, and is under way: it has told what it opens with, and the lines of the moves that it made from there.
pub record HasBegun {E : Type 0} (Stand : Standings E) (keep_of : E → KeepState) (flow_of : E → Dataflow) (texts : HeldTexts) (starts : ℕ)
    (found : Found) (kept : KeptPoint) (records : Option Records) (before after : SinkView) (engine : E) (place : SchedulePlace) : Type 0 where
  pub moves : List Move
  pub now : KeptPoint
  pub last : SchedulePoint
  pub made : MakesAll (system_in texts) texts.items kept kept.point moves now last
  pub begins : RestoresAsFound found moves
  pub wrote : IsWritten (opening_text found kept ++ moves_text texts.flow moves) before after
  pub under_way : IsRunAt Stand keep_of flow_of texts (starts + 1) records engine place now last

-- A root of other texts is answered, unless the store fails or memory is refused before it is known.
abbrev pub IsToldForeign : {T : Type 0} → Result T HoldFault → Type 0
IsToldForeign answer =
    IsErrOf answer ForeignRoot ⊎ (IsErrOf answer (Engine engine.StoreFault) ⊎ IsErrOf answer (Engine engine.NoMemory))

-- the answer is this root, or that memory was refused
abbrev pub IsThisOrNoMemory : Root → Result Root HoldFault → Type 0
IsThisOrNoMemory root (Ok other) = other ≡ root
IsThisOrNoMemory root (Err fault) = fault ≡ Engine engine.NoMemory
