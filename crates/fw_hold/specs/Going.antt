-- How a held run goes from move to move, where its store tells its records.
use Rattle.std.specs.Prelude.{◌≡◌, ◌≢◌, ◌⊎◌, ℕ, ◌+◌, ◌-◌, ◌*◌, ◌^◌, ◌<◌, ◌≤◌, List, [], ◌∷◌, ◌++◌, length, drop, Option, Some, Result, Ok, Err, IsErrOf, OnOk}
use Rattle.std.specs.List.{AllByRecursion}
use Rattle.fw_outside.specs.declared.fault.OutFault.{OutFault}
use Rattle.fw_outside.specs.Outside.{SinkView, Takes}
use Rattle.fw_flow.specs.Dataflow.{Dataflow}
use Rattle.fw_schedule.specs.declared.item.Item.{Item}
use Rattle.fw_schedule.specs.Schedule.{step_count}
use Rattle.fw_keep.specs.Catalogue.{KeepState}
use Rattle.fw_keep.specs.Stored.{Records}
use Rattle.fw_model.specs.Reached.{IsReached}
use Rattle.fw_model.specs.Steps.{Outcome}
use Rattle.fw_root.specs.declared.root.Root.{Root}
use Rattle.fw_running.specs.declared.fault.EngineFault.TheVariants as engine
use Rattle.fw_running.specs.EffectText.{outcome_text}
use Rattle.fw_hold.specs.declared.fault.HoldFault.{HoldFault}
use Rattle.fw_hold.specs.declared.fault.HoldFault.TheVariants.{Out, Engine, DamagedRoot, ForeignRoot}
use Rattle.fw_hold.specs.declared.place.SchedulePlace.{SchedulePlace}
use Rattle.fw_hold.specs.Engine.{Standings}
use Rattle.fw_hold.specs.Kept.{HeldTexts, Found, no_root, AreSinglesOf, IsPointOf, IsKeptBy, HoldsKeptPoint, system_in}
use Rattle.fw_hold.specs.Moves.{Move, restored, turned, passed, ended_early, SchedulePoint, KeptPoint, Makes, MakesAll, kept_after, move_text, moves_text}
use Rattle.fw_command.specs.Writing.{faults_by, IsRefusedBy, IsWritten, IsCutOff}

-- ---- what is written

-- the sink took the first text and first bytes of the second, and then refused, by this fault
pub record IsCutIn (first second : List ℕ) (fault : OutFault) (before after : SinkView) : Type 0 where
  pub part : List ℕ
  pub left : List ℕ
  pub parts : second ≡ part ++ left
  pub taken : Takes before.taken (first ++ part) after.taken
  pub faults : after.faults ≡ faults_by fault before.faults
  pub refusals : IsRefusedBy fault before.refusals after.refusals

-- What an answer says of a text that ends with these lines: it was written, or cut off in these lines by the output. No fault of a record
-- nor of a root is answered.
abbrev pub WritesUpTo : {T : Type 0} → List ℕ → List ℕ → Result T HoldFault → SinkView → SinkView → Type 0
WritesUpTo text lines (Ok value) before after = IsWritten text before after
WritesUpTo text lines (Err (Out fault)) before after = (first : List ℕ) × (text ≡ first ++ lines) × IsCutIn first lines fault before after
WritesUpTo text lines (Err (Engine engine.StoreFault)) before after = IsWritten text before after
WritesUpTo text lines (Err (Engine (engine.Damaged id))) before after = ⊥
WritesUpTo text lines (Err (Engine engine.NoMemory)) before after = IsWritten text before after
WritesUpTo text lines (Err (DamagedRoot id)) before after = ⊥
WritesUpTo text lines (Err ForeignRoot) before after = ⊥

-- neither the sink's count of faults nor that of refusals changed
pub record HaveSameCounts (before after : SinkView) : Type 0 where
  pub faults : after.faults ≡ before.faults
  pub refusals : after.refusals ≡ before.refusals

-- How often the output failed and refused a write: where it ended the run once, as its fault says, and else never.
abbrev pub CountsOut : {T : Type 0} → Result T HoldFault → SinkView → SinkView → Type 0
CountsOut (Ok value) before after = HaveSameCounts before after
CountsOut (Err (Out fault)) before after =
    (after.faults ≡ faults_by fault before.faults) × IsRefusedBy fault before.refusals after.refusals
CountsOut (Err (Engine fault)) before after = HaveSameCounts before after
CountsOut (Err (DamagedRoot id)) before after = HaveSameCounts before after
CountsOut (Err ForeignRoot) before after = HaveSameCounts before after

-- ---- where a run is

-- the numbers are those of the point
pub record AreCountsAt (place : SchedulePlace) (point : SchedulePoint) : Type 0 where
  pub ended : place.ended ≡ point.ended
  pub singles : place.singles ≡ point.singles
  pub steps : place.steps ≡ point.steps
  pub idle : place.idle ≡ point.idle

-- the turn is that of the root that counts, and its ids were drawn; 0 where there is no root
abbrev pub IsLastTurn : HeldTexts → ℕ → Records → KeptPoint → ℕ → ℕ → Type 0
IsLastTurn texts starts held kept turn next =
    (HoldsKeptPoint texts starts held no_root kept × (turn ≡ 0))
    ⊎ ((root : Root) × IsKeptBy texts starts held kept root × (turn ≡ root.mark.turn) × (root.next_id ≤ next))

-- The run is at a point, and this is kept: the engine stands for the point's state, the numbers are the point's, and there are few turns
-- and ids.
pub record IsRunAt {E : Type 0} (Stand : Standings E) (keep_of : E → KeepState) (flow_of : E → Dataflow) (texts : HeldTexts) (starts : ℕ)
    (records : Option Records) (engine : E) (place : SchedulePlace) (kept : KeptPoint) (point : SchedulePoint) : Type 0 where
  pub held : Records
  pub told : records ≡ Some held
  pub flow : flow_of engine ≡ texts.flow
  pub stands : Stand (system_in texts) engine records point.state
  pub reached : IsReached (system_in texts) point.state
  pub of_items : IsPointOf texts.items point
  pub counts : AreCountsAt place point
  pub turn : IsLastTurn texts starts held kept place.turn (keep_of engine).next
  pub turns : place.turn ≤ point.steps + starts
  pub ids : (keep_of engine).next ≤ 256 * point.steps

-- the records are told, and a start finds this, and this kept
abbrev pub HoldsFound : HeldTexts → ℕ → Option Records → Found → KeptPoint → Type 0
HoldsFound texts starts records found kept = (held : Records) × (records ≡ Some held) × HoldsKeptPoint texts starts held found kept

-- the records are told, and hold what is kept
abbrev pub HoldsKeptIn : HeldTexts → ℕ → Option Records → KeptPoint → Type 0
HoldsKeptIn texts starts records kept = (found : Found) × HoldsFound texts starts records found kept

-- ---- moves

-- the move restores no node
abbrev pub IsForward : Move → Type 0
IsForward (restored choice) = ⊥
IsForward (turned effect) = Unit {0}
IsForward passed = Unit {0}
IsForward ended_early = Unit {0}

-- no move restores one
abbrev pub AreForward : List Move → Type 0
AreForward moves = AllByRecursion IsForward moves

-- the moves are this one; or none, where it did not go well
abbrev pub IsOneTurn : {T : Type 0} → Move → Result T HoldFault → List Move → Type 0
IsOneTurn move (Ok value) moves = moves ≡ move ∷ []
IsOneTurn move (Err fault) moves = (moves ≡ []) ⊎ (moves ≡ move ∷ [])

-- Moves of which this is true were made from a point, perhaps none, but one where the output ended them; the records hold what is kept behind
-- them, and the answer says what was written of their lines. Where all went well this is true of what is kept and of the last point.
pub record MakesMoves {T : Type 0} (AreSo : List Move → Type 0) (texts : HeldTexts) (starts : ℕ) (kept : KeptPoint) (point : SchedulePoint)
    (answer : Result T HoldFault) (records : Option Records) (before after : SinkView) (IsSo : KeptPoint → SchedulePoint → Type 0) : Type 0 where
  pub moves : List Move
  pub now : KeptPoint
  pub last : SchedulePoint
  pub made : MakesAll (system_in texts) texts.items kept point moves now last
  pub are : AreSo moves
  pub cut : (fault : OutFault) → IsErrOf answer (Out fault) → moves ≢ []
  pub holds : HoldsKeptIn texts starts records now
  pub wrote : WritesUpTo (moves_text texts.flow moves) now.lines answer before after
  pub so : OnOk answer (IsSo now last)

-- A turn was made up to its root: the engine stands for the state of the point to which the move leads, the numbers are those of that
-- point, but for the turn; what was kept before is still kept, and what came of the step is told by the move.
pub record IsTurnMade {E : Type 0} (Stand : Standings E) (keep_of : E → KeepState) (flow_of : E → Dataflow) (texts : HeldTexts) (starts : ℕ)
    (records : Option Records) (engine : E) (place : SchedulePlace) (kept : KeptPoint) (from : SchedulePoint) (move : Move) (to : SchedulePoint)
    (outcome : Outcome) : Type 0 where
  pub held : Records
  pub told : records ≡ Some held
  pub flow : flow_of engine ≡ texts.flow
  pub makes : Makes (system_in texts) texts.items from move to
  pub is_turn : kept_after texts.flow kept move to ≡ record { point = to; lines = outcome_text texts.flow outcome }
  pub shown : move_text texts.flow move ≡ outcome_text texts.flow outcome
  pub stands : Stand (system_in texts) engine records to.state
  pub reached : IsReached (system_in texts) to.state
  pub of_items : IsPointOf texts.items to
  pub counts : AreCountsAt place to
  pub turn : IsLastTurn texts starts held kept place.turn (keep_of engine).next
  pub turns : place.turn + 1 ≤ to.steps + starts
  pub ids : (keep_of engine).next ≤ 256 * to.steps
  pub few : starts ≤ 2 ^ 61

-- what an answer says of lines that are written, if there are any
abbrev pub TellsLines : {T : Type 0} → List ℕ → Result T HoldFault → SinkView → SinkView → Type 0
TellsLines lines (Ok value) before after = IsWritten lines before after
TellsLines lines (Err (Out fault)) before after = IsCutOff lines fault before after
TellsLines lines (Err (Engine fault)) before after = ⊥
TellsLines lines (Err (DamagedRoot id)) before after = ⊥
TellsLines lines (Err ForeignRoot) before after = ⊥

-- ---- numbers

-- how many moves may come at most: of the items that are left each has its steps, and its end
abbrev pub moves_left : List Item → SchedulePlace → ℕ
moves_left items place =
    step_count (drop place.ended items) + length (drop place.ended items) - place.singles

-- The numbers are those of a place of the items, and there is room for what may come: for turns, steps, and the ids of records.
pub record HasRoomIn (items : List Item) (place : SchedulePlace) (next : ℕ) : Type 0 where
  pub many : length items < 2 ^ 64
  pub ended : place.ended ≤ length items
  pub singles : AreSinglesOf (drop place.ended items) place.singles
  pub turn : place.turn + moves_left items place < 2 ^ 64
  pub steps : place.steps + moves_left items place < 2 ^ 64
  pub idle : place.idle + moves_left items place < 2 ^ 64
  pub ids : next + 256 * moves_left items place ≤ 2 ^ 63

-- a move was made: fewer are left, and there is room for them
pub record HasMoved (items : List Item) (old new : SchedulePlace) (next : ℕ) : Type 0 where
  pub room : HasRoomIn items new next
  pub fewer : moves_left items new < moves_left items old
