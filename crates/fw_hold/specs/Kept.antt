-- What a store holds of a run that can start again from it.
use Rattle.std.specs.Prelude.{◌≡◌, ◌⊎◌, ℕ, ◌+◌, ◌-◌, ◌*◌, ◌%◌, ◌^◌, ◌<◌, ◌≤◌, List, [], ◌∷◌, length, take, drop, nat_lt, if◌then◌else◌, slice_index_or, Some, None, Ok}
use Rattle.std.specs.FinMap as map
use Rattle.fw_flow.specs.Dataflow.{Dataflow, System, system_of}
use Rattle.fw_schedule.specs.declared.item.Item.{Item}
use Rattle.fw_schedule.specs.Schedule.{steps_in, step_count, step_limit}
use Rattle.fw_keep.specs.Catalogue.{AreAscending}
use Rattle.fw_keep.specs.Stored.{Records}
use Rattle.fw_model.specs.Reached.{IsReached}
use Rattle.fw_regain.specs.RootOf.{IsRootOf}
use Rattle.fw_root.specs.declared.root.Digests.{Digests}
use Rattle.fw_root.specs.declared.root.Head.{Head}
use Rattle.fw_root.specs.declared.root.Mark.{Mark}
use Rattle.fw_root.specs.declared.root.Root.{Root}
use Rattle.fw_root.specs.OfFlow.{Given}
use Rattle.fw_root.specs.Reading.{read_root_head}
use Rattle.fw_root.specs.Sound.{IsRootFor}
use Rattle.fw_root.specs.Spelling.{root_spelling}
use Rattle.fw_hold.specs.declared.plan.HeldPlan.{HeldPlan}
use Rattle.fw_hold.specs.declared.place.SchedulePlace.{SchedulePlace}
use Rattle.fw_hold.specs.Moves.{SchedulePoint, KeptPoint, point_at_first}
use Rattle.fw_named.specs.Named.{AreNamed}

-- What the texts of a held run spell: a dataflow with its batches, the items of a schedule, and the lines on which these stand; and the
-- digests of the texts.
pub record HeldTexts : Type 0 where
  pub flow : Dataflow
  pub batches : Given
  pub items : List Item
  pub numbers : List ℕ
  pub digests : Digests

-- the system of the texts
abbrev pub system_in : HeldTexts → System
system_in texts = system_of texts.flow texts.batches

-- ---- places

-- the line behind the last of these
abbrev pub line_behind : List ℕ → ℕ
line_behind [] = 0
line_behind (number ∷ []) = number + 1
line_behind (number ∷ next ∷ numbers) = line_behind (next ∷ numbers)

-- the line of the item that comes next where so many have ended; behind the last one the line behind that
abbrev pub line_at : List ℕ → ℕ → ℕ
line_at numbers ended = slice_index_or numbers ended (line_behind numbers)

-- how many of these lines stand before a line, up to the first that does not
abbrev pub ended_before : List ℕ → ℕ → ℕ
ended_before [] line = 0
ended_before (number ∷ numbers) line = if nat_lt number line then 1 + ended_before numbers line else 0

-- so many single steps of the first of these items are done: none, or fewer than it has
abbrev pub AreSinglesOf : List Item → ℕ → Type 0
AreSinglesOf [] singles = singles ≡ 0
AreSinglesOf (item ∷ items) singles = (singles ≡ 0) ⊎ (singles < steps_in item)

-- It is a point of these items: no more single steps of the one that comes next are done than it has, no more steps were counted than the
-- items so far and these single steps are, and no more did nothing.
pub record IsPointOf (items : List Item) (point : SchedulePoint) : Type 0 where
  pub ended : point.ended ≤ length items
  pub singles : AreSinglesOf (drop point.ended items) point.singles
  pub steps : point.steps ≤ step_count (take point.ended items) + point.singles
  pub idle : point.idle ≤ point.steps

-- as many single steps of the first of these items as are said, if it has more, and else none
abbrev pub singles_of : List Item → ℕ → ℕ
singles_of [] said = 0
singles_of (item ∷ items) said = if nat_lt said (steps_in item) then said else 0

-- where a run stands behind a root
abbrev pub place_behind_root : List Item → List ℕ → Root → SchedulePlace
place_behind_root items numbers root = record {
  turn = root.mark.turn;
  ended = ended_before numbers root.mark.line;
  singles = singles_of (drop (ended_before numbers root.mark.line) items) root.mark.singles;
  steps = root.mark.steps;
  idle = root.mark.idle;
}

-- the mark of a root: where a run stands, with these lines
abbrev pub mark_of : HeldPlan → SchedulePlace → List ℕ → Mark
mark_of plan place lines = record {
  digests = plan.digests;
  turn = place.turn;
  line = line_at plan.numbers.now place.ended;
  singles = place.singles;
  steps = place.steps;
  idle = place.idle;
  lines = lines;
}

-- the plan is what the texts spell
pub record IsPlanOf (texts : HeldTexts) (plan : HeldPlan) : Type 0 where
  pub items : plan.items.now ≡ texts.items
  pub numbers : plan.numbers.now ≡ texts.numbers
  pub digests : plan.digests ≡ texts.digests
  pub few : step_count texts.items ≤ step_limit
  pub ascending : AreAscending texts.numbers
  pub one_each : length texts.numbers ≡ length texts.items

-- ---- roots in a store

-- the id of the root of a turn: 2^64 - 1 of an even one, 2^64 - 2 of an odd one
abbrev pub root_id : ℕ → ℕ
root_id turn = 2 ^ 64 - 1 - turn % 2

-- the records have no root
pub record HaveNoRoot (held : Records) : Type 0 where
  pub even : map.get held (root_id 0) ≡ None
  pub odd : map.get held (root_id 1) ≡ None

-- the bytes begin as a root of these digests, and of a turn below this one
abbrev pub AreOfEarlierTurn : Digests → ℕ → List ℕ → Type 0
AreOfEarlierTurn digests turn bytes =
    (head : Head) × (rest : List ℕ) × (read_root_head bytes ≡ Ok (head, rest)) × (head.digests ≡ digests) × (head.turn < turn)

-- The root counts: it is under the id of its turn, and under the other id is nothing, or a root of the same texts and an earlier turn.
pub record IsCounted (held : Records) (root : Root) : Type 0 where
  pub there : map.get held (root_id root.mark.turn) ≡ Some (root_spelling root)
  pub other : (bytes : List ℕ) → map.get held (root_id (root.mark.turn + 1)) ≡ Some bytes
      → AreOfEarlierTurn root.mark.digests root.mark.turn bytes

-- After so many starts the root counts, of these texts, and it is that of what is kept: of the state of its point, and of the place there
-- and the counts, with the lines of the turn that led to it. The records hold the writes that it names.
pub record IsKeptBy (texts : HeldTexts) (starts : ℕ) (held : Records) (kept : KeptPoint) (root : Root) : Type 0 where
  pub counted : IsCounted held root
  pub digests : root.mark.digests ≡ texts.digests
  pub of_texts : IsRootFor texts.flow texts.batches root
  pub reached : IsReached (system_in texts) kept.point.state
  pub of_state : IsRootOf (system_in texts) kept.point.state root
  pub named : AreNamed (system_in texts) kept.point.state root (Some held)
  pub point : IsPointOf texts.items kept.point
  pub line : root.mark.line ≡ line_at texts.numbers kept.point.ended
  pub singles : root.mark.singles ≡ kept.point.singles
  pub steps : root.mark.steps ≡ kept.point.steps
  pub idle : root.mark.idle ≡ kept.point.idle
  pub lines : root.mark.lines ≡ kept.lines
  pub turns : root.mark.turn ≤ kept.point.steps + starts
  pub ids : root.next_id ≤ 256 * kept.point.steps

-- nothing is kept yet
abbrev pub kept_at_first : System → KeptPoint
kept_at_first sys = record { point = point_at_first sys; lines = [] }

-- whether a start finds a root
pub data Found : Type 0 where
  no_root : Found
  a_root : Found

-- After so many starts the records hold what is kept: no root, where nothing is kept yet; or a root that counts, of what is kept.
abbrev pub HoldsKeptPoint : HeldTexts → ℕ → Records → Found → KeptPoint → Type 0
HoldsKeptPoint texts starts held no_root kept = HaveNoRoot held × (kept ≡ kept_at_first (system_in texts))
HoldsKeptPoint texts starts held a_root kept = (root : Root) × IsKeptBy texts starts held kept root
