-- What a held run does, as moves from a point of its schedule to the next one.
use Rattle.std.specs.Prelude.{◌≡◌, ◌⊎◌, ℕ, Bool, true, false, ◌+◌, ◌<◌, ◌≤◌, nat_lt, if◌then◌else◌, List, [], ◌∷◌, Some, slice_get}
use Rattle.std.specs.List.{flat_map}
use Rattle.fw_flow.specs.declared.choice.Choice.{Choice}
use Rattle.fw_flow.specs.declared.step.Step.TheVariants.{Recover}
use Rattle.fw_flow.specs.Dataflow.{Dataflow, System}
use Rattle.fw_schedule.specs.declared.item.Item.{Item}
use Rattle.fw_schedule.specs.declared.item.Item.TheVariants.{One, Auto}
use Rattle.fw_schedule.specs.Schedule.{steps_in}
use Rattle.fw_model.specs.Auto.{auto_steps, TakesFirst}
use Rattle.fw_model.specs.Machine.{Machine, first_state}
use Rattle.fw_model.specs.Steps.{Effect, cuts, Outcome, did, idle, LeadsTo, StepsTo}
use Rattle.fw_regain.specs.Down.{down}
use Rattle.fw_running.specs.EffectText.{effect_text}

-- ---- points

-- A point of a schedule: the state of the machine; how many items have ended, and how many single steps of the next one are done; how many
-- steps were counted, and how many of these did nothing.
pub record SchedulePoint : Type 0 where
  pub state : Machine
  pub ended : ℕ
  pub singles : ℕ
  pub steps : ℕ
  pub idle : ℕ

-- the point at which nothing has happened
abbrev pub point_at_first : System → SchedulePoint
point_at_first sys = record { state = first_state sys; ended = 0; singles = 0; steps = 0; idle = 0 }

-- the point behind the item that comes next
abbrev pub past_item : SchedulePoint → SchedulePoint
past_item point = record { state = point.state; ended = point.ended + 1; singles = 0; steps = point.steps; idle = point.idle }

-- the point with one step more, which leads to this state
abbrev pub with_step : SchedulePoint → Machine → SchedulePoint
with_step point next = record { state = next; ended = point.ended; singles = point.singles + 1; steps = point.steps + 1; idle = point.idle }

-- the same with one that did nothing
abbrev pub with_idle_step : SchedulePoint → SchedulePoint
with_idle_step point =
    record { state = point.state; ended = point.ended; singles = point.singles; steps = point.steps + 1; idle = point.idle + 1 }

-- the point behind a single step of the item that comes next: within the item, or behind it where that was the last
abbrev pub after_single : Item → SchedulePoint → Machine → SchedulePoint
after_single item point next = if nat_lt (point.singles + 1) (steps_in item) then with_step point next else past_item (with_step point next)

-- ---- moves

-- A move: every node is restored, after a start; a step is done; one is tried and does nothing; or an `auto` ends before all its steps.
pub data Move : Type 0 where
  restored : Choice → Move
  turned : Effect → Move
  passed : Move
  ended_early : Move

-- the next single step of the item leads from the point's state to the next one, with this effect
abbrev pub DoesSingle : System → Item → SchedulePoint → Machine → Effect → Type 0
DoesSingle sys (One step) from next effect = LeadsTo sys from.state step next effect
DoesSingle sys (Auto most) from next effect = (from.singles < most) × TakesFirst sys from.state (auto_steps sys.flow) next (did effect)

-- the item is one step, and that does nothing
abbrev pub PassesItem : System → Item → SchedulePoint → Type 0
PassesItem sys (One step) from = StepsTo sys from.state step from.state idle
PassesItem sys (Auto most) from = ⊥

-- the item is `auto`, and no step of it is left, or none is enabled
abbrev pub EndsEarly : System → Item → SchedulePoint → Type 0
EndsEarly sys (One step) from = ⊥
EndsEarly sys (Auto most) from = (most ≤ from.singles) ⊎ TakesFirst sys from.state (auto_steps sys.flow) from.state idle

-- of the item that comes next this is true
abbrev pub OfNextItem : List Item → SchedulePoint → (Item → Type 0) → Type 0
OfNextItem items point IsSo = (item : Item) × (slice_get items point.ended ≡ Some item) × IsSo item

-- the machine makes the move from a point of the schedule to the next one
abbrev pub Makes : System → List Item → SchedulePoint → Move → SchedulePoint → Type 0
Makes sys items from (restored choice) to =
    (next : Machine) × LeadsTo sys (down sys from.state) Recover next (cuts choice) × (to ≡ record from { state = next })
Makes sys items from (turned effect) to =
    OfNextItem items from (λ item. (next : Machine) × DoesSingle sys item from next effect × (to ≡ after_single item from next))
Makes sys items from passed to = OfNextItem items from (λ item. PassesItem sys item from × (to ≡ past_item (with_idle_step from)))
Makes sys items from ended_early to = OfNextItem items from (λ item. EndsEarly sys item from × (to ≡ past_item from))

-- whether a step was not enabled
abbrev pub is_idle_outcome : Outcome → Bool
is_idle_outcome (did effect) = false
is_idle_outcome idle = true

-- ---- what is printed

-- the lines of a move
abbrev pub move_text : Dataflow → Move → List ℕ
move_text flow (restored choice) = effect_text flow (cuts choice)
move_text flow (turned effect) = effect_text flow effect
move_text flow passed = []
move_text flow ended_early = []

-- the lines of moves, in order
abbrev pub moves_text : Dataflow → List Move → List ℕ
moves_text flow moves = flat_map (move_text flow) moves

-- ---- what is kept

-- a point for which a root was put, and the lines of the turn that led to it
pub record KeptPoint : Type 0 where
  pub point : SchedulePoint
  pub lines : List ℕ

-- what is kept after a move to a point: that point, if the move is a turn, and else what was kept before
abbrev pub kept_after : Dataflow → KeptPoint → Move → SchedulePoint → KeptPoint
kept_after flow kept (restored choice) to = record { point = to; lines = move_text flow (restored choice) }
kept_after flow kept (turned effect) to = record { point = to; lines = move_text flow (turned effect) }
kept_after flow kept passed to = kept
kept_after flow kept ended_early to = kept

-- The machine makes the moves from a point to the last one; where this was kept before them, that is kept behind them.
abbrev pub MakesAll : System → List Item → KeptPoint → SchedulePoint → List Move → KeptPoint → SchedulePoint → Type 0
MakesAll sys items kept from [] now to = (now ≡ kept) × (to ≡ from)
MakesAll sys items kept from (move ∷ moves) now to =
    (next : SchedulePoint) × Makes sys items from move next × MakesAll sys items (kept_after sys.flow kept move next) next moves now to
