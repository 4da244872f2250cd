-- Starts of one held run, one after another.
use Rattle.std.specs.Prelude.{◌≡◌, ℕ, List, [], ◌∷◌, ◌++◌}
use Rattle.std.specs.List.{flat_map}
use Rattle.fw_flow.specs.declared.step.Step.{Step}
use Rattle.fw_flow.specs.declared.step.Step.TheVariants.{Fail, Recover}
use Rattle.fw_flow.specs.Dataflow.{Dataflow, System, node_ids}
use Rattle.fw_schedule.specs.declared.item.Item.{Item}
use Rattle.fw_schedule.specs.declared.item.Item.TheVariants.{One, Auto}
use Rattle.fw_model.specs.Machine.{Machine, first_state}
use Rattle.fw_model.specs.Steps.{Effect, Outcome, Run}
use Rattle.fw_running.specs.EffectText.{outcome_text}
use Rattle.fw_hold.specs.Kept.{kept_at_first}
use Rattle.fw_hold.specs.Moves.{Move, restored, turned, passed, ended_early, SchedulePoint, KeptPoint, DoesSingle, Makes, MakesAll, kept_after, moves_text}

-- a start, by its moves and by what is kept behind them
pub record Started : Type 0 where
  pub moves : List Move
  pub now : KeptPoint

-- the starts lead from what is kept to the last of what they keep, each from what the one before kept
abbrev pub StartsLead : System → List Item → KeptPoint → List Started → KeptPoint → Type 0
StartsLead sys items kept [] last = last ≡ kept
StartsLead sys items kept (start ∷ starts) last =
    (point : SchedulePoint) × MakesAll sys items kept kept.point start.moves start.now point × StartsLead sys items start.now starts last

-- the lines of all their moves
abbrev pub starts_text : Dataflow → List Started → List ℕ
starts_text flow starts = flat_map (λ (start : Started). moves_text flow start.moves) starts

-- ---- their steps

-- the step that the item is, or that `auto` takes
abbrev pub step_of_item : (sys : System) (item : Item) (from : SchedulePoint) (next : Machine) (effect : Effect) → DoesSingle sys item from next effect
    → Step
step_of_item sys (One step) from next effect does = step
step_of_item sys (Auto most) from next effect does = does.1.0

-- the step of the item that did nothing
abbrev pub steps_passed : Item → List Step
steps_passed (One step) = step ∷ []
steps_passed (Auto most) = []

-- The steps of a move: the failure of every node and a recovery, where nodes are restored; else that of the item that comes next.
abbrev pub steps_of_move : (sys : System) (items : List Item) (from : SchedulePoint) (move : Move) (to : SchedulePoint) → Makes sys items from move to
    → List Step
steps_of_move sys items from (restored choice) to made = Fail (node_ids sys.flow) ∷ Recover ∷ []
steps_of_move sys items from (turned effect) to (item, there, (next, does, leads)) = step_of_item sys item from next effect does ∷ []
steps_of_move sys items from passed to (item, there, passes) = steps_passed item
steps_of_move sys items from ended_early to made = []

-- those of moves, one after another
abbrev pub steps_of_moves : (sys : System) (items : List Item) (kept : KeptPoint) (from : SchedulePoint) (moves : List Move) (now : KeptPoint)
    (to : SchedulePoint) → MakesAll sys items kept from moves now to → List Step
steps_of_moves sys items kept from [] now to made = []
steps_of_moves sys items kept from (move ∷ moves) now to (next, made, rest) =
    steps_of_move sys items from move next made ++ steps_of_moves sys items (kept_after sys.flow kept move next) next moves now to rest

-- those of the moves of starts
abbrev pub steps_of_starts : (sys : System) (items : List Item) (kept : KeptPoint) (starts : List Started) (last : KeptPoint)
    → StartsLead sys items kept starts last → List Step
steps_of_starts sys items kept [] last lead = []
steps_of_starts sys items kept (start ∷ starts) last (point, made, rest) =
    steps_of_moves sys items kept kept.point start.moves start.now point made ++ steps_of_starts sys items start.now starts last rest

-- ---- their run

-- the machine has a run by these steps to the state, and what comes of them has this text
pub record HasRunBy (sys : System) (from : Machine) (steps : List Step) (text : List ℕ) (to : Machine) : Type 0 where
  pub outcomes : List Outcome
  pub run : Run sys from steps outcomes to
  pub lines : flat_map (outcome_text sys.flow) outcomes ≡ text

-- the machine has a run to the state, and what comes of its steps has this text
pub record HasRunTo (sys : System) (from : Machine) (text : List ℕ) (to : Machine) : Type 0 where
  pub steps : List Step
  pub outcomes : List Outcome
  pub run : Run sys from steps outcomes to
  pub lines : flat_map (outcome_text sys.flow) outcomes ≡ text

-- All starts together are one run of the machine by the steps of their moves, from its first state to that of what is kept last. What comes of
-- these steps are the lines of the moves.
abbrev pub StartsAreOneRun : Type 0
StartsAreOneRun = (sys : System) (items : List Item) (starts : List Started) (last : KeptPoint)
    → (lead : StartsLead sys items (kept_at_first sys) starts last)
    → HasRunBy sys (first_state sys) (steps_of_starts sys items (kept_at_first sys) starts last lead) (starts_text sys.flow starts) last.point.state
