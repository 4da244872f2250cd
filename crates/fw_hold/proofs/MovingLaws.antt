-- The moves of a held run.
use Rattle.std.proofs.Common.{◌≡◌, inl, inr, ℕ, suc, ◌+◌, ◌^◌, ◌<◌, ◌≤◌, true, false, List, [], drop, slice_get, Option, Some, IsSome, Result, Ok, Err, refl, sym, ap, subst, arith}
use Rattle.fw_outside.specs.Outside.{SinkView, StoreView}
use Rattle.fw_flow.specs.declared.step.Step.{Step}
use Rattle.fw_flow.specs.declared.step.Step.TheVariants.{Inject, Deliver, Notify, Progress, Checkpoint, Persist, Fail, Recover, Collect, Ack}
use Rattle.fw_flow.specs.Dataflow.{Dataflow, System}
use Rattle.fw_schedule.specs.declared.item.Item.{Item}
use Rattle.fw_schedule.specs.declared.item.Item.TheVariants.{One, Auto}
use Rattle.fw_schedule.specs.Schedule.{steps_in, step_count, step_limit}
use Rattle.fw_keep.specs.Catalogue.{KeepState}
use Rattle.fw_keep.specs.Stored.{Records}
use Rattle.fw_model.specs.Auto.{auto_steps, TakesFirst}
use Rattle.fw_model.specs.Machine.{Machine}
use Rattle.fw_model.specs.Steps.{Effect, Outcome, did, idle, LeadsTo, StepsTo}
use Rattle.fw_running.specs.declared.fault.EngineFault.{EngineFault}
use Rattle.fw_running.specs.declared.stepped.Stepped.{Stepped}
use Rattle.fw_running.specs.declared.stepped.Stepped.TheVariants.{Did, Idle}
use Rattle.fw_running.specs.Steps.{Trusts, outcome_of}
use Rattle.fw_hold.specs.declared.fault.HoldFault.{HoldFault}
use Rattle.fw_hold.specs.declared.fault.HoldFault.TheVariants.{Engine}
use Rattle.fw_hold.specs.declared.place.SchedulePlace.{SchedulePlace}
use Rattle.fw_hold.specs.Engine.{FollowsFirstIn, FollowsIn, KeepsOutside, LeavesHeld, Standings}
use Rattle.fw_hold.specs.Going.{AreCountsAt, AreForward, IsForward, IsOneTurn, IsTurnMade, IsRunAt, MakesMoves}
use Rattle.fw_hold.specs.Kept.{HeldTexts, IsPointOf, system_in}
use Rattle.fw_hold.specs.Moves.{Move, turned, passed, ended_early, SchedulePoint, KeptPoint, DoesSingle, EndsEarly, Makes, after_single, is_idle_outcome, kept_after, move_text, past_item, with_idle_step}
use Rattle.fw_hold.specs.Place.{place_after_single, place_past_item, place_with_idle_step}
use Rattle.fw_hold.proofs.EndLaws.{told_are}
use Rattle.fw_hold.proofs.GoingLaws.{auto_is_point, ended_is_point, next_item, one_is_point, outside_more, passed_is_point}
use Rattle.fw_hold.proofs.MakingLaws.{IsUndamaged, no_move, quiet_move}
use Rattle.fw_hold.proofs.StepLaws.{counts_past, kept_behind, room_for_ids, turn_made, way_on}
use Rattle.fw_hold.proofs.TurnLaws.{holds_last}

-- ---- outcomes

-- where the records are told, what was read is what was put
pub trusts_told : (sys : System) (state : Machine) (step : Step) (held : Records) → Trusts sys state step (Some held)
trusts_told sys state (Inject source) held = tt
trusts_told sys state (Deliver edge at) held = tt
trusts_told sys state (Notify node at) held = tt
trusts_told sys state Progress held = tt
trusts_told sys state (Checkpoint node) held = tt
trusts_told sys state Persist held = tt
trusts_told sys state (Fail nodes) held = tt
trusts_told sys state Recover held = tt
trusts_told sys state Collect held = tt
trusts_told sys state (Ack output) held = tt

pub trusts : (sys : System) (state : Machine) (step : Step) (records : Option Records) → IsSome records → Trusts sys state step records
trusts sys state step records told =
    let some = told_are records told in
    subst (λ r. Trusts sys state step r) (sym some.1) (trusts_told sys state step some.0)

pub idle_is : (stepped : Stepped) → is_idle_outcome (outcome_of stepped) ≡ true → stepped ≡ Idle
idle_is (Did effect) e = absurd (let no : false ≡ true = e in cc)
idle_is Idle e = refl

did_some : (outcome : Outcome) → is_idle_outcome outcome ≡ false → (effect : Effect) × (outcome ≡ did effect)
did_some (did effect) e = (effect, refl)
did_some idle e = absurd (let no : true ≡ false = e in cc)

-- the item that comes next is that of the point
pub item_here : (items others : List Item) (n m : ℕ) (item : Item) → slice_get items n ≡ Some item → items ≡ others → n ≡ m → slice_get others m ≡ Some item
item_here items others n m item at same here = subst (λ k. slice_get others k ≡ Some item) here (subst (λ xs. slice_get xs n ≡ Some item) same at)

-- ---- a step that was not done

pub step_failed : {E K T : Type 0} (view : K → StoreView) (Stand : Standings E) (keep_of : E → KeepState) (flow_of : E → Dataflow) (S : Type 0) (texts : HeldTexts) (starts : ℕ)
    (before after : K) (result : Result T EngineFault) (old new : E) (place : SchedulePlace) (kept : KeptPoint) (point : SchedulePoint) (fault : EngineFault) (out : SinkView)
    (IsSo : KeptPoint → SchedulePoint → Type 0) → step_count texts.items ≤ step_limit
    → IsRunAt Stand keep_of flow_of texts starts (view before).records old place kept point → LeavesHeld view keep_of flow_of old before result new after
    → IsSome (view after).records → IsUndamaged fault → MakesMoves {T = S} AreForward texts starts kept point (Err (Engine fault)) (view after).records out out IsSo
step_failed {E} {K} view Stand keep_of flow_of S texts starts before after result old new place kept point fault out IsSo few u l told is =
    let some = told_are (view after).records told in
    let here : IsRunAt Stand keep_of flow_of texts starts (Some u.held) old place kept point =
    subst (λ r. IsRunAt Stand keep_of flow_of texts starts r old place kept point) u.told u in
    let k : KeepsOutside (keep_of old).next ((keep_of old).next + 256) (Some u.held) (Some some.0) =
    subst (λ r. KeepsOutside (keep_of old).next ((keep_of old).next + 256) (Some u.held) r) some.1
    (subst (λ r. KeepsOutside (keep_of old).next ((keep_of old).next + 256) r (view after).records) u.told
    (outside_more (keep_of old).next (keep_of new).next ((keep_of old).next + 256) (view before).records (view after).records l.drawn l.outside)) in
    subst (λ r. MakesMoves {T = S} AreForward texts starts kept point (Err (Engine fault)) r out out IsSo) (sym some.1)
    (no_move S AreForward texts starts kept point fault is some.0 out IsSo tt
    (kept_behind Stand keep_of flow_of texts starts u.held some.0 old new place kept point here k
    (room_for_ids Stand keep_of flow_of texts starts (Some u.held) old place kept point here few) l.never_back))

-- ---- a step that does nothing

quiet_step : {E : Type 0} (Stand : Standings E) (keep_of : E → KeepState) (flow_of : E → Dataflow) (T : Type 0) (value : T) (texts : HeldTexts) (starts : ℕ) (records : Option Records)
    (old new : E) (place later : SchedulePlace) (kept : KeptPoint) (point : SchedulePoint) (move : Move) (to : SchedulePoint) (out : SinkView)
    → IsRunAt Stand keep_of flow_of texts starts records old place kept point → Makes (system_in texts) texts.items point move to → IsForward move → move_text texts.flow move ≡ []
    → kept_after texts.flow kept move to ≡ kept → flow_of new ≡ flow_of old → (keep_of new).next ≡ (keep_of old).next → Stand (system_in texts) new records point.state
    → to.state ≡ point.state → IsPointOf texts.items to → AreCountsAt later to → later.turn ≡ place.turn → point.steps ≤ to.steps
    → MakesMoves {T = T} AreForward texts starts kept point (Ok value) records out out (IsRunAt Stand keep_of flow_of texts starts records new later)
quiet_step {E} Stand keep_of flow_of T value texts starts records old new place later kept point move to out u makes is silent same flow next stands state there counts turn steps =
    let here : IsRunAt Stand keep_of flow_of texts starts (Some u.held) old place kept point =
    subst (λ r. IsRunAt Stand keep_of flow_of texts starts r old place kept point) u.told u in
    subst (λ (r : Option Records). MakesMoves {T = T} AreForward texts starts kept point (Ok value) r out out (IsRunAt Stand keep_of flow_of texts starts r new later)) (sym u.told)
    (quiet_move T value AreForward texts starts kept point move to u.held out (IsRunAt Stand keep_of flow_of texts starts (Some u.held) new later) makes (is, tt) silent same
    (holds_last texts starts u.held kept place.turn (keep_of old).next u.turn)
    (way_on Stand keep_of flow_of texts starts u.held old new place later kept point to here flow next (subst (λ r. Stand (system_in texts) new r point.state) u.told stands) state there counts turn
    steps))

-- an `auto` ends before all its steps
pub ends_early : {E : Type 0} (Stand : Standings E) (keep_of : E → KeepState) (flow_of : E → Dataflow) (T : Type 0) (value : T) (texts : HeldTexts) (starts : ℕ) (records : Option Records)
    (old new : E) (place later : SchedulePlace) (kept : KeptPoint) (point : SchedulePoint) (most : ℕ) (out : SinkView)
    → IsRunAt Stand keep_of flow_of texts starts records old place kept point → slice_get texts.items point.ended ≡ Some (Auto most) → EndsEarly (system_in texts) (Auto most) point
    → later ≡ place_past_item place → flow_of new ≡ flow_of old → (keep_of new).next ≡ (keep_of old).next → Stand (system_in texts) new records point.state
    → MakesMoves {T = T} AreForward texts starts kept point (Ok value) records out out (IsRunAt Stand keep_of flow_of texts starts records new later)
ends_early Stand keep_of flow_of T value texts starts records old new place later kept point most out u at ends is flow next stands =
    quiet_step Stand keep_of flow_of T value texts starts records old new place later kept point ended_early (past_item point) out u (Auto most, at, (ends, refl)) tt refl refl flow next stands refl
    (ended_is_point texts.items point (Auto most) (drop (suc point.ended) texts.items) (next_item texts.items point.ended (Auto most) at) u.of_items)
    (subst (λ s. AreCountsAt s (past_item point)) (sym is) (counts_past place point u.counts)) (ap (λ (s : SchedulePlace). s.turn) is) (omega arith)

-- a step that is not enabled is passed
pub passes : {E : Type 0} (Stand : Standings E) (keep_of : E → KeepState) (flow_of : E → Dataflow) (T : Type 0) (value : T) (texts : HeldTexts) (starts : ℕ) (records : Option Records)
    (old new : E) (place later : SchedulePlace) (kept : KeptPoint) (point : SchedulePoint) (step : Step) (out : SinkView)
    → IsRunAt Stand keep_of flow_of texts starts records old place kept point → slice_get texts.items point.ended ≡ Some (One step)
    → FollowsIn Stand (system_in texts) point.state step idle new records → later ≡ place_past_item (place_with_idle_step place) → flow_of new ≡ flow_of old
    → (keep_of new).next ≡ (keep_of old).next
    → MakesMoves {T = T} AreForward texts starts kept point (Ok value) records out out (IsRunAt Stand keep_of flow_of texts starts records new later)
passes Stand keep_of flow_of T value texts starts records old new place later kept point step out u at (state, steps, stands) is flow next =
    let c = u.counts in
    quiet_step Stand keep_of flow_of T value texts starts records old new place later kept point passed (past_item (with_idle_step point)) out u (One step, at, ((steps.0, refl), refl)) tt refl refl flow
    next (subst (λ s. Stand (system_in texts) new records s) steps.1 stands) refl
    (passed_is_point texts.items point step (drop (suc point.ended) texts.items) (next_item texts.items point.ended (One step) at) u.of_items)
    (subst (λ s. AreCountsAt s (past_item (with_idle_step point))) (sym is)
    (counts_past (place_with_idle_step place) (with_idle_step point)
    (record { ended = c.ended; singles = c.singles; steps = ap (λ n. n + 1) c.steps; idle = ap (λ n. n + 1) c.idle }))) (ap (λ (s : SchedulePlace). s.turn) is) (omega arith)

-- ---- a step that is done

single_done : {E K T : Type 0} (view : K → StoreView) (Stand : Standings E) (keep_of : E → KeepState) (flow_of : E → Dataflow) (texts : HeldTexts) (starts : ℕ) (before after : K)
    (result : Result T EngineFault) (old new : E) (place : SchedulePlace) (kept : KeptPoint) (point : SchedulePoint) (item : Item) (step : Step) (effect : Effect) (next : Machine)
    → step_count texts.items ≤ step_limit → starts ≤ 2 ^ 61 → IsRunAt Stand keep_of flow_of texts starts (view before).records old place kept point
    → slice_get texts.items point.ended ≡ Some item → LeavesHeld view keep_of flow_of old before result new after → IsSome (view after).records
    → DoesSingle (system_in texts) item point next effect → LeadsTo (system_in texts) point.state step next effect → IsPointOf texts.items (after_single item point next)
    → Stand (system_in texts) new (view after).records next
    → IsTurnMade Stand keep_of flow_of texts starts (view after).records new (place_after_single (steps_in item) place) kept point (turned effect) (after_single item point next) (did effect)
single_done {E} {K} view Stand keep_of flow_of texts starts before after result old new place kept point item step effect next limit few u at l told does leads there stands =
    let some = told_are (view after).records told in
    let here : IsRunAt Stand keep_of flow_of texts starts (Some u.held) old place kept point =
    subst (λ r. IsRunAt Stand keep_of flow_of texts starts r old place kept point) u.told u in
    let k : KeepsOutside (keep_of old).next ((keep_of old).next + 256) (Some u.held) (Some some.0) =
    subst (λ r. KeepsOutside (keep_of old).next ((keep_of old).next + 256) (Some u.held) r) some.1
    (subst (λ r. KeepsOutside (keep_of old).next ((keep_of old).next + 256) r (view after).records) u.told
    (outside_more (keep_of old).next (keep_of new).next ((keep_of old).next + 256) (view before).records (view after).records l.drawn l.outside)) in
    subst (λ r. IsTurnMade Stand keep_of flow_of texts starts r new (place_after_single (steps_in item) place) kept point (turned effect) (after_single item point next) (did effect)) (sym some.1)
    (turn_made Stand keep_of flow_of texts starts few u.held some.0 old new place kept point item step effect next here at k l.drawn l.never_back
    (room_for_ids Stand keep_of flow_of texts starts (Some u.held) old place kept point here limit) l.flow does leads there
    (subst (λ r. Stand (system_in texts) new r next) some.1 stands))

-- the one step of an item is done
pub step_turn : {E K T : Type 0} (view : K → StoreView) (Stand : Standings E) (keep_of : E → KeepState) (flow_of : E → Dataflow) (texts : HeldTexts) (starts : ℕ) (before after : K)
    (result : Result T EngineFault) (old new : E) (place : SchedulePlace) (kept : KeptPoint) (point : SchedulePoint) (step : Step) (outcome : Outcome)
    → step_count texts.items ≤ step_limit → starts ≤ 2 ^ 61 → IsRunAt Stand keep_of flow_of texts starts (view before).records old place kept point
    → slice_get texts.items point.ended ≡ Some (One step) → LeavesHeld view keep_of flow_of old before result new after → IsSome (view after).records
    → FollowsIn Stand (system_in texts) point.state step outcome new (view after).records → is_idle_outcome outcome ≡ false
    → (effect : Effect) × (to : SchedulePoint)
    × IsTurnMade Stand keep_of flow_of texts starts (view after).records new (place_after_single 1 place) kept point (turned effect) to outcome
step_turn {E} {K} view Stand keep_of flow_of texts starts before after result old new place kept point step outcome limit few u at l told (next, steps, stands) busy =
    let some = did_some outcome busy in
    let leads = subst (λ o. StepsTo (system_in texts) point.state step next o) some.1 steps in (
      some.0,
      after_single (One step) point next,
      subst (λ o. IsTurnMade Stand keep_of flow_of texts starts (view after).records new (place_after_single 1 place) kept point (turned some.0) (after_single (One step) point next) o) (sym some.1)
          (single_done view Stand keep_of flow_of texts starts before after result old new place kept point (One step) step some.0 next limit few u at l told leads leads
          (one_is_point texts.items point step (drop (suc point.ended) texts.items) next (next_item texts.items point.ended (One step) at) u.of_items) stands),
    )

-- a single step of an `auto` is done
pub first_turn : {E K T : Type 0} (view : K → StoreView) (Stand : Standings E) (keep_of : E → KeepState) (flow_of : E → Dataflow) (texts : HeldTexts) (starts : ℕ) (before after : K)
    (result : Result T EngineFault) (old new : E) (place : SchedulePlace) (kept : KeptPoint) (point : SchedulePoint) (most : ℕ) (outcome : Outcome)
    → step_count texts.items ≤ step_limit → starts ≤ 2 ^ 61 → IsRunAt Stand keep_of flow_of texts starts (view before).records old place kept point
    → slice_get texts.items point.ended ≡ Some (Auto most) → LeavesHeld view keep_of flow_of old before result new after → IsSome (view after).records
    → FollowsFirstIn Stand (system_in texts) point.state outcome new (view after).records → is_idle_outcome outcome ≡ false → place.singles < most
    → (effect : Effect) × (to : SchedulePoint)
    × IsTurnMade Stand keep_of flow_of texts starts (view after).records new (place_after_single most place) kept point (turned effect) to outcome
first_turn {E} {K} view Stand keep_of flow_of texts starts before after result old new place kept point most outcome limit few u at l told (next, takes, stands) busy less =
    let some = did_some outcome busy in
    let sys = system_in texts in
    let first = subst (λ o. TakesFirst sys point.state (auto_steps sys.flow) next o) some.1 takes in
    let lt : point.singles < most = omega (arith, less, u.counts.singles) in (
      some.0,
      after_single (Auto most) point next,
      subst (λ o. IsTurnMade Stand keep_of flow_of texts starts (view after).records new (place_after_single most place) kept point (turned some.0) (after_single (Auto most) point next) o) (sym some.1)
          (single_done view Stand keep_of flow_of texts starts before after result old new place kept point (Auto most) first.0 some.0 next limit few u at l told (lt, first) first.1.leads
          (auto_is_point texts.items point most (drop (suc point.ended) texts.items) next (next_item texts.items point.ended (Auto most) at) u.of_items lt) stands),
    )

-- ---- its turn

one_forward : {T : Type 0} (effect : Effect) (result : Result T HoldFault) (moves : List Move) → IsOneTurn (turned effect) result moves → AreForward moves
one_forward effect (Ok value) moves is = subst AreForward (sym is) (tt, tt)
one_forward effect (Err fault) moves (inl none) = subst AreForward (sym none) tt
one_forward effect (Err fault) moves (inr one) = subst AreForward (sym one) (tt, tt)

-- the turn of a step is a move
pub turn_forward : {T : Type 0} (texts : HeldTexts) (starts : ℕ) (kept : KeptPoint) (point : SchedulePoint) (effect : Effect) (answer : Result T HoldFault) (records : Option Records)
    (before after : SinkView) (IsSo : KeptPoint → SchedulePoint → Type 0) → MakesMoves (IsOneTurn (turned effect) answer) texts starts kept point answer records before after IsSo
    → MakesMoves AreForward texts starts kept point answer records before after IsSo
turn_forward texts starts kept point effect answer records before after IsSo m = record {
  moves = m.moves;
  now = m.now;
  last = m.last;
  made = m.made;
  are = one_forward effect answer m.moves m.are;
  cut = m.cut;
  holds = m.holds;
  wrote = m.wrote;
  so = m.so;
}
