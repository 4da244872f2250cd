-- Where a step leads a held run.
use Rattle.std.proofs.Common.{◌≡◌, ℕ, ◌+◌, ◌^◌, ◌≤◌, Bool, true, false, cond, [], ◌∷◌, ◌++◌, Option, Some, slice_get, refl, sym, ◌∙◌, ap, subst, arith, nat_lt}
use Rattle.std.proofs.lemmas.Option.{same_Some}
use Rattle.fw_flow.specs.declared.step.Step.{Step}
use Rattle.fw_flow.specs.Dataflow.{Dataflow, System}
use Rattle.fw_schedule.specs.declared.item.Item.{Item}
use Rattle.fw_schedule.specs.Schedule.{steps_in, step_count, step_limit}
use Rattle.fw_keep.specs.Catalogue.{KeepState}
use Rattle.fw_keep.specs.Stored.{Records}
use Rattle.fw_model.specs.Machine.{Machine, first_state}
use Rattle.fw_model.specs.Reached.{IsReached}
use Rattle.fw_model.specs.Steps.{Effect, Outcome, did, LeadsTo, StepsTo}
use Rattle.fw_model.proofs.GoingOn.{runs-go_on}
use Rattle.fw_hold.specs.declared.place.SchedulePlace.{SchedulePlace}
use Rattle.fw_hold.specs.Engine.{Standings, KeepsOutside}
use Rattle.fw_hold.specs.Going.{AreCountsAt, IsLastTurn, IsRunAt, IsTurnMade}
use Rattle.fw_hold.specs.Kept.{HeldTexts, Found, HoldsKeptPoint, system_in, IsPointOf}
use Rattle.fw_hold.specs.Moves.{turned, SchedulePoint, KeptPoint, past_item, with_step, after_single, DoesSingle}
use Rattle.fw_hold.specs.Place.{place_after_single, place_past_item, place_with_step}
use Rattle.fw_hold.proofs.GoingLaws.{last_stays}
use Rattle.fw_hold.proofs.TurnLaws.{holds_last, point_few}

-- ---- states

pub reached-by : (sys : System) (from : Machine) (step : Step) (outcome : Outcome) (next : Machine) → IsReached sys from → StepsTo sys from step next outcome → IsReached sys next
reached-by sys from step outcome next r steps =
    (r.0 ++ step ∷ [], r.1 ++ outcome ∷ [], runs-go_on sys (first_state sys) from next r.0 (step ∷ []) r.1 (outcome ∷ []) r.2 (next, steps, refl))

-- ---- numbers

pub counts_past : (place : SchedulePlace) (point : SchedulePoint) → AreCountsAt place point → AreCountsAt (place_past_item place) (past_item point)
counts_past place point c = record { ended = ap (λ n. n + 1) c.ended; singles = refl; steps = c.steps; idle = c.idle }

counts_step : (place : SchedulePlace) (point : SchedulePoint) (next : Machine) → AreCountsAt place point → AreCountsAt (place_with_step place) (with_step point next)
counts_step place point next c = record { ended = c.ended; singles = ap (λ n. n + 1) c.singles; steps = ap (λ n. n + 1) c.steps; idle = c.idle }

-- the numbers behind a single step are those of the point there, and the turn stays
pub counts_single : (item : Item) (place : SchedulePlace) (point : SchedulePoint) (next : Machine) → AreCountsAt place point
    → AreCountsAt (place_after_single (steps_in item) place) (after_single item point next) × ((place_after_single (steps_in item) place).turn ≡ place.turn)
    × ((after_single item point next).steps ≡ point.steps + 1) × ((after_single item point next).state ≡ next)
counts_single item place point next c =
    subst (λ n. AreCountsAt (cond (nat_lt (n + 1) (steps_in item)) (place_with_step place) (place_past_item (place_with_step place))) (after_single item point next)
    × ((cond (nat_lt (n + 1) (steps_in item)) (place_with_step place) (place_past_item (place_with_step place))).turn ≡ place.turn)
    × ((after_single item point next).steps ≡ point.steps + 1) × ((after_single item point next).state ≡ next)) (sym c.singles) (by (nat_lt (point.singles + 1) (steps_in item)))
  where
    by : (b : Bool) → AreCountsAt (cond b (place_with_step place) (place_past_item (place_with_step place))) (cond b (with_step point next) (past_item (with_step point next)))
        × ((cond b (place_with_step place) (place_past_item (place_with_step place))).turn ≡ place.turn)
        × ((cond b (with_step point next) (past_item (with_step point next))).steps ≡ point.steps + 1) × ((cond b (with_step point next) (past_item (with_step point next))).state ≡ next)
    by true = (counts_step place point next c, refl, refl, refl)
    by false = (counts_past (place_with_step place) (with_step point next) (counts_step place point next c), refl, refl, refl)

-- ---- a turn

-- A single step of the next item was done: the turn is made but for its root.
pub turn_made : {E : Type 0} (Stand : Standings E) (keep_of : E → KeepState) (flow_of : E → Dataflow) (texts : HeldTexts) (starts : ℕ) (plan_few : starts ≤ 2 ^ 61) (held new : Records)
    (old after : E) (place : SchedulePlace) (kept : KeptPoint) (point : SchedulePoint) (item : Item) (step : Step) (effect : Effect) (next : Machine)
    → IsRunAt Stand keep_of flow_of texts starts (Some held) old place kept point → slice_get texts.items point.ended ≡ Some item
    → KeepsOutside (keep_of old).next ((keep_of old).next + 256) (Some held) (Some new) → (keep_of after).next ≤ (keep_of old).next + 256 → (keep_of old).next ≤ (keep_of after).next
    → (keep_of old).next + 256 ≤ 2 ^ 63 → flow_of after ≡ flow_of old → DoesSingle (system_in texts) item point next effect → LeadsTo (system_in texts) point.state step next effect
    → IsPointOf texts.items (after_single item point next) → Stand (system_in texts) after (Some new) next
    → IsTurnMade Stand keep_of flow_of texts starts (Some new) after (place_after_single (steps_in item) place) kept point (turned effect) (after_single item point next) (did effect)
turn_made {E} Stand keep_of flow_of texts starts few held new old after place kept point item step effect next u at k drawn never room flow does leads there stands =
    let c = counts_single item place point next u.counts in
    let same : u.held ≡ held = sym (same_Some held u.held u.told) in
    record {
      held = new;
      told = refl;
      flow = flow ∙ u.flow;
      makes = (item, at, (next, does, refl));
      is_turn = refl;
      shown = refl;
      stands = subst (λ s. Stand (system_in texts) after (Some new) s) (sym c.3) stands;
      reached = subst (λ s. IsReached (system_in texts) s) (sym c.3) (reached-by (system_in texts) point.state step (did effect) next u.reached leads);
      of_items = there;
      counts = c.0;
      turn = subst (λ t. IsLastTurn texts starts new kept t (keep_of after).next) (sym c.1)
          (last_stays texts starts held new kept place.turn (keep_of old).next (keep_of after).next k room never
          (subst (λ h. IsLastTurn texts starts h kept place.turn (keep_of old).next) same u.turn));
      turns = omega (arith, c.1, c.2, u.turns);
      ids = omega (arith, c.2, u.ids, drawn);
      few = few;
    }

-- ---- a step that does nothing, or that the store does not let be done

-- what was kept is kept behind a step that was not done
pub kept_behind : {E : Type 0} (Stand : Standings E) (keep_of : E → KeepState) (flow_of : E → Dataflow) (texts : HeldTexts) (starts : ℕ) (held new : Records) (old after : E)
    (place : SchedulePlace) (kept : KeptPoint) (point : SchedulePoint) → IsRunAt Stand keep_of flow_of texts starts (Some held) old place kept point
    → KeepsOutside (keep_of old).next ((keep_of old).next + 256) (Some held) (Some new) → (keep_of old).next + 256 ≤ 2 ^ 63 → (keep_of old).next ≤ (keep_of after).next
    → (found : Found) × HoldsKeptPoint texts starts new found kept
kept_behind Stand keep_of flow_of texts starts held new old after place kept point u k room never =
    let same : u.held ≡ held = sym (same_Some held u.held u.told) in
    holds_last texts starts new kept place.turn (keep_of after).next
    (last_stays texts starts held new kept place.turn (keep_of old).next (keep_of after).next k room never
    (subst (λ h. IsLastTurn texts starts h kept place.turn (keep_of old).next) same u.turn))

-- there is room for the ids of a step
pub room_for_ids : {E : Type 0} (Stand : Standings E) (keep_of : E → KeepState) (flow_of : E → Dataflow) (texts : HeldTexts) (starts : ℕ) (records : Option Records) (old : E)
    (place : SchedulePlace) (kept : KeptPoint) (point : SchedulePoint) → IsRunAt Stand keep_of flow_of texts starts records old place kept point → step_count texts.items ≤ step_limit
    → (keep_of old).next + 256 ≤ 2 ^ 63
room_for_ids Stand keep_of flow_of texts starts records old place kept point u few =
    omega (arith, u.ids, (point_few texts.items point u.of_items).0, few)

-- The run is under way at another point with the same state, where the store is as it was and no id was drawn.
pub way_on : {E : Type 0} (Stand : Standings E) (keep_of : E → KeepState) (flow_of : E → Dataflow) (texts : HeldTexts) (starts : ℕ) (held : Records) (old after : E)
    (place later : SchedulePlace) (kept : KeptPoint) (point to : SchedulePoint) → IsRunAt Stand keep_of flow_of texts starts (Some held) old place kept point
    → flow_of after ≡ flow_of old → (keep_of after).next ≡ (keep_of old).next → Stand (system_in texts) after (Some held) point.state → to.state ≡ point.state → IsPointOf texts.items to
    → AreCountsAt later to → later.turn ≡ place.turn → point.steps ≤ to.steps → IsRunAt Stand keep_of flow_of texts starts (Some held) after later kept to
way_on Stand keep_of flow_of texts starts held old after place later kept point to u flow next stands state there counts turn steps = record {
  held = u.held;
  told = u.told;
  flow = flow ∙ u.flow;
  stands = subst (λ s. Stand (system_in texts) after (Some held) s) (sym state) stands;
  reached = subst (λ s. IsReached (system_in texts) s) (sym state) u.reached;
  of_items = there;
  counts = counts;
  turn = subst (λ n. IsLastTurn texts starts u.held kept later.turn n) (sym next) (subst (λ t. IsLastTurn texts starts u.held kept t (keep_of old).next) (sym turn) u.turn);
  turns = omega (arith, u.turns, turn, steps);
  ids = omega (arith, u.ids, next, steps);
}
