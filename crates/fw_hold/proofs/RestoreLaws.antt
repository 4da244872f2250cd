-- Where a run stands behind a root, and how every node is restored.
use Rattle.std.proofs.Common.{◌≡◌, inl, inr, ℕ, ◌+◌, ◌^◌, ◌<◌, Bool, true, false, cond, List, [], ◌∷◌, drop, Option, Some, IsSome, nat_lt, refl, sym, ◌∙◌, ap, subst, arith}
use Rattle.std.proofs.lemmas.Bool.{lt-ltb}
use Rattle.fw_flow.specs.declared.choice.Choice.{Choice}
use Rattle.fw_flow.specs.declared.step.Step.TheVariants.{Fail, Recover}
use Rattle.fw_flow.specs.Dataflow.{Dataflow, node_ids}
use Rattle.fw_schedule.specs.declared.item.Item.{Item}
use Rattle.fw_schedule.specs.Schedule.{steps_in}
use Rattle.fw_keep.specs.Catalogue.{KeepState}
use Rattle.fw_keep.specs.Stored.{Records}
use Rattle.fw_model.specs.Steps.{Outcome, cuts, did}
use Rattle.fw_regain.specs.Down.{down}
use Rattle.fw_regain.proofs.DownLaws.{go-down}
use Rattle.fw_root.specs.declared.root.Root.{Root}
use Rattle.fw_running.specs.EffectText.{outcome_text}
use Rattle.fw_hold.specs.declared.plan.HeldPlan.{HeldPlan}
use Rattle.fw_hold.specs.declared.place.SchedulePlace.{SchedulePlace}
use Rattle.fw_hold.specs.Engine.{Standings, KeepsOutside, RestoresAll}
use Rattle.fw_hold.specs.Going.{AreCountsAt, IsTurnMade}
use Rattle.fw_hold.specs.Kept.{HeldTexts, AreSinglesOf, IsKeptBy, IsPlanOf, ended_before, singles_of, place_behind_root, system_in}
use Rattle.fw_hold.specs.Starting.{IsKeptIn}
use Rattle.fw_hold.specs.Moves.{restored, KeptPoint, SchedulePoint}
use Rattle.fw_hold.proofs.BegunLaws.{kept_later}
use Rattle.fw_hold.proofs.EndLaws.{told_are}
use Rattle.fw_hold.proofs.PlaceLaws.{found_again}
use Rattle.fw_hold.proofs.StepLaws.{reached-by}
use Rattle.fw_hold.proofs.TurnLaws.{kept_on}

-- ---- the place

-- so many single steps as are said, where these are some of the item
singles_again : (items : List Item) (n : ℕ) → AreSinglesOf items n → singles_of items n ≡ n
singles_again [] n e = sym e
singles_again (item ∷ items) n (inl e) = by (nat_lt n (steps_in item))
  where
    by : (b : Bool) → cond b n 0 ≡ n
    by true = refl
    by false = sym e
singles_again (item ∷ items) n (inr lt) = ap (λ b. cond b n 0) (lt-ltb n (steps_in item) lt)

-- behind a root a run stands at the point that is kept
pub counts_found : (texts : HeldTexts) (starts : ℕ) (held : Records) (kept : KeptPoint) (root : Root) (plan : HeldPlan) → IsPlanOf texts plan → IsKeptBy texts starts held kept root
    → AreCountsAt (place_behind_root plan.items.now plan.numbers.now root) kept.point
counts_found texts starts held kept root plan p by =
    let again : ended_before texts.numbers root.mark.line ≡ kept.point.ended =
    ap (ended_before texts.numbers) by.line ∙ found_again texts.numbers kept.point.ended p.ascending (omega (arith, p.one_each, by.point.ended)) in
    let ended : ended_before plan.numbers.now root.mark.line ≡ kept.point.ended = ap (λ ns. ended_before ns root.mark.line) p.numbers ∙ again in
    let items : drop (ended_before plan.numbers.now root.mark.line) plan.items.now ≡ drop kept.point.ended texts.items =
    ap (λ n. drop n plan.items.now) ended ∙ ap (drop kept.point.ended) p.items in
    record {
      ended = ended;
      singles = ap (λ xs. singles_of xs root.mark.singles) items ∙ ap (singles_of (drop kept.point.ended texts.items)) by.singles
          ∙ singles_again (drop kept.point.ended texts.items) kept.point.singles by.point.singles;
      steps = by.steps;
      idle = by.idle;
    }

-- ---- the turn of a start

-- where all records are as they were, what a root keeps is kept
pub all_kept : (texts : HeldTexts) (starts : ℕ) (held new : Records) (kept : KeptPoint) (root : Root) → KeepsOutside 0 0 (Some held) (Some new) → IsKeptBy texts starts held kept root
    → IsKeptBy texts starts new kept root
all_kept texts starts held new kept root k by =
    kept_on texts starts held new kept root (λ id at. k.others refl id (inr (omega arith))) (λ id large. k.others refl id (inr (omega arith))) by

-- Every node was restored: the turn is made but for its root.
pub restored_turn : {E : Type 0} (Stand : Standings E) (keep_of : E → KeepState) (flow_of : E → Dataflow) (texts : HeldTexts) (starts : ℕ) (held new : Records) (engine : E)
    (plan : HeldPlan) (kept : KeptPoint) (root : Root) (outcome : Outcome) → IsPlanOf texts plan → starts < 2 ^ 61 → IsKeptBy texts starts held kept root
    → KeepsOutside 0 0 (Some held) (Some new) → flow_of engine ≡ texts.flow → (keep_of engine).next ≡ root.next_id
    → (r : RestoresAll Stand (system_in texts) kept.point.state outcome engine (Some new))
    → IsTurnMade Stand keep_of flow_of texts (starts + 1) (Some new) engine (place_behind_root plan.items.now plan.numbers.now root) kept kept.point (restored r.1)
    (record kept.point { state = r.0 }) outcome
restored_turn Stand keep_of flow_of texts starts held new engine plan kept root outcome p few by k flow next (state, choice, leads, is, stands) =
    let sys = system_in texts in
    let fail = go-down sys kept.point.state by.reached in
    record {
      held = new;
      told = refl;
      flow = flow;
      makes = (state, leads, refl);
      is_turn = ap (λ (o : Outcome). record { point = record kept.point { state = state }; lines = outcome_text texts.flow o }) (sym is);
      shown = ap (outcome_text texts.flow) (sym is);
      stands = stands;
      reached = reached-by sys (down sys kept.point.state) Recover (did (cuts choice)) state
          (reached-by sys kept.point.state (Fail (node_ids texts.flow)) fail.0 (down sys kept.point.state) by.reached fail.1) leads;
      of_items = record { ended = by.point.ended; singles = by.point.singles; steps = by.point.steps; idle = by.point.idle };
      counts =
          let c = counts_found texts starts held kept root plan p by in
          record { ended = c.ended; singles = c.singles; steps = c.steps; idle = c.idle };
      turn = inr (root, kept_later texts starts new kept root (all_kept texts starts held new kept root k by), refl, omega (arith, next));
      turns = omega (arith, by.turns);
      ids = omega (arith, next, by.ids);
      few = omega (arith, few);
    }

-- the records are told, and what a root keeps is kept
pub kept_through : (texts : HeldTexts) (starts : ℕ) (old new : Option Records) (kept : KeptPoint) (root : Root) → IsKeptIn texts starts old kept root → KeepsOutside 0 0 old new → IsSome new
    → IsKeptIn texts starts new kept root
kept_through texts starts old new kept root (held, told, by) k now =
    let some = told_are new now in
    (some.0, some.1, all_kept texts starts held some.0 kept root (subst (λ r. KeepsOutside 0 0 (Some held) r) some.1 (subst (λ r. KeepsOutside 0 0 r new) told k)) by)

-- so is the turn, but for its root
pub restored_in : {E : Type 0} (Stand : Standings E) (keep_of : E → KeepState) (flow_of : E → Dataflow) (texts : HeldTexts) (starts : ℕ) (old new : Option Records) (engine : E)
    (plan : HeldPlan) (place : SchedulePlace) (kept : KeptPoint) (root : Root) (outcome : Outcome) → IsPlanOf texts plan → starts < 2 ^ 61 → IsKeptIn texts starts old kept root
    → KeepsOutside 0 0 old new → IsSome new → flow_of engine ≡ texts.flow → (keep_of engine).next ≡ root.next_id → place ≡ place_behind_root plan.items.now plan.numbers.now root
    → RestoresAll Stand (system_in texts) kept.point.state outcome engine new
    → (choice : Choice) × (to : SchedulePoint) × IsTurnMade Stand keep_of flow_of texts (starts + 1) new engine place kept kept.point (restored choice) to outcome
restored_in Stand keep_of flow_of texts starts old new engine plan place kept root outcome p few (held, told, by) k now flow next is r =
    let some = told_are new now in
    let here = subst (λ x. RestoresAll Stand (system_in texts) kept.point.state outcome engine x) some.1 r in (
      here.1,
      record kept.point { state = here.0 },
      subst (λ s. IsTurnMade Stand keep_of flow_of texts (starts + 1) new engine s kept kept.point (restored here.1) (record kept.point { state = here.0 }) outcome) (sym is)
          (subst (λ x. IsTurnMade Stand keep_of flow_of texts (starts + 1) x engine (place_behind_root plan.items.now plan.numbers.now root) kept kept.point (restored here.1) (record kept.point { state = here.0 })
          outcome) (sym some.1)
          (restored_turn Stand keep_of flow_of texts starts held some.0 engine plan kept root outcome p few by
          (subst (λ x. KeepsOutside 0 0 (Some held) x) some.1 (subst (λ x. KeepsOutside 0 0 x new) told k)) flow next here)),
    )
