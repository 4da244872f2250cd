-- What is kept and written where a turn ends, as it may.
use Rattle.std.proofs.Common.{◌≡◌, ◌⊎◌, inl, inr, ℕ, ◌+◌, ◌^◌, ◌<◌, ◌≤◌, true, List, [], ◌∷◌, Option, Some, None, IsSome, Result, Err, refl, sym, ◌∙◌, ap, subst, arith}
use Rattle.std.specs.FinMap as map_of
use Rattle.std.specs.List.{Contains}
use Rattle.std.specs.Option.{ForSome}
use Rattle.std.specs.Prelude.{OnOk}
use Rattle.fw_outside.specs.Outside.{SinkView}
use Rattle.fw_flow.specs.Dataflow.{Dataflow}
use Rattle.fw_schedule.specs.Schedule.{step_count, step_limit}
use Rattle.fw_keep.specs.Catalogue.{KeepState, has_entry}
use Rattle.fw_keep.specs.Stored.{Records, bytes_under}
use Rattle.fw_model.specs.Steps.{Outcome}
use Rattle.fw_named.specs.Named.{named_ids}
use Rattle.fw_root.specs.declared.root.Mark.{Mark}
use Rattle.fw_root.specs.declared.root.Root.{Root}
use Rattle.fw_root.specs.Sound.{AreDigests, AreLines}
use Rattle.fw_root.specs.Spelling.{root_spelling}
use Rattle.fw_running.specs.declared.fault.EngineFault.{EngineFault}
use Rattle.fw_running.specs.declared.fault.EngineFault.TheVariants as faults
use Rattle.fw_running.specs.EffectText.{outcome_text}
use Rattle.fw_hold.specs.declared.fault.HoldFault.{HoldFault}
use Rattle.fw_hold.specs.declared.fault.HoldFault.TheVariants.{Out, Engine, DamagedRoot, ForeignRoot}
use Rattle.fw_hold.specs.declared.plan.HeldPlan.{HeldPlan}
use Rattle.fw_hold.specs.declared.place.SchedulePlace.{SchedulePlace}
use Rattle.fw_hold.specs.Engine.{Standings, StandsOverOthers, KeepsEntryBytes, IsRootIn}
use Rattle.fw_hold.specs.Found.{ChangesOnly, IsLeftOrGone}
use Rattle.fw_hold.specs.Going.{IsTurnMade, IsRunAt, MakesMoves, WritesUpTo}
use Rattle.fw_hold.specs.Kept.{HeldTexts, Found, a_root, HoldsKeptPoint, IsKeptBy, IsPlanOf, line_at, mark_of, root_id, system_in}
use Rattle.fw_hold.specs.Moves.{Move, SchedulePoint, KeptPoint}
use Rattle.fw_hold.specs.Place.{place_with_turn}
use Rattle.fw_hold.proofs.MakingLaws.{IsUndamaged, no_move, turn_move}
use Rattle.fw_hold.proofs.RootIdLaws.{root_id-large}
use Rattle.fw_hold.proofs.TurnLaws.{holds_last, kept_on, last_not_put, turn_kept, point_few}

-- records that are told are some
pub told_are : (records : Option Records) → IsSome records → (held : Records) × (records ≡ Some held)
told_are None told = absurd (cc)
told_are (Some held) told = (held, refl)

-- ---- before the root is put

-- the turn did not come to its root
pub no_turn : {E : Type 0} (Stand : Standings E) (keep_of : E → KeepState) (flow_of : E → Dataflow) (T : Type 0) (AreSo : List Move → Type 0) (texts : HeldTexts) (starts : ℕ)
    (records : Option Records) (engine : E) (place : SchedulePlace) (kept : KeptPoint) (from : SchedulePoint) (move : Move) (to : SchedulePoint) (outcome : Outcome) (fault : EngineFault)
    (view : SinkView) (IsSo : KeptPoint → SchedulePoint → Type 0) → AreSo [] → IsUndamaged fault
    → IsTurnMade Stand keep_of flow_of texts starts records engine place kept from move to outcome
    → MakesMoves {T = T} AreSo texts starts kept from (Err (Engine fault)) records view view IsSo
no_turn Stand keep_of flow_of T AreSo texts starts records engine place kept from move to outcome fault view IsSo none is made =
    subst (λ (r : Option Records). MakesMoves {T = T} AreSo texts starts kept from (Err (Engine fault)) r view view IsSo) (sym made.told)
    (no_move T AreSo texts starts kept from fault is made.held view IsSo none (holds_last texts starts made.held kept place.turn (keep_of engine).next made.turn))

-- a fault of the store in putting a root: none of the output, of a record or of a root
abbrev pub IsOfPut : HoldFault → Type 0
IsOfPut (Out fault) = ⊥
IsOfPut (Engine faults.StoreFault) = Unit {0}
IsOfPut (Engine (faults.Damaged id)) = ⊥
IsOfPut (Engine faults.NoMemory) = Unit {0}
IsOfPut (DamagedRoot id) = ⊥
IsOfPut ForeignRoot = ⊥

-- its root was not put
pub not_put : {E : Type 0} (Stand : Standings E) (keep_of : E → KeepState) (flow_of : E → Dataflow) (T : Type 0) (AreSo : List Move → Type 0) (texts : HeldTexts) (starts : ℕ)
    (old new : Option Records) (engine : E) (place : SchedulePlace) (kept : KeptPoint) (from : SchedulePoint) (move : Move) (to : SchedulePoint) (outcome : Outcome) (fault : HoldFault)
    (view : SinkView) (IsSo : KeptPoint → SchedulePoint → Type 0) → AreSo [] → IsOfPut fault
    → IsTurnMade Stand keep_of flow_of texts starts old engine place kept from move to outcome → ChangesOnly (root_id (place.turn + 1)) old new
    → IsLeftOrGone (root_id (place.turn + 1)) old new → IsSome new → MakesMoves {T = T} AreSo texts starts kept from (Err fault) new view view IsSo
not_put {E} Stand keep_of flow_of T AreSo texts starts old new engine place kept from move to outcome fault view IsSo none is made changes left told =
    let some = told_are new told in
    let last = last_not_put texts starts made.held some.0 kept place.turn (keep_of engine).next
    (subst (λ n. ChangesOnly (root_id (place.turn + 1)) (Some made.held) n) some.1 (subst (λ o. ChangesOnly (root_id (place.turn + 1)) o new) made.told changes))
    (subst (λ n. IsLeftOrGone (root_id (place.turn + 1)) (Some made.held) n) some.1 (subst (λ o. IsLeftOrGone (root_id (place.turn + 1)) o new) made.told left)) made.turn in
    let holds = holds_last texts starts some.0 kept place.turn (keep_of engine).next last in
    subst (λ (r : Option Records). MakesMoves {T = T} AreSo texts starts kept from (Err fault) r view view IsSo) (sym some.1) (by fault is some.0 holds)
  where
    by : (f : HoldFault) → IsOfPut f → (held : Records) → (found : Found) × HoldsKeptPoint texts starts held found kept
        → MakesMoves {T = T} AreSo texts starts kept from (Err f) (Some held) view view IsSo
    by (Out f) is held holds = absurd is
    by (Engine faults.StoreFault) is held holds = no_move T AreSo texts starts kept from faults.StoreFault tt held view IsSo none holds
    by (Engine (faults.Damaged id)) is held holds = absurd is
    by (Engine faults.NoMemory) is held holds = no_move T AreSo texts starts kept from faults.NoMemory tt held view IsSo none holds
    by (DamagedRoot id) is held holds = absurd is
    by ForeignRoot is held holds = absurd is

-- ---- where the root was put

-- its root is kept, and is one of the engine's
pub record IsPut {E : Type 0} (keep_of : E → KeepState) (texts : HeldTexts) (starts : ℕ) (records : Option Records) (engine : E) (place : SchedulePlace) (to : SchedulePoint) (lines : List ℕ)
    (root : Root) : Type 0 where
  pub held : Records
  pub told : records ≡ Some held
  pub kept : IsKeptBy texts starts held (record { point = to; lines = lines }) root
  pub turn : root.mark.turn ≡ place.turn + 1
  pub next : root.next_id ≡ (keep_of engine).next
  pub entries : (id : ℕ) → Contains (named_ids root) id → has_entry id (keep_of engine).entries ≡ true

pub root_put : {E : Type 0} (Stand : Standings E) (keep_of : E → KeepState) (flow_of : E → Dataflow) (texts : HeldTexts) (starts : ℕ) (plan : HeldPlan) (old new : Option Records) (engine : E)
    (place : SchedulePlace) (kept : KeptPoint) (from : SchedulePoint) (move : Move) (to : SchedulePoint) (outcome : Outcome) (lines : List ℕ) (root : Root) → IsPlanOf texts plan
    → IsTurnMade Stand keep_of flow_of texts starts old engine place kept from move to outcome
    → IsRootIn Stand keep_of flow_of engine (mark_of plan (place_with_turn place) lines) root → AreDigests (mark_of plan (place_with_turn place) lines).digests
    → line_at plan.numbers.now place.ended < 2 ^ 33 → AreLines lines → ForSome new (λ held. map_of.get held (root_id (place.turn + 1)) ≡ Some (root_spelling root))
    → ChangesOnly (root_id (place.turn + 1)) old new → IsSome new → IsPut keep_of texts starts new engine place to lines root
root_put {E} Stand keep_of flow_of texts starts plan old new engine place kept from move to outcome lines root is_plan made r digests line bytes put changes told =
    let some = told_are new told in
    let same : old ≡ Some made.held = made.told in
    let turn_there : IsTurnMade Stand keep_of flow_of texts starts (Some made.held) engine place kept from move to outcome =
    subst (λ o. IsTurnMade Stand keep_of flow_of texts starts o engine place kept from move to outcome) same made in
    record {
      held = some.0;
      told = some.1;
      kept = turn_kept Stand keep_of flow_of texts starts plan place kept from move to outcome engine made.held some.0 lines root is_plan turn_there r digests line bytes
          (put some.0 some.1)
          (subst (λ n. ChangesOnly (root_id (place.turn + 1)) (Some made.held) n) some.1 (subst (λ o. ChangesOnly (root_id (place.turn + 1)) o new) same changes));
      turn = ap (λ m. m.turn) r.marked;
      next = r.next;
      entries = r.entries;
    }

-- the root is kept with the lines of what came of the step
pub lines_put : {E : Type 0} (Stand : Standings E) (keep_of : E → KeepState) (flow_of : E → Dataflow) (texts : HeldTexts) (starts : ℕ) (plan : HeldPlan) (old new : Option Records) (engine : E)
    (place : SchedulePlace) (kept : KeptPoint) (from : SchedulePoint) (move : Move) (to : SchedulePoint) (outcome : Outcome) (lines : List ℕ) (mark : Mark) (root : Root) (flow : Dataflow)
    → IsPlanOf texts plan → IsTurnMade Stand keep_of flow_of texts starts old engine place kept from move to outcome → mark ≡ mark_of plan (place_with_turn place) lines
    → IsRootIn Stand keep_of flow_of engine mark root → AreDigests mark.digests → mark.line < 2 ^ 33 → AreLines lines → lines ≡ outcome_text flow outcome → flow ≡ flow_of engine
    → ForSome new (λ held. map_of.get held (root_id root.mark.turn) ≡ Some (root_spelling root)) → ChangesOnly (root_id root.mark.turn) old new → IsSome new
    → IsPut keep_of texts starts new engine place to (outcome_text texts.flow outcome) root
lines_put {E} Stand keep_of flow_of texts starts plan old new engine place kept from move to outcome lines mark root flow is_plan made exact r digests line bytes text of_engine put changes told =
    let here : IsRootIn Stand keep_of flow_of engine (mark_of plan (place_with_turn place) lines) root = subst (λ m. IsRootIn Stand keep_of flow_of engine m root) exact r in
    let turn : root.mark.turn ≡ place.turn + 1 = ap (λ (m : Mark). m.turn) here.marked in
    let same : lines ≡ outcome_text texts.flow outcome = text ∙ ap (λ f. outcome_text f outcome) (of_engine ∙ made.flow) in
    subst (λ ls. IsPut keep_of texts starts new engine place to ls root) same
    (root_put Stand keep_of flow_of texts starts plan old new engine place kept from move to outcome lines root is_plan made here
    (subst (λ (m : Mark). AreDigests m.digests) exact digests) (subst (λ (m : Mark). m.line < 2 ^ 33) exact line) bytes
    (subst (λ t. ForSome new (λ held. map_of.get held (root_id t) ≡ Some (root_spelling root))) turn put) (subst (λ t. ChangesOnly (root_id t) old new) turn changes) told)

-- the turn of a root
pub turn_of : {E : Type 0} (Stand : Standings E) (keep_of : E → KeepState) (flow_of : E → Dataflow) (engine : E) (plan : HeldPlan) (place : SchedulePlace) (lines : List ℕ) (mark : Mark) (root : Root)
    → mark ≡ mark_of plan (place_with_turn place) lines → IsRootIn Stand keep_of flow_of engine mark root → root.mark.turn ≡ place.turn + 1
turn_of Stand keep_of flow_of engine plan place lines mark root exact r = ap (λ (m : Mark). m.turn) (r.marked ∙ exact)

-- what is written are the lines of what came of the step
pub lines_told : {E : Type 0} (Stand : Standings E) (keep_of : E → KeepState) (flow_of : E → Dataflow) (engine : E) (plan : HeldPlan) (place : SchedulePlace) (lines : List ℕ) (mark : Mark) (root : Root)
    (written : List ℕ) (flow : Dataflow) (outcome : Outcome) → written ≡ root.mark.lines → IsRootIn Stand keep_of flow_of engine mark root → mark ≡ mark_of plan (place_with_turn place) lines
    → lines ≡ outcome_text flow outcome → written ≡ outcome_text flow outcome
lines_told Stand keep_of flow_of engine plan place lines mark root written flow outcome w r exact text = w ∙ ap (λ (m : Mark). m.lines) (r.marked ∙ exact) ∙ text

pub text_told : (texts : HeldTexts) (written : List ℕ) (flow of_engine : Dataflow) (outcome : Outcome) → written ≡ outcome_text flow outcome → flow ≡ of_engine → of_engine ≡ texts.flow
    → written ≡ outcome_text texts.flow outcome
text_told texts written flow of_engine outcome text one two = text ∙ ap (λ f. outcome_text f outcome) (one ∙ two)

-- the lines were cut off, or behind them the sweep failed
pub turn_cut : {E : Type 0} (Stand : Standings E) (keep_of : E → KeepState) (flow_of : E → Dataflow) (T : Type 0) (AreSo : List Move → Type 0) (texts : HeldTexts) (starts : ℕ)
    (old new : Option Records) (engine : E) (place : SchedulePlace) (kept : KeptPoint) (from : SchedulePoint) (move : Move) (to : SchedulePoint) (outcome : Outcome) (answer : Result T HoldFault)
    (before after : SinkView) (IsSo : KeptPoint → SchedulePoint → Type 0) (held : Records) (root : Root)
    → IsTurnMade Stand keep_of flow_of texts starts old engine place kept from move to outcome → AreSo (move ∷ []) → new ≡ Some held
    → IsKeptBy texts starts held (record { point = to; lines = outcome_text texts.flow outcome }) root
    → WritesUpTo (outcome_text texts.flow outcome) (outcome_text texts.flow outcome) answer before after
    → OnOk answer (IsSo (record { point = to; lines = outcome_text texts.flow outcome }) to)
    → MakesMoves {T = T} AreSo texts starts kept from answer new before after IsSo
turn_cut Stand keep_of flow_of T AreSo texts starts old new engine place kept from move to outcome answer before after IsSo held root made is told by wrote so =
    subst (λ (r : Option Records). MakesMoves {T = T} AreSo texts starts kept from answer r before after IsSo) (sym told)
    (turn_move T AreSo texts starts kept from move to (outcome_text texts.flow outcome) answer held before after IsSo made.makes is made.shown made.is_turn (a_root, (root, by)) wrote so)

-- ---- a sweep behind it

-- there is room below the ids of roots
next_small : {E : Type 0} (Stand : Standings E) (keep_of : E → KeepState) (flow_of : E → Dataflow) (texts : HeldTexts) (starts : ℕ) (records : Option Records) (engine : E)
    (place : SchedulePlace) (kept : KeptPoint) (from : SchedulePoint) (move : Move) (to : SchedulePoint) (outcome : Outcome) → step_count texts.items ≤ step_limit
    → IsTurnMade Stand keep_of flow_of texts starts records engine place kept from move to outcome → (keep_of engine).next ≤ 2 ^ 63
next_small Stand keep_of flow_of texts starts records engine place kept from move to outcome few made =
    omega (arith, made.ids, (point_few texts.items to made.of_items).0, few)

-- a sweep leaves what a root keeps
pub swept : {E : Type 0} (keep_of : E → KeepState) (texts : HeldTexts) (starts : ℕ) (old new : Option Records) (engine : E) (place : SchedulePlace) (to : SchedulePoint) (lines : List ℕ) (root : Root)
    → (keep_of engine).next ≤ 2 ^ 63
    → (IsSome new → (id : ℕ) → (has_entry id (keep_of engine).entries ≡ true) ⊎ ((keep_of engine).next ≤ id) → bytes_under id new ≡ bytes_under id old)
    → IsSome new → IsPut keep_of texts starts old engine place to lines root → IsPut keep_of texts starts new engine place to lines root
swept keep_of texts starts old new engine place to lines root small others told put =
    let some = told_are new told in
    let same : (id : ℕ) → (has_entry id (keep_of engine).entries ≡ true) ⊎ ((keep_of engine).next ≤ id) → map_of.get some.0 id ≡ map_of.get put.held id =
    λ id which. ap (bytes_under id) (sym some.1) ∙ others told id which ∙ ap (bytes_under id) put.told in
    record {
      held = some.0;
      told = some.1;
      kept = kept_on texts starts put.held some.0 (record { point = to; lines = lines }) root (λ id at. same id (inl (put.entries id at))) (λ id large. same id (inr (omega (arith, small, large)))) put.kept;
      turn = put.turn;
      next = put.next;
      entries = put.entries;
    }

-- ---- all went well

-- the run is under way where the turn led
pub goes_on : {E : Type 0} (Stand : Standings E) (keep_of : E → KeepState) (flow_of : E → Dataflow) (texts : HeldTexts) (starts : ℕ) (old new : Option Records) (engine after : E)
    (place : SchedulePlace) (kept : KeptPoint) (from : SchedulePoint) (move : Move) (to : SchedulePoint) (outcome : Outcome) (lines : List ℕ) (root : Root)
    → IsTurnMade Stand keep_of flow_of texts starts old engine place kept from move to outcome → IsPut keep_of texts starts new engine place to lines root
    → flow_of after ≡ flow_of engine → (keep_of after).next ≡ (keep_of engine).next → Stand (system_in texts) after new to.state
    → IsRunAt Stand keep_of flow_of texts starts new after (place_with_turn place) (record { point = to; lines = lines }) to
goes_on Stand keep_of flow_of texts starts old new engine after place kept from move to outcome lines root made put flow next stands = record {
  held = put.held;
  told = put.told;
  flow = flow ∙ made.flow;
  stands = stands;
  reached = made.reached;
  of_items = made.of_items;
  counts = record { ended = made.counts.ended; singles = made.counts.singles; steps = made.counts.steps; idle = made.counts.idle };
  turn = inr (root, put.kept, sym put.turn, omega (arith, put.next, next));
  turns = made.turns;
  ids = omega (arith, next, made.ids);
}

-- what a put under the id of a root leaves of an engine
pub root_is_other : {E : Type 0} (Stand : Standings E) (keep_of : E → KeepState) (engine : E) (turn : ℕ) (old new : Option Records) → StandsOverOthers Stand keep_of engine
    → (keep_of engine).next ≤ 2 ^ 63 → ChangesOnly (root_id turn) old new → KeepsEntryBytes (keep_of engine) old new
root_is_other Stand keep_of engine turn old new over small changes = record {
  told_before = changes.told_before;
  entries = λ told id there. changes.others told id (λ e. omega (arith, e, over.drawn id there, small, root_id-large turn));
}
