-- What is kept where a turn was made and its root was put.
use Rattle.std.proofs.Common.{◌≡◌, inl, inr, ℕ, ◌+◌, ◌-◌, ◌^◌, ◌<◌, ◌≤◌, true, List, [], ◌∷◌, ◌++◌, map, nat_lt, take, drop, Some, None, Ok, refl, sym, ◌∙◌, ap, subst, arith}
use Rattle.std.specs.FinMap as map_of
use Rattle.std.specs.List.{AllByRecursion, Contains}
use Rattle.std.proofs.lemmas.List.{take-append-drop}
use Rattle.std.proofs.lemmas.Bool.{ltb-true, and_parts}
use Rattle.std.proofs.lemmas.List.Elements.{All-contains, All-from_recursion, All-map}
use Rattle.std.proofs.lemmas.Option.{same_Some}
use Rattle.fw_flow.specs.Dataflow.{Dataflow, system_of}
use Rattle.fw_schedule.specs.declared.item.Item.{Item}
use Rattle.fw_schedule.specs.Schedule.{step_count, step_limit}
use Rattle.fw_schedule.proofs.ReadLaws.{step_count-append}
use Rattle.fw_keep.specs.Catalogue.{KeepState}
use Rattle.fw_keep.specs.Stored.{Records}
use Rattle.fw_model.specs.Steps.{Outcome}
use Rattle.fw_root.specs.declared.root.Mark.{Mark}
use Rattle.fw_root.specs.declared.root.NamedWrite.{NamedWrite}
use Rattle.fw_root.specs.declared.root.Root.{Root}
use Rattle.fw_root.specs.Reading.{read_root_head}
use Rattle.fw_bytes.specs.Sound.{each_may_follow}
use Rattle.fw_root.specs.OfFlow.{Given}
use Rattle.fw_root.specs.Sound.{may_follow_writes, AreDigests, AreLines, IsMark, IsRootFor}
use Rattle.fw_root.specs.Spelling.{root_spelling}
use Rattle.fw_root.proofs.HeadLaws.{head_of_root}
use Rattle.fw_hold.specs.declared.plan.HeldPlan.{HeldPlan}
use Rattle.fw_hold.specs.declared.place.SchedulePlace.{SchedulePlace}
use Rattle.fw_hold.specs.Engine.{Standings, IsRootIn}
use Rattle.fw_hold.specs.Found.{IsRootId, ChangesOnly, IsLeftOrGone}
use Rattle.fw_hold.specs.Going.{AreCountsAt, IsTurnMade, IsLastTurn}
use Rattle.fw_hold.specs.Kept.{HeldTexts, Found, no_root, a_root, HoldsKeptPoint, system_in, AreSinglesOf, IsPointOf, IsPlanOf, AreOfEarlierTurn, IsCounted, IsKeptBy, line_at, mark_of, root_id}
use Rattle.fw_hold.specs.Moves.{Move, SchedulePoint, KeptPoint}
use Rattle.fw_named.specs.Named.{AreNamed, named_ids}
use Rattle.fw_named.proofs.NamedLaws.{named-stay}
use Rattle.fw_hold.specs.Place.{place_with_turn}
use Rattle.fw_hold.proofs.RootIdLaws.{root_id-again, root_id-either, root_id-other, root_id-large}

-- ---- counts

singles_few : (items : List Item) (singles : ℕ) → AreSinglesOf items singles → singles ≤ step_count items
singles_few [] singles h = omega (arith, h)
singles_few (item ∷ items) singles (inl h) = omega (arith, h)
singles_few (item ∷ items) singles (inr h) = omega (arith, h)

-- no more steps were counted than the items have, and no more single steps are done
pub point_few : (items : List Item) (point : SchedulePoint) → IsPointOf items point → (point.steps ≤ step_count items) × (point.singles ≤ step_count items)
point_few items point p =
    let all : step_count (take point.ended items) + step_count (drop point.ended items) ≡ step_count items =
    sym (step_count-append (take point.ended items) (drop point.ended items)) ∙ ap step_count (take-append-drop point.ended items) in
    let some = singles_few (drop point.ended items) point.singles p.singles in
    (omega (arith, all, some, p.steps), omega (arith, all, some))

-- the mark of a point is one
pub marks_point : (texts : HeldTexts) (starts : ℕ) (plan : HeldPlan) (place : SchedulePlace) (point : SchedulePoint) (lines : List ℕ) → IsPlanOf texts plan → IsPointOf texts.items point
    → AreCountsAt place point → place.turn ≤ point.steps + starts → starts ≤ 2 ^ 61 → AreDigests (mark_of plan place lines).digests → line_at plan.numbers.now place.ended < 2 ^ 33
    → AreLines lines → IsMark (mark_of plan place lines)
marks_point texts starts plan place point lines p at counts turns few digests line bytes =
    let most = point_few texts.items point at in
    let limit : step_limit ≡ 2 ^ 32 - 1 = refl in
    record {
      digests = digests;
      turn = omega (arith, turns, few, most.0, p.few);
      line = omega (arith, line);
      singles = omega (arith, most.1, p.few, counts.singles);
      steps = omega (arith, most.0, p.few, counts.steps);
      idle = omega (arith, most.0, p.few, counts.idle, at.idle);
      lines = bytes;
    }

-- ---- the ids that a root names

below_next : (flow : Dataflow) (next : ℕ) (before ws : List NamedWrite) → each_may_follow (may_follow_writes flow next) before ws ≡ true
    → AllByRecursion (λ (w : NamedWrite). w.id < next) ws
below_next flow next before [] h = tt
below_next flow next before (w ∷ ws) h =
    let both = and_parts (may_follow_writes flow next before w) (each_may_follow (may_follow_writes flow next) (before ++ w ∷ []) ws) h in (
      ltb-true w.id next (and_parts (nat_lt w.id next) _ both.0).0,
      below_next flow next (before ++ w ∷ []) ws both.1,
    )

-- each id that is named was drawn
pub named_below : (flow : Dataflow) (batches : Given) (root : Root) → IsRootFor flow batches root → (id : ℕ) → Contains (named_ids root) id → id < root.next_id
named_below flow batches root sound id at =
    All-contains (λ i. i < root.next_id) (map (λ (w : NamedWrite). w.id) root.writes) id
    (All-map (λ i. i < root.next_id) (λ (w : NamedWrite). w.id) root.writes (All-from_recursion (λ (w : NamedWrite). w.id < root.next_id) root.writes (below_next flow root.next_id [] root.writes sound.writes.follow))) at

-- ---- what the records hold

-- what is under an id that was not changed
stays : (id other : ℕ) (held new : Records) → ChangesOnly id (Some held) (Some new) → (other ≡ id → ⊥) → map_of.get new other ≡ map_of.get held other
stays id other held new c away = c.others refl other away

-- what the root of an earlier turn is after the next one was put
earlier_there : (texts : HeldTexts) (starts : ℕ) (held new : Records) (kept : KeptPoint) (turn next : ℕ) → IsLastTurn texts starts held kept turn next
    → ChangesOnly (root_id (turn + 1)) (Some held) (Some new) → (bytes : List ℕ) → map_of.get new (root_id (turn + 1 + 1)) ≡ Some bytes → AreOfEarlierTurn texts.digests (turn + 1) bytes
earlier_there texts starts held new kept turn next last c bytes there =
    let same : root_id (turn + 1 + 1) ≡ root_id turn = ap root_id (omega arith) ∙ root_id-again turn in
    let old : map_of.get held (root_id turn) ≡ Some bytes =
    sym (stays (root_id (turn + 1)) (root_id turn) held new c (root_id-other turn)) ∙ ap (map_of.get new) (sym same) ∙ there in
    elim last [
      | inl none ↦ (
          let gone : map_of.get held (root_id turn) ≡ None = ap (λ t. map_of.get held (root_id t)) none.1 ∙ none.0.0.even in
          let no : Some bytes ≡ None = sym old ∙ gone in
          absurd (cc)
          )
      | inr some ↦ (
          let root = some.0 in
          let kept_by = some.1 in
          let spelled : Some bytes ≡ Some (root_spelling root) = sym old ∙ ap (λ t. map_of.get held (root_id t)) some.2 ∙ kept_by.counted.there in
          let is : bytes ≡ root_spelling root = same_Some bytes (root_spelling root) spelled in
          let head = head_of_root texts.flow texts.batches root kept_by.of_texts in (
            record { digests = root.mark.digests; turn = root.mark.turn },
            head.0,
            subst (λ b. read_root_head b ≡ Ok (record { digests = root.mark.digests; turn = root.mark.turn }, head.0)) (sym is) head.1,
            kept_by.digests,
            omega (arith, some.2),
          )
          )
    ]

-- what is kept is kept by other records, in which the root counts and its writes are named
pub kept_in : (texts : HeldTexts) (starts later : ℕ) (held new : Records) (kept : KeptPoint) (root : Root) → starts ≤ later → IsCounted new root
    → AreNamed (system_in texts) kept.point.state root (Some new) → IsKeptBy texts starts held kept root → IsKeptBy texts later new kept root
kept_in texts starts later held new kept root more counted named by = record {
  counted = counted;
  digests = by.digests;
  of_texts = by.of_texts;
  reached = by.reached;
  of_state = by.of_state;
  named = named;
  point = by.point;
  line = by.line;
  singles = by.singles;
  steps = by.steps;
  idle = by.idle;
  lines = by.lines;
  turns = omega (arith, by.turns, more);
  ids = by.ids;
}

-- ---- a turn

-- The root of a turn was put: so much is kept.
pub turn_kept : {E : Type 0} (Stand : Standings E) (keep_of : E → KeepState) (flow_of : E → Dataflow) (texts : HeldTexts) (starts : ℕ) (plan : HeldPlan) (place : SchedulePlace)
    (kept : KeptPoint) (from : SchedulePoint) (move : Move) (to : SchedulePoint) (outcome : Outcome) (engine : E) (held new : Records) (lines : List ℕ) (root : Root)
    → IsPlanOf texts plan → IsTurnMade Stand keep_of flow_of texts starts (Some held) engine place kept from move to outcome
    → IsRootIn Stand keep_of flow_of engine (mark_of plan (place_with_turn place) lines) root → AreDigests (mark_of plan (place_with_turn place) lines).digests
    → line_at plan.numbers.now place.ended < 2 ^ 33 → AreLines lines → map_of.get new (root_id (place.turn + 1)) ≡ Some (root_spelling root)
    → ChangesOnly (root_id (place.turn + 1)) (Some held) (Some new) → IsKeptBy texts starts new (record { point = to; lines = lines }) root
turn_kept {E} Stand keep_of flow_of texts starts plan place kept from move to outcome engine held new lines root is_plan made r digests line bytes put others =
    let same : made.held ≡ held = sym (same_Some held made.held made.told) in
    let most = point_few texts.items to made.of_items in
    let counts : AreCountsAt (place_with_turn place) to =
    record { ended = made.counts.ended; singles = made.counts.singles; steps = made.counts.steps; idle = made.counts.idle } in
    let mark = marks_point texts starts plan (place_with_turn place) to lines is_plan made.of_items counts made.turns made.few digests line bytes in
    let small : (keep_of engine).next < 2 ^ 62 = omega (arith, made.ids, most.0, is_plan.few) in
    let turn : root.mark.turn ≡ place.turn + 1 = ap (λ (m : Mark). m.turn) r.marked in
    let stand : Stand (system_of (flow_of engine) texts.batches) engine (Some held) to.state =
    subst (λ f. Stand (system_of f texts.batches) engine (Some held) to.state) (sym made.flow) made.stands in
    let of_flow : IsRootFor texts.flow texts.batches root =
    subst (λ f. IsRootFor f texts.batches root) made.flow (r.of_flow texts.batches (Some held) to.state stand mark small) in
    record {
      counted = record {
        there = ap (λ t. map_of.get new (root_id t)) turn ∙ put;
        other = λ older there.
            subst (λ t. AreOfEarlierTurn root.mark.digests t older) (sym turn)
            (subst (λ d. AreOfEarlierTurn d (place.turn + 1) older) (sym (ap (λ (m : Mark). m.digests) r.marked ∙ is_plan.digests))
            (earlier_there texts starts held new kept place.turn (keep_of engine).next (subst (λ h. IsLastTurn texts starts h kept place.turn (keep_of engine).next) same made.turn) others older
            (sym (ap (λ t. map_of.get new (root_id (t + 1))) turn) ∙ there)));
      };
      digests = ap (λ (m : Mark). m.digests) r.marked ∙ is_plan.digests;
      of_texts = of_flow;
      reached = made.reached;
      of_state = r.of_state (system_in texts) (Some held) to.state made.stands;
      named = named-stay (system_in texts) to.state root held new
          (λ id at. stays (root_id (place.turn + 1)) id held new others (λ e. omega (arith, e, r.drawn id at, small, root_id-large (place.turn + 1))))
          (r.named (system_in texts) (Some held) to.state made.stands);
      point = made.of_items;
      line = ap (λ (m : Mark). m.line) r.marked ∙ ap (λ ns. line_at ns place.ended) is_plan.numbers ∙ ap (line_at texts.numbers) made.counts.ended;
      singles = ap (λ (m : Mark). m.singles) r.marked ∙ made.counts.singles;
      steps = ap (λ (m : Mark). m.steps) r.marked ∙ made.counts.steps;
      idle = ap (λ (m : Mark). m.idle) r.marked ∙ made.counts.idle;
      lines = ap (λ (m : Mark). m.lines) r.marked;
      turns = omega (arith, turn, made.turns);
      ids = omega (arith, r.next, made.ids);
    }

-- ---- where the root was not put, and behind it

-- what the last turn kept is kept
pub holds_last : (texts : HeldTexts) (starts : ℕ) (held : Records) (kept : KeptPoint) (turn next : ℕ) → IsLastTurn texts starts held kept turn next
    → (found : Found) × HoldsKeptPoint texts starts held found kept
holds_last texts starts held kept turn next (inl none) = (no_root, none.0)
holds_last texts starts held kept turn next (inr some) = (a_root, (some.0, some.1))

-- under the ids of roots nothing comes where nothing was, if the next root was not put
none_comes : (held new : Records) (turn q : ℕ) → ChangesOnly (root_id (turn + 1)) (Some held) (Some new) → IsLeftOrGone (root_id (turn + 1)) (Some held) (Some new) → IsRootId q
    → map_of.get held q ≡ None → map_of.get new q ≡ None
none_comes held new turn q c l one none =
    elim (root_id-either turn q one) [
      | inl this ↦ stays (root_id (turn + 1)) q held new c (λ e. root_id-other turn (sym this ∙ e)) ∙ none
      | inr other ↦ elim (l refl) [
        | inl same ↦ ap (map_of.get new) other ∙ same ∙ ap (map_of.get held) (sym other) ∙ none
        | inr gone ↦ ap (map_of.get new) other ∙ gone
      ]
    ]

-- where the next root was not put the last one is kept
pub last_not_put : (texts : HeldTexts) (starts : ℕ) (held new : Records) (kept : KeptPoint) (turn next : ℕ) → ChangesOnly (root_id (turn + 1)) (Some held) (Some new)
    → IsLeftOrGone (root_id (turn + 1)) (Some held) (Some new) → IsLastTurn texts starts held kept turn next → IsLastTurn texts starts new kept turn next
last_not_put texts starts held new kept turn next c l (inl none) =
    inl (
      (
        record {
          even = none_comes held new turn (root_id 0) c l (inl refl) none.0.0.even;
          odd = none_comes held new turn (root_id 1) c l (inr refl) none.0.0.odd;
        },
        none.0.1,
      ),
      none.1,
    )
last_not_put texts starts held new kept turn next c l (inr (root, by, is, below)) =
    let here : root_id root.mark.turn ≡ root_id turn = ap root_id (sym is) in
    let after : root_id (root.mark.turn + 1) ≡ root_id (turn + 1) = ap (λ t. root_id (t + 1)) (sym is) in
    inr (
      root,
      kept_in texts starts starts held new kept root (omega arith)
          (record {
            there = stays (root_id (turn + 1)) (root_id root.mark.turn) held new c (λ e. root_id-other turn (sym here ∙ e)) ∙ by.counted.there;
            other = λ bytes there. elim (l refl) [
              | inl same ↦ by.counted.other bytes (ap (map_of.get held) after ∙ sym same ∙ ap (map_of.get new) (sym after) ∙ there)
              | inr gone ↦ (let no : Some bytes ≡ None = sym there ∙ ap (map_of.get new) after ∙ gone in absurd (cc))
            ];
          }) (named-stay (system_in texts) kept.point.state root held new
          (λ id at. stays (root_id (turn + 1)) id held new c
          (λ e. omega (arith, e, named_below texts.flow texts.batches root by.of_texts id at, by.of_texts.next_id, root_id-large (turn + 1)))) by.named) by,
      is,
      below,
    )

-- a root that was put is kept where nothing is changed under the ids that it names, nor under those of roots
pub kept_on : (texts : HeldTexts) (starts : ℕ) (held new : Records) (kept : KeptPoint) (root : Root)
    → ((id : ℕ) → Contains (named_ids root) id → map_of.get new id ≡ map_of.get held id) → ((id : ℕ) → 2 ^ 63 ≤ id → map_of.get new id ≡ map_of.get held id)
    → IsKeptBy texts starts held kept root → IsKeptBy texts starts new kept root
kept_on texts starts held new kept root names roots by = kept_in texts starts starts held new kept root (omega arith)
    (record {
      there = roots (root_id root.mark.turn) (root_id-large root.mark.turn) ∙ by.counted.there;
      other = λ bytes there. by.counted.other bytes (sym (roots (root_id (root.mark.turn + 1)) (root_id-large (root.mark.turn + 1))) ∙ there);
    }) (named-stay (system_in texts) kept.point.state root held new names by.named) by
