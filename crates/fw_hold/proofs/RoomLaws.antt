-- How many moves are left, and that there is room for them.
use Rattle.std.proofs.Common.{◌≡◌, ◌⊎◌, inl, inr, ℕ, zero, suc, ◌+◌, ◌-◌, ◌^◌, ◌<◌, ◌≤◌, Bool, true, false, cond, nat_lt, List, [], ◌∷◌, length, drop, slice_get, Some, Result, Ok, Err, refl, sym, ◌∙◌, ap, subst, arith}
use Rattle.std.specs.List.{AllByRecursion}
use Rattle.std.specs.Prelude.{OnOk, slice_index}
use Rattle.std.proofs.lemmas.Bool.{cases_lt, lt-ltb, le-ltb}
use Rattle.fw_flow.specs.declared.step.Step.{Step}
use Rattle.fw_schedule.specs.declared.item.Item.{Item}
use Rattle.fw_schedule.specs.declared.item.Item.TheVariants.{One}
use Rattle.fw_schedule.specs.Schedule.{steps_in, step_count, step_limit}
use Rattle.fw_hold.specs.declared.place.SchedulePlace.{SchedulePlace}
use Rattle.fw_hold.specs.Going.{moves_left, HasRoomIn, HasMoved}
use Rattle.fw_lemmas.proofs.Each.{each-one, each-weaker}
use Rattle.fw_keep.specs.Catalogue.{AreAscending}
use Rattle.fw_root.specs.declared.root.Root.{Root}
use Rattle.fw_root.specs.Sound.{IsMark}
use Rattle.fw_hold.specs.Kept.{AreSinglesOf, ended_before, place_behind_root}
use Rattle.fw_hold.specs.Place.{place_after_single, place_at_first, place_past_item, place_with_idle_step, place_with_step, place_with_turn}
use Rattle.fw_hold.proofs.PlaceLaws.{ended_few, singles_are}
use Rattle.fw_hold.proofs.GoingLaws.{before_next, drop_next, next_item, none_done}

-- what is left where this item is the next one
left_at : (items : List Item) (place : SchedulePlace) (item : Item) (rest : List Item) → drop place.ended items ≡ item ∷ rest
    → moves_left items place ≡ (steps_in item + step_count rest) + (length rest + 1) - place.singles
left_at items place item rest e = ap (λ xs. step_count xs + length xs - place.singles) e ∙ omega arith

-- no more single steps are done of the next item than it has
few_singles : (items : List Item) (place : SchedulePlace) (next : ℕ) (item : Item) (rest : List Item) → drop place.ended items ≡ item ∷ rest → HasRoomIn items place next
    → (place.singles ≡ 0) ⊎ (place.singles < steps_in item)
few_singles items place next item rest e room = subst (λ xs. AreSinglesOf xs place.singles) e room.singles

-- the next item has ended
pub moved_past : (items : List Item) (old new : SchedulePlace) (before after : ℕ) (item : Item) (rest : List Item) → drop old.ended items ≡ item ∷ rest → HasRoomIn items old before
    → new.ended ≡ old.ended + 1 → new.singles ≡ 0 → new.turn ≤ old.turn + 1 → new.steps ≤ old.steps + 1 → new.idle ≤ old.idle + 1 → after ≤ before + 256 → HasMoved items old new after
moved_past items old new before after item rest e room ended singles turn steps idle drawn =
    let few : old.singles ≤ steps_in item = elim (few_singles items old before item rest e room) [
      | inl h ↦ omega (arith, h)
      | inr h ↦ omega (arith, h)
    ] in
    let behind : drop new.ended items ≡ rest = ap (λ n. drop n items) ended ∙ drop_next items old.ended item rest e in
    let here = left_at items old item rest e in
    let there : moves_left items new ≡ step_count rest + length rest =
    ap (λ xs. step_count xs + length xs - new.singles) behind ∙ omega (arith, singles) in
    let less : moves_left items new < moves_left items old = omega (arith, here, there, few) in
    record {
      room = record {
        many = room.many;
        ended = omega (arith, ended, (before_next items old.ended item rest e).1);
        singles = subst (λ n. AreSinglesOf (drop new.ended items) n) (sym singles) (none_done (drop new.ended items));
        turn = omega (arith, room.turn, turn, less);
        steps = omega (arith, room.steps, steps, less);
        idle = omega (arith, room.idle, idle, less);
        ids = omega (arith, room.ids, drawn, less);
      };
      fewer = less;
    }

-- a single step of it is done, and it has more
pub moved_within : (items : List Item) (old new : SchedulePlace) (before after : ℕ) (item : Item) (rest : List Item) → drop old.ended items ≡ item ∷ rest → HasRoomIn items old before
    → new.ended ≡ old.ended → new.singles ≡ old.singles + 1 → old.singles + 1 < steps_in item → new.turn ≤ old.turn + 1 → new.steps ≤ old.steps + 1 → new.idle ≤ old.idle + 1
    → after ≤ before + 256 → HasMoved items old new after
moved_within items old new before after item rest e room ended singles more turn steps idle drawn =
    let same : drop new.ended items ≡ item ∷ rest = ap (λ n. drop n items) ended ∙ e in
    let here = left_at items old item rest e in
    let there = left_at items new item rest same in
    let less : moves_left items new < moves_left items old = omega (arith, here, there, singles, more) in
    record {
      room = record {
        many = room.many;
        ended = omega (arith, ended, room.ended);
        singles = subst (λ xs. AreSinglesOf xs new.singles) (sym same) (inr (omega (arith, singles, more)));
        turn = omega (arith, room.turn, turn, less);
        steps = omega (arith, room.steps, steps, less);
        idle = omega (arith, room.idle, idle, less);
        ids = omega (arith, room.ids, drawn, less);
      };
      fewer = less;
    }

-- ---- where the next item is known

-- some moves are left
pub some_left : (items : List Item) (place : SchedulePlace) (next : ℕ) (item : Item) → slice_get items place.ended ≡ Some item → HasRoomIn items place next → 1 ≤ moves_left items place
some_left items place next item at room =
    let rest = drop (suc place.ended) items in
    let e = next_item items place.ended item at in
    let few : place.singles ≤ steps_in item = elim (few_singles items place next item rest e room) [
      | inl h ↦ omega (arith, h)
      | inr h ↦ omega (arith, h)
    ] in
    omega (arith, left_at items place item rest e, few)

-- the item can end
pub can_end : (items : List Item) (place : SchedulePlace) (next : ℕ) (item : Item) → slice_get items place.ended ≡ Some item → HasRoomIn items place next → place.ended + 1 < 2 ^ 64
can_end items place next item at room =
    let rest = drop (suc place.ended) items in
    let e = next_item items place.ended item at in
    omega (arith, (before_next items place.ended item rest e).1, room.many)

-- the item has ended, where no step was counted
pub moved_early : (items : List Item) (old : SchedulePlace) (before after : ℕ) (item : Item) → slice_get items old.ended ≡ Some item → HasRoomIn items old before → after ≤ before + 256
    → HasMoved items old (place_past_item old) after
moved_early items old before after item at room drawn =
    moved_past items old (place_past_item old) before after item (drop (suc old.ended) items) (next_item items old.ended item at) room refl refl (omega arith) (omega arith) (omega arith) drawn

-- or one that did nothing
pub moved_idle : (items : List Item) (old : SchedulePlace) (before after : ℕ) (item : Item) → slice_get items old.ended ≡ Some item → HasRoomIn items old before → after ≤ before + 256
    → HasMoved items old (place_past_item (place_with_idle_step old)) after
moved_idle items old before after item at room drawn =
    moved_past items old (place_past_item (place_with_idle_step old)) before after item (drop (suc old.ended) items) (next_item items old.ended item at) room refl refl (omega arith) (omega arith)
    (omega arith) drawn

-- a single step is done, and its turn
pub moved_single : (items : List Item) (old : SchedulePlace) (before after : ℕ) (item : Item) → slice_get items old.ended ≡ Some item → HasRoomIn items old before → old.singles < steps_in item
    → after ≤ before + 256 → HasMoved items old (place_with_turn (place_after_single (steps_in item) old)) after
moved_single items old before after item at room lt drawn =
    let rest = drop (suc old.ended) items in
    let e = next_item items old.ended item at in
    elim (cases_lt (old.singles + 1) (steps_in item)) [
      | inl more ↦ subst (λ b. HasMoved items old (place_with_turn (cond b (place_with_step old) (place_past_item (place_with_step old)))) after) (sym (lt-ltb _ _ more))
          (moved_within items old (place_with_turn (place_with_step old)) before after item rest e room refl refl more (omega arith) (omega arith) (omega arith) drawn)
      | inr last ↦ subst (λ b. HasMoved items old (place_with_turn (cond b (place_with_step old) (place_past_item (place_with_step old)))) after) (sym (le-ltb _ _ last))
          (moved_past items old (place_with_turn (place_past_item (place_with_step old))) before after item rest e room refl refl (omega arith) (omega arith) (omega arith) drawn)
    ]

-- of one step none is done before it is
pub none_of_one : (items : List Item) (old : SchedulePlace) (next : ℕ) (step : Step) → slice_get items old.ended ≡ Some (One step) → HasRoomIn items old next → old.singles < 1
none_of_one items old next step at room = elim (few_singles items old next (One step) (drop (suc old.ended) items) (next_item items old.ended (One step) at) room) [
  | inl none ↦ omega (arith, none)
  | inr some ↦ some
]

-- where all went well the run has moved
pub moved_on : {T F : Type 0} (result : Result T F) (items : List Item) (old counted new : SchedulePlace) (next later : ℕ) → HasMoved items old (place_with_turn counted) next
    → OnOk result (new ≡ place_with_turn counted) → OnOk result (later ≡ next) → OnOk result (HasMoved items old new later)
moved_on (Ok value) items old counted new next later moved is same =
    subst (λ n. HasMoved items old new n) (sym same) (subst (λ s. HasMoved items old s next) (sym is) moved)
moved_on (Err fault) items old counted new next later moved is same = tt

-- a single step makes no turn
pub turn_counted : (most : ℕ) (s : SchedulePlace) → (place_after_single most s).turn ≡ s.turn
turn_counted most s = by (nat_lt (s.singles + 1) most)
  where
    by : (b : Bool) → (cond b (place_with_step s) (place_past_item (place_with_step s))).turn ≡ s.turn
    by true = refl
    by false = refl

-- ---- where a start begins

few_from : (k limit : ℕ) (numbers : List ℕ) → AreAscending numbers → AllByRecursion (λ n. k ≤ n) numbers → ((i : ℕ) → slice_index numbers i < limit) → k ≤ limit → k + length numbers ≤ limit
few_from k limit [] asc all small le = omega (arith, le)
few_from k limit (n ∷ ns) asc all small le =
    let here : n < limit = small 0 in
    let more = few_from (n + 1) limit ns asc.1 (each-weaker (λ m. n < m) (λ m. n + 1 ≤ m) ns (λ m h. omega (arith, h)) asc.0) (λ i. small (suc i)) (omega (arith, here)) in
    omega (arith, more, all.0)

-- numbers that ascend below a limit are no more than that
pub few_numbers : (limit : ℕ) (numbers : List ℕ) → AreAscending numbers → ((i : ℕ) → slice_index numbers i < limit) → length numbers ≤ limit
few_numbers limit numbers asc small = omega (arith, few_from 0 limit numbers asc (each-one (λ n. 0 ≤ n) numbers (λ n. omega arith)) small (omega arith))

drop_less : (items : List Item) (n : ℕ) → (step_count (drop n items) ≤ step_count items) × (length (drop n items) ≤ length items)
drop_less [] zero = (omega arith, omega arith)
drop_less [] (suc n) = (omega arith, omega arith)
drop_less (item ∷ items) zero = (omega arith, omega arith)
drop_less (item ∷ items) (suc n) = let more = drop_less items n in (omega (arith, more.0), omega (arith, more.1))

-- behind a root there is room for what may come
pub room_found : (items : List Item) (numbers : List ℕ) (root : Root) (place : SchedulePlace) (next : ℕ) → step_count items ≤ step_limit → AreAscending numbers → length numbers ≡ length items
    → ((i : ℕ) → slice_index numbers i < 2 ^ 32) → IsMark root.mark → next < 2 ^ 62 → place ≡ place_with_turn (place_behind_root items numbers root) → HasRoomIn items place next
room_found items numbers root place next few asc one small mark ids is =
    let many = few_numbers (2 ^ 32) numbers asc small in
    let ended = ended_few numbers root.mark.line in
    let less = drop_less items (ended_before numbers root.mark.line) in
    subst (λ s. HasRoomIn items s next) (sym is) (record {
      many = omega (arith, many, one);
      ended = omega (arith, ended, one);
      singles = singles_are (drop (ended_before numbers root.mark.line) items) root.mark.singles;
      turn = omega (arith, less, many, one, few, mark.turn);
      steps = omega (arith, less, many, one, few, mark.steps);
      idle = omega (arith, less, many, one, few, mark.idle);
      ids = omega (arith, less, many, one, few, ids);
    })

-- and where nothing has happened
pub room_first : (items : List Item) (numbers : List ℕ) (next : ℕ) → step_count items ≤ step_limit → AreAscending numbers → length numbers ≡ length items
    → ((i : ℕ) → slice_index numbers i < 2 ^ 32) → next ≡ 0 → HasRoomIn items place_at_first next
room_first items numbers next few asc one small none =
    let many = few_numbers (2 ^ 32) numbers asc small in
    record {
      many = omega (arith, many, one);
      ended = omega arith;
      singles = none_done items;
      turn = omega (arith, many, one, few);
      steps = omega (arith, many, one, few);
      idle = omega (arith, many, one, few);
      ids = omega (arith, many, one, few, none);
    }
