-- What is kept stays kept in a step, and where a step leads.
use Rattle.std.proofs.Common.{◌≡◌, ◌⊎◌, inl, inr, ℕ, zero, suc, ◌+◌, ◌^◌, ◌<◌, ◌≤◌, cond, List, [], ◌∷◌, length, take, drop, slice_get, Option, Some, None, refl, sym, ◌∙◌, ap, subst, arith}
use Rattle.std.specs.FinMap as map_of
use Rattle.std.specs.List.{Contains}
use Rattle.std.proofs.lemmas.Bool.{cases_lt, lt-ltb, le-ltb}
use Rattle.std.proofs.lemmas.Option.{same_Some}
use Rattle.fw_flow.specs.declared.step.Step.{Step}
use Rattle.fw_schedule.specs.declared.item.Item.{Item}
use Rattle.fw_schedule.specs.declared.item.Item.TheVariants.{One, Auto}
use Rattle.fw_schedule.specs.Schedule.{steps_in, step_count}
use Rattle.fw_keep.specs.Stored.{Records}
use Rattle.fw_model.specs.Machine.{Machine}
use Rattle.fw_root.specs.declared.root.Root.{Root}
use Rattle.fw_hold.specs.Engine.{KeepsOutside}
use Rattle.fw_hold.specs.Going.{IsLastTurn}
use Rattle.fw_hold.specs.Kept.{HeldTexts, AreSinglesOf, IsPointOf, HaveNoRoot, IsKeptBy, root_id}
use Rattle.fw_hold.specs.Moves.{SchedulePoint, KeptPoint, past_item, with_step, with_idle_step, after_single}
use Rattle.fw_hold.proofs.RootIdLaws.{root_id-large}
use Rattle.fw_named.specs.Named.{named_ids}
use Rattle.fw_hold.proofs.TurnLaws.{kept_on, named_below}

-- ---- what is kept

-- what is kept outside of some ids is kept outside of more
pub outside_more : (from to more : ℕ) (old new : Option Records) → to ≤ more → KeepsOutside from to old new → KeepsOutside from more old new
outside_more from to more old new few k = record {
  told_before = k.told_before;
  others = λ told id apart. k.others told id (elim apart as (λ side. (id < from) ⊎ (to ≤ id)) [
    | inl below ↦ inl below
    | inr past ↦ inr (omega (arith, few, past))
  ]);
}

-- under an id that a step may not have drawn is what was there
same_under : (from to id : ℕ) (held new : Records) → KeepsOutside from to (Some held) (Some new) → (id < from) ⊎ (to ≤ id) → map_of.get new id ≡ map_of.get held id
same_under from to id held new k out = k.others refl id out

-- a root that is kept is kept where nothing is changed under ids below its next one, nor under those of roots
pub root_stays : (texts : HeldTexts) (starts : ℕ) (held new : Records) (kept : KeptPoint) (root : Root) (from to : ℕ) → KeepsOutside from to (Some held) (Some new)
    → root.next_id ≤ from → to ≤ 2 ^ 63 → ((id : ℕ) → Contains (named_ids root) id → id < root.next_id)
    → IsKeptBy texts starts held kept root → IsKeptBy texts starts new kept root
root_stays texts starts held new kept root from to k below above drawn by =
    kept_on texts starts held new kept root (λ id at. same_under from to id held new k (inl (omega (arith, drawn id at, below))))
    (λ id large. same_under from to id held new k (inr (omega (arith, above, large)))) by

pub none_stays : (held new : Records) (from to : ℕ) → KeepsOutside from to (Some held) (Some new) → to ≤ 2 ^ 63 → HaveNoRoot held → HaveNoRoot new
none_stays held new from to k above none = record {
  even = same_under from to (root_id 0) held new k (inr (omega (arith, above, root_id-large 0))) ∙ none.even;
  odd = same_under from to (root_id 1) held new k (inr (omega (arith, above, root_id-large 1))) ∙ none.odd;
}

-- ---- points

-- the items that are left from the next one on
pub next_item : (items : List Item) (n : ℕ) (item : Item) → slice_get items n ≡ Some item → drop n items ≡ item ∷ drop (suc n) items
next_item [] zero item e = let no : None ≡ Some item = e in absurd (cc)
next_item [] (suc n) item e = let no : None ≡ Some item = e in absurd (cc)
next_item (x ∷ items) zero item e = ap (λ y. y ∷ items) (same_Some x item e)
next_item (x ∷ items) (suc n) item e = next_item items n item e

drop_suc : (items : List Item) (n : ℕ) (item : Item) (rest : List Item) → drop n items ≡ item ∷ rest → drop (suc n) items ≡ rest
drop_suc [] zero item rest e = let no : [] ≡ item ∷ rest = e in absurd (cc)
drop_suc [] (suc n) item rest e = let no : [] ≡ item ∷ rest = e in absurd (cc)
drop_suc (x ∷ items) zero item rest e = cc
drop_suc (x ∷ items) (suc n) item rest e = drop_suc items n item rest e

-- what is left behind the next item
pub drop_next : (items : List Item) (n : ℕ) (item : Item) (rest : List Item) → drop n items ≡ item ∷ rest → drop (n + 1) items ≡ rest
drop_next items n item rest e = let one : n + 1 ≡ suc n = omega arith in ap (λ k. drop k items) one ∙ drop_suc items n item rest e

pub none_done : (items : List Item) → AreSinglesOf items 0
none_done [] = refl
none_done (item ∷ items) = inl refl

-- ---- points that moves lead to

first_of_two : (x y : Item) (xs ys : List Item) → x ∷ xs ≡ y ∷ ys → x ≡ y
first_of_two x y xs ys e = cc

-- so many steps stand before the next item, where this one is the next
pub before_next : (items : List Item) (n : ℕ) (item : Item) (rest : List Item) → drop n items ≡ item ∷ rest
    → (step_count (take (suc n) items) ≡ step_count (take n items) + steps_in item) × (suc n ≤ length items)
before_next [] zero item rest e = let no : [] ≡ item ∷ rest = e in absurd (cc)
before_next (x ∷ items) zero item rest e = (omega (arith, ap steps_in (first_of_two x item items rest e)), omega arith)
before_next [] (suc n) item rest e = let no : [] ≡ item ∷ rest = e in absurd (cc)
before_next (x ∷ items) (suc n) item rest e =
    let more = before_next items n item rest e in
    (omega (arith, more.0), omega (arith, more.1))

-- behind the item that comes next there is a point, whatever is counted of it
pub past_is_point : (items : List Item) (point : SchedulePoint) (item : Item) (rest : List Item) (steps idle : ℕ) → drop point.ended items ≡ item ∷ rest
    → steps ≤ step_count (take point.ended items) + steps_in item → idle ≤ steps
    → IsPointOf items (record { state = point.state; ended = point.ended + 1; singles = 0; steps = steps; idle = idle })
past_is_point items point item rest steps idle e few less =
    let next = before_next items point.ended item rest e in
    let one : point.ended + 1 ≡ suc point.ended = omega arith in
    let counted : step_count (take (point.ended + 1) items) ≡ step_count (take point.ended items) + steps_in item =
    ap (λ n. step_count (take n items)) one ∙ next.0 in
    record {
      ended = omega (arith, next.1);
      singles = none_done (drop (point.ended + 1) items);
      steps = omega (arith, counted, few);
      idle = less;
    }

-- no more single steps are done of the next item than it has
singles_in : (items : List Item) (point : SchedulePoint) (item : Item) (rest : List Item) → drop point.ended items ≡ item ∷ rest → IsPointOf items point
    → (point.singles ≡ 0) ⊎ (point.singles < steps_in item)
singles_in items point item rest e p = subst (λ xs. AreSinglesOf xs point.singles) e p.singles

-- behind a single step of it, where that was one of its steps
single_is_point : (items : List Item) (point : SchedulePoint) (item : Item) (rest : List Item) (next : Machine) → drop point.ended items ≡ item ∷ rest → IsPointOf items point
    → point.singles < steps_in item → IsPointOf items (after_single item point next)
single_is_point items point item rest next e p lt =
    elim (cases_lt (point.singles + 1) (steps_in item)) [
      | inl more ↦ subst (λ b. IsPointOf items (cond b (with_step point next) (past_item (with_step point next)))) (sym (lt-ltb _ _ more)) (record {
        ended = p.ended;
        singles = subst (λ xs. AreSinglesOf xs (point.singles + 1)) (sym e) (inr more);
        steps = omega (arith, p.steps);
        idle = omega (arith, p.idle);
      })
      | inr last ↦ subst (λ b. IsPointOf items (cond b (with_step point next) (past_item (with_step point next)))) (sym (le-ltb _ _ last))
          (past_is_point items (with_step point next) item rest (point.steps + 1) point.idle e (omega (arith, p.steps, lt)) (omega (arith, p.idle)))
    ]

-- of one step none is done before it is
pub one_is_point : (items : List Item) (point : SchedulePoint) (step : Step) (rest : List Item) (next : Machine) → drop point.ended items ≡ One step ∷ rest → IsPointOf items point
    → IsPointOf items (after_single (One step) point next)
one_is_point items point step rest next e p = single_is_point items point (One step) rest next e p (elim (singles_in items point (One step) rest e p) [
  | inl none ↦ omega (arith, none)
  | inr some ↦ some
])

pub auto_is_point : (items : List Item) (point : SchedulePoint) (most : ℕ) (rest : List Item) (next : Machine) → drop point.ended items ≡ Auto most ∷ rest → IsPointOf items point
    → point.singles < most → IsPointOf items (after_single (Auto most) point next)
auto_is_point items point most rest next e p lt = single_is_point items point (Auto most) rest next e p lt

pub passed_is_point : (items : List Item) (point : SchedulePoint) (step : Step) (rest : List Item) → drop point.ended items ≡ One step ∷ rest → IsPointOf items point
    → IsPointOf items (past_item (with_idle_step point))
passed_is_point items point step rest e p =
    let none : point.singles ≤ 0 = elim (singles_in items point (One step) rest e p) [
      | inl h ↦ omega (arith, h)
      | inr h ↦ omega (arith, h)
    ] in
    past_is_point items (with_idle_step point) (One step) rest (point.steps + 1) (point.idle + 1) e (omega (arith, p.steps, none)) (omega (arith, p.idle))

pub ended_is_point : (items : List Item) (point : SchedulePoint) (item : Item) (rest : List Item) → drop point.ended items ≡ item ∷ rest → IsPointOf items point
    → IsPointOf items (past_item point)
ended_is_point items point item rest e p =
    let few : point.singles ≤ steps_in item = elim (singles_in items point item rest e p) [
      | inl h ↦ omega (arith, h)
      | inr h ↦ omega (arith, h)
    ] in
    past_is_point items point item rest point.steps point.idle e (omega (arith, p.steps, few)) p.idle

-- ---- a step

-- what was kept is kept behind a step, which may have drawn ids
pub last_stays : (texts : HeldTexts) (starts : ℕ) (held new : Records) (kept : KeptPoint) (turn next after : ℕ) → KeepsOutside next (next + 256) (Some held) (Some new) → next + 256 ≤ 2 ^ 63
    → next ≤ after → IsLastTurn texts starts held kept turn next → IsLastTurn texts starts new kept turn after
last_stays texts starts held new kept turn next after k room more (inl none) =
    inl ((none_stays held new next (next + 256) k room none.0.0, none.0.1), none.1)
last_stays texts starts held new kept turn next after k room more (inr (root, by, is, below)) =
    inr (root, root_stays texts starts held new kept root next (next + 256) k below room (named_below texts.flow texts.batches root by.of_texts) by, is, omega (arith, below, more))
