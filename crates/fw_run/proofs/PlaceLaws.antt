-- An item by its place among others, and how many steps there are up to it.
use Rattle.std.proofs.Common.{◌≡◌, ℕ, zero, suc, refl, get_or, ◌+◌, ◌<◌, ◌≤◌, List, [], ◌∷◌, ◌++◌, length, take, drop, sym, ◌∙◌, ap, arith}
use Rattle.std.proofs.lemmas.List.{take-append-drop, drop_more, take_more}
use Rattle.fw_schedule.specs.declared.item.Item.{Item}
use Rattle.fw_schedule.specs.Schedule.{steps_in, step_count, step_limit}
use Rattle.fw_run.specs.declared.tally.StepCounts.{StepCounts}
use Rattle.fw_run.specs.Performing.{HasRoom}
use Rattle.fw_run.specs.Tallies.{AreOfSteps}

-- ---- parts

-- an item stands between those before it and those after it
pub parts_at : (items : List Item) (i : ℕ) (item : Item) → i < length items → item ≡ get_or items i item → items ≡ take i items ++ item ∷ drop (i + 1) items
parts_at items i item below e =
    sym (ap (λ (xs : List Item). take i items ++ xs) (sym (drop_more items i item below ∙ ap (λ (s : Item). s ∷ drop (i + 1) items) (sym e))) ∙ take-append-drop i items)

pub one_more-item : (items : List Item) (i : ℕ) (item : Item) → i < length items → item ≡ get_or items i item → take (i + 1) items ≡ take i items ++ item ∷ []
one_more-item items i item below e = take_more items i item below ∙ ap (λ (s : Item). take i items ++ s ∷ []) (sym e)

-- first items of a list are those of its first ones
pub take_take : (n m : ℕ) (xs : List Item) → n ≤ m → take n (take m xs) ≡ take n xs
take_take zero m xs h = refl
take_take (suc n) zero xs h = absurd (omega (arith, h))
take_take (suc n) (suc m) [] h = refl
take_take (suc n) (suc m) (x ∷ xs) h = ap (λ (ys : List Item). x ∷ ys) (take_take n m xs (omega (arith, h)))

-- ---- how many steps were taken

count-more : (xs : List Item) (i : ℕ) → i < length xs → (item : Item) → item ≡ get_or xs i item → step_count (take (i + 1) xs) ≡ step_count (take i xs) + steps_in item
count-more xs i below item e = ap step_count (one_more-item xs i item below e) ∙ behind (take i xs)
  where
    behind : (ys : List Item) → step_count (ys ++ item ∷ []) ≡ step_count ys + steps_in item
    behind [] = omega arith
    behind (y ∷ ys) = omega (arith, behind ys)

count-first : (xs : List Item) (i : ℕ) → step_count (take i xs) ≤ step_count xs
count-first xs zero = omega arith
count-first [] (suc i) = omega arith
count-first (x ∷ xs) (suc i) = omega (arith, count-first xs i)

-- so there is room for the steps of the next one, behind so many
pub room_at : (first : ℕ) (xs : List Item) (i : ℕ) (tally : StepCounts) (item : Item) → i < length xs → item ≡ get_or xs i item → AreOfSteps tally
    → tally.steps ≤ first + step_count (take i xs) → first + step_count xs ≤ step_limit → HasRoom tally item
room_at first xs i tally item below e are h fits = record { of_steps = are; few = omega (arith, count-more xs i below item e, count-first xs (i + 1), h, fits) }

-- and no more steps are counted than the items ask for
pub counts-next : (first : ℕ) (xs : List Item) (i : ℕ) (tally counts : StepCounts) (item : Item) → i < length xs → item ≡ get_or xs i item → tally.steps ≤ first + step_count (take i xs)
    → counts.steps ≤ tally.steps + steps_in item → counts.steps ≤ first + step_count (take (i + 1) xs)
counts-next first xs i tally counts item below e h k = omega (arith, count-more xs i below item e, h, k)
