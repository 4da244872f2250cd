-- What a heap of messages says.
use Rattle.std.proofs.Common.{◌≡◌, ℕ, ◌<◌, get_or, arith, suc, Bool, true, false, List, [], ◌∷◌, length, filter, map, Some, refl, sym, ap, ◌∙◌}
use Rattle.std.specs.Prelude.{slice_get}
use Rattle.std.specs.List.{AllByRecursion}
use Rattle.std.specs.List.Sorted.{IsPermutation}
use Rattle.std.specs.declared.cmp.Ordering.{Ordering}
use Rattle.std.specs.declared.cmp.Ordering.TheVariants.{Less, Equal, Greater}
use Rattle.std.specs.declared.cmp.Reverse.{Reverse}
use Rattle.std.specs.Ordering.{ordering_reverse, is_lt, is_le}
use Rattle.std.proofs.lemmas.Bool.{cond_both, cond-true, cond-false}
use Rattle.std.proofs.lemmas.List.Sorted.{IsPermutation-map}
use Rattle.fw_flow.specs.declared.event.Message.{Message}
use Rattle.fw_flow.specs.Message.{message_cmp}
use Rattle.fw_flow.proofs.MessageLaws.{message_total}
use Rattle.fw_model.specs.SortedMessages.{with_message, sorted_messages}
use Rattle.fw_model.proofs.SentLaws.{copy}
use Rattle.fw_model.proofs.SortedLaws.{same_sorted_messages, sorted_messages-filter, each-sorted_messages}
use Rattle.fw_edge.specs.Piles.{heaped_messages}
use Rattle.fw_edge.proofs.LogLaws.{permuted-weigh}
use Rattle.fw_edge.proofs.PileLaws.{length-sorted_messages}

-- the items of a heap
abbrev pub Items : Type 0
Items = List (Reverse Message)

-- in another order they are the same in order
pub sorted-permuted : (xs ys : List Message) → IsPermutation xs ys → sorted_messages ys ≡ sorted_messages xs
sorted-permuted xs ys p = same_sorted_messages ys xs (λ q. permuted-weigh (copy q) xs ys p)

pub heaped-permuted : (xs ys : Items) → IsPermutation xs ys → heaped_messages ys ≡ heaped_messages xs
heaped-permuted xs ys p =
    sorted-permuted (map (λ (item : Reverse Message). item.0) xs) (map (λ (item : Reverse Message). item.0) ys) (IsPermutation-map (λ (item : Reverse Message). item.0) xs ys p)

not_less : (o p : Ordering) → o ≡ ordering_reverse p → is_lt p ≡ false → is_le o ≡ true
not_less o Less e h = absurd (cc)
not_less o Equal e h = ap is_le e
not_less o Greater e h = ap is_le e

-- none of these is lesser
abbrev pub IsLeast : Reverse Message → Items → Type 0
IsLeast m items = AllByRecursion (λ (x : Reverse Message). is_lt (message_cmp x.0 m.0) ≡ false) items

le_each : (m : Reverse Message) (xs : Items) → IsLeast m xs → AllByRecursion (λ x. is_le (message_cmp m.0 x) ≡ true) (map (λ (item : Reverse Message). item.0) xs)
le_each m [] a = tt
le_each m (x ∷ xs) a = (not_less (message_cmp m.0 x.0) (message_cmp x.0 m.0) (message_total.antisymm m.0 x.0) a.0, le_each m xs a.1)

put-first : (m : Message) (ys : List Message) → AllByRecursion (λ y. is_le (message_cmp m y) ≡ true) ys → with_message m ys ≡ m ∷ ys
put-first m [] a = refl
put-first m (y ∷ ys) a = cond-true (is_le (message_cmp m y)) (m ∷ y ∷ ys) (y ∷ with_message m ys) a.0

-- the least comes first
pub heaped-least : (m : Reverse Message) (xs : Items) → IsLeast m xs → heaped_messages (m ∷ xs) ≡ m.0 ∷ heaped_messages xs
heaped-least m xs a =
    put-first m.0 (heaped_messages xs) (each-sorted_messages (λ x. is_le (message_cmp m.0 x) ≡ true) (map (λ (item : Reverse Message). item.0) xs) (le_each m xs a))

-- it is the first of all
pub heaped-first : (m : Reverse Message) (xs : Items) (n : ℕ) → n ≡ length xs → 0 < n → m ≡ get_or xs 0 m → IsLeast m xs → slice_get (heaped_messages xs) 0 ≡ Some m.0
heaped-first m [] n l p e a = absurd (omega arith)
heaped-first m (x ∷ xs) n l p e a =
    ap (λ (y : Reverse Message). slice_get (heaped_messages (y ∷ xs)) 0) (sym e) ∙ ap (λ ys. slice_get ys 0) (heaped-least m xs a.1)

-- once it is taken the others are left
pub heaped-taken : (m : Reverse Message) (xs ys : Items) → IsPermutation xs (m ∷ ys) → IsLeast m ys → heaped_messages xs ≡ m.0 ∷ heaped_messages ys
heaped-taken m xs ys p a = sym (heaped-permuted xs (m ∷ ys) p) ∙ heaped-least m ys a

pub length-heaped : (xs : Items) → length (heaped_messages xs) ≡ length xs
length-heaped xs = length-sorted_messages (map (λ (item : Reverse Message). item.0) xs) ∙ by xs
  where
    by : (xs : Items) → length (map (λ (item : Reverse Message). item.0) xs) ≡ length xs
    by [] = refl
    by (x ∷ xs) = ap (λ n. suc n) (by xs)

map-kept : (p : Message → Bool) (xs : Items) → map (λ (item : Reverse Message). item.0) (filter (λ (item : Reverse Message). p item.0) xs) ≡ filter p (map (λ (item : Reverse Message). item.0) xs)
map-kept p [] = refl
map-kept p (x ∷ xs) =
    cond_both (p x.0) (x ∷ filter (λ (item : Reverse Message). p item.0) xs) (filter (λ (item : Reverse Message). p item.0) xs)
    (λ (ys : Items). map (λ (item : Reverse Message). item.0) ys ≡ filter p (x.0 ∷ map (λ (item : Reverse Message). item.0) xs))
    (λ e. ap (λ ys. x.0 ∷ ys) (map-kept p xs) ∙ sym (cond-true (p x.0) (x.0 ∷ filter p (map (λ (item : Reverse Message). item.0) xs)) (filter p (map (λ (item : Reverse Message). item.0) xs)) e))
    (λ e. map-kept p xs ∙ sym (cond-false (p x.0) (x.0 ∷ filter p (map (λ (item : Reverse Message). item.0) xs)) (filter p (map (λ (item : Reverse Message). item.0) xs)) e))

-- of what passes a test are the messages that pass it
pub heaped-kept : (p : Message → Bool) (xs kept ys : Items) → kept ≡ filter (λ (item : Reverse Message). p item.0) xs → IsPermutation kept ys → heaped_messages ys ≡ filter p (heaped_messages xs)
heaped-kept p xs kept ys is h =
    heaped-permuted kept ys h ∙ ap heaped_messages is ∙ ap sorted_messages (map-kept p xs) ∙ sorted_messages-filter p (map (λ (item : Reverse Message). item.0) xs)
