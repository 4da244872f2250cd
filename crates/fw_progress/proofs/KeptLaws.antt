-- Stamps in one ascending row: where one more goes.
use Rattle.std.proofs.Common.{◌≡◌, ℕ, zero, suc, ◌+◌, ◌-◌, ◌<◌, ◌≤◌, Bool, true, false, ◌&&◌, ◌||◌, List, [], ◌∷◌, ◌++◌, length, take, drop, Option, Some, None, refl, sym, ap, subst, ◌∙◌, get_or, insert, arith}
use Rattle.std.specs.Prelude.{Result, Ok, Err, IfSome, IfNone, filter, slice_get, option_and_then}
use Rattle.std.specs.Result.{result_err}
use Rattle.std.specs.BTreeSet.{insert_key}
use Rattle.std.specs.List.{AllByRecursion}
use Rattle.std.specs.List.Sorted.{IsStrictlySortedBy, IsPartitionPoint, IsNonDecreasingBy, IsSearchInRange, IsBinarySearchResult}
use Rattle.std.specs.declared.cmp.Ordering.{Ordering}
use Rattle.std.specs.declared.cmp.Ordering.TheVariants.{Less, Equal, Greater}
use Rattle.std.specs.Ordering.{is_eq, is_lt, match_ordering, ordering_index, ordering_reverse}
use Rattle.std.proofs.lemmas.Bool.{cond-true, cond-false}
use Rattle.std.proofs.lemmas.List.{take-append-drop}
use Rattle.std.proofs.lemmas.List.Kept.{IsStrictlySortedBy-filter}
use Rattle.std.proofs.lemmas.List.Sorted.{searchable_from_sorted}
use Rattle.std.proofs.lemmas.Map.Keys.{sorted_head, sorted_tail, Less-from_sorted}
use Rattle.std.proofs.Math.Seq.{drop-cons}
use Rattle.fw_lemmas.proofs.Each.{each-weaker, each-at}
use Rattle.fw_time.specs.Stamp.{Stamp, lesser, stamp_cmp}
use Rattle.fw_frontier.specs.Front.{Front, inside}
use Rattle.fw_model.proofs.CmpLaws.{stamp_total, stamp_cmp-same}
use Rattle.fw_progress.specs.Traces.{has_greater_inside, is_lesser_than_top, raised, top_from}
use Rattle.fw_progress.proofs.TraceLaws.{insert-each}

other-way : (s t : Stamp) (o : Ordering) → stamp_cmp s t ≡ o → stamp_cmp t s ≡ ordering_reverse o
other-way s t o e = stamp_total.antisymm t s ∙ ap ordering_reverse e

-- ---- one more among ascending stamps

insert-at : (ls us : List Stamp) (at : Stamp) → AllByRecursion (λ s. stamp_cmp s at ≡ Less) ls → AllByRecursion (λ s. stamp_cmp s at ≡ Greater) us
    → ls ++ at ∷ us ≡ insert_key stamp_cmp (ls ++ us) at
insert-at [] [] at a b = refl
insert-at [] (u ∷ us) at a b = sym (ap (λ o. match_ordering o (at ∷ u ∷ us) (u ∷ us) (u ∷ insert_key stamp_cmp us at)) (other-way u at Greater b.0))
insert-at (l ∷ ls) us at a b =
    ap (λ xs. l ∷ xs) (insert-at ls us at a.1 b)
    ∙ sym (ap (λ o. match_ordering o (at ∷ l ∷ ls ++ us) (l ∷ ls ++ us) (l ∷ insert_key stamp_cmp (ls ++ us) at)) (other-way l at Less a.0))

-- it ascends with them
pub sorted-insert : (ss : List Stamp) (at : Stamp) → IsStrictlySortedBy stamp_cmp ss → IsStrictlySortedBy stamp_cmp (insert_key stamp_cmp ss at)
unfolding IsStrictlySortedBy
sorted-insert [] at a = (tt, tt)
sorted-insert (s ∷ ss) at a = by (stamp_cmp at s) refl (sorted-insert ss at a.1)
  where
    by : (o : Ordering) → stamp_cmp at s ≡ o → IsStrictlySortedBy stamp_cmp (insert_key stamp_cmp ss at)
        → IsStrictlySortedBy stamp_cmp (match_ordering o (at ∷ s ∷ ss) (s ∷ ss) (s ∷ insert_key stamp_cmp ss at))
    by Less e rest = ((e, each-weaker (λ t. stamp_cmp s t ≡ Less) (λ t. stamp_cmp at t ≡ Less) ss (λ t l. stamp_total.trans at s t e l) a.0), a)
    by Equal e rest = a
    by Greater e rest = (insert-each (λ t. stamp_cmp s t ≡ Less) ss at (other-way at s Greater e) a.0, rest)

-- what is there is not put in again
pub insert-there : (ss : List Stamp) (i : ℕ) (at : Stamp) → IsStrictlySortedBy stamp_cmp ss → i < length ss → stamp_cmp (get_or ss i at) at ≡ Equal → insert_key stamp_cmp ss at ≡ ss
insert-there [] i at a l e = absurd (omega arith)
insert-there (s ∷ ss) zero at a l e = ap (λ o. match_ordering o (at ∷ s ∷ ss) (s ∷ ss) (s ∷ insert_key stamp_cmp ss at)) (other-way s at Equal e)
insert-there (s ∷ ss) (suc i) at a l e =
    let same : get_or ss i at ≡ at = stamp_cmp-same (get_or ss i at) at e in
    let less : stamp_cmp s (get_or ss i at) ≡ Less = each-at (λ t. stamp_cmp s t ≡ Less) ss i at (omega arith) (sorted_head stamp_cmp s ss a) in
    let before : stamp_cmp s at ≡ Less = subst (λ t. stamp_cmp s t ≡ Less) same less in
    ap (λ o. match_ordering o (at ∷ s ∷ ss) (s ∷ ss) (s ∷ insert_key stamp_cmp ss at)) (other-way s at Less before)
    ∙ ap (λ xs. s ∷ xs) (insert-there ss i at (sorted_tail stamp_cmp s ss a) (omega arith) e)

-- ---- the last one

last-at : (ss : List Stamp) (n : ℕ) (l d : Stamp) → slice_get ss n ≡ Some l → get_or ss n d ≡ l
last-at [] n l d e = absurd (cc)
last-at (s ∷ ss) zero l d e = cc
last-at (s ∷ ss) (suc n) l d e = last-at ss n l d e

last-long : (ss : List Stamp) (n : ℕ) (l : Stamp) → slice_get ss n ≡ Some l → n < length ss
last-long [] n l e = absurd (cc)
last-long (s ∷ ss) zero l e = omega arith
last-long (s ∷ ss) (suc n) l e = let h = last-long ss n l e in omega arith

all-before : (ss : List Stamp) (n : ℕ) (at : Stamp) → IsStrictlySortedBy stamp_cmp ss → n + 1 ≡ length ss → stamp_cmp (get_or ss n at) at ≡ Less
    → AllByRecursion (λ s. stamp_cmp s at ≡ Less) ss
all-before [] n at a l e = tt
all-before (s ∷ []) zero at a l e = (e, tt)
all-before (s ∷ []) (suc n) at a l e = absurd (omega arith)
all-before (s ∷ t ∷ ss) zero at a l e = absurd (omega arith)
all-before (s ∷ t ∷ ss) (suc n) at a l e =
    let rest = all-before (t ∷ ss) n at (sorted_tail stamp_cmp s (t ∷ ss) a) (omega arith) e in
    (stamp_total.trans s t at (sorted_head stamp_cmp s (t ∷ ss) a).0 rest.0, rest)

take-length : (ss : List Stamp) → take (length ss) ss ≡ ss
take-length [] = refl
take-length (s ∷ ss) = ap (λ xs. s ∷ xs) (take-length ss)

drop-length : (ss : List Stamp) → drop (length ss) ss ≡ []
drop-length [] = refl
drop-length (s ∷ ss) = drop-length ss

-- it goes to the end where the last one is lesser
pub after-last : (ss : List Stamp) (l at : Stamp) → IsStrictlySortedBy stamp_cmp ss → slice_get ss (length ss - 1) ≡ Some l → stamp_cmp l at ≡ Less
    → insert ss (length ss) at ≡ insert_key stamp_cmp ss at
after-last ss l at a e h =
    let long = last-long ss (length ss - 1) l e in
    let less = subst (λ s. stamp_cmp s at ≡ Less) (sym (last-at ss (length ss - 1) l at e)) h in
    let all = all-before ss (length ss - 1) at a (omega arith) less in
    ap (λ xs. xs ++ at ∷ drop (length ss) ss) (take-length ss) ∙ ap (λ xs. ss ++ at ∷ xs) (drop-length ss)
    ∙ insert-at ss [] at all tt ∙ ap (λ xs. insert_key stamp_cmp xs at) (nothing-after ss)
  where
    nothing-after : (xs : List Stamp) → xs ++ [] ≡ xs
    nothing-after [] = refl
    nothing-after (x ∷ xs) = ap (λ ys. x ∷ ys) (nothing-after xs)

-- it is there where it is the last one
pub is-last : (ss : List Stamp) (l at : Stamp) → IsStrictlySortedBy stamp_cmp ss → slice_get ss (length ss - 1) ≡ Some l → stamp_cmp l at ≡ Equal → insert_key stamp_cmp ss at ≡ ss
is-last ss l at a e h =
    insert-there ss (length ss - 1) at a (last-long ss (length ss - 1) l e) (subst (λ s. stamp_cmp s at ≡ Equal) (sym (last-at ss (length ss - 1) l at e)) h)

-- ---- where a search by halves ends

not-lesser : (s t : Stamp) → stamp_cmp s t ≡ Less → is_lt (stamp_cmp t s) ≡ false
not-lesser s t e = ap is_lt (other-way s t Less e)

rising : (ss : List Stamp) (at : Stamp) → IsStrictlySortedBy stamp_cmp ss → IsNonDecreasingBy (λ y. ordering_index (stamp_cmp y at)) ss
rising ss at a =
    searchable_from_sorted stamp_total (λ (s : Stamp). s) ss at
    (λ k d l h. not-lesser (get_or ss k d) (get_or ss (k + 1) d) (Less-from_sorted stamp_cmp ss k (k + 1) d a (omega arith) h))

each-first : (P : Stamp → Type 0) (n : ℕ) (xs : List Stamp) → ((i : ℕ) (d : Stamp) → i < n → P (get_or xs i d)) → AllByRecursion P (take n xs)
each-first P zero xs h = tt
each-first P (suc n) [] h = tt
each-first P (suc n) (x ∷ xs) h = (h 0 x (omega arith), each-first P n xs (λ i d l. h (suc i) d (omega arith)))

each-other : (P : Stamp → Type 0) (n : ℕ) (xs : List Stamp) → ((i : ℕ) (d : Stamp) → n ≤ i → i < length xs → P (get_or xs i d)) → AllByRecursion P (drop n xs)
each-other P zero [] h = tt
each-other P zero (x ∷ xs) h = (h 0 x (omega arith) (omega arith), each-other P zero xs (λ i d l m. h (suc i) d (omega arith) (omega arith)))
each-other P (suc n) [] h = tt
each-other P (suc n) (x ∷ xs) h = each-other P n xs (λ i d l m. h (suc i) d (omega arith) (omega arith))

-- it goes there
pub at-point : (ss : List Stamp) (i : ℕ) (at : Stamp) → IsStrictlySortedBy stamp_cmp ss
    → (IsNonDecreasingBy (λ y. ordering_index (stamp_cmp y at)) ss → IsPartitionPoint (λ y. stamp_cmp y at ≡ Less) (λ y. stamp_cmp y at ≡ Greater) ss i)
    → insert ss i at ≡ insert_key stamp_cmp ss at
at-point ss i at a f =
    let p = f (rising ss at a) in
    insert-at (take i ss) (drop i ss) at (each-first (λ y. stamp_cmp y at ≡ Less) i ss (λ j d l. p.0 j d (omega arith) l))
    (each-other (λ y. stamp_cmp y at ≡ Greater) i ss (λ j d l m. p.1 j d l m)) ∙ ap (λ xs. insert_key stamp_cmp xs at) (take-append-drop i ss)

-- where the search does not find it
pub place-found : (ss : List Stamp) (at : Stamp) (found : Result ℕ ℕ) → IsStrictlySortedBy stamp_cmp ss → IsSearchInRange found (length ss)
    → IsBinarySearchResult (λ y. stamp_cmp y at) ss found → IfSome (result_err found) (λ i. (i ≤ length ss) × (insert ss i at ≡ insert_key stamp_cmp ss at))
place-found ss at (Ok i) a b f = tt
place-found ss at (Err i) a b f = (b, at-point ss i at a f)

-- where it does
pub found-there : (ss : List Stamp) (at : Stamp) (found : Result ℕ ℕ) → IsStrictlySortedBy stamp_cmp ss → IsSearchInRange found (length ss)
    → IsBinarySearchResult (λ y. stamp_cmp y at) ss found → IfNone (result_err found) (insert_key stamp_cmp ss at ≡ ss)
found-there ss at (Ok i) a b f = insert-there ss i at a b (f at)
found-there ss at (Err i) a b f = tt

-- ---- none, and those that stay

pub sorted-none : (ss : List Stamp) → ss ≡ [] → IsStrictlySortedBy stamp_cmp ss
unfolding IsStrictlySortedBy
sorted-none [] e = tt
sorted-none (s ∷ ss) e = absurd (cc)

pub sorted-kept : (p : Stamp → Bool) (ss left : List Stamp) → left ≡ filter p ss → IsStrictlySortedBy stamp_cmp ss → IsStrictlySortedBy stamp_cmp left
sorted-kept p ss left is a = subst (IsStrictlySortedBy stamp_cmp) (sym is) (IsStrictlySortedBy-filter stamp_cmp p ss a)

-- ---- one after the other

drop-next : (ss : List Stamp) (i : ℕ) (s : Stamp) → i < length ss → s ≡ get_or ss i s → drop i ss ≡ s ∷ drop (i + 1) ss
drop-next ss i s l e =
    let next : suc i ≡ i + 1 = omega arith in
    drop-cons ss i s l ∙ ap (λ t. t ∷ drop (suc i) ss) (sym e) ∙ ap (λ n. s ∷ drop n ss) next

-- those to come have a greater one of a stamp by the next one or those after it
has-next : (base : Front) (ss : List Stamp) (i : ℕ) (s q : Stamp) → i < length ss → s ≡ get_or ss i s
    → has_greater_inside base (drop i ss) q ≡ ((inside base s && lesser q s) || has_greater_inside base (drop (i + 1) ss) q)
has-next base ss i s q l e = ap (λ xs. has_greater_inside base xs q) (drop-next ss i s l e)

-- the top so far and those to come give the top of all, and have a greater one of a stamp where all have one
abbrev pub IsTopUpTo : Front → Option Stamp → List Stamp → List Stamp → Type 0
IsTopUpTo base top rest all = record {
  value : top_from base top rest ≡ top_from base None all;
  greatest : (q : List ℕ) → (is_lesser_than_top top q || has_greater_inside base rest q) ≡ has_greater_inside base all q;
}

one-more : (i a b n h k : Bool) → n ≡ (a || b) → i ≡ true → (a || ((i && b) || h)) ≡ k → (n || h) ≡ k
one-more true true b n h k e f g = ap (λ x. x || h) e ∙ g
one-more true false b n h k e f g = ap (λ x. x || h) e ∙ g
one-more false a b n h k e f g = cc

none-more : (i a b h k : Bool) → i ≡ false → (a || ((i && b) || h)) ≡ k → (a || h) ≡ k
none-more true a b h k f g = cc
none-more false a b h k f g = g

-- the next one is inside, and at or above the top
pub top-inside : (base : Front) (top now : Option Stamp) (next : Stamp) (ss : List Stamp) (i : ℕ) (s : Stamp) → i < length ss → s ≡ get_or ss i s → inside base s ≡ true
    → raised top s ≡ Some next → ((q : List ℕ) → lesser q next ≡ (is_lesser_than_top top q || lesser q s)) → now ≡ Some next
    → IsTopUpTo base top (drop i ss) ss → IsTopUpTo base now (drop (i + 1) ss) ss
top-inside base top now next ss i s l e k r g is h =
    let rest = drop (i + 1) ss in
    record {
      value = ap (λ t. top_from base t rest) is
          ∙ sym (ap (top_from base top) (drop-next ss i s l e) ∙ cond-true (inside base s) (option_and_then (λ t. top_from base (Some t) rest) (raised top s)) (top_from base top rest) k
          ∙ ap (option_and_then (λ t. top_from base (Some t) rest)) r) ∙ h.value;
      greatest = λ q. ap (λ t. is_lesser_than_top t q || has_greater_inside base rest q) is
          ∙ one-more (inside base s) (is_lesser_than_top top q) (lesser q s) (lesser q next) (has_greater_inside base rest q) (has_greater_inside base ss q) (g q) k
          (ap (λ b. is_lesser_than_top top q || b) (sym (has-next base ss i s q l e)) ∙ h.greatest q);
    }

-- it is outside
pub top-outside : (base : Front) (top now : Option Stamp) (ss : List Stamp) (i : ℕ) (s : Stamp) → i < length ss → s ≡ get_or ss i s → inside base s ≡ false → now ≡ top
    → IsTopUpTo base top (drop i ss) ss → IsTopUpTo base now (drop (i + 1) ss) ss
top-outside base top now ss i s l e k is h =
    let rest = drop (i + 1) ss in
    record {
      value = ap (λ t. top_from base t rest) is
          ∙ sym (ap (top_from base top) (drop-next ss i s l e) ∙ cond-false (inside base s) (option_and_then (λ t. top_from base (Some t) rest) (raised top s)) (top_from base top rest) k) ∙ h.value;
      greatest = λ q. ap (λ t. is_lesser_than_top t q || has_greater_inside base rest q) is
          ∙ none-more (inside base s) (is_lesser_than_top top q) (lesser q s) (has_greater_inside base rest q) (has_greater_inside base ss q) k
          (ap (λ b. is_lesser_than_top top q || b) (sym (has-next base ss i s q l e)) ∙ h.greatest q);
    }
