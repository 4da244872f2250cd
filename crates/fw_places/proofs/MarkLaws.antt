-- Marked places as lists: what becomes of them, and which is the first.
use Rattle.std.proofs.Common.{◌≡◌, ◌≢◌, ℕ, zero, suc, ◌+◌, ◌-◌, ◌*◌, ◌/◌, ◌%◌, ◌^◌, ◌<◌, ◌≤◌, Bool, true, false, cond, nat_eq, List, [], ◌∷◌, ◌++◌, length, get_or, bit_or, bit_and, min, Contains, nat_cmp, refl, sym, ap, subst, ◌∙◌, inl, inr, arith}
use Rattle.std.proofs.Math.ListN.{set}
use Rattle.std.proofs.lemmas.Bool.{cases_eq, cases_lt}
use Rattle.std.proofs.lemmas.List.{append-nil, get_or-set_other, get_or-set_same, length-set, length-append}
use Rattle.std.proofs.lemmas.Nat.Bits.{bit_at-zero, bit_at-lt, bit_at_and, bit_at_set_same, bit_at_set_other, bit_at_clear_same, bit_at_clear_other, bit_at_mask_inside, bit_at_mask_below, bit_at-trailing_zeros}
use Rattle.std.specs.Int.{bit_at, bit_not, trailing_zeros, w64}
use Rattle.std.specs.Prelude.{Option, Some, None}
use Rattle.std.specs.Ordering.{is_eq}
use Rattle.std.specs.List.{AllByRecursion}
use Rattle.std.specs.BTreeSet.{insert_key}
use Rattle.std.specs.BTreeMap.{is_at}
use Rattle.std.specs.Set.{remove_key}
use Rattle.fw_lemmas.proofs.Bools.{two_ways}
use Rattle.fw_places.specs.Marks.{listed, has_mark, marked, IsMarkFrom, IsNextMark}
use Rattle.fw_places.specs.Places.{ArePlacesAscending, IsPut, IsTakenOut, IsFirstFrom, IsFirstPlace, HasNoneBetween}
use Rattle.fw_places.proofs.PlaceLaws.{itself, each_of, put_new, put_old, out_new, out_old, here, is_put_new, is_out_new, is_out_old}

-- ---- lists of marked places

each_cond : (P : ℕ → Type 0) (c : Bool) (x : ℕ) (xs : List ℕ) → (c ≡ true → P x) → AllByRecursion P xs → AllByRecursion P (cond c (x ∷ xs) xs)
each_cond P true x xs p a = (p refl, a)
each_cond P false x xs p a = a

each_listed : (P : ℕ → Type 0) (f : ℕ → Bool) (a n : ℕ) → ((q : ℕ) → a ≤ q → q < a + n → f q ≡ true → P q) → AllByRecursion P (listed f a n)
each_listed P f a zero h = tt
each_listed P f a (suc n) h =
    each_cond P (f a) a (listed f (suc a) n) (h a (omega arith) (omega arith)) (each_listed P f (suc a) n (λ q l m. h q (omega arith) (omega arith)))

pub ascends : (f : ℕ → Bool) (a n : ℕ) → ArePlacesAscending (listed f a n)
ascends f a zero = tt
ascends f a (suc n) = by (f a) a (listed f (suc a) n) (each_listed (λ q. a < q) f (suc a) n (λ q l m e. l)) (ascends f (suc a) n)
  where
    by : (c : Bool) (x : ℕ) (xs : List ℕ) → AllByRecursion (λ q. x < q) xs → ArePlacesAscending xs → ArePlacesAscending (cond c (x ∷ xs) xs)
    by true x xs a h = (a, h)
    by false x xs a h = h

listed_same : (f g : ℕ → Bool) (a n : ℕ) → ((q : ℕ) → a ≤ q → q < a + n → f q ≡ g q) → listed f a n ≡ listed g a n
listed_same f g a zero h = refl
listed_same f g a (suc n) h =
    let e : f a ≡ g a = h a (omega arith) (omega arith) in
    let r : listed f (suc a) n ≡ listed g (suc a) n = listed_same f g (suc a) n (λ q l m. h q (omega arith) (omega arith)) in
    λ i. cond (e i) (a ∷ r i) (r i)

listed_none : (f : ℕ → Bool) (a n : ℕ) → ((q : ℕ) → a ≤ q → q < a + n → f q ≡ false) → listed f a n ≡ []
listed_none f a zero h = refl
listed_none f a (suc n) h =
    let e : f a ≡ false = h a (omega arith) (omega arith) in
    ap (λ c. cond c (a ∷ listed f (suc a) n) (listed f (suc a) n)) e ∙ listed_none f (suc a) n (λ q l m. h q (omega arith) (omega arith))

listed_split : (f : ℕ → Bool) (a m n k b : ℕ) → k ≡ m + n → b ≡ a + m → listed f a k ≡ listed f a m ++ listed f b n
listed_split f a zero n k b e d =
    let p : k ≡ n = omega arith in
    let q : a ≡ b = omega arith in
    λ i. listed f (q i) (p i)
listed_split f a (suc m) n zero b e d = absurd (omega arith)
listed_split f a (suc m) n (suc k) b e d = by (f a) a _ _ _ (listed_split f (suc a) m n k b (omega arith) (omega arith))
  where
    by : (c : Bool) (a : ℕ) (xs ys zs : List ℕ) → xs ≡ ys ++ zs → cond c (a ∷ xs) xs ≡ cond c (a ∷ ys) ys ++ zs
    by true a xs ys zs e = ap (λ s. a ∷ s) e
    by false a xs ys zs e = e

low : (ℕ → Bool) → ℕ → List ℕ
low f p = listed f 0 p

high : (ℕ → Bool) → ℕ → ℕ → List ℕ
high f n p = listed f (suc p) (n - suc p)

split_at : (f : ℕ → Bool) (n p : ℕ) → p < n → listed f 0 n ≡ low f p ++ cond (f p) (p ∷ high f n p) (high f n p)
unfolding low high
split_at f n p l = listed_split f 0 p (suc (n - suc p)) n p (omega arith) (omega arith)

lower : (f : ℕ → Bool) (p : ℕ) → AllByRecursion (λ q. q < p) (low f p)
unfolding low
lower f p = each_listed (λ q. q < p) f 0 p (λ q l m e. omega arith)

higher : (f : ℕ → Bool) (n p : ℕ) → AllByRecursion (λ q. p < q) (high f n p)
unfolding high
higher f n p = each_listed (λ q. p < q) f (suc p) (n - suc p) (λ q l m e. l)

same_low : (f g : ℕ → Bool) (p : ℕ) → ((q : ℕ) → q ≢ p → g q ≡ f q) → low g p ≡ low f p
unfolding low
same_low f g p h = listed_same g f 0 p (λ q l m. h q (omega arith))

same_high : (f g : ℕ → Bool) (n p : ℕ) → ((q : ℕ) → q ≢ p → g q ≡ f q) → high g n p ≡ high f n p
unfolding high
same_high f g n p h = listed_same g f (suc p) (n - suc p) (λ q l m. h q (omega arith))

-- a place is put among those that are marked
pub record Puts (p : ℕ) (old new : List ℕ) : Type 0 where
  pub keys : new ≡ insert_key nat_cmp old p
  pub put : IsPut p old new

with_mark : (f g : ℕ → Bool) (n p : ℕ) → p < n → g p ≡ true → ((q : ℕ) → q ≢ p → g q ≡ f q) → Puts p (listed f 0 n) (listed g 0 n)
with_mark f g n p l e h =
    let new : listed g 0 n ≡ low f p ++ p ∷ high f n p =
    split_at g n p l ∙ ap (λ c. low g p ++ cond c (p ∷ high g n p) (high g n p)) e ∙ (λ i. same_low f g p h i ++ p ∷ same_high f g n p h i) in
    subst (Puts p (listed f 0 n)) (sym new) (subst (λ xs. Puts p xs (low f p ++ p ∷ high f n p)) (sym (split_at f n p l)) (by (f p) (low f p) (high f n p) (lower f p) (higher f n p)))
  where
    by : (c : Bool) (ls us : List ℕ) → AllByRecursion (λ q. q < p) ls → AllByRecursion (λ q. p < q) us → Puts p (ls ++ cond c (p ∷ us) us) (ls ++ p ∷ us)
    by true ls us a b = record { keys = put_old ls us p a; put = record { there = here ls us p; stays = λ q c. c; only = λ q c. inr c } }
    by false ls us a b = record { keys = put_new ls us p a b; put = is_put_new ls us p }

-- a place is taken from those that are marked
pub record Takes (p : ℕ) (old new : List ℕ) : Type 0 where
  pub keys : new ≡ remove_key (is_at (nat_cmp p)) old
  pub taken : IsTakenOut p old new

without_mark : (f g : ℕ → Bool) (n p : ℕ) → p < n → g p ≡ false → ((q : ℕ) → q ≢ p → g q ≡ f q) → Takes p (listed f 0 n) (listed g 0 n)
without_mark f g n p l e h =
    let new : listed g 0 n ≡ low f p ++ high f n p =
    split_at g n p l ∙ ap (λ c. low g p ++ cond c (p ∷ high g n p) (high g n p)) e ∙ (λ i. same_low f g p h i ++ same_high f g n p h i) in
    subst (Takes p (listed f 0 n)) (sym new) (subst (λ xs. Takes p xs (low f p ++ high f n p)) (sym (split_at f n p l)) (by (f p) (low f p) (high f n p) (lower f p) (higher f n p)))
  where
    by : (c : Bool) (ls us : List ℕ) → AllByRecursion (λ q. q < p) ls → AllByRecursion (λ q. p < q) us → Takes p (ls ++ cond c (p ∷ us) us) (ls ++ us)
    by true ls us a b = record { keys = out_old ls us p a; taken = is_out_new ls us p a b }
    by false ls us a b = record { keys = out_new ls us p a b; taken = is_out_old ls us p a b }

-- ---- bits of words

-- the places of a word
in_words : (p i k : ℕ) → p ≡ i * 64 + k → k < 64 → (p / 64 ≡ i) × (p % 64 ≡ k)
in_words p i k e l = (omega arith, omega arith)

mark_at : (words : List ℕ) (i k : ℕ) → k < 64 → has_mark words (i * 64 + k) ≡ nat_eq (bit_at (get_or words i 0) k) 1
unfolding has_mark
mark_at words i k l = let h = in_words (i * 64 + k) i k refl l in λ j. nat_eq (bit_at (get_or words (h.0 j) 0) (h.1 j)) 1

-- a word is written, of which one bit changes
other_marks : (words : List ℕ) (i k v : ℕ) → k < 64 → i < length words → ((j : ℕ) → j < 64 → j ≢ k → bit_at v j ≡ bit_at (get_or words i 0) j)
    → (q : ℕ) → q ≢ i * 64 + k → has_mark (set words i v) q ≡ has_mark words q
unfolding has_mark
other_marks words i k v l m h q d = elim (cases_eq (q / 64) i) [
  | inl e ↦
      let w : get_or (set words i v) (q / 64) 0 ≡ v = ap (λ j. get_or (set words i v) j 0) e ∙ get_or-set_same words i v 0 m in
      let n : q % 64 ≢ k = omega arith in
      let s : q % 64 < 64 = omega arith in
      ap (λ x. nat_eq (bit_at x (q % 64)) 1) w ∙ ap (λ b. nat_eq b 1) (h (q % 64) s n) ∙ ap (λ j. nat_eq (bit_at (get_or words j 0) (q % 64)) 1) (sym e)
  | inr e ↦ ap (λ x. nat_eq (bit_at x (q % 64)) 1) (get_or-set_other words i (q / 64) v 0 e)
]

this_mark : (words : List ℕ) (i k v : ℕ) → k < 64 → i < length words → has_mark (set words i v) (i * 64 + k) ≡ nat_eq (bit_at v k) 1
this_mark words i k v l m = mark_at (set words i v) i k l ∙ ap (λ x. nat_eq (bit_at x k) 1) (get_or-set_same words i v 0 m)

-- the bit of a place is set
pub marks : (words : List ℕ) (p : ℕ) → p / 64 < length words
    → Puts p (marked words) (marked (set words (p / 64) (bit_or (get_or words (p / 64) 0) (1 * 2 ^ (p % 64) % 2 ^ 64))))
unfolding marked
marks words p m =
    let i = p / 64 in
    let k = p % 64 in
    let v = bit_or (get_or words i 0) (1 * 2 ^ k % 2 ^ 64) in
    let l : k < 64 = omega arith in
    let e : i * 64 + k ≡ p = omega arith in
    let there : has_mark (set words i v) p ≡ true =
    subst (λ q. has_mark (set words i v) q ≡ true) e (this_mark words i k v l m ∙ ap (λ b. nat_eq b 1) (bit_at_set_same w64 (get_or words i 0) k l)) in
    let others = λ (q : ℕ) (d : q ≢ p). other_marks words i k v l m (λ j h n. bit_at_set_other w64 (get_or words i 0) k l j n) q (λ f. d (f ∙ e)) in
    let all = with_mark (has_mark words) (has_mark (set words i v)) (length words * 64) p (omega arith) there others in
    subst (λ n. Puts p (listed (has_mark words) 0 (length words * 64)) (listed (has_mark (set words i v)) 0 (n * 64))) (sym (length-set words i v)) all

-- the bit of a place is cleared
pub unmarks : (words : List ℕ) (p : ℕ) → p / 64 < length words
    → Takes p (marked words) (marked (set words (p / 64) (bit_and (get_or words (p / 64) 0) (bit_not w64 (1 * 2 ^ (p % 64) % 2 ^ 64)))))
unfolding marked
unmarks words p m =
    let i = p / 64 in
    let k = p % 64 in
    let v = bit_and (get_or words i 0) (bit_not w64 (1 * 2 ^ k % 2 ^ 64)) in
    let l : k < 64 = omega arith in
    let e : i * 64 + k ≡ p = omega arith in
    let gone : has_mark (set words i v) p ≡ false =
    subst (λ q. has_mark (set words i v) q ≡ false) e (this_mark words i k v l m ∙ ap (λ b. nat_eq b 1) (bit_at_clear_same w64 (get_or words i 0) k l)) in
    let others = λ (q : ℕ) (d : q ≢ p). other_marks words i k v l m (λ j h n. bit_at_clear_other w64 (get_or words i 0) k l j h n) q (λ f. d (f ∙ e)) in
    let all = without_mark (has_mark words) (has_mark (set words i v)) (length words * 64) p (omega arith) gone others in
    subst (λ n. Takes p (listed (has_mark words) 0 (length words * 64)) (listed (has_mark (set words i v)) 0 (n * 64))) (sym (length-set words i v)) all

-- past the words nothing is marked
unmarked_past : (words : List ℕ) (q : ℕ) → length words ≤ q / 64 → has_mark words q ≡ false
unfolding has_mark
unmarked_past words q l = ap (λ x. nat_eq (bit_at x (q % 64)) 1) (past words (q / 64) l) ∙ ap (λ b. nat_eq b 1) (bit_at-zero (q % 64))
  where
    past : (xs : List ℕ) (i : ℕ) → length xs ≤ i → get_or xs i 0 ≡ 0
    past [] zero h = refl
    past [] (suc i) h = refl
    past (x ∷ xs) zero h = absurd (omega arith)
    past (x ∷ xs) (suc i) h = past xs i (omega arith)

-- and so where there is no place that is taken
pub unmarks_none : (words : List ℕ) (p : ℕ) → length words ≤ p / 64 → Takes p (marked words) (marked words)
unfolding marked
unmarks_none words p l =
    let a = each_listed (λ q. q < p) (has_mark words) 0 (length words * 64) (λ q h k e. omega arith) in
    subst (λ xs. Takes p xs xs) (append-nil (listed (has_mark words) 0 (length words * 64)))
    (record { keys = out_new (listed (has_mark words) 0 (length words * 64)) [] p a tt; taken = is_out_old (listed (has_mark words) 0 (length words * 64)) [] p a tt })

mark_more : (words : List ℕ) (q : ℕ) → has_mark (words ++ 0 ∷ []) q ≡ has_mark words q
unfolding has_mark
mark_more words q = ap (λ x. nat_eq (bit_at x (q % 64)) 1) (read words (q / 64))
  where
    none : (i : ℕ) → get_or {A = ℕ} [] i 0 ≡ 0
    none zero = refl
    none (suc i) = refl

    read : (xs : List ℕ) (i : ℕ) → get_or (xs ++ 0 ∷ []) i 0 ≡ get_or xs i 0
    read [] zero = refl
    read [] (suc i) = none i
    read (x ∷ xs) zero = refl
    read (x ∷ xs) (suc i) = read xs i

-- one word more, without marks
pub marked_more : (words : List ℕ) → marked (words ++ 0 ∷ []) ≡ marked words
unfolding marked
marked_more words =
    let n = length words * 64 in
    let long : length (words ++ 0 ∷ []) * 64 ≡ n + 64 = omega (arith, length-append words (0 ∷ [])) in
    ap (listed (has_mark (words ++ 0 ∷ [])) 0) long
    ∙ listed_same (has_mark (words ++ 0 ∷ [])) (has_mark words) 0 (n + 64) (λ q l m. mark_more words q)
    ∙ listed_split (has_mark words) 0 n 64 (n + 64) n refl (omega arith)
    ∙ ap (λ xs. listed (has_mark words) 0 n ++ xs) (listed_none (has_mark words) n 64 (λ q l m. unmarked_past words q (omega arith)))
    ∙ append-nil (listed (has_mark words) 0 n)

-- ---- the first mark

-- what is left of a word from a bit on
pub record IsRest (word rest k : ℕ) : Type 0 where
  pub small : k < 64
  pub fits : rest < 2 ^ 64
  pub same : (j : ℕ) → k ≤ j → j < 64 → bit_at rest j ≡ bit_at word j
  pub none : (j : ℕ) → j < k → bit_at rest j ≡ 0

pub rest_whole : (word : ℕ) → word < 2 ^ 64 → IsRest word word 0
rest_whole word f = record { small = omega arith; fits = f; same = λ j l m. refl; none = λ j l. absurd (omega arith) }

pub rest_masked : (word rest k : ℕ) → k < 64 → rest < 2 ^ 64 → rest ≡ bit_and word (2 ^ 64 - 2 ^ k) → IsRest word rest k
rest_masked word rest k l f e = record {
  small = l;
  fits = f;
  same = λ j m n.
      let h = bit_at_mask_inside k 64 j m n in
      let b = bit_at-lt word j in
      ap (λ x. bit_at x j) e ∙ bit_at_and word (2 ^ 64 - 2 ^ k) j ∙ ap (min (bit_at word j)) h ∙ least (bit_at word j) b;
  none = λ j m. ap (λ x. bit_at x j) e ∙ bit_at_and word (2 ^ 64 - 2 ^ k) j ∙ ap (min (bit_at word j)) (bit_at_mask_below k 64 j m) ∙ nothing (bit_at word j);
}
  where
    least : (b : ℕ) → b < 2 → min b 1 ≡ b
    least b h = omega arith

    nothing : (b : ℕ) → min b 0 ≡ 0
    nothing b = omega arith

-- the lowest bit of it is the first mark from there on
pub mark_in : (words : List ℕ) (i k rest : ℕ) → i < length words → IsRest (get_or words i 0) rest k → 0 < rest
    → (trailing_zeros w64 rest < 64) × IsMarkFrom words (i * 64 + k) (i * 64 + trailing_zeros w64 rest)
mark_in words i k rest l r p =
    let h = bit_at-trailing_zeros w64 rest p r.fits in
    let t = trailing_zeros w64 rest in
    let low : t < 64 = h.0 in
    let from : k ≤ t = elim (cases_lt t k) [ inl m ↦ absurd (differ (bit_at rest t) h.1 (r.none t m)) | inr m ↦ m ] in (
      low,
      record {
        from = omega arith;
        inside = omega arith;
        here = mark_at words i t low ∙ ap (λ b. nat_eq b 1) (sym (r.same t from low) ∙ h.1);
        least = λ q a b.
            let j = q - i * 64 in
            let e : q ≡ i * 64 + j = omega arith in
            let m : k ≤ j = omega arith in
            let n : j < 64 = omega arith in
            let o : j < t = omega arith in
            ap (has_mark words) e ∙ mark_at words i j n ∙ ap (λ b. nat_eq b 1) (sym (r.same j m n) ∙ h.2 j o);
      },
    )
  where
    differ : (b : ℕ) → b ≡ 1 → b ≡ 0 → ⊥
    differ b e f = omega arith

-- and where it is zero there is none in the word
pub none_in : (words : List ℕ) (i k rest : ℕ) → IsRest (get_or words i 0) rest k → rest ≡ 0 → (q : ℕ) → i * 64 + k ≤ q → q < (i + 1) * 64 → has_mark words q ≡ false
none_in words i k rest r z q a b =
    let j = q - i * 64 in
    let e : q ≡ i * 64 + j = omega arith in
    let m : k ≤ j = omega arith in
    let n : j < 64 = omega arith in
    ap (has_mark words) e ∙ mark_at words i j n ∙ ap (λ b. nat_eq b 1) (sym (r.same j m n) ∙ ap (λ x. bit_at x j) z ∙ bit_at-zero j)

-- a mark in a later word
pub mark_later : (words : List ℕ) (k m p : ℕ) → k ≤ m → ((q : ℕ) → k ≤ q → q < m → has_mark words q ≡ false) → IsMarkFrom words m p → IsMarkFrom words k p
mark_later words k m p l h f =
    let g = f.from in
    record {
      from = omega arith;
      inside = f.inside;
      here = f.here;
      least = λ q a b. elim (cases_lt q m) [ inl c ↦ h q a c | inr c ↦ f.least q c b ];
    }

-- ---- as contracts see them

told : (words : List ℕ) (q : ℕ) → Contains (marked words) q → (has_mark words q ≡ true) × (q < length words * 64)
unfolding marked
told words q c =
    each_of (λ x. (has_mark words x ≡ true) × (x < length words * 64)) (listed (has_mark words) 0 (length words * 64)) q
    (each_listed (λ x. (has_mark words x ≡ true) × (x < length words * 64)) (has_mark words) 0 (length words * 64) (λ x l m e. (e, omega arith))) c

pub is_first : (words : List ℕ) (k p : ℕ) → IsMarkFrom words k p → IsFirstFrom k (marked words) p
unfolding marked
is_first words k p f = record {
  there = (with_mark (has_mark words) (has_mark words) (length words * 64) p f.inside f.here (λ q d. refl)).put.there;
  from = f.from;
  least = λ q c l. elim (cases_lt q p) [ inl m ↦ absurd (two_ways (has_mark words q) (told words q c).0 (f.least q l m)) | inr m ↦ m ];
}

pub is_none : (words : List ℕ) (k limit : ℕ) → ((q : ℕ) → k ≤ q → q < length words * 64 → has_mark words q ≡ false) → HasNoneBetween k limit (marked words)
is_none words k limit h = λ q c l m. two_ways (has_mark words q) (told words q c).0 (h q l (told words q c).1)

-- ---- the words ys, which a call makes zs

pub marks_seen : (ys zs old : List ℕ) (p : ℕ) → marked ys ≡ old → p / 64 < length ys
    → zs ≡ set ys (p / 64) (bit_or (get_or ys (p / 64) 0) (1 * 2 ^ (p % 64) % 2 ^ 64)) → Puts p old (marked zs)
marks_seen ys zs old p o l z = subst (λ xs. Puts p xs (marked zs)) o (subst (λ xs. Puts p (marked ys) (marked xs)) (sym z) (marks ys p l))

pub unmarks_seen : (ys zs old : List ℕ) (p : ℕ) → marked ys ≡ old → p / 64 < length ys
    → zs ≡ set ys (p / 64) (bit_and (get_or ys (p / 64) 0) (bit_not w64 (1 * 2 ^ (p % 64) % 2 ^ 64))) → Takes p old (marked zs)
unmarks_seen ys zs old p o l z = subst (λ xs. Takes p xs (marked zs)) o (subst (λ xs. Takes p (marked ys) (marked xs)) (sym z) (unmarks ys p l))

pub unmarks_none_seen : (ys old : List ℕ) (p : ℕ) → marked ys ≡ old → length ys ≤ p / 64 → Takes p old old
unmarks_none_seen ys old p o l = subst (λ xs. Takes p xs xs) o (unmarks_none ys p l)

pub first_seen : (ys old : List ℕ) (r : Option ℕ) → marked ys ≡ old → IsNextMark ys 0 r → IsFirstPlace old r
first_seen ys old None o h = subst (λ xs. IsFirstPlace xs None) o (λ q c. is_none ys 0 (suc q) h q c (omega arith) (omega arith))
first_seen ys old (Some p) o h = subst (λ xs. IsFirstFrom 0 xs p) o (is_first ys 0 p h)

-- what the first mark leaves
pub popped : (xs : List ℕ) (p : ℕ) → ArePlacesAscending xs → IsFirstFrom 0 xs p → xs ≡ p ∷ remove_key (is_at (nat_cmp p)) xs
popped [] p h f = absurd (none f.there.0 f.there.1)
  where
    none : (k : ℕ) → k < 0 → ⊥
    none k l = omega arith
popped (x ∷ t) p h f =
    let e : x ≡ p = by f.there.0 f.there.1 f.there.2 in
    λ i. e i ∷ sym (ap (λ o. cond (is_eq o) t (x ∷ remove_key (is_at (nat_cmp p)) t)) (ap (nat_cmp p) e ∙ itself p)) i
  where
    down : p ≤ x
    down = f.least x (0, omega arith, refl) (omega arith)

    by : (k : ℕ) → k < length (x ∷ t) → get_or (x ∷ t) k p ≡ p → x ≡ p
    by zero l e = e
    by (suc k) l e = absurd (lost x p (each_of (λ q. x < q) t p h.0 (k, omega arith, e)) down)
      where
        lost : (x p : ℕ) → x < p → p ≤ x → ⊥
        lost x p a b = omega arith

pub pops : (ys old new : List ℕ) (p : ℕ) → marked ys ≡ old → IsMarkFrom ys 0 p → Takes p old new → old ≡ p ∷ new
unfolding marked
pops ys old new p o f t =
    popped old p (subst ArePlacesAscending o (ascends (has_mark ys) 0 (length ys * 64))) (subst (λ xs. IsFirstFrom 0 xs p) o (is_first ys 0 p f)) ∙ ap (λ xs. p ∷ xs) (sym t.keys)

pub none_marked : (ys : List ℕ) → IsNextMark ys 0 None → marked ys ≡ []
unfolding marked
none_marked ys h = listed_none (has_mark ys) 0 (length ys * 64) (λ q l m. h q l (omega arith))
