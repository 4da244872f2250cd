-- Tallies: what one more and one less of a stamp leave, and up to where there is none.
use Rattle.std.proofs.Common.{◌≡◌, ℕ, ◌+◌, ◌-◌, ◌^◌, ◌<◌, ◌≤◌, Bool, true, false, not, ◌&&◌, nat_le, nat_lt, cond, drop, List, [], ◌∷◌, ◌++◌, length, get_or, take, Option, Some, None, map, unwrap_or, refl, sym, ap, subst, ◌∙◌, append-nil, inl, inr, arith}
use Rattle.std.specs.Prelude.{IsSome, filter, slice_get}
use Rattle.std.specs.List.{AllByRecursion}
use Rattle.std.specs.Map.{keys_of, lookup, set_value, remove_entry}
use Rattle.std.specs.BTreeMap.{insert_entry, is_at}
use Rattle.std.specs.declared.cmp.Ordering.{Ordering}
use Rattle.std.specs.declared.cmp.Ordering.TheVariants.{Less, Equal, Greater}
use Rattle.std.specs.Ordering.{is_eq, is_gt, match_ordering, nat_cmp, ordering_reverse, ordering_then}
use Rattle.std.specs.Cmp.Lexicographic.{slice_cmp}
use Rattle.std.specs.List.Sorted.{IsStrictlySortedBy}
use Rattle.std.proofs.Math.Bool.{and_assoc}
use Rattle.std.proofs.lemmas.Bool.{and_parts, and_from, cases_Bool, false_from_ne_true, both_ways, not-true}
use Rattle.std.proofs.lemmas.Bool.Decides.{nat_tests}
use Rattle.std.proofs.lemmas.Cmp.{nat_list_cmp_total, tied_itself}
use Rattle.std.proofs.lemmas.Map.{lookup-none}
use Rattle.std.proofs.lemmas.Map.Entries.{none_below_head, lookup_head, lookup_tail}
use Rattle.std.proofs.lemmas.List.{take_more}
use Rattle.fw_lemmas.proofs.Bools.{cond-one}
use Rattle.fw_lemmas.proofs.Each.{each-weaker, each-both, each-append, each-prefix, each-suffix}
use Rattle.fw_time.specs.Stamp.{Stamp, leq, same, in_domain, stamp_cmp}
use Rattle.fw_time.specs.declared.stamp.Bounds.{Bounds}
use Rattle.fw_time.proofs.StampLaws.{leq-trans, same-is, same-refl}
use Rattle.fw_time.proofs.DomainLaws.{domain-length}
use Rattle.fw_frontier.specs.Frontier.{Frontier}
use Rattle.fw_frontier.specs.Front.{Front, inside, frontier_of, IsFrontOf}
use Rattle.fw_bag.specs.declared.rec.Rec.{Rec}
use Rattle.fw_flow.specs.Counting.{how_many}
use Rattle.fw_flow.specs.declared.key_part.KeyPart.{KeyPart}
use Rattle.fw_flow.specs.KeyParts.{is_of_part_if}
use Rattle.fw_model.proofs.CmpLaws.{stamp_cmp-equal, stamp_total}
use Rattle.fw_progress.specs.Progress.{stamps_of_part}
use Rattle.fw_progress.specs.Tally.{times_in, has_one, count_inside, AreCountsPositive, IsTallyOf, HasOneMore, HasManyMore, HasOneLess, HasNoMore, HasEachMore, AreLowest}

abbrev Entries : Type 0
Entries = List (Stamp × ℕ)

-- the entries with this number of a stamp
abbrev pub IsWith : Entries → Stamp → Option ℕ → Entries → Type 0
IsWith old at w new = (q : Stamp) → lookup (is_at (stamp_cmp q)) new ≡ cond (is_at (stamp_cmp at) q) w (lookup (is_at (stamp_cmp q)) old)

-- two stamps compare equal where they are the same
pub is_eq-same : (s t : Stamp) → is_at (stamp_cmp s) t ≡ same s t
is_eq-same s t = elim (cases_Bool (same s t)) [
  | inl e ↦ let i = same-is s t e in sym (ap (λ u. is_eq (stamp_cmp s u)) i) ∙ ap is_eq (tied_itself nat_list_cmp_total s) ∙ sym e
  | inr e ↦ elim (cases_Bool (is_eq (stamp_cmp s t))) [
    | inl a ↦ absurd (both_ways (same s t) e (sym (ap (same s) (stamp_cmp-equal s t a)) ∙ same-refl s))
    | inr a ↦ a ∙ sym e
  ]
]

unwrap_cond : (b : Bool) (w o : Option ℕ) → unwrap_or (cond b w o) 0 ≡ cond b (unwrap_or w 0) (unwrap_or o 0)
unwrap_cond true w o = refl
unwrap_cond false w o = refl

pub times-with : (old new : Entries) (at : Stamp) (w : Option ℕ) → IsWith old at w new → (t : Stamp) → times_in t new ≡ cond (same at t) (unwrap_or w 0) (times_in t old)
unfolding times_in
times-with old new at w is t =
    ap (λ (o : Option ℕ). unwrap_or o 0) (is t) ∙ unwrap_cond (is_at (stamp_cmp at) t) w (lookup (is_at (stamp_cmp t)) old)
    ∙ ap (λ b. cond b (unwrap_or w 0) (times_in t old)) (is_eq-same at t)

pub times-found : (entries : Entries) (at : Stamp) (n : ℕ) → lookup (is_at (stamp_cmp at)) entries ≡ Some n → times_in at entries ≡ n
unfolding times_in
times-found entries at n e = ap (λ (o : Option ℕ). unwrap_or o 0) e

pub times-absent : (entries : Entries) (at : Stamp) → lookup (is_at (stamp_cmp at)) entries ≡ None → times_in at entries ≡ 0
unfolding times_in
times-absent entries at e = ap (λ (o : Option ℕ). unwrap_or o 0) e

-- a number of the same stamp
pub times-same : (entries : Entries) (at t : Stamp) → same at t ≡ true → times_in at entries ≡ times_in t entries
unfolding times_in
times-same entries at t k = ap (λ s. unwrap_or (lookup (is_at (stamp_cmp s)) entries) 0) (same-one at t k)
  where
    same-one : (s u : Stamp) → same s u ≡ true → s ≡ u
    same-one s u e = same-is s u e

pub is_there : (entries : Entries) (at : Stamp) (n : ℕ) → lookup (is_at (stamp_cmp at)) entries ≡ Some n → IsSome (lookup (is_at (stamp_cmp at)) entries)
is_there entries at n e = rw e refl

-- ---- the entries of a domain

pub tally-insert : (b : Bounds) (r : Stamp) (n : ℕ) → in_domain b r ≡ true → 0 < n → (es : Entries) → IsTallyOf b es → IsTallyOf b (insert_entry stamp_cmp es r n)
tally-insert b r n d l [] a = record { of_domain = (d, tt); positive = (l, tt) }
tally-insert b r n d l (e ∷ es) a =
    let rest = tally-insert b r n d l es (record { of_domain = a.of_domain.1; positive = a.positive.1 }) in
    by (stamp_cmp r e.0) rest
  where
    by : (o : Ordering) → IsTallyOf b (insert_entry stamp_cmp es r n) → IsTallyOf b (match_ordering o ((r, n) ∷ e ∷ es) ((e.0, n) ∷ es) (e ∷ insert_entry stamp_cmp es r n))
    by Less k = record { of_domain = (d, a.of_domain); positive = (l, a.positive) }
    by Equal k = record { of_domain = a.of_domain; positive = (l, a.positive.1) }
    by Greater k = record { of_domain = (a.of_domain.0, k.of_domain); positive = (a.positive.0, k.positive) }

pub tally-set : (b : Bounds) (test : Stamp → Bool) (n : ℕ) → 0 < n → (es : Entries) → IsTallyOf b es → IsTallyOf b (set_value test es n)
tally-set b test n l [] a = record { of_domain = tt; positive = tt }
tally-set b test n l (e ∷ es) a =
    let rest = tally-set b test n l es (record { of_domain = a.of_domain.1; positive = a.positive.1 }) in
    by (test e.0) rest
  where
    by : (c : Bool) → IsTallyOf b (set_value test es n) → IsTallyOf b (cond c ((e.0, n) ∷ es) (e ∷ set_value test es n))
    by true k = record { of_domain = a.of_domain; positive = (l, a.positive.1) }
    by false k = record { of_domain = (a.of_domain.0, k.of_domain); positive = (a.positive.0, k.positive) }

pub tally-remove : (b : Bounds) (test : Stamp → Bool) (es : Entries) → IsTallyOf b es → IsTallyOf b (remove_entry test es)
tally-remove b test [] a = record { of_domain = tt; positive = tt }
tally-remove b test (e ∷ es) a =
    let rest = tally-remove b test es (record { of_domain = a.of_domain.1; positive = a.positive.1 }) in
    by (test e.0) rest
  where
    by : (c : Bool) → IsTallyOf b (remove_entry test es) → IsTallyOf b (cond c es (e ∷ remove_entry test es))
    by true k = record { of_domain = a.of_domain.1; positive = a.positive.1 }
    by false k = record { of_domain = (a.of_domain.0, k.of_domain); positive = (a.positive.0, k.positive) }

-- ---- one more and one less

pub one_less : (old new : Entries) (at : Stamp) (n m : ℕ) → lookup (is_at (stamp_cmp at)) old ≡ Some n → 1 < n → m ≡ n - 1 → IsWith old at (Some m) new
    → new ≡ set_value (is_at (stamp_cmp at)) old m → HasOneLess at old new
one_less old new at n m found more e is entries = record {
  times = λ t. times-with old new at (Some m) is t
      ∙ cond-one (same at t) m (times_in t old - 1) (times_in t old) (λ k. e ∙ ap (λ c. c - 1) (sym (times-found old at n found) ∙ times-same old at t k));
  domain = λ b a. subst (IsTallyOf b) (sym entries) (tally-set b (is_at (stamp_cmp at)) m (omega (arith, more, e)) old a);
}

pub last_less : (old new : Entries) (at : Stamp) (n : ℕ) → lookup (is_at (stamp_cmp at)) old ≡ Some n → n ≤ 1 → IsWith old at None new
    → new ≡ remove_entry (is_at (stamp_cmp at)) old → HasOneLess at old new
last_less old new at n found few is entries = record {
  times = λ t. times-with old new at None is t
      ∙ cond-one (same at t) 0 (times_in t old - 1) (times_in t old)
      (λ k. let a = sym (times-found old at n found) ∙ times-same old at t k in omega (arith, a, few));
  domain = λ b a. subst (IsTallyOf b) (sym entries) (tally-remove b (is_at (stamp_cmp at)) old a);
}

pub none_less : (old : Entries) (at : Stamp) → lookup (is_at (stamp_cmp at)) old ≡ None → HasOneLess at old old
none_less old at absent = record {
  times = λ t. by (same at t) (times_in t old) (λ k. sym (times-same old at t k) ∙ times-absent old at absent);
  domain = λ b a. a;
}
  where
    by : (b : Bool) (n : ℕ) → (b ≡ true → n ≡ 0) → n ≡ cond b (n - 1) n
    by true n e = let z = e refl in omega (arith, z)
    by false n e = refl

pub no_more : (old new : Entries) (at : Stamp) → IsWith old at None new → new ≡ remove_entry (is_at (stamp_cmp at)) old → HasNoMore at old new
no_more old new at is entries = record {
  times = times-with old new at None is;
  domain = λ b a. subst (IsTallyOf b) (sym entries) (tally-remove b (is_at (stamp_cmp at)) old a);
}

-- ---- one more of each

pub each_none : (old : Entries) → HasEachMore [] old old
each_none old = record { times = λ t. omega arith; domain = λ b a d. a }

how_many-last : (test : Stamp → Bool) (xs : List Stamp) (x : Stamp) → how_many test (xs ++ x ∷ []) ≡ how_many test xs + cond (test x) 1 0
how_many-last test [] x = by (test x)
  where
    by : (b : Bool) → cond b (0 + 1) 0 ≡ 0 + cond b 1 0
    by true = refl
    by false = refl
how_many-last test (y ∷ ys) x = by (test y) (how_many-last test ys x)
  where
    by : (b : Bool) → how_many test (ys ++ x ∷ []) ≡ how_many test ys + cond (test x) 1 0
        → cond b (how_many test (ys ++ x ∷ []) + 1) (how_many test (ys ++ x ∷ [])) ≡ cond b (how_many test ys + 1) (how_many test ys) + cond (test x) 1 0
    by true e = omega (arith, e)
    by false e = e

pub same-flip : (s t : Stamp) → same s t ≡ same t s
same-flip s t = swap (leq s t) (leq t s)
  where
    swap : (a b : Bool) → (a && b) ≡ (b && a)
    swap true true = refl
    swap true false = refl
    swap false true = refl
    swap false false = refl

each_last : (stamps : List Stamp) (x : Stamp) (old mid new : Entries) → HasEachMore stamps old mid → HasOneMore x mid new → HasEachMore (stamps ++ x ∷ []) old new
each_last stamps x old mid new each one = record {
  times = λ t.
      let a = each.times t in
      let b = one.times t in
      let c = how_many-last (same t) stamps x ∙ ap (λ k. how_many (same t) stamps + cond k 1 0) (same-flip t x) in
      by (same x t) (times_in t new) (times_in t mid) (times_in t old) (how_many (same t) (stamps ++ x ∷ [])) (how_many (same t) stamps) a b c;
  domain = λ b a d.
      let P : Stamp → Type 0 = λ s. in_domain b s ≡ true in
      one.domain b (each.domain b a (each-prefix P stamps (x ∷ []) d)) (each-suffix P stamps (x ∷ []) d).0;
}
  where
    by : (k : Bool) (n m o h g : ℕ) → m ≡ o + g → n ≡ cond k (m + 1) m → h ≡ g + cond k 1 0 → n ≡ o + h
    by true n m o h g a b c = omega (arith, a, b, c)
    by false n m o h g a b c = omega (arith, a, b, c)

stamps-last : (part : Option KeyPart) (sent : List (Stamp × Rec)) (x : Stamp × Rec)
    → stamps_of_part part (sent ++ x ∷ []) ≡ stamps_of_part part sent ++ cond (is_of_part_if part x.1.key) (x.0 ∷ []) []
stamps-last part [] x = by (is_of_part_if part x.1.key)
  where
    by : (b : Bool) → map (λ (s : Stamp × Rec). s.0) (cond b (x ∷ []) []) ≡ cond b (x.0 ∷ []) []
    by true = refl
    by false = refl
stamps-last part (y ∷ ys) x = by (is_of_part_if part y.1.key) (stamps-last part ys x)
  where
    of : List (Stamp × Rec) → List (Stamp × Rec)
    of sent = filter (λ (s : Stamp × Rec). is_of_part_if part s.1.key) sent

    by : (b : Bool) → stamps_of_part part (ys ++ x ∷ []) ≡ stamps_of_part part ys ++ cond (is_of_part_if part x.1.key) (x.0 ∷ []) []
        → map (λ (s : Stamp × Rec). s.0) (cond b (y ∷ of (ys ++ x ∷ [])) (of (ys ++ x ∷ [])))
        ≡ map (λ (s : Stamp × Rec). s.0) (cond b (y ∷ of ys) (of ys)) ++ cond (is_of_part_if part x.1.key) (x.0 ∷ []) []
    by true h = ap (λ ss. y.0 ∷ ss) h
    by false h = h

stamps-taken : (part : Option KeyPart) (sent : List (Stamp × Rec)) (i : ℕ) (x : Stamp × Rec) → i < length sent → x ≡ get_or sent i x
    → stamps_of_part part (take (i + 1) sent) ≡ stamps_of_part part (take i sent) ++ cond (is_of_part_if part x.1.key) (x.0 ∷ []) []
stamps-taken part sent i x l is =
    ap (stamps_of_part part) (take_more sent i x l ∙ ap (λ y. take i sent ++ y ∷ []) (sym is)) ∙ stamps-last part (take i sent) x

-- one more is counted for the next of the recs, if its key is of the part
pub each_more : (part : Option KeyPart) (sent : List (Stamp × Rec)) (i : ℕ) (x : Stamp × Rec) (old mid new : Entries) → i < length sent → x ≡ get_or sent i x
    → is_of_part_if part x.1.key ≡ true → HasEachMore (stamps_of_part part (take i sent)) old mid → HasOneMore x.0 mid new → HasEachMore (stamps_of_part part (take (i + 1) sent)) old new
each_more part sent i x old mid new l is k each one =
    subst (λ ss. HasEachMore ss old new) (sym (stamps-taken part sent i x l is ∙ ap (λ b. stamps_of_part part (take i sent) ++ cond b (x.0 ∷ []) []) k))
    (each_last (stamps_of_part part (take i sent)) x.0 old mid new each one)

pub each_same : (part : Option KeyPart) (sent : List (Stamp × Rec)) (i : ℕ) (x : Stamp × Rec) (old new : Entries) → i < length sent → x ≡ get_or sent i x
    → is_of_part_if part x.1.key ≡ false → HasEachMore (stamps_of_part part (take i sent)) old new → HasEachMore (stamps_of_part part (take (i + 1) sent)) old new
each_same part sent i x old new l is k each =
    subst (λ ss. HasEachMore ss old new)
    (sym (stamps-taken part sent i x l is ∙ ap (λ b. stamps_of_part part (take i sent) ++ cond b (x.0 ∷ []) []) k ∙ append-nil (stamps_of_part part (take i sent)))) each

-- ---- up to where there is none

-- up to a stamp that is inside there is none
pub none-inside : (entries : Entries) (t : Stamp) → inside (keys_of entries) t ≡ true → (s : Stamp) → leq s t ≡ true → times_in s entries ≡ 0
unfolding times_in
none-inside [] t i s l = refl
none-inside (e ∷ es) t i s l =
    let both = and_parts (not (leq e.0 t)) (inside (keys_of es) t) i in
    let other : is_at (stamp_cmp s) e.0 ≡ false = is_eq-same s e.0 ∙ false_from_ne_true (same s e.0) (λ k.
    both_ways (leq e.0 t) (not-true (leq e.0 t) both.0) (leq-trans e.0 s t (and_parts (leq s e.0) (leq e.0 s) k).1 l)) in
    ap (λ (b : Bool). unwrap_or (cond b (Some e.1) (lookup (is_at (stamp_cmp s)) es)) 0) other ∙ none-inside es t both.1 s l

pub inside-none : (entries : Entries) → AreCountsPositive entries → (t : Stamp) → ((s : Stamp) → leq s t ≡ true → times_in s entries ≡ 0) → inside (keys_of entries) t ≡ true
unfolding times_in
inside-none [] p t h = refl
inside-none (e ∷ es) p t h =
    and_from (not (leq e.0 t)) (inside (keys_of es) t)
    (ap not (false_from_ne_true (leq e.0 t) (λ k.
    let here : is_at (stamp_cmp e.0) e.0 ≡ true = is_eq-same e.0 e.0 ∙ same-refl e.0 in
    let z : e.1 ≡ 0 = sym (ap (λ (b : Bool). unwrap_or (cond b (Some e.1) (lookup (is_at (stamp_cmp e.0)) es)) 0) here) ∙ h e.0 k in
    let l = p.0 in
    absurd (omega arith))))
    (inside-none es p.1 t (λ s l. rest s (is_at (stamp_cmp s) e.0) (h s l)))
  where
    rest : (s : Stamp) (b : Bool) → unwrap_or (cond b (Some e.1) (lookup (is_at (stamp_cmp s)) es)) 0 ≡ 0 → unwrap_or (lookup (is_at (stamp_cmp s)) es) 0 ≡ 0
    rest s true z = let l = p.0 in absurd (omega arith)
    rest s false z = z

-- none of a stamp, and one of it
pub has_one-none : (t : Stamp) (entries : Entries) → has_one t entries ≡ false → times_in t entries ≡ 0
has_one-none t entries k = by (times_in t entries) k
  where
    by : (n : ℕ) → nat_lt 0 n ≡ false → n ≡ 0
    by n e = grind (arith, nat_tests)

pub none-has_one : (t : Stamp) (entries : Entries) → times_in t entries ≡ 0 → has_one t entries ≡ false
none-has_one t entries z = ap (nat_lt 0) z

-- ---- the lowest stamps

zeros-leq : (zs ys : Stamp) → length zs ≡ length ys → AllByRecursion (λ n. n ≡ 0) zs → leq zs ys ≡ true
zeros-leq [] [] e a = refl
zeros-leq [] (y ∷ ys) e a = absurd (omega arith)
zeros-leq (z ∷ zs) [] e a = absurd (omega arith)
zeros-leq (z ∷ zs) (y ∷ ys) e a = and_from (nat_le z y) (leq zs ys) (zero-le z y a.0) (zeros-leq zs ys (omega arith) a.1)
  where
    zero-le : (m n : ℕ) → m ≡ 0 → nat_le m n ≡ true
    zero-le m n k = grind (arith, nat_tests)

-- a stamp that begins an epoch is at most each one of as many coordinates that does not come before it in order
begins-leq : (s t : Stamp) → length s ≡ length t → AllByRecursion (λ n. n ≡ 0) (drop 1 s) → is_gt (stamp_cmp s t) ≡ false → leq s t ≡ true
begins-leq [] [] e a o = refl
begins-leq [] (y ∷ ys) e a o = absurd (omega arith)
begins-leq (x ∷ xs) [] e a o = absurd (omega arith)
begins-leq (x ∷ xs) (y ∷ ys) e a o = and_from (nat_le x y) (leq xs ys) (first x y (slice_cmp nat_cmp xs ys) o) (zeros-leq xs ys (omega arith) a)
  where
    first : (m n : ℕ) (p : Ordering) → is_gt (ordering_then (nat_cmp m n) p) ≡ false → nat_le m n ≡ true
    first m n p k = grind (arith, nat_tests)

inside-append : (xs ys : List Stamp) (t : Stamp) → inside (xs ++ ys) t ≡ (inside xs t && inside ys t)
inside-append [] ys t = refl
inside-append (x ∷ xs) ys t = ap (λ b. not (leq x t) && b) (inside-append xs ys t) ∙ sym (and_assoc (not (leq x t)) (inside xs t) (inside ys t))

-- what comes after a stamp in order
pub sorted-after : (xs : List Stamp) (s : Stamp) (ys : List Stamp) → IsStrictlySortedBy stamp_cmp (xs ++ s ∷ ys) → AllByRecursion (λ y. is_gt (stamp_cmp s y) ≡ false) ys
unfolding IsStrictlySortedBy
sorted-after [] s ys o = each-weaker (λ y. stamp_cmp s y ≡ Less) (λ y. is_gt (stamp_cmp s y) ≡ false) ys (λ y k. ap is_gt k) o.0
sorted-after (x ∷ xs) s ys o = sorted-after xs s ys o.1

above-outside : (s t : Stamp) (ys : List Stamp) → leq s t ≡ false → AllByRecursion (λ y. leq s y ≡ true) ys → inside ys t ≡ true
above-outside s t [] k a = refl
above-outside s t (y ∷ ys) k a =
    and_from (not (leq y t)) (inside ys t) (ap not (false_from_ne_true (leq y t) (λ l. both_ways (leq s t) k (leq-trans s y t a.0 l)))) (above-outside s t ys k a.1)

-- those up to one that begins an epoch are the lowest
pub lowest-begun : (xs : List Stamp) (s : Stamp) (ys all : List Stamp) → all ≡ xs ++ s ∷ ys → AllByRecursion (λ y. is_gt (stamp_cmp s y) ≡ false) ys → AllByRecursion (λ n. n ≡ 0) (drop 1 s) → AreLowest (xs ++ s ∷ []) all
lowest-begun xs s ys all e o z = record {
  among = λ b a. (parts b a).0;
  same = λ b a t.
      let rest : AllByRecursion (λ y. leq s y ≡ true) ys =
      each-weaker (λ y. (is_gt (stamp_cmp s y) ≡ false) × (in_domain b y ≡ true)) (λ y. leq s y ≡ true) ys
      (λ y k. begins-leq s y (domain-length b s (here b a) ∙ sym (domain-length b y k.1)) z k.0)
      (each-both (λ y. is_gt (stamp_cmp s y) ≡ false) (λ y. in_domain b y ≡ true) ys o (parts b a).1) in
      ap (λ c. in_domain b t && c) (by t rest (inside xs t) (leq s t) refl ∙ sym (ap (λ os. inside os t) e ∙ inside-append xs (s ∷ ys) t));
}
  where
    parts : (b : Bounds) → AllByRecursion (λ u. in_domain b u ≡ true) all → AllByRecursion (λ u. in_domain b u ≡ true) (xs ++ s ∷ []) × AllByRecursion (λ u. in_domain b u ≡ true) ys
    parts b a =
        let P : Stamp → Type 0 = λ u. in_domain b u ≡ true in
        let whole = subst (AllByRecursion P) e a in
        let last = each-suffix P xs (s ∷ ys) whole in
        (each-append P xs (s ∷ []) (each-prefix P xs (s ∷ ys) whole) (last.0, tt), last.1)

    here : (b : Bounds) → AllByRecursion (λ u. in_domain b u ≡ true) all → in_domain b s ≡ true
    here b a = (each-suffix (λ u. in_domain b u ≡ true) xs (s ∷ ys) (subst (AllByRecursion (λ u. in_domain b u ≡ true)) e a)).0

    by : (t : Stamp) → AllByRecursion (λ y. leq s y ≡ true) ys → (i l : Bool) → leq s t ≡ l → inside (xs ++ s ∷ []) t ≡ (inside xs t && (not (leq s t) && inside ys t))
    by t rest i true k = inside-append xs (s ∷ []) t ∙ ap (λ c. inside xs t && (not c && true)) k ∙ sym (ap (λ c. inside xs t && (not c && inside ys t)) k)
    by t rest i false k = inside-append xs (s ∷ []) t ∙ sym (ap (λ c. inside xs t && (not (leq s t) && c)) (above-outside s t ys k rest))

-- a first one that begins an epoch is the lowest
pub lowest-first : (entries : Entries) (s : Stamp) (n : ℕ) → slice_get entries 0 ≡ Some (s, n) → AllByRecursion (λ y. is_gt (stamp_cmp s y) ≡ false) (keys_of entries)
    → AllByRecursion (λ n. n ≡ 0) (drop 1 s) → AreLowest (s ∷ []) (keys_of entries)
lowest-first [] s n f o z = absurd (cc)
lowest-first (e ∷ es) s n f o z =
    let first : e.0 ≡ s = ap (λ (w : Option (Stamp × ℕ)). (unwrap_or w e).0) f in
    lowest-begun [] s (keys_of es) (e.0 ∷ keys_of es) (ap (λ k. k ∷ keys_of es) first) o.1 z

-- a front of the lowest stamps is one of all
pub until-lowest : (b : Bounds) (stamps all : List Stamp) (f : Front) → AreLowest stamps all → AllByRecursion (λ s. in_domain b s ≡ true) all → IsFrontOf b f (frontier_of b stamps)
    → IsFrontOf b f (frontier_of b all)
until-lowest b stamps all f l a n = record { canonical = n.canonical; same = λ t. n.same t ∙ l.same b a t }

-- ---- so many more

tail-sorted : (e : Stamp × ℕ) (es : Entries) → IsStrictlySortedBy stamp_cmp (keys_of (e ∷ es)) → IsStrictlySortedBy stamp_cmp (keys_of es)
unfolding IsStrictlySortedBy
tail-sorted e es o = o.1

counts-below : (f : Frontier) (at : Stamp) (n : ℕ) (es : Entries) → IsStrictlySortedBy stamp_cmp (keys_of es)
    → count_inside f (insert_entry stamp_cmp es at n) + cond (f at) (times_in at es) 0 ≡ count_inside f es + cond (f at) n 0
unfolding times_in
counts-below f at n [] o = by (f at)
  where
    by : (b : Bool) → cond b (n + 0) 0 + cond b 0 0 ≡ 0 + cond b n 0
    by true = omega arith
    by false = refl
counts-below f at n (e ∷ es) o = by (stamp_cmp at e.0) refl (counts-below f at n es (tail-sorted e es o))
  where
    Goal : List (Stamp × ℕ) → Type 0
    Goal new = count_inside f new + cond (f at) (times_in at (e ∷ es)) 0 ≡ count_inside f (e ∷ es) + cond (f at) n 0

    before : (b : Bool) (x : ℕ) → cond b (n + x) x + cond b 0 0 ≡ x + cond b n 0
    before true x = omega arith
    before false x = refl

    here : (b : Bool) (m x : ℕ) → cond b (n + x) x + cond b m 0 ≡ cond b (m + x) x + cond b n 0
    here true m x = omega arith
    here false m x = refl

    later : (b c : Bool) (m x y k : ℕ) → x + cond b k 0 ≡ y + cond b n 0 → cond c (m + x) x + cond b k 0 ≡ cond c (m + y) y + cond b n 0
    later b true m x y k e = omega (arith, e)
    later b false m x y k e = e

    found : (b : Bool) (x : ℕ) → is_at (stamp_cmp at) e.0 ≡ b → unwrap_or (cond (is_at (stamp_cmp at) e.0) (Some e.1) (lookup (is_at (stamp_cmp at)) es)) 0 ≡ unwrap_or (cond b (Some e.1) (lookup (is_at (stamp_cmp at)) es)) 0
    found b x k = ap (λ c. unwrap_or (cond c (Some e.1) (lookup (is_at (stamp_cmp at)) es)) 0) k

    by : (c : Ordering) → stamp_cmp at e.0 ≡ c → count_inside f (insert_entry stamp_cmp es at n) + cond (f at) (times_in at es) 0 ≡ count_inside f es + cond (f at) n 0
        → Goal (match_ordering c ((at, n) ∷ e ∷ es) ((e.0, n) ∷ es) (e ∷ insert_entry stamp_cmp es at n))
    by Less k ih =
        let absent : times_in at (e ∷ es) ≡ 0 = ap (λ w. unwrap_or w 0) (lookup-none (is_at (stamp_cmp at)) (e ∷ es) (none_below_head nat_list_cmp_total at e es o k)) in
        ap (λ m. cond (f at) (n + count_inside f (e ∷ es)) (count_inside f (e ∷ es)) + cond (f at) m 0) absent ∙ before (f at) (count_inside f (e ∷ es))
    by Equal k ih =
        let there : times_in at (e ∷ es) ≡ e.1 = found true 0 (ap is_eq k) in
        let one : f e.0 ≡ f at = ap f (sym (stamp_cmp-equal at e.0 (ap is_eq k))) in
        ap (λ m. cond (f e.0) (n + count_inside f es) (count_inside f es) + cond (f at) m 0) there
        ∙ ap (λ b. cond b (n + count_inside f es) (count_inside f es) + cond (f at) e.1 0) one
        ∙ here (f at) e.1 (count_inside f es)
        ∙ ap (λ b. cond b (e.1 + count_inside f es) (count_inside f es) + cond (f at) n 0) (sym one)
    by Greater k ih =
        let past : times_in at (e ∷ es) ≡ times_in at es = found false 0 (ap is_eq k) in
        ap (λ m. cond (f e.0) (e.1 + count_inside f (insert_entry stamp_cmp es at n)) (count_inside f (insert_entry stamp_cmp es at n)) + cond (f at) m 0) past
        ∙ later (f at) (f e.0) e.1 (count_inside f (insert_entry stamp_cmp es at n)) (count_inside f es) (times_in at es) ih

-- a number that is written over itself
pub insert-same : (es : Entries) (at : Stamp) (n : ℕ) → IsStrictlySortedBy stamp_cmp (keys_of es) → lookup (is_at (stamp_cmp at)) es ≡ Some n → insert_entry stamp_cmp es at n ≡ es
insert-same [] at n o h = absurd (cc)
insert-same (e ∷ es) at n o h = by (stamp_cmp at e.0) refl (insert-same es at n (tail-sorted e es o))
  where
    by : (c : Ordering) → stamp_cmp at e.0 ≡ c → (lookup (is_at (stamp_cmp at)) es ≡ Some n → insert_entry stamp_cmp es at n ≡ es)
        → match_ordering c ((at, n) ∷ e ∷ es) ((e.0, n) ∷ es) (e ∷ insert_entry stamp_cmp es at n) ≡ e ∷ es
    by Less k ih = let none = lookup-none (is_at (stamp_cmp at)) (e ∷ es) (none_below_head nat_list_cmp_total at e es o k) in absurd (cc)
    by Equal k ih =
        let there : Some e.1 ≡ Some n = sym (lookup_head (is_at (stamp_cmp at)) e es (ap is_eq k)) ∙ h in
        let same : e.1 ≡ n = cc in
        ap (λ m. (e.0, m) ∷ es) (sym same)
    by Greater k ih = ap (λ fs. e ∷ fs) (ih (sym (lookup_tail (is_at (stamp_cmp at)) e es (ap is_eq k)) ∙ h))

-- a number that cannot be raised is one that is there
pub held-over : (o : Option ℕ) (n more : ℕ) → n ≡ unwrap_or o 0 → more < 2 ^ 64 → 2 ^ 64 ≤ n + more → o ≡ Some n
held-over (Some m) n more e f l = ap Some (sym e)
held-over None n more e f l = absurd (omega (arith, e, f, l))

-- so many more of a stamp
pub many_more : (old new : Entries) (at : Stamp) (count n : ℕ) → 0 < count → n ≡ times_in at old + count → IsStrictlySortedBy stamp_cmp (keys_of old) → IsWith old at (Some n) new
    → new ≡ insert_entry stamp_cmp old at n → HasManyMore at count old new
many_more old new at count n some e o is entries = record {
  times = λ t. times-with old new at (Some n) is t ∙ cond-one (same at t) n (times_in t old + count) (times_in t old) (λ k. e ∙ ap (λ m. m + count) (times-same old at t k));
  counts = λ f. ap (count_inside f) entries ∙ more f (f at) (count_inside f (insert_entry stamp_cmp old at n)) (count_inside f old) (counts-below f at n old o);
  domain = λ b a d. subst (IsTallyOf b) (sym entries) (tally-insert b at n d (omega (arith, e, some)) old a);
}
  where
    more : (f : Frontier) (b : Bool) (x y : ℕ) → x + cond b (times_in at old) 0 ≡ y + cond b n 0 → x ≡ y + cond b count 0
    more f true x y k = omega (arith, k, e)
    more f false x y k = omega (arith, k)

pub none_more : (old : Entries) (at : Stamp) (count : ℕ) → count ≡ 0 → HasManyMore at count old old
none_more old at count z = record {
  times = λ t. one (same at t) (times_in t old);
  counts = λ f. two (f at) (count_inside f old);
  domain = λ b a d. a;
}
  where
    one : (b : Bool) (n : ℕ) → n ≡ cond b (n + count) n
    one true n = omega (arith, z)
    one false n = refl

    two : (b : Bool) (n : ℕ) → n ≡ n + cond b count 0
    two true n = omega (arith, z)
    two false n = omega arith

-- ---- a copy

-- what holds of all keys holds of one in their midst
key-among : (P : Stamp → Type 0) (es : Entries) (e : Stamp × ℕ) (rest : Entries) → AllByRecursion P (keys_of (es ++ e ∷ rest)) → P e.0
key-among P [] e rest a = a.0
key-among P (x ∷ es) e rest a = key-among P es e rest a.1

-- a stamp that comes after all others is put last
pub insert-last : (es : Entries) (e : Stamp × ℕ) (rest : Entries) → IsStrictlySortedBy stamp_cmp (keys_of (es ++ e ∷ rest)) → insert_entry stamp_cmp es e.0 e.1 ≡ es ++ e ∷ []
unfolding IsStrictlySortedBy
insert-last [] e rest o = refl
insert-last (x ∷ es) e rest o =
    let more : stamp_cmp e.0 x.0 ≡ Greater = stamp_total.antisymm e.0 x.0 ∙ ap ordering_reverse (key-among (λ y. stamp_cmp x.0 y ≡ Less) es e rest o.0) in
    ap (λ c. match_ordering c ((e.0, e.1) ∷ x ∷ es) ((x.0, e.1) ∷ es) (x ∷ insert_entry stamp_cmp es e.0 e.1)) more ∙ ap (λ ys. x ∷ ys) (insert-last es e rest o.1)
