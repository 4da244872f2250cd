-- What lists of a root say is pending and owed is what counts say of each edge and node.
use Rattle.std.proofs.Common.{◌≡◌, ℕ, zero, suc, ◌+◌, ◌<◌, ◌≤◌, Bool, true, false, ◌&&◌, ◌||◌, ◌==◌, nat_lt, cond, List, [], ◌∷◌, ◌++◌, map, Some, refl, sym, ap, subst, ◌∙◌, inl, inr, arith}
use Rattle.std.specs.Prelude.{unwrap_or}
use Rattle.std.specs.List.{AllByRecursion, flat_map, range_with_len}
use Rattle.std.specs.List.Sorted.{IsStrictlySortedBy}
use Rattle.std.specs.BTreeMap.{is_at}
use Rattle.std.specs.Map.{keys_of, lookup}
use Rattle.std.specs.declared.cmp.Ordering.TheVariants.{Less, Equal}
use Rattle.std.proofs.lemmas.Bool.{cases_Bool, cases_eq, eq-eqb, false_from_ne_true, lt-ltb, ne_eqb}
use Rattle.std.proofs.lemmas.Cmp.{nat_list_cmp_total, tied_itself}
use Rattle.fw_lemmas.proofs.Lists.{joined_more}
use Rattle.fw_lemmas.proofs.Each.{each-weaker}
use Rattle.fw_time.specs.Stamp.{Stamp, same, stamp_cmp}
use Rattle.fw_time.proofs.StampLaws.{same-is}
use Rattle.fw_flow.specs.Counting.{how_many}
use Rattle.fw_flow.specs.declared.event.Message.{Message}
use Rattle.fw_progress.specs.declared.counts.Counts.{Counts}
use Rattle.fw_progress.specs.Counts.{owed_of, pending_of}
use Rattle.fw_progress.specs.History.{count_at}
use Rattle.fw_progress.specs.Tally.{has_one, times_in, AreCountsPositive}
use Rattle.fw_progress.proofs.TallyLaws.{is_eq-same, same-flip}
use Rattle.fw_regain.specs.RootOf.{is_said_owed, pending_said}
use Rattle.fw_root.specs.declared.root.OwedAt.{OwedAt}
use Rattle.fw_root.specs.declared.root.PendingAt.{PendingAt}
use Rattle.fw_resume.specs.Counted.{ArePendingOf, AreOwedOf, owed_to, pending_on}

-- no stamp is in order
pub in_order-none : (es : List (Stamp × ℕ)) → es ≡ [] → IsStrictlySortedBy stamp_cmp (keys_of es)
unfolding IsStrictlySortedBy
in_order-none es e = subst (λ (xs : List (Stamp × ℕ)). IsStrictlySortedBy stamp_cmp (keys_of xs)) (sym e) tt

-- ---- lists edge by edge

pub pending_none : (counts : Counts) (all : List PendingAt) → all ≡ [] → ArePendingOf counts 0 all
pending_none counts all e = record { each = e; in_order = λ d l. absurd (omega (arith, l)) }

pub pending_more : (counts : Counts) (n : ℕ) (old new : List PendingAt) (es : List (Stamp × ℕ)) → ArePendingOf counts n old → new ≡ old ++ map (pending_on n) es
    → es ≡ pending_of counts n → IsStrictlySortedBy stamp_cmp (keys_of es) → ArePendingOf counts (n + 1) new
pending_more counts n old new es a e is o =
    let make : ℕ → List PendingAt = λ d. map (pending_on d) (pending_of counts d) in record {
      each = e ∙ ap (λ xs. xs ++ map (pending_on n) es) a.each ∙ ap (λ xs. flat_map make (range_with_len 0 n) ++ map (pending_on n) xs) is ∙ sym (joined_more make n);
      in_order = λ d l. elim (cases_eq d n) [
        | inl k ↦ subst (λ x. IsStrictlySortedBy stamp_cmp (keys_of (pending_of counts x))) (sym k) (subst (λ xs. IsStrictlySortedBy stamp_cmp (keys_of xs)) is o)
        | inr k ↦ a.in_order d (omega (arith, l, k))
      ];
    }

pub owed_none : (counts : Counts) (all : List OwedAt) → all ≡ [] → AreOwedOf counts 0 all
owed_none counts all e = record { each = e; in_order = λ d l. absurd (omega (arith, l)) }

pub owed_more : (counts : Counts) (n : ℕ) (old new : List OwedAt) (es : List (Stamp × ℕ)) → AreOwedOf counts n old → new ≡ old ++ map (owed_to n) es
    → es ≡ owed_of counts n → IsStrictlySortedBy stamp_cmp (keys_of es) → AreOwedOf counts (n + 1) new
owed_more counts n old new es a e is o =
    let make : ℕ → List OwedAt = λ d. map (owed_to d) (owed_of counts d) in record {
      each = e ∙ ap (λ xs. xs ++ map (owed_to n) es) a.each ∙ ap (λ xs. flat_map make (range_with_len 0 n) ++ map (owed_to n) xs) is ∙ sym (joined_more make n);
      in_order = λ d l. elim (cases_eq d n) [
        | inl k ↦ subst (λ x. IsStrictlySortedBy stamp_cmp (keys_of (owed_of counts x))) (sym k) (subst (λ xs. IsStrictlySortedBy stamp_cmp (keys_of xs)) is o)
        | inr k ↦ a.in_order d (omega (arith, l, k))
      ];
    }

-- ---- of each stamp once

-- how many there are of a stamp, however often it stands there
abbrev pub sum_at : Stamp → List (Stamp × ℕ) → ℕ
sum_at t [] = 0
sum_at t (e ∷ es) = cond (same e.0 t) (e.1 + sum_at t es) (sum_at t es)

none-at : (t : Stamp) (es : List (Stamp × ℕ)) → AllByRecursion (λ s. same s t ≡ false) (keys_of es) → sum_at t es ≡ 0
none-at t [] a = refl
none-at t (e ∷ es) a = ap (λ b. cond b (e.1 + sum_at t es) (sum_at t es)) a.0 ∙ none-at t es a.1

later-differs : (s k t : Stamp) → stamp_cmp s k ≡ Less → same s t ≡ true → same k t ≡ false
later-differs s k t l e = false_from_ne_true (same k t) (λ i.
    let a : s ≡ t = same-is s t e in
    let b : k ≡ t = same-is k t i in
    let c : stamp_cmp s k ≡ Equal = ap (λ u. stamp_cmp s u) (b ∙ sym a) ∙ tied_itself nat_list_cmp_total s in
    let d : Less ≡ Equal = sym l ∙ c in absurd (cc))

sum-times : (t : Stamp) (es : List (Stamp × ℕ)) → IsStrictlySortedBy stamp_cmp (keys_of es) → sum_at t es ≡ times_in t es
unfolding IsStrictlySortedBy times_in
sum-times t [] o = refl
sum-times t (e ∷ es) o = elim (cases_Bool (same e.0 t)) [
  | inl k ↦
      let none = none-at t es (each-weaker (λ s. stamp_cmp e.0 s ≡ Less) (λ s. same s t ≡ false) (keys_of es) (λ s l. later-differs e.0 s t l k) o.0) in
      ap (λ b. cond b (e.1 + sum_at t es) (sum_at t es)) k ∙ ap (λ n. e.1 + n) none ∙ plain e.1
      ∙ sym (ap (λ b. unwrap_or (cond b (Some e.1) (lookup (is_at (stamp_cmp t)) es)) 0) (is_eq-same t e.0 ∙ same-flip t e.0 ∙ k))
  | inr k ↦
      ap (λ b. cond b (e.1 + sum_at t es) (sum_at t es)) k ∙ sum-times t es o.1
      ∙ sym (ap (λ b. unwrap_or (cond b (Some e.1) (lookup (is_at (stamp_cmp t)) es)) 0) (is_eq-same t e.0 ∙ same-flip t e.0 ∙ k))
]
  where
    plain : (n : ℕ) → n + 0 ≡ n
    plain n = omega arith

-- ---- pending

said-append : (xs ys : List PendingAt) (e : ℕ) (t : Stamp) → pending_said (xs ++ ys) e t ≡ pending_said xs e t + pending_said ys e t
said-append [] ys e t = omega arith
said-append (x ∷ xs) ys e t = by (x.edge == e && same x.at t) (said-append xs ys e t)
  where
    by : (b : Bool) → pending_said (xs ++ ys) e t ≡ pending_said xs e t + pending_said ys e t
        → cond b (x.count + pending_said (xs ++ ys) e t) (pending_said (xs ++ ys) e t) ≡ cond b (x.count + pending_said xs e t) (pending_said xs e t) + pending_said ys e t
    by true r = omega (arith, r)
    by false r = r

said-on : (d e : ℕ) (t : Stamp) (es : List (Stamp × ℕ)) → pending_said (map (pending_on d) es) e t ≡ cond (d == e) (sum_at t es) 0
said-on d e t [] = none (d == e)
  where
    none : (b : Bool) → ◌≡◌ {A = ℕ} 0 (cond b 0 0)
    none true = refl
    none false = refl
said-on d e t (x ∷ es) = by (d == e) (said-on d e t es)
  where
    by : (b : Bool) → pending_said (map (pending_on d) es) e t ≡ cond b (sum_at t es) 0
        → cond (b && same x.0 t) (x.1 + pending_said (map (pending_on d) es) e t) (pending_said (map (pending_on d) es) e t)
        ≡ cond b (cond (same x.0 t) (x.1 + sum_at t es) (sum_at t es)) 0
    by true r = ap (λ n. cond (same x.0 t) (x.1 + n) n) r
    by false r = r

zero-plus : (n : ℕ) → 0 + n ≡ n
zero-plus n = omega arith

said-past : (f : ℕ → List (Stamp × ℕ)) (a n e : ℕ) (t : Stamp) → e < a → pending_said (flat_map (λ d. map (pending_on d) (f d)) (range_with_len a n)) e t ≡ 0
said-past f a zero e t l = refl
said-past f a (suc n) e t l =
    said-append (map (pending_on a) (f a)) (flat_map (λ d. map (pending_on d) (f d)) (range_with_len (a + 1) n)) e t
    ∙ ap (λ k. k + pending_said (flat_map (λ d. map (pending_on d) (f d)) (range_with_len (a + 1) n)) e t)
    (said-on a e t (f a) ∙ ap (λ b. cond b (sum_at t (f a)) 0) (ne_eqb a e (λ q. absurd (omega (arith, q, l)))))
    ∙ zero-plus (pending_said (flat_map (λ d. map (pending_on d) (f d)) (range_with_len (a + 1) n)) e t) ∙ said-past f (a + 1) n e t (omega (arith, l))

pub said-there : (f : ℕ → List (Stamp × ℕ)) (a n e : ℕ) (t : Stamp) → a ≤ e → e < a + n
    → pending_said (flat_map (λ d. map (pending_on d) (f d)) (range_with_len a n)) e t ≡ sum_at t (f e)
said-there f a zero e t l m = absurd (omega (arith, l, m))
said-there f a (suc n) e t l m =
    let rest = pending_said (flat_map (λ d. map (pending_on d) (f d)) (range_with_len (a + 1) n)) e t in
    let apart = said-append (map (pending_on a) (f a)) (flat_map (λ d. map (pending_on d) (f d)) (range_with_len (a + 1) n)) e t in
    elim (cases_eq a e) [
      | inl k ↦
          let none : rest ≡ 0 = said-past f (a + 1) n e t (omega (arith, k)) in
          apart ∙ ap (λ b. b + rest) (said-on a e t (f a) ∙ ap (λ b. cond b (sum_at t (f a)) 0) (eq-eqb a e k)) ∙ ap (λ b. sum_at t (f a) + b) none
          ∙ plain (sum_at t (f a)) ∙ ap (λ d. sum_at t (f d)) k
      | inr k ↦
          apart ∙ ap (λ b. b + rest) (said-on a e t (f a) ∙ ap (λ b. cond b (sum_at t (f a)) 0) (ne_eqb a e k))
          ∙ zero-plus rest ∙ said-there f (a + 1) n e t (omega (arith, l, k)) (omega (arith, m))
    ]
  where
    plain : (n : ℕ) → n + 0 ≡ n
    plain n = omega arith

said-beyond : (f : ℕ → List (Stamp × ℕ)) (a n e : ℕ) (t : Stamp) → a + n ≤ e → pending_said (flat_map (λ d. map (pending_on d) (f d)) (range_with_len a n)) e t ≡ 0
said-beyond f a zero e t l = refl
said-beyond f a (suc n) e t l =
    said-append (map (pending_on a) (f a)) (flat_map (λ d. map (pending_on d) (f d)) (range_with_len (a + 1) n)) e t
    ∙ ap (λ k. k + pending_said (flat_map (λ d. map (pending_on d) (f d)) (range_with_len (a + 1) n)) e t)
    (said-on a e t (f a) ∙ ap (λ b. cond b (sum_at t (f a)) 0) (ne_eqb a e (λ q. absurd (omega (arith, q, l)))))
    ∙ zero-plus (pending_said (flat_map (λ d. map (pending_on d) (f d)) (range_with_len (a + 1) n)) e t) ∙ said-beyond f (a + 1) n e t (omega (arith, l))

pub pending_told : (counts : Counts) (n : ℕ) (all : List PendingAt) → ArePendingOf counts n all → (e : ℕ) → e < n → (t : Stamp) → pending_said all e t ≡ times_in t (pending_of counts e)
pending_told counts n all a e l t =
    ap (λ xs. pending_said xs e t) a.each ∙ said-there (pending_of counts) 0 n e t (omega arith) (omega (arith, l)) ∙ sum-times t (pending_of counts e) (a.in_order e l)

pub pending_beyond : (counts : Counts) (n : ℕ) (all : List PendingAt) → ArePendingOf counts n all → (e : ℕ) → n ≤ e → (t : Stamp) → pending_said all e t ≡ 0
pending_beyond counts n all a e l t = ap (λ xs. pending_said xs e t) a.each ∙ said-beyond (pending_of counts) 0 n e t (omega (arith, l))

pub count-flip : (t : Stamp) (ms : List Message) → count_at t ms ≡ how_many (λ (m : Message). same m.at t) ms
count-flip t [] = refl
count-flip t (m ∷ ms) =
    ap (λ b. cond b (count_at t ms + 1) (count_at t ms)) (same-flip t m.at) ∙ ap (λ n. cond (same m.at t) (n + 1) n) (count-flip t ms)

-- ---- owed

owed-append : (xs ys : List OwedAt) (p : ℕ) (t : Stamp) → is_said_owed (xs ++ ys) p t ≡ (is_said_owed xs p t || is_said_owed ys p t)
owed-append [] ys p t = refl
owed-append (x ∷ xs) ys p t = ap (λ b. (x.node == p && same x.at t) || b) (owed-append xs ys p t) ∙ assoc (x.node == p && same x.at t)
  where
    assoc : (a : Bool) → (a || (is_said_owed xs p t || is_said_owed ys p t)) ≡ ((a || is_said_owed xs p t) || is_said_owed ys p t)
    assoc true = refl
    assoc false = refl

abbrev pub some_at : Stamp → List (Stamp × ℕ) → Bool
some_at t [] = false
some_at t (e ∷ es) = same e.0 t || some_at t es

owed-on : (d p : ℕ) (t : Stamp) (es : List (Stamp × ℕ)) → is_said_owed (map (owed_to d) es) p t ≡ ((d == p) && some_at t es)
owed-on d p t [] = none (d == p)
  where
    none : (b : Bool) → false ≡ (b && false)
    none true = refl
    none false = refl
owed-on d p t (x ∷ es) = ap (λ c. ((d == p) && same x.0 t) || c) (owed-on d p t es) ∙ by (d == p)
  where
    by : (b : Bool) → ((b && same x.0 t) || (b && some_at t es)) ≡ (b && (same x.0 t || some_at t es))
    by true = refl
    by false = refl

owed-past : (f : ℕ → List (Stamp × ℕ)) (a n p : ℕ) (t : Stamp) → p < a → is_said_owed (flat_map (λ d. map (owed_to d) (f d)) (range_with_len a n)) p t ≡ false
owed-past f a zero p t l = refl
owed-past f a (suc n) p t l =
    owed-append (map (owed_to a) (f a)) (flat_map (λ d. map (owed_to d) (f d)) (range_with_len (a + 1) n)) p t
    ∙ ap (λ k. k || is_said_owed (flat_map (λ d. map (owed_to d) (f d)) (range_with_len (a + 1) n)) p t)
    (owed-on a p t (f a) ∙ ap (λ b. b && some_at t (f a)) (ne_eqb a p (λ q. absurd (omega (arith, q, l)))))
    ∙ owed-past f (a + 1) n p t (omega (arith, l))

owed-there : (f : ℕ → List (Stamp × ℕ)) (a n p : ℕ) (t : Stamp) → a ≤ p → p < a + n → is_said_owed (flat_map (λ d. map (owed_to d) (f d)) (range_with_len a n)) p t ≡ some_at t (f p)
owed-there f a zero p t l m = absurd (omega (arith, l, m))
owed-there f a (suc n) p t l m =
    let rest = is_said_owed (flat_map (λ d. map (owed_to d) (f d)) (range_with_len (a + 1) n)) p t in
    let apart = owed-append (map (owed_to a) (f a)) (flat_map (λ d. map (owed_to d) (f d)) (range_with_len (a + 1) n)) p t in
    elim (cases_eq a p) [
      | inl k ↦
          let none : rest ≡ false = owed-past f (a + 1) n p t (omega (arith, k)) in
          apart ∙ ap (λ b. b || rest) (owed-on a p t (f a) ∙ ap (λ b. b && some_at t (f a)) (eq-eqb a p k)) ∙ ap (λ b. some_at t (f a) || b) none
          ∙ plain (some_at t (f a)) ∙ ap (λ d. some_at t (f d)) k
      | inr k ↦
          apart ∙ ap (λ b. b || rest) (owed-on a p t (f a) ∙ ap (λ b. b && some_at t (f a)) (ne_eqb a p k))
          ∙ owed-there f (a + 1) n p t (omega (arith, l, k)) (omega (arith, m))
    ]
  where
    plain : (b : Bool) → (b || false) ≡ b
    plain true = refl
    plain false = refl

owed-beyond : (f : ℕ → List (Stamp × ℕ)) (a n p : ℕ) (t : Stamp) → a + n ≤ p → is_said_owed (flat_map (λ d. map (owed_to d) (f d)) (range_with_len a n)) p t ≡ false
owed-beyond f a zero p t l = refl
owed-beyond f a (suc n) p t l =
    owed-append (map (owed_to a) (f a)) (flat_map (λ d. map (owed_to d) (f d)) (range_with_len (a + 1) n)) p t
    ∙ ap (λ k. k || is_said_owed (flat_map (λ d. map (owed_to d) (f d)) (range_with_len (a + 1) n)) p t)
    (owed-on a p t (f a) ∙ ap (λ b. b && some_at t (f a)) (ne_eqb a p (λ q. absurd (omega (arith, q, l)))))
    ∙ owed-beyond f (a + 1) n p t (omega (arith, l))

-- where each number is at least one, one is there exactly of the stamps that stand there
some-one : (t : Stamp) (es : List (Stamp × ℕ)) → AreCountsPositive es → some_at t es ≡ has_one t es
unfolding times_in
some-one t [] a = refl
some-one t (e ∷ es) a = elim (cases_Bool (same e.0 t)) [
  | inl k ↦
      ap (λ b. b || some_at t es) k ∙ sym (lt-ltb 0 e.1 a.0)
      ∙ sym (ap (λ b. nat_lt 0 (unwrap_or (cond b (Some e.1) (lookup (is_at (stamp_cmp t)) es)) 0)) (is_eq-same t e.0 ∙ same-flip t e.0 ∙ k))
  | inr k ↦
      ap (λ b. b || some_at t es) k ∙ some-one t es a.1
      ∙ sym (ap (λ b. nat_lt 0 (unwrap_or (cond b (Some e.1) (lookup (is_at (stamp_cmp t)) es)) 0)) (is_eq-same t e.0 ∙ same-flip t e.0 ∙ k))
]

pub owed_told : (counts : Counts) (n : ℕ) (all : List OwedAt) → AreOwedOf counts n all → (p : ℕ) → p < n → AreCountsPositive (owed_of counts p) → (t : Stamp)
    → is_said_owed all p t ≡ has_one t (owed_of counts p)
owed_told counts n all a p l k t =
    ap (λ xs. is_said_owed xs p t) a.each ∙ owed-there (owed_of counts) 0 n p t (omega arith) (omega (arith, l)) ∙ some-one t (owed_of counts p) k

pub owed_beyond : (counts : Counts) (n : ℕ) (all : List OwedAt) → AreOwedOf counts n all → (p : ℕ) → n ≤ p → (t : Stamp) → is_said_owed all p t ≡ false
owed_beyond counts n all a p l t = ap (λ xs. is_said_owed xs p t) a.each ∙ owed-beyond (owed_of counts) 0 n p t (omega (arith, l))
