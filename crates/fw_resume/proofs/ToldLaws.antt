-- What a root tells of counts, one part after the other.
use Rattle.std.proofs.Common.{◌≡◌, ℕ, zero, suc, ◌+◌, ◌-◌, ◌<◌, ◌≤◌, ◌^◌, Bool, true, false, ◌&&◌, ◌||◌, ◌==◌, cond, List, [], ◌∷◌, ◌++◌, length, get_or, take, refl, sym, ap, subst, ◌∙◌, inl, inr, arith}
use Rattle.std.specs.Prelude.{nat_lt, slice_get, slice_index}
use Rattle.std.specs.List.{AllByRecursion, AllZip}
use Rattle.std.specs.Option.{option_map_or}
use Rattle.std.specs.Ordering.{is_lt}
use Rattle.std.proofs.lemmas.Bool.{and_parts, cases_eq, eq-eqb, eqb-true, false_from_ne_true, lt-ltb, ltb-true}
use Rattle.std.proofs.lemmas.Bool.Decides.{nat_tests}
use Rattle.std.proofs.lemmas.List.{length-map, map-append, take_more}
use Rattle.std.proofs.lemmas.List.Folds.{list_any-append}
use Rattle.std.proofs.lemmas.List.Sorted.{IsNonDecreasingBy-push, IsNonDecreasingBy-take}
use Rattle.std.proofs.lemmas.Option.{slice_get-get_or}
use Rattle.fw_lemmas.proofs.Each.{each-weaker}
use Rattle.fw_time.specs.Stamp.{Stamp, same, stamp_cmp, in_domain}
use Rattle.fw_frontier.specs.declared.state.SentCount.{SentCount}
use Rattle.fw_bytes.specs.Sound.{IsList, IsSentCount, after_last, each_may_follow, may_follow_counts}
use Rattle.fw_flow.specs.Dataflow.{Dataflow, bounds_of, receiver}
use Rattle.fw_flow.specs.Projection.{first_coordinate}
use Rattle.fw_flow.specs.SentTable.{EpochsAscend}
use Rattle.fw_progress.specs.Progress.{ChangesAt}
use Rattle.fw_progress.specs.Tally.{times_in, has_one, IsTallyOf, HasManyMore}
use Rattle.fw_progress.proofs.AloneLaws.{none-times}
use Rattle.fw_progress.proofs.StartLaws.{all-alike}
use Rattle.fw_root.specs.Sound.{IsOwedAt, IsPendingAt, may_follow_owed, may_follow_pending, may_follow_sends, comes_before, AreCountsOfSequence}
use Rattle.fw_root.specs.declared.root.OwedAt.{OwedAt}
use Rattle.fw_root.specs.declared.root.PendingAt.{PendingAt}
use Rattle.fw_regain.specs.RootOf.{pending_said, is_said_owed, table_said}
use Rattle.fw_resume.specs.Told.{AreGoodSends, IsPendingOf, IsOwedOf, ArePendingTold, AreOwedTold}

-- ---- lists in which each may follow

follow-each : {A : Type 0} (rule : List A → A → Bool) (P : A → Type 0) → ((before : List A) (x : A) → rule before x ≡ true → P x) → (before xs : List A)
    → each_may_follow rule before xs ≡ true → AllByRecursion P xs
follow-each rule P f before [] k = tt
follow-each rule P f before (x ∷ xs) k =
    let a = and_parts (rule before x) (each_may_follow rule (before ++ x ∷ []) xs) k in (f before x a.0, follow-each rule P f (before ++ x ∷ []) xs a.1)

pub pending-each : (flow : Dataflow) (ps : List PendingAt) → IsList (2 ^ 64) IsPendingAt (may_follow_pending flow) ps → AllByRecursion (IsPendingOf flow) ps
pending-each flow ps l = follow-each (may_follow_pending flow) (IsPendingOf flow) one [] ps l.follow
  where
    one : (before : List PendingAt) (p : PendingAt) → may_follow_pending flow before p ≡ true → IsPendingOf flow p
    one before p k =
        let last = after_last (λ last next. comes_before last.edge last.at next.edge next.at) before p in
        let a = and_parts (nat_lt p.edge (length flow.edges)) (in_domain (bounds_of flow (receiver flow p.edge)) p.at && (nat_lt 0 p.count && last)) k in
        record { edge = ltb-true p.edge (length flow.edges) a.0; at = (and_parts (in_domain (bounds_of flow (receiver flow p.edge)) p.at) (nat_lt 0 p.count && last) a.1).0 }

pub owed-each : (flow : Dataflow) (os : List OwedAt) → IsList (2 ^ 64) IsOwedAt (may_follow_owed flow) os → AllByRecursion (IsOwedOf flow) os
owed-each flow os l = follow-each (may_follow_owed flow) (IsOwedOf flow) one [] os l.follow
  where
    one : (before : List OwedAt) (o : OwedAt) → may_follow_owed flow before o ≡ true → IsOwedOf flow o
    one before o k =
        let last = after_last (λ last next. comes_before last.node last.at next.node next.at) before o in
        let a = and_parts (nat_lt o.node (length flow.nodes)) (in_domain (bounds_of flow o.node) o.at && last) k in
        record { node = ltb-true o.node (length flow.nodes) a.0; at = (and_parts (in_domain (bounds_of flow o.node) o.at) last a.1).0 }

-- ---- what is pending

said-step : (a b : Bool) (n c r s : ℕ) → s ≡ cond b (r + c) r → cond a (n + s) s ≡ cond b (cond a (n + r) r + c) (cond a (n + r) r)
said-step true true n c r s e = omega (arith, e)
said-step true false n c r s e = ap (λ x. n + x) e
said-step false true n c r s e = e
said-step false false n c r s e = e

said-more : (said : List PendingAt) (x : PendingAt) (e : ℕ) (t : Stamp)
    → pending_said (said ++ x ∷ []) e t ≡ cond (x.edge == e && same x.at t) (pending_said said e t + x.count) (pending_said said e t)
said-more [] x e t = by (x.edge == e && same x.at t)
  where
    by : (b : Bool) → cond b (x.count + 0) 0 ≡ cond b (0 + x.count) 0
    by true = omega arith
    by false = refl
said-more (y ∷ said) x e t =
    said-step (y.edge == e && same y.at t) (x.edge == e && same x.at t) y.count x.count (pending_said said e t) (pending_said (said ++ x ∷ []) e t) (said-more said x e t)

pub pending-none : (flow : Dataflow) (tallies : List (List (Stamp × ℕ))) → length tallies ≡ length flow.edges → AllByRecursion (λ y. y ≡ []) tallies
    → ArePendingTold flow [] tallies
pending-none flow tallies l a = record {
  one_each = l;
  times = λ e k t. ap (times_in t) (all-alike [] tallies a e) ∙ none-times t;
  of_domain = λ e k. subst (IsTallyOf (bounds_of flow (receiver flow e))) (sym (all-alike [] tallies a e)) (record { of_domain = tt; positive = tt });
}

pub pending-more : (flow : Dataflow) (said : List PendingAt) (i : ℕ) (x : PendingAt) (old new : List (List (Stamp × ℕ))) → i < length said → x ≡ get_or said i x
    → IsPendingOf flow x → ArePendingTold flow (take i said) old → ChangesAt x.edge [] (HasManyMore x.at x.count) old new → ArePendingTold flow (take (i + 1) said) new
pending-more flow said i x old new l is p a c = record {
  one_each = c.one_each ∙ a.one_each;
  times = λ e k t.
      let sum = pending_said (take i said) e t in
      let to : Bool → ℕ = λ b. cond b (sum + x.count) sum in
      let now : pending_said (take (i + 1) said) e t ≡ to (x.edge == e && same x.at t) = ap (λ xs. pending_said xs e t) all ∙ said-more (take i said) x e t in
      let was = a.times e k t in
      elim (cases_eq e x.edge) [
        | inl here ↦
            let h = subst (λ d. HasManyMore x.at x.count (get_or old d []) (get_or new d [])) (sym here) c.here in
            h.times t ∙ ap (λ n. cond (same x.at t) (n + x.count) n) was ∙ ap (λ b. to (b && same x.at t)) (sym (eq-eqb x.edge e (sym here))) ∙ sym now
        | inr other ↦
            ap (times_in t) (c.others e other) ∙ was ∙ ap (λ b. to (b && same x.at t)) (sym (false_from_ne_true (x.edge == e) (λ k. other (sym (eqb-true x.edge e k))))) ∙ sym now
      ];
  of_domain = λ e k. elim (cases_eq e x.edge) [
    | inl here ↦
        subst (λ d. IsTallyOf (bounds_of flow (receiver flow d)) (get_or new d [])) (sym here)
        (c.here.domain (bounds_of flow (receiver flow x.edge)) (a.of_domain x.edge p.edge) p.at)
    | inr other ↦ subst (IsTallyOf (bounds_of flow (receiver flow e))) (sym (c.others e other)) (a.of_domain e k)
  ];
}
  where
    all : take (i + 1) said ≡ take i said ++ x ∷ []
    all = take_more said i x l ∙ ap (λ y. take i said ++ y ∷ []) (sym is)

-- ---- what is owed

pub owed-none : (flow : Dataflow) (tallies : List (List (Stamp × ℕ))) → length tallies ≡ length flow.nodes → AllByRecursion (λ y. y ≡ []) tallies
    → AreOwedTold flow [] tallies
owed-none flow tallies l a = record {
  one_each = l;
  has = λ p k t. ap (has_one t) (all-alike [] tallies a p) ∙ ap (nat_lt 0) (none-times t);
  of_domain = λ p k. subst (IsTallyOf (bounds_of flow p)) (sym (all-alike [] tallies a p)) (record { of_domain = tt; positive = tt });
}

has-step : (s b : Bool) (n : ℕ) → nat_lt 0 n ≡ b → nat_lt 0 (cond s (n + 1) n) ≡ b || (s || false)
has-step true true n e = lt-ltb 0 (n + 1) (omega arith)
has-step true false n e = lt-ltb 0 (n + 1) (omega arith)
has-step false true n e = e
has-step false false n e = e

or-nothing : (b : Bool) → b ≡ b || false
or-nothing true = refl
or-nothing false = refl

pub owed-more : (flow : Dataflow) (said : List OwedAt) (i : ℕ) (x : OwedAt) (old new : List (List (Stamp × ℕ))) → i < length said → x ≡ get_or said i x
    → IsOwedOf flow x → AreOwedTold flow (take i said) old → ChangesAt x.node [] (HasManyMore x.at 1) old new → AreOwedTold flow (take (i + 1) said) new
owed-more flow said i x old new l is p a c = record {
  one_each = c.one_each ∙ a.one_each;
  has = λ q k t.
      let before = is_said_owed (take i said) q t in
      let now : is_said_owed (take (i + 1) said) q t ≡ before || ((x.node == q && same x.at t) || false) =
      ap (λ xs. is_said_owed xs q t) all ∙ list_any-append (λ (o : OwedAt). o.node == q && same o.at t) (take i said) (x ∷ []) in
      let was = a.has q k t in
      elim (cases_eq q x.node) [
        | inl here ↦
            let h = subst (λ d. HasManyMore x.at 1 (get_or old d []) (get_or new d [])) (sym here) c.here in
            ap (nat_lt 0) (h.times t) ∙ has-step (same x.at t) before (times_in t (get_or old q [])) was
            ∙ ap (λ b. before || ((b && same x.at t) || false)) (sym (eq-eqb x.node q (sym here))) ∙ sym now
        | inr other ↦
            ap (has_one t) (c.others q other) ∙ was ∙ or-nothing before
            ∙ ap (λ b. before || ((b && same x.at t) || false)) (sym (false_from_ne_true (x.node == q) (λ k. other (sym (eqb-true x.node q k))))) ∙ sym now
      ];
  of_domain = λ q k. elim (cases_eq q x.node) [
    | inl here ↦
        subst (λ d. IsTallyOf (bounds_of flow d) (get_or new d [])) (sym here)
        (c.here.domain (bounds_of flow x.node) (a.of_domain x.node p.node) p.at)
    | inr other ↦ subst (IsTallyOf (bounds_of flow q)) (sym (c.others q other)) (a.of_domain q k)
  ];
}
  where
    all : take (i + 1) said ≡ take i said ++ x ∷ []
    all = take_more said i x l ∙ ap (λ y. take i said ++ y ∷ []) (sym is)

-- ---- what sequences sent

first-less : (s t : Stamp) → is_lt (stamp_cmp s t) ≡ true → first_coordinate s ≤ first_coordinate t
first-less [] t k = omega arith
first-less (a ∷ s) [] k = absurd (cc)
first-less (a ∷ s) (b ∷ t) k = grind (arith, nat_tests)

said-snoc : (ss : List SentCount) (s : SentCount) → table_said (ss ++ s ∷ []) ≡ table_said ss ++ (first_coordinate s.cause, s.count) ∷ []
said-snoc ss s = map-append (λ (x : SentCount). (first_coordinate x.cause, x.count)) ss (s ∷ [])

-- one more ascends, if it may follow
ascends-one : (before : List SentCount) (s : SentCount) → EpochsAscend (table_said before) → may_follow_counts before s ≡ true → EpochsAscend (table_said (before ++ s ∷ []))
ascends-one before s a k =
    subst EpochsAscend (sym (said-snoc before s))
    (IsNonDecreasingBy-push (λ (e : ℕ × ℕ). e.0) (table_said before) (first_coordinate s.cause, s.count) a (λ d l. below d (omega (arith, l, long))))
  where
    long : length (table_said before) ≡ length before
    long = length-map before (λ (x : SentCount). (first_coordinate x.cause, x.count))

    follows : option_map_or (λ (last : SentCount). is_lt (stamp_cmp last.cause s.cause)) (slice_get before (length before - 1)) true ≡ true
    follows = (and_parts (nat_lt 0 s.count) (after_last (λ (last : SentCount) (next : SentCount). is_lt (stamp_cmp last.cause next.cause)) before s) k).1

    below : (d : ℕ × ℕ) → 0 < length before → (get_or (table_said before) (length (table_said before) - 1) d).0 ≤ first_coordinate s.cause
    below d l =
        let i = length before - 1 in
        let there : i < length before = omega (arith, l) in
        let last = get_or before i s in
        let less = ap (λ o. option_map_or (λ (x : SentCount). is_lt (stamp_cmp x.cause s.cause)) o true) (sym (slice_get-get_or before i s there)) ∙ follows in
        subst (λ (e : ℕ × ℕ). e.0 ≤ first_coordinate s.cause) (sym (ap (λ n. get_or (table_said before) (n - 1) d) long ∙ mapped before i d s there)) (first-less last.cause s.cause less)
      where
        mapped : (xs : List SentCount) (j : ℕ) (d : ℕ × ℕ) (e : SentCount) → j < length xs
            → get_or (table_said xs) j d ≡ (first_coordinate (get_or xs j e).cause, (get_or xs j e).count)
        mapped [] j d e m = absurd (omega (arith, m))
        mapped (x ∷ xs) zero d e m = refl
        mapped (x ∷ xs) (suc j) d e m = mapped xs j d e (omega (arith, m))

ascends-all : (rule : List SentCount → SentCount → Bool) → ((before : List SentCount) (s : SentCount) → rule before s ≡ true → may_follow_counts before s ≡ true)
    → (before ss : List SentCount) → EpochsAscend (table_said before) → each_may_follow rule before ss ≡ true → EpochsAscend (table_said (before ++ ss))
ascends-all rule f before [] a k = subst (λ xs. EpochsAscend (table_said xs)) (nil before) a
  where
    nil : (xs : List SentCount) → xs ≡ xs ++ []
    nil [] = refl
    nil (x ∷ xs) = ap (λ ys. x ∷ ys) (nil xs)
ascends-all rule f before (s ∷ ss) a k =
    let b = and_parts (rule before s) (each_may_follow rule (before ++ s ∷ []) ss) k in
    subst (λ xs. EpochsAscend (table_said xs)) (together before s ss)
    (ascends-all rule f (before ++ s ∷ []) ss (ascends-one before s a (f before s b.0)) b.1)
  where
    together : (xs : List SentCount) (x : SentCount) (ys : List SentCount) → (xs ++ x ∷ []) ++ ys ≡ xs ++ x ∷ ys
    together [] x ys = refl
    together (z ∷ xs) x ys = ap (λ zs. z ∷ zs) (together xs x ys)

pub sends-good : (flow : Dataflow) (p : ℕ) (ss : List SentCount) → AreCountsOfSequence flow p ss → AreGoodSends ss
sends-good flow p ss l = record {
  in_order = ascends-all (may_follow_sends flow p) counts [] ss (λ i j d a b. absurd (omega (arith, b))) l.follow;
  stamped = each-weaker IsSentCount (λ (s : SentCount). 0 < length s.cause) ss (λ s a. a.cause.some) l.parts;
  some = follow-each (may_follow_sends flow p) (λ (s : SentCount). 0 < s.count)
      (λ before s k. ltb-true 0 s.count (and_parts (nat_lt 0 s.count) (after_last (λ (last : SentCount) (next : SentCount). is_lt (stamp_cmp last.cause next.cause)) before s) (counts before s k)).0)
      [] ss l.follow;
}
  where
    counts : (before : List SentCount) (s : SentCount) → may_follow_sends flow p before s ≡ true → may_follow_counts before s ≡ true
    counts before s k = (and_parts (in_domain (bounds_of flow p) s.cause) (may_follow_counts before s) k).1

pub sends-none : AreGoodSends []
sends-none = record { in_order = λ i j d a b. absurd (omega (arith, b)); stamped = tt; some = tt }

-- one entry more of the table
pub table-next : (ss : List SentCount) (i : ℕ) (s : SentCount) → i < length ss → s ≡ get_or ss i s → EpochsAscend (table_said ss)
    → (table_said (take (i + 1) ss) ≡ table_said (take i ss) ++ (first_coordinate s.cause, s.count) ∷ []) × EpochsAscend (table_said (take i ss) ++ (first_coordinate s.cause, s.count) ∷ [])
table-next ss i s l is a =
    let all : table_said (take (i + 1) ss) ≡ table_said (take i ss) ++ (first_coordinate s.cause, s.count) ∷ [] =
    ap table_said (take_more ss i s l ∙ ap (λ y. take i ss ++ y ∷ []) (sym is)) ∙ said-snoc (take i ss) s in
    (all, subst EpochsAscend (sym (taken (i + 1) ss) ∙ all) (IsNonDecreasingBy-take (λ (e : ℕ × ℕ). e.0) (i + 1) (table_said ss) a))
  where
    taken : (n : ℕ) (xs : List SentCount) → table_said (take n xs) ≡ take n (table_said xs)
    taken zero xs = refl
    taken (suc n) [] = refl
    taken (suc n) (x ∷ xs) = ap (λ ys. (first_coordinate x.cause, x.count) ∷ ys) (taken n xs)

pub first-at : (s : Stamp) → slice_index s 0 ≡ first_coordinate s
first-at [] = refl
first-at (n ∷ s) = refl

pub all-good : (flow : Dataflow) (ps : List ℕ) (tables : List (List SentCount)) → AllZip (AreCountsOfSequence flow) ps tables → AllByRecursion AreGoodSends tables
all-good flow [] [] a = tt
all-good flow [] (t ∷ ts) a = absurd a
all-good flow (p ∷ ps) [] a = tt
all-good flow (p ∷ ps) (t ∷ ts) a = (sends-good flow p t a.0, all-good flow ps ts a.1)
