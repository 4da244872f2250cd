-- The totals of what is settled, when more is settled.
use Rattle.std.proofs.Common.{◌≡◌, ◌⊎◌, ℕ, Bool, true, false, cond, not, List, [], ◌∷◌, Option, Some, None, refl, sym, ap, ◌∙◌, subst, inl, inr}
use Rattle.std.specs.Prelude.{◌&&◌, ◌||◌}
use Rattle.std.specs.List.{AllByRecursion, list_any}
use Rattle.std.specs.List.Sorted.{IsStrictlySortedBy}
use Rattle.std.specs.Map.{lookup, keys_of}
use Rattle.std.specs.declared.cmp.Ordering.{Ordering}
use Rattle.std.specs.declared.cmp.Ordering.TheVariants.{Less}
use Rattle.std.specs.Ordering.{is_eq, nat_cmp}
use Rattle.std.specs.Option.{is_some}
use Rattle.std.specs.BTreeMap.{BTreeMap, get, is_at}
use Rattle.std.proofs.lemmas.Bool.{cases_Bool, or_left, or_right}
use Rattle.std.proofs.lemmas.Map.Keys.{sorted_head, sorted_tail}
use Rattle.fw_lemmas.proofs.Each.{each-weaker, each-both}
use Rattle.fw_time.specs.Stamp.{Stamp, leq, same}
use Rattle.fw_bag.specs.Arrivals.{Arrival, recs_where, arrivals_at, arrivals_inside, recs_of, AreTimes}
use Rattle.fw_table.specs.Content.{IsContentOf, IsTable}
use Rattle.fw_time.proofs.StampLaws.{same-is, same-refl}
use Rattle.fw_bag.proofs.ArrivalLaws.{at-inside, where-same}
use Rattle.fw_table.specs.declared.sums.Sums.{Sums}
use Rattle.fw_table.specs.Sums.{HasSums, sum_at}
use Rattle.fw_totals.specs.Totals.{combined}
use Rattle.fw_totals.proofs.MergeLaws.{merged_by}
use Rattle.fw_totals.specs.Totals.{found, HasTotals}
use Rattle.fw_totals.specs.Gathered.{gathered, HasPlaceForEach, HasRooms}
use Rattle.fw_totals.specs.Settling.{holds_sums}

-- ---- rooms

pub rooms_kept : {T : Type 0} (inside : T → Bool) (old new : BTreeMap ℕ (Option ℕ)) → HasPlaceForEach old new → (es : List (T × Sums))
    → HasRooms inside old es → HasRooms inside new es
rooms_kept {T} inside old new k [] h = tt
rooms_kept {T} inside old new k (e ∷ es) h = ((λ i q s. k q (h.0 i q s)), rooms_kept inside old new k es h.1)

-- ---- recs by tests

pub where_alike : (test other : Arrival → Bool) (came : List Arrival) → AllByRecursion (λ (a : Arrival). test a ≡ other a) came
    → recs_where test came ≡ recs_where other came
where_alike test other [] h = refl
where_alike test other (a ∷ came) h =
    ap (λ b. cond b (a.rec ∷ recs_where test came) (recs_where test came)) h.0
    ∙ ap (λ rs. cond (other a) (a.rec ∷ rs) rs) (where_alike test other came h.1)

-- ---- what is among the arrivals

among_all : (all came : List Arrival) → ((s : Stamp) → list_any (λ (b : Arrival). same b.at s) came ≡ true → list_any (λ (b : Arrival). same b.at s) all ≡ true)
    → AllByRecursion (λ (a : Arrival). list_any (λ (b : Arrival). same b.at a.at) all ≡ true) came
among_all all [] h = tt
among_all all (a ∷ came) h = (
  h a.at (or_left (same a.at a.at) (list_any (λ (b : Arrival). same b.at a.at) came) (same-refl a.at)),
  among_all all came (λ s k. h s (or_right (same a.at s) (list_any (λ (b : Arrival). same b.at s) came) k)),
)

some_there : (s : Stamp) (came : List Arrival) → list_any (λ (b : Arrival). same b.at s) came ≡ true → arrivals_at s came ≡ [] → ⊥
some_there s [] h e = cc
some_there s (a ∷ came) h e = cases (same a.at s) (some_there s came) h e
  where
    cases : (b : Bool) → (list_any (λ (b : Arrival). same b.at s) came ≡ true → arrivals_at s came ≡ [] → ⊥) → (b || list_any (λ (b : Arrival). same b.at s) came) ≡ true → cond b (a ∷ arrivals_at s came) (arrivals_at s came) ≡ [] → ⊥
    cases true k h e = cc
    cases false k h e = k h e

-- the test does not mind the order
pub same_swap : (s t : Stamp) → same s t ≡ same t s
same_swap s t = cases (leq s t) (leq t s)
  where
    cases : (a b : Bool) → (a && b) ≡ (b && a)
    cases true true = refl
    cases true false = refl
    cases false true = refl
    cases false false = refl

module _ {T : Type 0} (cmp : T → T → Ordering) (coords : T → Stamp) (apart : (x y : T) → is_eq (cmp x y) ≡ same (coords x) (coords y)) where
  -- ---- entries at different times

  -- no entry is at the stamp
  IsNowhere : Stamp → List (T × Sums) → Type 0
  IsNowhere s es = AllByRecursion (λ (e : T × Sums). same s (coords e.0) ≡ false) es

  -- the entries are at different times
  AreApart : List (T × Sums) → Type 0
  AreApart [] = Unit {0}
  AreApart (e ∷ es) = IsNowhere (coords e.0) es × AreApart es

  nowhere_above : (k : T) (es : List (T × Sums)) → AllByRecursion (λ y. cmp k y ≡ Less) (keys_of es) → IsNowhere (coords k) es
  unfolding IsNowhere
  nowhere_above k [] a = tt
  nowhere_above k (e ∷ es) a = (sym (apart k e.0) ∙ ap is_eq a.0, nowhere_above k es a.1)

  apart_sorted : (es : List (T × Sums)) → IsStrictlySortedBy cmp (keys_of es) → AreApart es
  unfolding AreApart
  apart_sorted [] s = tt
  apart_sorted (e ∷ es) s = (nowhere_above e.0 es (sorted_head cmp e.0 (keys_of es) s), apart_sorted es (sorted_tail cmp e.0 (keys_of es) s))

  absent_nowhere : (t : T) (es : List (T × Sums)) → IsNowhere (coords t) es → lookup (is_at (cmp t)) es ≡ None
  unfolding IsNowhere
  absent_nowhere t [] a = refl
  absent_nowhere t (e ∷ es) a = ap (λ b. cond b (Some e.1) (lookup (is_at (cmp t)) es)) (apart t e.0 ∙ a.0) ∙ absent_nowhere t es a.1

  -- each entry is what is found at its time
  AreFound : (T → Option Sums) → List (T × Sums) → Type 0
  AreFound find es = AllByRecursion (λ (e : T × Sums). find e.0 ≡ Some e.1) es

  found_entries : (find : T → Option Sums) (es : List (T × Sums)) → AreApart es
      → ((t : T) (c : Sums) → lookup (is_at (cmp t)) es ≡ Some c → find t ≡ Some c) → AreFound find es
  unfolding AreApart AreFound
  found_entries find [] d h = tt
  found_entries find (e ∷ es) d h = (
    h e.0 e.1 (ap (λ b. cond b (Some e.1) (lookup (is_at (cmp e.0)) es)) (apart e.0 e.0 ∙ same-refl (coords e.0))),
    found_entries find es d.1 (λ t c k. h t c (later t c k (same (coords t) (coords e.0)) refl)),
  )
    where
      later : (t : T) (c : Sums) → lookup (is_at (cmp t)) es ≡ Some c → (b : Bool) → same (coords t) (coords e.0) ≡ b → lookup (is_at (cmp t)) (e ∷ es) ≡ Some c
      later t c k true i =
          let n : None ≡ Some c = sym (absent_nowhere t es (subst (λ s. IsNowhere s es) (sym (same-is (coords t) (coords e.0) i)) d.0)) ∙ k in absurd (cc n)
      later t c k false i = ap (λ b. cond b (Some e.1) (lookup (is_at (cmp t)) es)) (apart t e.0 ∙ i) ∙ k

  found_any : (t : T) (es : List (T × Sums)) → is_some (lookup (is_at (cmp t)) es) ≡ true → list_any (λ (e : T × Sums). same (coords t) (coords e.0)) es ≡ true
  found_any t [] h = cc
  found_any t (e ∷ es) h = cases (is_eq (cmp t e.0)) (found_any t es) (apart t e.0) h
    where
      cases : (b : Bool) → (is_some (lookup (is_at (cmp t)) es) ≡ true → list_any (λ (e : T × Sums). same (coords t) (coords e.0)) es ≡ true) → b ≡ same (coords t) (coords e.0) → is_some (cond b (Some e.1) (lookup (is_at (cmp t)) es)) ≡ true
          → (same (coords t) (coords e.0) || list_any (λ (e : T × Sums). same (coords t) (coords e.0)) es) ≡ true
      cases true k i h = or_left (same (coords t) (coords e.0)) _ (sym i)
      cases false k i h = or_right (same (coords t) (coords e.0)) _ (k h)

  module _ (into : T → Bool) (q : ℕ) (came : List Arrival) where
    -- the stamp is that of an entry inside
    among : List (T × Sums) → Stamp → Bool
    among es s = list_any (λ (e : T × Sums). into e.0 && same s (coords e.0)) es

    -- of an entry inside the sums are not yet in the totals, or it is empty
    IsNew : (Stamp → Bool) → T × Sums → Type 0
    IsNew P e = into e.0 ≡ true
        → ((get nat_cmp e.1.by_key q ≡ sum_at q (recs_of (arrivals_at (coords e.0) came))) × (P (coords e.0) ≡ false))
        ⊎ ((get nat_cmp e.1.by_key q ≡ None) × (P (coords e.0) ≡ true))

    new_later : (P : Stamp → Bool) (t : Stamp) (es : List (T × Sums)) → IsNowhere t es → AllByRecursion (IsNew P) es
        → AllByRecursion (IsNew (λ s. same s t || P s)) es
    unfolding IsNew IsNowhere
    new_later P t [] d h = tt
    new_later P t (e ∷ es) d h = (
      (λ i. elim (h.0 i) [
        | inl x ↦ inl (x.0, ap (λ b. b || P (coords e.0)) (same_swap (coords e.0) t ∙ d.0) ∙ x.1)
        | inr x ↦ inr (x.0, or_right (same (coords e.0) t) (P (coords e.0)) x.1)
      ]),
      new_later P t es d.1 h.1,
    )

    around : (x p r : Bool) → ((x || p) || r) ≡ (p || (x || r))
    around true true r = refl
    around true false r = refl
    around false p r = refl

    there : (P : Stamp → Bool) (t s : Stamp) (r : Bool) → P t ≡ true → (b : Bool) → same s t ≡ b → (P s || r) ≡ (P s || (b || r))
    there P t s r h true e =
        let k : P s ≡ true = ap P (same-is s t e) ∙ h in
        ap (λ b. b || r) k ∙ sym (ap (λ b. b || (true || r)) k)
    there P t s r h false e = refl

    gather : (es : List (T × Sums)) (P : Stamp → Bool) → AllByRecursion (IsNew P) es → AreApart es
        → gathered into q (sum_at q (recs_where (λ a. P a.at) came)) es ≡ sum_at q (recs_where (λ a. P a.at || among es a.at) came)
    unfolding IsNew AreApart among
    gather [] P h d = ap (sum_at q) (where-same (λ a. P a.at) (λ a. P a.at || false) (λ a. or_false (P a.at)) came)
      where
        or_false : (b : Bool) → b ≡ (b || false)
        or_false true = refl
        or_false false = refl
    gather (e ∷ es) P h d =
        let now : Bool → Option ℕ = λ b. cond b (combined (sum_at q (recs_where (λ a. P a.at) came)) (get nat_cmp e.1.by_key q)) (sum_at q (recs_where (λ a. P a.at) came)) in
        let rest : Stamp → Bool = λ s. list_any (λ (x : T × Sums). into x.0 && same s (coords x.0)) es in
        let whole : Bool → Option ℕ = λ b. sum_at q (recs_where (λ a. P a.at || ((b && same a.at (coords e.0)) || rest a.at)) came) in
        elim (cases_Bool (into e.0)) [
          | inr i ↦ ap (λ b. gathered into q (now b) es) i ∙ gather es P h.1 d.1 ∙ sym (ap whole i)
          | inl i ↦ ap (λ b. gathered into q (now b) es) i ∙ elim (h.0 i) [
            | inl x ↦
                ap (λ o. gathered into q (combined (sum_at q (recs_where (λ a. P a.at) came)) o) es) x.0
                ∙ ap (λ o. gathered into q o es) (merged_by P (coords e.0) came x.1 q)
                ∙ gather es (λ s. same s (coords e.0) || P s) (new_later P (coords e.0) es d.0 h.1) d.1
                ∙ ap (sum_at q) (where-same _ _ (λ a. around (same a.at (coords e.0)) (P a.at) (rest a.at)) came)
            | inr x ↦
                ap (λ o. gathered into q (combined (sum_at q (recs_where (λ a. P a.at) came)) o) es) x.0
                ∙ gather es P h.1 d.1
                ∙ ap (sum_at q) (where-same _ _ (λ a. there P (coords e.0) a.at (rest a.at) x.1 (same a.at (coords e.0)) refl) came)
          ] ∙ sym (ap whole i)
        ]

  -- ---- what is settled

  module _ (into : T → Bool) (inside after : Stamp → Bool) (agree : (t : T) → after (coords t) ≡ into t) (sub : (s : Stamp) → inside s ≡ true → after s ≡ true)
      (table : BTreeMap T Sums) (came : List Arrival) (sorted : IsStrictlySortedBy cmp (keys_of table.entries))
      (held : IsTable cmp coords holds_sums table (arrivals_inside (λ s. not (inside s)) came)) where
    both_true : (x r : Bool) → ((x && true) || (x && r)) ≡ (x && true)
    both_true true r = refl
    both_true false r = refl

    both_false : (x y r : Bool) → ((x && false) || (y && r)) ≡ (y && r)
    both_false true y r = refl
    both_false false y r = refl

    among_is : (q : ℕ) (s : Stamp) (es : List (T × Sums)) → among into q came es s ≡ (after s && list_any (λ (e : T × Sums). same s (coords e.0)) es)
    unfolding among
    among_is q s [] = none (after s)
      where
        none : (b : Bool) → false ≡ (b && false)
        none true = refl
        none false = refl
    among_is q s (e ∷ es) = ap (λ b. (into e.0 && same s (coords e.0)) || b) (among_is q s es) ∙ cases (same s (coords e.0)) refl
      where
        cases : (b : Bool) → same s (coords e.0) ≡ b
            → ((into e.0 && same s (coords e.0)) || (after s && list_any (λ (x : T × Sums). same s (coords x.0)) es))
            ≡ (after s && (same s (coords e.0) || list_any (λ (x : T × Sums). same s (coords x.0)) es))
        cases true i =
            ap (λ b. (into e.0 && b) || (after s && list_any (λ (x : T × Sums). same s (coords x.0)) es)) i
            ∙ ap (λ b. (b && true) || (after s && list_any (λ (x : T × Sums). same s (coords x.0)) es)) (sym (agree e.0) ∙ sym (ap after (same-is s (coords e.0) i)))
            ∙ both_true (after s) _
            ∙ sym (ap (λ b. after s && (b || list_any (λ (x : T × Sums). same s (coords x.0)) es)) i)
        cases false i =
            ap (λ b. (into e.0 && b) || (after s && list_any (λ (x : T × Sums). same s (coords x.0)) es)) i
            ∙ both_false (into e.0) (after s) _
            ∙ sym (ap (λ b. after s && (b || list_any (λ (x : T × Sums). same s (coords x.0)) es)) i)

    kept_there : (o : Option Sums) (xs : List Arrival) → IsContentOf holds_sums o xs → (xs ≡ [] → ⊥) → is_some o ≡ true
    kept_there None xs h n = absurd (n h)
    kept_there (Some c) xs h n = refl

    entry_there : (t : T) → inside (coords t) ≡ false → list_any (λ (b : Arrival). same b.at (coords t)) came ≡ true
        → list_any (λ (e : T × Sums). same (coords t) (coords e.0)) table.entries ≡ true
    entry_there t i m =
        found_any t table.entries (kept_there (get cmp table t) (arrivals_at (coords t) (arrivals_inside (λ s. not (inside s)) came)) (held t)
        (λ e. some_there (coords t) came m
        (sym (at-inside (coords t) (λ s. not (inside s)) came ∙ ap (λ b. cond (not b) (arrivals_at (coords t) came) []) i) ∙ e)))

    true_right : (b : Bool) → (b && true) ≡ b
    true_right true = refl
    true_right false = refl

    point : (q : ℕ) (a : Arrival) → ((t : T) × (coords t ≡ a.at)) → list_any (λ (b : Arrival). same b.at a.at) came ≡ true
        → (inside a.at || among into q came table.entries a.at) ≡ after a.at
    point q a t m = cases (inside a.at) refl
      where
        cases : (b : Bool) → inside a.at ≡ b → (inside a.at || among into q came table.entries a.at) ≡ after a.at
        cases true i = ap (λ b. b || among into q came table.entries a.at) i ∙ sym (sub a.at i)
        cases false i =
            ap (λ b. b || among into q came table.entries a.at) i ∙ among_is q a.at table.entries
            ∙ ap (λ b. after a.at && b) (subst (λ s. list_any (λ (e : T × Sums). same s (coords e.0)) table.entries ≡ true) t.1
            (entry_there t.0 (ap inside t.1 ∙ i) (ap (λ s. list_any (λ (b : Arrival). same b.at s) came) t.1 ∙ m)))
            ∙ true_right (after a.at)

    new_entry : (q : ℕ) (e : T × Sums) → get cmp table e.0 ≡ Some e.1 → IsNew into q came inside e
    unfolding IsNew
    new_entry q e f = λ i. cases (inside (coords e.0)) refl
      where
        here : IsContentOf holds_sums (Some e.1) (arrivals_at (coords e.0) (arrivals_inside (λ s. not (inside s)) came))
        here = subst (λ o. IsContentOf holds_sums o (arrivals_at (coords e.0) (arrivals_inside (λ s. not (inside s)) came))) f (held e.0)

        at : (b : Bool) → inside (coords e.0) ≡ b → arrivals_at (coords e.0) (arrivals_inside (λ s. not (inside s)) came) ≡ cond (not b) (arrivals_at (coords e.0) came) []
        at b i = at-inside (coords e.0) (λ s. not (inside s)) came ∙ ap (λ b. cond (not b) (arrivals_at (coords e.0) came) []) i

        cases : (b : Bool) → inside (coords e.0) ≡ b
            → ((get nat_cmp e.1.by_key q ≡ sum_at q (recs_of (arrivals_at (coords e.0) came))) × (inside (coords e.0) ≡ false))
            ⊎ ((get nat_cmp e.1.by_key q ≡ None) × (inside (coords e.0) ≡ true))
        cases true i = inr (subst (λ xs. HasSums e.1.by_key (recs_of xs)) (at true i) here q, i)
        cases false i = inl (subst (λ xs. HasSums e.1.by_key (recs_of xs)) (at false i) here q, i)

    -- what is kept inside was among what came or comes from an entry
    each_after : AreTimes coords came → (q : ℕ)
        → AllByRecursion (λ (a : Arrival). (inside a.at || list_any (λ (e : T × Sums). into e.0 && same a.at (coords e.0)) table.entries) ≡ after a.at) came
    unfolding among
    each_after times q =
        each-weaker (λ (a : Arrival). ((t : T) × (coords t ≡ a.at)) × (list_any (λ (b : Arrival). same b.at a.at) came ≡ true))
        (λ a. (inside a.at || list_any (λ (e : T × Sums). into e.0 && same a.at (coords e.0)) table.entries) ≡ after a.at) came (λ a x. point q a x.0 x.1)
        (each-both (λ (a : Arrival). (t : T) × (coords t ≡ a.at)) (λ (a : Arrival). list_any (λ (b : Arrival). same b.at a.at) came ≡ true) came times
        (among_all came came (λ s k. k)))

    -- the totals into which all times inside are taken are those of what is settled then
    pub settles : (totals : BTreeMap ℕ (Option ℕ)) → HasTotals totals (recs_where (λ a. inside a.at) came) → AreTimes coords came → (q : ℕ)
        → gathered into q (found totals q) table.entries ≡ sum_at q (recs_where (λ a. after a.at) came)
    unfolding AreFound among
    settles totals h times q =
        let d = apart_sorted table.entries sorted in
        ap (λ o. gathered into q o table.entries) (h q)
        ∙ gather into q came table.entries inside
        (each-weaker (λ (e : T × Sums). get cmp table e.0 ≡ Some e.1) (IsNew into q came inside) table.entries (new_entry q)
        (found_entries (get cmp table) table.entries d (λ t c k. k))) d
        ∙ ap (sum_at q) (where_alike _ _ came (each_after times q))
