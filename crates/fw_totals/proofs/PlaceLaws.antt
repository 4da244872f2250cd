-- Places in a map of totals, and sums that are taken in.
use Rattle.std.proofs.Common.{◌≡◌, ℕ, ◌==◌, Bool, true, false, cond, List, [], ◌∷◌, ◌++◌, Option, Some, None, refl, sym, ap, ◌∙◌, subst, arith}
use Rattle.std.specs.Option.{is_some, unwrap_or}
use Rattle.std.specs.List.{AllByRecursion}
use Rattle.std.specs.List.Sorted.{IsStrictlySortedBy}
use Rattle.std.specs.Map.{lookup, keys_of}
use Rattle.std.specs.declared.cmp.Ordering.TheVariants.{Less}
use Rattle.std.specs.Ordering.{is_eq, nat_cmp}
use Rattle.std.specs.BTreeMap.{BTreeMap, get, is_at}
use Rattle.std.proofs.lemmas.Bool.{eqb-true}
use Rattle.std.proofs.lemmas.Bool.Decides.{nat_tests}
use Rattle.std.proofs.lemmas.Map.Keys.{sorted_head, sorted_tail}
use Rattle.fw_lemmas.proofs.Orderings.{nat_cmp-test}
use Rattle.fw_lemmas.proofs.Numbers.{eqb-sym}
use Rattle.fw_bag.specs.Keyed.{plus}
use Rattle.fw_totals.specs.Totals.{total_in, found, combined, shown_entry, shown_entries}

-- ---- places

some_cases : {A : Type 0} (b : Bool) (x : A) (o : Option A) → is_some o ≡ true → is_some (cond b (Some x) o) ≡ true
some_cases true x o h = refl
some_cases false x o h = h

-- a place that is written stays, and so do the others
pub places_kept : {A : Type 0} (old new : BTreeMap ℕ A) (k : ℕ) (x : A)
    → ((q : ℕ) → get nat_cmp new q ≡ cond (is_at (nat_cmp k) q) (Some x) (get nat_cmp old q)) → (q : ℕ)
    → is_some (get nat_cmp old q) ≡ true → is_some (get nat_cmp new q) ≡ true
places_kept old new k x u q h = ap is_some (u q) ∙ some_cases (is_at (nat_cmp k) q) x (get nat_cmp old q) h

-- what is found at the key that was written
pub written_there : {A : Type 0} (old new : BTreeMap ℕ A) (k : ℕ) (x : A)
    → ((q : ℕ) → get nat_cmp new q ≡ cond (is_at (nat_cmp k) q) (Some x) (get nat_cmp old q)) → is_some (get nat_cmp new k) ≡ true
written_there old new k x u = ap is_some (u k ∙ ap (λ b. cond b (Some x) (get nat_cmp old k)) (nat_cmp-test k k ∙ self))
  where
    self : (k == k) ≡ true
    self = grind (arith, nat_tests)

-- ---- sums that are taken in

pub absent : (q : ℕ) (es : List (ℕ × ℕ)) → AllByRecursion (λ y. nat_cmp q y ≡ Less) (keys_of es) → lookup (is_at (nat_cmp q)) es ≡ None
absent q [] a = refl
absent q (e ∷ es) a = ap (λ o. cond (is_eq o) (Some e.1) (lookup (is_at (nat_cmp q)) es)) a.0 ∙ absent q es a.1

take_cases : (k s q : ℕ) (rest : List (ℕ × ℕ)) (old : ℕ → Option ℕ) → AllByRecursion (λ y. nat_cmp k y ≡ Less) (keys_of rest)
    → (b : Bool) → (k == q) ≡ b
    → combined (cond b (Some (plus s (unwrap_or (old k) 0))) (old q)) (lookup (is_at (nat_cmp q)) rest)
    ≡ combined (old q) (cond b (Some s) (lookup (is_at (nat_cmp q)) rest))
take_cases k s q rest old a true e =
    let i = eqb-true k q e in
    ap (combined (Some (plus s (unwrap_or (old k) 0)))) (sym (ap (λ j. lookup (is_at (nat_cmp j)) rest) i) ∙ absent k rest a)
    ∙ ap (λ j. Some (plus s (unwrap_or (old j) 0))) i
take_cases k s q rest old a false e = refl

pub in_cond : (b : Bool) (n : ℕ) (o : Option (Option ℕ)) → total_in (cond b (Some (Some n)) o) ≡ cond b (Some n) (total_in o)
in_cond true n o = refl
in_cond false n o = refl

-- an entry that is taken in is no longer to come
pub take_step : (k s : ℕ) (left rest : List (ℕ × ℕ)) (old new : BTreeMap ℕ (Option ℕ)) (n : ℕ) → left ≡ (k, s) ∷ rest
    → IsStrictlySortedBy nat_cmp (keys_of left) → n ≡ plus s (unwrap_or (found old k) 0)
    → ((q : ℕ) → get nat_cmp new q ≡ cond (is_at (nat_cmp k) q) (Some (Some n)) (get nat_cmp old q)) → (q : ℕ)
    → combined (found new q) (lookup (is_at (nat_cmp q)) rest) ≡ combined (found old q) (lookup (is_at (nat_cmp q)) left)
take_step k s left rest old new n e o h u q =
    let P : List (ℕ × ℕ) → Type 0 = λ es. IsStrictlySortedBy nat_cmp (keys_of es) in
    ap (λ x. combined x (lookup (is_at (nat_cmp q)) rest))
    (ap total_in (u q) ∙ in_cond (is_at (nat_cmp k) q) n (get nat_cmp old q) ∙ ap (λ b. cond b (Some n) (found old q)) (nat_cmp-test k q) ∙ ap (λ m. cond (k == q) (Some m) (found old q)) h)
    ∙ take_cases k s q rest (found old) (sorted_head nat_cmp k (keys_of rest) (subst P e o)) (k == q) refl
    ∙ ap (λ b. combined (found old q) (cond b (Some s) (lookup (is_at (nat_cmp q)) rest))) (eqb-sym k q ∙ sym (nat_cmp-test q k))
    ∙ sym (ap (λ es. combined (found old q) (lookup (is_at (nat_cmp q)) es)) e)

pub rest_sorted : {A : Type 0} (e : ℕ × A) (left rest : List (ℕ × A)) → left ≡ e ∷ rest → IsStrictlySortedBy nat_cmp (keys_of left) → IsStrictlySortedBy nat_cmp (keys_of rest)
rest_sorted {A} e left rest h o =
    let P : List (ℕ × A) → Type 0 = λ es. IsStrictlySortedBy nat_cmp (keys_of es) in
    sorted_tail nat_cmp e.0 (keys_of rest) (subst P h o)

-- a key that comes later is among those that come
pub rest_among : (e : ℕ × ℕ) (left rest : List (ℕ × ℕ)) → left ≡ e ∷ rest → (q : ℕ) → is_some (lookup (is_at (nat_cmp q)) rest) ≡ true → is_some (lookup (is_at (nat_cmp q)) left) ≡ true
rest_among e left rest h q k = ap (λ es. is_some (lookup (is_at (nat_cmp q)) es)) h ∙ some_cases (is_eq (nat_cmp q e.0)) e.1 (lookup (is_at (nat_cmp q)) rest) k

-- the key that comes is among them
pub first_among : (e : ℕ × ℕ) (left rest : List (ℕ × ℕ)) → left ≡ e ∷ rest → is_some (lookup (is_at (nat_cmp e.0)) left) ≡ true
first_among e left rest h = ap (λ es. is_some (lookup (is_at (nat_cmp e.0)) es)) h ∙ ap (λ b. is_some (cond b (Some e.1) (lookup (is_at (nat_cmp e.0)) rest))) (nat_cmp-test e.0 e.0 ∙ self e.0)
  where
    self : (k : ℕ) → (k == k) ≡ true
    self k = grind (arith, nat_tests)

-- a place that is there is not absent
pub not_absent : {A : Type 0} (o : Option A) → is_some o ≡ true → o ≡ None → ⊥
not_absent None h e = cc
not_absent (Some x) h e = cc

-- ---- what is shown

shown_above : (k : ℕ) (es : List (ℕ × Option ℕ)) → AllByRecursion (λ y. nat_cmp k y ≡ Less) (keys_of es) → AllByRecursion (λ y. nat_cmp k y ≡ Less) (keys_of (shown_entries es))
shown_above k [] a = tt
shown_above k (e ∷ es) a = cases e.1 (shown_above k es a.1)
  where
    cases : (o : Option ℕ) → AllByRecursion (λ y. nat_cmp k y ≡ Less) (keys_of (shown_entries es)) → AllByRecursion (λ y. nat_cmp k y ≡ Less) (keys_of (shown_entry e.0 o ++ shown_entries es))
    cases None h = h
    cases (Some x) h = (a.0, h)

pub shown_ascend : (es : List (ℕ × Option ℕ)) → IsStrictlySortedBy nat_cmp (keys_of es) → IsStrictlySortedBy nat_cmp (keys_of (shown_entries es))
unfolding IsStrictlySortedBy
shown_ascend [] s = tt
shown_ascend (e ∷ es) s = cases e.1 (shown_ascend es s.1)
  where
    cases : (o : Option ℕ) → IsStrictlySortedBy nat_cmp (keys_of (shown_entries es)) → IsStrictlySortedBy nat_cmp (keys_of (shown_entry e.0 o ++ shown_entries es))
    cases None h = h
    cases (Some x) h = (shown_above e.0 es s.0, h)

shown_absent : (q : ℕ) (es : List (ℕ × Option ℕ)) → AllByRecursion (λ y. nat_cmp q y ≡ Less) (keys_of es) → lookup (is_at (nat_cmp q)) (shown_entries es) ≡ None
shown_absent q es a = absent q (shown_entries es) (shown_above q es a)

pub shown_found : (q : ℕ) (es : List (ℕ × Option ℕ)) → IsStrictlySortedBy nat_cmp (keys_of es)
    → lookup (is_at (nat_cmp q)) (shown_entries es) ≡ total_in (lookup (is_at (nat_cmp q)) es)
shown_found q [] s = refl
shown_found q (e ∷ es) s =
    cases e.1 (q == e.0) refl (shown_found q es (sorted_tail nat_cmp e.0 (keys_of es) s))
    ∙ ap (λ b. total_in (cond b (Some e.1) (lookup (is_at (nat_cmp q)) es))) (sym (nat_cmp-test q e.0))
  where
    cases : (o : Option ℕ) (b : Bool) → (q == e.0) ≡ b → lookup (is_at (nat_cmp q)) (shown_entries es) ≡ total_in (lookup (is_at (nat_cmp q)) es)
        → lookup (is_at (nat_cmp q)) (shown_entry e.0 o ++ shown_entries es) ≡ total_in (cond b (Some o) (lookup (is_at (nat_cmp q)) es))
    cases None true h i = ap (λ j. lookup (is_at (nat_cmp j)) (shown_entries es)) (eqb-true q e.0 h) ∙ shown_absent e.0 es (sorted_head nat_cmp e.0 (keys_of es) s)
    cases None false h i = i
    cases (Some x) true h i = ap (λ b. cond b (Some x) (lookup (is_at (nat_cmp q)) (shown_entries es))) (nat_cmp-test q e.0 ∙ h)
    cases (Some x) false h i = ap (λ b. cond b (Some x) (lookup (is_at (nat_cmp q)) (shown_entries es))) (nat_cmp-test q e.0 ∙ h) ∙ i
