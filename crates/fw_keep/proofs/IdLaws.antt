-- Lists of ids, and what a test parts of entries.
use Rattle.std.proofs.Common.{◌≡◌, ℕ, ◌+◌, ◌<◌, Bool, true, false, not, cond, ◌||◌, ◌==◌, List, [], ◌∷◌, ◌++◌, length, filter, refl, sym, ap, subst, ◌∙◌, arith, length-append}
use Rattle.std.specs.List.{AllByRecursion}
use Rattle.std.proofs.lemmas.Bool.{ne_eqb, eq-eqb, eqb-true, both_ways}
use Rattle.std.proofs.lemmas.List.Folds.{list_any-append}
use Rattle.std.proofs.lemmas.List.Filters.{length-filter_both}
use Rattle.std.proofs.lemmas.List.{length-map}
use Rattle.std.proofs.Math.Bool.{or-true}
use Rattle.fw_lemmas.proofs.Bools.{or_swap}
use Rattle.fw_lemmas.proofs.Each.{each-weaker, each-append}
use Rattle.fw_keep.specs.declared.entry.Entry.{Entry}
use Rattle.fw_keep.specs.Catalogue.{ids_of, is_id_among, has_entry, AreAscending, AreDistinct, AreNoDeeperThanIds, persisted}

-- ---- ids

none_among : (n : ℕ) (ids : List ℕ) → AllByRecursion (λ id. id ≡ n → ⊥) ids → is_id_among n ids ≡ false
none_among n [] h = refl
none_among n (id ∷ ids) h = rw (ne_eqb id n h.0) (none_among n ids h.1)

-- an id that is below all these is none of them
none_equal : (n : ℕ) (ids : List ℕ) → AllByRecursion (λ id. n < id) ids → is_id_among n ids ≡ false
none_equal n ids h = none_among n ids (each-weaker _ _ ids (λ id l e. omega arith) h)

pub ascending-distinct : (ids : List ℕ) → AreAscending ids → AreDistinct ids
ascending-distinct [] h = tt
ascending-distinct (id ∷ ids) h = (none_equal id ids h.0, ascending-distinct ids h.1)

pub ascending-more : (ids : List ℕ) (n : ℕ) → AreAscending ids → AllByRecursion (λ id. id < n) ids → AreAscending (ids ++ n ∷ [])
ascending-more [] n a b = (tt, tt)
ascending-more (id ∷ ids) n a b = (each-append _ ids (n ∷ []) a.0 (b.0, tt), ascending-more ids n a.1 b.1)

pub among-append : (n : ℕ) (xs ys : List ℕ) → is_id_among n xs ≡ false → is_id_among n ys ≡ false → is_id_among n (xs ++ ys) ≡ false
among-append n xs ys a b = list_any-append _ xs ys ∙ rw (a, b) refl

pub distinct-append : (xs ys : List ℕ) → AreDistinct xs → AreDistinct ys → AllByRecursion (λ x. is_id_among x ys ≡ false) xs → AreDistinct (xs ++ ys)
distinct-append [] ys a b apart = b
distinct-append (x ∷ xs) ys a b apart = (among-append x xs ys a.0 apart.0, distinct-append xs ys a.1 b apart.1)

pub or_left : (a b : Bool) → (a || b) ≡ false → a ≡ false
or_left true b h = h
or_left false b h = refl

pub or_right : (a b : Bool) → (a || b) ≡ false → b ≡ false
or_right true b h = absurd cc
or_right false b h = h

among-parts : (n : ℕ) (xs ys : List ℕ) → is_id_among n (xs ++ ys) ≡ false → (is_id_among n xs ≡ false) × (is_id_among n ys ≡ false)
among-parts n xs ys h =
    let parts : (is_id_among n xs || is_id_among n ys) ≡ false = sym (list_any-append _ xs ys) ∙ h in
    (or_left (is_id_among n xs) (is_id_among n ys) parts, or_right (is_id_among n xs) (is_id_among n ys) parts)

pub distinct-prefix : (xs ys : List ℕ) → AreDistinct (xs ++ ys) → AreDistinct xs
distinct-prefix [] ys h = tt
distinct-prefix (x ∷ xs) ys h = ((among-parts x xs ys h.0).0, distinct-prefix xs ys h.1)

-- the last of distinct ids is none of the others
pub distinct-last : (xs : List ℕ) (y : ℕ) → AreDistinct (xs ++ y ∷ []) → AllByRecursion (λ x. (y == x) ≡ false) xs
distinct-last [] y h = tt
distinct-last (x ∷ xs) y h = (or_left (y == x) false (among-parts x xs (y ∷ []) h.0).1, distinct-last xs y h.1)

-- what holds of each of the ids holds of one among them
pub each-among : (P : ℕ → Type 0) (ids : List ℕ) (id : ℕ) → AllByRecursion P ids → is_id_among id ids ≡ true → P id
each-among P [] id all h = absurd cc
each-among P (x ∷ ids) id all h = by (x == id) refl (λ k. each-among P ids id all.1 k) h
  where
    by : (b : Bool) → (x == id) ≡ b → (is_id_among id ids ≡ true → P id) → (b || is_id_among id ids) ≡ true → P id
    by true e rest k = subst P (eqb-true x id e) all.0
    by false e rest k = rest k

pub among-self : (ids : List ℕ) → AllByRecursion (λ id. is_id_among id ids ≡ true) ids
among-self [] = tt
among-self (x ∷ ids) =
    (rw (eq-eqb x x refl) refl, each-weaker (λ id. is_id_among id ids ≡ true) (λ id. ((x == id) || is_id_among id ids) ≡ true) ids (λ id h. rw h (or-true (x == id))) (among-self ids))

-- an id among the last of distinct ones is not among the first
pub distinct-parts : (xs ys : List ℕ) (id : ℕ) → AreDistinct (xs ++ ys) → is_id_among id ys ≡ true → is_id_among id xs ≡ false
distinct-parts [] ys id h there = refl
distinct-parts (x ∷ xs) ys id h there = by (x == id) refl (distinct-parts xs ys id h.1 there)
  where
    by : (b : Bool) → (x == id) ≡ b → is_id_among id xs ≡ false → (b || is_id_among id xs) ≡ false
    by true e rest =
        let none : is_id_among id ys ≡ false = subst (λ n. is_id_among n ys ≡ false) (eqb-true x id e) (among-parts x xs ys h.0).1 in
        absurd (both_ways (is_id_among id ys) none there)
    by false e rest = rest

-- an id that is below the next one is not the next one
pub none_drawn : (n : ℕ) (ids : List ℕ) → AllByRecursion (λ id. id < n) ids → is_id_among n ids ≡ false
none_drawn n ids h = none_among n ids (each-weaker _ _ ids (λ id l e. omega arith) h)

-- ---- entries that are kept and entries that go

pub ids-more : (es : List Entry) (e : Entry) → ids_of (es ++ e ∷ []) ≡ ids_of es ++ e.id ∷ []
ids-more [] e = refl
ids-more (x ∷ es) e = ap (λ ids. x.id ∷ ids) (ids-more es e)

-- each id is one of an entry that is kept or of one that goes
pub has_entry-parts : (goes : Entry → Bool) (es : List Entry) (id : ℕ)
    → (has_entry id (filter (λ e. not (goes e)) es) || has_entry id (filter goes es)) ≡ has_entry id es
has_entry-parts goes [] id = refl
has_entry-parts goes (e ∷ es) id =
    elim (goes e) as (λ b. (has_entry id (cond (not b) (e ∷ filter (λ x. not (goes x)) es) (filter (λ x. not (goes x)) es)) || has_entry id (cond b (e ∷ filter goes es) (filter goes es))) ≡ ((e.id == id) || has_entry id es)) [
      | true ↦ or_swap (has_entry id (filter (λ x. not (goes x)) es)) (e.id == id) (has_entry id (filter goes es)) ∙ ap (λ b. (e.id == id) || b) (has_entry-parts goes es id)
      | false ↦ assoc (e.id == id) (has_entry id (filter (λ x. not (goes x)) es)) (has_entry id (filter goes es)) ∙ ap (λ b. (e.id == id) || b) (has_entry-parts goes es id)
    ]
  where
    assoc : (a b c : Bool) → ((a || b) || c) ≡ (a || (b || c))
    assoc true b c = refl
    assoc false b c = refl

-- what holds of all ids holds of those of some entries
pub ids-kept : (P : ℕ → Type 0) (test : Entry → Bool) (es : List Entry) → AllByRecursion P (ids_of es) → AllByRecursion P (ids_of (filter test es))
ids-kept P test [] h = tt
ids-kept P test (e ∷ es) h =
    elim (test e) as (λ b. AllByRecursion P (ids_of (cond b (e ∷ filter test es) (filter test es)))) [
      | true ↦ (h.0, ids-kept P test es h.1)
      | false ↦ ids-kept P test es h.1
    ]

pub ascending-kept : (test : Entry → Bool) (es : List Entry) → AreAscending (ids_of es) → AreAscending (ids_of (filter test es))
ascending-kept test [] h = tt
ascending-kept test (e ∷ es) h =
    elim (test e) as (λ b. AreAscending (ids_of (cond b (e ∷ filter test es) (filter test es)))) [
      | true ↦ (ids-kept (λ later. e.id < later) test es h.0, ascending-kept test es h.1)
      | false ↦ ascending-kept test es h.1
    ]

-- what is no entry's id is none of an entry that is kept, nor of one that goes
pub none_kept : (goes : Entry → Bool) (es : List Entry) (id : ℕ) → has_entry id es ≡ false → has_entry id (filter (λ e. not (goes e)) es) ≡ false
none_kept goes es id h = or_left _ (has_entry id (filter goes es)) (has_entry-parts goes es id ∙ h)

pub none_goes : (goes : Entry → Bool) (es : List Entry) (id : ℕ) → has_entry id es ≡ false → has_entry id (filter goes es) ≡ false
none_goes goes es id h = or_right (has_entry id (filter (λ e. not (goes e)) es)) _ (has_entry-parts goes es id ∙ h)

-- the ids of those that go are no ids of those that are kept
pub gone-apart : (goes : Entry → Bool) (es : List Entry) → AreAscending (ids_of es)
    → AllByRecursion (λ id. has_entry id (filter (λ e. not (goes e)) es) ≡ false) (ids_of (filter goes es))
gone-apart goes [] h = tt
gone-apart goes (e ∷ es) h =
    elim (goes e) as (λ b. AllByRecursion (λ id. has_entry id (cond (not b) (e ∷ filter (λ x. not (goes x)) es) (filter (λ x. not (goes x)) es)) ≡ false) (ids_of (cond b (e ∷ filter goes es) (filter goes es)))) [
      | true ↦ (none_kept goes es e.id (none_equal e.id (ids_of es) h.0), gone-apart goes es h.1)
      | false ↦ further e.id (filter (λ x. not (goes x)) es) (ids_of (filter goes es)) (ids-kept (λ later. e.id < later) goes es h.0) (gone-apart goes es h.1)
    ]
  where
    further : (n : ℕ) (kept : List Entry) (ids : List ℕ) → AllByRecursion (λ later. n < later) ids → AllByRecursion (λ id. has_entry id kept ≡ false) ids
        → AllByRecursion (λ id. ((n == id) || has_entry id kept) ≡ false) ids
    further n kept [] a b = tt
    further n kept (id ∷ ids) a b = (rw (ne_eqb n id (λ e. absurd (omega arith))) b.0, further n kept ids a.1 b.1)

-- the ids stay where a write is acknowledged
pub ids-persisted : (es : List Entry) → ids_of (persisted es) ≡ ids_of es
ids-persisted [] = refl
ids-persisted (e ∷ es) =
    elim e.acknowledged as (λ b. ids_of (cond b (e ∷ persisted es) (record e { acknowledged = true } ∷ es)) ≡ ids_of (e ∷ es)) [
      | true ↦ ap (λ ids. e.id ∷ ids) (ids-persisted es)
      | false ↦ refl
    ]

-- and so does how deep each is
pub depths-persisted : (es : List Entry) → AreNoDeeperThanIds es → AreNoDeeperThanIds (persisted es)
depths-persisted [] h = tt
depths-persisted (e ∷ es) h =
    elim e.acknowledged as (λ b. AreNoDeeperThanIds (cond b (e ∷ persisted es) (record e { acknowledged = true } ∷ es))) [
      | true ↦ (h.0, depths-persisted es h.1)
      | false ↦ h
    ]

-- what goes and what is kept are all
pub length-parts : (goes : Entry → Bool) (es kept : List Entry) (ids more : List ℕ) → kept ≡ filter (λ e. not (goes e)) es → more ≡ ids ++ ids_of (filter goes es)
    → length more + length kept ≡ length ids + length es
length-parts goes es kept ids more k m =
    let all : length (filter goes es) + length (filter (λ e. not (goes e)) es) ≡ length es = length-filter_both goes (λ e. not (goes e)) (λ e. refl) es in
    let gone : length more ≡ length ids + length (filter goes es) = ap length m ∙ length-append ids (ids_of (filter goes es)) ∙ ap (λ n. length ids + n) (length-map (filter goes es) (λ (e : Entry). e.id)) in
    let left : length kept ≡ length (filter (λ e. not (goes e)) es) = ap length k in
    omega arith

-- as many entries are there where a write is acknowledged
pub length-persisted : (es all : List Entry) → all ≡ persisted es → length all ≡ length es
length-persisted es all h =
    sym (length-map all (λ (e : Entry). e.id)) ∙ ap (λ (xs : List Entry). length (ids_of xs)) h ∙ ap length (ids-persisted es) ∙ length-map es (λ (e : Entry). e.id)
