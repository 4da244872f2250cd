-- Frontiers of epochs and numbers, and what is listed by epoch.
use Rattle.std.proofs.Common.{◌≡◌, ℕ, zero, suc, ◌+◌, ◌-◌, ◌<◌, ◌^◌, if◌then◌else◌, Bool, true, false, not, nat_lt, nat_le, List, [], ◌∷◌, ◌++◌, length, filter, map, set, min, Option, Some, None, refl, sym, ap, ◌∙◌, inl, inr, arith}
use Rattle.std.specs.List.{enumerate_from, range_with_len}
use Rattle.std.specs.Map.{lookup}
use Rattle.std.specs.Prelude.{slice_get, ◌==◌}
use Rattle.std.proofs.lemmas.Bool.{and_from, cond-true, cond-false, cases_Bool, lt-ltb, ltb-true, ltb-false, eqb-true, eqb-false}
use Rattle.std.proofs.lemmas.List.{length-map}
use Rattle.std.proofs.lemmas.List.FromFn.{length-enumerate_from}
use Rattle.std.proofs.Math.Bool.{and-false}
use Rattle.std.proofs.lemmas.Simd.{map-map}
use Rattle.fw_time.specs.Stamp.{Stamp, leq}
use Rattle.fw_frontier.specs.Front.{Front, inside}
use Rattle.fw_flow.specs.Counting.{how_many}
use Rattle.fw_bag.specs.Bag.{BagState}
use Rattle.fw_bag.specs.declared.rec.Rec.{Rec}
use Rattle.fw_flow.specs.Dataflow.{Dataflow, node_ids, batches_of_nodes}
use Rattle.fw_lines.specs.Batches.{batches_at, recs_of_bags}
use Rattle.fw_border.specs.Numbers.{is_number_below}
use Rattle.fw_border.specs.Sources.{SourceState, epochs_inside, unused_source, without_last, fed_source, can_be_fed, fed_batch}

-- a stamp of another number of coordinates is not at most a number
pub leq_other : (o : Stamp) (x : ℕ) → (length o ≡ 1 → ⊥) → leq o (x ∷ []) ≡ false
leq_other [] x n = refl
leq_other (y ∷ []) x n = absurd (n refl)
leq_other (y ∷ z ∷ s) x n = and-false (nat_le y x)

-- ---- how many of the first numbers are inside

count_all : (test : ℕ → Bool) (a n : ℕ) → ((x : ℕ) → test x ≡ true) → how_many test (range_with_len a n) ≡ n
count_all test a zero h = refl
count_all test a (suc n) h =
    let rest = count_all test (a + 1) n h in
    cond-true (test a) (how_many test (range_with_len (a + 1) n) + 1) (how_many test (range_with_len (a + 1) n)) (h a) ∙ omega arith

count_below : (test : ℕ → Bool) (k a n : ℕ) → ((x : ℕ) → test x ≡ nat_lt x k) → how_many test (range_with_len a n) ≡ min n (k - a)
count_below test k a zero h = omega arith
count_below test k a (suc n) h =
    let rest = count_below test k (a + 1) n h in
    let m = how_many test (range_with_len (a + 1) n) in
    elim (cases_Bool (test a)) [
      | inl e ↦ let l = ltb-true a k (sym (h a) ∙ e) in cond-true (test a) (m + 1) m e ∙ omega arith
      | inr e ↦ let l = ltb-false a k (sym (h a) ∙ e) in cond-false (test a) (m + 1) m e ∙ omega arith
    ]

-- the epochs inside are those below the bound
pub epochs_below : (f : Front) (k n : ℕ) → ((x : ℕ) → inside f (x ∷ []) ≡ is_number_below (Some k) x) → epochs_inside f n ≡ min n k
epochs_below f k n h = let c = count_below (λ x. inside f (x ∷ [])) k 0 n h in omega arith

-- all are inside where there is no bound
pub epochs_all : (f : Front) (n : ℕ) → ((x : ℕ) → inside f (x ∷ []) ≡ is_number_below None x) → epochs_inside f n ≡ n
epochs_all f n h = count_all (λ x. inside f (x ∷ [])) 0 n h

-- ---- what is listed by epoch

-- the pairs at epochs that are not below the bound
abbrev left_from : Option ℕ → List (ℕ × List Rec) → List (ℕ × List Rec)
left_from bound es = filter (λ e. not (is_number_below bound e.0)) es

-- the first bag goes, where its epoch is below the bound
pub dropped_first : (bound : Option ℕ) (n : ℕ) (b : BagState) (bags : List BagState) → is_number_below bound n ≡ true
    → filter (λ e. not (is_number_below bound e.0)) (enumerate_from n (recs_of_bags (b ∷ bags))) ≡ filter (λ e. not (is_number_below bound e.0)) (enumerate_from (n + 1) (recs_of_bags bags))
dropped_first bound n b bags e =
    cond-false (not (is_number_below bound n)) ((n, b.recs) ∷ left_from bound (enumerate_from (n + 1) (recs_of_bags bags))) (left_from bound (enumerate_from (n + 1) (recs_of_bags bags))) (ap not e)

later_too : (bound : Option ℕ) (n : ℕ) → is_number_below bound n ≡ false → is_number_below bound (n + 1) ≡ false
later_too None n e = absurd (cc)
later_too (Some k) n e = let l = ltb-false n k e in elim (cases_Bool (nat_lt (n + 1) k)) [
  | inl t ↦ let m = ltb-true (n + 1) k t in absurd (omega arith)
  | inr f ↦ f
]

-- nothing goes from an epoch on that is not below the bound
pub all_left : (bound : Option ℕ) (n : ℕ) (batches : List (List Rec)) → is_number_below bound n ≡ false
    → filter (λ e. not (is_number_below bound e.0)) (enumerate_from n batches) ≡ enumerate_from n batches
all_left bound n [] e = refl
all_left bound n (b ∷ bs) e =
    cond-true (not (is_number_below bound n)) ((n, b) ∷ left_from bound (enumerate_from (n + 1) bs)) (left_from bound (enumerate_from (n + 1) bs)) (ap not e)
    ∙ ap (λ es. (n, b) ∷ es) (all_left bound (n + 1) bs (later_too bound n e))

-- no batch is held of an earlier epoch
pub not_held : (x n : ℕ) (batches : List (List Rec)) → x < n → lookup (λ y. x == y) (enumerate_from n batches) ≡ None
not_held x n [] l = refl
not_held x n (b ∷ bs) l = elim (cases_Bool (x == n)) [
  | inl e ↦ let s = eqb-true x n e in absurd (omega arith)
  | inr e ↦ cond-false (x == n) (Some b) (lookup (λ y. x == y) (enumerate_from (n + 1) bs)) e ∙ not_held x (n + 1) bs (omega arith)
]

-- the batch of an epoch stands as far from the first as the epochs lie apart
pub held_at : (x n i : ℕ) (batches : List (List Rec)) → x ≡ n + i → lookup (λ y. x == y) (enumerate_from n batches) ≡ slice_get batches i
held_at x n i [] e = refl
held_at x n zero (b ∷ bs) e = elim (cases_Bool (x == n)) [
  | inl t ↦ cond-true (x == n) (Some b) (lookup (λ y. x == y) (enumerate_from (n + 1) bs)) t
  | inr f ↦ let s = eqb-false x n f in absurd (s (omega arith))
]
held_at x n (suc i) (b ∷ bs) e = elim (cases_Bool (x == n)) [
  | inl t ↦ let s = eqb-true x n t in absurd (omega arith)
  | inr f ↦ cond-false (x == n) (Some b) (lookup (λ y. x == y) (enumerate_from (n + 1) bs)) f ∙ held_at x (n + 1) i bs (omega arith)
]

-- a batch is put in the place of the last one, with another one behind it
pub last-replaced : (n i : ℕ) (bags : List BagState) (batch behind : BagState) → length bags ≡ suc i
    → enumerate_from n (recs_of_bags (set (bags ++ behind ∷ []) i batch))
    ≡ without_last (enumerate_from n (recs_of_bags bags)) ++ enumerate_from (n + i) (batch.recs ∷ behind.recs ∷ [])
last-replaced n i [] batch behind e = absurd (omega arith)
last-replaced n zero (b ∷ []) batch behind e =
    let k : n ≡ n + 0 = omega arith in ap (λ k. enumerate_from k (batch.recs ∷ behind.recs ∷ [])) k
last-replaced n zero (b ∷ c ∷ bs) batch behind e = absurd (omega arith)
last-replaced n (suc i) (b ∷ []) batch behind e = absurd (omega arith)
last-replaced n (suc i) (b ∷ c ∷ bs) batch behind e =
    let k : n + 1 + i ≡ n + suc i = omega arith in
    ap (λ es. (n, b.recs) ∷ es) (last-replaced (n + 1) i (c ∷ bs) batch behind (omega arith)
    ∙ ap (λ k. without_last (enumerate_from (n + 1) (recs_of_bags (c ∷ bs))) ++ enumerate_from k (batch.recs ∷ behind.recs ∷ [])) k)

abbrev view_of : ℕ → ℕ → ℕ → List (List Rec) → SourceState
view_of given injected first batches = record { given = given; injected = injected; held = enumerate_from first batches }

-- so a source is fed
pub fed-view : (given injected first i : ℕ) (bags : List BagState) (batch behind : BagState) → behind.recs ≡ [] → length bags ≡ suc i
    → given ≡ first + length bags → given < 2 ^ 64 - 1 → (source : SourceState)
    → view_of given injected first (recs_of_bags bags) ≡ source
    → view_of (given + 1) injected first (recs_of_bags (set (bags ++ behind ∷ []) i batch)) ≡ fed_batch batch.recs source
fed-view given injected first i bags batch behind none some all room source is =
    let batches = recs_of_bags bags in
    let kept = without_last (enumerate_from first batches) in
    let old : SourceState = record { given = given; injected = injected; held = enumerate_from first batches } in
    let last : first + i ≡ given - 1 = omega arith in
    let many : length (enumerate_from first batches) ≡ suc i = length-enumerate_from first batches ∙ length-map bags (λ (b : BagState). b.recs) ∙ some in
    let can : can_be_fed old ≡ true =
    and_from (nat_lt 0 (length (enumerate_from first batches))) (nat_lt given (2 ^ 64 - 1)) (lt-ltb 0 (length (enumerate_from first batches)) (omega arith)) (lt-ltb given (2 ^ 64 - 1) room) in
    let new : List (ℕ × List Rec) → SourceState = λ es. record { given = given + 1; injected = injected; held = es } in
    ap new (last-replaced first i bags batch behind some
    ∙ ap (λ recs. kept ++ enumerate_from (first + i) (batch.recs ∷ recs ∷ [])) none
    ∙ ap (λ n. kept ++ enumerate_from n (batch.recs ∷ [] ∷ [])) last)
    ∙ sym (ap (λ (b : Bool). if b then fed_source batch.recs ([] ∷ []) old else old) can)
    ∙ ap (fed_batch batch.recs) is

-- ---- the inputs of a flow

-- the inputs with the batches of each node
pub sources_of_nodes : (flow : Dataflow) (batches : List (ℕ × List (List Rec)))
    → map (λ p. unused_source (batches_at batches p)) (node_ids flow) ≡ map unused_source (batches_of_nodes flow batches)
unfolding batches_of_nodes
sources_of_nodes flow batches = sym (map-map unused_source (batches_at batches) (node_ids flow))
