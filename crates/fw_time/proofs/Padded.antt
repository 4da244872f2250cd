-- What the calls of a stamp do in its four places.
use Rattle.std.proofs.Common.{◌≡◌, ℕ, ◌+◌, ◌<◌, ◌≤◌, ◌≢◌, Bool, false, ◌&&◌, nat_le, cond, List, [], ◌∷◌, ◌++◌, length, get_or, take, max, refl, ap, zero, suc, arith, ◌∙◌, sym}
use Rattle.std.proofs.Math.ListN.{set}
use Rattle.std.proofs.lemmas.Bool.Decides.{nat_tests}
use Rattle.std.proofs.lemmas.List.{take_more, length-take-le}
use Rattle.std.specs.Ordering.{nat_cmp, ordering_then}
use Rattle.std.specs.declared.cmp.Ordering.{Ordering}
use Rattle.std.specs.declared.cmp.Ordering.TheVariants.{Less, Equal, Greater}
use Rattle.std.specs.Cmp.Lexicographic.{slice_cmp}
use Rattle.fw_time.specs.Padded.{padded, length-padded, few_at}
use Rattle.fw_time.specs.Stamp.{leq, lub, origin, stamp_cmp}
use Rattle.fw_time.proofs.StampSteps.{length-lub_any, length-origin}
use Rattle.fw_time.proofs.StampLaws.{leq-refl, cmp-one_more}

-- the places and the number of a stamp's coordinates
pub record Holds (xs : List ℕ) (n : ℕ) (s : List ℕ) : Type 0 where
  pub places : xs ≡ padded 4 s
  pub many : n ≡ length s
  pub few : length s ≤ 4

-- what is known of a stamp that is looked into
pub opened : (xs : List ℕ) (n : ℕ) (s : List ℕ) → take n xs ≡ s → (n ≤ 4) × (xs ≡ padded 4 (take n xs)) → Holds xs n s
opened xs n s v h =
    let l = few_at n xs h.0 h.1 in
    let m : length (take n xs) ≡ length s = ap length v in
    record { places = h.1 ∙ ap (padded 4) v; many = omega arith; few = omega arith }

take-padded : (k : ℕ) (s : List ℕ) → length s ≤ k → take (length s) (padded k s) ≡ s
take-padded k [] h = refl
take-padded zero (x ∷ s) h = absurd (omega arith)
take-padded (suc k) (x ∷ s) h = ap (λ t. x ∷ t) (take-padded k s (omega arith))

-- the coordinates that contracts see
pub seen : (xs : List ℕ) (n : ℕ) (s : List ℕ) → Holds xs n s → take n xs ≡ s
seen xs n s h = ap (λ m. take m xs) h.many ∙ ap (take (length s)) h.places ∙ take-padded 4 s h.few

-- what holds of a stamp that is made
pub closed : (xs : List ℕ) (n : ℕ) (s : List ℕ) → Holds xs n s → (n ≤ 4) × (xs ≡ padded 4 (take n xs))
closed xs n s h =
    let m = h.many in
    let f = h.few in
    (omega arith, h.places ∙ ap (padded 4) (sym (seen xs n s h)))

-- one more coordinate in its place
pub place_more : (s : List ℕ) (i : ℕ) → i < length s → length s ≤ 4 → set (padded 4 (take i s)) i (get_or s i 0) ≡ padded 4 (take (i + 1) s)
place_more s i h k =
    let n : length (take i s) ≡ i = length-take-le i s (omega arith) in
    ap (λ j. set (padded 4 (take i s)) j (get_or s i 0)) (sym n) ∙ set-padded 4 (take i s) (get_or s i 0) (omega arith) ∙ ap (padded 4) (sym (take_more s i 0 h))
  where
    set-padded : (k : ℕ) (s : List ℕ) (x : ℕ) → length s < k → set (padded k s) (length s) x ≡ padded k (s ++ x ∷ [])
    set-padded zero s x h = absurd (omega arith)
    set-padded (suc k) [] x h = refl
    set-padded (suc k) (y ∷ s) x h = ap (λ t. y ∷ t) (set-padded k s x (omega arith))

-- ---- comparing

leq-padded : (k : ℕ) (s t : List ℕ) → length s ≡ length t → length s ≤ k → leq (padded k s) (padded k t) ≡ leq s t
leq-padded k [] [] h l = leq-refl (padded k [])
leq-padded k [] (y ∷ t) h l = absurd (omega arith)
leq-padded k (x ∷ s) [] h l = absurd (omega arith)
leq-padded zero (x ∷ s) (y ∷ t) h l = absurd (omega arith)
leq-padded (suc k) (x ∷ s) (y ∷ t) h l = ap (λ b. nat_le x y && b) (leq-padded k s t (omega arith) (omega arith))

-- stamps of one length are compared at all places
pub leq_places : {xs ys s t : List ℕ} {n m : ℕ} → Holds xs n s → Holds ys m t → n ≡ m → leq xs ys ≡ leq s t
leq_places {s = s} {t = t} h k e =
    let a = h.many in
    let b = k.many in
    let f = h.few in
    (λ i. leq (h.places i) (k.places i)) ∙ leq-padded 4 s t (omega arith) f

same_zeros : (k : ℕ) → slice_cmp nat_cmp (padded k []) (padded k []) ≡ Equal
same_zeros zero = refl
same_zeros (suc k) = same_zeros k

first_less : (k : ℕ) (t : List ℕ) (n : ℕ) → ordering_then (slice_cmp nat_cmp (padded k []) (padded k t)) (nat_cmp 0 (suc n)) ≡ Less
first_less zero t n = grind (arith, nat_tests)
first_less (suc k) [] n = first_less k [] n
first_less (suc k) (y ∷ t) n = step y _ _ (first_less k t n)
  where
    step : (y : ℕ) (o p : Ordering) → ordering_then o p ≡ Less → ordering_then (ordering_then (nat_cmp 0 y) o) p ≡ Less
    step y o p h = grind (arith, nat_tests)

first_greater : (k : ℕ) (s : List ℕ) (n : ℕ) → ordering_then (slice_cmp nat_cmp (padded k s) (padded k [])) (nat_cmp (suc n) 0) ≡ Greater
first_greater zero s n = grind (arith, nat_tests)
first_greater (suc k) [] n = first_greater k [] n
first_greater (suc k) (x ∷ s) n = step x _ _ (first_greater k s n)
  where
    step : (x : ℕ) (o p : Ordering) → ordering_then o p ≡ Greater → ordering_then (ordering_then (nat_cmp x 0) o) p ≡ Greater
    step x o p h = grind (arith, nat_tests)

cmp-padded : (k : ℕ) (s t : List ℕ) → length s ≤ k → length t ≤ k → ordering_then (slice_cmp nat_cmp (padded k s) (padded k t)) (nat_cmp (length s) (length t)) ≡ slice_cmp nat_cmp s t
cmp-padded k [] [] h l = ap (λ o. ordering_then o (nat_cmp 0 0)) (same_zeros k)
cmp-padded k [] (y ∷ t) h l = first_less k (y ∷ t) (length t)
cmp-padded k (x ∷ s) [] h l = first_greater k (x ∷ s) (length s)
cmp-padded zero (x ∷ s) (y ∷ t) h l = absurd (omega arith)
cmp-padded (suc k) (x ∷ s) (y ∷ t) h l =
    step (nat_cmp x y) (slice_cmp nat_cmp (padded k s) (padded k t)) _ _ (cmp-one_more (length s) (length t))
    ∙ ap (ordering_then (nat_cmp x y)) (cmp-padded k s t (omega arith) (omega arith))
  where
    step : (a b c d : Ordering) → c ≡ d → ordering_then (ordering_then a b) c ≡ ordering_then a (ordering_then b d)
    step Less b c d e = refl
    step Equal b c d e = ap (ordering_then b) e
    step Greater b c d e = refl

-- where all places are equal, the numbers of coordinates decide
pub cmp_places : {xs ys s t : List ℕ} {n m : ℕ} → Holds xs n s → Holds ys m t → ordering_then (stamp_cmp xs ys) (nat_cmp n m) ≡ stamp_cmp s t
cmp_places {s = s} {t = t} h k =
    (λ i. ordering_then (slice_cmp nat_cmp (h.places i) (k.places i)) (nat_cmp (h.many i) (k.many i))) ∙ cmp-padded 4 s t h.few k.few

four : {xs s : List ℕ} {n : ℕ} → Holds xs n s → length xs ≡ 4
four {s = s} h = ap length h.places ∙ length-padded 4 s

-- stamps with other first coordinates
pub cmp_first : {xs ys s t : List ℕ} {n m : ℕ} → Holds xs n s → Holds ys m t → get_or xs 0 0 ≢ get_or ys 0 0 → nat_cmp (get_or xs 0 0) (get_or ys 0 0) ≡ stamp_cmp s t
cmp_first {xs = xs} {ys = ys} {n = n} {m = m} h k e =
    by xs ys (nat_cmp n m) (four h) (four k) e ∙ cmp_places h k
  where
    step : (x y : ℕ) (o p : Ordering) → x ≢ y → nat_cmp x y ≡ ordering_then (ordering_then (nat_cmp x y) o) p
    step x y o p h = grind (arith, nat_tests)

    by : (xs ys : List ℕ) (p : Ordering) → length xs ≡ 4 → length ys ≡ 4 → get_or xs 0 0 ≢ get_or ys 0 0 → nat_cmp (get_or xs 0 0) (get_or ys 0 0) ≡ ordering_then (slice_cmp nat_cmp xs ys) p
    by [] ys p a b e = absurd (omega arith)
    by (x ∷ xs) [] p a b e = absurd (omega arith)
    by (x ∷ xs) (y ∷ ys) p a b e = step x y _ p e

-- a greater first coordinate
pub leq_first : {xs ys s t : List ℕ} {n m : ℕ} → Holds xs n s → Holds ys m t → n ≡ m → get_or ys 0 0 < get_or xs 0 0 → false ≡ leq s t
leq_first {xs = xs} {ys = ys} h k e l = by xs ys (four h) (four k) l ∙ leq_places h k e
  where
    step : (x y : ℕ) (b : Bool) → y < x → false ≡ (nat_le x y && b)
    step x y b h = grind (arith, nat_tests)

    by : (xs ys : List ℕ) → length xs ≡ 4 → length ys ≡ 4 → get_or ys 0 0 < get_or xs 0 0 → false ≡ leq xs ys
    by [] ys a b e = absurd (omega arith)
    by (x ∷ xs) [] a b e = absurd (omega arith)
    by (x ∷ xs) (y ∷ ys) a b e = step x y _ e

-- ---- making

lub-none : (s : List ℕ) → lub s [] ≡ s
lub-none [] = refl
lub-none (x ∷ s) = refl

lub-padded : (k : ℕ) (s t : List ℕ) → lub (padded k s) (padded k t) ≡ padded k (lub s t)
lub-padded zero s t = refl
lub-padded (suc k) [] [] = ap (λ u. 0 ∷ u) (lub-padded k [] [])
lub-padded (suc k) [] (y ∷ t) = λ i. first y i ∷ lub-padded k [] t i
  where
    first : (y : ℕ) → cond (nat_le 0 y) y 0 ≡ y
    first y = grind (arith, nat_tests)
lub-padded (suc k) (x ∷ s) [] = λ i. first x i ∷ (lub-padded k s [] ∙ ap (padded k) (lub-none s)) i
  where
    first : (x : ℕ) → cond (nat_le x 0) 0 x ≡ x
    first x = grind (arith, nat_tests)
lub-padded (suc k) (x ∷ s) (y ∷ t) = ap (λ u. cond (nat_le x y) y x ∷ u) (lub-padded k s t)

pub lub_holds : {xs ys s t zs : List ℕ} {n m o : ℕ} → Holds xs n s → Holds ys m t → zs ≡ lub xs ys → o ≡ max n m → Holds zs o (lub s t)
lub_holds {s = s} {t = t} h k e l =
    let a = h.many in
    let b = k.many in
    let f = h.few in
    let g = k.few in
    record {
      places = e ∙ (λ i. lub (h.places i) (k.places i)) ∙ lub-padded 4 s t;
      many = omega (arith, length-lub_any s t);
      few = omega (arith, length-lub_any s t);
    }

origin-padded : (k : ℕ) (s : List ℕ) → padded k [] ≡ padded k (origin s)
origin-padded zero s = refl
origin-padded (suc k) [] = refl
origin-padded (suc k) (x ∷ s) = ap (λ t. 0 ∷ t) (origin-padded k s)

pub origin_holds : {xs s : List ℕ} {n : ℕ} → Holds xs n s → Holds (0 ∷ 0 ∷ 0 ∷ 0 ∷ []) n (origin s)
origin_holds {s = s} h =
    let m = h.many in
    let f = h.few in
    record { places = origin-padded 4 s; many = omega (arith, length-origin s); few = omega (arith, length-origin s) }
