-- What a table of what a sequence sent counts.
use Rattle.std.proofs.Common.{◌≡◌, ◌↔◌, ℕ, zero, suc, ◌+◌, ◌-◌, ◌^◌, ◌<◌, ◌≤◌, true, false, cond, min, nat_lt, add-one, Some, Bool, List, [], ◌∷◌, ◌++◌, length, get_or, take, drop, filter, refl, sym, ap, subst, ◌∙◌, arith}
use Rattle.std.specs.Prelude.{slice_get}
use Rattle.std.specs.List.{AllByRecursion}
use Rattle.std.specs.List.Sorted.{IsNonDecreasingBy, IsPartitionPoint}
use Rattle.std.proofs.lemmas.List.{map-append, take-map, get_or-map, length-map, length-append, get_or_append_left}
use Rattle.std.proofs.Math.Seq.{get_or-append_seam, take-suc}
use Rattle.std.proofs.lemmas.List.Sorted.{IsNonDecreasingBy-push, IsNonDecreasingBy-take}
use Rattle.std.proofs.lemmas.List.Kept.{IsNonDecreasingBy-filter}
use Rattle.std.proofs.lemmas.List.Elements.{filter-append}
use Rattle.std.proofs.lemmas.Option.{get_or_from_slice_get, slice_get_within}
use Rattle.std.proofs.lemmas.Bool.{ltb-true, ltb-false}
use Rattle.std.proofs.lemmas.Bool.Decides.{nat_tests}
use Rattle.fw_flow.specs.declared.sent_table.SentInEpoch.{SentInEpoch}
use Rattle.fw_flow.specs.Projection.{first_coordinate, table_count}
use Rattle.fw_flow.specs.SentTable.{EpochsAscend, counts_of, HasRunningSums, AreRunningSums}

-- how many messages a table has for all epochs
abbrev sum : List SentInEpoch → ℕ
sum es = table_count (λ t. true) (counts_of es)

-- the total of an entry is the sum up to it
pub total-there : (before : ℕ) (es : List SentInEpoch) (i : ℕ) (d : SentInEpoch) → HasRunningSums before es → i < length es
    → (get_or es i d).total ≡ min (before + sum (take (i + 1) es)) (2 ^ 64 - 1)
total-there before es i d h l = rw add-one (by before es i h l)
  where
    by : (before : ℕ) (es : List SentInEpoch) (i : ℕ) → HasRunningSums before es → i < length es
        → (get_or es i d).total ≡ min (before + sum (take (suc i) es)) (2 ^ 64 - 1)
    by before [] i h l = absurd (omega arith)
    by before (e ∷ es) zero h l = h.0 ∙ ap (λ n. min (before + n) (2 ^ 64 - 1)) (none e.count)
      where
        none : (n : ℕ) → n ≡ n + 0
        none n = omega arith
    by before (e ∷ es) (suc i) h l = by (before + e.count) es i h.1 (omega arith) ∙ ap (λ n. min n (2 ^ 64 - 1)) (other before e.count (sum (take (suc i) es)))
      where
        other : (a b c : ℕ) → a + b + c ≡ a + (b + c)
        other a b c = omega arith

pub total-at : (es : List SentInEpoch) (place i : ℕ) (d : SentInEpoch) → HasRunningSums 0 es → (place ≡ 0 → ⊥) → place ≤ length es → i ≡ place - 1
    → (get_or es i d).total ≡ min (table_count (λ t. true) (counts_of (take place es))) (2 ^ 64 - 1)
total-at es zero i d h p l e = absurd (p refl)
total-at es (suc place) i d h p l e =
    let more : i + 1 ≡ suc place = omega (arith, e) in
    total-there 0 es i d h (omega (arith, more, l)) ∙ ap (λ n. min n (2 ^ 64 - 1)) (all (sum (take (i + 1) es)))
    ∙ ap (λ n. min (sum (take n es)) (2 ^ 64 - 1)) more
  where
    all : (n : ℕ) → 0 + n ≡ n
    all n = omega arith

-- of entries that a limit parts the first ones are below it
pub count-parted : (limit : ℕ) (es : List SentInEpoch) (place : ℕ) → place ≤ length es
    → ((k : ℕ) (d : SentInEpoch) → k < place → nat_lt (get_or es k d).epoch limit ≡ true)
    → ((k : ℕ) (d : SentInEpoch) → place ≤ k → k < length es → nat_lt (get_or es k d).epoch limit ≡ false)
    → table_count (λ t. nat_lt (first_coordinate t) limit) (counts_of es) ≡ table_count (λ t. true) (counts_of (take place es))
count-parted limit [] zero l below past = refl
count-parted limit [] (suc p) l below past = absurd (omega arith)
count-parted limit (e ∷ es) zero l below past =
    let rest = table_count (λ t. nat_lt (first_coordinate t) limit) (counts_of es) in
    ap (λ b. cond b (e.count + rest) rest) (past 0 e (omega arith) (omega arith))
    ∙ count-parted limit es zero (omega arith) (λ k d h. absurd (omega arith)) (λ k d h i. past (suc k) d (omega arith) (omega arith))
count-parted limit (e ∷ es) (suc p) l below past =
    let rest = table_count (λ t. nat_lt (first_coordinate t) limit) (counts_of es) in
    ap (λ b. cond b (e.count + rest) rest) (below 0 e (omega arith))
    ∙ ap (λ n. e.count + n)
    (count-parted limit es p (omega arith) (λ k d h. below (suc k) d (omega arith)) (λ k d h i. past (suc k) d (omega arith) (omega arith)))

-- what the entries before a point count, where those before it are below a limit and the others are not
pub count-below : (limit place total : ℕ) (es xs ys : List SentInEpoch) (table : List (ℕ × ℕ)) → xs ≡ es → ys ≡ es → counts_of es ≡ table → place ≤ length xs
    → IsPartitionPoint (λ (e : SentInEpoch). nat_lt e.epoch limit ≡ true) (λ (e : SentInEpoch). nat_lt e.epoch limit ≡ false) xs place
    → total ≡ min (table_count (λ t. true) (counts_of (take place ys))) (2 ^ 64 - 1)
    → total ≡ min (table_count (λ t. nat_lt (first_coordinate t) limit) table) (2 ^ 64 - 1)
count-below limit place total es xs ys table x y t l p k =
    k ∙ ap (λ n. min n (2 ^ 64 - 1))
    (ap (λ zs. table_count (λ t. true) (counts_of (take place zs))) (y ∙ sym x)
    ∙ sym (count-parted limit xs place l (λ k d h. p.0 k d (omega arith) h) p.1)
    ∙ ap (λ zs. table_count (λ t. nat_lt (first_coordinate t) limit) (counts_of zs)) x
    ∙ ap (table_count (λ t. nat_lt (first_coordinate t) limit)) t)

-- the entries before a point, where the epochs of those before it are below a limit
pub below-first : (limit place : ℕ) (es : List SentInEpoch) → place ≤ length es
    → ((k : ℕ) (d : SentInEpoch) → k < place → nat_lt (get_or es k d).epoch limit ≡ true)
    → AllByRecursion (λ (e : ℕ × ℕ). e.0 < limit) (take place (counts_of es))
below-first limit zero [] l below = tt
below-first limit zero (e ∷ es) l below = tt
below-first limit (suc p) [] l below = absurd (omega arith)
below-first limit (suc p) (e ∷ es) l below =
    (ltb-true e.epoch limit (below 0 e (omega arith)), below-first limit p es (omega arith) (λ k d h. below (suc k) d (omega arith)))

-- the entries from a point on, where the epochs of those from it on are not below a limit
pub others-from : (limit place : ℕ) (es : List SentInEpoch)
    → ((k : ℕ) (d : SentInEpoch) → place ≤ k → k < length es → nat_lt (get_or es k d).epoch limit ≡ false)
    → AllByRecursion (λ (e : ℕ × ℕ). limit ≤ e.0) (drop place (counts_of es))
others-from limit zero [] past = tt
others-from limit (suc p) [] past = tt
others-from limit zero (e ∷ es) past =
    (ltb-false e.epoch limit (past 0 e (omega arith) (omega arith)), others-from limit zero es (λ k d h i. past (suc k) d (omega arith) (omega arith)))
others-from limit (suc p) (e ∷ es) past = others-from limit p es (λ k d h i. past (suc k) d (omega arith) (omega arith))

-- ---- an entry more

totals-more : (before : ℕ) (es : List SentInEpoch) (e : SentInEpoch) → HasRunningSums before es → e.total ≡ min (before + sum es + e.count) (2 ^ 64 - 1)
    → HasRunningSums before (es ++ e ∷ [])
totals-more before [] e h k = (k ∙ ap (λ n. min (n + e.count) (2 ^ 64 - 1)) (none before), tt)
  where
    none : (n : ℕ) → n + 0 ≡ n
    none n = omega arith
totals-more before (x ∷ es) e h k =
    (h.0, totals-more (before + x.count) es e h.1 (k ∙ ap (λ n. min (n + e.count) (2 ^ 64 - 1)) (other before x.count (sum es))))
  where
    other : (a b c : ℕ) → a + (b + c) ≡ a + b + c
    other a b c = omega arith

saturated : (a b c : ℕ) → a ≡ min b (2 ^ 64 - 1) → min (a + c) (2 ^ 64 - 1) ≡ min (0 + b + c) (2 ^ 64 - 1)
saturated a b c e = ap (λ n. min (n + c) (2 ^ 64 - 1)) e ∙ by b c
  where
    by : (b c : ℕ) → min (min b (2 ^ 64 - 1) + c) (2 ^ 64 - 1) ≡ min (0 + b + c) (2 ^ 64 - 1)
    by b c = grind (arith, nat_tests)

pub counts-more : (es : List SentInEpoch) (e : SentInEpoch) → counts_of (es ++ e ∷ []) ≡ counts_of es ++ (e.epoch, e.count) ∷ []
counts-more es e = map-append (λ (x : SentInEpoch). (x.epoch, x.count)) es (e ∷ [])

-- an entry with its total
pub table-more : (es : List SentInEpoch) (e : SentInEpoch) (total : ℕ) → AreRunningSums es → EpochsAscend (counts_of es ++ (e.epoch, e.count) ∷ [])
    → total ≡ min (table_count (λ t. true) (counts_of es)) (2 ^ 64 - 1) → e.total ≡ min (total + e.count) (2 ^ 64 - 1) → AreRunningSums (es ++ e ∷ [])
table-more es e total t o k m = record {
  in_order = subst EpochsAscend (sym (counts-more es e)) o;
  totals = totals-more 0 es e t.totals (m ∙ saturated total (sum es) e.count k);
}

-- ---- the entries are in the order of their epochs

pub entries-in_order : (es : List SentInEpoch) → EpochsAscend (counts_of es) → IsNonDecreasingBy (λ (e : SentInEpoch). e.epoch) es
entries-in_order es h = λ i j d p q.
    let f : SentInEpoch → ℕ × ℕ = λ x. (x.epoch, x.count) in
    let same = length-map es f in
    let a = ap (λ (x : ℕ × ℕ). x.0) (get_or-map f es i d (f d) (omega (arith, p, q))) in
    let b = ap (λ (x : ℕ × ℕ). x.0) (get_or-map f es j d (f d) q) in
    let k = h i j (f d) p (omega (arith, same, q)) in
    omega (arith, a, b, k)

-- the last epoch of a table is that of the last entry
record HasLast (table : List (ℕ × ℕ)) (epoch : ℕ) : Type 0 where
  some : 0 < length table
  is_last : (d : ℕ × ℕ) → (get_or table (length table - 1) d).0 ≡ epoch

last-epoch : (es xs : List SentInEpoch) (table : List (ℕ × ℕ)) (last : SentInEpoch) → xs ≡ es → counts_of es ≡ table → Some last ≡ slice_get xs (length xs - 1) → HasLast table last.epoch
last-epoch es xs table last x t s =
    let f : SentInEpoch → ℕ × ℕ = λ e. (e.epoch, e.count) in
    let i = length xs - 1 in
    let same : length xs ≡ length table = sym (length-map xs f) ∙ ap (λ zs. length (counts_of zs)) x ∙ ap length t in
    let there : i < length xs = slice_get_within xs i last (sym s) in
    record {
      some = omega (arith, same, there);
      is_last = λ d.
          (λ j. (get_or (sym t j) (sym same j - 1) d).0) ∙ ap (λ zs. (get_or (counts_of zs) i d).0) (sym x) ∙ ap (λ z. z.0) (get_or-map f xs i last d there)
          ∙ ap (λ e. e.epoch) (get_or_from_slice_get xs i last last (sym s));
    }

-- an epoch is the last one or comes after it exactly where it may stand next
pub takes-epoch : (es xs : List SentInEpoch) (table : List (ℕ × ℕ)) (last : SentInEpoch) (epoch : ℕ) → xs ≡ es → counts_of es ≡ table → EpochsAscend (counts_of es)
    → Some last ≡ slice_get xs (length xs - 1) → (last.epoch ≤ epoch) ↔ ((count : ℕ) → EpochsAscend (table ++ (epoch, count) ∷ []))
takes-epoch es xs table last epoch x t o s = (
  λ l count. IsNonDecreasingBy-push (λ (e : ℕ × ℕ). e.0) table (epoch, count) (subst EpochsAscend t o)
      (λ d some. let e = (last-epoch es xs table last x t s).is_last d in omega (arith, e, l)),
  λ h.
      let d : ℕ × ℕ = (epoch, 0) in
      let n = length table in
      let has = last-epoch es xs table last x t s in
      let some = has.some in
      let long = length-append table (d ∷ []) in
      let k = h 0 (n - 1) n d (omega arith) (omega (arith, long)) in
      let before = ap (λ z. z.0) (get_or_append_left table (d ∷ []) d (n - 1) (omega (arith, some))) in
      let next = ap (λ z. z.0) (get_or-append_seam table d [] d) in
      let e = has.is_last d in
      omega (arith, k, before, next, e),
)

-- ---- a part of a table

-- an entry that is taken may come after those that were taken before it
pub part-next : (p : ℕ × ℕ → Bool) (es : List SentInEpoch) (i : ℕ) (d : SentInEpoch) (table : List (ℕ × ℕ)) → table ≡ filter p (counts_of (take i es)) → EpochsAscend (counts_of es) → i < length es
    → p ((get_or es i d).epoch, (get_or es i d).count) ≡ true
    → EpochsAscend (table ++ ((get_or es i d).epoch, (get_or es i d).count) ∷ [])
part-next p es i d table t h l e =
    let f : SentInEpoch → ℕ × ℕ = λ x. (x.epoch, x.count) in
    let x = get_or es i d in
    let before = counts_of (take i es) in
    let seen : take (suc i) (counts_of es) ≡ before ++ f x ∷ [] =
    take-map f (suc i) es ∙ ap counts_of (take-suc es i d l) ∙ map-append f (take i es) (x ∷ []) in
    let taken : filter p (take (suc i) (counts_of es)) ≡ table ++ f x ∷ [] =
    ap (filter p) seen ∙ filter-append p before (f x ∷ []) ∙ ap (λ b. filter p before ++ cond b (f x ∷ []) []) e ∙ ap (λ part. part ++ f x ∷ []) (sym t) in
    subst EpochsAscend taken
    (IsNonDecreasingBy-filter (λ (y : ℕ × ℕ). y.0) p (take (suc i) (counts_of es)) (IsNonDecreasingBy-take (λ (y : ℕ × ℕ). y.0) (suc i) (counts_of es) h))
