-- A zip sends as much as came on that in-edge on which less came.
use Rattle.std.proofs.Common.{◌≡◌, ℕ, zero, suc, ◌+◌, ◌-◌, ◌<◌, ◌≤◌, Bool, true, false, cond, ◌&&◌, ◌==◌, List, [], ◌∷◌, ◌++◌, map, Option, Some, None, refl, sym, ap, ◌∙◌, arith}
use Rattle.std.specs.Prelude.{min, nat_lt, is_some, option_to_list}
use Rattle.std.proofs.lemmas.Bool.Decides.{nat_tests}
use Rattle.fw_time.specs.Stamp.{Stamp, same}
use Rattle.fw_time.specs.Sending.{side_stamp, side_number}
use Rattle.fw_bag.specs.declared.rec.Rec.{Rec}
use Rattle.fw_bag.specs.Arrivals.{Arrival, arrival}
use Rattle.fw_numbered.specs.Zip.{latest_at, partners_at, zipped, zipped_recs}
use Rattle.fw_numbered.specs.LawsOfZips.{how_many_on, AreInTurn, zipped_for, numbers_below, ZipsSendTheLesser}
use Rattle.fw_numbered.proofs.ZipLaws.{first_stamp, second_stamp, first-second, second-first}

-- ---- what is there

first-first : (n q : ℕ) → same (first_stamp n) (first_stamp q) ≡ (n == q)
first-first n q = grind (arith, nat_tests)

second-second : (n q : ℕ) → same (second_stamp n) (second_stamp q) ≡ (n == q)
second-second n q = grind (arith, nat_tests)

next-one : (k n : ℕ) → cond (k == n) true (nat_lt n k) ≡ nat_lt n (k + 1)
next-one k n = grind (arith, nat_tests)

some-by : (b : Bool) (r : Rec) (o : Option Rec) → is_some (cond b (Some r) o) ≡ cond b true (is_some o)
some-by true r o = refl
some-by false r o = refl

-- whether a number is there, where so many are there
abbrev Have : Stamp → ℕ → ℕ → List Arrival → Type 0
Have t n k came = is_some (latest_at t came) ≡ nat_lt n k

one-more : (t u : Stamp) (n k : ℕ) (side : ℕ) (r : Rec) (came : List Arrival) → same t u ≡ (k == n) → Have u n k came → Have u n (k + 1) (arrival side t r ∷ came)
one-more t u n k side r came e h =
    some-by (same t u) r (latest_at u came) ∙ (λ i. cond (e i) true (h i)) ∙ next-one k n

none-more : (t u : Stamp) (n k : ℕ) (side : ℕ) (r : Rec) (came : List Arrival) → same t u ≡ false → Have u n k came → Have u n k (arrival side t r ∷ came)
none-more t u n k side r came e h = ap (λ b. is_some (cond b (Some r) (latest_at u came))) e ∙ h

-- what is there on each in-edge
abbrev HaveBoth : List Arrival → Type 0
HaveBoth came = (n : ℕ) → Have (first_stamp n) n (how_many_on 0 came) came × Have (second_stamp n) n (how_many_on 1 came) came

both-more : (side : ℕ) (r : Rec) (came : List Arrival) → side < 2 → HaveBoth came
    → HaveBoth (arrival side (side_stamp side (how_many_on side came)) r ∷ came)
both-more zero r came l h = λ n. (
  one-more (first_stamp (how_many_on 0 came)) (first_stamp n) n (how_many_on 0 came) 0 r came (first-first (how_many_on 0 came) n) (h n).0,
  none-more (first_stamp (how_many_on 0 came)) (second_stamp n) n (how_many_on 1 came) 0 r came (first-second (how_many_on 0 came) n) (h n).1,
)
both-more (suc zero) r came l h = λ n. (
  none-more (second_stamp (how_many_on 1 came)) (first_stamp n) n (how_many_on 0 came) 1 r came (second-first (how_many_on 1 came) n) (h n).0,
  one-more (second_stamp (how_many_on 1 came)) (second_stamp n) n (how_many_on 1 came) 1 r came (second-second (how_many_on 1 came) n) (h n).1,
)
both-more (suc (suc s)) r came l h = absurd (omega arith)

have-both : (came : List Arrival) → AreInTurn came → HaveBoth came
have-both [] t = λ n. (none-below n, none-below n)
  where
    none-below : (n : ℕ) → false ≡ nat_lt n 0
    none-below n = grind (arith, nat_tests)
have-both (a ∷ came) t =
    let h = both-more a.side a.rec came t.0 (have-both came t.2) in
    λ n. (
      ap (λ s. is_some (latest_at (first_stamp n) (arrival a.side s a.rec ∷ came))) t.1 ∙ (h n).0,
      ap (λ s. is_some (latest_at (second_stamp n) (arrival a.side s a.rec ∷ came))) t.1 ∙ (h n).1,
    )

-- ---- what is sent

abbrev numbers_sent : List (Stamp × Rec) → List Stamp
numbers_sent xs = map (λ (x : Stamp × Rec). x.0) xs

heads : (n : ℕ) (o : Option Rec) (xs : List (Stamp × Rec))
    → numbers_sent (map (λ r. (n ∷ [], r)) (option_to_list o) ++ xs) ≡ cond (is_some o) ((n ∷ []) ∷ numbers_sent xs) (numbers_sent xs)
heads n None xs = refl
heads n (Some r) xs = refl

both-some : (x y : Option Rec) → is_some (zipped_recs x y) ≡ (is_some x && is_some y)
both-some None y = refl
both-some (Some x) None = refl
both-some (Some x) (Some y) = refl

-- one more on the in-edge on which k came, where m came on the other
grown : (k m : ℕ) → cond (nat_lt k (k + 1) && nat_lt k m) ((k ∷ []) ∷ numbers_below (min k m)) (numbers_below (min k m)) ≡ numbers_below (min (k + 1) m)
grown k m = by (nat_lt k m) refl
  where
    now : nat_lt k (k + 1) ≡ true
    now = grind (arith, nat_tests)

    by : (b : Bool) → nat_lt k m ≡ b
        → cond (nat_lt k (k + 1) && nat_lt k m) ((k ∷ []) ∷ numbers_below (min k m)) (numbers_below (min k m)) ≡ numbers_below (min (k + 1) m)
    by true e =
        let l : k < m = grind (arith, nat_tests) in
        let p : min k m ≡ k = omega arith in
        let q : min (k + 1) m ≡ suc k = omega arith in
        (λ i. cond (now i && e i) ((k ∷ []) ∷ numbers_below (p i)) (numbers_below (p i))) ∙ sym (ap numbers_below q)
    by false e =
        let l : m ≤ k = grind (arith, nat_tests) in
        let p : min k m ≡ m = omega arith in
        let q : min (k + 1) m ≡ m = omega arith in
        (λ i. cond (now i && e i) ((k ∷ []) ∷ numbers_below (p i)) (numbers_below (p i))) ∙ sym (ap numbers_below q)

swapped : (a b : Bool) → (a && b) ≡ (b && a)
swapped true true = refl
swapped true false = refl
swapped false true = refl
swapped false false = refl

min-swapped : (k m : ℕ) → min k m ≡ min m k
min-swapped k m = omega arith

first-number : (k : ℕ) → side_number (first_stamp k) ≡ k
first-number k = omega arith

second-number : (k : ℕ) → side_number (second_stamp k) ≡ k
second-number k = omega arith

sent-more : (side : ℕ) (r : Rec) (came : List Arrival) → side < 2
    → HaveBoth (arrival side (side_stamp side (how_many_on side came)) r ∷ came)
    → numbers_sent (zipped_for came) ≡ numbers_below (min (how_many_on 0 came) (how_many_on 1 came))
    → numbers_sent (zipped_for (arrival side (side_stamp side (how_many_on side came)) r ∷ came))
    ≡ numbers_below (min (how_many_on 0 (arrival side (side_stamp side (how_many_on side came)) r ∷ came)) (how_many_on 1 (arrival side (side_stamp side (how_many_on side came)) r ∷ came)))
sent-more zero r came l have h =
    let k = how_many_on 0 came in let m = how_many_on 1 came in
    let now : List Arrival = arrival 0 (first_stamp k) r ∷ came in
    ap (λ n. numbers_sent (map (λ r. (n ∷ [], r)) (option_to_list (zipped (partners_at n now))) ++ zipped_for came)) (first-number k)
    ∙ heads k (zipped (partners_at k now)) (zipped_for came)
    ∙ ap (λ b. cond b ((k ∷ []) ∷ numbers_sent (zipped_for came)) (numbers_sent (zipped_for came)))
    (both-some (latest_at (first_stamp k) now) (latest_at (second_stamp k) now) ∙ (λ i. (have k).0 i && (have k).1 i))
    ∙ ap (λ xs. cond (nat_lt k (k + 1) && nat_lt k m) ((k ∷ []) ∷ xs) xs) h
    ∙ grown k m
sent-more (suc zero) r came l have h =
    let k = how_many_on 1 came in let m = how_many_on 0 came in
    let now : List Arrival = arrival 1 (second_stamp k) r ∷ came in
    ap (λ n. numbers_sent (map (λ r. (n ∷ [], r)) (option_to_list (zipped (partners_at n now))) ++ zipped_for came)) (second-number k)
    ∙ heads k (zipped (partners_at k now)) (zipped_for came)
    ∙ ap (λ b. cond b ((k ∷ []) ∷ numbers_sent (zipped_for came)) (numbers_sent (zipped_for came)))
    (both-some (latest_at (first_stamp k) now) (latest_at (second_stamp k) now) ∙ (λ i. (have k).0 i && (have k).1 i)
    ∙ swapped (nat_lt k m) (nat_lt k (k + 1)))
    ∙ ap (λ xs. cond (nat_lt k (k + 1) && nat_lt k m) ((k ∷ []) ∷ xs) xs) (h ∙ ap numbers_below (min-swapped m k))
    ∙ grown k m ∙ ap numbers_below (min-swapped (k + 1) m)
sent-more (suc (suc s)) r came l have h = absurd (omega arith)

pub zips_send_the_lesser : ZipsSendTheLesser
zips_send_the_lesser [] t = refl
zips_send_the_lesser (a ∷ came) t =
    let now : Stamp → List Arrival = λ s. arrival a.side s a.rec ∷ came in
    ap (λ s. numbers_sent (zipped_for (now s))) t.1
    ∙ sent-more a.side a.rec came t.0 (both-more a.side a.rec came t.0 (have-both came t.2)) (zips_send_the_lesser came t.2)
