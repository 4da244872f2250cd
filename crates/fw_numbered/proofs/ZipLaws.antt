-- How a zip's table follows what comes and what is settled.
use Rattle.std.proofs.Common.{◌≡◌, ℕ, ◌+◌, Bool, true, false, cond, ◌&&◌, ◌==◌, List, [], ◌∷◌, Some, None, refl, sym, ap, ◌∙◌, arith}
use Rattle.std.specs.Ordering.{nat_cmp}
use Rattle.std.specs.BTreeMap.{BTreeMap, get, is_at}
use Rattle.std.proofs.lemmas.Bool.{and_left, and_right}
use Rattle.std.proofs.lemmas.Bool.Decides.{nat_tests}
use Rattle.fw_time.specs.Stamp.{Stamp, same}
use Rattle.fw_time.specs.Sending.{side_stamp}
use Rattle.fw_time.specs.NestLaws.{single, single-apart}
use Rattle.fw_time.proofs.StampLaws.{same-is, same-refl}
use Rattle.fw_bag.specs.declared.rec.Rec.{Rec}
use Rattle.fw_bag.specs.Arrivals.{Arrival, arrival}
use Rattle.fw_numbered.specs.declared.zip.Partners.{Partners}
use Rattle.fw_numbered.specs.Zip.{latest_at, partners_at, with_partner, are_both, zipped, are_settled, kept_at, partners_in}

abbrev pub first_stamp : ℕ → Stamp
first_stamp n = (n + 1) ∷ 0 ∷ []

abbrev pub second_stamp : ℕ → Stamp
second_stamp n = 0 ∷ (n + 1) ∷ []

abbrev pub no_partners : Partners
no_partners = record { first = None; second = None }

-- ---- the stamps of sides

pub first-second : (n q : ℕ) → same (first_stamp n) (second_stamp q) ≡ false
first-second n q = grind (arith, nat_tests)

pub second-first : (n q : ℕ) → same (second_stamp n) (first_stamp q) ≡ false
second-first n q = grind (arith, nat_tests)

first-first : (n q : ℕ) → same (n ∷ []) (q ∷ []) ≡ false → same (first_stamp n) (first_stamp q) ≡ false
first-first n q h = grind (arith, nat_tests)

second-second : (n q : ℕ) → same (n ∷ []) (q ∷ []) ≡ false → same (second_stamp n) (second_stamp q) ≡ false
second-second n q h = grind (arith, nat_tests)

-- ---- one that comes

abbrev stamp_by : Bool → ℕ → Stamp
stamp_by b n = cond b (first_stamp n) (second_stamp n)

abbrev with_by : Bool → Rec → Partners → Partners
with_by b r m = cond b (record { first = Some r; second = m.second }) (record { first = m.first; second = Some r })

met-here : (side n : ℕ) (r : Rec) (came : List Arrival) (b : Bool) → partners_at n (arrival side (stamp_by b n) r ∷ came) ≡ with_by b r (partners_at n came)
met-here side n r came true =
    let a = ap (λ c. cond c (Some r) (latest_at (first_stamp n) came)) (same-refl (first_stamp n)) in
    let b = ap (λ c. cond c (Some r) (latest_at (second_stamp n) came)) (first-second n n) in
    λ i. record { first = a i; second = b i }
met-here side n r came false =
    let a = ap (λ c. cond c (Some r) (latest_at (first_stamp n) came)) (second-first n n) in
    let b = ap (λ c. cond c (Some r) (latest_at (second_stamp n) came)) (same-refl (second_stamp n)) in
    λ i. record { first = a i; second = b i }

met-elsewhere : (side n q : ℕ) (r : Rec) (came : List Arrival) → same (n ∷ []) (q ∷ []) ≡ false → (b : Bool)
    → partners_at q (arrival side (stamp_by b n) r ∷ came) ≡ partners_at q came
met-elsewhere side n q r came h true =
    let a = ap (λ c. cond c (Some r) (latest_at (first_stamp q) came)) (first-first n q h) in
    let b = ap (λ c. cond c (Some r) (latest_at (second_stamp q) came)) (first-second n q) in
    λ i. record { first = a i; second = b i }
met-elsewhere side n q r came h false =
    let a = ap (λ c. cond c (Some r) (latest_at (first_stamp q) came)) (second-first n q) in
    let b = ap (λ c. cond c (Some r) (latest_at (second_stamp q) came)) (second-second n q h) in
    λ i. record { first = a i; second = b i }

-- of a number with a stamp that is not settled all is kept
kept-open : (settled : Stamp → Bool) (n : ℕ) (came : List Arrival) → are_settled settled n ≡ false → kept_at settled n came ≡ partners_at n came
kept-open settled n came h = ap (λ b. cond b no_partners (partners_at n came)) (and_right (are_both (partners_at n came)) (are_settled settled n) h)

open-by : (settled : Stamp → Bool) (n : ℕ) (b : Bool) → settled (stamp_by b n) ≡ false → are_settled settled n ≡ false
open-by settled n true h = and_left (settled (first_stamp n)) (settled (second_stamp n)) h
open-by settled n false h = and_right (settled (first_stamp n)) (settled (second_stamp n)) h

module _ (settled : Stamp → Bool) (place side n : ℕ) (r : Rec) (came : List Arrival) (out : settled (side_stamp side n) ≡ false) where
  abbrev now : List Arrival
  now = arrival place (side_stamp side n) r ∷ came

  still-open : are_settled settled n ≡ false
  still-open = open-by settled n (side == 0) out

  kept-here : kept_at settled n now ≡ with_partner side r (kept_at settled n came)
  kept-here =
      kept-open settled n now still-open ∙ met-here place n r came (side == 0)
      ∙ sym (ap (with_by (side == 0) r) (kept-open settled n came still-open))

  kept-elsewhere : (q : ℕ) → same (n ∷ []) (q ∷ []) ≡ false → kept_at settled q now ≡ kept_at settled q came
  kept-elsewhere q h = ap (λ m. cond (are_both m && are_settled settled q) no_partners m) (met-elsewhere place n q r came h (side == 0))

  -- what is put at the number of a rec that comes, makes the table that of one arrival more
  pub zip_more : (old new : BTreeMap ℕ Partners) (met : Partners)
      → ((q : ℕ) → get nat_cmp new q ≡ cond (is_at (nat_cmp n) q) (Some met) (get nat_cmp old q))
      → met ≡ with_partner side r (partners_in (get nat_cmp old n))
      → ((q : ℕ) → partners_in (get nat_cmp old q) ≡ kept_at settled q came)
      → (q : ℕ) → partners_in (get nat_cmp new q) ≡ kept_at settled q now
  zip_more old new met u e z = λ q. ap partners_in (u q ∙ ap (λ b. cond b (Some met) (get nat_cmp old q)) (single-apart n q)) ∙ by q (same (n ∷ []) (q ∷ [])) refl
    where
      by : (q : ℕ) (b : Bool) → same (n ∷ []) (q ∷ []) ≡ b → partners_in (cond b (Some met) (get nat_cmp old q)) ≡ kept_at settled q now
      by q true s =
          e ∙ ap (with_partner side r) (z n) ∙ sym kept-here
          ∙ ap (λ k. kept_at settled k now) (single n q (same-is (n ∷ []) (q ∷ []) s))
      by q false s = z q ∙ sym (kept-elsewhere q s)

  -- and what it sends is of what came by now
  pub zip_sent : (old : BTreeMap ℕ Partners) (met : Partners)
      → met ≡ with_partner side r (partners_in (get nat_cmp old n))
      → ((q : ℕ) → partners_in (get nat_cmp old q) ≡ kept_at settled q came)
      → zipped met ≡ zipped (partners_at n now)
  zip_sent old met e z = ap zipped (e ∙ ap (with_partner side r) (z n) ∙ sym kept-here ∙ kept-open settled n now still-open)
