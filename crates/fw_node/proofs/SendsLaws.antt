-- The recs that are sent, by their places.
use Rattle.std.proofs.Common.{◌≡◌, ℕ, zero, suc, ◌+◌, Bool, true, false, List, [], ◌∷◌, length, map, get_or, Option, Some, None, nat_lt, refl, ap, ◌∙◌, arith}
use Rattle.std.specs.Prelude.{slice_get}
use Rattle.std.proofs.lemmas.Bool.Decides.{nat_tests}
use Rattle.fw_time.specs.Stamp.{Stamp}
use Rattle.fw_bag.specs.declared.rec.Rec.{Rec}
use Rattle.fw_numbered.specs.Numbers.{at_numbers}

below_less : (b : Bool) (i n : ℕ) → b ≡ nat_lt (suc i) (suc n) → b ≡ nat_lt i n
below_less b i n h = let e : nat_lt (suc i) (suc n) ≡ nat_lt i n = grind (arith, nat_tests) in h ∙ e

none_below : (i : ℕ) → nat_lt i 0 ≡ false
none_below i = grind (arith, nat_tests)

some_below : (n : ℕ) → nat_lt 0 (suc n) ≡ true
some_below n = grind (arith, nat_tests)

-- a rec at a stamp
abbrev pub at_stamp : Stamp → Rec → Option (Stamp × Rec)
at_stamp t r = Some (t, r)

-- a place that has a rec has it at the stamp
pub together-some : (t : Stamp) (rs : List Rec) (i : ℕ) (r : Rec) → true ≡ nat_lt i (length rs) → r ≡ get_or rs i r
    → at_stamp t r ≡ slice_get (map (λ (x : Rec). (t, x)) rs) i
together-some t [] i r h e = let f = h ∙ none_below i in cc
together-some t (x ∷ rs) zero r h e = ap (at_stamp t) e
together-some t (x ∷ rs) (suc i) r h e = together-some t rs i r (below_less true i (length rs) h) e

-- or at its number
pub numbered-some : (n : ℕ) (rs : List Rec) (i : ℕ) (r : Rec) → true ≡ nat_lt i (length rs) → r ≡ get_or rs i r
    → at_stamp ((n + i) ∷ []) r ≡ slice_get (at_numbers n rs) i
numbered-some n [] i r h e = let f = h ∙ none_below i in cc
numbered-some n (x ∷ rs) zero r h e =
    let z : n + 0 ≡ n = omega arith in
    ap (λ (k : ℕ). at_stamp (k ∷ []) r) z ∙ ap (at_stamp (n ∷ [])) e
numbered-some n (x ∷ rs) (suc i) r h e =
    let z : n + suc i ≡ n + 1 + i = omega arith in
    ap (λ (k : ℕ). at_stamp (k ∷ []) r) z ∙ numbered-some (n + 1) rs i r (below_less true i (length rs) h) e

-- past the last one there is none
pub numbered-none : (n : ℕ) (rs : List Rec) (i : ℕ) → false ≡ nat_lt i (length rs) → None ≡ slice_get (at_numbers n rs) i
numbered-none n [] zero h = refl
numbered-none n [] (suc i) h = refl
numbered-none n (x ∷ rs) zero h = let f = h ∙ some_below (length rs) in cc
numbered-none n (x ∷ rs) (suc i) h = numbered-none (n + 1) rs i (below_less false i (length rs) h)
