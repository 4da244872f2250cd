-- What becomes of places that are kept.
use Rattle.std.proofs.Common.{◌≡◌, ℕ, ◌+◌, ◌<◌, Bool, true, false, ◌==◌, List, Some, refl, sym, subst, ◌∙◌, arith}
use Rattle.std.specs.List.{Contains}
use Rattle.std.proofs.lemmas.Bool.Decides.{nat_tests}
use Rattle.std.proofs.lemmas.Map.Views.{exact_unsigned_eq}
use Rattle.fw_running.specs.Places.{IsPut, IsTakenOut, IsFirstFrom, HasAllBelow, IsFirstPlaceFrom, place_limit}

-- a place is put, under the number of its node or edge
pub put_at : (p k : ℕ) (old from new : List ℕ) → IsPut k from new → k ≡ p → from ≡ old → IsPut p old new
put_at p k old from new h e o = subst (λ (xs : List ℕ). IsPut p xs new) o (subst (λ (x : ℕ). IsPut x from new) e h)

-- and taken out
pub take_at : (p k : ℕ) (old from new : List ℕ) → IsTakenOut k from new → k ≡ p → from ≡ old → IsTakenOut p old new
take_at p k old from new h e o = subst (λ (xs : List ℕ). IsTakenOut p xs new) o (subst (λ (x : ℕ). IsTakenOut x from new) e h)

lower : (q p : ℕ) → (q == p) ≡ false → q < p + 1 → q < p
lower q p e below = grind (arith, nat_tests)

-- where a place more is put, the places below the next one are all there
pub more_below : (p k : ℕ) (old new : List ℕ) → k ≡ p → HasAllBelow p old → IsPut k old new → HasAllBelow (p + 1) new
more_below p k old new same all put = λ q below. at q (q == p) refl below
  where
    at : (q : ℕ) (b : Bool) → (q == p) ≡ b → q < p + 1 → Contains new q
    at q true e below = subst (λ (x : ℕ). Contains new x) (same ∙ sym (exact_unsigned_eq q p e)) put.there
    at q false e below = put.stays q (all q (lower q p e below))

-- the first of them from one on, as that of a node or edge
pub first_from : (k p x : ℕ) (places from : List ℕ) → p ≡ x → from ≡ places → IsFirstPlaceFrom k from (Some x) → IsFirstPlaceFrom k places (Some p)
first_from k p x places from e o h =
    (subst (λ (xs : List ℕ). IsFirstFrom k xs p) o (subst (λ (y : ℕ). IsFirstFrom k from y) (sym e) h.0), subst (λ (y : ℕ). y < place_limit) (sym e) h.1)
