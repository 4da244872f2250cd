-- The numbers below a limit are a frontier.
use Rattle.std.proofs.Common.{◌≡◌, ℕ, ◌&&◌, true, nat_le, List, [], ◌∷◌, Option, Some, None, refl, sym, ◌∙◌, arith}
use Rattle.std.proofs.lemmas.Bool.Decides.{nat_tests}
use Rattle.fw_time.specs.Stamp.{leq}
use Rattle.fw_frontier.specs.Below.{is_below}

below-lesser : (until : Option ℕ) (m n : ℕ) → (nat_le m n && true) ≡ true → is_below until n ≡ true → is_below until m ≡ true
below-lesser None m n h k = refl
below-lesser (Some limit) m n h k = grind (arith, nat_tests)

-- with a number each lesser one is below the limit
pub is_below-closed : (until : Option ℕ) (s t : List ℕ) (m n : ℕ) → s ≡ m ∷ [] → t ≡ n ∷ [] → leq s t ≡ true → is_below until n ≡ true → is_below until m ≡ true
is_below-closed until s t m n d e h k = below-lesser until m n (sym (λ i. leq (d i) (e i)) ∙ h) k
