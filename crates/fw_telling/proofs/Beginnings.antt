-- First bytes of a list.
use Rattle.std.proofs.Common.{◌≡◌, ℕ, ◌+◌, ◌≤◌, zero, suc, List, [], ◌∷◌, take, length, refl, ap, subst, ◌∙◌, arith}

-- so many first bytes of a list, if there are fewer, are all of them
take-fewer : (limit : ℕ) (all : List ℕ) → length (take (suc limit) all) ≤ limit → take (suc limit) all ≡ all
take-fewer limit [] few = refl
take-fewer zero (byte ∷ all) few = absurd (omega arith)
take-fewer (suc limit) (byte ∷ all) few = ap (λ bytes. byte ∷ bytes) (take-fewer limit all (omega arith))

-- what was read of a list, one byte more than the limit at most, is all of it, if it is within the limit
pub take_short : (limit : ℕ) (all read : List ℕ) → read ≡ take (limit + 1) all → length read ≤ limit → read ≡ all
take_short limit all read is few =
    let one : limit + 1 ≡ suc limit = omega arith in
    let short : read ≡ take (suc limit) all = is ∙ ap (λ n. take n all) one in
    short ∙ take-fewer limit all (subst (λ bytes. length bytes ≤ limit) short few)
