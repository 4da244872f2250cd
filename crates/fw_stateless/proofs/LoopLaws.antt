-- Where recs are sent from a time of a loop.
use Rattle.std.proofs.Common.{◌≡◌, ℕ, ◌+◌, ◌<◌, ◌≤◌, true, false, cond, List, Some, None, ap, ◌∙◌, arith}
use Rattle.std.specs.Prelude.{nat_lt}
use Rattle.std.proofs.lemmas.Bool.Decides.{nat_tests}
use Rattle.fw_time.specs.Stamp.{nest, outer}
use Rattle.fw_time.specs.NestLaws.{outer-nest, counter-nest}
use Rattle.fw_time.specs.Sending.{fed_back_stamp}

nested : (max : ℕ) (s : List ℕ) (c : ℕ) → fed_back_stamp max (nest s c) ≡ cond (nat_lt c max) (Some (nest s (c + 1))) None
nested max s c =
    ap (λ k. cond (nat_lt k max) (Some (nest (outer (nest s c)) (k + 1))) None) (counter-nest s c)
    ∙ ap (λ u. cond (nat_lt c max) (Some (nest u (c + 1))) None) (outer-nest s c)

-- at a counter below the greatest
pub fed_back_next : (max : ℕ) (s : List ℕ) (c : ℕ) → c < max → fed_back_stamp max (nest s c) ≡ Some (nest s (c + 1))
fed_back_next max s c h =
    let t : nat_lt c max ≡ true = grind (arith, nat_tests) in
    nested max s c ∙ ap (λ b. cond b (Some (nest s (c + 1))) None) t

-- at the greatest
pub fed_back_none : (max : ℕ) (s : List ℕ) (c : ℕ) → max ≤ c → fed_back_stamp max (nest s c) ≡ None
fed_back_none max s c h =
    let t : nat_lt c max ≡ false = grind (arith, nat_tests) in
    nested max s c ∙ ap (λ b. cond b (Some (nest s (c + 1))) None) t

-- the stamp outside of the loop
pub left_outer : (s : List ℕ) (c : ℕ) → outer (nest s c) ≡ s
left_outer s c = outer-nest s c
