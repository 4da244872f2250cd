-- The laws of times of one coordinate, and of times with a coordinate more.
use Rattle.std.proofs.Common.{◌≡◌, ℕ, ◌+◌, ◌<◌, false, ◌&&◌, nat_le, max, min, cond, List, [], ◌∷◌, length, refl, sym, ap, ◌∙◌, arith}
use Rattle.std.proofs.Math.Bool.{and-false, and_assoc, and-true}
use Rattle.std.proofs.lemmas.Bool.Decides.{nat_tests}
use Rattle.fw_time.specs.Stamp.{leq, lub, glb, nest, outer, counter}
use Rattle.fw_time.specs.NestLaws.{dimension-outer}
use Rattle.fw_time.proofs.StampLaws.{lub-nest, leq-nest, length-glb}

-- the greater counter
pub lub-nest_max : (s t : List ℕ) (c d n : ℕ) → length s ≡ n → length t ≡ n → lub (nest s c) (nest t d) ≡ nest (lub s t) (max c d)
lub-nest_max s t c d n e f = lub-nest s t c d (e ∙ sym f) ∙ ap (nest (lub s t)) (greater c d)
  where
    greater : (c d : ℕ) → cond (nat_le c d) d c ≡ max c d
    greater c d = grind (arith, nat_tests)

-- a stamp of a loop lies in the domain by its outer stamp and its counter
pub leq-nest_bound : (s g : List ℕ) (c : ℕ) → 0 < length g → leq (nest s c) g ≡ (leq s (outer g) && nat_le c (counter g))
leq-nest_bound s [] c h = absurd (omega arith)
leq-nest_bound [] (y ∷ []) c h = and-true (nat_le c y)
leq-nest_bound [] (y ∷ z ∷ g) c h = and-false (nat_le c y)
leq-nest_bound (x ∷ []) (y ∷ []) c h = and-false (nat_le x y)
leq-nest_bound (x ∷ w ∷ s) (y ∷ []) c h = and-false (nat_le x y)
leq-nest_bound (x ∷ s) (y ∷ z ∷ g) c h = ap (λ b. nat_le x y && b) (leq-nest_bound s (z ∷ g) c (omega arith)) ∙ sym (and_assoc (nat_le x y) (leq s (outer (z ∷ g))) (nat_le c (counter (z ∷ g))))

-- no stamp of a loop lies in a domain without coordinates
pub leq-nest_none : (s : List ℕ) (c : ℕ) (g : List ℕ) → length g ≡ 0 → leq (nest s c) g ≡ false
leq-nest_none [] c [] h = refl
leq-nest_none (x ∷ s) c [] h = refl
leq-nest_none s c (y ∷ g) h = absurd (omega arith)

-- the lesser part of a loop's stamp in a domain, by its outer stamp and its counter
glb-nest : (s g : List ℕ) (c : ℕ) → length g ≡ length s + 1 → glb (nest s c) g ≡ nest (glb s (outer g)) (min c (counter g))
glb-nest [] [] c h = absurd (omega arith)
glb-nest [] (y ∷ []) c h = ap (λ z. z ∷ []) (lesser c y)
  where
    lesser : (c y : ℕ) → cond (nat_le c y) c y ≡ min c y
    lesser c y = grind (arith, nat_tests)
glb-nest [] (y ∷ z ∷ g) c h = absurd (omega arith)
glb-nest (x ∷ s) [] c h = absurd (omega arith)
glb-nest (x ∷ s) (y ∷ []) c h = absurd (omega arith)
glb-nest (x ∷ s) (y ∷ z ∷ g) c h = ap (λ u. cond (nat_le x y) x y ∷ u) (glb-nest s (z ∷ g) c (omega arith))

-- what of a loop's domain is at most a stamp
pub leq-glb_nest : (s g t : List ℕ) (c k : ℕ) → length g ≡ length s + 1 → length s ≡ length t → leq (glb (nest s c) g) (nest t k) ≡ (leq (glb s (outer g)) t && nat_le (min c (counter g)) k)
leq-glb_nest s g t c k h e =
    ap (λ u. leq u (nest t k)) (glb-nest s g c h) ∙ leq-nest (glb s (outer g)) t (min c (counter g)) k (length-glb s (outer g) (sym (dimension-outer g (length s) h)) ∙ e)
