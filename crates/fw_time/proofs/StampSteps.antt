-- How the loops over coordinates go on by one place.
use Rattle.std.proofs.Common.{◌≡◌, ℕ, ◌+◌, ◌<◌, ◌&&◌, nat_le, List, [], ◌∷◌, ◌++◌, length, get_or, take, drop, max, refl, ap, zero, suc, arith, add-one, ◌∙◌, sym, append_assoc}
use Rattle.std.proofs.lemmas.List.{append-nil}
use Rattle.std.specs.Fmt.{decimal}
use Rattle.fw_time.specs.StampText.{dots_text}
use Rattle.fw_time.specs.Stamp.{leq, lub, origin}

leq_suc : (a b : List ℕ) (i : ℕ) → i < length a → i < length b → leq (drop i a) (drop i b) ≡ (nat_le (get_or a i 0) (get_or b i 0) && leq (drop (suc i) a) (drop (suc i) b))
leq_suc [] b i h k = absurd (omega arith)
leq_suc (x ∷ a) [] i h k = absurd (omega arith)
leq_suc (x ∷ a) (y ∷ b) zero h k = refl
leq_suc (x ∷ a) (y ∷ b) (suc i) h k = leq_suc a b i (omega arith) (omega arith)

pub length-origin : (s : List ℕ) → length (origin s) ≡ length s
length-origin [] = refl
length-origin (x ∷ s) = ap suc (length-origin s)

-- how many places the greater coordinates have
pub length-lub_any : (a b : List ℕ) → length (lub a b) ≡ max (length a) (length b)
length-lub_any [] b = omega arith
length-lub_any (x ∷ a) [] = omega arith
length-lub_any (x ∷ a) (y ∷ b) = omega (arith, length-lub_any a b)

-- one more coordinate printed after its dot
pub dotted_more : (xs : List ℕ) (i x : ℕ) → i < length xs → x ≡ get_or xs i 0 → dots_text (take i xs) ++ (46 ∷ decimal x) ≡ dots_text (take (i + 1) xs)
dotted_more xs i x h e =
    ap (λ y. dots_text (take i xs) ++ (46 ∷ decimal y)) e ∙ sym (rw add-one (by xs i h))
  where
    by : (xs : List ℕ) (i : ℕ) → i < length xs → dots_text (take (suc i) xs) ≡ dots_text (take i xs) ++ (46 ∷ decimal (get_or xs i 0))
    by [] i h = absurd (omega arith)
    by (x ∷ xs) zero h = append-nil (46 ∷ decimal x)
    by (x ∷ xs) (suc i) h = ap (λ s. (46 ∷ decimal x) ++ s) (by xs i (omega arith)) ∙ sym (append_assoc (46 ∷ decimal x) (dots_text (take i xs)) (46 ∷ decimal (get_or xs i 0)))
