-- The coordinates of a stamp in places of a fixed number.
use Rattle.std.specs.Prelude.{ℕ, zero, suc, ◌≡◌, ◌≤◌, List, [], ◌∷◌, length, take}
use Rattle.std.proofs.Common.{ap, arith, refl}
use Rattle.std.proofs.lemmas.List.{length-take}

-- the first coordinates of a list at so many places, with zeros behind them
abbrev pub padded : ℕ → List ℕ → List ℕ
padded zero s = []
padded (suc k) [] = 0 ∷ padded k []
padded (suc k) (x ∷ s) = x ∷ padded k s

pub length-padded : (k : ℕ) (s : List ℕ) → length (padded k s) ≡ k
length-padded zero s = refl
length-padded (suc k) [] = ap suc (length-padded k [])
length-padded (suc k) (x ∷ s) = ap suc (length-padded k s)

-- so many coordinates are in the places
pub few_at : (n : ℕ) (xs : List ℕ) → n ≤ 4 → xs ≡ padded 4 (take n xs) → length (take n xs) ≡ n
few_at n xs h e = omega (arith, length-take n xs, ap length e, length-padded 4 (take n xs))
