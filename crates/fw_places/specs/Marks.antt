-- Places as marks: the places below a bound of which the bit is set.
use Rattle.std.specs.Prelude.{◌≡◌, ◌≤◌, ◌<◌, ℕ, zero, suc, ◌*◌, ◌/◌, ◌%◌, Bool, true, false, nat_eq, if◌then◌else◌, List, [], ◌∷◌, length, slice_index, Option, Some, None}
use Rattle.std.specs.Int.{bit_at}

-- of so many places from a on, those that are marked
abbrev pub listed : (ℕ → Bool) → ℕ → ℕ → List ℕ
listed f a zero = []
listed f a (suc n) = if f a then a ∷ listed f (suc a) n else listed f (suc a) n

-- whether the bit of a place is set, in words of 64 bits
unfoldable pub has_mark : List ℕ → ℕ → Bool
has_mark words q = nat_eq (bit_at (slice_index words (q / 64)) (q % 64)) 1

-- the places of which the bit is set
unfoldable pub marked : List ℕ → List ℕ
marked words = listed (has_mark words) 0 (length words * 64)

-- p is the first place from k on of which the bit is set.
pub record IsMarkFrom (words : List ℕ) (k p : ℕ) : Type 0 where
  pub from : k ≤ p
  pub inside : p < length words * 64
  pub here : has_mark words p ≡ true
  pub least : (q : ℕ) → k ≤ q → q < p → has_mark words q ≡ false

-- the answer is the first place from k on of which the bit is set, and none where there is none
abbrev pub IsNextMark : List ℕ → ℕ → Option ℕ → Type 0
IsNextMark words k None = (q : ℕ) → k ≤ q → q < length words * 64 → has_mark words q ≡ false
IsNextMark words k (Some p) = IsMarkFrom words k p
