-- Bytes in pieces.
use Rattle.std.specs.Prelude.{ℕ, ◌==◌, List, [], ◌∷◌}
use Rattle.std.specs.List.{slice_split}

-- all but the last
abbrev pub but_last : List (List ℕ) → List (List ℕ)
but_last [] = []
but_last (part ∷ []) = []
but_last (part ∷ next ∷ parts) = part ∷ but_last (next ∷ parts)

-- the pieces of a text that have this byte behind them, each without it; what stands behind the last such byte is none
abbrev pub pieces : ℕ → List ℕ → List (List ℕ)
pieces byte text = but_last (slice_split (λ b. b == byte) text)
