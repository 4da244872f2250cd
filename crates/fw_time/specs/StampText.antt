-- How a stamp is printed.
use Rattle.std.specs.Prelude.{ℕ, List, [], ◌∷◌, ◌++◌}
use Rattle.std.specs.Fmt.{decimal}

-- the coordinates in decimal, each after a dot
abbrev pub dots_text : List ℕ → List ℕ
dots_text [] = []
dots_text (x ∷ s) = (46 ∷ decimal x) ++ dots_text s

-- the coordinates in decimal, joined by dots
abbrev pub stamp_text : List ℕ → List ℕ
stamp_text [] = []
stamp_text (x ∷ s) = decimal x ++ dots_text s
