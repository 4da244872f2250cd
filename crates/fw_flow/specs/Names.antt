-- Names in order, each once.
use Rattle.std.specs.Prelude.{ℕ, Bool, List, [], ◌∷◌, Option, position}
use Rattle.std.specs.List.{list_any}
use Rattle.std.specs.Str.{bytes_eq}
use Rattle.std.specs.declared.alloc.Global.{Global}
use Rattle.std.specs.declared.vec.Vec.{Vec}

-- whether the name is among these
abbrev pub has_name : List ℕ → List (List ℕ) → Bool
has_name name names = list_any (bytes_eq name) names

-- the first place of the name among these
abbrev pub place_of : List ℕ → List (List ℕ) → Option ℕ
place_of name names = position (bytes_eq name) names

-- the bytes of names
abbrev pub bytes_of : List (Vec ℕ Global) → List (List ℕ)
bytes_of [] = []
bytes_of (name ∷ names) = name.items ∷ bytes_of names
