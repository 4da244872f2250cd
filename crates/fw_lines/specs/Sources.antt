-- The names of sources.
use Rattle.std.specs.Prelude.{ℕ, ◌==◌, Bool, List, [], ◌∷◌, Option}
use Rattle.std.specs.declared.alloc.Global.{Global}
use Rattle.std.specs.List.{list_any}
use Rattle.std.specs.Map.{lookup}
use Rattle.std.specs.Str.{bytes_eq}
use Rattle.std.specs.declared.vec.Vec.{Vec}

-- the node with this name
abbrev pub node_named : List (List ℕ × ℕ) → List ℕ → Option ℕ
node_named sources name = lookup (bytes_eq name) sources

-- whether the node is one of the sources
abbrev pub is_source : List (List ℕ × ℕ) → ℕ → Bool
is_source sources node = list_any (λ source. source.1 == node) sources

-- the bytes of the names
abbrev pub named_sources : List (Vec ℕ Global × ℕ) → List (List ℕ × ℕ)
named_sources [] = []
named_sources (e ∷ es) = (e.0.items, e.1) ∷ named_sources es
