-- Full names: those of nodes and edges, once what is split is spelled out as its replicas.
use Rattle.std.specs.Prelude.{ℕ, Bool, true, ◌==◌, ◌&&◌, ◌||◌, List, [], ◌∷◌, ◌++◌, take, drop, codes}
use Rattle.std.specs.Fmt.{decimal}
use Rattle.std.specs.List.{position_or_len}
use Rattle.std.specs.Str.{bytes_eq}
use Rattle.fw_lines.specs.Spelling.{is_name, is_numeral}

-- where the first dot of a word stands, or its end
abbrev pub dot_place : List ℕ → ℕ
dot_place word = position_or_len (λ b. b == 46) word

-- whether the bytes are nothing, or a dot and a numeral, or `.out.` and a numeral
abbrev pub is_suffix : List ℕ → Bool
is_suffix [] = true
is_suffix (b ∷ bs) = b == 46 && (is_numeral bs || (bytes_eq (take 4 bs) (codes "out.") && is_numeral (drop 4 bs)))

-- whether the word is a full name: a name, perhaps with `.N` or `.out.N` behind it, where N is a numeral
abbrev pub is_full_name : List ℕ → Bool
is_full_name word = is_name (take (dot_place word) word) && is_suffix (drop (dot_place word) word)

-- the name of a replica of a node, and of a part of an edge, by its place
abbrev pub part_name : List ℕ → ℕ → List ℕ
part_name name place = name ++ 46 ∷ decimal place

-- the name of the edge from a replica of a node
abbrev pub out_name : List ℕ → ℕ → List ℕ
out_name name place = name ++ (codes ".out." ++ decimal place)
