-- The expansion of declarations: each node that is declared to be split stands as its replicas, each with its part of the keys.
use Rattle.std.specs.Prelude.{ℕ, ◌-◌, Bool, true, false, ◌&&◌, nat_le, if◌then◌else◌, List, [], ◌∷◌, ◌++◌, map, Option, Some, None}
use Rattle.std.specs.List.{flat_map, range_with_len}
use Rattle.std.specs.Option.{option_map_or, option_or}
use Rattle.std.specs.Str.{bytes_eq}
use Rattle.fw_flow.specs.declared.key_part.KeyPart.{KeyPart}
use Rattle.fw_flow.specs.declared.kind.Kind.TheVariants.{Concat}
use Rattle.fw_flow.specs.declared.kind.Policy.{Policy}
use Rattle.fw_flow.specs.declared.kind.Policy.TheVariants.{None as NoPolicy}
use Rattle.fw_flow.specs.declared.raw.Declaration.TheVariants.{Loop as ALoop, Node as ANode, Edge as AnEdge}
use Rattle.fw_flow.specs.FullNames.{part_name, out_name}
use Rattle.fw_flow.specs.KeyParts.{may_split}
use Rattle.fw_flow.specs.Kind.{RawKind, loop_of_kind}
use Rattle.fw_flow.specs.Declaring.{Declaration, Declared}

-- how many replicas are made where this number is written: so many, or two where it is not from 2 to 64
abbrev pub replicas_for : ℕ → ℕ
replicas_for n = if nat_le 2 n && nat_le n 64 then n else 2

-- how many replicas a node of the kind has, if it is split: with this number written, and a part of the keys if it is a replica itself
abbrev pub replicas_of_kind : RawKind → Option ℕ → Option KeyPart → Option ℕ
replicas_of_kind kind (Some n) None = if may_split kind then Some (replicas_for n) else None
replicas_of_kind kind split part = None

-- how many replicas the node of this name has, if this declares it to be split
abbrev pub replicas_declared : List ℕ → Declaration → Option ℕ
replicas_declared name (ALoop own max parent) = None
replicas_declared name (ANode own kind policy split part) = if bytes_eq name own then replicas_of_kind kind split part else None
replicas_declared name (AnEdge own sender receiver) = None

-- the same for what these declare
abbrev pub split_of : List Declared → List ℕ → Option ℕ
split_of [] name = None
split_of (d ∷ raw) name = option_or (replicas_declared name d.declaration) (split_of raw name)

-- a replica of a node that is split in so many
abbrev pub replica : List ℕ → RawKind → Policy → ℕ → ℕ → Declaration
replica name kind policy n i = ANode (part_name name i) kind policy None (Some (record { place = i; last = n - 1 }))

-- where what the replicas of a node send is joined again; the number that was written stays with it
abbrev pub joint : List ℕ → RawKind → Option ℕ → Declaration
joint name kind split = ANode name (Concat (loop_of_kind kind)) NoPolicy split None

-- the edge from a replica to where they are joined
abbrev pub replica_edge : List ℕ → ℕ → Declaration
replica_edge name i = AnEdge (out_name name i) (part_name name i) name

-- a node that is split in so many: its replicas, where they are joined, and the edges to there
abbrev pub split_node : List ℕ → RawKind → Policy → Option ℕ → ℕ → List Declaration
split_node name kind policy split n = map (replica name kind policy n) (range_with_len 0 n) ++ joint name kind split ∷ map (replica_edge name) (range_with_len 0 n)

-- the part of an edge that leads to a replica
abbrev pub edge_to_replica : List ℕ → List ℕ → List ℕ → ℕ → Declaration
edge_to_replica name sender receiver i = AnEdge (part_name name i) sender (part_name receiver i)

-- an edge to a node that is split in so many: one to each replica
abbrev pub split_edge : List ℕ → List ℕ → List ℕ → ℕ → List Declaration
split_edge name sender receiver n = map (edge_to_replica name sender receiver) (range_with_len 0 n)

-- what a declaration comes to, among all of these
abbrev pub expanded : List Declared → Declaration → List Declaration
expanded raw (ALoop name max parent) = ALoop name max parent ∷ []
expanded raw (ANode name kind policy split part) =
    option_map_or (split_node name kind policy split) (replicas_of_kind kind split part) (ANode name kind policy split part ∷ [])
expanded raw (AnEdge name sender receiver) =
    option_map_or (split_edge name sender receiver) (split_of raw receiver) (AnEdge name sender receiver ∷ [])

-- these declarations, all on one line
abbrev pub at_line : ℕ → List Declaration → List Declared
at_line line ds = map (λ d. record { line = line; declaration = d }) ds

-- the same with lines: all that a declaration comes to has its line
abbrev pub expanded_one : List Declared → Declared → List Declared
expanded_one raw d = at_line d.line (expanded raw d.declaration)

-- the expansion of declarations
abbrev pub expand : List Declared → List Declared
expand raw = flat_map (expanded_one raw) raw
