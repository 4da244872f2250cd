-- Parts of the keys: which recs a replica gets, and so which an edge carries.
use Rattle.std.specs.Prelude.{◌≡◌, ℕ, ◌+◌, ◌%◌, Bool, true, false, ◌==◌, if◌then◌else◌, Option, Some, None, slice_index_or}
use Rattle.std.specs.List.{AllByRecursion}
use Rattle.fw_bag.specs.declared.rec.Rec.{Rec}
use Rattle.fw_flow.specs.declared.key_part.KeyPart.{KeyPart}
use Rattle.fw_flow.specs.declared.kind.Kind.{Kind as KindBy}
use Rattle.fw_flow.specs.declared.kind.Kind.TheVariants.{Distinct, Join, Sum, Total}
use Rattle.fw_flow.specs.declared.node.Node.{Node}
use Rattle.fw_flow.specs.Dataflow.{Dataflow, idle_node, receiver}

-- whether a key is of a part: the part is its remainder by how many parts there are
abbrev pub is_of_part : KeyPart → ℕ → Bool
is_of_part part key = key % (part.last + 1) == part.place

-- whether a key is of a part, where there is one; else each key is
abbrev pub is_of_part_if : Option KeyPart → ℕ → Bool
is_of_part_if None key = true
is_of_part_if (Some part) key = is_of_part part key

-- whether nodes of the kind may be split, as these four may: what they make of the recs of a key rests on recs of this key alone
abbrev pub may_split : {L : Type 0} → KindBy L → Bool
may_split (Distinct within) = true
may_split (Join within) = true
may_split (Sum within) = true
may_split Total = true
may_split kind = false

-- the part of the keys whose recs come to a node, where it is a replica: that of a kind that may be split
abbrev pub part_of_node : Node → Option KeyPart
part_of_node node = if may_split node.kind then node.part else None

-- the same for the node at a place
unfoldable pub part_of : Dataflow → ℕ → Option KeyPart
part_of flow p = part_of_node (slice_index_or flow.nodes p idle_node)

-- no node is a replica
abbrev pub HasNoReplicas : Dataflow → Type 0
HasNoReplicas flow = AllByRecursion (λ node. node.part ≡ None) flow.nodes

-- whether an edge carries a rec that its sender sends: it carries those whose keys are of the part of its receiver
unfoldable pub is_carried : Dataflow → ℕ → Rec → Bool
is_carried flow e r = is_of_part_if (part_of flow (receiver flow e)) r.key
