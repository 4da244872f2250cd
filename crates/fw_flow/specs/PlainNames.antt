-- Where the names of an expansion are those that are written: everywhere but at replicas, and at the edges to them and from them.
use Rattle.std.specs.Prelude.{◌≡◌, true, if◌then◌else◌, List, Option, None}
use Rattle.std.specs.List.{AllByRecursion}
use Rattle.fw_lines.specs.Spelling.{is_name}
use Rattle.fw_flow.specs.declared.key_part.KeyPart.{KeyPart}
use Rattle.fw_flow.specs.declared.raw.Declaration.TheVariants.{Loop, Node, Edge}
use Rattle.fw_flow.specs.Dataflow.{Dataflow, is_input_kind}
use Rattle.fw_flow.specs.Declaring.{Declaration, Declared}
use Rattle.fw_flow.specs.KeyParts.{HasNoReplicas, may_split, part_of_node}
use Rattle.fw_flow.specs.Kind.{RawKind}

-- each node that is no replica has a name as it is written
abbrev pub HasPlainNodes : Dataflow → Type 0
HasPlainNodes flow = AllByRecursion (λ node. part_of_node node ≡ None → is_name node.name ≡ true) flow.nodes

-- where no node is a replica, so has each edge
abbrev pub HasPlainEdges : Dataflow → Type 0
HasPlainEdges flow = HasNoReplicas flow → AllByRecursion (λ edge. is_name edge.name ≡ true) flow.edges

-- each input has a name as it is written
abbrev pub HasPlainInputs : Dataflow → Type 0
HasPlainInputs flow = AllByRecursion (λ node. is_input_kind node.kind ≡ true → is_name node.name ≡ true) flow.nodes

-- the part of a node that is declared, as the node has it
abbrev pub part_declared : RawKind → Option KeyPart → Option KeyPart
part_declared kind part = if may_split kind then part else None

-- the same of what is declared
abbrev pub HasPlainNode : Declaration → Type 0
HasPlainNode (Loop name max parent) = Unit {0}
HasPlainNode (Node name kind policy split part) = part_declared kind part ≡ None → is_name name ≡ true
HasPlainNode (Edge name sender receiver) = Unit {0}

abbrev pub HasNoPart : Declaration → Type 0
HasNoPart (Loop name max parent) = Unit {0}
HasNoPart (Node name kind policy split part) = part ≡ None
HasNoPart (Edge name sender receiver) = Unit {0}

abbrev pub HasPlainEdge : Declaration → Type 0
HasPlainEdge (Loop name max parent) = Unit {0}
HasPlainEdge (Node name kind policy split part) = Unit {0}
HasPlainEdge (Edge name sender receiver) = is_name name ≡ true

pub record ArePlain (raw : List Declared) : Type 0 where
  pub nodes : AllByRecursion (λ d. HasPlainNode d.declaration) raw
  pub edges : AllByRecursion (λ d. HasNoPart d.declaration) raw → AllByRecursion (λ d. HasPlainEdge d.declaration) raw
