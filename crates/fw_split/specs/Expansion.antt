-- A flow with split nodes as it is run: its expansion, in which each of them is a number of replicas that lead into a concat.
use Rattle.std.specs.Prelude.{◌≡◌, ◌⊎◌, ℕ, ◌+◌, ◌<◌, true, List, length, map, filter, Some, None}
use Rattle.std.specs.List.{AllByRecursion, range_with_len}
use Rattle.fw_flow.specs.declared.key_part.KeyPart.{KeyPart}
use Rattle.fw_flow.specs.declared.kind.Kind.TheVariants.{Concat}
use Rattle.fw_flow.specs.declared.kind.Policy.TheVariants.{None as NoPolicy}
use Rattle.fw_flow.specs.Dataflow.{System, Dataflow, kind_of, policy_of, sender, receiver, in_edges, batches_of}
use Rattle.fw_flow.specs.KeyParts.{is_of_part, may_split, part_of}
use Rattle.fw_flow.specs.Kind.{loop_of_kind}
use Rattle.fw_flow.specs.WholeBags.{Timed, outputs_of}
use Rattle.fw_model.specs.Denotation.{Family}

-- Of which edge of the flow without the word an edge of the expansion is made: it is this edge; it is a part of this edge; or on it
-- the replica of a part sends to the concat of this node.
pub data EdgeOrigin : Type 0 where
  Whole : ℕ → EdgeOrigin
  PartOf : ℕ → KeyPart → EdgeOrigin
  SentBy : ℕ → KeyPart → EdgeOrigin

-- Of which node of the flow without the word a node of the expansion is made: it is this node; it is the replica of a part of this
-- node; or it is the concat of the replicas of this node.
pub data NodeOrigin : Type 0 where
  Same : ℕ → NodeOrigin
  Replica : ℕ → KeyPart → NodeOrigin
  Gathered : ℕ → NodeOrigin

-- the parts from 0 to the last one
abbrev pub parts_to : ℕ → List KeyPart
parts_to last = map (λ i. record { place = i; last = last }) (range_with_len 0 (last + 1))

-- The node of the expansion is as its origin says. The node itself has its kind, its policy, its batches and its edges; a replica has the
-- kind and the policy of the node, the part, and of each edge to the node this part; the concat is in the loop of the node, keeps nothing,
-- and has an edge from each replica.
abbrev pub IsNodeOf : System → System → (ℕ → EdgeOrigin) → ℕ → NodeOrigin → Type 0
IsNodeOf small large of_edge q (Same p) =
    (kind_of large.flow q ≡ kind_of small.flow p) × (policy_of large.flow q ≡ policy_of small.flow p) × (part_of large.flow q ≡ None)
    × (batches_of large q ≡ batches_of small p) × (map of_edge (in_edges large.flow q) ≡ map Whole (in_edges small.flow p))
IsNodeOf small large of_edge q (Replica p part) =
    (kind_of large.flow q ≡ kind_of small.flow p) × (policy_of large.flow q ≡ policy_of small.flow p) × (part_of large.flow q ≡ Some part)
    × (may_split (kind_of small.flow p) ≡ true) × (map of_edge (in_edges large.flow q) ≡ map (λ d. PartOf d part) (in_edges small.flow p))
IsNodeOf small large of_edge q (Gathered p) =
    (kind_of large.flow q ≡ Concat (loop_of_kind (kind_of small.flow p))) × (policy_of large.flow q ≡ NoPolicy) × (part_of large.flow q ≡ None)
    × (may_split (kind_of small.flow p) ≡ true) × ((last : ℕ) × (map of_edge (in_edges large.flow q) ≡ map (SentBy p) (parts_to last)))

-- the node of this origin sends what node p sends: it is that node, or the concat of its replicas
abbrev pub SendsFor : ℕ → NodeOrigin → Type 0
SendsFor p (Same q) = q ≡ p
SendsFor p (Replica q part) = ⊥
SendsFor p (Gathered q) = q ≡ p

-- the node of this origin is no replica
abbrev pub IsNoReplica : NodeOrigin → Type 0
IsNoReplica (Same q) = Unit {0}
IsNoReplica (Replica q part) = ⊥
IsNoReplica (Gathered q) = Unit {0}

-- The edge of the expansion is as its origin says: an edge, or a part of it, leads from what sends for its sender, and a part leads
-- to a replica of that part.
abbrev pub IsEdgeOf : Dataflow → Dataflow → (ℕ → NodeOrigin) → ℕ → EdgeOrigin → Type 0
IsEdgeOf small large of_node e (Whole d) = SendsFor (sender small d) (of_node (sender large e)) × (part_of large (receiver large e) ≡ None)
IsEdgeOf small large of_node e (PartOf d part) =
    SendsFor (sender small d) (of_node (sender large e)) × (part_of large (receiver large e) ≡ Some part)
IsEdgeOf small large of_node e (SentBy p part) = (of_node (sender large e) ≡ Replica p part) × (part_of large (receiver large e) ≡ None)

-- a node of the expansion sends what node p sends
abbrev pub IsNodeAgain : Dataflow → (ℕ → NodeOrigin) → ℕ → Type 0
IsNodeAgain large of_node p = (q : ℕ) × (q < length large.nodes) × SendsFor p (of_node q)

-- an edge of the expansion is this edge
abbrev pub IsEdgeAgain : Dataflow → (ℕ → EdgeOrigin) → ℕ → Type 0
IsEdgeAgain large of_edge d = (e : ℕ) × (e < length large.edges) × (of_edge e ≡ Whole d)

-- edges of the expansion are all parts of this edge
abbrev pub IsEdgeInParts : Dataflow → (ℕ → EdgeOrigin) → ℕ → Type 0
IsEdgeInParts large of_edge d =
    (last : ℕ) × (es : List ℕ) × AllByRecursion (λ e. e < length large.edges) es × (map of_edge es ≡ map (PartOf d) (parts_to last))

-- The second system is an expansion of the first, which has no replicas: their loops are the same, each node and each edge of the
-- expansion is as its origin says, and each node and each edge of the first comes again.
pub record IsExpansion (small large : System) (of_node : ℕ → NodeOrigin) (of_edge : ℕ → EdgeOrigin) : Type 0 where
  pub whole : (p : ℕ) → part_of small.flow p ≡ None
  pub loops : small.flow.loops ≡ large.flow.loops
  pub nodes : (q : ℕ) → IsNodeOf small large of_edge q (of_node q)
  pub edges : (e : ℕ) → IsEdgeOf small.flow large.flow of_node e (of_edge e)
  pub nodes_again : (p : ℕ) → p < length small.flow.nodes → IsNodeAgain large.flow of_node p
  pub edges_again : (d : ℕ) → d < length small.flow.edges → IsEdgeAgain large.flow of_edge d ⊎ IsEdgeInParts large.flow of_edge d

-- the timed recs of these whose keys are of a part
abbrev pub timed_of_part : KeyPart → List Timed → List Timed
timed_of_part part rs = filter (λ r. is_of_part part r.rec.key) rs

-- what an edge of this origin carries in the expansion, where the family is that of the flow without the word
abbrev pub bag_of_origin : System → Family → EdgeOrigin → List Timed
bag_of_origin small family (Whole d) = family d
bag_of_origin small family (PartOf d part) = timed_of_part part (family d)
bag_of_origin small family (SentBy p part) = timed_of_part part (outputs_of small family p)
