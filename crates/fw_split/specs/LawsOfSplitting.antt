-- The laws of split nodes.
use Rattle.std.specs.Prelude.{◌≡◌, ◌⊎◌, ℕ, ◌<◌, true, false, List, length, map}
use Rattle.std.specs.List.{AllByRecursion, flat_map}
use Rattle.fw_bag.specs.declared.rec.Rec.{Rec}
use Rattle.fw_flow.specs.declared.key_part.KeyPart.{KeyPart}
use Rattle.fw_flow.specs.Builder.{has_names}
use Rattle.fw_flow.specs.Check.{IsChecked}
use Rattle.fw_flow.specs.Declaring.{Declared}
use Rattle.fw_flow.specs.Expand.{expand}
use Rattle.fw_flow.specs.Kind.{Kind}
use Rattle.fw_flow.specs.Dataflow.{System, Dataflow, kind_of, in_edges}
use Rattle.fw_flow.specs.KeyParts.{may_split}
use Rattle.fw_flow.specs.PlainNames.{HasNoPart}
use Rattle.fw_flow.specs.Raw.{flow_of_declarations}
use Rattle.fw_flow.specs.WellFormed.{IsWellFormed}
use Rattle.fw_flow.specs.WholeBags.{Timed, in_order, outputs_of_kind}
use Rattle.fw_model.specs.Denotation.{Family, IsDenotation}
use Rattle.fw_split.specs.Exact.{IsExactExpansion}
use Rattle.fw_split.specs.Expansion.{EdgeOrigin, Whole, PartOf, NodeOrigin, Same, IsExpansion, parts_to, timed_of_part, bag_of_origin}
use Rattle.fw_split.specs.Unsplit.{AreNewInTurn, AreAsWritten, HaveSameBatches, unsplit}

-- A node of a kind that may be split, to which of each bag a part comes, sends this part of what it sends where all comes.
abbrev pub ReplicasSendTheirParts : Type 0
ReplicasSendTheirParts = (flow : Dataflow) (kind : Kind) (batches : List (List Rec)) (bags : List (List Timed)) (part : KeyPart) → may_split kind ≡ true
    → timed_of_part part (in_order (outputs_of_kind flow kind batches bags)) ≡ in_order (outputs_of_kind flow kind batches (map (timed_of_part part) bags))

-- The parts of a bag, one after another, are the bag.
abbrev pub PartsMakeTheBag : Type 0
PartsMakeTheBag = (last : ℕ) (rs : List Timed) → in_order (flat_map (λ part. timed_of_part part rs) (parts_to last)) ≡ in_order rs

-- Where a family is the denotation of a system without replicas, that of an expansion has on each edge what its origin says.
abbrev pub ExpansionDenotesTheSame : Type 0
ExpansionDenotesTheSame = (small large : System) (of_node : ℕ → NodeOrigin) (of_edge : ℕ → EdgeOrigin) → IsExpansion small large of_node of_edge
    → (family : Family) → IsDenotation small family → IsDenotation large (λ e. bag_of_origin small family (of_edge e))

-- So has each denotation of a well-formed expansion.
abbrev pub DenotationOfExpansion : Type 0
DenotationOfExpansion = (small large : System) (of_node : ℕ → NodeOrigin) (of_edge : ℕ → EdgeOrigin) → IsExpansion small large of_node of_edge
    → IsWellFormed large.flow → (family expanded : Family) → IsDenotation small family → IsDenotation large expanded
    → (e : ℕ) → expanded e ≡ bag_of_origin small family (of_edge e)

-- A node of a kind that may not be split, an output among them, comes again as it is, and its edges carry the same.
abbrev pub NodesHearTheSame : Type 0
NodesHearTheSame = (small large : System) (of_node : ℕ → NodeOrigin) (of_edge : ℕ → EdgeOrigin) → IsExpansion small large of_node of_edge
    → IsWellFormed large.flow → (family expanded : Family) → IsDenotation small family → IsDenotation large expanded
    → (p : ℕ) → p < length small.flow.nodes → may_split (kind_of small.flow p) ≡ false
    → (q : ℕ) × (q < length large.flow.nodes) × (of_node q ≡ Same p) × (kind_of large.flow q ≡ kind_of small.flow p)
    × (map expanded (in_edges large.flow q) ≡ map family (in_edges small.flow p))

-- edge d comes again and carries this bag, or comes in parts that together do
abbrev pub IsCarriedAgain : Dataflow → (ℕ → EdgeOrigin) → Family → ℕ → List Timed → Type 0
IsCarriedAgain large of_edge expanded d bag =
    ((e : ℕ) × (e < length large.edges) × (of_edge e ≡ Whole d) × (expanded e ≡ bag))
    ⊎ ((last : ℕ) × (es : List ℕ) × AllByRecursion (λ e. e < length large.edges) es × (map of_edge es ≡ map (PartOf d) (parts_to last))
    × (in_order (flat_map expanded es) ≡ in_order bag))

-- What an edge carries without the word, it carries in the expansion, or its parts together do: an edge out of a split node too.
abbrev pub EdgesCarryTheSame : Type 0
EdgesCarryTheSame = (small large : System) (of_node : ℕ → NodeOrigin) (of_edge : ℕ → EdgeOrigin) → IsExpansion small large of_node of_edge
    → IsWellFormed large.flow → (family expanded : Family) → IsDenotation small family → IsDenotation large expanded
    → (d : ℕ) → d < length small.flow.edges → IsCarriedAgain large.flow of_edge expanded d (family d)

-- Where the dataflow of an exact expansion is well formed, that of the flow without the word is.
abbrev pub WithoutTheWordIsWellFormed : Type 0
WithoutTheWordIsWellFormed = (small large : System) (of_node : ℕ → NodeOrigin) (of_edge : ℕ → EdgeOrigin)
    → IsExactExpansion small large of_node of_edge → IsWellFormed large.flow → IsWellFormed small.flow

-- Declarations whose names are names, each new in its turn, and none of which is a replica, are as texts write them.
abbrev pub NewNamesAreWritten : Type 0
NewNamesAreWritten = (raw : List Declared) → AllByRecursion (λ d. has_names d.declaration ≡ true) raw
    → AllByRecursion (λ d. HasNoPart d.declaration) raw → AreNewInTurn raw → AreAsWritten raw

-- The dataflow of what declarations expand to is an exact expansion of their dataflow without the word, where the declarations are as
-- texts write them, their expansion is well formed, and nodes of the same name have the same batches.
abbrev pub DeclarationsExpand : Type 0
DeclarationsExpand = (raw : List Declared) (small large : System) → AreAsWritten raw → small.flow ≡ flow_of_declarations (unsplit raw)
    → IsChecked (expand raw) large.flow → HaveSameBatches small large
    → (of_node : ℕ → NodeOrigin) × (of_edge : ℕ → EdgeOrigin) × IsExactExpansion small large of_node of_edge
