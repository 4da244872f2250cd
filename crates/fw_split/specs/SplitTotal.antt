-- The smallest split: a total in two, between an input and an output.
use Rattle.std.specs.Prelude.{◌≡◌, ℕ, List, [], ◌∷◌, codes, map, Some, None}
use Rattle.fw_bag.specs.declared.rec.Rec.{Rec}
use Rattle.fw_flow.specs.declared.kind.Kind.TheVariants.{Input, OutputEpoch, Total}
use Rattle.fw_flow.specs.declared.kind.Policy.TheVariants as policy
use Rattle.fw_flow.specs.declared.raw.Declaration.TheVariants.{Node, Edge}
use Rattle.fw_flow.specs.Check.{IsChecked}
use Rattle.fw_flow.specs.Dataflow.{Dataflow, System}
use Rattle.fw_flow.specs.Declaring.{Declared}
use Rattle.fw_flow.specs.Expand.{expand}
use Rattle.fw_flow.specs.Raw.{flow_of_declarations}
use Rattle.fw_split.specs.Exact.{IsExactExpansion}
use Rattle.fw_split.specs.Expansion.{EdgeOrigin, NodeOrigin}
use Rattle.fw_split.specs.Unsplit.{AreAsWritten, HaveSameBatches, unsplit}

-- its declarations
abbrev pub split_total : List Declared
split_total =
    record { line = 1; declaration = Node (codes "in") Input policy.None None None }
    ∷ record { line = 2; declaration = Node (codes "sums") Total policy.Lazy (Some 2) None }
    ∷ record { line = 3; declaration = Node (codes "out") OutputEpoch policy.None None None }
    ∷ record { line = 4; declaration = Edge (codes "a") (codes "in") (codes "sums") }
    ∷ record { line = 5; declaration = Edge (codes "b") (codes "sums") (codes "out") }
    ∷ []

-- a dataflow with the batches that are given by names
abbrev pub given_by_name : (List ℕ → List (List Rec)) → Dataflow → System
given_by_name given flow = record { flow = flow; batches = map (λ n. given n.name) flow.nodes }

-- it as one node, and as its replicas, with these batches
abbrev pub total_as_one : (List ℕ → List (List Rec)) → System
total_as_one given = given_by_name given (flow_of_declarations (unsplit split_total))

abbrev pub total_in_two : (List ℕ → List (List Rec)) → System
total_in_two given = given_by_name given (flow_of_declarations (expand split_total))

-- It meets what `DeclarationsExpand` asks for, with whatever batches: so the second is an exact expansion of the first.
abbrev pub SplitTotalExpands : Type 0
SplitTotalExpands = AreAsWritten split_total × IsChecked (expand split_total) (flow_of_declarations (expand split_total))
    × ((given : List ℕ → List (List Rec)) → given [] ≡ [] → HaveSameBatches (total_as_one given) (total_in_two given)
    × ((of_node : ℕ → NodeOrigin) × (of_edge : ℕ → EdgeOrigin) × IsExactExpansion (total_as_one given) (total_in_two given) of_node of_edge))
