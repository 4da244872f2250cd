-- What has to hold at a choice, in the order in which a descent tests it, whatever counts of the nodes' events.
use Rattle.std.specs.Prelude.{ℕ, zero, suc, ◌<◌, List, [], ◌∷◌, ◌++◌, length, map}
use Rattle.fw_time.specs.declared.stamp.Bounds.{Bounds}
use Rattle.fw_frontier.specs.Frontier.{Frontier, Within}
use Rattle.fw_flow.specs.declared.choice.Choice.{Choice}
use Rattle.fw_flow.specs.declared.choice.Cut.{Cut}
use Rattle.fw_flow.specs.declared.side.Side.{Side}
use Rattle.fw_flow.specs.declared.side.Side.TheVariants.{Delivered, Discarded, Notified}
use Rattle.fw_flow.specs.declared.side.Limit.{Limit}
use Rattle.fw_flow.specs.declared.side.Limit.TheVariants.{Own, Note}
use Rattle.fw_flow.specs.declared.side.Inclusion.{Inclusion}
use Rattle.fw_flow.specs.declared.side.Inclusion.TheVariants.{OfCut, OfNote}
use Rattle.fw_flow.specs.Dataflow.{Dataflow, sender, receiver, bounds_of, in_edges, out_edges}
use Rattle.fw_model.specs.Covers.{Covers}
use Rattle.fw_model.specs.Choice.{cut_of, notice_of, kept_of}

-- the node whose cut a side is of
abbrev pub owner : Dataflow → Side → ℕ
owner flow (Delivered d) = receiver flow d
owner flow (Discarded e) = sender flow e
owner flow (Notified p) = p

-- the domain in which a side is
abbrev pub side_bounds : Dataflow → Side → Bounds
side_bounds flow (Delivered d) = bounds_of flow (receiver flow d)
side_bounds flow (Discarded e) = bounds_of flow (receiver flow e)
side_bounds flow (Notified p) = bounds_of flow p

-- what a side is in a cut
abbrev pub left_of : Covers → Side → Cut → Frontier
left_of covers (Delivered d) cut = covers.delivered d cut
left_of covers (Discarded e) cut = covers.discarded e cut
left_of covers (Notified p) cut = covers.notified p cut

-- in what it has to lie
abbrev pub right_of : Dataflow → Covers → Side → Choice → Frontier
right_of flow covers (Delivered d) choice = covers.arrived d (kept_of flow choice (sender flow d))
right_of flow covers (Discarded e) choice = kept_of flow choice (receiver flow e)
right_of flow covers (Notified p) choice = notice_of flow choice p

-- the edge or the node of a side is one of the dataflow
abbrev pub IsSideOfFlow : Dataflow → Side → Type 0
IsSideOfFlow flow (Delivered d) = d < length flow.edges
IsSideOfFlow flow (Discarded e) = e < length flow.edges
IsSideOfFlow flow (Notified p) = p < length flow.nodes

-- the node whose notification frontier a limit is of
abbrev pub note_node : Dataflow → Limit → ℕ
note_node flow (Own p) = p
note_node flow (Note d) = receiver flow d

-- in what it has to lie
abbrev pub limit_of : Dataflow → Covers → Limit → Choice → Frontier
limit_of flow covers (Own p) choice = kept_of flow choice p
limit_of flow covers (Note d) choice = covers.arrived d (notice_of flow choice (sender flow d))

-- its edge or its node is one of the dataflow
abbrev pub IsLimitIn : Dataflow → Limit → Type 0
IsLimitIn flow (Own p) = p < length flow.nodes
IsLimitIn flow (Note d) = d < length flow.edges

-- the same of an inclusion
abbrev pub IsInclusionOf : Dataflow → Inclusion → Type 0
IsInclusionOf flow (OfCut side) = IsSideOfFlow flow side
IsInclusionOf flow (OfNote limit) = IsLimitIn flow limit

-- the node one of whose values stands on the left of an inclusion
abbrev pub node_of : Dataflow → Inclusion → ℕ
node_of flow (OfCut side) = owner flow side
node_of flow (OfNote limit) = note_node flow limit

-- what stands on the right of it
abbrev pub right_side : Dataflow → Covers → Inclusion → Choice → Frontier
right_side flow covers (OfCut side) choice = right_of flow covers side choice
right_side flow covers (OfNote limit) choice = limit_of flow covers limit choice

-- the inclusion holds at a choice
abbrev pub Holds : Dataflow → Covers → Choice → Inclusion → Type 0
Holds flow covers choice (OfCut side) = Within (left_of covers side (cut_of choice (owner flow side))) (right_of flow covers side choice)
Holds flow covers choice (OfNote limit) = Within (notice_of flow choice (note_node flow limit)) (limit_of flow covers limit choice)

-- The inclusions of a node, in order: what was delivered on each in-edge; what it cannot send again on each out-edge; its
-- notices; its notification frontier in what it keeps; and in what comes on each in-edge.
abbrev pub inclusions_at : Dataflow → ℕ → List Inclusion
inclusions_at flow p =
    map (λ d. OfCut (Delivered d)) (in_edges flow p) ++ map (λ e. OfCut (Discarded e)) (out_edges flow p)
    ++ OfCut (Notified p) ∷ OfNote (Own p) ∷ map (λ d. OfNote (Note d)) (in_edges flow p)

-- those of the first n nodes
unfoldable pub inclusions_to : Dataflow → ℕ → List Inclusion
inclusions_to flow zero = []
inclusions_to flow (suc n) = inclusions_to flow n ++ inclusions_at flow n

-- those of a dataflow, by node
abbrev pub inclusions : Dataflow → List Inclusion
inclusions flow = inclusions_to flow (length flow.nodes)
