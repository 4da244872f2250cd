-- Which node stands for a chain of states: the first is a whole one, and each later one tells what changed up to its front since the one
-- before it.
use Rattle.std.specs.Prelude.{◌≡◌, ℕ, true, List, [], ◌∷◌}
use Rattle.fw_frontier.specs.Frontier.{Within}
use Rattle.fw_frontier.specs.Front.{Front}
use Rattle.fw_frontier.specs.declared.state.State.{State}
use Rattle.fw_flow.specs.declared.event.Event.{Event}
use Rattle.fw_flow.specs.Dataflow.{Dataflow, kind_of, in_edges, node_frontier}
use Rattle.fw_model.specs.Filtering.{events_inside}
use Rattle.fw_model.specs.Told.{EachDelivery}
use Rattle.fw_node.specs.declared.node.Node.{Node}
use Rattle.fw_node.specs.Arrived.{AreOnEdges}
use Rattle.fw_node.specs.StateOf.{IsStateOf, IsStateSince}
use Rattle.fw_node.specs.TableOf.{IsTableOf}

-- the front of the last of these, or an earlier one where there is none
abbrev pub last_front : Front → List (Front × State) → Front
last_front f [] = f
last_front f (c ∷ cs) = last_front c.0 cs

-- each of the fronts holds the one before it, and what changed of these events since then has the state beside it; the first of them since g
abbrev pub HaveChanges : Dataflow → ℕ → List Event → Front → List (Front × State) → Type 0
HaveChanges flow p before g [] = Unit {0}
HaveChanges flow p before g (c ∷ cs) =
    Within (node_frontier flow p g) (node_frontier flow p c.0)
    × IsStateSince (kind_of flow p) (node_frontier flow p g) (events_inside (node_frontier flow p c.0) before) c.1
    × HaveChanges flow p before c.0 cs

-- the node stands for all events whose deliveries lie inside the last front, where those inside f have the first state, and what changed
-- since has the others
abbrev pub IsOfChain : Dataflow → ℕ → Front → State → List (Front × State) → Node → Type 0
IsOfChain flow p f state later node =
    (before : List Event) → EachDelivery (λ s. node_frontier flow p (last_front f later) s ≡ true) before → AreOnEdges (in_edges flow p) before
    → IsStateOf (kind_of flow p) (events_inside (node_frontier flow p f) before) state → HaveChanges flow p before f later
    → IsTableOf flow p (node_frontier flow p (last_front f later)) node before

-- the node stands for all events that have this state and whose deliveries lie inside f
abbrev pub IsOfState : Dataflow → ℕ → Front → State → Node → Type 0
IsOfState flow p f state node =
    (before : List Event) → EachDelivery (λ s. node_frontier flow p f s ≡ true) before → AreOnEdges (in_edges flow p) before
    → IsStateOf (kind_of flow p) before state → IsTableOf flow p (node_frontier flow p f) node before

-- where a node stands for a chain of one state alone, it stands for this state
abbrev pub ChainOfOneIsAState : Type 0
ChainOfOneIsAState = (flow : Dataflow) (p : ℕ) (f : Front) (state : State) (node : Node) → IsOfChain flow p f state [] node
    → IsOfState flow p f state node
