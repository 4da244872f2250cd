-- Why a schedule of a dataflow takes no item.
use Rattle.std.specs.Prelude.{◌≡◌, ℕ, nat_le, List, [], ◌∷◌, length, if◌then◌else◌, Option, Some, None, Result, Ok, Err}
use Rattle.std.specs.Option.{option_or}
use Rattle.fw_time.specs.Stamp.{Stamp, in_domain}
use Rattle.fw_time.specs.declared.stamp.Bounds.{Bounds}
use Rattle.fw_flow.specs.declared.step.Step.{Step}
use Rattle.fw_flow.specs.declared.step.Step.TheVariants.{Inject, Deliver, Notify, Progress, Checkpoint, Persist, Fail, Recover, Collect, Ack}
use Rattle.fw_flow.specs.Dataflow.{Dataflow, kind_of, receiver, bounds_of, is_input_kind, is_output_kind}
use Rattle.fw_schedule.specs.declared.item.Item.{Item}
use Rattle.fw_schedule.specs.declared.item.Item.TheVariants.{One, Auto}
use Rattle.fw_schedule.specs.declared.making.ItemFault.{ItemFault}
use Rattle.fw_schedule.specs.declared.making.ItemFault.TheVariants.{NoNode, NoEdge, NoInput, NoOutput, OutsideDomain, NoneFails, TooManySteps, NoMemory}
use Rattle.fw_schedule.specs.Schedule.{step_limit}

-- NoNode, unless the dataflow has the node
abbrev pub node_fault : Dataflow → ℕ → Option ItemFault
node_fault flow node = if nat_le (length flow.nodes) node then Some (NoNode node) else None

-- NoNode or NoInput, unless it has the node, an input
abbrev pub input_fault : Dataflow → ℕ → Option ItemFault
input_fault flow source = option_or (node_fault flow source) (if is_input_kind (kind_of flow source) then None else Some (NoInput source))

-- NoNode or NoOutput, unless it has the node, an output
abbrev pub output_fault : Dataflow → ℕ → Option ItemFault
output_fault flow output = option_or (node_fault flow output) (if is_output_kind (kind_of flow output) then None else Some (NoOutput output))

-- OutsideDomain, where a stamp is told that lies outside the domain
abbrev pub time_fault : Bounds → Option Stamp → Option ItemFault
time_fault bounds None = None
time_fault bounds (Some t) = if in_domain bounds t then None else Some OutsideDomain

-- of a delivery: by the edge, then by the stamp in its receiver's domain
abbrev pub delivery_fault : Dataflow → ℕ → Option Stamp → Option ItemFault
delivery_fault flow edge at = if nat_le (length flow.edges) edge then Some (NoEdge edge) else time_fault (bounds_of flow (receiver flow edge)) at

-- of a notification: by the node, then by the stamp in its domain
abbrev pub notification_fault : Dataflow → ℕ → Option Stamp → Option ItemFault
notification_fault flow node at = option_or (node_fault flow node) (time_fault (bounds_of flow node) at)

-- of the first of these nodes that the dataflow lacks
abbrev pub nodes_fault : Dataflow → List ℕ → Option ItemFault
nodes_fault flow [] = None
nodes_fault flow (node ∷ nodes) = option_or (node_fault flow node) (nodes_fault flow nodes)

-- of a failure: some node fails, and the dataflow has each
abbrev pub failure_fault : Dataflow → List ℕ → Option ItemFault
failure_fault flow [] = Some NoneFails
failure_fault flow (node ∷ nodes) = nodes_fault flow (node ∷ nodes)

-- why the step is none of the dataflow's, if it is none
abbrev pub step_fault : Dataflow → Step → Option ItemFault
step_fault flow (Inject source) = input_fault flow source
step_fault flow (Deliver edge at) = delivery_fault flow edge at
step_fault flow (Notify node at) = notification_fault flow node at
step_fault flow Progress = None
step_fault flow (Checkpoint node) = node_fault flow node
step_fault flow Persist = None
step_fault flow (Fail nodes) = failure_fault flow nodes
step_fault flow Recover = None
step_fault flow Collect = None
step_fault flow (Ack output) = output_fault flow output

-- why the item is none of the dataflow's, if it is none
abbrev pub item_fault : Dataflow → Item → Option ItemFault
item_fault flow (One step) = step_fault flow step
item_fault flow (Auto most) = if nat_le most step_limit then None else Some TooManySteps

-- The item is added exactly where it is one of the dataflow's, and else the fault says why it is none. Memory may be refused at any time.
abbrev pub IsAddedOrFault : {A : Type 0} → Option ItemFault → Result A ItemFault → Type 0
IsAddedOrFault wrong (Ok a) = wrong ≡ None
IsAddedOrFault wrong (Err NoMemory) = Unit {0}
IsAddedOrFault wrong (Err fault) = wrong ≡ Some fault
