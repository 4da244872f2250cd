-- What each item of a schedule has, and how many steps they are.
use Rattle.std.specs.Prelude.{◌≡◌, ℕ, ◌+◌, ◌-◌, ◌^◌, ◌<◌, ◌≤◌, Bool, true, List, [], ◌∷◌, length, Option, IfSome}
use Rattle.std.specs.List.{AllByRecursion}
use Rattle.fw_time.specs.Stamp.{Stamp, in_domain}
use Rattle.fw_time.specs.declared.stamp.Bounds.{Bounds}
use Rattle.fw_flow.specs.Kind.{Kind}
use Rattle.fw_flow.specs.declared.step.Step.{Step}
use Rattle.fw_flow.specs.declared.step.Step.TheVariants.{Inject, Deliver, Notify, Progress, Checkpoint, Persist, Fail, Recover, Collect, Ack}
use Rattle.fw_flow.specs.Dataflow.{Dataflow, kind_of, receiver, bounds_of, is_input_kind, is_output_kind}
use Rattle.fw_schedule.specs.declared.item.Item.{Item}
use Rattle.fw_schedule.specs.declared.item.Item.TheVariants.{One, Auto}

-- the stamp, where one is told, lies in the domain
abbrev pub IsTimeIn : Bounds → Option Stamp → Type 0
IsTimeIn bounds at = IfSome at (λ s. in_domain bounds s ≡ true)

-- a node of the flow stands at the place, and it is of such a kind
abbrev pub IsNodeOfKind : Dataflow → (Kind → Bool) → ℕ → Type 0
IsNodeOfKind flow is_such node = (node < length flow.nodes) × (is_such (kind_of flow node) ≡ true)

-- the step's source, edge, node or output is one of the flow's, its stamp lies in the domain, and some node fails
abbrev pub IsStepOf : Dataflow → Step → Type 0
IsStepOf flow (Inject source) = IsNodeOfKind flow is_input_kind source
IsStepOf flow (Deliver edge at) = (edge < length flow.edges) × IsTimeIn (bounds_of flow (receiver flow edge)) at
IsStepOf flow (Notify node at) = (node < length flow.nodes) × IsTimeIn (bounds_of flow node) at
IsStepOf flow Progress = Unit {0}
IsStepOf flow (Checkpoint node) = node < length flow.nodes
IsStepOf flow Persist = Unit {0}
IsStepOf flow (Fail nodes) = (0 < length nodes) × AllByRecursion (λ node. node < length flow.nodes) nodes
IsStepOf flow Recover = Unit {0}
IsStepOf flow Collect = Unit {0}
IsStepOf flow (Ack output) = IsNodeOfKind flow is_output_kind output

-- the most steps that a schedule may ask for
abbrev pub step_limit : ℕ
step_limit = 2 ^ 32 - 1

-- the item is a step of the flow, or at most so many steps as a schedule may ask for
abbrev pub IsItemOf : Dataflow → Item → Type 0
IsItemOf flow (One step) = IsStepOf flow step
IsItemOf flow (Auto most) = most ≤ step_limit

-- how many steps an item asks for at most
abbrev pub steps_in : Item → ℕ
steps_in (One step) = 1
steps_in (Auto most) = most

-- how many steps items ask for at most
abbrev pub step_count : List Item → ℕ
step_count [] = 0
step_count (item ∷ items) = steps_in item + step_count items
