-- How the items of a schedule are written.
use Rattle.std.specs.Prelude.{ℕ, List, [], ◌++◌, codes, Option, Some, None}
use Rattle.std.specs.Fmt.{decimal}
use Rattle.std.specs.List.{flat_map}
use Rattle.fw_time.specs.Stamp.{Stamp}
use Rattle.fw_time.specs.StampText.{stamp_text}
use Rattle.fw_flow.specs.declared.step.Step.{Step}
use Rattle.fw_flow.specs.declared.step.Step.TheVariants.{Inject, Deliver, Notify, Progress, Checkpoint, Persist, Fail, Recover, Collect, Ack}
use Rattle.fw_flow.specs.Dataflow.{Dataflow, node_at}
use Rattle.fw_flow.specs.DomainText.{name_of_edge}
use Rattle.fw_schedule.specs.declared.item.Item.{Item}
use Rattle.fw_schedule.specs.declared.item.Item.TheVariants.{One, Auto}

-- ` at STAMP`, where a stamp is told
abbrev pub told_text : Option Stamp → List ℕ
told_text None = []
told_text (Some t) = codes " at " ++ stamp_text t

-- the name of a node behind a space
abbrev pub spaced_name : Dataflow → ℕ → List ℕ
spaced_name flow node = codes " " ++ (node_at flow node).name

-- the names of nodes, each behind a space
abbrev pub names_text : Dataflow → List ℕ → List ℕ
names_text flow nodes = flat_map (spaced_name flow) nodes

-- the line of a step
abbrev pub step_text : Dataflow → Step → List ℕ
step_text flow (Inject source) = codes "inject " ++ (node_at flow source).name
step_text flow (Deliver edge at) = codes "deliver " ++ name_of_edge flow edge ++ told_text at
step_text flow (Notify node at) = codes "notify " ++ (node_at flow node).name ++ told_text at
step_text flow Progress = codes "progress"
step_text flow (Checkpoint node) = codes "checkpoint " ++ (node_at flow node).name
step_text flow Persist = codes "persist"
step_text flow (Fail nodes) = codes "fail" ++ names_text flow nodes
step_text flow Recover = codes "recover"
step_text flow Collect = codes "collect"
step_text flow (Ack output) = codes "ack " ++ (node_at flow output).name

-- the line of an item
abbrev pub item_text : Dataflow → Item → List ℕ
item_text flow (One step) = step_text flow step
item_text flow (Auto most) = codes "auto " ++ decimal most

-- the line of an item, with its LF
abbrev pub item_line : Dataflow → Item → List ℕ
item_line flow item = item_text flow item ++ codes "\n"

-- the text of a schedule
abbrev pub schedule_text : Dataflow → List Item → List ℕ
schedule_text flow items = flat_map (item_line flow) items
