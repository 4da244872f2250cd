-- The step that the words of a line spell, or the first rule that they break: S1 of form, S2 of names, S3 of stamps.
use Rattle.std.specs.Prelude.{ℕ, Bool, ◌&&◌, List, [], ◌∷◌, if◌then◌else◌, Option, Some, None, Result, Ok, Err, codes}
use Rattle.std.specs.Option.{option_map, option_map_or, ok_or}
use Rattle.std.specs.Str.{bytes_eq}
use Rattle.fw_time.specs.Stamp.{Stamp, in_domain}
use Rattle.fw_time.specs.declared.stamp.Bounds.{Bounds}
use Rattle.fw_lines.specs.declared.refusal.Code.{Code}
use Rattle.fw_lines.specs.declared.refusal.Code.TheVariants.{S1, S2, S3}
use Rattle.fw_flow.specs.FullNames.{is_full_name}
use Rattle.fw_flow.specs.declared.step.Step.{Step}
use Rattle.fw_flow.specs.declared.step.Step.TheVariants.{Inject, Deliver, Notify, Progress, Checkpoint, Persist, Fail, Recover, Collect, Ack}
use Rattle.fw_flow.specs.Dataflow.{Dataflow, receiver, bounds_of, is_input_kind, is_output_kind}
use Rattle.fw_schedule.specs.Names.{are_names, node_with_name, edge_named, node_of_kind, nodes_named}
use Rattle.fw_schedule.specs.Stamps.{is_stamp, stamp_spelled}

-- the stamp that a word spells, if it lies in the domain; where there is no word no stamp is told
abbrev pub told_stamp : Bounds → Option (List ℕ) → Option (Option Stamp)
told_stamp bounds None = Some None
told_stamp bounds (Some word) = if in_domain bounds (stamp_spelled word) then Some (Some (stamp_spelled word)) else None

-- the delivery on an edge; S3, unless the stamp lies in the receiver's domain
abbrev pub delivery_on : Dataflow → Option (List ℕ) → ℕ → Result Step Code
delivery_on flow stamp edge = ok_or (option_map (Deliver edge) (told_stamp (bounds_of flow (receiver flow edge)) stamp)) S3

-- the notification of a node; S3, unless the stamp lies in its domain
abbrev pub notification_of : Dataflow → Option (List ℕ) → ℕ → Result Step Code
notification_of flow stamp node = ok_or (option_map (Notify node) (told_stamp (bounds_of flow node) stamp)) S3

-- the step of a line of one word
abbrev pub lone_step : List ℕ → Result Step Code
lone_step verb =
    if bytes_eq verb (codes "progress") then Ok Progress
    else (if bytes_eq verb (codes "persist") then Ok Persist
    else (if bytes_eq verb (codes "recover") then Ok Recover
    else (if bytes_eq verb (codes "collect") then Ok Collect else Err S1)))

-- the step of a line of a verb and a name, and perhaps a stamp
abbrev pub stamped_step : Dataflow → List ℕ → List ℕ → Option (List ℕ) → Result Step Code
stamped_step flow verb name stamp =
    if bytes_eq verb (codes "deliver") then option_map_or (delivery_on flow stamp) (edge_named flow name) (Err S2)
    else (if bytes_eq verb (codes "notify") then option_map_or (notification_of flow stamp) (node_with_name flow name) (Err S2)
    else Err S1)

-- the step of a line of a verb and a name
abbrev pub named_step : Dataflow → List ℕ → List ℕ → Result Step Code
named_step flow verb name =
    if bytes_eq verb (codes "inject") then ok_or (option_map Inject (node_of_kind flow is_input_kind name)) S2
    else (if bytes_eq verb (codes "checkpoint") then ok_or (option_map Checkpoint (node_with_name flow name)) S2
    else (if bytes_eq verb (codes "ack") then ok_or (option_map Ack (node_of_kind flow is_output_kind name)) S2
    else stamped_step flow verb name None))

-- whether three words are a name, `at` and a stamp
abbrev pub is_name_at_stamp : List ℕ → List ℕ → List ℕ → Bool
is_name_at_stamp name at stamp = is_full_name name && (bytes_eq at (codes "at") && is_stamp stamp)

-- the step of a line of a verb and at most a name and a stamp
abbrev pub short_step : Dataflow → List ℕ → List (List ℕ) → Result Step Code
short_step flow verb [] = lone_step verb
short_step flow verb (name ∷ []) = if is_full_name name then named_step flow verb name else Err S1
short_step flow verb (name ∷ at ∷ []) = Err S1
short_step flow verb (name ∷ at ∷ stamp ∷ []) = if is_name_at_stamp name at stamp then stamped_step flow verb name (Some stamp) else Err S1
short_step flow verb (name ∷ at ∷ stamp ∷ word ∷ words) = Err S1

-- the failure of the nodes that words name
abbrev pub failure_of : Dataflow → List (List ℕ) → Result Step Code
failure_of flow words = if are_names words then ok_or (option_map Fail (nodes_named flow words)) S2 else Err S1

-- the step that a verb and the words behind it spell
abbrev pub step_of : Dataflow → List ℕ → List (List ℕ) → Result Step Code
step_of flow verb words = if bytes_eq verb (codes "fail") then failure_of flow words else short_step flow verb words
