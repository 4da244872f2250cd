-- What a collection gives up, where it raises the low watermark to the fronts of a choice.
use Rattle.std.specs.Prelude.{◌≡◌, ℕ, if◌then◌else◌, List, [], ◌∷◌, map, filter}
use Rattle.std.specs.List.{flat_map}
use Rattle.fw_frontier.specs.Front.{Front}
use Rattle.fw_flow.specs.declared.choice.Choice.{Choice}
use Rattle.fw_flow.specs.declared.choice.OfEdge.{OfEdge}
use Rattle.fw_flow.specs.Dataflow.{Dataflow, System, kind_of, policy_of, sender, receiver, node_ids, is_input_kind}
use Rattle.fw_flow.specs.Restoring.{can_resend}
use Rattle.fw_model.specs.Auto.{edge_ids}
use Rattle.fw_model.specs.Machine.{front_of}
use Rattle.fw_model.specs.Steps.{front_of_cut, is_given_up}
use Rattle.fw_model.specs.Writes.{takes_checkpoints}
use Rattle.fw_keep.specs.declared.entry.Entry.{Entry}
use Rattle.fw_keep.specs.declared.entry.Written.{Written}
use Rattle.fw_keep.specs.declared.entry.Written.TheVariants as written
use Rattle.fw_record.specs.Event.{stamp_of_event}
use Rattle.fw_collect.specs.declared.drops.OfNode.{OfNode}
use Rattle.fw_collect.specs.declared.drops.AtNode.{AtNode}
use Rattle.fw_collect.specs.declared.drops.Drops.{Drops}

-- the low watermark of a choice: the front of each node's cut
abbrev pub watermark : Choice → List Front
watermark choice = map front_of_cut choice.cuts

-- the dataflow as a system: which batches there are plays no part in what is given up
abbrev pub without_batches : Dataflow → System
without_batches flow = record { flow = flow; batches = [] }

-- the node with its front
abbrev pub of_node : List Front → ℕ → OfNode
of_node low p = record { node = p; front = front_of low p }

-- each node that takes checkpoints, with its front: the checkpoints strictly within, on which none stands that stays, are given up
abbrev pub dropped_records : Dataflow → List Front → List OfNode
dropped_records flow low = map (of_node low) (filter (λ p. takes_checkpoints (policy_of flow p)) (node_ids flow))

-- the node and stamp of what is written, where it is an event that is given up
abbrev pub given_up_event : Dataflow → List Front → ℕ → Written → List AtNode
given_up_event flow low p (written.Checkpoint recorded stamps sent) = []
given_up_event flow low p (written.Event event) =
    if is_given_up (without_batches flow) low p (stamp_of_event event) then record { node = p; at = stamp_of_event event } ∷ [] else []

-- the node and stamp of each entry of an event that is given up
abbrev pub dropped_events : Dataflow → List Front → List Entry → List AtNode
dropped_events flow low entries = flat_map (λ e. given_up_event flow low e.node e.written) entries

-- each edge whose sender may send again, with the receiver's front: the messages inside are given up
abbrev pub dropped_messages : Dataflow → List Front → List OfEdge
dropped_messages flow low =
    map (λ e. record { edge = e; front = front_of low (receiver flow e) }) (filter (λ e. can_resend (policy_of flow (sender flow e))) (edge_ids flow))

-- each input with its front: the batches of the epochs inside are given up
abbrev pub dropped_batches : Dataflow → List Front → List OfNode
dropped_batches flow low = map (of_node low) (filter (λ p. is_input_kind (kind_of flow p)) (node_ids flow))

-- What is given up is what is not needed again where these entries are there and the low watermark rises to these fronts.
pub record IsPlanned (flow : Dataflow) (low : List Front) (entries : List Entry) (drops : Drops) : Type 0 where
  pub records : drops.records.items ≡ dropped_records flow low
  pub events : drops.events.items ≡ dropped_events flow low entries
  pub messages : drops.messages.items ≡ dropped_messages flow low
  pub batches : drops.batches.items ≡ dropped_batches flow low
