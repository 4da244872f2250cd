-- What a check of a flow prints.
use Rattle.std.specs.Prelude.{ℕ, List, ◌++◌, ◌||◌, if◌then◌else◌, length, codes}
use Rattle.std.specs.Fmt.{decimal}
use Rattle.std.specs.List.{flat_map}
use Rattle.fw_flow.specs.Kind.{Kind}
use Rattle.fw_flow.specs.declared.kind.Policy.{Policy}
use Rattle.fw_flow.specs.Dataflow.{Dataflow, node_at, kind_of, policy_of, domain_of, node_ids, is_input_kind, is_output_kind}
use Rattle.fw_flow.specs.DomainText.{domain_text}
use Rattle.fw_flow.specs.KindText.{kind_text, policy_text}

-- the word of the kind; that of an output's domain has a place of its own
abbrev pub kind_word : Kind → List ℕ
kind_word kind = if is_output_kind kind then codes "output" else kind_text kind

-- the word of the policy; `-` for inputs and outputs, which have none
abbrev pub policy_word : Kind → Policy → List ℕ
policy_word kind policy = if is_input_kind kind || is_output_kind kind then codes "-" else policy_text policy

-- `node NAME KIND DOMAIN POLICY`
abbrev pub node_line : Dataflow → ℕ → List ℕ
node_line flow p =
    codes "node " ++ (node_at flow p).name ++ codes " " ++ kind_word (kind_of flow p) ++ codes " " ++ domain_text flow (domain_of flow p)
    ++ codes " " ++ policy_word (kind_of flow p) (policy_of flow p) ++ codes "\n"

-- `flow nodes NODES edges EDGES loops LOOPS`
abbrev pub flow_line : Dataflow → List ℕ
flow_line flow =
    codes "flow nodes " ++ decimal (length flow.nodes) ++ codes " edges " ++ decimal (length flow.edges) ++ codes " loops " ++ decimal (length flow.loops)
    ++ codes "\n"

-- the line of each node, in order, and that of the flow
abbrev pub check_text : Dataflow → List ℕ
check_text flow = flat_map (node_line flow) (node_ids flow) ++ flow_line flow
