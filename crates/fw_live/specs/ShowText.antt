-- What a session shows of where it stands.
use Rattle.std.specs.Prelude.{ℕ, Bool, true, false, List, [], ◌++◌, filter, length, slice_get, Option, Some, None, if◌then◌else◌, codes}
use Rattle.std.specs.Fmt.{decimal}
use Rattle.std.specs.List.{flat_map}
use Rattle.fw_time.specs.StampText.{stamp_text}
use Rattle.fw_frontier.specs.FrontText.{front_text}
use Rattle.fw_flow.specs.declared.event.Message.{Message}
use Rattle.fw_flow.specs.Dataflow.{Dataflow, kind_of, is_input_kind, is_output_kind, node_at, node_ids}
use Rattle.fw_flow.specs.DomainText.{name_of_edge}
use Rattle.fw_model.specs.Auto.{edge_ids}
use Rattle.fw_model.specs.History.{injected_count}
use Rattle.fw_model.specs.Machine.{events, front_of, is_failed, ack_count_of}
use Rattle.fw_model.specs.Steps.{is_in_flight}
use Rattle.fw_stands.specs.Parts.{queued}
use Rattle.fw_policy.specs.Entries.{uncollected}
use Rattle.fw_session.specs.Story.{Story, system_now}
use Rattle.fw_living.specs.Life.{came_in_story}

-- whether a source is open
abbrev pub open_word : Bool → List ℕ
open_word true = codes "open"
open_word false = codes "closed"

-- `source NAME came COUNT injected COUNT open`, or `closed`: how many batches came to an input, and how many it injected; none of another node
abbrev pub source_line : Dataflow → Story → ℕ → List ℕ
source_line flow story p =
    if is_input_kind (kind_of flow p)
    then codes "source " ++ ((node_at flow p).name ++ (codes " came " ++ (decimal (came_in_story flow story p) ++ (codes " injected "
    ++ (decimal (injected_count p (events story.now.state.history)) ++ (codes " " ++ (open_word (story.now.opened p) ++ codes "\n")))))))
    else []

-- `edge NAME waits from STAMP`, by the first of the messages that are pending; none where there is none
abbrev pub waits_line : List ℕ → Option Message → List ℕ
waits_line name None = []
waits_line name (Some message) = codes "edge " ++ (name ++ (codes " waits from " ++ (stamp_text message.at ++ codes "\n")))

-- that of an edge; what is pending for a node that is failed waits no more
abbrev pub edge_line : Dataflow → Story → ℕ → List ℕ
edge_line flow story e = waits_line (name_of_edge flow e) (slice_get (queued (system_now flow story) story.now.state e) 0)

-- `node NAME failed`; or up to where it is settled, `node NAME all` or `node NAME until STAMP ..`
abbrev pub settled_line : Dataflow → Story → ℕ → List ℕ
settled_line flow story p =
    codes "node " ++ ((node_at flow p).name ++ (if is_failed story.now.state p then codes " failed\n"
    else codes " " ++ (front_text (front_of story.now.state.settled p) ++ codes "\n")))

-- `output NAME next COUNT`: how many epochs or numbers an output acknowledged, so which is next; none of another node
abbrev pub output_line : Dataflow → Story → ℕ → List ℕ
output_line flow story p =
    if is_output_kind (kind_of flow p)
    then codes "output " ++ ((node_at flow p).name ++ (codes " next " ++ (decimal (ack_count_of story.now.state p) ++ codes "\n")))
    else []

-- `writes COUNT in flight COUNT`: how many writes were not collected, and how many of them are in flight
abbrev pub writes_line : Story → List ℕ
writes_line story = codes "writes " ++ (decimal (length (uncollected story.now.state)) ++ (codes " in flight "
    ++ (decimal (length (filter (λ write. is_in_flight write.stage) (uncollected story.now.state))) ++ codes "\n")))

-- the line of each source, of each edge on which messages wait, of each node and of each output, in the order of the flow; and of the writes
abbrev pub show_text : Dataflow → Story → List ℕ
show_text flow story = flat_map (source_line flow story) (node_ids flow) ++ (flat_map (edge_line flow story) (edge_ids flow)
    ++ (flat_map (settled_line flow story) (node_ids flow) ++ (flat_map (output_line flow story) (node_ids flow) ++ writes_line story)))
