-- How many steps `auto` takes at most until it has nothing to do.
use Rattle.std.specs.Prelude.{ℕ, ◌+◌, ◌-◌, ◌*◌, max, List, [], ◌∷◌, length, map}
use Rattle.fw_bag.specs.declared.rec.Rec.{Rec}
use Rattle.fw_flow.specs.Counting.{how_many}
use Rattle.fw_flow.specs.Kind.{Kind}
use Rattle.fw_flow.specs.declared.kind.Kind.TheVariants.{OutputEpoch, OutputNumber}
use Rattle.fw_flow.specs.Dataflow.{System, kind_of, batches_of, in_edges, node_ids}
use Rattle.fw_flow.specs.Projection.{first_coordinate}
use Rattle.fw_flow.specs.WholeBags.{Timed, joint_bag}
use Rattle.fw_model.specs.Auto.{edge_ids}
use Rattle.fw_model.specs.Denotation.{Family}
use Rattle.fw_model.specs.Machine.{Machine, Write, ack_count_of}
use Rattle.fw_model.specs.Steps.{is_in_flight}

-- the sum of a number for each of these places
abbrev pub sum_over : (ℕ → ℕ) → List ℕ → ℕ
sum_over f [] = 0
sum_over f (p ∷ ps) = f p + sum_over f ps

-- how many batches the nodes have
abbrev pub batches_in_all : System → ℕ
batches_in_all sys = sum_over (λ p. length (batches_of sys p)) (node_ids sys.flow)

-- how many recs the family has on the edges
abbrev pub recs_in_all : System → Family → ℕ
recs_in_all sys family = sum_over (λ e. length (family e)) (edge_ids sys.flow)

-- more events than this never come: an injection of each batch, a delivery of each rec, and no more notifications than deliveries
abbrev pub most_events : System → Family → ℕ
most_events sys family = batches_in_all sys + 2 * recs_in_all sys family

-- the number after the greatest epoch or number of these recs
abbrev pub number_after : List Timed → ℕ
number_after [] = 0
number_after (r ∷ rs) = max (first_coordinate r.at + 1) (number_after rs)

-- how many epochs there are up to the last of which some node has a batch
abbrev pub epochs_of : List (List (List Rec)) → ℕ
epochs_of [] = 0
epochs_of (batches ∷ sources) = max (length batches) (epochs_of sources)

-- how many stamps an output of the kind acknowledges in all, by how many epochs there are and by the number after its last rec
abbrev pub stamps_of_kind : Kind → ℕ → ℕ → ℕ
stamps_of_kind OutputEpoch epochs last = max epochs last
stamps_of_kind OutputNumber epochs last = last
stamps_of_kind kind epochs last = 0

-- how many stamps node o acknowledges in all
abbrev pub stamps_due : System → Family → ℕ → ℕ
stamps_due sys family o =
    stamps_of_kind (kind_of sys.flow o) (epochs_of sys.batches) (number_after (joint_bag (map family (in_edges sys.flow o))))

-- how many stamps the outputs have still to acknowledge
abbrev pub stamps_left : System → Family → Machine → ℕ
stamps_left sys family state = sum_over (λ o. stamps_due sys family o - ack_count_of state o) (node_ids sys.flow)

-- how many writes are in flight
abbrev pub count_in_flight : List Write → ℕ
count_in_flight writes = how_many (λ (write : Write). is_in_flight write.stage) writes

-- How many steps `auto` takes at most from a state until it has nothing to do. Each event that may still come is one; it may be written,
-- and it lets settled grow, which may write a checkpoint of each node. Before the next event settled may grow once. And each write in
-- flight is acknowledged, and each stamp that is left.
unfoldable pub steps_to_rest : System → Family → Machine → ℕ
steps_to_rest sys family state =
    (most_events sys family - length state.history) * (length sys.flow.nodes + 3) + (length sys.flow.nodes + 1)
    + count_in_flight state.writes + stamps_left sys family state

-- how many it takes at most from any state, but for the writes that are in flight there
unfoldable pub steps_in_all : System → Family → ℕ
steps_in_all sys family =
    most_events sys family * (length sys.flow.nodes + 3) + (length sys.flow.nodes + 1) + sum_over (stamps_due sys family) (node_ids sys.flow)

-- how many steps of `auto` are enough behind so many steps, which leave at most one write of each node in flight each
unfoldable pub steps_enough : System → Family → ℕ → ℕ
steps_enough sys family before = steps_in_all sys family + before * length sys.flow.nodes
