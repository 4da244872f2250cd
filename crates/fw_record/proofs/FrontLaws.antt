-- The fronts of a checkpoint that has a spelling and is one of a node are canonical.
use Rattle.std.proofs.Common.{ℕ, List, [], ◌∷◌}
use Rattle.std.specs.List.{AllByRecursion}
use Rattle.fw_frontier.specs.Front.{Front}
use Rattle.fw_bytes.proofs.FrontLaws.{canonical_of_sound}
use Rattle.fw_flow.specs.declared.choice.OfEdge.{OfEdge}
use Rattle.fw_flow.specs.Dataflow.{Dataflow, in_edges, out_edges, receiver, bounds_of}
use Rattle.fw_record.specs.declared.record.Checkpoint.{Checkpoint}
use Rattle.fw_record.specs.OfNode.{IsOnOneOf, IsRecordedOf, IsCheckpointRecordOf, AreChangesOf, IsCanonicalOnEdge, HasCanonicalFronts}
use Rattle.fw_record.specs.Sound.{IsEdgeFront, IsCheckpoint}

on_edges : (flow : Dataflow) (edges : List ℕ) (es : List OfEdge) → AllByRecursion (IsOnOneOf flow edges) es → AllByRecursion IsEdgeFront es
    → AllByRecursion (IsCanonicalOnEdge flow) es
on_edges flow edges [] of_node sound = tt
on_edges flow edges (e ∷ es) of_node sound =
    (canonical_of_sound (bounds_of flow (receiver flow e.edge)) e.front of_node.0.stamps sound.0.front, on_edges flow edges es of_node.1 sound.1)

recorded_canonical : (flow : Dataflow) (p : ℕ) (f : Front) (c : Checkpoint) → IsCheckpoint c → IsRecordedOf flow p f c.recorded
    → HasCanonicalFronts flow p c.recorded
recorded_canonical flow p f c sound of_node = record {
  notified = canonical_of_sound (bounds_of flow p) c.recorded.notified of_node.notified sound.notified;
  delivered = on_edges flow (in_edges flow p) c.recorded.delivered of_node.delivered sound.delivered.parts;
  discarded = on_edges flow (out_edges flow p) c.recorded.discarded of_node.discarded sound.discarded.parts;
}

pub fronts_canonical : (flow : Dataflow) (p : ℕ) (f : Front) (c : Checkpoint) → IsCheckpoint c → IsCheckpointRecordOf flow p f c
    → HasCanonicalFronts flow p c.recorded
fronts_canonical flow p f c sound of_node = recorded_canonical flow p f c sound of_node.recorded

pub changes_canonical : (flow : Dataflow) (p : ℕ) (f : Front) (c : Checkpoint) → IsCheckpoint c → AreChangesOf flow p f c
    → HasCanonicalFronts flow p c.recorded
changes_canonical flow p f c sound of_node = recorded_canonical flow p f c sound of_node.recorded
