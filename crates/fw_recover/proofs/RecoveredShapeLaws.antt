-- What an engine keeps fits the flow after a recovery, whatever the engine stands for.
use Rattle.std.proofs.Common.{◌≡◌, ℕ, zero, suc, ◌<◌, ◌≤◌, true, false, not, List, length, replicate, Option, refl, sym, ap, subst, ◌∙◌, inl, inr, arith}
use Rattle.std.specs.Prelude.{IfSome}
use Rattle.std.specs.List.{AllByRecursion}
use Rattle.std.proofs.lemmas.Bool.{cases_lt}
use Rattle.std.proofs.lemmas.List.{get_or_past}
use Rattle.fw_lemmas.proofs.Each.{each-weaker, each-kept}
use Rattle.fw_time.specs.Stamp.{in_domain}
use Rattle.fw_frontier.specs.Front.{inside}
use Rattle.fw_flow.specs.declared.choice.Choice.{Choice}
use Rattle.fw_flow.specs.declared.choice.Cut.{Cut}
use Rattle.fw_flow.specs.declared.choice.Cut.TheVariants.{Present, At}
use Rattle.fw_flow.specs.declared.event.Message.{Message}
use Rattle.fw_flow.specs.Dataflow.{Dataflow, bounds_of, sender, receiver}
use Rattle.fw_flow.specs.Projection.{all_inside}
use Rattle.fw_flow.specs.WellFormed.{IsWellFormed}
use Rattle.fw_model.specs.Choice.{cut_of}
use Rattle.fw_model.specs.Machine.{AreCanonical}
use Rattle.fw_model.specs.Steps.{front_of_cut}
use Rattle.fw_model.specs.Filtering.{messages_outside}
use Rattle.fw_model.proofs.SortedLaws.{each-sorted_messages}
use Rattle.fw_edge.specs.Messages.{MessagesState}
use Rattle.fw_keep.specs.declared.entry.Entry.{Entry}
use Rattle.fw_keep.specs.Catalogue.{KeepState}
use Rattle.fw_keep.specs.Stored.{Records}
use Rattle.fw_node.specs.NodeOf.{IsNodeOf}
use Rattle.fw_rollback.specs.declared.parts.Parts.{Parts}
use Rattle.fw_rollback.specs.Edges.{nothing_there, on_edge}
use Rattle.fw_rollback.specs.Restored.{AreOfFlow, Restores, is_undone, queue_after}
use Rattle.fw_rollback.specs.Tables.{table_at}
use Rattle.fw_rollback.proofs.OfNodeLaws.{of_nodes-restored}
use Rattle.fw_running.specs.declared.running.Running.{Running}
use Rattle.fw_recover.specs.CutProgress.{AreAtReceivers}
use Rattle.fw_running.specs.Places.{HasAllPlaces}
use Rattle.fw_recover.specs.Recovered.{KeepsFit}
use Rattle.fw_running.specs.Shaped.{IsOnEdge, IsShaped, IsWrittenOf}
use Rattle.fw_recover.proofs.LogsFitLaws.{AreOnEdges, logs-fit}
use Rattle.fw_recover.proofs.RecoverLaws.{IsRecovered}

-- The parts fit a flow: there is one of each for each node and edge, the low watermarks are of their domains, the tables of their
-- nodes, the messages of their edges, and what is written of its node.
pub record DoPartsFit (flow : Dataflow) (parts : Parts) : Type 0 where
  pub each : AreOfFlow flow parts
  pub sources : length parts.sources ≡ length flow.nodes
  pub outputs : length parts.outputs.outputs ≡ length flow.nodes
  pub low_each : length parts.low ≡ length flow.nodes
  pub low : AreCanonical flow parts.low
  pub tables : (p : ℕ) → p < length flow.nodes → IfSome (table_at parts.tables p) (IsNodeOf flow p)
  pub queues : AreOnEdges flow parts.queues
  pub logs : AreOnEdges flow parts.logs
  pub entries : AllByRecursion (λ (entry : Entry). IsWrittenOf flow entry.node entry.written) parts.keep.entries

queue-fits : (flow : Dataflow) (choice : Choice) (e : ℕ) (queue log : MessagesState) (cut : Cut) → AllByRecursion (IsOnEdge flow e) queue.messages
    → AllByRecursion (IsOnEdge flow e) log.messages → AllByRecursion (IsOnEdge flow e) (queue_after flow choice e queue log cut).messages
queue-fits flow choice e queue log Present q g =
    each-kept (IsOnEdge flow e) (λ (m : Message). all_inside (inside (front_of_cut (cut_of choice (sender flow e)))) m.causes) queue.messages q
queue-fits flow choice e queue log (At f) q g =
    each-sorted_messages (IsOnEdge flow e) (messages_outside (inside f) log.messages)
    (each-kept (IsOnEdge flow e) (λ (m : Message). not (inside f m.at)) log.messages g)

-- parts that fit the flow fit it after they are restored
pub restored-fit : (flow : Dataflow) (choice : Choice) (records : Option Records) (old new : Parts) → IsWellFormed flow → Restores flow choice records old new
    → AreOfFlow flow new → DoPartsFit flow old → DoPartsFit flow new
restored-fit flow choice records old new w r each s =
    let logs = logs-fit flow choice records old new w r each s.logs in
    record {
      each = each;
      sources = r.restored.inputs_each ∙ s.sources;
      outputs = r.restored.outputs_each ∙ s.outputs;
      low_each = ap length r.restored.low ∙ s.low_each;
      low = subst (AreCanonical flow) (sym r.restored.low) s.low;
      tables = of_nodes-restored flow choice old new r.given r.restored s.tables;
      queues = λ e. elim (cases_lt e (length flow.edges)) [
        | inl l ↦
            subst (λ (queue : MessagesState). AllByRecursion (IsOnEdge flow e) queue.messages) (sym (r.restored.queues e l))
            (queue-fits flow choice e (on_edge old.queues e) (on_edge new.logs e) (cut_of choice (receiver flow e)) (s.queues e) (logs e))
        | inr past ↦
            subst (λ (queue : MessagesState). AllByRecursion (IsOnEdge flow e) queue.messages)
            (sym (get_or_past new.queues e nothing_there (subst (λ n. n ≤ e) (sym each.queues) past))) tt
      ];
      logs = logs;
      entries = subst (AllByRecursion (λ (entry : Entry). IsWrittenOf flow entry.node entry.written))
          (sym (ap (λ (keep : KeepState). keep.entries) r.restored.entries))
          (each-kept (λ (entry : Entry). IsWrittenOf flow entry.node entry.written) (λ e. not (is_undone choice e)) old.keep.entries s.entries);
    }

pub parts-fit : (running : Running) → IsShaped running → DoPartsFit running.flow running.parts
parts-fit running s = record {
  each = s.one_each.parts;
  sources = s.one_each.sources;
  outputs = s.one_each.outputs;
  low_each = s.one_each.low;
  low = s.low;
  tables = s.tables;
  queues = s.queues;
  logs = s.logs;
  entries = s.entries;
}

-- each message of queues that fit is at a stamp of its receiver's domain
pub at-receivers : (flow : Dataflow) (queues : List MessagesState) → AreOnEdges flow queues → AreAtReceivers flow queues
at-receivers flow queues on e =
    each-weaker (IsOnEdge flow e) (λ (m : Message). in_domain (bounds_of flow (receiver flow e)) m.at ≡ true) (on_edge queues e).messages (λ m a. a.at) (on e)

length-replicate : {X : Type 0} (n : ℕ) (x : X) → length (replicate n x) ≡ n
length-replicate zero x = refl
length-replicate (suc n) x = let rest = length-replicate n x in omega arith

-- what is kept has its shape after a recovery
pub recovered-shaped : (choice : Choice) (records : Option Records) (old new : Running) → IsShaped old → IsRecovered choice records old new
    → DoPartsFit new.flow new.parts → length new.lost.items ≡ length new.flow.nodes → HasAllPlaces new.flow new.ready → KeepsFit new → IsShaped new
recovered-shaped choice records old new s made fit lost all places = record {
  well_formed = subst IsWellFormed (sym made.flow) s.well_formed;
  one_each = record {
    parts = fit.each;
    sources = fit.sources;
    outputs = fit.outputs;
    low = fit.low_each;
    failed = ap length made.failed ∙ length-replicate (length old.flow.nodes) false ∙ ap (λ (flow : Dataflow). length flow.nodes) (sym made.flow);
    lost = lost;
  };
  progress = places.progress;
  traces = places.traces;
  low = fit.low;
  tables = fit.tables;
  queues = fit.queues;
  logs = fit.logs;
  entries = fit.entries;
  live = places.live;
  traced = places.traced;
  ready = record {
    edges = λ e c. all.edges e c.there;
    owing = λ p c. all.owing p c.there;
    growing = λ p c. all.growing p c.there;
    outputs = λ o c. all.outputs o c.there;
    inputs = λ i c. all.inputs i c.there;
  };
}
