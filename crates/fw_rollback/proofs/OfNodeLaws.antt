-- Tables that are of their nodes.
use Rattle.std.proofs.Common.{◌≡◌, ℕ, false, List, [], length, Option, Some, None, sym, subst}
use Rattle.std.specs.Prelude.{IfSome, IsSomeAnd}
use Rattle.fw_frontier.specs.Front.{Front}
use Rattle.fw_flow.specs.declared.choice.Choice.{Choice}
use Rattle.fw_flow.specs.declared.choice.Cut.{Cut}
use Rattle.fw_flow.specs.declared.choice.Cut.TheVariants.{Present, At}
use Rattle.fw_flow.specs.declared.restoring.Restoring.{Restoring}
use Rattle.fw_flow.specs.declared.restoring.Restoring.TheVariants.{Batches, Bound, Anything, Checkpoints, Events}
use Rattle.fw_flow.specs.Dataflow.{Dataflow}
use Rattle.fw_flow.specs.Restoring.{way_of}
use Rattle.fw_model.specs.Choice.{cut_of}
use Rattle.fw_record.specs.declared.record.Checkpoint.{Checkpoint}
use Rattle.fw_record.specs.declared.record.Record.{Record}
use Rattle.fw_edge.specs.Messages.{MessagesState}
use Rattle.fw_keep.specs.Chains.{changes_of}
use Rattle.fw_node.specs.declared.node.Node.{Node}
use Rattle.fw_node.specs.NodeOf.{IsNodeOf}
use Rattle.fw_node.proofs.NodeOfLaws.{node-of}
use Rattle.fw_rollback.specs.declared.parts.Parts.{Parts}
use Rattle.fw_rollback.specs.Asked.{first_up_to, events_of, given_of}
use Rattle.fw_rollback.specs.New.{AreFirstTables, IsFirstTable}
use Rattle.fw_rollback.specs.Restored.{HasDone, IsBuilt, IsCutTo, IsFromChain, IsNew, AreOfNodes, IsRestored}
use Rattle.fw_rollback.specs.Tables.{table_at}

if-some-and : {A : Type 0} (P Q : A → Type 0) (o : Option A) → ((x : A) → P x → Q x) → IsSomeAnd o P → IfSome o Q
if-some-and P Q None f h = absurd h
if-some-and P Q (Some x) f h = f x h

if-none : (Q : Node → Type 0) (o : Option Node) → o ≡ None → IfSome o Q
if-none Q o e = subst (λ (x : Option Node). IfSome x Q) (sym e) tt

-- a new one is one of its place
of-new : (flow : Dataflow) (p : ℕ) (node : Node) → IsNew flow p node → IsNodeOf flow p node
of-new flow p node h = node-of flow p (λ s. false) node [] (h (λ s. false))

of-chain : (flow : Dataflow) (low : List Front) (p : ℕ) (f : Front) (c : Option Checkpoint) (later : List Checkpoint) (node : Node) (logs : List MessagesState)
    → IsFromChain flow low p f c later node logs → IsNodeOf flow p node
of-chain flow low p f None later node logs h = of-new flow p node h.0
of-chain flow low p f (Some c) later node logs h = h.1

-- what is built for a node is of its place
of-built : (flow : Dataflow) (low : List Front) (p : ℕ) (f : Front) (given : List Record) (way : Restoring) (table : Option Node) (logs : List MessagesState)
    → IsBuilt flow low p f given way table logs → IfSome table (IsNodeOf flow p)
of-built flow low p f given Batches table logs h = if-none (IsNodeOf flow p) table h.0
of-built flow low p f given Bound table logs h = if-none (IsNodeOf flow p) table h.0
of-built flow low p f given Anything table logs h = if-some-and (IsNew flow p) (IsNodeOf flow p) table (of-new flow p) h.0
of-built flow low p f given Checkpoints table logs h =
    if-some-and (λ node. IsFromChain flow low p f (first_up_to f given) (changes_of given) node logs) (IsNodeOf flow p) table
    (λ node. of-chain flow low p f (first_up_to f given) (changes_of given) node logs) h
of-built flow low p f given Events table logs h =
    if-some-and (λ node. HasDone flow low p f (events_of given) node logs) (IsNodeOf flow p) table (λ node d. d.of_node) h

-- after a cut each table is of its place, where each was before
pub of_nodes-restored : (flow : Dataflow) (choice : Choice) (old new : Parts) (given : List (List Record)) → IsRestored flow choice old given new
    → AreOfNodes flow old.tables → AreOfNodes flow new.tables
of_nodes-restored flow choice old new given r h p l = by (cut_of choice p) (r.nodes p l)
  where
    by : (cut : Cut) → IsCutTo flow p old (given_of given p) new cut → IfSome (table_at new.tables p) (IsNodeOf flow p)
    by Present b = subst (λ (o : Option Node). IfSome o (IsNodeOf flow p)) (sym b.0) (h p l)
    by (At f) b = of-built flow old.low p f (given_of given p) (way_of flow p) (table_at new.tables p) new.logs b

-- at first each table is of its place
pub of_nodes-first : (flow : Dataflow) (tables : List (Option Node)) → AreFirstTables flow (length flow.nodes) tables → AreOfNodes flow tables
of_nodes-first flow tables h p l = by (way_of flow p) (h p l)
  where
    by : (way : Restoring) → IsFirstTable flow p way (table_at tables p) → IfSome (table_at tables p) (IsNodeOf flow p)
    by Batches b = if-none (IsNodeOf flow p) (table_at tables p) b
    by Bound b = if-none (IsNodeOf flow p) (table_at tables p) b
    by Anything b = if-some-and (IsNew flow p) (IsNodeOf flow p) (table_at tables p) (of-new flow p) b
    by Checkpoints b = if-some-and (IsNew flow p) (IsNodeOf flow p) (table_at tables p) (of-new flow p) b
    by Events b = if-some-and (IsNew flow p) (IsNodeOf flow p) (table_at tables p) (of-new flow p) b
