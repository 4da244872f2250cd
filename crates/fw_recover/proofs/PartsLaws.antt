-- What the parts hold after a recovery, node by node by the way in which it is restored, and edge by edge.
use Rattle.std.proofs.Common.{◌≡◌, ◌≢◌, ℕ, ◌<◌, true, false, cond, ◌||◌, not, List, [], ◌∷◌, length, filter, Option, Some, None, refl, sym, ap, subst, ◌∙◌, inl, inr, arith}
use Rattle.std.specs.Prelude.{IsSomeAnd}
use Rattle.std.specs.List.{AllZip, enumerate_from}
use Rattle.std.proofs.lemmas.Bool.{cases_Bool}
use Rattle.fw_frontier.specs.Front.{Front, inside}
use Rattle.fw_frontier.proofs.CanonicalLaws.{in_domain-canonical}
use Rattle.fw_frontier.proofs.SameLaws.{same_front-from}
use Rattle.fw_flow.specs.declared.choice.Choice.{Choice}
use Rattle.fw_flow.specs.declared.choice.Cut.{Cut}
use Rattle.fw_flow.specs.declared.choice.Cut.TheVariants.{Present, At}
use Rattle.fw_flow.specs.Kind.{Kind}
use Rattle.fw_flow.specs.declared.kind.Kind.TheVariants.{Input, OutputEpoch, OutputNumber}
use Rattle.fw_flow.specs.declared.kind.Policy.{Policy}
use Rattle.fw_flow.specs.declared.kind.Policy.TheVariants as policy
use Rattle.fw_flow.specs.declared.restoring.Restoring.{Restoring}
use Rattle.fw_flow.specs.declared.restoring.Restoring.TheVariants.{Batches, Bound, Anything, Checkpoints, Events}
use Rattle.fw_flow.specs.declared.step.Step.TheVariants.{Recover}
use Rattle.fw_flow.specs.Dataflow.{System, kind_of, policy_of, sender, receiver, batches_of, bounds_of, node_frontier, is_input_kind, is_output_kind}
use Rattle.fw_flow.specs.WellFormed.{IsWellFormedSystem}
use Rattle.fw_flow.specs.Restoring.{restoring, way_of}
use Rattle.fw_model.specs.Choice.{cut_of}
use Rattle.fw_model.specs.LawsOfReplay.{replayed_events}
use Rattle.fw_model.specs.Filtering.{messages_from, messages_outside}
use Rattle.fw_model.specs.History.{injected_count}
use Rattle.fw_model.specs.Machine.{Machine, events, front_of}
use Rattle.fw_model.specs.Reached.{IsReached}
use Rattle.fw_model.specs.SortedMessages.{sorted_messages}
use Rattle.fw_model.specs.Steps.{front_of_cut, recovered_state}
use Rattle.fw_model.specs.Writes.{takes_checkpoints}
use Rattle.fw_model.proofs.InputLaws.{injected-few}
use Rattle.fw_record.specs.declared.record.Checkpoint.{Checkpoint}
use Rattle.fw_record.specs.declared.record.Record.{Record}
use Rattle.fw_record.specs.declared.record.Record.TheVariants as tagged
use Rattle.fw_keep.specs.declared.entry.Entry.{Entry}
use Rattle.fw_keep.specs.Chains.{changes_of, states_of}
use Rattle.fw_keep.specs.Stored.{Records, IsFetched}
use Rattle.fw_edge.specs.Messages.{MessagesState}
use Rattle.fw_border.specs.Outputs.{OutputState}
use Rattle.fw_border.specs.Sources.{SourceState, rolled_source, epochs_inside}
use Rattle.fw_node.specs.declared.node.Node.{Node}
use Rattle.fw_node.specs.ChainOf.{last_front}
use Rattle.fw_rollback.specs.declared.parts.Parts.{Parts}
use Rattle.fw_rollback.specs.Asked.{asked_of, first_checkpoint, first_up_to, events_of}
use Rattle.fw_rollback.specs.Edges.{on_edge}
use Rattle.fw_rollback.proofs.BuildLaws.{up_to-none}
use Rattle.fw_rollback.specs.Restored.{HasDone, IsBuilt, IsCutTo, IsFromChain, output_after, queue_after}
use Rattle.fw_rollback.specs.Tables.{table_at}
use Rattle.fw_stands.specs.Recovered.{Recovers}
use Rattle.fw_stands.specs.Parts.{IsOutputOf, IsSourceOf, IsTableIn, logged, queued}
use Rattle.fw_stands.specs.Written.{AreEntriesOf, AreStored, uncollected}
use Rattle.fw_stands.proofs.AtReached.{reached-legal}
use Rattle.fw_stands.proofs.RecoveredChains.{logs-from_chains, tables-from_chains}
use Rattle.fw_stands.proofs.RecoveredBorders.{recs-cut, recs-present, sources-rolled}
use Rattle.fw_stands.proofs.RecoveredLogs.{logged-none, logs-from_replay, logs-of_nothing, logs-present, others-have_no_log}
use Rattle.fw_stands.proofs.RecoveredQueues.{queues-cut, queues-present}
use Rattle.fw_stands.proofs.RecoveredTables.{cuts-canonical, replayed-told, tables-borders, tables-from_replay, tables-new, tables-nothing, tables-present}
use Rattle.fw_running.specs.Steps.{Trusts}
use Rattle.fw_recover.proofs.ReadingLaws.{checkpoints-read, events-read}

-- ---- ways

batches-border : (kind : Kind) (p : Policy) → restoring kind p ≡ Batches → (is_input_kind kind || is_output_kind kind) ≡ true
batches-border Input p e = refl
batches-border OutputEpoch p e = refl
batches-border OutputNumber p e = refl
batches-border kind policy.None e = absurd (cc e)
batches-border kind policy.Lazy e = absurd (cc e)
batches-border kind policy.Logged e = absurd (cc e)
batches-border kind policy.Eager e = absurd (cc e)
batches-border kind policy.Full e = absurd (cc e)

bound-border : (kind : Kind) (p : Policy) → restoring kind p ≡ Bound → (is_input_kind kind || is_output_kind kind) ≡ true
bound-border Input p e = refl
bound-border OutputEpoch p e = refl
bound-border OutputNumber p e = refl
bound-border kind policy.None e = absurd (cc e)
bound-border kind policy.Lazy e = absurd (cc e)
bound-border kind policy.Logged e = absurd (cc e)
bound-border kind policy.Eager e = absurd (cc e)
bound-border kind policy.Full e = absurd (cc e)

checkpoints-inner : (kind : Kind) (p : Policy) → restoring kind p ≡ Checkpoints → (is_input_kind kind || is_output_kind kind) ≡ false
checkpoints-inner Input p e = absurd (cc e)
checkpoints-inner OutputEpoch p e = absurd (cc e)
checkpoints-inner OutputNumber p e = absurd (cc e)
checkpoints-inner kind p e = refl

checkpoints-take : (kind : Kind) (p : Policy) → restoring kind p ≡ Checkpoints → takes_checkpoints p ≡ true
checkpoints-take Input p e = absurd (cc e)
checkpoints-take OutputEpoch p e = absurd (cc e)
checkpoints-take OutputNumber p e = absurd (cc e)
checkpoints-take kind policy.None e = absurd (cc e)
checkpoints-take kind policy.Lazy e = refl
checkpoints-take kind policy.Logged e = refl
checkpoints-take kind policy.Eager e = refl
checkpoints-take kind policy.Full e = absurd (cc e)

events-full : (kind : Kind) (p : Policy) → restoring kind p ≡ Events → p ≡ policy.Full
events-full Input p e = absurd (cc e)
events-full OutputEpoch p e = absurd (cc e)
events-full OutputNumber p e = absurd (cc e)
events-full kind policy.None e = absurd (cc e)
events-full kind policy.Lazy e = absurd (cc e)
events-full kind policy.Logged e = absurd (cc e)
events-full kind policy.Eager e = absurd (cc e)
events-full kind policy.Full e = refl

-- ---- what is given

-- What is known where a node is built: the recovery, the entries and what the store told of them, and what was fetched of the node.
pub record IsGiven (sys : System) (state : Machine) (choice : Choice) (settled : List Front) (records : Option Records) (p : ℕ) (given : List Record) : Type 0 where
  pub recovers : Recovers sys state choice settled
  pub trusts : Trusts sys state Recover records
  pub entries : List Entry
  pub of_writes : AreEntriesOf sys state entries (uncollected state)
  pub stored : AreStored sys state records entries (uncollected state)
  pub declared : p < length sys.flow.nodes
  pub fetched : AllZip (IsFetched sys.flow records) (asked_of sys.flow choice entries p) given

-- ---- tables

some-and : {A : Type 0} (P : A → Type 0) (Q : Option A → Type 0) (o : Option A) → IsSomeAnd o P → ((x : A) → P x → Q (Some x)) → Q o
some-and P Q None h f = absurd h
some-and P Q (Some x) h f = f x h

-- what is built from the records of a chain
abbrev FromRecords : System → List Front → ℕ → Front → List Record → Node → List MessagesState → Type 0
FromRecords sys low p f rs node logs = IsFromChain sys.flow low p f (first_up_to f rs) (changes_of rs) node logs

-- where nothing was read the node is a new one
from-none : (sys : System) (low : List Front) (p : ℕ) (f : Front) (rs : List Record) (node : Node) (logs : List MessagesState) → first_checkpoint rs ≡ None
    → FromRecords sys low p f rs node logs → IsFromChain sys.flow low p f None (changes_of rs) node logs
from-none sys low p f rs node logs none built =
    subst (λ c. IsFromChain sys.flow low p f c (changes_of rs) node logs) (sym (up_to-none f rs (sym none))) built

-- where a chain was read that leads up to the cut the node is restored from it
from-chain : (sys : System) (low : List Front) (p : ℕ) (f : Front) (rs : List Record) (node : Node) (logs : List MessagesState) (first : Checkpoint) (more : List Record)
    → rs ≡ tagged.State first ∷ more → last_front first.recorded.front (states_of (changes_of more)) ≡ f → FromRecords sys low p f rs node logs
    → IsFromChain sys.flow low p f (Some first) (changes_of more) node logs
from-chain sys low p f rs node logs first more all last built =
    let is : first_up_to f (tagged.State first ∷ more) ≡ Some first =
    ap (λ b. cond b (Some first) None) (same_front-from (last_front first.recorded.front (states_of (changes_of more))) f last) in
    subst (λ c. IsFromChain sys.flow low p f c (changes_of more) node logs) is (subst (λ xs. FromRecords sys low p f xs node logs) all built)

-- the table that is built for a node from the checkpoints that were read
table-saved : (sys : System) (state : Machine) (choice : Choice) (settled : List Front) (records : Option Records) (p : ℕ) (given : List Record)
    → IsGiven sys state choice settled records p given → way_of sys.flow p ≡ Checkpoints → (f : Front) → cut_of choice p ≡ At f
    → (node : Node) (logs : List MessagesState) → FromRecords sys state.low p f given node logs
    → IsTableIn sys (recovered_state sys state choice settled) p (Some node)
table-saved sys state choice settled records p given g way f is node logs built =
    let r = g.recovers in
    let kind = kind_of sys.flow p in
    let takes = checkpoints-take kind (policy_of sys.flow p) way in
    elim (checkpoints-read sys state choice settled r g.entries g.of_writes records g.stored g.trusts given p f g.declared way takes is g.fetched) [
      | inl none ↦
          let new = from-none sys state.low p f given node logs none.none built in
          tables-nothing sys state choice settled r p g.declared (checkpoints-inner kind (policy_of sys.flow p) way) (is ∙ ap At none.front) node new.0
      | inr read ↦
          let saved = from-chain sys state.low p f given node logs read.first read.more read.all read.chain.last built in
          tables-from_chains sys state choice settled r p g.declared way f is read.first (changes_of read.more) read.chain node saved.2
    ]

-- that of a node that does its events again
table-done : (sys : System) (state : Machine) (choice : Choice) (settled : List Front) (records : Option Records) (p : ℕ) (given : List Record)
    → IsGiven sys state choice settled records p given → way_of sys.flow p ≡ Events → (f : Front) → cut_of choice p ≡ At f
    → (node : Node) (logs : List MessagesState) → HasDone sys.flow state.low p f (events_of given) node logs
    → IsTableIn sys (recovered_state sys state choice settled) p (Some node)
table-done sys state choice settled records p given g way f is node logs built =
    let r = g.recovers in
    let full = events-full (kind_of sys.flow p) (policy_of sys.flow p) way in
    tables-from_replay sys state choice settled r p f full is node
    (built.table (replayed_events sys state p (node_frontier sys.flow p f))
    (events-read sys state choice settled r g.entries g.of_writes records given p f full way is g.fetched)
    (replayed-told sys state choice settled r p f full is)
    (in_domain-canonical (bounds_of sys.flow p) f (cuts-canonical sys state choice settled r p g.declared f is)))

table-built : (sys : System) (state : Machine) (choice : Choice) (settled : List Front) (records : Option Records) (p : ℕ) (given : List Record)
    → IsGiven sys state choice settled records p given → (f : Front) → cut_of choice p ≡ At f → (way : Restoring) → way_of sys.flow p ≡ way
    → (table : Option Node) (logs : List MessagesState) → IsBuilt sys.flow state.low p f given way table logs
    → IsTableIn sys (recovered_state sys state choice settled) p table
table-built sys state choice settled records p given g f is Batches way table logs built =
    let next = recovered_state sys state choice settled in
    subst (IsTableIn sys next p) (sym built.0) (tables-borders sys next p (batches-border (kind_of sys.flow p) (policy_of sys.flow p) way))
table-built sys state choice settled records p given g f is Bound way table logs built =
    let next = recovered_state sys state choice settled in
    subst (IsTableIn sys next p) (sym built.0) (tables-borders sys next p (bound-border (kind_of sys.flow p) (policy_of sys.flow p) way))
table-built sys state choice settled records p given g f is Anything way table logs built =
    some-and _ (IsTableIn sys (recovered_state sys state choice settled) p) table built.0
    (λ node new. tables-new sys state choice settled g.recovers p g.declared way f is node new)
table-built sys state choice settled records p given g f is Checkpoints way table logs built =
    some-and _ (IsTableIn sys (recovered_state sys state choice settled) p) table built
    (λ node b. table-saved sys state choice settled records p given g way f is node logs b)
table-built sys state choice settled records p given g f is Events way table logs built =
    some-and _ (IsTableIn sys (recovered_state sys state choice settled) p) table built
    (λ node b. table-done sys state choice settled records p given g way f is node logs b)

table-cut : (sys : System) (state : Machine) (choice : Choice) (settled : List Front) (records : Option Records) (p : ℕ) (given : List Record)
    → IsGiven sys state choice settled records p given → (old new : Parts) → old.low ≡ state.low → (cut : Cut) → cut_of choice p ≡ cut
    → IsCutTo sys.flow p old given new cut → IsTableIn sys state p (table_at old.tables p)
    → IsTableIn sys (recovered_state sys state choice settled) p (table_at new.tables p)
table-cut sys state choice settled records p given g old new low Present is made t =
    tables-present sys state choice settled g.recovers p g.declared is (table_at new.tables p) (subst (IsTableIn sys state p) (sym made.0) t)
table-cut sys state choice settled records p given g old new low (At f) is made t =
    table-built sys state choice settled records p given g f is (way_of sys.flow p) refl (table_at new.tables p) new.logs
    (subst (λ fronts. IsBuilt sys.flow fronts p f given (way_of sys.flow p) (table_at new.tables p) new.logs) low made)

-- the table of a node after its cut
pub table-after : (sys : System) (state : Machine) (choice : Choice) (settled : List Front) (records : Option Records) (p : ℕ) (given : List Record)
    → IsGiven sys state choice settled records p given → (old new : Parts) → old.low ≡ state.low → IsCutTo sys.flow p old given new (cut_of choice p)
    → IsTableIn sys state p (table_at old.tables p) → IsTableIn sys (recovered_state sys state choice settled) p (table_at new.tables p)
table-after sys state choice settled records p given g old new low made t =
    table-cut sys state choice settled records p given g old new low (cut_of choice p) refl made t

-- ---- logs

log-saved : (sys : System) (state : Machine) (choice : Choice) (settled : List Front) (records : Option Records) (e : ℕ) (given : List Record)
    → IsGiven sys state choice settled records (sender sys.flow e) given → e < length sys.flow.edges
    → way_of sys.flow (sender sys.flow e) ≡ Checkpoints → (f : Front) → cut_of choice (sender sys.flow e) ≡ At f
    → (node : Node) (logs : List MessagesState) → FromRecords sys state.low (sender sys.flow e) f given node logs
    → (on_edge logs e).messages ≡ logged sys (recovered_state sys state choice settled) e
log-saved sys state choice settled records e given g l way f is node logs built =
    let r = g.recovers in
    let p = sender sys.flow e in
    let takes = checkpoints-take (kind_of sys.flow p) (policy_of sys.flow p) way in
    elim (checkpoints-read sys state choice settled r g.entries g.of_writes records g.stored g.trusts given p f g.declared way takes is g.fetched) [
      | inl none ↦
          let new = from-none sys state.low p f given node logs none.none built in
          ap (λ (log : MessagesState). log.messages) (new.1 e l refl) ∙ sym (logs-of_nothing sys state choice settled r e l (is ∙ ap At none.front))
      | inr read ↦
          let saved = from-chain sys state.low p f given node logs read.first read.more read.all read.chain.last built in
          ap (λ (log : MessagesState). log.messages) (saved.3 e l refl)
          ∙ sym (logs-from_chains sys state choice settled r e f is read.first (changes_of read.more) read.chain)
    ]

log-done : (sys : System) (state : Machine) (choice : Choice) (settled : List Front) (records : Option Records) (e : ℕ) (given : List Record)
    → IsGiven sys state choice settled records (sender sys.flow e) given → e < length sys.flow.edges
    → way_of sys.flow (sender sys.flow e) ≡ Events → (f : Front) → cut_of choice (sender sys.flow e) ≡ At f
    → (node : Node) (logs : List MessagesState) → HasDone sys.flow state.low (sender sys.flow e) f (events_of given) node logs
    → (on_edge logs e).messages ≡ logged sys (recovered_state sys state choice settled) e
log-done sys state choice settled records e given g l way f is node logs built =
    let r = g.recovers in
    let p = sender sys.flow e in
    let full = events-full (kind_of sys.flow p) (policy_of sys.flow p) way in
    let done = events-read sys state choice settled r g.entries g.of_writes records given p f full way is g.fetched in
    ap (λ (log : MessagesState). log.messages) (built.sent sys.batches (replayed_events sys state p (node_frontier sys.flow p f)) done e l refl)
    ∙ sym (logs-from_replay sys state choice settled r e l full f is)

-- a node that is restored neither by a checkpoint nor by its events has no log
no-log : (sys : System) (state : Machine) (choice : Choice) (settled : List Front) → Recovers sys state choice settled
    → (e : ℕ) → e < length sys.flow.edges → way_of sys.flow (sender sys.flow e) ≢ Checkpoints → way_of sys.flow (sender sys.flow e) ≢ Events
    → logged sys (recovered_state sys state choice settled) e ≡ []
no-log sys state choice settled r e l n m =
    logged-none sys (recovered_state sys state choice settled) e
    (others-have_no_log sys.flow r.well_formed.flow (sender sys.flow e) (r.well_formed.flow.senders_declared e l) n m)

log-built : (sys : System) (state : Machine) (choice : Choice) (settled : List Front) (records : Option Records) (e : ℕ) (given : List Record)
    → IsGiven sys state choice settled records (sender sys.flow e) given → e < length sys.flow.edges
    → (f : Front) → cut_of choice (sender sys.flow e) ≡ At f → (way : Restoring) → way_of sys.flow (sender sys.flow e) ≡ way
    → (table : Option Node) (logs : List MessagesState) → IsBuilt sys.flow state.low (sender sys.flow e) f given way table logs
    → (on_edge logs e).messages ≡ logged sys (recovered_state sys state choice settled) e
log-built sys state choice settled records e given g l f is Batches way table logs built =
    ap (λ (log : MessagesState). log.messages) (built.1 e l refl)
    ∙ sym (no-log sys state choice settled g.recovers e l (λ c. let x : Batches ≡ Checkpoints = sym way ∙ c in cc) (λ c. let x : Batches ≡ Events = sym way ∙ c in cc))
log-built sys state choice settled records e given g l f is Bound way table logs built =
    ap (λ (log : MessagesState). log.messages) (built.1 e l refl)
    ∙ sym (no-log sys state choice settled g.recovers e l (λ c. let x : Bound ≡ Checkpoints = sym way ∙ c in cc) (λ c. let x : Bound ≡ Events = sym way ∙ c in cc))
log-built sys state choice settled records e given g l f is Anything way table logs built =
    ap (λ (log : MessagesState). log.messages) (built.1 e l refl)
    ∙ sym (no-log sys state choice settled g.recovers e l (λ c. let x : Anything ≡ Checkpoints = sym way ∙ c in cc) (λ c. let x : Anything ≡ Events = sym way ∙ c in cc))
log-built sys state choice settled records e given g l f is Checkpoints way table logs built =
    some-and _ (λ o. (on_edge logs e).messages ≡ logged sys (recovered_state sys state choice settled) e) table built
    (λ node b. log-saved sys state choice settled records e given g l way f is node logs b)
log-built sys state choice settled records e given g l f is Events way table logs built =
    some-and _ (λ o. (on_edge logs e).messages ≡ logged sys (recovered_state sys state choice settled) e) table built
    (λ node b. log-done sys state choice settled records e given g l way f is node logs b)

log-cut : (sys : System) (state : Machine) (choice : Choice) (settled : List Front) (records : Option Records) (e : ℕ) (given : List Record)
    → IsGiven sys state choice settled records (sender sys.flow e) given → e < length sys.flow.edges
    → (old new : Parts) → old.low ≡ state.low → (cut : Cut) → cut_of choice (sender sys.flow e) ≡ cut
    → IsCutTo sys.flow (sender sys.flow e) old given new cut → (on_edge old.logs e).messages ≡ logged sys state e
    → (on_edge new.logs e).messages ≡ logged sys (recovered_state sys state choice settled) e
log-cut sys state choice settled records e given g l old new low Present is made t =
    ap (λ (log : MessagesState). log.messages) (made.1 e l refl) ∙ t ∙ sym (logs-present sys state choice settled g.recovers e l is)
log-cut sys state choice settled records e given g l old new low (At f) is made t =
    let p = sender sys.flow e in
    log-built sys state choice settled records e given g l f is (way_of sys.flow p) refl (table_at new.tables p) new.logs
    (subst (λ fronts. IsBuilt sys.flow fronts p f given (way_of sys.flow p) (table_at new.tables p) new.logs) low made)

-- the log of an edge after the cut of its sender
pub log-after : (sys : System) (state : Machine) (choice : Choice) (settled : List Front) (records : Option Records) (e : ℕ) (given : List Record)
    → IsGiven sys state choice settled records (sender sys.flow e) given → e < length sys.flow.edges
    → (old new : Parts) → old.low ≡ state.low → IsCutTo sys.flow (sender sys.flow e) old given new (cut_of choice (sender sys.flow e))
    → (on_edge old.logs e).messages ≡ logged sys state e
    → (on_edge new.logs e).messages ≡ logged sys (recovered_state sys state choice settled) e
log-after sys state choice settled records e given g l old new low made t =
    log-cut sys state choice settled records e given g l old new low (cut_of choice (sender sys.flow e)) refl made t

-- ---- queues

queue-cut : (sys : System) (state : Machine) (choice : Choice) (settled : List Front) → Recovers sys state choice settled
    → (e : ℕ) → e < length sys.flow.edges → (queue log new : MessagesState) → queue.messages ≡ queued sys state e
    → log.messages ≡ logged sys (recovered_state sys state choice settled) e
    → (cut : Cut) → cut_of choice (receiver sys.flow e) ≡ cut → new ≡ queue_after sys.flow choice e queue log cut
    → new.messages ≡ queued sys (recovered_state sys state choice settled) e
queue-cut sys state choice settled r e l queue log new q g Present is made =
    ap (λ (x : MessagesState). x.messages) made
    ∙ ap (messages_from (inside (front_of_cut (cut_of choice (sender sys.flow e))))) q
    ∙ sym (queues-present sys state choice settled r e l is)
queue-cut sys state choice settled r e l queue log new q g (At f) is made =
    ap (λ (x : MessagesState). x.messages) made
    ∙ ap (λ ms. sorted_messages (messages_outside (inside f) ms)) g
    ∙ sym (queues-cut sys state choice settled r e l f is)

-- the queue of an edge after the cut of its receiver
pub queue-made : (sys : System) (state : Machine) (choice : Choice) (settled : List Front) → Recovers sys state choice settled
    → (e : ℕ) → e < length sys.flow.edges → (queue log new : MessagesState) → queue.messages ≡ queued sys state e
    → log.messages ≡ logged sys (recovered_state sys state choice settled) e
    → new ≡ queue_after sys.flow choice e queue log (cut_of choice (receiver sys.flow e))
    → new.messages ≡ queued sys (recovered_state sys state choice settled) e
queue-made sys state choice settled r e l queue log new q g made =
    queue-cut sys state choice settled r e l queue log new q g (cut_of choice (receiver sys.flow e)) refl made

-- ---- inputs and outputs

output-cut : (sys : System) (state : Machine) (choice : Choice) (settled : List Front) → Recovers sys state choice settled
    → (o : ℕ) → o < length sys.flow.nodes → is_output_kind (kind_of sys.flow o) ≡ true → (output : OutputState) → IsOutputOf sys state o output
    → (cut : Cut) → cut_of choice o ≡ cut → IsOutputOf sys (recovered_state sys state choice settled) o (output_after cut output)
output-cut sys state choice settled r o l kind output a Present is = record {
  bound = a.bound;
  recs = λ x. a.recs x ∙ sym (recs-present sys state choice settled r o l is x);
}
output-cut sys state choice settled r o l kind output a (At f) is = record {
  bound = a.bound;
  recs = λ x. sym (recs-cut sys state choice settled r o l kind f is x);
}

-- an output after its cut
pub output-made : (sys : System) (state : Machine) (choice : Choice) (settled : List Front) → Recovers sys state choice settled
    → (o : ℕ) → o < length sys.flow.nodes → is_output_kind (kind_of sys.flow o) ≡ true → (output new : OutputState) → IsOutputOf sys state o output
    → new ≡ output_after (cut_of choice o) output → IsOutputOf sys (recovered_state sys state choice settled) o new
output-made sys state choice settled r o l kind output new a made =
    subst (IsOutputOf sys (recovered_state sys state choice settled) o) (sym made)
    (output-cut sys state choice settled r o l kind output a (cut_of choice o) refl)

-- a node that is no input injected nothing
none-injected : (sys : System) (state : Machine) → IsWellFormedSystem sys → IsReached sys state → (s : ℕ) → is_input_kind (kind_of sys.flow s) ≡ false
    → injected_count s (events state.history) ≡ 0
none-injected sys state w reached s other =
    let few = injected-few sys (events state.history) (reached-legal sys state w reached) s in
    let none = ap length (w.of_inputs s other) in
    omega arith

other-rolled : (sys : System) (state next : Machine) → IsWellFormedSystem sys → IsReached sys state → IsReached sys next → next.low ≡ state.low
    → (s : ℕ) → is_input_kind (kind_of sys.flow s) ≡ false → (source : SourceState) → IsSourceOf sys state s source → (cut : Cut)
    → IsSourceOf sys next s (rolled_source cut source)
other-rolled sys state next w old new low s other source a Present = record {
  given = a.given;
  injected = a.injected ∙ none-injected sys state w old s other ∙ sym (none-injected sys next w new s other);
  held = subst (λ fronts. source.held ≡ filter (λ batch. not (inside (front_of fronts s) (batch.0 ∷ []))) (enumerate_from 0 (batches_of sys s))) (sym low) a.held;
}
other-rolled sys state next w old new low s other source a (At f) = record {
  given = a.given;
  injected = ap (epochs_inside f) (a.injected ∙ none-injected sys state w old s other) ∙ sym (none-injected sys next w new s other);
  held = subst (λ fronts. source.held ≡ filter (λ batch. not (inside (front_of fronts s) (batch.0 ∷ []))) (enumerate_from 0 (batches_of sys s))) (sym low) a.held;
}

-- what is kept of a node's batches after its cut
pub source-made : (sys : System) (state : Machine) (choice : Choice) (settled : List Front) → Recovers sys state choice settled
    → IsReached sys (recovered_state sys state choice settled)
    → (s : ℕ) → s < length sys.flow.nodes → (source new : SourceState) → IsSourceOf sys state s source → new ≡ rolled_source (cut_of choice s) source
    → IsSourceOf sys (recovered_state sys state choice settled) s new
source-made sys state choice settled r reached s l source new a made =
    let next = recovered_state sys state choice settled in
    subst (IsSourceOf sys next s) (sym made)
    (elim (cases_Bool (is_input_kind (kind_of sys.flow s))) [
      | inl input ↦ sources-rolled sys state choice settled r s l input source a
      | inr other ↦ other-rolled sys state next r.well_formed r.reached reached refl s other source a (cut_of choice s)
    ])
