-- What is logged fits the flow after parts are restored, whatever was read.
use Rattle.std.proofs.Common.{◌≡◌, ℕ, ◌<◌, ◌≤◌, true, ◌&&◌, ◌==◌, List, [], ◌∷◌, length, filter, Option, Some, None, refl, sym, subst, inl, inr}
use Rattle.std.specs.Prelude.{IsSomeAnd}
use Rattle.std.specs.List.{AllByRecursion, AllZip}
use Rattle.std.proofs.lemmas.Bool.{and_parts, cases_lt, eqb-true}
use Rattle.std.proofs.lemmas.List.{get_or_past}
use Rattle.fw_lemmas.proofs.Each.{each-append, each-weaker, each-one, each-map, each-filter}
use Rattle.fw_time.specs.Stamp.{in_domain}
use Rattle.fw_frontier.specs.Front.{Front, inside}
use Rattle.fw_flow.specs.declared.choice.Choice.{Choice}
use Rattle.fw_flow.specs.declared.choice.Cut.{Cut}
use Rattle.fw_flow.specs.declared.choice.Cut.TheVariants.{Present, At}
use Rattle.fw_flow.specs.declared.restoring.Restoring.{Restoring}
use Rattle.fw_flow.specs.declared.restoring.Restoring.TheVariants.{Batches, Bound, Anything, Checkpoints, Events}
use Rattle.fw_flow.specs.Dataflow.{Dataflow, bounds_of, node_frontier, receiver, sender}
use Rattle.fw_flow.specs.Restoring.{way_of}
use Rattle.fw_flow.specs.WellFormed.{IsWellFormed}
use Rattle.fw_model.specs.Choice.{cut_of}
use Rattle.fw_model.specs.Filtering.{messages_outside}
use Rattle.fw_model.specs.Machine.{front_of}
use Rattle.fw_model.proofs.SortedLaws.{each-sorted_messages}
use Rattle.fw_record.specs.declared.logged.Logged.{Logged}
use Rattle.fw_record.specs.declared.record.Checkpoint.{Checkpoint}
use Rattle.fw_record.specs.declared.record.Record.{Record}
use Rattle.fw_record.specs.declared.record.Record.TheVariants as tagged
use Rattle.fw_record.specs.OfNode.{CanBeLogged}
use Rattle.fw_keep.specs.declared.entry.Entry.{Entry}
use Rattle.fw_keep.specs.declared.entry.Written.{Written}
use Rattle.fw_keep.specs.declared.entry.Written.TheVariants as written
use Rattle.fw_keep.specs.Chains.{changes_of, logged_in_all}
use Rattle.fw_keep.specs.Entry.{IsRecordAs, IsRecordOn}
use Rattle.fw_keep.specs.Stored.{Records, IsFetched}
use Rattle.fw_edge.specs.Messages.{MessagesState}
use Rattle.fw_node.specs.declared.node.Node.{Node}
use Rattle.fw_rollback.specs.declared.parts.Parts.{Parts}
use Rattle.fw_rollback.specs.Asked.{asked_of, first_checkpoint, first_up_to, events_of, given_of, is_asked_for}
use Rattle.fw_rollback.proofs.BuildLaws.{up_to-parts}
use Rattle.fw_rollback.specs.Edges.{IsOnEdge, nothing_there, on_edge}
use Rattle.fw_record.specs.Log.{logged_on}
use Rattle.fw_rollback.specs.Restored.{AreOfFlow, HasDone, HasLogs, IsBuilt, IsCutTo, IsFromChain, Restores}
use Rattle.fw_rollback.specs.Tables.{table_at}

-- each message is one of its edge
abbrev pub AreOnEdges : Dataflow → List MessagesState → Type 0
AreOnEdges flow all = (e : ℕ) → AllByRecursion (IsOnEdge flow e) (on_edge all e).messages

-- ---- a checkpoint's messages

one-fits : (flow : Dataflow) (p : ℕ) (f : Front) (e : ℕ) → sender flow e ≡ p → (l : Logged) → CanBeLogged flow p f l → (l.edge == e) ≡ true → IsOnEdge flow e l.message
one-fits flow p f e s l c i = record {
  at = subst (λ d. in_domain (bounds_of flow (receiver flow d)) l.message.at ≡ true) (eqb-true l.edge e i) c.at;
  causes =
      each-weaker (λ t. node_frontier flow p f t ≡ true) (λ t. in_domain (bounds_of flow (sender flow e)) t ≡ true) l.message.causes
      (λ t k. subst (λ q. in_domain (bounds_of flow q) t ≡ true) (sym s) (and_parts (in_domain (bounds_of flow p) t) (inside f t) k).0) c.causes;
}

-- what events of a node can have logged on an edge from it is the edge's
logged-fit : (flow : Dataflow) (p : ℕ) (f : Front) (e : ℕ) → sender flow e ≡ p → (ls : List Logged) → AllByRecursion (CanBeLogged flow p f) ls
    → AllByRecursion (IsOnEdge flow e) (logged_on e ls)
logged-fit flow p f e s ls a =
    each-map (IsOnEdge flow e) (λ (l : Logged). l.message) (filter (λ (l : Logged). l.edge == e) ls)
    (each-filter (λ (l : Logged). IsOnEdge flow e l.message) (λ (l : Logged). l.edge == e) ls
    (each-weaker (CanBeLogged flow p f) (λ (l : Logged). (l.edge == e) ≡ true → IsOnEdge flow e l.message) ls (one-fits flow p f e s) a))

-- The messages of the checkpoint can be those that events of node p inside a frontier logged.
record CanBeLogOf (flow : Dataflow) (p : ℕ) (c : Checkpoint) : Type 0 where
  pub front : Front
  pub messages : AllByRecursion (CanBeLogged flow p front) c.log

-- so can those of the record, if it holds a checkpoint or changes
abbrev HasOwnLog : Dataflow → ℕ → Record → Type 0
HasOwnLog flow p (tagged.State c) = CanBeLogOf flow p c
HasOwnLog flow p (tagged.Event q event) = Unit {0}
HasOwnLog flow p (tagged.Changes base c) = CanBeLogOf flow p c

on-log : (flow : Dataflow) (p : ℕ) (f : Front) (base : Option ℕ) (r : Record) → IsRecordOn flow p f base r → HasOwnLog flow p r
on-log flow p f None (tagged.State c) h = record { front = f; messages = h.log.messages }
on-log flow p f None (tagged.Event q event) h = tt
on-log flow p f None (tagged.Changes id c) h = absurd h
on-log flow p f (Some base) (tagged.State c) h = absurd h
on-log flow p f (Some base) (tagged.Event q event) h = tt
on-log flow p f (Some base) (tagged.Changes id c) h = record { front = f; messages = h.1.log.messages }

written-log : (flow : Dataflow) (p : ℕ) (base : Option ℕ) (what : Written) (r : Record) → IsRecordAs flow p base what r → HasOwnLog flow p r
written-log flow p base (written.Checkpoint recorded stamps sent) r h = on-log flow p recorded.front base r h.of_node
written-log flow p base (written.Event event) r h = subst (HasOwnLog flow p) (sym h) tt

fetched-log : (flow : Dataflow) (records : Option Records) (p : ℕ) (es : List Entry) (rs : List Record) → AllByRecursion (λ (e : Entry). e.node ≡ p) es
    → AllZip (IsFetched flow records) es rs → AllByRecursion (HasOwnLog flow p) rs
fetched-log flow records p es [] a z = tt
fetched-log flow records p [] (r ∷ rs) a z = absurd z
fetched-log flow records p (x ∷ es) (r ∷ rs) a z =
    (subst (λ q. HasOwnLog flow q r) a.0 (written-log flow x.node x.base x.written r z.0.fits), fetched-log flow records p es rs a.1 z.1)

first-log : (flow : Dataflow) (p : ℕ) (rs : List Record) (c : Checkpoint) → AllByRecursion (HasOwnLog flow p) rs → first_checkpoint rs ≡ Some c → CanBeLogOf flow p c
first-log flow p [] c a e = absurd (cc e)
first-log flow p (tagged.State k ∷ rs) c a e =
    let same : k ≡ c = cc in
    subst (CanBeLogOf flow p) same a.0
first-log flow p (tagged.Event q event ∷ rs) c a e = absurd (cc e)
first-log flow p (tagged.Changes base k ∷ rs) c a e = absurd (cc e)

changes-log : (flow : Dataflow) (p : ℕ) (rs : List Record) → AllByRecursion (HasOwnLog flow p) rs → AllByRecursion (CanBeLogOf flow p) (changes_of rs)
changes-log flow p [] a = tt
changes-log flow p (tagged.State k ∷ rs) a = changes-log flow p rs a.1
changes-log flow p (tagged.Event q event ∷ rs) a = changes-log flow p rs a.1
changes-log flow p (tagged.Changes base k ∷ rs) a = (a.0, changes-log flow p rs a.1)

asked-node : (flow : Dataflow) (choice : Choice) (entries : List Entry) (p : ℕ) → AllByRecursion (λ (e : Entry). e.node ≡ p) (asked_of flow choice entries p)
asked-node flow choice entries p =
    let test = λ (e : Entry). (e.node == p) && is_asked_for flow choice entries e in
    each-filter (λ (e : Entry). e.node ≡ p) test entries
    (each-one (λ (e : Entry). test e ≡ true → e.node ≡ p) entries (λ e i. eqb-true e.node p (and_parts (e.node == p) (is_asked_for flow choice entries e) i).0))

-- what these checkpoints logged on an edge from the node is the edge's
chain-fit : (flow : Dataflow) (p : ℕ) (e : ℕ) → sender flow e ≡ p → (cs : List Checkpoint) → AllByRecursion (CanBeLogOf flow p) cs
    → AllByRecursion (IsOnEdge flow e) (logged_in_all e cs)
chain-fit flow p e s [] a = tt
chain-fit flow p e s (c ∷ cs) a =
    each-append (IsOnEdge flow e) (logged_on e c.log) (logged_in_all e cs) (logged-fit flow p a.0.front e s c.log a.0.messages) (chain-fit flow p e s cs a.1)

-- ---- what is built

nothing-fits : (flow : Dataflow) (p : ℕ) (logs : List MessagesState) → HasLogs flow p logs (λ e. nothing_there) → (e : ℕ) → e < length flow.edges → sender flow e ≡ p
    → AllByRecursion (IsOnEdge flow e) (on_edge logs e).messages
nothing-fits flow p logs h e l s = subst (λ (log : MessagesState). AllByRecursion (IsOnEdge flow e) log.messages) (sym (h e l s)) tt

chain-fits : (flow : Dataflow) (low : List Front) (p : ℕ) (f : Front) (c : Option Checkpoint) → ((k : Checkpoint) → c ≡ Some k → CanBeLogOf flow p k)
    → (later : List Checkpoint) → AllByRecursion (CanBeLogOf flow p) later
    → (node : Node) (logs : List MessagesState) → IsFromChain flow low p f c later node logs → (e : ℕ) → e < length flow.edges → sender flow e ≡ p
    → AllByRecursion (IsOnEdge flow e) (on_edge logs e).messages
chain-fits flow low p f None can later more node logs h e l s = nothing-fits flow p logs h.1 e l s
chain-fits flow low p f (Some c) can later more node logs h e l s =
    let all = logged_in_all e (c ∷ later) in
    subst (λ (x : MessagesState). AllByRecursion (IsOnEdge flow e) x.messages) (sym (h.3 e l s))
    (each-sorted_messages (IsOnEdge flow e) (messages_outside (inside (front_of low (receiver flow e))) all)
    (each-filter (IsOnEdge flow e) _ all
    (each-weaker (IsOnEdge flow e) _ all (λ m k i. k) (chain-fit flow p e s (c ∷ later) (can c refl, more)))))

some-and : {A : Type 0} (P : A → Type 0) (G : Type 0) (o : Option A) → IsSomeAnd o P → ((x : A) → P x → G) → G
some-and P G None h f = absurd h
some-and P G (Some x) h f = f x h

built-fits : (flow : Dataflow) (low : List Front) (p : ℕ) (f : Front) (given : List Record) → AllByRecursion (HasOwnLog flow p) given
    → (way : Restoring) (table : Option Node) (logs : List MessagesState) → IsBuilt flow low p f given way table logs
    → (e : ℕ) → e < length flow.edges → sender flow e ≡ p → AllByRecursion (IsOnEdge flow e) (on_edge logs e).messages
built-fits flow low p f given can Batches table logs b e l s = nothing-fits flow p logs b.1 e l s
built-fits flow low p f given can Bound table logs b e l s = nothing-fits flow p logs b.1 e l s
built-fits flow low p f given can Anything table logs b e l s = nothing-fits flow p logs b.1 e l s
built-fits flow low p f given can Checkpoints table logs b e l s =
    some-and (λ node. IsFromChain flow low p f (first_up_to f given) (changes_of given) node logs) _ table b
    (λ node h. chain-fits flow low p f (first_up_to f given) (λ k is. first-log flow p given k can (sym (up_to-parts f given k (sym is)).0)) (changes_of given)
    (changes-log flow p given can) node logs h e l s)
built-fits flow low p f given can Events table logs b e l s =
    some-and (λ node. HasDone flow low p f (events_of given) node logs) _ table b (λ node h. h.own e l s)

cut-fits : (flow : Dataflow) (p : ℕ) (old new : Parts) (given : List Record) → AllByRecursion (HasOwnLog flow p) given
    → AreOnEdges flow old.logs → (cut : Cut) → IsCutTo flow p old given new cut
    → (e : ℕ) → e < length flow.edges → sender flow e ≡ p → AllByRecursion (IsOnEdge flow e) (on_edge new.logs e).messages
cut-fits flow p old new given can logs Present h e l s =
    subst (λ (log : MessagesState). AllByRecursion (IsOnEdge flow e) log.messages) (sym (h.1 e l s)) (logs e)
cut-fits flow p old new given can logs (At f) h e l s = built-fits flow old.low p f given can (way_of flow p) (table_at new.tables p) new.logs h e l s

-- each message that is logged then is one of its edge, where each was before
pub logs-fit : (flow : Dataflow) (choice : Choice) (records : Option Records) (old new : Parts) → IsWellFormed flow → Restores flow choice records old new
    → AreOfFlow flow new → AreOnEdges flow old.logs → AreOnEdges flow new.logs
logs-fit flow choice records old new w r each logs = λ e. elim (cases_lt e (length flow.edges)) [
  | inl l ↦
      let p = sender flow e in
      let there = w.senders_declared e l in
      let given = given_of r.given p in
      cut-fits flow p old new given
      (fetched-log flow records p (asked_of flow choice old.keep.entries p) given (asked-node flow choice old.keep.entries p) (r.fetched p there))
      logs (cut_of choice p) (r.restored.nodes p there) e l refl
  | inr past ↦
      subst (λ (log : MessagesState). AllByRecursion (IsOnEdge flow e) log.messages)
      (sym (get_or_past new.logs e nothing_there (subst (λ n. n ≤ e) (sym each.logs) past))) tt
]
