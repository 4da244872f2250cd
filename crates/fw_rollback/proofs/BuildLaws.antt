-- What is built, node by node and edge by edge.
use Rattle.std.proofs.Common.{◌≡◌, ◌≢◌, ℕ, ◌+◌, ◌≤◌, ◌<◌, Bool, true, false, cond, List, [], ◌∷◌, ◌++◌, append_assoc, length, set, take, get_or, replicate, Option, Some, None, option_and_then, Result, Ok, Err, refl, sym, ap, subst, ◌∙◌, inl, inr, arith}
use Rattle.std.specs.Prelude.{slice_get, IsSomeAnd, IfOk, OnOk}
use Rattle.std.proofs.lemmas.Option.{get_or_from_slice_get, slice_get-get_or}
use Rattle.std.proofs.lemmas.Bool.{cases_Bool, cases_lt, cases_eq}
use Rattle.std.proofs.lemmas.List.{get_or-set_same, get_or-replicate, length-replicate}
use Rattle.fw_frontier.specs.Front.{Front, inside, same_front}
use Rattle.fw_frontier.proofs.SameLaws.{same_front-is}
use Rattle.fw_flow.specs.declared.choice.Choice.{Choice}
use Rattle.fw_flow.specs.declared.choice.Cut.{Cut}
use Rattle.fw_flow.specs.declared.choice.Cut.TheVariants.{Present, At}
use Rattle.fw_flow.specs.declared.restoring.Restoring.{Restoring}
use Rattle.fw_flow.specs.declared.restoring.Restoring.TheVariants.{Batches, Bound, Anything, Checkpoints, Events}
use Rattle.std.specs.List.{AllByRecursion, Contains}
use Rattle.std.proofs.lemmas.Grind.{flat_map-append}
use Rattle.std.proofs.lemmas.List.{append-nil, map-append, take_more}
use Rattle.fw_lemmas.proofs.Each.{each-weaker}
use Rattle.fw_time.specs.Stamp.{Stamp, in_domain}
use Rattle.fw_flow.specs.declared.event.Event.{Event}
use Rattle.fw_flow.specs.declared.event.Message.{Message}
use Rattle.fw_flow.specs.Dataflow.{Dataflow, sender, receiver, kind_of, in_edges, out_edges, bounds_of}
use Rattle.fw_flow.proofs.OutEdgeLaws.{out_edges-from}
use Rattle.fw_model.specs.Filtering.{messages_outside}
use Rattle.fw_model.specs.SortedMessages.{sorted_messages, with_messages}
use Rattle.fw_model.specs.Told.{EachDelivery}
use Rattle.fw_model.proofs.ThinnedLaws.{each-contained}
use Rattle.fw_record.specs.declared.logged.Logged.{Logged}
use Rattle.fw_record.specs.declared.record.Record.TheVariants as tagged
use Rattle.fw_node.specs.Arrived.{AreOnEdges}
use Rattle.fw_node.specs.NodeOf.{IsNodeOf}
use Rattle.fw_node.specs.StateOf.{IsStateOf, IsStateSince}
use Rattle.fw_node.specs.TableOf.{IsTableOf}
use Rattle.fw_rollback.proofs.ListLaws.{out_edges-there}
use Rattle.fw_rollback.proofs.LogLaws.{log_of-same, with_messages-nothing}
use Rattle.fw_flow.specs.Restoring.{way_of}
use Rattle.fw_model.specs.Choice.{cut_of}
use Rattle.fw_record.specs.declared.record.Checkpoint.{Checkpoint}
use Rattle.fw_record.specs.declared.record.Record.{Record}
use Rattle.fw_edge.specs.Messages.{MessagesState}
use Rattle.fw_node.specs.declared.node.Node.{Node}
use Rattle.fw_rollback.specs.Asked.{front_at, first_checkpoint, first_up_to, leads_to, given_of, events_of, CanServe}
use Rattle.fw_rollback.specs.Built.{by_cut, AreNodesBuilt, AreQueuesBuilt, log_after}
use Rattle.fw_rollback.specs.Edges.{on_edge, nothing_there, IsOnEdge}
use Rattle.fw_keep.specs.Chains.{changes_in, changes_of, logged_in_all, states_of}
use Rattle.fw_record.specs.Log.{logged_on}
use Rattle.fw_frontier.specs.declared.state.State.{State}
use Rattle.fw_model.specs.Filtering.{events_inside}
use Rattle.fw_model.proofs.SentLaws.{copy}
use Rattle.fw_model.proofs.SortedLaws.{same_sorted_messages}
use Rattle.fw_model.proofs.WeightLaws.{weigh, weigh-append}
use Rattle.fw_node.specs.ChainOf.{last_front, IsOfChain}
use Rattle.fw_node.proofs.ChainLaws.{chain-first, chain-more}
use Rattle.fw_rollback.specs.Restored.{HasLogs, HasDone, IsBuilt, IsFromChain, log_of, log_left_outside}
use Rattle.fw_rollback.specs.Tables.{table_at}

some-same : {A : Type 0} {a b : A} → Some a ≡ Some b → a ≡ b
some-same e = cc

-- ---- logs of other nodes

-- the logs of the edges from node p stay
abbrev pub KeepsLogs : Dataflow → ℕ → List MessagesState → List MessagesState → Type 0
KeepsLogs flow p logs next = (e : ℕ) → e < length flow.edges → sender flow e ≡ p → on_edge next e ≡ on_edge logs e

pub has_logs-stay : (flow : Dataflow) (p : ℕ) (logs next : List MessagesState) (log : ℕ → MessagesState) → KeepsLogs flow p logs next
    → HasLogs flow p logs log → HasLogs flow p next log
has_logs-stay flow p logs next log k h e l s = k e l s ∙ h e l s

from_chain-stays : (flow : Dataflow) (low : List Front) (p : ℕ) (f : Front) (c : Option Checkpoint) (later : List Checkpoint) (node : Node) (logs next : List MessagesState)
    → KeepsLogs flow p logs next → IsFromChain flow low p f c later node logs → IsFromChain flow low p f c later node next
from_chain-stays flow low p f None later node logs next k h = (h.0, has_logs-stay flow p logs next (λ e. nothing_there) k h.1)
from_chain-stays flow low p f (Some c) later node logs next k h = (h.0, h.1, h.2, λ e l s. k e l s ∙ h.3 e l s)

some-and : {A : Type 0} (P Q : A → Type 0) (o : Option A) → ((x : A) → P x → Q x) → IsSomeAnd o P → IsSomeAnd o Q
some-and P Q None f h = absurd h
some-and P Q (Some x) f h = f x h

-- what is built of a node stays where the logs of its edges stay
pub built-stays : (flow : Dataflow) (low : List Front) (p : ℕ) (f : Front) (given : List Record) (way : Restoring) (table : Option Node) (logs next : List MessagesState)
    → KeepsLogs flow p logs next → IsBuilt flow low p f given way table logs → IsBuilt flow low p f given way table next
built-stays flow low p f given Batches table logs next k h = (h.0, has_logs-stay flow p logs next (λ e. nothing_there) k h.1)
built-stays flow low p f given Bound table logs next k h = (h.0, has_logs-stay flow p logs next (λ e. nothing_there) k h.1)
built-stays flow low p f given Anything table logs next k h = (h.0, has_logs-stay flow p logs next (λ e. nothing_there) k h.1)
built-stays flow low p f given Checkpoints table logs next k h =
    some-and (λ node. IsFromChain flow low p f (first_up_to f given) (changes_of given) node logs) (λ node. IsFromChain flow low p f (first_up_to f given) (changes_of given) node next) table
    (λ node. from_chain-stays flow low p f (first_up_to f given) (changes_of given) node logs next k) h
built-stays flow low p f given Events table logs next k h =
    some-and (λ node. HasDone flow low p f (events_of given) node logs) (λ node. HasDone flow low p f (events_of given) node next) table
    (λ node d. record { of_node = d.of_node; own = λ e l s. subst (λ (x : MessagesState). AllByRecursion (IsOnEdge flow e) x.messages) (sym (k e l s)) (d.own e l s); table = d.table; sent = λ batches events a e l s. k e l s ∙ d.sent batches events a e l s }) h

-- ---- one node more

-- The nodes before place n are built, and the logs of the others are empty.
pub record AreBuiltBefore (flow : Dataflow) (choice : Choice) (low : List Front) (given : List (List Record)) (n : ℕ) (tables : List (Option Node)) (logs : List MessagesState) : Type 0 where
  pub nodes : AreNodesBuilt flow choice low given n tables logs
  pub rest : (e : ℕ) → e < length flow.edges → n ≤ sender flow e → on_edge logs e ≡ nothing_there
  pub each_table : length tables ≡ length flow.nodes
  pub each_log : length logs ≡ length flow.edges

pub built-none : (flow : Dataflow) (choice : Choice) (low : List Front) (given : List (List Record)) (tables : List (Option Node)) (logs : List MessagesState)
    → length tables ≡ length flow.nodes → logs ≡ replicate (length flow.edges) nothing_there → AreBuiltBefore flow choice low given 0 tables logs
built-none flow choice low given tables logs t e = record {
  nodes = λ p l. absurd (omega arith);
  rest = λ d l n. ap (λ (ls : List MessagesState). on_edge ls d) e ∙ get_or-replicate (length flow.edges) d nothing_there nothing_there l;
  each_table = t;
  each_log = ap length e ∙ length-replicate (length flow.edges) nothing_there;
}

-- the next node is built, if it is cut
pub built-more : (flow : Dataflow) (choice : Choice) (low : List Front) (given : List (List Record)) (n d : ℕ) (tables after : List (Option Node)) (logs next : List MessagesState)
    → d ≡ n → AreBuiltBefore flow choice low given n tables logs
    → ((f : Front) → cut_of choice d ≡ At f → IsBuilt flow low d f (given_of given d) (way_of flow d) (table_at after d) next)
    → ((e : ℕ) → sender flow e ≢ d → on_edge next e ≡ on_edge logs e)
    → ((p : ℕ) → p ≢ d → table_at after p ≡ table_at tables p) → length next ≡ length logs → length after ≡ length tables
    → AreBuiltBefore flow choice low given (n + 1) after next
built-more flow choice low given n d tables after logs next at h b others stay long wide = record {
  nodes = λ p k g c. elim (cases_eq d p) [
    | inl s ↦
        let P : ℕ → Type 0 = λ q. cut_of choice q ≡ At g → IsBuilt flow low q g (given_of given q) (way_of flow q) (table_at after q) next in
        subst P s (b g) c
    | inr s ↦
        let Q : Option Node → Type 0 = λ o. IsBuilt flow low p g (given_of given p) (way_of flow p) o next in
        subst Q (sym (stay p (λ z. s (sym z))))
        (built-stays flow low p g (given_of given p) (way_of flow p) (table_at tables p) logs next
        (λ e m r. others e (λ z. s (sym z ∙ r))) (h.nodes p (before p k (λ z. s (at ∙ z))) g c))
  ];
  rest = λ e m k. others e (λ z. absurd (omega (arith, z, at))) ∙ h.rest e m (omega arith);
  each_table = wide ∙ h.each_table;
  each_log = long ∙ h.each_log;
}
  where
    before : (p : ℕ) → p < n + 1 → n ≢ p → p < n
    before p k s = elim (cases_lt p n) [
      | inl m ↦ m
      | inr m ↦ absurd (s (omega arith))
    ]

-- the table that is built for a node that is cut, where it is put
pub built-put : (flow : Dataflow) (choice : Choice) (low : List Front) (p : ℕ) (front f : Front) (given records : List Record) (table : Option Node) (old after : List (Option Node))
    (logs : List MessagesState) → Some front ≡ front_at (cut_of choice p) → cut_of choice p ≡ At f → records ≡ given → p < length old → after ≡ set old p table
    → IsBuilt flow low p front records (way_of flow p) table logs → IsBuilt flow low p f given (way_of flow p) (table_at after p) logs
built-put flow choice low p front f given records table old after logs at cut same there is b =
    let fronts : front ≡ f = some-same (at ∙ ap front_at cut) in
    let put : table ≡ table_at after p = sym (ap (λ (ts : List (Option Node)). table_at ts p) is ∙ get_or-set_same old p table None there) in
    subst (λ o. IsBuilt flow low p f given (way_of flow p) o logs) put
    (subst (λ rs. IsBuilt flow low p f rs (way_of flow p) table logs) same
    (subst (λ g. IsBuilt flow low p g records (way_of flow p) table logs) fronts b))
  where
    some-same : {A : Type 0} {x y : A} → Some x ≡ Some y → x ≡ y
    some-same e = cc

-- ---- one queue more

-- the log that an edge has after the cut is the one that was found
log-got : (cut : Cut) (kept built : List MessagesState) (e : ℕ) (x : MessagesState) → Some x ≡ by_cut cut (slice_get kept e) (slice_get built e)
    → x ≡ by_cut cut (on_edge kept e) (on_edge built e)
log-got Present kept built e x h = sym (get_or_from_slice_get kept e x nothing_there (sym h))
log-got (At f) kept built e x h = sym (get_or_from_slice_get built e x nothing_there (sym h))

-- what is put into a queue whose receiver is cut is what the log that was found holds outside the cut
pub queue-filled : {T E : Type 0} (flow : Dataflow) (choice : Choice) (kept built : List MessagesState) (e : ℕ) (front g : Front) (x : MessagesState) (r : Result T E) (next : MessagesState)
    → Some front ≡ front_at (cut_of choice (receiver flow e)) → cut_of choice (receiver flow e) ≡ At g
    → Some x ≡ by_cut (cut_of choice (sender flow e)) (slice_get kept e) (slice_get built e)
    → OnOk r (next ≡ log_left_outside front x) → OnOk r (next ≡ log_left_outside g (log_after flow choice kept built e))
queue-filled flow choice kept built e front g x (Err y) next at cut got h = tt
queue-filled flow choice kept built e front g x (Ok y) next at cut got h =
    h ∙ ap (λ f. log_left_outside f x) (some-same (at ∙ ap front_at cut)) ∙ ap (log_left_outside g) (log-got (cut_of choice (sender flow e)) kept built e x got)

-- an empty queue into which what a log holds outside a frontier is put holds just that
pub queue-put : {T E : Type 0} (front : Front) (log : MessagesState) (ms : List Message) (qs : List MessagesState) (e : ℕ) (old new : MessagesState) (r : Result T E)
    → e < length qs → on_edge qs e ≡ nothing_there → Some old ≡ slice_get qs e → ms ≡ messages_outside (inside front) log.messages
    → OnOk r (new ≡ record { messages = with_messages ms old.messages; refused = false })
    → OnOk r (on_edge (set qs e new) e ≡ log_left_outside front log)
queue-put front log ms qs e old new (Err x) l empty at is h = tt
queue-put front log ms qs e old new (Ok x) l empty at is h =
    let there : old ≡ nothing_there = sym (get_or_from_slice_get qs e old nothing_there (sym at)) ∙ empty in
    let state : List Message → MessagesState = λ xs. record { messages = xs; refused = false } in
    get_or-set_same qs e new nothing_there l ∙ h
    ∙ ap (λ (q : MessagesState). state (with_messages ms q.messages)) there
    ∙ ap state (with_messages-nothing ms ∙ ap sorted_messages is)

-- there is a queue of each edge
pub queue-there : (qs : List MessagesState) (e : ℕ) → e < length qs → None ≢ slice_get qs e
queue-there qs e l n = let s = slice_get-get_or qs e nothing_there l in cc

-- The queues before place n are filled, and the others are empty.
pub record AreFilledBefore (flow : Dataflow) (choice : Choice) (kept built : List MessagesState) (n : ℕ) (queues : List MessagesState) : Type 0 where
  pub filled : AreQueuesBuilt flow choice kept built n queues
  pub rest : (e : ℕ) → e < length flow.edges → n ≤ e → on_edge queues e ≡ nothing_there
  pub each : length queues ≡ length flow.edges

pub filled-none : (flow : Dataflow) (choice : Choice) (kept built queues : List MessagesState) → queues ≡ replicate (length flow.edges) nothing_there
    → AreFilledBefore flow choice kept built 0 queues
filled-none flow choice kept built queues e = record {
  filled = λ d l. absurd (omega arith);
  rest = λ d l n. ap (λ (qs : List MessagesState). on_edge qs d) e ∙ get_or-replicate (length flow.edges) d nothing_there nothing_there l;
  each = ap length e ∙ length-replicate (length flow.edges) nothing_there;
}

pub filled-more : (flow : Dataflow) (choice : Choice) (kept built : List MessagesState) (n d : ℕ) (queues next : List MessagesState)
    → d ≡ n → AreFilledBefore flow choice kept built n queues
    → ((g : Front) → cut_of choice (receiver flow d) ≡ At g → on_edge next d ≡ log_left_outside g (log_after flow choice kept built d))
    → ((e : ℕ) → e ≢ d → on_edge next e ≡ on_edge queues e) → length next ≡ length queues
    → AreFilledBefore flow choice kept built (n + 1) next
filled-more flow choice kept built n d queues next at h here others long = record {
  filled = λ e k g c. elim (cases_eq d e) [
    | inl s ↦
        let P : ℕ → Type 0 = λ x. cut_of choice (receiver flow x) ≡ At g → on_edge next x ≡ log_left_outside g (log_after flow choice kept built x) in
        subst P s (here g) c
    | inr s ↦ others e (λ z. s (sym z)) ∙ h.filled e (before e k (λ z. s (at ∙ z))) g c
  ];
  rest = λ e l k. others e (λ z. absurd (omega (arith, z, at))) ∙ h.rest e l (omega arith);
  each = long ∙ h.each;
}
  where
    before : (p : ℕ) → p < n + 1 → n ≢ p → p < n
    before p k s = elim (cases_lt p n) [
      | inl m ↦ m
      | inr m ↦ absurd (s (omega arith))
    ]

-- ---- checkpoints

-- what is known of the first record where it is a checkpoint that leads up to f
pub up_to-parts : (f : Front) (rs : List Record) (c : Checkpoint) → Some c ≡ first_up_to f rs → (Some c ≡ first_checkpoint rs) × (leads_to c rs ≡ f)
up_to-parts f rs c e = by (first_checkpoint rs) e
  where
    if_there : Bool → Checkpoint → Option Checkpoint
    if_there b k = cond b (Some k) None

    by : (o : Option Checkpoint) → Some c ≡ option_and_then (λ k. if_there (same_front (leads_to k rs) f) k) o → (Some c ≡ o) × (leads_to c rs ≡ f)
    by None i = absurd cc
    by (Some k) i = elim (cases_Bool (same_front (leads_to k rs) f)) [
      | inl s ↦
          let is : Some c ≡ Some k = i ∙ ap (λ b. if_there b k) s in
          (is, ap (λ x. leads_to x rs) (some-same is) ∙ same_front-is (leads_to k rs) f s)
      | inr s ↦
          let is : Some c ≡ None = i ∙ ap (λ b. if_there b k) s in
          absurd cc
    ]

pub up_to-none : (f : Front) (rs : List Record) → None ≡ first_checkpoint rs → None ≡ first_up_to f rs
up_to-none f rs e = ap (λ o. option_and_then (λ c. cond (same_front (leads_to c rs) f) (Some c) None) o) e

-- the messages of the first record serve, where it is a checkpoint
pub first-serves : (flow : Dataflow) (p : ℕ) (rs : List Record) (c : Checkpoint) → Some c ≡ first_checkpoint rs → AllByRecursion (CanServe flow p) rs
    → AllByRecursion (λ (l : Logged). Contains (out_edges flow p) l.edge) c.log
first-serves flow p [] c e a = absurd cc
first-serves flow p (tagged.State k ∷ rs) c e a =
    let same : k ≡ c = cc in
    subst (λ (x : Checkpoint). AllByRecursion (λ (l : Logged). Contains (out_edges flow p) l.edge) x.log) same a.0
first-serves flow p (tagged.Event q event ∷ rs) c e a = absurd cc
first-serves flow p (tagged.Changes base k ∷ rs) c e a = absurd cc

-- they are on edges
pub logged-there : (flow : Dataflow) (p : ℕ) (ls : List Logged) → AllByRecursion (λ (l : Logged). Contains (out_edges flow p) l.edge) ls
    → AllByRecursion (λ (l : Logged). l.edge < length flow.edges) ls
logged-there flow p ls a =
    each-weaker (λ (l : Logged). Contains (out_edges flow p) l.edge) (λ (l : Logged). l.edge < length flow.edges) ls
    (λ l k. each-contained (λ e. e < length flow.edges) l.edge (out_edges flow p) k (out_edges-there flow p)) a

-- and on none from another node
pub logged-apart : (flow : Dataflow) (p : ℕ) (ls : List Logged) → AllByRecursion (λ (l : Logged). Contains (out_edges flow p) l.edge) ls
    → (e : ℕ) → sender flow e ≢ p → AllByRecursion (λ (l : Logged). l.edge ≢ e) ls
logged-apart flow p ls a e n =
    each-weaker (λ (l : Logged). Contains (out_edges flow p) l.edge) (λ (l : Logged). l.edge ≢ e) ls
    (λ l k s. n (ap (sender flow) (sym s) ∙ each-contained (λ d. sender flow d ≡ p) l.edge (out_edges flow p) k (out_edges-from (λ d. sender flow d ≡ p) flow p (λ d i r. r)))) a

-- those of the first record, where it is a checkpoint
pub first-apart : (flow : Dataflow) (p : ℕ) (rs : List Record) (c : Checkpoint) (ls : List Logged) → Some c ≡ first_checkpoint rs → AllByRecursion (CanServe flow p) rs
    → ls ≡ c.log → (e : ℕ) → sender flow e ≢ p → AllByRecursion (λ (l : Logged). l.edge ≢ e) ls
first-apart flow p rs c ls e a same d n =
    subst (λ (xs : List Logged). AllByRecursion (λ (l : Logged). l.edge ≢ d) xs) (sym same) (logged-apart flow p c.log (first-serves flow p rs c e a) d n)

-- a node that is restored from a checkpoint and takes in the changes since, with its logs
pub restored-chain : (flow : Dataflow) (low : List Front) (p : ℕ) (f : Front) (rs : List Record) (c : Checkpoint) (first last : Node) (old mid new : List MessagesState)
    → Some c ≡ first_up_to f rs → HasLogs flow p old (λ e. nothing_there)
    → ((settled : Stamp → Bool) (before : List Event) → EachDelivery (λ s. (settled s ≡ true) × (in_domain (bounds_of flow p) s ≡ true)) before
    → AreOnEdges (in_edges flow p) before → IsStateOf (kind_of flow p) before c.state → IsTableOf flow p settled first before)
    → IsNodeOf flow p first
    → ((e : ℕ) (ms : List Message) → on_edge old e ≡ log_of flow low e ms → on_edge mid e ≡ log_of flow low e (logged_on e c.log ++ ms))
    → ((f : Front) (state : State) → IsOfChain flow p f state [] first → IsOfChain flow p f state (states_of (changes_of rs)) last)
    → (IsNodeOf flow p first → IsNodeOf flow p last)
    → ((e : ℕ) (ms : List Message) → on_edge mid e ≡ log_of flow low e ms → on_edge new e ≡ log_of flow low e (ms ++ logged_in_all e (changes_of rs)))
    → IsFromChain flow low p f (first_up_to f rs) (changes_of rs) last new
restored-chain flow low p f rs c first last old mid new e empty table of_node logs chain stays more =
    subst (λ (k : Option Checkpoint). IsFromChain flow low p f k (changes_of rs) last new) e (
      (up_to-parts f rs c e).1,
      stays of_node,
      chain c.recorded.front c.state (chain-first flow p c.recorded.front c.state first table),
      λ d l r. more d (logged_on d c.log) (logs d [] (empty d l r) ∙ ap (log_of flow low d) (append-nil (logged_on d c.log))),
    )

-- a node that takes in the changes of one record
pub one-taken : {T E : Type 0} (flow : Dataflow) (p : ℕ) (f : Front) (state : State) (done : List (Front × State)) (c : Checkpoint) (node next : Node) (r : Result T E)
    → IsOfChain flow p f state done node
    → ((settled after : Stamp → Bool) (before : List Event) → EachDelivery (λ s. (after s ≡ true) × (in_domain (bounds_of flow p) s ≡ true)) before
    → AreOnEdges (in_edges flow p) before → IsTableOf flow p settled node (events_inside settled before) → IsStateSince (kind_of flow p) settled before c.state
    → OnOk r (IsTableOf flow p after next before))
    → OnOk r (IsOfChain flow p f state (done ++ states_of (c ∷ [])) next)
one-taken flow p f state done c node next (Err x) stands takes = tt
one-taken flow p f state done c node next (Ok x) stands takes = chain-more flow p f state done (c.recorded.front, c.state) node next stands takes

-- its messages behind those that the log has
pub one-logged : (flow : Dataflow) (low : List Front) (e : ℕ) (c : Checkpoint) (ms : List Message) (log : MessagesState) → log ≡ log_of flow low e (logged_on e c.log ++ ms)
    → log ≡ log_of flow low e (ms ++ logged_in_all e (c ∷ []))
one-logged flow low e c ms log is =
    is
    ∙ log_of-same flow low e (logged_on e c.log ++ ms) (ms ++ (logged_on e c.log ++ []))
    (same_sorted_messages (logged_on e c.log ++ ms) (ms ++ (logged_on e c.log ++ []))
    (λ q.
    let own = logged_on e c.log in
    weigh-append (copy q) own ms ∙ plus-swap (weigh (copy q) own) (weigh (copy q) ms)
    ∙ ap (λ xs. weigh (copy q) ms + weigh (copy q) xs) (sym (append-nil own)) ∙ sym (weigh-append (copy q) ms (own ++ []))))
  where
    plus-swap : (a b : ℕ) → a + b ≡ b + a
    plus-swap a b = omega arith

-- ---- one record more of those that a node takes in

changes-more : (rs : List Record) (i : ℕ) (r : Record) → i < length rs → r ≡ get_or rs i r → changes_of (take (i + 1) rs) ≡ changes_of (take i rs) ++ changes_in r
changes-more rs i r l at =
    ap changes_of (take_more rs i r l) ∙ flat_map-append changes_in (take i rs) (get_or rs i r ∷ [])
    ∙ ap (λ xs. changes_of (take i rs) ++ xs) (append-nil (changes_in (get_or rs i r)) ∙ ap changes_in (sym at))

-- where it holds changes the chain leads up to their front
pub leads-on : (c : Checkpoint) (rs : List Record) (i : ℕ) (r : Record) {base : ℕ} {k : Checkpoint} → i < length rs → r ≡ get_or rs i r → r ≡ tagged.Changes base k
    → k.recorded.front ≡ leads_to c (take (i + 1) rs)
leads-on c rs i r {k = k} l at is =
    let front_and_state : Checkpoint → Front × State = λ x. (x.recorded.front, x.state) in
    let before = changes_of (take i rs) in
    let all : changes_of (take (i + 1) rs) ≡ before ++ k ∷ [] = changes-more rs i r l at ∙ ap (λ x. before ++ changes_in x) is in
    sym (ap (λ cs. last_front c.recorded.front (states_of cs)) all
    ∙ ap (last_front c.recorded.front) (map-append front_and_state before (k ∷ []))
    ∙ last-of c.recorded.front (states_of before) (front_and_state k))
  where
    last-of : (f : Front) (done : List (Front × State)) (one : Front × State) → last_front f (done ++ one ∷ []) ≡ one.0
    last-of f [] one = refl
    last-of f (d ∷ done) one = last-of d.0 done one

-- else as far as before
pub leads-same : (c : Checkpoint) (rs : List Record) (i : ℕ) (r : Record) → i < length rs → r ≡ get_or rs i r → ((base : ℕ) (k : Checkpoint) → r ≢ tagged.Changes base k)
    → leads_to c (take i rs) ≡ leads_to c (take (i + 1) rs)
leads-same c rs i r l at none =
    let before = changes_of (take i rs) in
    sym (ap (λ cs. last_front c.recorded.front (states_of cs)) (changes-more rs i r l at ∙ ap (λ xs. before ++ xs) (nothing r none) ∙ append-nil before))
  where
    nothing : (x : Record) → ((base : ℕ) (k : Checkpoint) → x ≢ tagged.Changes base k) → changes_in x ≡ []
    nothing (tagged.State k) n = refl
    nothing (tagged.Event q event) n = refl
    nothing (tagged.Changes base k) n = absurd (n base k refl)

-- the node stands for a chain that is longer by what the record holds
pub taken-more : (flow : Dataflow) (p : ℕ) (rs : List Record) (i : ℕ) (r : Record) (first now next : Node) → i < length rs → r ≡ get_or rs i r
    → ((f : Front) (state : State) → IsOfChain flow p f state [] first → IsOfChain flow p f state (states_of (changes_of (take i rs))) now)
    → ((f : Front) (state : State) (done : List (Front × State)) → IsOfChain flow p f state done now → IsOfChain flow p f state (done ++ states_of (changes_in r)) next)
    → (f : Front) (state : State) → IsOfChain flow p f state [] first → IsOfChain flow p f state (states_of (changes_of (take (i + 1) rs))) next
taken-more flow p rs i r first now next l at before one f state h =
    let front_and_state : Checkpoint → Front × State = λ c. (c.recorded.front, c.state) in
    let all : states_of (changes_of (take (i + 1) rs)) ≡ states_of (changes_of (take i rs)) ++ states_of (changes_in r) =
    ap states_of (changes-more rs i r l at) ∙ map-append front_and_state (changes_of (take i rs)) (changes_in r) in
    subst (λ cs. IsOfChain flow p f state cs next) (sym all) (one f state (states_of (changes_of (take i rs))) (before f state h))

-- and so do the logs hold its messages
pub logged-more : (flow : Dataflow) (low : List Front) (rs : List Record) (i : ℕ) (r : Record) (first now next : List MessagesState) → i < length rs → r ≡ get_or rs i r
    → ((e : ℕ) (ms : List Message) → on_edge first e ≡ log_of flow low e ms → on_edge now e ≡ log_of flow low e (ms ++ logged_in_all e (changes_of (take i rs))))
    → ((e : ℕ) (ms : List Message) → on_edge now e ≡ log_of flow low e ms → on_edge next e ≡ log_of flow low e (ms ++ logged_in_all e (changes_in r)))
    → (e : ℕ) (ms : List Message) → on_edge first e ≡ log_of flow low e ms → on_edge next e ≡ log_of flow low e (ms ++ logged_in_all e (changes_of (take (i + 1) rs)))
logged-more flow low rs i r first now next l at before one e ms h =
    let earlier = logged_in_all e (changes_of (take i rs)) in
    let log : Checkpoint → List Message = λ c. logged_on e c.log in
    let all : logged_in_all e (changes_of (take (i + 1) rs)) ≡ earlier ++ logged_in_all e (changes_in r) =
    ap (logged_in_all e) (changes-more rs i r l at) ∙ flat_map-append log (changes_of (take i rs)) (changes_in r) in
    one e (ms ++ earlier) (before e ms h)
    ∙ ap (log_of flow low e) (append_assoc ms earlier (logged_in_all e (changes_in r)) ∙ ap (λ (xs : List Message). ms ++ xs) (sym all))

-- ---- no checkpoint

-- a node without a checkpoint
pub restored-none : {E : Type 0} (flow : Dataflow) (low : List Front) (p : ℕ) (f : Front) (rs : List Record) (later : List Checkpoint) (r : Result Node E) (logs : List MessagesState)
    → None ≡ first_up_to f rs → HasLogs flow p logs (λ e. nothing_there) → ((settled : Stamp → Bool) → IfOk r (λ node. IsTableOf flow p settled node []))
    → IfOk r (λ node. IsFromChain flow low p f (first_up_to f rs) later node logs)
restored-none flow low p f rs later (Err x) logs e empty new = tt
restored-none flow low p f rs later (Ok node) logs e empty new = subst (λ (k : Option Checkpoint). IsFromChain flow low p f k later node logs) e (new, empty)
