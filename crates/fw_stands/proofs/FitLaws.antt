-- The record of a checkpoint of a node can be that of its entry.
use Rattle.std.proofs.Common.{◌≡◌, Option, Some, None, ℕ, ◌+◌, ◌<◌, ◌≤◌, ◌^◌, Bool, true, false, cond, not, ◌==◌, nat_lt, List, [], ◌∷◌, ◌++◌, length, filter, refl, sym, ap, subst, ◌∙◌, arith}
use Rattle.std.specs.List.{AllByRecursion, Contains}
use Rattle.std.proofs.lemmas.Bool.{and_parts, cond_both, eq-eqb}
use Rattle.std.proofs.lemmas.Bool.Decides.{nat_tests}
use Rattle.std.specs.Ordering.{is_le}
use Rattle.fw_lemmas.proofs.Each.{each-weaker, each-both, each-one, each_of-map, each-filter, each_of-filter, each-kept, each-of_all, each-there}
use Rattle.fw_lemmas.proofs.Filters.{filter-all, filter-inner}
use Rattle.fw_flow.specs.Message.{message_cmp}
use Rattle.fw_time.specs.Stamp.{Stamp, in_domain}
use Rattle.fw_bag.specs.declared.rec.Rec.{Rec}
use Rattle.fw_frontier.specs.Frontier.{Frontier}
use Rattle.fw_frontier.specs.Front.{Front, IsCanonical}
use Rattle.fw_frontier.specs.declared.state.Entries.{Entries}
use Rattle.fw_frontier.specs.declared.state.Entries.TheVariants.{Totals}
use Rattle.fw_frontier.specs.declared.state.SentCount.{SentCount}
use Rattle.fw_frontier.specs.declared.state.State.{State}
use Rattle.fw_frontier.proofs.CanonicalLaws.{in_domain-canonical}
use Rattle.fw_flow.specs.declared.choice.OfEdge.{OfEdge}
use Rattle.fw_flow.specs.declared.choice.Recorded.{Recorded}
use Rattle.fw_flow.specs.declared.event.Message.{Message}
use Rattle.fw_flow.specs.Kind.{Kind}
use Rattle.fw_flow.specs.declared.kind.Kind.TheVariants as kind
use Rattle.fw_flow.specs.declared.kind.Policy.{Policy}
use Rattle.fw_flow.specs.declared.kind.Policy.TheVariants as policy
use Rattle.fw_flow.specs.Dataflow.{System, Dataflow, kind_of, policy_of, sender, receiver, in_edges, out_edges, bounds_of, bounds_of_edge, node_frontier, is_sequence_kind}
use Rattle.fw_flow.specs.NodeFunction.{delivered_recs, sequence_sent}
use Rattle.fw_flow.specs.Projection.{events_at, all_inside}
use Rattle.fw_flow.specs.Restoring.{can_resend}
use Rattle.fw_flow.specs.WellFormed.{IsWellFormedSystem}
use Rattle.fw_flow.proofs.OutEdgeLaws.{out_edges-at}
use Rattle.fw_flow.specs.declared.choice.Stamps.{Stamps}
use Rattle.fw_model.specs.Filtering.{messages_from, messages_outside}
use Rattle.fw_model.specs.History.{sent_messages}
use Rattle.fw_model.specs.Machine.{Machine, checkpoint, events, family_of}
use Rattle.fw_model.specs.Offers.{AreFrontsOfEdges}
use Rattle.fw_model.specs.Reached.{IsReached}
use Rattle.fw_model.specs.SortedMessages.{with_message, sorted_messages}
use Rattle.fw_model.specs.Writes.{takes_checkpoints}
use Rattle.fw_model.proofs.AskedLaws.{takes-declared, reached-all}
use Rattle.fw_model.proofs.DomainLaws.{has_epochs}
use Rattle.fw_model.proofs.LegalLaws.{legal_messages-in_domain, edge-receiver}
use Rattle.fw_model.proofs.SortedLaws.{each-sorted_messages}
use Rattle.fw_model.proofs.ThinnedLaws.{each-contained}
use Rattle.fw_node.specs.Past.{totals_changed, totals_kept}
use Rattle.fw_node.specs.StateOf.{totals_in}
use Rattle.fw_node.proofs.RestoringLaws.{few_sent}
use Rattle.fw_record.specs.declared.logged.Logged.{Logged}
use Rattle.fw_record.specs.declared.record.Checkpoint.{Checkpoint}
use Rattle.fw_record.specs.OfNode as fits
use Rattle.fw_record.specs.OfNode.{IsOnOneOf, count_sum, CountsFitKind, HasNumbersFor, CanBeLogged, IsLogUnder, IsCheckpointRecordOf}
use Rattle.fw_bytes.specs.Sound.{each_may_follow, may_follow_counts}
use Rattle.fw_record.specs.Sound.{IsSound}
use Rattle.fw_policy.specs.Entries.{IsRecorded, count_within, sent_by_node}
use Rattle.fw_record.specs.Log.{logged_on}
use Rattle.fw_record.specs.declared.record.Record.{Record}
use Rattle.fw_record.specs.declared.record.Record.TheVariants as tagged
use Rattle.fw_stands.specs.Written.{events_within, edges_of, messages_since, to_log, to_log_since, told_inside, IsChangesFor, IsCheckpointFor, IsRecordFor}
use Rattle.fw_progress.proofs.OutLaws.{sender-there}
use Rattle.fw_stands.proofs.NumberLaws.{ledger-few}
use Rattle.fw_keep.specs.declared.entry.Entry.{Entry}
use Rattle.fw_keep.specs.Entry.{IsRecordOfEntry, asked_beside}

-- ---- fronts

on-edges : (flow : Dataflow) (edges : List ℕ) (xs : List OfEdge) → AreFrontsOfEdges flow xs → edges_of xs ≡ edges → AllByRecursion (IsOnOneOf flow edges) xs
on-edges flow edges xs canonical is =
    let Is : OfEdge → Type 0 = λ x. IsCanonical (bounds_of flow (receiver flow x.edge)) x.front in
    let On : OfEdge → Type 0 = λ x. Contains edges x.edge in
    each-weaker (λ x. Is x × On x) (IsOnOneOf flow edges) xs
    (λ x a. record { edge = a.1; stamps = in_domain-canonical (bounds_of flow (receiver flow x.edge)) x.front a.0 })
    (each-both Is On xs canonical
    (each_of-map (Contains edges) (λ (x : OfEdge). x.edge) xs (subst (AllByRecursion (Contains edges)) (sym is) (each-there edges))))

-- ---- counts

from-all : (ms : List Message) → messages_from (λ t. true) ms ≡ ms
from-all ms = filter-all (λ (m : Message). all_inside (λ t. true) m.causes) ms (each-one (λ (m : Message). all_inside (λ t. true) m.causes ≡ true) ms (λ m. all m.causes))
  where
    all : (ts : List Stamp) → all_inside (λ t. true) ts ≡ true
    all [] = refl
    all (t ∷ ts) = all ts

from-twice : (f : Frontier) (ms : List Message) → messages_from f (messages_from f ms) ≡ messages_from f ms
from-twice f ms =
    let test : Message → Bool = λ m. all_inside f m.causes in
    filter-inner test test ms (each-one (λ m. test m ≡ true → test m ≡ true) ms (λ m e. e))

told-all : (ss : List SentCount) → told_inside (λ t. true) ss ≡ count_sum ss
told-all [] = refl
told-all (s ∷ ss) = ap (λ n. s.count + n) (told-all ss)

told-less : (f : Frontier) (ss : List SentCount) → told_inside f ss ≤ count_sum ss
told-less f [] = omega arith
told-less f (s ∷ ss) =
    let rest = told-less f ss in
    cond_both (f s.cause) s.count 0 (λ n. n + told_inside f ss ≤ s.count + count_sum ss) (λ e. omega arith) (λ e. omega arith)

positive-each : (before ss : List SentCount) → each_may_follow may_follow_counts before ss ≡ true → AllByRecursion (λ (s : SentCount). nat_lt 0 s.count ≡ true) ss
positive-each before [] k = tt
positive-each before (s ∷ ss) k =
    let a = and_parts (may_follow_counts before s) (each_may_follow may_follow_counts (before ++ s ∷ []) ss) k in
    ((and_parts (nat_lt 0 s.count) _ a.0).0, positive-each (before ++ s ∷ []) ss a.1)

-- where as much is told inside as in all, each is inside
all-told : (f : Frontier) (ss : List SentCount) → AllByRecursion (λ (s : SentCount). nat_lt 0 s.count ≡ true) ss → told_inside f ss ≡ count_sum ss
    → AllByRecursion (λ (s : SentCount). f s.cause ≡ true) ss
all-told f [] p e = tt
all-told f (s ∷ ss) p e = by (f s.cause) refl e (all-told f ss p.1)
  where
    by : (b : Bool) → f s.cause ≡ b → cond b s.count 0 + told_inside f ss ≡ s.count + count_sum ss
        → (told_inside f ss ≡ count_sum ss → AllByRecursion (λ (x : SentCount). f x.cause ≡ true) ss) → AllByRecursion (λ (x : SentCount). f x.cause ≡ true) (s ∷ ss)
    by true i e rest = (i, rest (omega arith))
    by false i e rest =
        let some : 0 < s.count = let k = p.0 in grind (arith, nat_tests) in
        let less = told-less f ss in
        absurd (omega arith)

counts-of : (k : Kind) (s : State) → (is_sequence_kind k ≡ true → count_sum s.sends ≡ s.sent) → (is_sequence_kind k ≡ false → s.sends ≡ []) → CountsFitKind k s
counts-of kind.Sequence s a b = a refl
counts-of k s a b = b refl

causes-of : (flow : Dataflow) (f : Frontier) (b : Bool) (k : Kind) (ss : List SentCount) → is_sequence_kind k ≡ b → (is_sequence_kind k ≡ true → AllByRecursion (λ (s : SentCount). f s.cause ≡ true) ss)
    → (is_sequence_kind k ≡ false → ss ≡ []) → AllByRecursion (λ (s : SentCount). f s.cause ≡ true) ss
causes-of flow f true k ss i a c = a i
causes-of flow f false k ss i a c = subst (AllByRecursion (λ (s : SentCount). f s.cause ≡ true)) (sym (c i)) tt

entries-of : (k : Kind) (entries : Entries) (rs : List Rec) → totals_in entries ≡ totals_kept k rs → fits.TotalsFitKind k entries
entries-of kind.Total entries rs e = tt
entries-of kind.Ledger entries rs e = tt
entries-of k (Totals recs) rs e = ap Totals e

numbers-for : (k : Kind) (n : ℕ) → (k ≡ kind.Sequence → n ≤ 2 ^ 32) → (k ≡ kind.Ledger → n ≤ 2 ^ 32) → HasNumbersFor k n
numbers-for kind.Sequence n a b = a refl
numbers-for kind.Ledger n a b = b refl
numbers-for k n a b = tt

-- ---- the log

each_of-with_message : (P : Message → Type 0) (m : Message) (xs : List Message) → AllByRecursion P (with_message m xs) → P m × AllByRecursion P xs
each_of-with_message P m [] a = (a.0, tt)
each_of-with_message P m (x ∷ xs) a =
    (cond_both (is_le (message_cmp m x)) (m ∷ x ∷ xs) (x ∷ with_message m xs) (λ ys. AllByRecursion P ys → P m × AllByRecursion P (x ∷ xs))
    (λ e b. (b.0, b.1)) (λ e b. let rest = each_of-with_message P m xs b.1 in (rest.0, (b.0, rest.1)))) a

each_of-sorted : (P : Message → Type 0) (xs : List Message) → AllByRecursion P (sorted_messages xs) → AllByRecursion P xs
each_of-sorted P [] a = tt
each_of-sorted P (x ∷ xs) a = let b = each_of-with_message P x (sorted_messages xs) a in (b.0, each_of-sorted P xs b.1)

-- what holds of each message that is to be logged holds of each that is
logged-each : (flow : Dataflow) (p : ℕ) (all : ℕ → List Message) (log : List Logged) → ((l : Logged) → Contains log l → sender flow l.edge ≡ p)
    → ((e : ℕ) → sender flow e ≡ p → sorted_messages (logged_on e log) ≡ sorted_messages (all e)) → (P : ℕ → Message → Type 0)
    → ((e : ℕ) → sender flow e ≡ p → AllByRecursion (P e) (all e)) → AllByRecursion (λ (l : Logged). P l.edge l.message) log
logged-each flow p all log edges same P k =
    each-weaker (Contains log) (λ (l : Logged). P l.edge l.message) log
    (λ l there.
    let e = l.edge in
    let s = edges l there in
    let sorted = subst (AllByRecursion (P e)) (sym (same e s)) (each-sorted_messages (P e) (all e) (k e s)) in
    let each = each_of-filter (λ (x : Logged). P e x.message) (λ (x : Logged). x.edge == e) log
    (each_of-map (P e) (λ (x : Logged). x.message) (filter (λ (x : Logged). x.edge == e) log) (each_of-sorted (P e) (logged_on e log) sorted)) in
    each-contained (λ (x : Logged). (x.edge == e) ≡ true → P e x.message) l log there each (eq-eqb e e refl))
    (each-there log)

-- a message of the log of a node at a frontier
abbrev IsFrom : Dataflow → ℕ → Front → ℕ → Message → Type 0
IsFrom flow p f e m = (in_domain (bounds_of flow (receiver flow e)) m.at ≡ true) × AllByRecursion (λ t. node_frontier flow p f t ≡ true) m.causes

-- what was sent from inside the frontier
sent-from : (sys : System) → IsWellFormedSystem sys → (state : Machine) → IsReached sys state → (p : ℕ) (f : Front) (e : ℕ)
    → AllByRecursion (IsFrom sys.flow p f e) (messages_from (node_frontier sys.flow p f) (sent_messages sys (events state.history) e))
sent-from sys w state r p f e =
    let g : Frontier = node_frontier sys.flow p f in
    let ms = sent_messages sys (events state.history) e in
    let legal = (reached-all sys w r.0 r.1 state r.2).recover.holds.legal in
    each-filter (IsFrom sys.flow p f e) (λ (m : Message). all_inside g m.causes) ms
    (each-weaker (λ (m : Message). in_domain (bounds_of_edge sys.flow e) m.at ≡ true) (λ m. all_inside g m.causes ≡ true → IsFrom sys.flow p f e m) ms
    (λ m d i. (edge-receiver sys.flow w.flow e m.at d, each-of_all g m.causes i))
    (legal_messages-in_domain sys (events state.history) w.flow (has_epochs sys w) legal e))

to_log-from : (sys : System) → IsWellFormedSystem sys → (state : Machine) → IsReached sys state → (p : ℕ) (f : Front) (low : List Front) (e : ℕ)
    → AllByRecursion (IsFrom sys.flow p f e) (to_log sys state p f low e)
to_log-from sys w state r p f low e =
    let ms = messages_from (node_frontier sys.flow p f) (sent_messages sys (events state.history) e) in
    let low_there = family_of sys.flow low (receiver sys.flow e) in
    cond_both (can_resend (policy_of sys.flow p)) (messages_outside low_there ms) [] (AllByRecursion (IsFrom sys.flow p f e))
    (λ k. each-kept (IsFrom sys.flow p f e) (λ (m : Message). not (low_there m.at)) ms (sent-from sys w state r p f e))
    (λ k. tt)

to_log_since-from : (sys : System) → IsWellFormedSystem sys → (state : Machine) → IsReached sys state → (p : ℕ) (g f : Front) (low : List Front) (e : ℕ)
    → AllByRecursion (IsFrom sys.flow p f e) (to_log_since sys state p g f low e)
to_log_since-from sys w state r p g f low e =
    let ms = sent_messages sys (events state.history) e in
    let low_there = family_of sys.flow low (receiver sys.flow e) in
    let since : Message → Bool = λ m. not (all_inside (node_frontier sys.flow p g) m.causes) in
    cond_both (can_resend (policy_of sys.flow p)) (messages_outside low_there (messages_since (node_frontier sys.flow p g) (node_frontier sys.flow p f) ms)) []
    (AllByRecursion (IsFrom sys.flow p f e))
    (λ k. each-kept (IsFrom sys.flow p f e) (λ (m : Message). not (low_there m.at)) (messages_since (node_frontier sys.flow p g) (node_frontier sys.flow p f) ms)
    (each-kept (IsFrom sys.flow p f e) since (messages_from (node_frontier sys.flow p f) ms) (sent-from sys w state r p f e)))
    (λ k. tt)

none-logged : (log : List Logged) → AllByRecursion (λ (l : Logged). ⊥) log → log ≡ []
none-logged [] a = refl
none-logged (l ∷ log) a = absurd a.0

lazy-none : (asks : Policy) (ms : List Message) → asks ≡ policy.Lazy → cond (can_resend asks) ms [] ≡ []
lazy-none asks ms lazy = ap (λ x. cond (can_resend x) ms []) lazy

log-under : (asks : Policy) (log : List Logged) → (asks ≡ policy.Lazy → log ≡ []) → IsLogUnder asks log
log-under policy.Lazy log k = k refl
log-under asks log k = tt

-- each of these messages may be in the log
log-fits : (flow : Dataflow) (p : ℕ) (f : Front) (all : ℕ → List Message) (log : List Logged) → p < length flow.nodes
    → ((l : Logged) → Contains log l → sender flow l.edge ≡ p)
    → ((e : ℕ) → sender flow e ≡ p → sorted_messages (logged_on e log) ≡ sorted_messages (all e))
    → ((e : ℕ) → AllByRecursion (IsFrom flow p f e) (all e)) → (policy_of flow p ≡ policy.Lazy → (e : ℕ) → all e ≡ []) → fits.IsLogOf flow p f log
log-fits flow p f all log l edges same from lazy = record {
  messages = each-weaker (λ (x : Logged). Contains log x × IsFrom flow p f x.edge x.message) (CanBeLogged flow p f) log
      (λ x a.
      let s = edges x a.0 in
      record {
        edge = out_edges-at (Contains (out_edges flow p)) flow p (each-there (out_edges flow p)) x.edge (sender-there flow p x.edge l s) s;
        at = a.1.0;
        causes = a.1.1;
      })
      (each-both (Contains log) (λ (x : Logged). IsFrom flow p f x.edge x.message) log (each-there log)
      (logged-each flow p all log edges same (IsFrom flow p f) (λ e s. from e)));
  policy = log-under (policy_of flow p) log (λ is.
      none-logged log (logged-each flow p all log edges same (λ e m. ⊥) (λ e s. subst (AllByRecursion (λ (m : Message). ⊥)) (sym (lazy is e)) tt)));
}

-- ---- the record

recorded-fits : (sys : System) (state : Machine) (p : ℕ) (f : Front) (held : Recorded) → IsRecorded sys state p f held → edges_of held.delivered ≡ in_edges sys.flow p
    → edges_of held.discarded ≡ out_edges sys.flow p → fits.IsRecordedOf sys.flow p f held
recorded-fits sys state p f held h ins outs = record {
  front = h.front;
  notified = in_domain-canonical (bounds_of sys.flow p) held.notified h.of_flow.notified;
  delivered = on-edges sys.flow (in_edges sys.flow p) held.delivered h.of_flow.delivered ins;
  discarded = on-edges sys.flow (out_edges sys.flow p) held.discarded h.of_flow.discarded outs;
}

fewer : (test : Message → Bool) (ms : List Message) → length (filter test ms) ≤ length ms
fewer test [] = omega arith
fewer test (m ∷ ms) =
    let rest = fewer test ms in
    cond_both (test m) (m ∷ filter test ms) (filter test ms) (λ xs. length xs ≤ length (m ∷ ms)) (λ e. omega arith) (λ e. omega arith)

sent-fits : (sys : System) → IsWellFormedSystem sys → (state : Machine) → IsReached sys state → (p : ℕ) (f : Front) → p < length sys.flow.nodes → (sent : ℕ)
    → sent ≡ count_within sys state p f
    → (kind_of sys.flow p ≡ kind.Sequence → sent ≡ length (sequence_sent (events_at sys.flow p (events_within sys state p f)))) → HasNumbersFor (kind_of sys.flow p) sent
sent-fits sys w state r p f l sent counted numbered =
    let g : Frontier = node_frontier sys.flow p f in
    let legal = (reached-all sys w r.0 r.1 state r.2).recover.holds.legal in
    numbers-for (kind_of sys.flow p) sent
    (λ k. let a = numbered k in let b = few_sent (events_at sys.flow p (events_within sys state p f)) in omega arith)
    (λ k.
    let b = fewer (λ m. all_inside g m.causes) (sent_by_node sys (events state.history) p) in
    let d = ledger-few sys (events state.history) w.flow (has_epochs sys w) legal p l k in
    omega arith)

checkpoint-fits : (sys : System) → IsWellFormedSystem sys → (state : Machine) → IsReached sys state → (p : ℕ) (f : Front) (low : List Front) (c : Checkpoint)
    → takes_checkpoints (policy_of sys.flow p) ≡ true → each_may_follow may_follow_counts [] c.state.sends ≡ true → IsCheckpointFor sys state p f low c
    → IsCheckpointRecordOf sys.flow p f c
checkpoint-fits sys w state r p f low c takes follow h =
    let flow = sys.flow in
    let l = takes-declared flow p takes in
    let g : Frontier = node_frontier flow p f in
    let ms = messages_from g (sent_by_node sys (events state.history) p) in
    let positive = positive-each [] c.state.sends follow in
    let all : is_sequence_kind (kind_of flow p) ≡ true → count_sum c.state.sends ≡ length ms =
    λ k. sym (told-all c.state.sends) ∙ h.sends k (λ t. true) ∙ ap length (from-all ms) in
    let within : is_sequence_kind (kind_of flow p) ≡ true → told_inside g c.state.sends ≡ count_sum c.state.sends =
    λ k. h.sends k g ∙ ap length (from-twice g (sent_by_node sys (events state.history) p)) ∙ sym (all k) in
    record {
      node = h.node;
      recorded = recorded-fits sys state p f c.recorded h.recorded h.in_each h.out_each;
      state = record {
        causes = causes-of flow g (is_sequence_kind (kind_of flow p)) (kind_of flow p) c.state.sends refl
            (λ k. all-told g c.state.sends positive (within k)) h.sends_none;
        counts = counts-of (kind_of flow p) c.state (λ k. all k ∙ sym h.sent) h.sends_none;
        entries = entries-of (kind_of flow p) c.state.entries (delivered_recs (λ d s. true) (events_at flow p (events_within sys state p f))) h.table.totals;
        numbers = sent-fits sys w state r p f l c.state.sent h.sent h.table.sent;
      };
      log = log-fits flow p f (to_log sys state p f low) c.log l h.log_edges h.log (to_log-from sys w state r p f low)
          (λ lazy e. lazy-none (policy_of flow p) (messages_outside (family_of flow low (receiver flow e)) (messages_from g (sent_messages sys (events state.history) e))) lazy);
    }

-- ---- changes

-- what came since is from inside
since-from : (g f : Frontier) (ms : List Message) → messages_from f (messages_since g f ms) ≡ messages_since g f ms
since-from g f ms =
    let inside : Message → Bool = λ m. all_inside f m.causes in
    filter-all inside (messages_since g f ms)
    (each-kept (λ (m : Message). inside m ≡ true) (λ m. not (all_inside g m.causes)) (messages_from f ms)
    (each-filter (λ (m : Message). inside m ≡ true) inside ms (each-one (λ m. inside m ≡ true → inside m ≡ true) ms (λ m e. e))))

changes-counts : (k : Kind) (s : State) → (is_sequence_kind k ≡ true → count_sum s.sends ≤ s.sent) → (is_sequence_kind k ≡ false → s.sends ≡ []) → fits.CountsFitChanges k s
changes-counts kind.Sequence s a b = a refl
changes-counts k s a b = b refl

changed-of : (k : Kind) (entries : Entries) (since all : List Rec) → totals_in entries ≡ totals_changed k since all → fits.TotalsFitKind k entries
changed-of kind.Total entries since all e = tt
changed-of kind.Ledger entries since all e = tt
changed-of k (Totals recs) since all e = ap Totals e

changes-fit : (sys : System) → IsWellFormedSystem sys → (state : Machine) → IsReached sys state → (p : ℕ) (g f : Front) (low : List Front) (c : Checkpoint)
    → takes_checkpoints (policy_of sys.flow p) ≡ true → each_may_follow may_follow_counts [] c.state.sends ≡ true → IsChangesFor sys state p g f low c
    → fits.AreChangesOf sys.flow p f c
changes-fit sys w state r p g f low c takes follow h =
    let flow = sys.flow in
    let l = takes-declared flow p takes in
    let base : Frontier = node_frontier flow p g in
    let front : Frontier = node_frontier flow p f in
    let sent = sent_by_node sys (events state.history) p in
    let ms = messages_since base front sent in
    let positive = positive-each [] c.state.sends follow in
    let all : is_sequence_kind (kind_of flow p) ≡ true → count_sum c.state.sends ≡ length ms =
    λ k. sym (told-all c.state.sends) ∙ h.sends k (λ t. true) ∙ ap length (from-all ms) in
    let within : is_sequence_kind (kind_of flow p) ≡ true → told_inside front c.state.sends ≡ count_sum c.state.sends =
    λ k. h.sends k front ∙ ap length (since-from base front sent) ∙ sym (all k) in
    let vs = events_at flow p (events_within sys state p f) in
    record {
      node = h.node;
      recorded = recorded-fits sys state p f c.recorded h.recorded h.in_each h.out_each;
      state = record {
        causes = causes-of flow front (is_sequence_kind (kind_of flow p)) (kind_of flow p) c.state.sends refl
            (λ k. all-told front c.state.sends positive (within k)) h.sends_none;
        counts = changes-counts (kind_of flow p) c.state
            (λ k. let a = all k in let b = h.sent in let d = fewer (λ m. not (all_inside base m.causes)) (messages_from front sent) in omega arith) h.sends_none;
        entries = changed-of (kind_of flow p) c.state.entries (delivered_recs (λ d s. not (base s)) vs) (delivered_recs (λ d s. true) vs) h.table.totals;
        numbers = sent-fits sys w state r p f l c.state.sent h.sent h.table.sent;
      };
      log = log-fits flow p f (to_log_since sys state p g f low) c.log l h.log_edges h.log (to_log_since-from sys w state r p g f low)
          (λ lazy e.
          lazy-none (policy_of flow p) (messages_outside (family_of flow low (receiver flow e)) (messages_since base front (sent_messages sys (events state.history) e))) lazy);
    }

-- in each state to which steps of a well-formed system lead, the record of a checkpoint of a node that takes them, a whole one or changes,
-- can be that of the entry that is asked by it beside others, if it has a spelling
pub records_can_be_of_entries : (sys : System) → IsWellFormedSystem sys → (state : Machine) → IsReached sys state
    → (p : ℕ) (base : Option Front) (f : Front) (low : List Front) (r : Record) → takes_checkpoints (policy_of sys.flow p) ≡ true → IsSound r
    → IsRecordFor sys state p base (checkpoint f low) r
    → (entries : List Entry) (id : ℕ) (stamps : Stamps) → IsRecordOfEntry sys.flow (asked_beside entries id r stamps) r
records_can_be_of_entries sys w state r p None f low (tagged.State c) takes sound h es id stamps =
    let fit = checkpoint-fits sys w state r p f low c takes sound.state.sends.follow h in
    record {
      of_node = subst (λ q. IsCheckpointRecordOf sys.flow q c.recorded.front c) (sym h.node) (subst (λ g. IsCheckpointRecordOf sys.flow p g c) (sym h.recorded.front) fit);
      recorded = refl;
    }
records_can_be_of_entries sys w state r p None f low (tagged.Event q event) takes sound h es id stamps = absurd h
records_can_be_of_entries sys w state r p None f low (tagged.Changes on c) takes sound h es id stamps = absurd h
records_can_be_of_entries sys w state r p (Some g) f low (tagged.State c) takes sound h es id stamps = absurd h
records_can_be_of_entries sys w state r p (Some g) f low (tagged.Event q event) takes sound h es id stamps = absurd h
records_can_be_of_entries sys w state r p (Some g) f low (tagged.Changes on c) takes sound h es id stamps =
    let fit = changes-fit sys w state r p g f low c takes sound.1.state.sends.follow h in
    record {
      of_node = (refl, subst (λ q. fits.AreChangesOf sys.flow q c.recorded.front c) (sym h.node) (subst (λ x. fits.AreChangesOf sys.flow p x c) (sym h.recorded.front) fit));
      recorded = refl;
    }
