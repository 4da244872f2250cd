-- What is sent on one edge after the other.
use Rattle.std.proofs.Common.{◌≡◌, ◌≢◌, ℕ, zero, suc, ◌<◌, Bool, true, false, ◌||◌, ◌==◌, cond, List, [], ◌∷◌, length, get_or, take, Option, Some, Result, Ok, Err, refl, sym, ap, subst, ◌∙◌, inl, inr, arith}
use Rattle.std.specs.Prelude.{◌⊎◌, ◌↔◌, IsTrue, OnOk, slice_index_or}
use Rattle.std.specs.List.{Contains, slice_get}
use Rattle.std.specs.Option.{option_map}
use Rattle.std.proofs.lemmas.Option.{slice_get-map, slice_get_read}
use Rattle.std.proofs.lemmas.Bool.{cases_eq, cond-true, cond-false, eq-eqb, eqb-true, false_from_ne_true, false≢true}
use Rattle.fw_lemmas.proofs.Numbers.{eqb-sym}
use Rattle.fw_time.specs.Stamp.{Stamp}
use Rattle.fw_bag.specs.declared.rec.Rec.{Rec}
use Rattle.fw_frontier.specs.Front.{inside}
use Rattle.fw_flow.specs.declared.event.Message.{Message}
use Rattle.fw_flow.specs.declared.event.Event.{Event}
use Rattle.fw_flow.specs.declared.key_part.KeyPart.{KeyPart}
use Rattle.fw_flow.specs.Dataflow.{Dataflow, is_one_of, out_edges, policy_of, receiver, sender}
use Rattle.fw_flow.specs.KeyParts.{part_of}
use Rattle.fw_flow.specs.Message.{messages_less}
use Rattle.fw_flow.specs.NodeFunction.{event_node}
use Rattle.fw_flow.specs.Restoring.{can_resend}
use Rattle.fw_model.specs.Carried.{carried, messages_of_part}
use Rattle.fw_model.specs.History.{message_on}
use Rattle.fw_model.specs.Filtering.{messages_outside}
use Rattle.fw_model.specs.Machine.{front_of}
use Rattle.fw_model.specs.SortedMessages.{with_messages}
use Rattle.fw_model.proofs.CarriedLaws.{carried-is, carried-none}
use Rattle.fw_edge.specs.Messages.{MessagesState}
use Rattle.fw_node.specs.Answers.{caused_by}
use Rattle.fw_rollback.specs.Edges.{on_edge}
use Rattle.fw_stands.specs.Events.{put_on}
use Rattle.fw_progress.proofs.OutLaws.{out_edge-new}
use Rattle.fw_stands.proofs.EventPutLaws.{out_edge-all, out_edge-more}
use Rattle.fw_running.specs.declared.running.Running.{Running}
use Rattle.fw_running.specs.Kept.{queue_at, log_at, is_down}
use Rattle.fw_running.specs.Places.{IsPut}
use Rattle.fw_events.specs.AfterEvent.{EdgesFollow}
use Rattle.fw_events.specs.Sending.{with_queues, with_logs, sent_to, ChangesEdges, KeepsReadyEdges, PutsOn, LogsOn, SendsOn}

-- ---- lists

cond-same : (b : Bool) (ms : List Message) → cond b ms ms ≡ ms
cond-same true ms = refl
cond-same false ms = refl

one-edge : (flow : Dataflow) (d e : ℕ) (ms : List Message) → sent_to flow (d ∷ []) e ms ≡ cond (d == e) (carried flow e ms) []
one-edge flow d e ms = ap (λ b. cond b (carried flow e ms) []) (or-false (d == e))
  where
    or-false : (b : Bool) → (b || false) ≡ b
    or-false true = refl
    or-false false = refl

-- on these edges and then on one more that is none of them, in words of what is done with the messages on an edge
sent-more : (flow : Dataflow) (es more : List ℕ) (d e : ℕ) (g : List Message → List Message) (ms old : List Message) → g [] ≡ []
    → is_one_of e more ≡ (is_one_of e es || d == e) → is_one_of d es ≡ false
    → with_messages (g (sent_to flow (d ∷ []) e ms)) (with_messages (g (sent_to flow es e ms)) old) ≡ with_messages (g (sent_to flow more e ms)) old
sent-more flow es more d e g ms old none is new =
    ap (λ xs. with_messages (g xs) (with_messages (g (sent_to flow es e ms)) old)) (one-edge flow d e ms)
    ∙ by (is_one_of e es) (d == e) refl refl ∙ ap (λ b. with_messages (g (cond b mine [])) old) (sym is)
  where
    mine : List Message
    mine = carried flow e ms

    by : (a b : Bool) → is_one_of e es ≡ a → (d == e) ≡ b
        → with_messages (g (cond (d == e) mine [])) (with_messages (g (cond (is_one_of e es) mine [])) old) ≡ with_messages (g (cond (is_one_of e es || d == e) mine [])) old
    by true true k j = absurd (false≢true (sym new ∙ ap (λ x. is_one_of x es) (eqb-true d e j) ∙ k))
    by true false k j =
        ap (λ b. with_messages (g (cond b mine [])) (with_messages (g (cond (is_one_of e es) mine [])) old)) j
        ∙ ap (λ b. with_messages (g []) (with_messages (g (cond b mine [])) old)) k
        ∙ ap (λ xs. with_messages xs (with_messages (g mine) old)) none
        ∙ sym (ap (λ b. with_messages (g (cond (b || d == e) mine [])) old) k)
    by false b k j =
        ap (λ c. with_messages (g (cond (d == e) mine [])) (with_messages (g (cond c mine [])) old)) k
        ∙ ap (λ xs. with_messages (g (cond (d == e) mine [])) (with_messages xs old)) none
        ∙ sym (ap (λ c. with_messages (g (cond (c || d == e) mine [])) old) k)

-- one place of a list is changed so
put-one : (flow : Dataflow) (all new : List MessagesState) (d : ℕ) (g : List Message → List Message) (ms : List Message) → g [] ≡ []
    → (on_edge new d).messages ≡ with_messages (g (carried flow d ms)) (on_edge all d).messages → ((e : ℕ) → e ≢ d → on_edge new e ≡ on_edge all e)
    → (e : ℕ) → (on_edge new e).messages ≡ with_messages (g (sent_to flow (d ∷ []) e ms)) (on_edge all e).messages
put-one flow all new d g ms none here others e = elim (cases_eq d e) [
  | inl k ↦ subst (λ i. (on_edge new i).messages ≡ with_messages (g (sent_to flow (d ∷ []) i ms)) (on_edge all i).messages) k
      (here ∙ sym (ap (λ xs. with_messages (g xs) (on_edge all d).messages) (one-edge flow d d ms ∙ cond-true (d == d) (carried flow d ms) [] (eq-eqb d d refl))))
  | inr n ↦
      let none_here : sent_to flow (d ∷ []) e ms ≡ [] = one-edge flow d e ms ∙ cond-false (d == e) (carried flow e ms) [] (false_from_ne_true (d == e) (λ k. n (eqb-true d e k))) in
      ap (λ (m : MessagesState). m.messages) (others e (λ k. n (sym k)))
      ∙ sym (ap (λ xs. with_messages (g xs) (on_edge all e).messages) none_here ∙ ap (λ xs. with_messages xs (on_edge all e).messages) none)
]

-- what a part of the messages is that goes onto an edge
pub part-carries : (flow : Dataflow) (e p : ℕ) (part : Option KeyPart) (ms : List Message) → part ≡ part_of flow p → p ≡ receiver flow e → messages_of_part part ms ≡ carried flow e ms
part-carries flow e p part ms is here = ap (λ x. messages_of_part x ms) (is ∙ ap (part_of flow) here) ∙ sym (carried-is flow e ms)

-- ---- messages by their places

-- the message at a place is the rec there at its stamp, with the one cause
pub message-there : (cause : Stamp) (sent : List (Stamp × Rec)) (i : ℕ) (x : Stamp × Rec) → i < length sent → x ≡ get_or sent i x
    → Some (record { at = x.0; rec = x.1; causes = cause ∷ [] }) ≡ slice_get (caused_by cause sent) i
message-there cause sent i x l is =
    let from : Stamp × Rec → Message = λ y. record { at = y.0; rec = y.1; causes = cause ∷ [] } in
    sym (slice_get-map from sent i ∙ ap (option_map from) (slice_get_read sent (length sent) i x refl l is))

-- ---- one edge

none-or_some : (ms : List Message) → (ms ≡ []) ⊎ (ms ≢ [])
none-or_some [] = inl refl
none-or_some (m ∷ ms) = inr (λ k. absurd (cc))

-- what is put into the queue of an edge is pending on it, and where nothing was and something is now it is among the ready edges
pub puts-on : (old new : Running) (d : ℕ) (ms : List Message) → new ≡ with_queues new.parts.queues new.ready.edges old
    → length new.parts.queues ≡ length old.parts.queues → queue_at new d ≡ with_messages (carried old.flow d ms) (queue_at old d)
    → ((e : ℕ) → e ≢ d → on_edge new.parts.queues e ≡ on_edge old.parts.queues e)
    → (queue_at old d ≡ [] → queue_at new d ≢ [] → IsPut d old.ready.edges new.ready.edges)
    → (queue_at old d ≢ [] → new.ready.edges ≡ old.ready.edges) → (queue_at new d ≡ [] → new.ready.edges ≡ old.ready.edges)
    → PutsOn d ms old new
puts-on old new d ms is each here others empty full none_now = record {
  each = each;
  queues = put-one old.flow old.parts.queues new.parts.queues d (λ xs. xs) ms refl here others;
  ready = λ all e c.
      let there : e < length old.flow.edges = subst (λ f. e < length f.edges) (ap (λ (r : Running). r.flow) is) c.there in
      let live : is_down old (receiver old.flow e) ≡ false = sym (ap (λ (r : Running). is_down r (receiver r.flow e)) is) ∙ c.live in
      elim (cases_eq d e) [
        | inl k ↦ elim (none-or_some (queue_at old d)) [
          | inl none ↦ subst (Contains new.ready.edges) k (empty none (λ now. c.some (ap (queue_at new) (sym k) ∙ now))).there
          | inr some ↦ subst (λ es. Contains es e) (sym (full some))
              (all e (record { there = there; live = live; some = λ none. some (ap (queue_at old) k ∙ none) }))
        ]
        | inr n ↦
            let same : queue_at new e ≡ queue_at old e = ap (λ (m : MessagesState). m.messages) (others e (λ k. n (sym k))) in
            let was = all e (record { there = there; live = live; some = λ none. c.some (same ∙ none) }) in
            elim (none-or_some (queue_at old d)) [
              | inl none ↦ elim (none-or_some (queue_at new d)) [
                | inl now ↦ subst (λ es. Contains es e) (sym (none_now now)) was
                | inr some ↦ (empty none some).stays e was
              ]
              | inr some ↦ subst (λ es. Contains es e) (sym (full some)) was
            ]
      ];
}

-- what is kept with these queues has these queues
pub queues-kept : (old new : Running) (queues : List MessagesState) → new ≡ with_queues queues new.ready.edges old → new ≡ with_queues new.parts.queues new.ready.edges old
queues-kept old new queues is = is ∙ ap (λ qs. with_queues qs new.ready.edges old) (sym (ap (λ (r : Running). r.parts.queues) is))

-- so it is where it was asked before whether nothing was pending
pub puts-noted : (old new : Running) (d : ℕ) (ms : List Message) (queues : List MessagesState) (none_before : Bool) → new ≡ with_queues queues new.ready.edges old
    → length queues ≡ length old.parts.queues → (on_edge queues d).messages ≡ with_messages (carried old.flow d ms) (queue_at old d)
    → ((e : ℕ) → e ≢ d → on_edge queues e ≡ on_edge old.parts.queues e) → IsTrue none_before ↔ (queue_at old d ≡ [])
    → (none_before ≡ true → (on_edge queues d).messages ≢ [] → IsPut d old.ready.edges new.ready.edges)
    → (none_before ≡ false → new.ready.edges ≡ old.ready.edges) → ((on_edge queues d).messages ≡ [] → new.ready.edges ≡ old.ready.edges)
    → PutsOn d ms old new
puts-noted old new d ms queues none_before is each here others before put stays none_now =
    let kept : new.parts.queues ≡ queues = ap (λ (r : Running). r.parts.queues) is in
    let now : queue_at new d ≡ (on_edge queues d).messages = ap (λ qs. (on_edge qs d).messages) kept in
    puts-on old new d ms (queues-kept old new queues is) (ap length kept ∙ each) (now ∙ here)
    (λ e n. ap (λ qs. on_edge qs e) kept ∙ others e n)
    (λ none some. put (before.1 none) (λ gone. some (now ∙ gone)))
    (λ some. stays (false_from_ne_true none_before (λ h. some (before.0 h))))
    (λ none. none_now (sym now ∙ none))

-- what is put into the log of an edge is logged on it
pub logs-on : (old new : Running) (d : ℕ) (ms : List Message) → length new.parts.logs ≡ length old.parts.logs
    → log_at new d ≡ with_messages (messages_outside (inside (front_of old.parts.low (receiver old.flow d))) (carried old.flow d ms)) (log_at old d)
    → ((e : ℕ) → e ≢ d → on_edge new.parts.logs e ≡ on_edge old.parts.logs e) → LogsOn d ms old new
logs-on old new d ms each here others = record {
  each = each;
  logs = λ e. by e (cases_eq d e);
}
  where
    outside : ℕ → List Message → List Message
    outside e = messages_outside (inside (front_of old.parts.low (receiver old.flow e)))

    by : (e : ℕ) → (d ≡ e) ⊎ (d ≢ e) → log_at new e ≡ with_messages (outside e (sent_to old.flow (d ∷ []) e ms)) (log_at old e)
    by e (inl k) = subst (λ x. log_at new x ≡ with_messages (outside x (sent_to old.flow (d ∷ []) x ms)) (log_at old x)) k
        (put-one old.flow old.parts.logs new.parts.logs d (outside d) ms refl here others d)
    by e (inr n) =
        let none_here : sent_to old.flow (d ∷ []) e ms ≡ [] = one-edge old.flow d e ms ∙ cond-false (d == e) (carried old.flow e ms) [] (false_from_ne_true (d == e) (λ k. n (eqb-true d e k))) in
        ap (λ (m : MessagesState). m.messages) (others e (λ k. n (sym k)))
        ∙ sym (ap (λ xs. with_messages (outside e xs) (log_at old e)) none_here)

-- ---- changes

changes-flow : (old new : Running) → ChangesEdges old new → new.flow ≡ old.flow
changes-flow old new c = ap (λ (r : Running). r.flow) c

-- nothing is changed
pub changes-none : (running : Running) → ChangesEdges running running
changes-none running = refl

-- one change after the other is one
pub changes-twice : (old mid new : Running) → ChangesEdges old mid → ChangesEdges mid new → ChangesEdges old new
changes-twice old mid new c d = d ∙ ap (λ r. with_queues new.parts.queues new.ready.edges (with_logs new.parts.logs r)) c

-- nothing is sent yet
pub sends-none : (again : Bool) (ms : List Message) (running : Running) → SendsOn [] again ms running running
sends-none again ms running = record {
  queues_each = refl;
  logs_each = refl;
  queues = λ e k. refl;
  down = λ e k. refl;
  logs = λ k e. refl;
  logs_stay = λ k e. refl;
  ready = λ all. all;
}

-- no message is sent
pub sends-nothing : (es : List ℕ) (again : Bool) (running : Running) → SendsOn es again [] running running
sends-nothing es again running = record {
  queues_each = refl;
  logs_each = refl;
  queues = λ e k. ap (λ ms. with_messages ms (queue_at running e)) (sym (none e));
  down = λ e k. refl;
  logs = λ k e. ap (λ ms. with_messages (messages_outside (inside (front_of running.parts.low (receiver running.flow e))) ms) (log_at running e)) (sym (none e));
  logs_stay = λ k e. refl;
  ready = λ all. all;
}
  where
    none : (e : ℕ) → sent_to running.flow es e [] ≡ []
    none e = ap (λ ms. cond (is_one_of e es) ms []) (carried-none running.flow e) ∙ cond-same (is_one_of e es) []

-- these are sent on one edge more, that is none of those before
pub sends-more : (es more : List ℕ) (d : ℕ) (again : Bool) (ms : List Message) (old mid new : Running)
    → ((e : ℕ) → is_one_of e more ≡ (is_one_of e es || d == e)) → is_one_of d es ≡ false
    → ChangesEdges old mid → SendsOn es again ms old mid → SendsOn (d ∷ []) again ms mid new → SendsOn more again ms old new
sends-more es more d again ms old mid new is fresh c a b =
    let down : (e : ℕ) → is_down mid (receiver mid.flow e) ≡ is_down old (receiver old.flow e) = λ e. ap (λ (r : Running). is_down r (receiver r.flow e)) c in
    let low : (e : ℕ) → front_of mid.parts.low (receiver mid.flow e) ≡ front_of old.parts.low (receiver old.flow e) =
    λ e. ap (λ (r : Running). front_of r.parts.low (receiver r.flow e)) c in
    let flow : mid.flow ≡ old.flow = changes-flow old mid c in
    record {
      queues_each = b.queues_each ∙ a.queues_each;
      logs_each = b.logs_each ∙ a.logs_each;
      queues = λ e k. b.queues e (down e ∙ k) ∙ ap (λ f. with_messages (sent_to f (d ∷ []) e ms) (queue_at mid e)) flow
          ∙ ap (with_messages (sent_to old.flow (d ∷ []) e ms)) (a.queues e k)
          ∙ sent-more old.flow es more d e (λ xs. xs) ms (queue_at old e) refl (is e) fresh;
      down = λ e k. b.down e (down e ∙ k) ∙ a.down e k;
      logs = λ k e.
          let outside : List Message → List Message = messages_outside (inside (front_of old.parts.low (receiver old.flow e))) in
          b.logs k e ∙ ap (λ f. with_messages (messages_outside (inside f) (sent_to mid.flow (d ∷ []) e ms)) (log_at mid e)) (low e)
          ∙ ap (λ f. with_messages (outside (sent_to f (d ∷ []) e ms)) (log_at mid e)) flow
          ∙ ap (with_messages (outside (sent_to old.flow (d ∷ []) e ms))) (a.logs k e)
          ∙ sent-more old.flow es more d e outside ms (log_at old e) refl (is e) fresh;
      logs_stay = λ k e. b.logs_stay k e ∙ a.logs_stay k e;
      ready = λ all. b.ready (a.ready all);
    }

-- what is put on one edge and then logged on it changes nothing but edges
pub changes-one : (old mid new : Running) → mid ≡ with_queues mid.parts.queues mid.ready.edges old → new ≡ with_logs new.parts.logs mid → ChangesEdges old new
changes-one old mid new mid_is new_is =
    new_is ∙ ap (with_logs new.parts.logs) mid_is ∙ ap (λ (r : Running). with_queues r.parts.queues r.ready.edges (with_logs new.parts.logs old)) (sym new_is)

-- where a receiver is failed nothing is pending for it, and else what is put is; what is sent is logged where it may have to be again
pub sends-one : (d : ℕ) (again : Bool) (ms : List Message) (old mid new : Running)
    → mid ≡ with_queues mid.parts.queues mid.ready.edges old → new ≡ with_logs new.parts.logs mid
    → (is_down old (receiver old.flow d) ≡ true → mid ≡ old) → (is_down old (receiver old.flow d) ≡ false → PutsOn d ms old mid)
    → (again ≡ true → LogsOn d ms mid new) → (again ≡ false → new ≡ mid) → SendsOn (d ∷ []) again ms old new
sends-one d again ms old mid new mid_is new_is down live logs stay = sends
  where
    queues_are : (e : ℕ) → queue_at new e ≡ queue_at mid e
    queues_are e = ap (λ (r : Running). queue_at r e) new_is

    other : (e : ℕ) → is_down old (receiver old.flow d) ≡ true → is_down old (receiver old.flow e) ≡ false → sent_to old.flow (d ∷ []) e ms ≡ []
    other e k n = one-edge old.flow d e ms ∙ cond-false (d == e) (carried old.flow e ms) []
        (false_from_ne_true (d == e) (λ same. false≢true (sym n ∙ ap (λ x. is_down old (receiver old.flow x)) (sym (eqb-true d e same)) ∙ k)))

    here : (e : ℕ) → is_down old (receiver old.flow d) ≡ false → is_down old (receiver old.flow e) ≡ true → sent_to old.flow (d ∷ []) e ms ≡ []
    here e k n = one-edge old.flow d e ms ∙ cond-false (d == e) (carried old.flow e ms) []
        (false_from_ne_true (d == e) (λ same. false≢true (sym k ∙ ap (λ x. is_down old (receiver old.flow x)) (eqb-true d e same) ∙ n)))

    pending : (b : Bool) → is_down old (receiver old.flow d) ≡ b → (e : ℕ) → is_down old (receiver old.flow e) ≡ false
        → queue_at mid e ≡ with_messages (sent_to old.flow (d ∷ []) e ms) (queue_at old e)
    pending true k e n = ap (λ (r : Running). queue_at r e) (down k) ∙ sym (ap (λ xs. with_messages xs (queue_at old e)) (other e k n))
    pending false k e n = (live k).queues e

    idle : (b : Bool) → is_down old (receiver old.flow d) ≡ b → (e : ℕ) → is_down old (receiver old.flow e) ≡ true → queue_at mid e ≡ queue_at old e
    idle true k e n = ap (λ (r : Running). queue_at r e) (down k)
    idle false k e n = (live k).queues e ∙ ap (λ xs. with_messages xs (queue_at old e)) (here e k n)

    each : (b : Bool) → is_down old (receiver old.flow d) ≡ b → length mid.parts.queues ≡ length old.parts.queues
    each true k = ap (λ (r : Running). length r.parts.queues) (down k)
    each false k = (live k).each

    logged : (b : Bool) → again ≡ b → length new.parts.logs ≡ length mid.parts.logs
    logged true k = (logs k).each
    logged false k = ap (λ (r : Running). length r.parts.logs) (stay k)

    readies : (b : Bool) → is_down old (receiver old.flow d) ≡ b → KeepsReadyEdges old mid
    readies true k = subst (KeepsReadyEdges old) (sym (down k)) (λ all. all)
    readies false k = (live k).ready

    after : KeepsReadyEdges mid new
    after = subst (KeepsReadyEdges mid) (sym new_is) (λ all e c. all e (record { there = c.there; live = c.live; some = c.some }))

    sends : SendsOn (d ∷ []) again ms old new
    sends = record {
      queues_each = ap (λ (r : Running). length r.parts.queues) new_is ∙ each (is_down old (receiver old.flow d)) refl;
      logs_each = logged again refl ∙ ap (λ (r : Running). length r.parts.logs) mid_is;
      queues = λ e n. queues_are e ∙ pending (is_down old (receiver old.flow d)) refl e n;
      down = λ e n. queues_are e ∙ idle (is_down old (receiver old.flow d)) refl e n;
      logs = λ k e. (logs k).logs e
          ∙ ap (λ (r : Running). with_messages (messages_outside (inside (front_of r.parts.low (receiver r.flow e))) (sent_to r.flow (d ∷ []) e ms)) (log_at r e)) mid_is;
      logs_stay = λ k e. ap (λ (r : Running). log_at r e) (stay k) ∙ ap (λ (r : Running). log_at r e) mid_is;
      ready = λ all. after (readies (is_down old (receiver old.flow d)) refl all);
    }

-- so it is where logging went well
pub sends-one_ok : {T E : Type 0} (result : Result T E) (d p : ℕ) (ms : List Message) (old mid new : Running)
    → mid ≡ with_queues mid.parts.queues mid.ready.edges old → new ≡ with_logs new.parts.logs mid
    → (is_down old (receiver old.flow d) ≡ true → mid ≡ old) → (is_down old (receiver old.flow d) ≡ false → PutsOn d ms old mid)
    → (can_resend (policy_of mid.flow p) ≡ true → OnOk result (LogsOn d ms mid new)) → (can_resend (policy_of mid.flow p) ≡ false → new ≡ mid)
    → OnOk result (SendsOn (d ∷ []) (can_resend (policy_of old.flow p)) ms old new)
sends-one_ok (Ok x) d p ms old mid new mid_is new_is down live logs stay =
    subst (λ (f : Dataflow). SendsOn (d ∷ []) (can_resend (policy_of f p)) ms old new) (ap (λ (r : Running). r.flow) mid_is)
    (sends-one d (can_resend (policy_of mid.flow p)) ms old mid new mid_is new_is down live logs stay)
sends-one_ok (Err e) d p ms old mid new mid_is new_is down live logs stay = tt

-- ---- out-edges

get_or-any : (es : List ℕ) (i a b : ℕ) → i < length es → get_or es i a ≡ get_or es i b
get_or-any [] i a b l = absurd (omega arith)
get_or-any (x ∷ es) zero a b l = refl
get_or-any (x ∷ es) (suc i) a b l = get_or-any es i a b (omega arith)

-- the out-edge at a place is sent to after those before it
pub sends-next : (flow : Dataflow) (p i d : ℕ) (again : Bool) (ms : List Message) (old mid new : Running)
    → i < length (out_edges flow p) → d ≡ get_or (out_edges flow p) i d
    → ChangesEdges old mid → SendsOn (take i (out_edges flow p)) again ms old mid → SendsOn (d ∷ []) again ms mid new
    → SendsOn (take (suc i) (out_edges flow p)) again ms old new
sends-next flow p i d again ms old mid new l is c a b =
    let es = out_edges flow p in
    sends-more (take i es) (take (suc i) es) d again ms old mid new
    (λ e. out_edge-more es i e l ∙ ap (λ x. is_one_of e (take i es) || x == e) (get_or-any es i e d l ∙ sym is))
    (out_edge-new flow p i d l is) c a b

-- what is sent on the out-edges of an event's node is what is put on each edge
sent-put : (flow : Dataflow) (v : Event) (sent : List Message) (e : ℕ) → e < length flow.edges
    → sent_to flow (out_edges flow (event_node flow v)) e sent ≡ put_on flow e v sent
sent-put flow v sent e l =
    ap (λ b. cond b (carried flow e sent) []) (out_edge-all flow (event_node flow v) e l ∙ eqb-sym (sender flow e) (event_node flow v))

-- the edges follow an event whose message is pending no more, and at which its node then sends these
pub edges-follow : (v : Event) (sent : List Message) (old mid new : Running) → mid.flow ≡ old.flow → mid.parts.low ≡ old.parts.low
    → mid.failed.items ≡ old.failed.items
    → ((e : ℕ) → is_down old (receiver old.flow e) ≡ false → queue_at mid e ≡ messages_less (queue_at old e) (message_on e v))
    → ((e : ℕ) → is_down old (receiver old.flow e) ≡ true → queue_at mid e ≡ queue_at old e)
    → ((e : ℕ) → log_at mid e ≡ log_at old e)
    → SendsOn (out_edges old.flow (event_node old.flow v)) (can_resend (policy_of old.flow (event_node old.flow v))) sent mid new
    → EdgesFollow old.flow v sent old new
edges-follow v sent old mid new flow low failed live idle logs s =
    let down : (e : ℕ) → is_down mid (receiver mid.flow e) ≡ is_down old (receiver old.flow e) = λ e.
    ap (λ bs. slice_index_or bs (receiver mid.flow e) false) failed ∙ ap (λ f. is_down old (receiver f e)) flow in
    let outside : ℕ → List Message → List Message = λ e. messages_outside (inside (front_of old.parts.low (receiver old.flow e))) in
    record {
      queues = λ e l k. s.queues e (down e ∙ k)
          ∙ ap (λ f. with_messages (sent_to f (out_edges old.flow (event_node old.flow v)) e sent) (queue_at mid e)) flow
          ∙ ap (λ ms. with_messages ms (queue_at mid e)) (sent-put old.flow v sent e l)
          ∙ ap (with_messages (put_on old.flow e v sent)) (live e k);
      down = λ e k. s.down e (down e ∙ k) ∙ idle e k;
      logs = λ k e l. s.logs k e
          ∙ ap (λ g. with_messages (messages_outside (inside (front_of mid.parts.low (receiver mid.flow e))) (sent_to g (out_edges old.flow (event_node old.flow v)) e sent)) (log_at mid e)) flow
          ∙ ap (λ f. with_messages (messages_outside (inside f) (sent_to old.flow (out_edges old.flow (event_node old.flow v)) e sent)) (log_at mid e))
          (ap (λ fs. front_of fs (receiver mid.flow e)) low ∙ ap (λ f. front_of old.parts.low (receiver f e)) flow)
          ∙ ap (λ ms. with_messages (outside e ms) (log_at mid e)) (sent-put old.flow v sent e l)
          ∙ ap (with_messages (outside e (put_on old.flow e v sent))) (logs e);
      logs_stay = λ k e. s.logs_stay k e ∙ logs e;
    }
