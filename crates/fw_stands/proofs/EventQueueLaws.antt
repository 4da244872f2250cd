-- What becomes of queues and logs as events come.
use Rattle.std.proofs.Common.{◌≡◌, ℕ, ◌≤◌, Bool, true, not, ◌&&◌, ◌==◌, List, [], ◌∷◌, ◌++◌, length, refl, sym, ap, subst, ◌∙◌, inl, inr, arith}
use Rattle.std.specs.Prelude.{filter}
use Rattle.std.specs.List.{AllByRecursion}
use Rattle.std.proofs.lemmas.Bool.{cases_Bool, cond-true, cond-false, cond_both, eqb-true}
use Rattle.std.proofs.lemmas.List.Elements.{filter-append}
use Rattle.fw_lemmas.proofs.Each.{each-weaker}
use Rattle.fw_lemmas.proofs.Filters.{filter-same_on}
use Rattle.fw_time.specs.Stamp.{in_domain}
use Rattle.fw_frontier.specs.Front.{Front, inside, frontier_of}
use Rattle.fw_flow.specs.declared.event.Event.{Event}
use Rattle.fw_flow.specs.declared.event.Message.{Message}
use Rattle.fw_flow.specs.Dataflow.{System, Dataflow, sender, receiver, bounds_of, bounds_of_domain, bounds_of_edge, HasEpochs}
use Rattle.fw_flow.specs.Message.{messages_less}
use Rattle.fw_flow.specs.NodeFunction.{event_node, sends}
use Rattle.fw_flow.specs.Projection.{events_at}
use Rattle.fw_flow.specs.WellFormed.{IsWellFormed, IsWellFormedSystem}
use Rattle.fw_flow.proofs.MessageLaws.{less-none}
use Rattle.fw_model.specs.Carried.{carried}
use Rattle.fw_model.specs.Filtering.{messages_outside}
use Rattle.fw_model.specs.History.{delivered_messages, message_on, pending_messages, sent_messages, IsLegal, IsEnabled}
use Rattle.fw_model.specs.LawsOfPending.{sent_on}
use Rattle.fw_model.specs.Machine.{events, family_of, front_of, is_failed, Machine}
use Rattle.fw_model.specs.SortedMessages.{sorted_messages, with_messages, with_message}
use Rattle.fw_model.proofs.CarriedLaws.{carried-none, sent-more}
use Rattle.fw_model.proofs.BothLaws.{pending-follows}
use Rattle.fw_model.proofs.CompleteLaws.{past_edges-idle}
use Rattle.fw_model.proofs.DomainLaws.{has_epochs}
use Rattle.fw_model.proofs.LegalLaws.{edge_domains, legal_messages-in_domain}
use Rattle.fw_model.proofs.SentLaws.{copy}
use Rattle.fw_model.proofs.SortedLaws.{IsAscendingMessages, ascending-sorted_messages, ascending-less, ascending-with_messages, same_from_copies, sorted_messages-append, sorted_messages-filter, sorted_messages-weigh, with_messages-weigh, sorted_messages-carried}
use Rattle.fw_model.proofs.WeightLaws.{weigh, weigh-append}
use Rattle.fw_model.proofs.NothingInsideLaws.{idle-sent}
use Rattle.fw_model.specs.Reached.{IsReached}
use Rattle.fw_stands.specs.Events.{AreSent, put_on, LogFollows, QueueFollows}
use Rattle.fw_stands.specs.Parts.{is_logging, queued}
use Rattle.fw_stands.proofs.EventNextLaws.{legal-reached}

-- ---- in whatever order messages are put in

ascending-from_sorted : (ms : List Message) → sorted_messages ms ≡ ms → IsAscendingMessages ms
ascending-from_sorted ms e = subst IsAscendingMessages e (ascending-sorted_messages ms)

-- what weighs the same is put in with the same outcome
put-same : (xs ys old : List Message) → ((q : Message) → weigh (copy q) xs ≡ weigh (copy q) ys) → IsAscendingMessages old
    → with_messages xs old ≡ with_messages ys old
put-same xs ys old w a =
    same_from_copies (with_messages xs old) (with_messages ys old) (ascending-with_messages xs old a) (ascending-with_messages ys old a)
    (λ q.
    let x = with_messages-weigh (copy q) xs old in
    let y = with_messages-weigh (copy q) ys old in
    let z = w q in
    omega arith)

-- what is in order the same is put in with the same outcome
pub put-sorted : (xs ys old : List Message) → sorted_messages xs ≡ sorted_messages ys → IsAscendingMessages old
    → with_messages xs old ≡ with_messages ys old
put-sorted xs ys old e a = put-same xs ys old (λ q. sym (sorted_messages-weigh (copy q) xs) ∙ ap (weigh (copy q)) e ∙ sorted_messages-weigh (copy q) ys) a

append-one : (ms : List Message) (m : Message) (q : Message) → weigh (copy q) (ms ++ m ∷ []) ≡ weigh (copy q) (m ∷ ms)
unfolding weigh
append-one ms m q = let a = weigh-append (copy q) ms (m ∷ []) in omega arith

-- into messages in order, one more is put after the others as before them
pub last-put_in : (ms : List Message) (m : Message) (old : List Message) → sorted_messages old ≡ old
    → with_messages (ms ++ m ∷ []) old ≡ with_message m (with_messages ms old)
last-put_in ms m old e = put-same (ms ++ m ∷ []) (m ∷ ms) old (append-one ms m) (ascending-from_sorted old e)

-- ---- queues

-- what comes to an edge is what is sent there
put_on-sent : (sys : System) (h : List Event) (v : Event) (sent : List Message) → AreSent sys h v sent → (e : ℕ)
    → sorted_messages (put_on sys.flow e v sent) ≡ sorted_messages (sent_on sys h e v)
put_on-sent sys h v sent s e = elim (cases_Bool (event_node sys.flow v == sender sys.flow e)) [
  | inl k ↦
      let q = sender sys.flow e in
      let p = event_node sys.flow v in
      let new : ℕ → List Message = λ n. sends sys n (events_at sys.flow n h) v in
      ap sorted_messages (cond-true (p == q) (carried sys.flow e sent) [] k)
      ∙ sorted_messages-carried sys.flow e sent
      ∙ ap (carried sys.flow e) s
      ∙ sym (sorted_messages-carried sys.flow e (new p))
      ∙ ap (λ n. sorted_messages (carried sys.flow e (new n))) (eqb-true p q k)
      ∙ sym (ap sorted_messages (cond-true (p == q) (carried sys.flow e (new q)) [] k))
  | inr k ↦
      let q = sender sys.flow e in
      let p = event_node sys.flow v in
      ap sorted_messages (cond-false (p == q) (carried sys.flow e sent) [] k)
      ∙ sym (ap sorted_messages (cond-false (p == q) (carried sys.flow e (sends sys q (events_at sys.flow q h) v)) [] k))
]

-- in each reached state the queues follow each event that may come next
pub queues-follow : (sys : System) (state : Machine) → IsWellFormedSystem sys → IsReached sys state
    → (v : Event) → IsEnabled sys (events state.history) v → (sent : List Message) → AreSent sys (events state.history) v sent
    → (e : ℕ) → QueueFollows sys state v sent e
queues-follow sys state w r v k sent s e =
    let h = events state.history in
    let l = legal-reached sys state w r in
    let f = is_failed state (receiver sys.flow e) in
    let now = sorted_messages (pending_messages sys (v ∷ h) e) in
    let old = sorted_messages (pending_messages sys h e) in
    record {
      live = λ n.
          cond-false f [] now n ∙ pending-follows sys h v (k, l) e
          ∙ put-sorted (sent_on sys h e v) (put_on sys.flow e v sent) (messages_less old (message_on e v)) (sym (put_on-sent sys h v sent s e))
          (ascending-less old (message_on e v) (ascending-sorted_messages (pending_messages sys h e)))
          ∙ ap (λ q. with_messages (put_on sys.flow e v sent) (messages_less q (message_on e v))) (sym (cond-false f [] old n));
      failed = λ n. cond-true f [] now n;
    }

-- ---- no edge

pub none-pending_past : (sys : System) (h : List Event) (e : ℕ) → length sys.flow.edges ≤ e → pending_messages sys h e ≡ []
none-pending_past sys h e past =
    let q = sender sys.flow e in
    ap (λ ms. messages_less (carried sys.flow e ms) (delivered_messages h e)) (idle-sent sys q (past_edges-idle sys.flow e past) (events_at sys.flow q h))
    ∙ ap (λ ms. messages_less ms (delivered_messages h e)) (carried-none sys.flow e) ∙ less-none (delivered_messages h e)

-- nothing is queued where no edge is declared
pub nothing-queued_past : (sys : System) (state : Machine) (e : ℕ) → length sys.flow.edges ≤ e → queued sys state e ≡ []
nothing-queued_past sys state e past =
    cond_both (is_failed state (receiver sys.flow e)) [] (sorted_messages (pending_messages sys (events state.history) e)) (λ ms. ms ≡ [])
    (λ f. refl) (λ f. ap sorted_messages (none-pending_past sys (events state.history) e past))

-- ---- logs

each-first : (P : Message → Type 0) (xs ys : List Message) → AllByRecursion P (xs ++ ys) → AllByRecursion P xs
each-first P [] ys a = tt
each-first P (x ∷ xs) ys a = (a.0, each-first P xs ys a.1)

-- what is sent is at stamps of the receiver's domain
sent-in_domain : (sys : System) (h : List Event) (v : Event) → IsWellFormed sys.flow → HasEpochs sys → IsLegal sys (v ∷ h) → (e : ℕ)
    → AllByRecursion (λ (m : Message). in_domain (bounds_of sys.flow (receiver sys.flow e)) m.at ≡ true) (sent_on sys h e v)
unfolding bounds_of
sent-in_domain sys h v w b l e =
    let P : Message → Type 0 = λ m. in_domain (bounds_of_edge sys.flow e) m.at ≡ true in
    each-weaker P (λ m. in_domain (bounds_of sys.flow (receiver sys.flow e)) m.at ≡ true) (sent_on sys h e v)
    (λ m i. sym (ap (λ d. in_domain (bounds_of_domain sys.flow d) m.at) (edge_domains sys.flow w e)) ∙ i)
    (each-first P (sent_on sys h e v) (sent_messages sys h e) (subst (AllByRecursion P) (sent-more sys h v e) (legal_messages-in_domain sys (v ∷ h) w b l e)))

-- what is sent outside a front is what is sent outside the frontier
outside-alike : (flow : Dataflow) (p : ℕ) (f : Front) (ms : List Message) → AllByRecursion (λ (m : Message). in_domain (bounds_of flow p) m.at ≡ true) ms
    → messages_outside (frontier_of (bounds_of flow p) f) ms ≡ messages_outside (inside f) ms
outside-alike flow p f ms a =
    filter-same_on (λ (m : Message). not (frontier_of (bounds_of flow p) f m.at)) (λ m. not (inside f m.at)) ms
    (each-weaker (λ (m : Message). in_domain (bounds_of flow p) m.at ≡ true) (λ m. not (frontier_of (bounds_of flow p) f m.at) ≡ not (inside f m.at)) ms
    (λ m i. ap (λ b. not (b && inside f m.at)) i) a)

-- what is sent outside, put into what was sent outside before
outside-more : (sys : System) (h : List Event) (v : Event) → IsWellFormed sys.flow → HasEpochs sys → IsLegal sys (v ∷ h) → (sent : List Message) → AreSent sys h v sent
    → (e : ℕ) (f : Front) → sorted_messages (messages_outside (frontier_of (bounds_of sys.flow (receiver sys.flow e)) f) (sent_messages sys (v ∷ h) e))
    ≡ with_messages (messages_outside (inside f) (put_on sys.flow e v sent))
    (sorted_messages (messages_outside (frontier_of (bounds_of sys.flow (receiver sys.flow e)) f) (sent_messages sys h e)))
outside-more sys h v w b l sent s e f =
    let p = receiver sys.flow e in
    let out : Message → Bool = λ m. not (frontier_of (bounds_of sys.flow p) f m.at) in
    let past : Message → Bool = λ m. not (inside f m.at) in
    let new = sent_on sys h e v in
    let put = put_on sys.flow e v sent in
    let old = filter out (sent_messages sys h e) in
    ap (λ ms. sorted_messages (filter out ms)) (sent-more sys h v e)
    ∙ ap sorted_messages (filter-append out new (sent_messages sys h e))
    ∙ sorted_messages-append (filter out new) old
    ∙ ap (λ ms. with_messages ms (sorted_messages old)) (outside-alike sys.flow p f new (sent-in_domain sys h v w b l e))
    ∙ put-sorted (filter past new) (filter past put) (sorted_messages old)
    (sorted_messages-filter past new ∙ ap (filter past) (sym (put_on-sent sys h v sent s e)) ∙ sym (sorted_messages-filter past put))
    (ascending-sorted_messages old)

-- in each reached state the logs follow each event that may come next
pub logs-follow : (sys : System) (state : Machine) → IsWellFormedSystem sys → IsReached sys state
    → (v : Event) → IsEnabled sys (events state.history) v → (sent : List Message) → AreSent sys (events state.history) v sent
    → (e : ℕ) → LogFollows sys state v sent e
logs-follow sys state w r v k sent s e =
    let h = events state.history in
    let l = legal-reached sys state w r in
    let p = receiver sys.flow e in
    let f = front_of state.low p in
    let old = sorted_messages (messages_outside (family_of sys.flow state.low p) (sent_messages sys h e)) in
    let now = sorted_messages (messages_outside (family_of sys.flow state.low p) (sent_messages sys (v ∷ h) e)) in
    record {
      logging = λ n.
          cond-true (is_logging sys state e) now [] n ∙ outside-more sys h v w.flow (has_epochs sys w) (k, l) sent s e f
          ∙ ap (with_messages (messages_outside (inside f) (put_on sys.flow e v sent))) (sym (cond-true (is_logging sys state e) old [] n));
      not_logging = λ n. cond-false (is_logging sys state e) now [] n;
    }
