-- Which tables and logs nodes have after a recovery from chains of checkpoints.
use Rattle.std.proofs.Common.{◌≡◌, ℕ, ◌<◌, ◌+◌, Bool, true, false, not, cond, List, [], ◌∷◌, ◌++◌, Some, refl, sym, ap, subst, ◌∙◌, inl, inr, arith, length, append_assoc}
use Rattle.std.specs.Prelude.{filter}
use Rattle.std.specs.List.{AllByRecursion}
use Rattle.std.proofs.lemmas.Bool.{cases_Bool, cond-false, cond-true}
use Rattle.std.proofs.lemmas.List.{append-nil}
use Rattle.std.proofs.lemmas.List.Elements.{filter-append}
use Rattle.fw_lemmas.proofs.Each.{each-one, each-kept}
use Rattle.fw_lemmas.proofs.Filters.{filter-inner}
use Rattle.fw_time.specs.Stamp.{in_domain}
use Rattle.fw_frontier.specs.Frontier.{Frontier, Within}
use Rattle.fw_frontier.specs.Front.{Front, inside}
use Rattle.fw_flow.specs.declared.choice.Choice.{Choice}
use Rattle.fw_flow.specs.declared.choice.Cut.TheVariants.{At}
use Rattle.fw_flow.specs.declared.event.Event.{Event}
use Rattle.fw_flow.specs.declared.event.Message.{Message}
use Rattle.fw_flow.specs.declared.restoring.Restoring.TheVariants.{Checkpoints}
use Rattle.fw_flow.specs.Dataflow.{System, kind_of, policy_of, sender, receiver, bounds_of, node_frontier}
use Rattle.fw_flow.specs.NodeFunction.{event_stamp}
use Rattle.fw_flow.specs.Projection.{all_inside, events_at}
use Rattle.fw_flow.specs.Restoring.{can_resend, way_of}
use Rattle.fw_model.specs.Choice.{cut_of}
use Rattle.fw_model.specs.Filtering.{events_inside, messages_from, messages_outside}
use Rattle.fw_model.specs.History.{sent_messages}
use Rattle.fw_model.specs.Machine.{Machine, events, front_of}
use Rattle.fw_model.specs.Resending.{at_receiver}
use Rattle.fw_model.specs.SortedMessages.{sorted_messages}
use Rattle.fw_model.specs.Steps.{recovered_state}
use Rattle.fw_model.proofs.PhiLaws.{all_inside-monotone}
use Rattle.fw_model.proofs.SentLaws.{copy}
use Rattle.fw_model.proofs.SortedLaws.{same_sorted_messages, sorted_messages-filter, sorted_messages-weigh}
use Rattle.fw_model.proofs.WeightLaws.{weigh, weigh-append}
use Rattle.fw_node.specs.declared.node.Node.{Node}
use Rattle.fw_node.specs.ChainOf.{last_front, HaveChanges, IsOfChain}
use Rattle.fw_node.specs.StateOf.{IsStateOf, IsStateSince}
use Rattle.fw_node.specs.TableOf.{IsTableOf}
use Rattle.fw_record.specs.declared.record.Checkpoint.{Checkpoint}
use Rattle.fw_keep.specs.Chains.{logged_in_all, states_of}
use Rattle.fw_record.specs.Log.{logged_on}
use Rattle.fw_stands.specs.Chains.{EachIsNext, IsChainFor}
use Rattle.fw_stands.specs.Parts.{IsTableIn, logged}
use Rattle.fw_stands.specs.Recovered.{Recovers}
use Rattle.fw_stands.specs.Written.{messages_since, events_within}
use Rattle.fw_stands.proofs.RecoveredFacts.{knows, legal-at, outside-front}
use Rattle.fw_stands.proofs.RecoveredLogs.{logged-none, logged-cut, outside-both}
use Rattle.fw_stands.proofs.RecoveredTables.{are-inside, inner-checkpoints, tables-cut, within-at}

-- ---- messages of two parts, in order

alike : (w : Message → ℕ) (xs us : List Message) → sorted_messages xs ≡ sorted_messages us → weigh w xs ≡ weigh w us
alike w xs us a = sym (sorted_messages-weigh w xs) ∙ ap (weigh w) a ∙ sorted_messages-weigh w us

-- two lists together are in order what two others are that are the same in order
pub sorted-both : (xs ys us vs : List Message) → sorted_messages xs ≡ sorted_messages us → sorted_messages ys ≡ sorted_messages vs
    → sorted_messages (xs ++ ys) ≡ sorted_messages (us ++ vs)
sorted-both xs ys us vs a b =
    same_sorted_messages (xs ++ ys) (us ++ vs)
    (λ q.
    weigh-append (copy q) xs ys ∙ ap (λ n. n + weigh (copy q) ys) (alike (copy q) xs us a)
    ∙ ap (λ n. weigh (copy q) us + n) (alike (copy q) ys vs b) ∙ sym (weigh-append (copy q) us vs))

parts-weigh : (w : Message → ℕ) (test : Message → Bool) (xs : List Message) → weigh w (filter test xs) + weigh w (filter (λ m. not (test m)) xs) ≡ weigh w xs
unfolding weigh
parts-weigh w test [] = refl
parts-weigh w test (x ∷ xs) =
    let h = parts-weigh w test xs in
    elim (test x) as (λ b. weigh w (cond b (x ∷ filter test xs) (filter test xs)) + weigh w (cond (not b) (x ∷ filter (λ m. not (test m)) xs) (filter (λ m. not (test m)) xs)) ≡ w x + weigh w xs) [
      | true ↦ omega arith
      | false ↦ omega arith
    ]

-- what passes a test and what does not are all
pub sorted-parts : (test : Message → Bool) (xs : List Message) → sorted_messages (filter test xs ++ filter (λ m. not (test m)) xs) ≡ sorted_messages xs
sorted-parts test xs =
    same_sorted_messages (filter test xs ++ filter (λ m. not (test m)) xs) xs
    (λ q. weigh-append (copy q) (filter test xs) (filter (λ m. not (test m)) xs) ∙ parts-weigh (copy q) test xs)

-- what comes from inside f is what comes from inside g, which lies within it, and what came since
pub sorted-since : (g f : Frontier) → Within g f → (ms : List Message) → sorted_messages (messages_from g ms ++ messages_since g f ms) ≡ sorted_messages (messages_from f ms)
sorted-since g f w ms =
    let from : Message → Bool = λ m. all_inside g m.causes in
    ap (λ xs. sorted_messages (xs ++ messages_since g f ms))
    (sym (filter-inner from (λ m. all_inside f m.causes) ms
    (each-one (λ (m : Message). from m ≡ true → all_inside f m.causes ≡ true) ms (λ m. all_inside-monotone g f w m.causes))))
    ∙ sorted-parts from (messages_from f ms)

-- ---- logs

-- what lies outside today's low watermark of the receiver of edge e
abbrev outside_today : System → Machine → ℕ → List Message → List Message
outside_today sys state e ms = messages_outside (inside (front_of state.low (receiver sys.flow e))) ms

-- a log that was kept with earlier watermarks
held-outside : (sys : System) (state : Machine) (e : ℕ) (low : List Front) → Within (at_receiver sys low e) (at_receiver sys state.low e) → (log ms : List Message)
    → AllByRecursion (λ (m : Message). in_domain (bounds_of sys.flow (receiver sys.flow e)) m.at ≡ true) ms
    → sorted_messages log ≡ sorted_messages (messages_outside (at_receiver sys low e) ms)
    → sorted_messages (outside_today sys state e log) ≡ sorted_messages (messages_outside (at_receiver sys state.low e) ms)
held-outside sys state e low within log ms at same =
    let q = receiver sys.flow e in
    let today = inside (front_of state.low q) in
    let outside : Message → Bool = λ m. not (today m.at) in
    let kept = at_receiver sys low e in
    sorted_messages-filter outside log ∙ ap (messages_outside today) same ∙ sym (sorted_messages-filter outside (messages_outside kept ms))
    ∙ ap sorted_messages
    (sym (outside-front sys.flow q (front_of state.low q) (messages_outside kept ms)
    (each-kept (λ (m : Message). in_domain (bounds_of sys.flow q) m.at ≡ true) (λ m. not (kept m.at)) ms at))
    ∙ outside-both kept (at_receiver sys state.low e) within ms)

-- one more log: of what was sent since
more-logged : (outside later : Message → Bool) (log more : List Message) (g f : Frontier) → Within g f → (sent : List Message)
    → sorted_messages (filter outside log) ≡ sorted_messages (filter later (messages_from g sent))
    → sorted_messages (filter outside more) ≡ sorted_messages (filter later (messages_since g f sent))
    → sorted_messages (filter outside (log ++ more)) ≡ sorted_messages (filter later (messages_from f sent))
more-logged outside later log more g f w sent a b =
    ap sorted_messages (filter-append outside log more)
    ∙ sorted-both (filter outside log) (filter outside more) (filter later (messages_from g sent)) (filter later (messages_since g f sent)) a b
    ∙ ap sorted_messages (sym (filter-append later (messages_from g sent) (messages_since g f sent)))
    ∙ sorted_messages-filter later (messages_from g sent ++ messages_since g f sent)
    ∙ ap (filter later) (sorted-since g f w sent)
    ∙ sym (sorted_messages-filter later (messages_from f sent))

-- the logs up to each of these checkpoints have what was sent from inside its front
logs-follow : (sys : System) (state : Machine) (e : ℕ) → can_resend (policy_of sys.flow (sender sys.flow e)) ≡ true
    → AllByRecursion (λ (m : Message). in_domain (bounds_of sys.flow (receiver sys.flow e)) m.at ≡ true) (sent_messages sys (events state.history) e)
    → (cs : List Checkpoint) (g : Front) (log : List Message)
    → sorted_messages (outside_today sys state e log)
    ≡ sorted_messages (messages_outside (at_receiver sys state.low e) (messages_from (node_frontier sys.flow (sender sys.flow e) g) (sent_messages sys (events state.history) e)))
    → EachIsNext sys state (sender sys.flow e) g cs
    → sorted_messages (outside_today sys state e (log ++ logged_in_all e cs))
    ≡ sorted_messages (messages_outside (at_receiver sys state.low e)
    (messages_from (node_frontier sys.flow (sender sys.flow e) (last_front g (states_of cs))) (sent_messages sys (events state.history) e)))
logs-follow sys state e can at [] g log held follow = ap (λ ms. sorted_messages (outside_today sys state e ms)) (append-nil log) ∙ held
logs-follow sys state e can at (c ∷ cs) g log held follow =
    let p = sender sys.flow e in
    let f = c.recorded.front in
    let sent = sent_messages sys (events state.history) e in
    let P : Message → Type 0 = λ m. in_domain (bounds_of sys.flow (receiver sys.flow e)) m.at ≡ true in
    let this = follow.0 in
    let kept = at_receiver sys this.low e in
    let since = messages_since (node_frontier sys.flow p g) (node_frontier sys.flow p f) sent in
    let own = logged_on e c.log in
    let inner : AllByRecursion P since =
    each-kept P (λ m. not (all_inside (node_frontier sys.flow p g) m.causes)) (messages_from (node_frontier sys.flow p f) sent)
    (each-kept P (λ m. all_inside (node_frontier sys.flow p f) m.causes) sent at) in
    let more = held-outside sys state e this.low (this.kept (receiver sys.flow e)) own since inner
    (this.changes.log e refl ∙ ap sorted_messages (cond-true (can_resend (policy_of sys.flow p)) (messages_outside kept since) [] can)) in
    ap (λ ms. sorted_messages (outside_today sys state e ms)) (sym (append_assoc log own (logged_in_all e cs)))
    ∙ logs-follow sys state e can at cs f (log ++ own)
    (more-logged (λ m. not (inside (front_of state.low (receiver sys.flow e)) m.at)) (λ m. not (at_receiver sys state.low e m.at)) log own
    (node_frontier sys.flow p g) (node_frontier sys.flow p f) this.later sent held more)
    follow.1

-- the logs of a node that cannot send again have nothing
none-follow : (sys : System) (state : Machine) (e : ℕ) → can_resend (policy_of sys.flow (sender sys.flow e)) ≡ false
    → (cs : List Checkpoint) (g : Front) (log : List Message) → sorted_messages log ≡ [] → EachIsNext sys state (sender sys.flow e) g cs
    → sorted_messages (log ++ logged_in_all e cs) ≡ []
none-follow sys state e cannot [] g log held follow = ap sorted_messages (append-nil log) ∙ held
none-follow sys state e cannot (c ∷ cs) g log held follow =
    let p = sender sys.flow e in
    let this = follow.0 in
    let own = logged_on e c.log in
    let since = messages_since (node_frontier sys.flow p g) (node_frontier sys.flow p c.recorded.front) (sent_messages sys (events state.history) e) in
    ap sorted_messages (sym (append_assoc log own (logged_in_all e cs)))
    ∙ none-follow sys state e cannot cs c.recorded.front (log ++ own)
    (sorted-both log own [] [] held
    (this.changes.log e refl
    ∙ ap sorted_messages (cond-false (can_resend (policy_of sys.flow p)) (messages_outside (at_receiver sys this.low e) since) [] cannot)))
    follow.1

-- the log of a sender that is cut to the end of a chain of checkpoints is what their records hold together on the edge, but for what lies
-- inside today's low watermark of the receiver
pub logs-from_chains : (sys : System) (state : Machine) (choice : Choice) (settled : List Front) → Recovers sys state choice settled
    → (e : ℕ) (f : Front) → cut_of choice (sender sys.flow e) ≡ At f
    → (first : Checkpoint) (later : List Checkpoint) → IsChainFor sys state (sender sys.flow e) f first later
    → logged sys (recovered_state sys state choice settled) e
    ≡ sorted_messages (messages_outside (inside (front_of state.low (receiver sys.flow e))) (logged_in_all e (first ∷ later)))
logs-from_chains sys state choice settled r e f is first later chain =
    let k = knows sys state choice settled r in
    let p = sender sys.flow e in
    let g = first.recorded.front in
    let sent = sent_messages sys (events state.history) e in
    let own = logged_on e first.log in
    let kept = at_receiver sys chain.low e in
    let can_log : Bool = can_resend (policy_of sys.flow p) in
    let from = messages_from (node_frontier sys.flow p g) sent in
    let at = legal-at sys (events state.history) r.well_formed.flow k.epochs k.legal e in
    let P : Message → Type 0 = λ m. in_domain (bounds_of sys.flow (receiver sys.flow e)) m.at ≡ true in
    elim (cases_Bool can_log) [
      | inr cannot ↦
          logged-none sys (recovered_state sys state choice settled) e cannot
          ∙ sym (sorted_messages-filter (λ m. not (inside (front_of state.low (receiver sys.flow e)) m.at)) (own ++ logged_in_all e later)
          ∙ ap (outside_today sys state e)
          (none-follow sys state e cannot later g own
          (chain.whole.log e refl ∙ ap sorted_messages (cond-false can_log (messages_outside kept from) [] cannot)) chain.each))
      | inl can ↦
          logged-cut sys state choice settled r e can f is
          ∙ sym (logs-follow sys state e can at later g own
          (held-outside sys state e chain.low (chain.kept (receiver sys.flow e)) own from (each-kept P (λ m. all_inside (node_frontier sys.flow p g) m.causes) sent at)
          (chain.whole.log e refl ∙ ap sorted_messages (cond-true can_log (messages_outside kept from) [] can)))
          chain.each
          ∙ ap (λ x. sorted_messages (messages_outside (at_receiver sys state.low e) (messages_from (node_frontier sys.flow p x) sent))) chain.last)
    ]

-- ---- tables

-- each front lies within the last one
within-last : (sys : System) (state : Machine) (p : ℕ) (cs : List Checkpoint) (g : Front) → EachIsNext sys state p g cs
    → Within (node_frontier sys.flow p g) (node_frontier sys.flow p (last_front g (states_of cs)))
within-last sys state p [] g follow = λ t i. i
within-last sys state p (c ∷ cs) g follow = λ t i. within-last sys state p cs c.recorded.front follow.1 t (follow.0.later t i)

-- of the events inside a frontier those inside one that lies within it
inner-events : (sys : System) (state : Machine) (p : ℕ) (b : Frontier) (g : Front) → Within (node_frontier sys.flow p g) b
    → events_at sys.flow p (events_within sys state p g)
    ≡ events_inside (node_frontier sys.flow p g) (events_inside b (events_at sys.flow p (events state.history)))
inner-events sys state p b g w =
    let vs = events_at sys.flow p (events state.history) in
    let n = node_frontier sys.flow p g in
    within-at sys state p g
    ∙ sym (filter-inner (λ (v : Event). n (event_stamp v)) (λ v. b (event_stamp v)) vs
    (each-one (λ (v : Event). n (event_stamp v) ≡ true → b (event_stamp v) ≡ true) vs (λ v. w (event_stamp v))))

have-changes : (sys : System) (state : Machine) (p : ℕ) (b : Frontier) (cs : List Checkpoint) (g : Front) → EachIsNext sys state p g cs
    → Within (node_frontier sys.flow p (last_front g (states_of cs))) b
    → HaveChanges sys.flow p (events_inside b (events_at sys.flow p (events state.history))) g (states_of cs)
have-changes sys state p b [] g follow w = tt
have-changes sys state p b (c ∷ cs) g follow w =
    let f = c.recorded.front in
    let to_last = within-last sys state p cs f follow.1 in (
      follow.0.later,
      subst (λ us. IsStateSince (kind_of sys.flow p) (node_frontier sys.flow p g) us c.state) (inner-events sys state p b f (λ t i. w t (to_last t i)))
          follow.0.changes.table,
      have-changes sys state p b cs f follow.1 w,
    )

-- a node that is cut to the end of a chain of checkpoints has a table that stands for all events inside of which these have the states
pub tables-from_chains : (sys : System) (state : Machine) (choice : Choice) (settled : List Front) → Recovers sys state choice settled
    → (p : ℕ) → p < length sys.flow.nodes → way_of sys.flow p ≡ Checkpoints → (f : Front) → cut_of choice p ≡ At f
    → (first : Checkpoint) (later : List Checkpoint) → IsChainFor sys state p f first later
    → (node : Node) → IsOfChain sys.flow p first.recorded.front first.state (states_of later) node
    → IsTableIn sys (recovered_state sys state choice settled) p (Some node)
tables-from_chains sys state choice settled r p l way f is first later chain node built =
    let g = first.recorded.front in
    let last = last_front g (states_of later) in
    let b = node_frontier sys.flow p last in
    let all = events_at sys.flow p (events state.history) in
    let vs = events_inside b all in
    let State : List Event → Type 0 = λ us. IsStateOf (kind_of sys.flow p) us first.state in
    let Of : Front → Type 0 = λ x. IsTableOf sys.flow p (node_frontier sys.flow p x) node (events_inside (node_frontier sys.flow p x) all) in
    let cut = are-inside sys state choice settled r p l b in
    tables-cut sys state choice settled r p l (inner-checkpoints sys.flow p way) f is node
    (subst Of chain.last
    (built vs cut.inside cut.on_edges
    (subst State (inner-events sys state p b g (within-last sys state p later g chain.each)) chain.whole.table)
    (have-changes sys state p b later g chain.each (λ t i. i))))
