-- At which stamps the events and messages of a legal history are.
use Rattle.std.proofs.Common.{◌≡◌, ℕ, ◌+◌, ◌≤◌, Bool, true, not, ◌==◌, ◌&&◌, nat_le, List, [], ◌∷◌, length, get_or, refl, sym, ap, ◌∙◌, inl, inr, arith, subst}
use Rattle.std.specs.List.{AllByRecursion}
use Rattle.std.proofs.lemmas.Bool.{and_parts, and_from, or_cases, cond_both, eqb-true, cases_lt, both_ways}
use Rattle.std.proofs.lemmas.List.{get_or_past}
use Rattle.fw_lemmas.proofs.Each.{each-weaker, each-append}
use Rattle.fw_bag.specs.declared.rec.Rec.{Rec}
use Rattle.fw_time.specs.Stamp.{Stamp, leq, same, in_domain}
use Rattle.fw_flow.specs.declared.event.Event.{Event}
use Rattle.fw_flow.specs.declared.event.Event.TheVariants.{Inject, Deliver, Notify}
use Rattle.fw_flow.specs.declared.event.Message.{Message}
use Rattle.fw_flow.specs.Kind.{Kind}
use Rattle.fw_flow.specs.declared.kind.Kind.TheVariants.{Input}
use Rattle.fw_flow.specs.Dataflow.{System, Dataflow, idle_node, kind_of, sender, receiver, greatest_number, domain_of, domain_of_kind, out_domain_of, out_domain_of_kind, bounds_of, bounds_of_domain, is_input_kind, is_notified_kind, send_stamp_of_kind, bounds_of_edge, HasEpochs}
use Rattle.fw_flow.specs.NodeFunction.{event_node, event_stamp, numbered_messages, sequence_sent, sends_of_kind, sends, sent_by}
use Rattle.fw_flow.specs.Projection.{events_at}
use Rattle.fw_flow.specs.WellFormed.{IsWellFormed}
use Rattle.fw_model.proofs.LesserLaws.{lesser-in_domain}
use Rattle.fw_model.specs.History.{sent_messages, delivered_messages, pending_messages, was_delivered_to, was_notified, injected_count, IsLegal, IsEnabled, AreEventsInDomain}
use Rattle.fw_model.specs.LawsOfLegalHistories.{LegalEventsAreInDomain, LegalMessagesAreInDomain, OnlyInputsInject}
use Rattle.fw_flow.proofs.MessageLaws.{less-each, among-each}
use Rattle.fw_model.proofs.CarriedLaws.{carried-each}
use Rattle.fw_model.proofs.StampLaws.{line-leq}
use Rattle.fw_model.proofs.SendingLaws.{send_stamp_of_kind-in_domain}
use Rattle.fw_model.proofs.SendsLaws.{IsAt, sends_of_kind-each}
use Rattle.fw_model.specs.Sending.{is_single_kind, recs_by_count_on}
use Rattle.fw_model.proofs.KindSorts.{sends_by}

-- ---- what is sent

numbered-in_domain : (n : ℕ) (cause : Stamp) (rs : List Rec)
    → AllByRecursion (λ (m : Message). leq m.at (greatest_number ∷ []) ≡ true) (numbered_messages n cause rs)
numbered-in_domain n cause [] = tt
numbered-in_domain n cause (r ∷ rs) =
    cond_both (nat_le n greatest_number) (record { at = n ∷ []; rec = r; causes = cause ∷ [] } ∷ numbered_messages (n + 1) cause rs) []
    (AllByRecursion (λ m. leq m.at (greatest_number ∷ []) ≡ true))
    (λ e. (and_from (nat_le n greatest_number) true e refl, numbered-in_domain (n + 1) cause rs)) (λ e. tt)

sends_by_stamp-in_domain : (sys : System) (kind : Kind) (before : List Event) (v : Event) → is_single_kind kind ≡ true
    → in_domain (bounds_of_domain sys.flow (domain_of_kind sys.flow kind)) (event_stamp v) ≡ true
    → AllByRecursion (λ (m : Message). in_domain (bounds_of_domain sys.flow (out_domain_of_kind sys.flow kind)) m.at ≡ true) (sends_of_kind sys kind before v)
sends_by_stamp-in_domain sys kind before v n i =
    each-weaker (IsAt (send_stamp_of_kind sys.flow kind (event_stamp v)) (event_stamp v))
    (λ m. in_domain (bounds_of_domain sys.flow (out_domain_of_kind sys.flow kind)) m.at ≡ true) (sends_of_kind sys kind before v)
    (λ m a. send_stamp_of_kind-in_domain sys.flow kind (event_stamp v) m.at i a.0) (sends_of_kind-each sys kind before v n)

sends_of_kind-in_domain : (sys : System) (kind : Kind) (before : List Event) (v : Event)
    → in_domain (bounds_of_domain sys.flow (domain_of_kind sys.flow kind)) (event_stamp v) ≡ true
    → AllByRecursion (λ (m : Message). in_domain (bounds_of_domain sys.flow (out_domain_of_kind sys.flow kind)) m.at ≡ true) (sends_of_kind sys kind before v)
sends_of_kind-in_domain sys kind before v i = elim (sends_by kind) [
  | inl is ↦
      subst (λ k. AllByRecursion (λ (m : Message). in_domain (bounds_of_domain sys.flow (out_domain_of_kind sys.flow k)) m.at ≡ true) (sends_of_kind sys k before v)) (sym is)
      (numbered-in_domain (length (sequence_sent before)) (event_stamp v) (recs_by_count_on sys before v))
  | inr n ↦ sends_by_stamp-in_domain sys kind before v n i
]

-- what a node sends at
abbrev out_bounds : Dataflow → ℕ → Stamp → Bool
out_bounds flow p t = in_domain (bounds_of_domain flow (out_domain_of flow p)) t

sent_by-in_domain : (sys : System) (p : ℕ) (vs : List Event) → AllByRecursion (λ v. in_domain (bounds_of sys.flow p) (event_stamp v) ≡ true) vs
    → AllByRecursion (λ (m : Message). out_bounds sys.flow p m.at ≡ true) (sent_by sys p vs)
unfolding sends bounds_of
sent_by-in_domain sys p [] d = tt
sent_by-in_domain sys p (v ∷ vs) d =
    each-append (λ (m : Message). out_bounds sys.flow p m.at ≡ true) (sends sys p vs v) (sent_by sys p vs)
    (sends_of_kind-in_domain sys (kind_of sys.flow p) vs v d.0) (sent_by-in_domain sys p vs d.1)

-- ---- edges join equal domains

past_edges : (flow : Dataflow) (e : ℕ) → length flow.edges ≤ e → out_domain_of flow (sender flow e) ≡ domain_of flow (receiver flow e)
unfolding sender receiver kind_of
past_edges flow e l =
    let past = get_or_past flow.edges e (record { name = []; sender = length flow.nodes; receiver = length flow.nodes }) l in
    let last : length flow.nodes ≤ length flow.nodes = omega arith in
    let idle = get_or_past flow.nodes (length flow.nodes) idle_node last in
    ap (λ d. out_domain_of_kind flow (get_or flow.nodes d.sender idle_node).kind) past
    ∙ ap (λ n. out_domain_of_kind flow n.kind) idle
    ∙ sym (ap (λ n. domain_of_kind flow n.kind) idle)
    ∙ sym (ap (λ d. domain_of_kind flow (get_or flow.nodes d.receiver idle_node).kind) past)

pub edge_domains : (flow : Dataflow) → IsWellFormed flow → (e : ℕ) → out_domain_of flow (sender flow e) ≡ domain_of flow (receiver flow e)
edge_domains flow w e = elim (cases_lt e (length flow.edges)) [ inl l ↦ w.domains e l | inr l ↦ past_edges flow e l ]

pub edge-receiver : (flow : Dataflow) → IsWellFormed flow → (e : ℕ) (t : Stamp) → in_domain (bounds_of_edge flow e) t ≡ true
    → in_domain (bounds_of flow (receiver flow e)) t ≡ true
unfolding bounds_of
edge-receiver flow w e t i = sym (ap (λ d. in_domain (bounds_of_domain flow d) t) (edge_domains flow w e)) ∙ i

-- ---- the events

-- each event is at a stamp of its node's domain
abbrev pub AreAllInDomain : Dataflow → List Event → Type 0
AreAllInDomain flow h = AllByRecursion (λ v. in_domain (bounds_of flow (event_node flow v)) (event_stamp v) ≡ true) h

events_at-in_domain : (flow : Dataflow) (p : ℕ) (h : List Event) → AreAllInDomain flow h → AreEventsInDomain flow h p
events_at-in_domain flow p [] d = tt
events_at-in_domain flow p (v ∷ h) d =
    let vs = events_at flow p h in
    let rest = events_at-in_domain flow p h d.1 in
    cond_both (event_node flow v == p) (v ∷ vs) vs (AllByRecursion (λ w. in_domain (bounds_of flow p) (event_stamp w) ≡ true))
    (λ e. (sym (ap (λ q. in_domain (bounds_of flow q) (event_stamp v)) (eqb-true (event_node flow v) p e)) ∙ d.0, rest)) (λ e. rest)

delivered_to-in_domain : (flow : Dataflow) (p : ℕ) (t : Stamp) (h : List Event) → AreAllInDomain flow h → was_delivered_to flow p t h ≡ true
    → in_domain (bounds_of flow p) t ≡ true
delivered_to-in_domain flow p t [] d k = absurd (cc)
delivered_to-in_domain flow p t (Inject s x ∷ h) d k = delivered_to-in_domain flow p t h d.1 k
delivered_to-in_domain flow p t (Notify q s ∷ h) d k = delivered_to-in_domain flow p t h d.1 k
delivered_to-in_domain flow p t (Deliver e m ∷ h) d k =
    elim (or_cases (receiver flow e == p && same m.at t) (was_delivered_to flow p t h) k) [
      | inl a ↦
          let b = and_parts (receiver flow e == p) (same m.at t) a in
          let c = and_parts (leq m.at t) (leq t m.at) b.1 in
          lesser-in_domain flow p t m.at c.1
          (sym (ap (λ q. in_domain (bounds_of flow q) m.at) (eqb-true (receiver flow e) p b.0)) ∙ d.0)
      | inr a ↦ delivered_to-in_domain flow p t h d.1 a
    ]

is_input : (kind : Kind) → is_input_kind kind ≡ true → kind ≡ Input
is_input Input k = refl
is_input kind k = absurd (cc)

input-in_domain : (flow : Dataflow) (s x : ℕ) → is_input_kind (kind_of flow s) ≡ true → x ≤ greatest_number → in_domain (bounds_of flow s) (x ∷ []) ≡ true
unfolding bounds_of
input-in_domain flow s x k l =
    ap (λ kind. in_domain (bounds_of_domain flow (domain_of_kind flow kind)) (x ∷ [])) (is_input (kind_of flow s) k) ∙ line-leq x greatest_number l

pub enabled-in_domain : (sys : System) (h : List Event) → IsWellFormed sys.flow → HasEpochs sys → AreAllInDomain sys.flow h → (v : Event) → IsEnabled sys h v
    → in_domain (bounds_of sys.flow (event_node sys.flow v)) (event_stamp v) ≡ true
enabled-in_domain sys h w b d (Inject s x) k =
    let l = k.there in
    let n = b s in
    input-in_domain sys.flow s x k.input (omega arith)
enabled-in_domain sys h w b d (Deliver e m) k =
    let p = sender sys.flow e in
    edge-receiver sys.flow w e m.at
    (among-each (λ x. out_bounds sys.flow p x.at ≡ true) m (pending_messages sys h e) k.is_pending
    (less-each (λ x. out_bounds sys.flow p x.at ≡ true) (sent_messages sys h e) (delivered_messages h e)
    (carried-each sys.flow e (λ x. out_bounds sys.flow p x.at ≡ true) (sent_by sys p (events_at sys.flow p h))
    (sent_by-in_domain sys p (events_at sys.flow p h) (events_at-in_domain sys.flow p h d)))))
enabled-in_domain sys h w b d (Notify p t) k =
    let a = and_parts (is_notified_kind (kind_of sys.flow p) && was_delivered_to sys.flow p t h) (not (was_notified p t h)) k.is_owed in
    delivered_to-in_domain sys.flow p t h d (and_parts (is_notified_kind (kind_of sys.flow p)) (was_delivered_to sys.flow p t h) a.0).1

pub legal-in_domain : (sys : System) (h : List Event) → IsWellFormed sys.flow → HasEpochs sys → IsLegal sys h → AreAllInDomain sys.flow h
legal-in_domain sys [] w b l = tt
legal-in_domain sys (v ∷ h) w b l =
    let d = legal-in_domain sys h w b l.1 in
    (enabled-in_domain sys h w b d v l.0, d)

-- ---- the laws

pub legal_events-in_domain : LegalEventsAreInDomain
legal_events-in_domain sys h w b l p = events_at-in_domain sys.flow p h (legal-in_domain sys h w b l)

pub legal_messages-in_domain : LegalMessagesAreInDomain
legal_messages-in_domain sys h w b l e =
    let p = sender sys.flow e in
    carried-each sys.flow e (λ (m : Message). out_bounds sys.flow p m.at ≡ true) (sent_by sys p (events_at sys.flow p h))
    (sent_by-in_domain sys p (events_at sys.flow p h) (legal_events-in_domain sys h w b l p))

pub only_inputs_inject : OnlyInputsInject
only_inputs_inject sys [] l p k = refl
only_inputs_inject sys (Inject s x ∷ h) l p k =
    cond_both (s == p) (injected_count p h + 1) (injected_count p h) (λ n. n ≡ 0)
    (λ e. absurd (both_ways _ k (sym (ap (λ q. is_input_kind (kind_of sys.flow q)) (eqb-true s p e)) ∙ l.0.input)))
    (λ e. only_inputs_inject sys h l.1 p k)
only_inputs_inject sys (Deliver e m ∷ h) l p k = only_inputs_inject sys h l.1 p k
only_inputs_inject sys (Notify q t ∷ h) l p k = only_inputs_inject sys h l.1 p k
