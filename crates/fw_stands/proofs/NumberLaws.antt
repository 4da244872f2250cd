-- How many messages a node sends that numbers them: no more than there are numbers.
use Rattle.std.proofs.Common.{◌≡◌, ℕ, ◌<◌, ◌≤◌, ◌^◌, true, cond, ◌==◌, nat_le, List, [], ◌∷◌, ◌++◌, length, refl, sym, ap, subst, ◌∙◌, inl, inr, arith}
use Rattle.std.specs.List.{AllByRecursion}
use Rattle.std.proofs.lemmas.Bool.{and_parts, cond_both, cases_lt, eqb-true, eq-eqb}
use Rattle.std.proofs.lemmas.Bool.Decides.{nat_tests}
use Rattle.std.proofs.lemmas.List.{length-append, get_or_past}
use Rattle.fw_time.specs.Stamp.{Stamp, in_domain}
use Rattle.fw_flow.specs.declared.kind.Domain.{Domain}
use Rattle.fw_flow.specs.declared.kind.Domain.TheVariants.{Epoch, Number, Loop as InLoop}
use Rattle.fw_flow.specs.declared.event.Event.{Event}
use Rattle.fw_flow.specs.declared.event.Event.TheVariants.{Inject, Deliver, Notify}
use Rattle.fw_flow.specs.declared.event.Message.{Message}
use Rattle.fw_flow.specs.declared.node.Edge.{Edge}
use Rattle.fw_flow.specs.declared.kind.Kind.TheVariants.{Ledger}
use Rattle.fw_flow.specs.Dataflow.{System, Dataflow, kind_of, sender, receiver, in_edges, bounds_of, bounds_of_domain, domain_of, domain_of_kind, is_numbered, is_of_numbers, greatest_number, HasEpochs}
use Rattle.fw_flow.specs.NodeFunction.{sends, sends_of_kind, sent_by}
use Rattle.fw_flow.specs.Projection.{events_at}
use Rattle.fw_flow.specs.WellFormed.{IsWellFormed, IsInDegree}
use Rattle.fw_flow.proofs.EdgeLaws.{in_edges-at}
use Rattle.fw_model.specs.History.{IsLegal, message_on, delivered_messages}
use Rattle.fw_model.proofs.ArrivalLaws.{in_edges-receive}
use Rattle.fw_model.proofs.LegalLaws.{AreAllInDomain, legal-in_domain}

-- ---- past the last edge

pub receiver-past : (flow : Dataflow) (e : ℕ) → length flow.edges ≤ e → receiver flow e ≡ length flow.nodes
unfolding receiver
receiver-past flow e l = ap (λ (x : Edge). x.receiver) (get_or_past flow.edges e (record { name = []; sender = length flow.nodes; receiver = length flow.nodes }) l)

-- an edge to a node that is there is there
pub receiver-there : (flow : Dataflow) (p e : ℕ) → p < length flow.nodes → receiver flow e ≡ p → e < length flow.edges
receiver-there flow p e l s = elim (cases_lt e (length flow.edges)) [
  | inl k ↦ k
  | inr past ↦ let past_is = receiver-past flow e past in absurd (omega arith)
]

-- ---- deliveries on a numbered edge

of-numbers : (flow : Dataflow) (d : Domain) (n : ℕ) → is_of_numbers d ≡ true → in_domain (bounds_of_domain flow d) (n ∷ []) ≡ true → n ≤ greatest_number
of-numbers flow Epoch n k i = absurd cc
of-numbers flow (InLoop l) n k i = absurd cc
of-numbers flow Number n k i = let b = (and_parts (nat_le n greatest_number) true i).0 in grind (arith, nat_tests)

number-within : (flow : Dataflow) (e n : ℕ) → is_numbered flow e ≡ true → in_domain (bounds_of flow (receiver flow e)) (n ∷ []) ≡ true → n ≤ greatest_number
unfolding bounds_of
number-within flow e n k i = of-numbers flow (domain_of flow (receiver flow e)) n k i

pub delivered-few : (sys : System) (h : List Event) → AreAllInDomain sys.flow h → IsLegal sys h → (e : ℕ) → is_numbered sys.flow e ≡ true
    → length (delivered_messages h e) ≤ 2 ^ 32
delivered-few sys [] d l e k = omega arith
delivered-few sys (Inject s x ∷ h) d l e k = delivered-few sys h d.1 l.1 e k
delivered-few sys (Notify p t ∷ h) d l e k = delivered-few sys h d.1 l.1 e k
delivered-few sys (Deliver c m ∷ h) d l e k =
    let rest = delivered-few sys h d.1 l.1 e k in
    cond_both (c == e) (m ∷ []) [] (λ ms. length (ms ++ delivered_messages h e) ≤ 2 ^ 32)
    (λ i.
    let is : c ≡ e = eqb-true c e i in
    let at : m.at ≡ length (delivered_messages h c) ∷ [] = l.0.numbered (subst (λ x. is_numbered sys.flow x ≡ true) (sym is) k) in
    let n : length (delivered_messages h c) ≤ greatest_number =
    number-within sys.flow c (length (delivered_messages h c)) (subst (λ x. is_numbered sys.flow x ≡ true) (sym is) k)
    (subst (λ t. in_domain (bounds_of sys.flow (receiver sys.flow c)) t ≡ true) at d.0) in
    let same : length (delivered_messages h c) ≡ length (delivered_messages h e) = ap (λ x. length (delivered_messages h x)) is in
    omega arith)
    (λ i. rest)

-- ---- what a ledger sends

ledger-one : (sys : System) (p : ℕ) → kind_of sys.flow p ≡ Ledger → (before : List Event) (e : ℕ) (m : Message) → length (sends sys p before (Deliver e m)) ≡ 1
unfolding sends
ledger-one sys p k before e m = ap (λ kind. length (sends_of_kind sys kind before (Deliver e m))) k

ledger-none_injected : (sys : System) (p : ℕ) → kind_of sys.flow p ≡ Ledger → (before : List Event) (s x : ℕ) → sends sys p before (Inject s x) ≡ []
unfolding sends
ledger-none_injected sys p k before s x = ap (λ kind. sends_of_kind sys kind before (Inject s x)) k

ledger-none_notified : (sys : System) (p : ℕ) → kind_of sys.flow p ≡ Ledger → (before : List Event) (q : ℕ) (t : Stamp) → sends sys p before (Notify q t) ≡ []
unfolding sends
ledger-none_notified sys p k before q t = ap (λ kind. sends_of_kind sys kind before (Notify q t)) k

ledger-fewer : (sys : System) (p one : ℕ) → kind_of sys.flow p ≡ Ledger → ((e : ℕ) → receiver sys.flow e ≡ p → e ≡ one) → (h : List Event)
    → length (sent_by sys p (events_at sys.flow p h)) ≤ length (delivered_messages h one)
ledger-fewer sys p one k only [] = omega arith
ledger-fewer sys p one k only (Inject s x ∷ h) =
    let vs = events_at sys.flow p h in
    let rest = ledger-fewer sys p one k only h in
    cond_both (s == p) (Inject s x ∷ vs) vs (λ ws. length (sent_by sys p ws) ≤ length (delivered_messages h one))
    (λ i. subst (λ ms. length (ms ++ sent_by sys p vs) ≤ length (delivered_messages h one)) (sym (ledger-none_injected sys p k vs s x)) rest) (λ i. rest)
ledger-fewer sys p one k only (Notify q t ∷ h) =
    let vs = events_at sys.flow p h in
    let rest = ledger-fewer sys p one k only h in
    cond_both (q == p) (Notify q t ∷ vs) vs (λ ws. length (sent_by sys p ws) ≤ length (delivered_messages h one))
    (λ i. subst (λ ms. length (ms ++ sent_by sys p vs) ≤ length (delivered_messages h one)) (sym (ledger-none_notified sys p k vs q t)) rest) (λ i. rest)
ledger-fewer sys p one k only (Deliver e m ∷ h) =
    let vs = events_at sys.flow p h in
    let rest = ledger-fewer sys p one k only h in
    let more = length-append (message_on one (Deliver e m)) (delivered_messages h one) in
    cond_both (receiver sys.flow e == p) (Deliver e m ∷ vs) vs (λ ws. length (sent_by sys p ws) ≤ length (message_on one (Deliver e m) ++ delivered_messages h one))
    (λ i.
    let is : e ≡ one = only e (eqb-true (receiver sys.flow e) p i) in
    let there : length (message_on one (Deliver e m)) ≡ 1 = ap (λ b. length (cond b (m ∷ []) [])) (eq-eqb e one is) in
    let sent = length-append (sends sys p vs (Deliver e m)) (sent_by sys p vs) in
    let single = ledger-one sys p k vs e m in
    omega arith)
    (λ i. omega arith)

only-edge : (flow : Dataflow) (p : ℕ) → p < length flow.nodes → (es : List ℕ) → in_edges flow p ≡ es → length es ≡ 1
    → (one : ℕ) × (receiver flow one ≡ p) × ((e : ℕ) → receiver flow e ≡ p → e ≡ one)
only-edge flow p l [] is n = absurd (omega arith)
only-edge flow p l (one ∷ es) is n =
    let none : length es ≡ 0 = omega arith in (
      one,
      (subst (AllByRecursion (λ d. (d < length flow.edges) × (receiver flow d ≡ p))) is (in_edges-receive flow p)).0.1,
      λ e r. in_edges-at (λ x. x ≡ one) flow p (subst (AllByRecursion (λ x. x ≡ one)) (sym is) (refl, nothing es none)) e (receiver-there flow p e l r) r,
    )
  where
    nothing : (es : List ℕ) → length es ≡ 0 → AllByRecursion (λ x. x ≡ one) es
    nothing [] k = tt
    nothing (x ∷ es) k = absurd (omega arith)

-- a ledger sends no more messages than there are numbers
pub ledger-few : (sys : System) (h : List Event) → IsWellFormed sys.flow → HasEpochs sys → IsLegal sys h → (p : ℕ) → p < length sys.flow.nodes → kind_of sys.flow p ≡ Ledger
    → length (sent_by sys p (events_at sys.flow p h)) ≤ 2 ^ 32
ledger-few sys h w b legal p l k =
    let degree : length (in_edges sys.flow p) ≡ 1 = subst (λ kind. IsInDegree kind (length (in_edges sys.flow p))) k (w.in_degrees p l) in
    let o = only-edge sys.flow p l (in_edges sys.flow p) refl degree in
    let numbered : is_numbered sys.flow o.0 ≡ true = ap (λ q. is_of_numbers (domain_of sys.flow q)) o.1 ∙ ap (λ kind. is_of_numbers (domain_of_kind sys.flow kind)) k in
    let fewer = ledger-fewer sys p o.0 k o.2 h in
    let few = delivered-few sys h (legal-in_domain sys h w b legal) legal o.0 numbered in
    omega arith
