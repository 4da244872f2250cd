-- In a legal history each event follows what it reads.
use Rattle.std.proofs.Common.{◌≡◌, ℕ, zero, suc, ◌+◌, ◌<◌, ◌≤◌, true, false, cond, not, ◌&&◌, ◌||◌, ◌==◌, List, [], ◌∷◌, length, length-append, get_or, refl, sym, ap, subst, ◌∙◌, inl, inr, arith}
use Rattle.std.specs.List.{AllByRecursion, list_any}
use Rattle.std.proofs.lemmas.Bool.{and_parts, or_cases, or_left, or_right, cond_both, cases_lt, eqb-true, eq-eqb}
use Rattle.std.proofs.lemmas.List.{get_or_past}
use Rattle.fw_lemmas.proofs.Bools.{two_ways}
use Rattle.fw_lemmas.proofs.Each.{each-weaker}
use Rattle.fw_time.specs.Stamp.{Stamp, leq}
use Rattle.fw_time.proofs.StampLaws.{leq-trans}
use Rattle.fw_flow.specs.declared.event.Event.{Event}
use Rattle.fw_flow.specs.declared.event.Event.TheVariants.{Inject, Deliver, Notify}
use Rattle.fw_flow.specs.declared.event.Message.{Message}
use Rattle.fw_flow.specs.Kind.{Kind}
use Rattle.fw_flow.specs.declared.kind.Kind.TheVariants.{OutputEpoch, Sequence, Ledger}
use Rattle.fw_flow.specs.declared.node.Edge.{Edge}
use Rattle.fw_flow.specs.Dataflow.{System, Dataflow, idle_node, kind_of, receiver, edges_into, in_edges, domain_of_kind, is_input_kind, is_notified_kind, is_of_numbers, HasEpochs}
use Rattle.fw_flow.specs.NodeFunction.{event_node, event_stamp}
use Rattle.fw_flow.specs.Projection.{events_at}
use Rattle.fw_flow.specs.WellFormed.{IsWellFormed, IsInDegree}
use Rattle.fw_model.specs.History.{message_on, delivered_messages, was_delivered_to, was_notified, IsEnabled, IsLegal}
use Rattle.fw_model.proofs.StampLaws.{leq_from, leq_to, line-leq}
use Rattle.fw_model.proofs.OrderLaws.{sequences-in_order}
use Rattle.fw_model.specs.Order.{notified_stamps, AreDescending}
use Rattle.fw_model.specs.Reads.{IsInOrder}

sequence-order : (vs : List Event) → AreDescending (notified_stamps vs) → IsInOrder Sequence vs
sequence-order [] d = tt
sequence-order (Inject s x ∷ vs) d = (tt, sequence-order vs d)
sequence-order (Deliver e m ∷ vs) d = (tt, sequence-order vs d)
sequence-order (Notify p t ∷ vs) d = (d.0, sequence-order vs d.1)

any_order : (kind : Kind) → (kind ≡ Ledger → ⊥) → (kind ≡ Sequence → ⊥) → (vs : List Event) → IsInOrder kind vs
any_order Ledger n m vs = absurd (n refl)
any_order Sequence n m vs = absurd (m refl)
any_order kind n m [] = tt
any_order kind n m (v ∷ vs) = (tt, any_order kind n m vs)

-- each edge is among those of its receiver
edges_into-has : (d : Edge) (es : List Edge) (n i p : ℕ) → i < length es → (get_or es i d).receiver ≡ p → list_any (λ e. e == n + i) (edges_into n es p) ≡ true
edges_into-has d [] n i p l r = absurd (omega arith)
edges_into-has d (x ∷ es) n zero p l r =
    ap (λ b. list_any (λ e. e == n + 0) (cond b (n ∷ edges_into (n + 1) es p) (edges_into (n + 1) es p))) (eq-eqb x.receiver p r)
    ∙ or_left (n == n + 0) (list_any (λ e. e == n + 0) (edges_into (n + 1) es p)) (eq-eqb n (n + 0) (omega arith))
edges_into-has d (x ∷ es) n (suc i) p l r =
    let same : n + suc i ≡ n + 1 + i = omega arith in
    let rest : list_any (λ e. e == n + suc i) (edges_into (n + 1) es p) ≡ true =
    ap (λ k. list_any (λ e. e == k) (edges_into (n + 1) es p)) same ∙ edges_into-has d es (n + 1) i p (omega arith) r in
    cond_both (x.receiver == p) (n ∷ edges_into (n + 1) es p) (edges_into (n + 1) es p) (λ ds. list_any (λ e. e == n + suc i) ds ≡ true)
    (λ c. or_right (n == n + suc i) (list_any (λ e. e == n + suc i) (edges_into (n + 1) es p)) rest) (λ c. rest)

one_of_one : (xs : List ℕ) → length xs ≡ 1 → (d e : ℕ) → list_any (λ x. x == d) xs ≡ true → list_any (λ x. x == e) xs ≡ true → d ≡ e
one_of_one [] l d e i j = absurd (omega arith)
one_of_one (x ∷ []) l d e i j = sym (only d i) ∙ only e j
  where
    only : (y : ℕ) → ((x == y) || false) ≡ true → x ≡ y
    only y k = elim (or_cases (x == y) false k) [ inl c ↦ eqb-true x y c | inr c ↦ absurd (cc) ]
one_of_one (x ∷ y ∷ xs) l d e i j = absurd (omega arith)

-- an edge past the last one leads to an idle output
past_edges-output : (flow : Dataflow) (e : ℕ) → length flow.edges ≤ e → kind_of flow (receiver flow e) ≡ OutputEpoch
unfolding receiver kind_of
past_edges-output flow e l =
    let past = get_or_past flow.edges e (record { name = []; sender = length flow.nodes; receiver = length flow.nodes }) l in
    let last : length flow.nodes ≤ length flow.nodes = omega arith in
    ap (λ d. (get_or flow.nodes d.receiver idle_node).kind) past ∙ ap (λ n. n.kind) (get_or_past flow.nodes (length flow.nodes) idle_node last)

-- an edge to a ledger is there
ledger-edge : (flow : Dataflow) (p e : ℕ) → kind_of flow p ≡ Ledger → receiver flow e ≡ p → e < length flow.edges
ledger-edge flow p e is r = elim (cases_lt e (length flow.edges)) [
  | inl l ↦ l
  | inr l ↦ let c : Ledger ≡ OutputEpoch = sym (ap (kind_of flow) r ∙ is) ∙ past_edges-output flow e l in absurd (cc c)
]

-- and there is one only
ledger-one_edge : (flow : Dataflow) → IsWellFormed flow → (p d e : ℕ) → kind_of flow p ≡ Ledger → receiver flow d ≡ p → receiver flow e ≡ p → d ≡ e
unfolding in_edges receiver
ledger-one_edge flow w p d e is r s =
    let z : Edge = record { name = []; sender = length flow.nodes; receiver = length flow.nodes } in
    let i = ledger-edge flow p d is r in
    let j = ledger-edge flow p e is s in
    let here : p < length flow.nodes = subst (λ n. n < length flow.nodes) r (w.receivers_declared d i) in
    let one : length (in_edges flow p) ≡ 1 = subst (λ kind. IsInDegree kind (length (in_edges flow p))) is (w.in_degrees p here) in
    let has : (k : ℕ) → k < length flow.edges → receiver flow k ≡ p → list_any (λ x. x == k) (in_edges flow p) ≡ true =
    λ k l q. let same : k ≡ 0 + k = omega arith in ap (λ n. list_any (λ x. x == n) (in_edges flow p)) same ∙ edges_into-has z flow.edges 0 k p l q in
    one_of_one (in_edges flow p) one d e (has d i r) (has e j s)

-- at a ledger nothing is injected and nothing is notified
ledger-no_inject : (sys : System) (h : List Event) (p s x : ℕ) → kind_of sys.flow p ≡ Ledger → IsEnabled sys h (Inject s x) → s ≡ p → ⊥
ledger-no_inject sys h p s x is k i =
    two_ways (is_input_kind (kind_of sys.flow s)) k.input (ap (λ n. is_input_kind (kind_of sys.flow n)) i ∙ ap is_input_kind is)

ledger-no_notice : (sys : System) (h : List Event) (p q : ℕ) (t : Stamp) → kind_of sys.flow p ≡ Ledger → IsEnabled sys h (Notify q t) → q ≡ p → ⊥
ledger-no_notice sys h p q t is k i =
    let a = and_parts (is_notified_kind (kind_of sys.flow q) && was_delivered_to sys.flow q t h) (not (was_notified q t h)) k.is_owed in
    let b = and_parts (is_notified_kind (kind_of sys.flow q)) (was_delivered_to sys.flow q t h) a.0 in
    two_ways (is_notified_kind (kind_of sys.flow q)) b.0 (ap (λ n. is_notified_kind (kind_of sys.flow n)) i ∙ ap is_notified_kind is)

-- a delivery to it has as its number how many came before
ledger-number : (sys : System) (h : List Event) (p e : ℕ) (m : Message) → kind_of sys.flow p ≡ Ledger → IsEnabled sys h (Deliver e m) → receiver sys.flow e ≡ p
    → m.at ≡ length (delivered_messages h e) ∷ []
ledger-number sys h p e m is k r =
    k.numbered (ap (λ n. is_of_numbers (domain_of_kind sys.flow (kind_of sys.flow n))) r ∙ ap (λ kind. is_of_numbers (domain_of_kind sys.flow kind)) is)

-- the events of a ledger are at most at the number of deliveries on its edge
ledger-below : (sys : System) (h : List Event) → IsWellFormed sys.flow → IsLegal sys h → (p e : ℕ) → kind_of sys.flow p ≡ Ledger → receiver sys.flow e ≡ p
    → AllByRecursion (λ w. leq (event_stamp w) (length (delivered_messages h e) ∷ []) ≡ true) (events_at sys.flow p h)
ledger-below sys [] w l p e is r = tt
ledger-below sys (v ∷ h) w l p e is r =
    let vs = events_at sys.flow p h in
    let n = length (delivered_messages h e) in
    let longer : n ≤ length (delivered_messages (v ∷ h) e) = omega (arith, length-append (message_on e v) (delivered_messages h e)) in
    let rest = each-weaker (λ w. leq (event_stamp w) (n ∷ []) ≡ true) (λ w. leq (event_stamp w) (length (delivered_messages (v ∷ h) e) ∷ []) ≡ true) vs
    (λ w i. leq-trans (event_stamp w) (n ∷ []) (length (delivered_messages (v ∷ h) e) ∷ []) i (line-leq n (length (delivered_messages (v ∷ h) e)) longer)) (ledger-below sys h w l.1 p e is r) in
    cond_both (event_node sys.flow v == p) (v ∷ vs) vs (AllByRecursion (λ w. leq (event_stamp w) (length (delivered_messages (v ∷ h) e) ∷ []) ≡ true))
    (λ c. (now v l.0 (eqb-true (event_node sys.flow v) p c) (length (delivered_messages (v ∷ h) e)) longer, rest)) (λ c. rest)
  where
    now : (v : Event) → IsEnabled sys h v → event_node sys.flow v ≡ p → (k : ℕ) → length (delivered_messages h e) ≤ k → leq (event_stamp v) (k ∷ []) ≡ true
    now (Inject s x) k i n longer = absurd (ledger-no_inject sys h p s x is k i)
    now (Notify q t) k i n longer = absurd (ledger-no_notice sys h p q t is k i)
    now (Deliver d m) k i n longer =
        let c = length (delivered_messages h d) in
        let same : c ≡ length (delivered_messages h e) = ap (λ b. length (delivered_messages h b)) (ledger-one_edge sys.flow w p d e is i r) in
        leq_from (c ∷ []) m.at (n ∷ []) (sym (ledger-number sys h p d m is k i)) (line-leq c n (omega arith))

ledger-order : (sys : System) (h : List Event) → IsWellFormed sys.flow → IsLegal sys h → (p : ℕ) → kind_of sys.flow p ≡ Ledger → IsInOrder Ledger (events_at sys.flow p h)
ledger-order sys [] w l p is = tt
ledger-order sys (v ∷ h) w l p is = after v l.0 (ledger-order sys h w l.1 p is)
  where
    vs : List Event
    vs = events_at sys.flow p h

    after : (v : Event) → IsEnabled sys h v → IsInOrder Ledger (events_at sys.flow p h) → IsInOrder Ledger (events_at sys.flow p (v ∷ h))
    after (Inject s x) k rest = cond_both (s == p) (Inject s x ∷ vs) vs (IsInOrder Ledger) (λ c. absurd (ledger-no_inject sys h p s x is k (eqb-true s p c))) (λ c. rest)
    after (Notify q t) k rest = cond_both (q == p) (Notify q t ∷ vs) vs (IsInOrder Ledger) (λ c. absurd (ledger-no_notice sys h p q t is k (eqb-true q p c))) (λ c. rest)
    after (Deliver e m) k rest = cond_both (receiver sys.flow e == p) (Deliver e m ∷ vs) vs (IsInOrder Ledger)
        (λ c.
        let r = eqb-true (receiver sys.flow e) p c in
        let n = length (delivered_messages h e) ∷ [] in (
          each-weaker (λ w. leq (event_stamp w) n ≡ true) (λ w. leq (event_stamp w) m.at ≡ true) vs
              (λ w i. leq_to (event_stamp w) n m.at (sym (ledger-number sys h p e m is k r)) i) (ledger-below sys h w l.1 p e is r),
          rest,
        ))
        (λ c. rest)

pub read-in_order : (sys : System) (h : List Event) → IsWellFormed sys.flow → HasEpochs sys → IsLegal sys h → (p : ℕ) → IsInOrder (kind_of sys.flow p) (events_at sys.flow p h)
read-in_order sys h w b l p = by (kind_of sys.flow p) refl
  where
    by : (kind : Kind) → kind_of sys.flow p ≡ kind → IsInOrder kind (events_at sys.flow p h)
    by Sequence is = sequence-order (events_at sys.flow p h) (sequences-in_order sys h w b l p is).in_order
    by Ledger is = ledger-order sys h w l p is
    by kind is = any_order kind (λ e. cc) (λ e. cc) (events_at sys.flow p h)
