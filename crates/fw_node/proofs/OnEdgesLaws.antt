-- On which edges the events of a node deliver.
use Rattle.std.proofs.Common.{◌≡◌, ℕ, ◌<◌, ◌≤◌, Bool, true, List, [], ◌∷◌, length, ap, inl, inr, arith}
use Rattle.std.specs.Prelude.{◌||◌, ◌==◌}
use Rattle.std.specs.List.{AllByRecursion, list_any}
use Rattle.std.proofs.lemmas.Bool.{cases_lt, cond_both, eqb-true, or_left, or_right}
use Rattle.std.proofs.lemmas.List.{get_or_past}
use Rattle.fw_lemmas.proofs.Each.{each-weaker}
use Rattle.fw_lemmas.proofs.Numbers.{eqb-self}
use Rattle.fw_time.specs.Stamp.{Stamp}
use Rattle.fw_flow.specs.declared.event.Event.{Event}
use Rattle.fw_flow.specs.declared.event.Event.TheVariants.{Inject, Deliver, Notify}
use Rattle.fw_flow.specs.declared.node.Edge.{Edge}
use Rattle.fw_flow.specs.Dataflow.{Dataflow, in_edges, receiver}
use Rattle.fw_flow.specs.Projection.{events_at}
use Rattle.fw_flow.proofs.EdgeLaws.{in_edges-at}
use Rattle.fw_model.specs.Filtering.{events_inside}
use Rattle.fw_node.specs.Arrived.{AreOnEdges, IsOneOf}
use Rattle.fw_node.specs.LawsOfAnswers.{EventsComeOnInEdges}

each_among : (xs : List ℕ) → AllByRecursion (λ d. list_any (λ x. x == d) xs ≡ true) xs
each_among [] = tt
each_among (x ∷ xs) = (
  or_left (x == x) (list_any (λ y. y == x) xs) (eqb-self x),
  each-weaker (λ d. list_any (λ y. y == d) xs ≡ true) (λ d. ((x == d) || list_any (λ y. y == d) xs) ≡ true) xs (λ d h. or_right (x == d) (list_any (λ y. y == d) xs) h) (each_among xs),
)

receiver-past : (flow : Dataflow) (e : ℕ) → length flow.edges ≤ e → receiver flow e ≡ length flow.nodes
unfolding receiver
receiver-past flow e m =
    ap (λ (x : Edge). x.receiver) (get_or_past flow.edges e (record { name = []; sender = length flow.nodes; receiver = length flow.nodes }) m)

-- an edge that a node receives on is one of its in-edges
received-on : (flow : Dataflow) (p e : ℕ) → p < length flow.nodes → receiver flow e ≡ p → IsOneOf (in_edges flow p) e
received-on flow p e l r = elim (cases_lt e (length flow.edges)) [
  | inl m ↦ in_edges-at (IsOneOf (in_edges flow p)) flow p (each_among (in_edges flow p)) e m r
  | inr m ↦ let n = receiver-past flow e m in absurd (omega arith)
]

events-on : (flow : Dataflow) (p : ℕ) → p < length flow.nodes → (h : List Event) → AreOnEdges (in_edges flow p) (events_at flow p h)
events-on flow p l [] = tt
events-on flow p l (Inject s x ∷ h) =
    let vs = events_at flow p h in
    cond_both (s == p) (Inject s x ∷ vs) vs (AreOnEdges (in_edges flow p)) (λ e. events-on flow p l h) (λ e. events-on flow p l h)
events-on flow p l (Deliver d m ∷ h) =
    let vs = events_at flow p h in
    cond_both (receiver flow d == p) (Deliver d m ∷ vs) vs (AreOnEdges (in_edges flow p))
    (λ e. (received-on flow p d l (eqb-true (receiver flow d) p e), events-on flow p l h)) (λ e. events-on flow p l h)
events-on flow p l (Notify q t ∷ h) =
    let vs = events_at flow p h in
    cond_both (q == p) (Notify q t ∷ vs) vs (AreOnEdges (in_edges flow p)) (λ e. events-on flow p l h) (λ e. events-on flow p l h)

inside-on : (ins : List ℕ) (f : Stamp → Bool) (vs : List Event) → AreOnEdges ins vs → AreOnEdges ins (events_inside f vs)
inside-on ins f [] o = tt
inside-on ins f (Inject s x ∷ vs) o =
    let rest = events_inside f vs in
    cond_both (f (x ∷ [])) (Inject s x ∷ rest) rest (AreOnEdges ins) (λ e. inside-on ins f vs o) (λ e. inside-on ins f vs o)
inside-on ins f (Deliver d m ∷ vs) o =
    let rest = events_inside f vs in
    cond_both (f m.at) (Deliver d m ∷ rest) rest (AreOnEdges ins) (λ e. (o.0, inside-on ins f vs o.1)) (λ e. inside-on ins f vs o.1)
inside-on ins f (Notify q t ∷ vs) o =
    let rest = events_inside f vs in
    cond_both (f t) (Notify q t ∷ rest) rest (AreOnEdges ins) (λ e. inside-on ins f vs o) (λ e. inside-on ins f vs o)

pub events_come_on_in_edges : EventsComeOnInEdges
events_come_on_in_edges flow p l h f = (events-on flow p l h, inside-on (in_edges flow p) f (events_at flow p h) (events-on flow p l h))
