-- The denotation exists and is the only one.
use Rattle.std.proofs.Common.{◌≡◌, ℕ, zero, suc, ◌<◌, ◌≤◌, [], length, get_or, map, refl, sym, ap, subst, ◌∙◌, inl, inr, ◌⊎◌, arith}
use Rattle.std.proofs.lemmas.Bool.{cases_lt}
use Rattle.std.proofs.lemmas.List.{get_or_past}
use Rattle.fw_lemmas.proofs.Each.{each-one}
use Rattle.fw_flow.specs.declared.kind.Kind.TheVariants.{OutputEpoch}
use Rattle.fw_flow.specs.declared.node.Edge.{Edge}
use Rattle.fw_flow.specs.Dataflow.{System, Dataflow, idle_node, kind_of, sender, receiver, in_edges, batches_of}
use Rattle.fw_flow.specs.WellFormed.{IsWellFormed}
use Rattle.fw_flow.specs.WholeBags.{Timed, in_order, outputs_of_kind, outputs_of}
use Rattle.fw_model.specs.Carried.{carried_timed}
use Rattle.fw_model.specs.Denotation.{Family, IsDenotation, rounds}
use Rattle.fw_model.specs.LawsOfDenotation.{DenotationIsTheOnlyOne, DenotationExists, UnchangedRoundIsDenotation, LaterRoundsAreTheSame, DenotationIsInOrder}
use Rattle.fw_model.proofs.TimedLaws.{IsAscendingTimed, ascending-in_order, how_often_timed, same_from_how_often, in_order-ascending}
use Rattle.fw_model.proofs.CarriedLaws.{carried_timed-none, carried_timed-ascending, carried_timed-how_often}
use Rattle.fw_model.proofs.MeasureLaws.{measure-exists}
use Rattle.fw_model.proofs.DependenceLaws.{AreAscending, map-agree, outputs-agree}
use Rattle.fw_model.specs.Measure.{Measure, enough_rounds}

-- ---- past the last edge

pub past_sender : (flow : Dataflow) (e : ℕ) → length flow.edges ≤ e → kind_of flow (sender flow e) ≡ OutputEpoch
unfolding kind_of sender
past_sender flow e l =
    let past = get_or_past flow.edges e (record { name = []; sender = length flow.nodes; receiver = length flow.nodes }) l in
    let last : length flow.nodes ≤ length flow.nodes = omega arith in
    ap (λ (d : Edge). (get_or flow.nodes d.sender idle_node).kind) past
    ∙ ap (λ n. n.kind) (get_or_past flow.nodes (length flow.nodes) idle_node last)

-- nothing is sent past the last edge
pub past-outputs : (sys : System) (family : Family) (e : ℕ) → length sys.flow.edges ≤ e → outputs_of sys family (sender sys.flow e) ≡ []
past-outputs sys family e l =
    let q = sender sys.flow e in
    ap (λ kind. in_order (outputs_of_kind sys.flow kind (batches_of sys q) (map family (in_edges sys.flow q)))) (past_sender sys.flow e l)

-- ---- solutions

pub denotation-ascending : (sys : System) (family : Family) → IsDenotation sys family → AreAscending family
denotation-ascending sys family d e =
    let q = sender sys.flow e in
    subst IsAscendingTimed (sym (d e))
    (carried_timed-ascending sys.flow e (outputs_of sys family q)
    (ascending-in_order (outputs_of_kind sys.flow (kind_of sys.flow q) (batches_of sys q) (map family (in_edges sys.flow q)))))

solutions-agree : (sys : System) → IsWellFormed sys.flow → (by : Measure sys.flow) (f g : Family) → IsDenotation sys f → IsDenotation sys g
    → (m e : ℕ) → e < length sys.flow.edges → (x : Timed) → by.measure (receiver sys.flow e) x.at < m
    → how_often_timed x (f e) ≡ how_often_timed x (g e)
solutions-agree sys w by f g a b zero e l x h = absurd (omega arith)
solutions-agree sys w by f g a b (suc m) e l x h =
    ap (how_often_timed x) (a e)
    ∙ carried_timed-how_often sys.flow e x (outputs_of sys f (sender sys.flow e)) (outputs_of sys g (sender sys.flow e))
    (outputs-agree sys w by f g (denotation-ascending sys f a) (denotation-ascending sys g b) e l x
    (λ d i r y k. solutions-agree sys w by f g a b m d i y
    (let s : by.measure (receiver sys.flow d) y.at ≡ by.measure (sender sys.flow e) y.at = ap (λ p. by.measure p y.at) r in omega arith)))
    ∙ sym (ap (how_often_timed x) (b e))

pub denotation-only : DenotationIsTheOnlyOne
denotation-only sys f g w a b e = elim (cases_lt e (length sys.flow.edges)) [
  | inl l ↦
      let by = measure-exists sys.flow w in
      same_from_how_often (f e) (g e) (denotation-ascending sys f a e) (denotation-ascending sys g b e)
      (λ x. solutions-agree sys w by f g a b (suc (by.measure (receiver sys.flow e) x.at)) e l x (omega arith))
  | inr l ↦ a e ∙ ap (carried_timed sys.flow e) (past-outputs sys f e l ∙ sym (past-outputs sys g e l)) ∙ sym (b e)
]

-- ---- rounds

pub rounds-ascending : (sys : System) (n : ℕ) → AreAscending (rounds sys n)
rounds-ascending sys zero e = ascending-in_order []
rounds-ascending sys (suc n) e =
    let q = sender sys.flow e in
    carried_timed-ascending sys.flow e (outputs_of sys (rounds sys n) q)
    (ascending-in_order (outputs_of_kind sys.flow (kind_of sys.flow q) (batches_of sys q) (map (rounds sys n) (in_edges sys.flow q))))

rounds-agree : (sys : System) → IsWellFormed sys.flow → (by : Measure sys.flow) (m k : ℕ) → m ≤ k → (e : ℕ) → e < length sys.flow.edges
    → (x : Timed) → by.measure (receiver sys.flow e) x.at < m
    → how_often_timed x (rounds sys k e) ≡ how_often_timed x (rounds sys (suc k) e)
rounds-agree sys w by zero k i e l x h = absurd (omega arith)
rounds-agree sys w by (suc m) zero i e l x h = absurd (omega arith)
rounds-agree sys w by (suc m) (suc k) i e l x h =
    carried_timed-how_often sys.flow e x (outputs_of sys (rounds sys k) (sender sys.flow e)) (outputs_of sys (rounds sys (suc k)) (sender sys.flow e))
    (outputs-agree sys w by (rounds sys k) (rounds sys (suc k)) (rounds-ascending sys k) (rounds-ascending sys (suc k)) e l x
    (λ d j r y v. rounds-agree sys w by m k (omega arith) d j y
    (let s : by.measure (receiver sys.flow d) y.at ≡ by.measure (sender sys.flow e) y.at = ap (λ p. by.measure p y.at) r in omega arith)))

past-rounds : (sys : System) (n e : ℕ) → length sys.flow.edges ≤ e → rounds sys n e ≡ []
past-rounds sys zero e l = refl
past-rounds sys (suc n) e l = ap (carried_timed sys.flow e) (past-outputs sys (rounds sys n) e l) ∙ carried_timed-none sys.flow e

pub denotation-exists : DenotationExists
denotation-exists sys w e =
    let flow = sys.flow in
    let n = enough_rounds flow in
    elim (cases_lt e (length flow.edges)) [
      | inl l ↦
          let by = measure-exists flow w in
          same_from_how_often (rounds sys n e) (rounds sys (suc n) e) (rounds-ascending sys n e) (rounds-ascending sys (suc n) e)
          (λ x. rounds-agree sys w by n n (omega arith) e l x (by.bound (receiver flow e) (w.receivers_declared e l) x.at))
      | inr l ↦ past-rounds sys n e l ∙ sym (past-rounds sys (suc n) e l)
    ]

pub unchanged_round : UnchangedRoundIsDenotation
unchanged_round sys n h e = sym (h e)

-- families that are the same give the same
pub outputs_of-same : (sys : System) (f g : Family) → ((e : ℕ) → f e ≡ g e) → (p : ℕ) → outputs_of sys f p ≡ outputs_of sys g p
outputs_of-same sys f g h p =
    ap (λ bags. in_order (outputs_of_kind sys.flow (kind_of sys.flow p) (batches_of sys p) bags))
    (map-agree f g (in_edges sys.flow p) (each-one (λ e. f e ≡ g e) (in_edges sys.flow p) h))

cases_last : (n m : ℕ) → n ≤ suc m → (n ≡ suc m) ⊎ (n ≤ m)
cases_last n m h = grind arith

pub later_rounds : LaterRoundsAreTheSame
later_rounds sys n zero d l e = let z : zero ≡ n = omega arith in ap (λ k. rounds sys k e) z
later_rounds sys n (suc m) d l e = elim (cases_last n m l) [
  | inl z ↦ ap (λ k. rounds sys k e) (sym z)
  | inr i ↦ ap (carried_timed sys.flow e) (outputs_of-same sys (rounds sys m) (rounds sys n) (λ x. later_rounds sys n m d i x) (sender sys.flow e)) ∙ sym (d e)
]

pub denotation-in_order : DenotationIsInOrder
denotation-in_order sys family d e = in_order-ascending (family e) (denotation-ascending sys family d e)
