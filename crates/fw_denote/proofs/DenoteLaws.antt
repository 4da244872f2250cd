-- When bags by node are the denotation.
use Rattle.std.proofs.Common.{◌≡◌, ℕ, zero, suc, ◌+◌, ◌*◌, ◌≤◌, List, [], length, map, replicate, refl, sym, ap, subst, ◌∙◌, inl, inr, lit≤, arith}
use Rattle.std.specs.List.{range_with_len}
use Rattle.std.proofs.Math.Nat.{mul-le-mul, le_trans}
use Rattle.std.proofs.lemmas.List.{get_or_past, length-replicate}
use Rattle.std.proofs.lemmas.List.FromFn.{get_or-map-range_with_len, length-map-range_with_len}
use Rattle.std.proofs.lemmas.Bool.{cases_lt}
use Rattle.fw_flow.specs.declared.node.Edge.{Edge}
use Rattle.fw_flow.specs.Dataflow.{Dataflow, System, kind_of, sender}
use Rattle.fw_flow.specs.WellFormed.{IsWellFormed}
use Rattle.fw_flow.specs.WholeBags.{Timed, in_order}
use Rattle.fw_model.specs.Carried.{carried_timed}
use Rattle.fw_model.specs.Denotation.{Family, IsDenotation, rounds}
use Rattle.fw_model.specs.Measure.{Measure, enough_rounds}
use Rattle.fw_model.proofs.CarriedLaws.{carried_timed-none, carried_timed-in_order}
use Rattle.fw_model.proofs.MeasureLaws.{measure-exists}
use Rattle.fw_model.proofs.DependenceLaws.{recs_decide}
use Rattle.fw_model.proofs.DenotationLaws.{denotation-exists, denotation-in_order, outputs_of-same, past-outputs}
use Rattle.fw_denote.specs.Domains.{AreOut}
use Rattle.fw_denote.specs.Holding.{AreBagsHeld, IsSolved, AreRight, family_held, family_on, bag_sent_by}

-- past the last edge nothing is held
past-sender : (flow : Dataflow) (e : ℕ) → length flow.edges ≤ e → sender flow e ≡ length flow.nodes
unfolding sender
past-sender flow e l = ap (λ (d : Edge). d.sender) (get_or_past flow.edges e (record { name = []; sender = length flow.nodes; receiver = length flow.nodes }) l)

past-held : (flow : Dataflow) (bags : List (List Timed)) → AreBagsHeld flow bags → (e : ℕ) → length flow.edges ≤ e → family_held flow bags e ≡ []
past-held flow bags h e l =
    let s = past-sender flow e l in
    let n = h.one_each in
    ap (carried_timed flow e) (get_or_past bags (sender flow e) [] (omega arith)) ∙ carried_timed-none flow e

-- what is held of each edge is in order
pub held-in_order : (flow : Dataflow) (bags : List (List Timed)) → AreBagsHeld flow bags → (e : ℕ) → in_order (family_held flow bags e) ≡ family_held flow bags e
held-in_order flow bags h e = carried_timed-in_order flow e (bag_sent_by bags (sender flow e)) (h.in_order (sender flow e))

-- bags that solve the equations of the nodes are the denotation
pub solved-denotes : (sys : System) → IsWellFormed sys.flow → (bags : List (List Timed)) → AreBagsHeld sys.flow bags → IsSolved sys bags
    → IsDenotation sys (family_held sys.flow bags)
solved-denotes sys w bags h s e = elim (cases_lt e (length sys.flow.edges)) [
  | inl l ↦ ap (carried_timed sys.flow e) (s (sender sys.flow e) (w.senders_declared e l))
  | inr l ↦ past-held sys.flow bags h e l ∙ sym (ap (carried_timed sys.flow e) (past-outputs sys (family_held sys.flow bags) e l) ∙ carried_timed-none sys.flow e)
]

-- so are bags that are right at each measure
pub right-denotes : (sys : System) → IsWellFormed sys.flow → (bags : List (List Timed)) → AreBagsHeld sys.flow bags → (m : ℕ) → enough_rounds sys.flow ≤ m
    → ((by : Measure sys.flow) (family : Family) → IsDenotation sys family → AreRight sys.flow by family 0 m bags)
    → IsDenotation sys (family_held sys.flow bags)
right-denotes sys w bags h m l f =
    let flow = sys.flow in
    let by = measure-exists flow w in
    let family = rounds sys (enough_rounds flow) in
    let d = denotation-exists sys w in
    let a = f by family d in
    let agree : (e : ℕ) → family_held flow bags e ≡ family e =
    λ e. elim (cases_lt e (length flow.edges)) [
      | inl k ↦ recs_decide (family_held flow bags e) (family e) (held-in_order flow bags h e) (denotation-in_order sys family d e)
          (λ t. a.each e k t (let b = by.bound _ (w.receivers_declared e k) t in omega arith))
      | inr k ↦ past-held flow bags h e k ∙ sym (d e ∙ ap (carried_timed flow e) (past-outputs sys family e k) ∙ carried_timed-none flow e)
    ] in
    λ e. agree e ∙ d e ∙ sym (ap (carried_timed flow e) (outputs_of-same sys (family_held flow bags) family agree (sender flow e)))

-- ---- no bags

none-there : (n p : ℕ) → bag_sent_by (replicate n []) p ≡ []
none-there zero p = refl
none-there (suc n) zero = refl
none-there (suc n) (suc p) = none-there n p

pub none_held : (flow : Dataflow) → AreBagsHeld flow (replicate (length flow.nodes) [])
none_held flow =
    let n = length flow.nodes in
    record {
      one_each = length-replicate n [];
      in_order = λ p. subst (λ (rs : List Timed). in_order rs ≡ rs) (sym (none-there n p)) refl;
      in_domain = λ p. subst (AreOut flow (kind_of flow p)) (sym (none-there n p)) tt;
    }

-- no bags are right below measure 0
pub none_right : (flow : Dataflow) (by : Measure flow) (family : Family) (bags : List (List Timed)) → AreRight flow by family 0 0 bags
none_right flow by family bags = record { each = λ e l t k. absurd (omega arith); first = λ e l s t k. absurd (omega arith) }

-- ---- how many rounds there are

product-fits : (n : ℕ) → n ≤ 256 → (n + 1) * (1025 * (n + 1)) * (1025 * (n + 1)) * (1025 * (n + 1)) ≤ 18446744073709551615
product-fits n l =
    let b : 1025 * (n + 1) ≤ 263425 = omega arith in
    let a : n + 1 ≤ 257 = omega arith in
    le_trans (mul-le-mul (mul-le-mul (mul-le-mul a b) b) b) (lit≤ tt)

pub enough-fits : (flow : Dataflow) → IsWellFormed flow → enough_rounds flow ≤ 18446744073709551615
unfolding enough_rounds
enough-fits flow w = product-fits (length flow.nodes) w.limits.nodes

-- ---- by edges

on_edges : (flow : Dataflow) (bags : List (List Timed)) → AreBagsHeld flow bags → (e : ℕ)
    → family_on (map (family_held flow bags) (range_with_len 0 (length flow.edges))) e ≡ family_held flow bags e
on_edges flow bags h e =
    let n = length flow.edges in
    elim (cases_lt e n) [
      | inl l ↦ get_or-map-range_with_len (family_held flow bags) 0 n e e [] l (omega arith)
      | inr l ↦ get_or_past (map (family_held flow bags) (range_with_len 0 n)) e [] (omega (arith, length-map-range_with_len (family_held flow bags) 0 n)) ∙ sym (past-held flow bags h e l)
    ]

-- the denotation by nodes, seen by edges
pub denotes_on : (sys : System) (bags on : List (List Timed)) → AreBagsHeld sys.flow bags → IsDenotation sys (family_held sys.flow bags)
    → on ≡ map (family_held sys.flow bags) (range_with_len 0 (length sys.flow.edges)) → IsDenotation sys (family_on on)
denotes_on sys bags on h d i =
    let same : (e : ℕ) → family_on on e ≡ family_held sys.flow bags e = λ e. ap (λ xs. family_on xs e) i ∙ on_edges sys.flow bags h e in
    λ e. same e ∙ d e ∙ sym (ap (carried_timed sys.flow e) (outputs_of-same sys (family_on on) (family_held sys.flow bags) same (sender sys.flow e)))
