-- The tests of the rules, place by place.
use Rattle.std.proofs.Common.{◌≡◌, ◌↔◌, ℕ, zero, suc, ◌<◌, Bool, true, List, [], ◌∷◌, length, sym, ap, ◌∙◌, subst, arith, get_or, inl, inr, Some, None}
use Rattle.std.proofs.lemmas.Bool.{or_cases, or_left, or_right, false≢true}
use Rattle.std.proofs.lemmas.List.{get_or_default}
use Rattle.std.proofs.lemmas.Option.{slice_get-get_or}
use Rattle.std.specs.List.{list_any}
use Rattle.fw_flow.specs.Kind.{Kind}
use Rattle.fw_flow.specs.declared.node.Loop.{Loop}
use Rattle.fw_flow.specs.declared.node.Node.{Node}
use Rattle.fw_flow.specs.declared.walks.Link.{Link}
use Rattle.fw_flow.specs.Check.{HoldsBelow, IsFirstBreak, JoinsDomains, HasAllowedPolicy, HasNodeOf}
use Rattle.fw_flow.specs.Dataflow.{Dataflow, idle_node, declared_parent, ends_within, kind_of, policy_of, sender, receiver, domain_of_kind, out_domain_of_kind}
use Rattle.fw_flow.specs.Walks.{AreWithin, IsMadeOf, link_at, listed_kind}
use Rattle.fw_flow.specs.WellFormed.{IsInDegree, IsOutDegree, IsPolicyAllowed}
use Rattle.std.specs.declared.alloc.Global.{Global}
use Rattle.std.specs.declared.vec.Vec.{Vec}
use Rattle.fw_flow.specs.Flow.{edges_at}
use Rattle.fw_flow.proofs.FlowLaws.{edges_there}
use Rattle.fw_flow.proofs.Flows.{edges_of, kinds_of}

-- at this place the rule does not hold, and at all earlier ones it does
pub IsFirstBreak-here : (Rule : ℕ → Type 0) (lines : List ℕ) (place : ℕ) → place < length lines → HoldsBelow Rule place → (Rule place → ⊥) → IsFirstBreak Rule lines (get_or lines place 0)
IsFirstBreak-here Rule lines place lt earlier broken = record {
  place = place;
  there = slice_get-get_or lines place 0 lt;
  earlier = earlier;
  broken = broken;
}

-- ---- policies

policies_of : (flow : Dataflow) (nodes : List Node) → flow.nodes ≡ nodes → (p : ℕ) (node : Node) → node ≡ get_or nodes p node → p < length nodes
    → (kind_of flow p ≡ node.kind) × (policy_of flow p ≡ node.policy)
unfolding kind_of policy_of
policies_of flow nodes e p node is lt =
    let same : get_or flow.nodes p idle_node ≡ node = ap (λ ns. get_or ns p idle_node) e ∙ get_or_default nodes p idle_node node lt ∙ sym is in
    (ap (λ (n : Node). n.kind) same, ap (λ (n : Node). n.policy) same)

pub HasAllowedPolicy-from_node : (flow : Dataflow) (nodes : List Node) → flow.nodes ≡ nodes → (p : ℕ) (node : Node) → node ≡ get_or nodes p node → p < length nodes
    → IsPolicyAllowed node.kind node.policy → HasAllowedPolicy flow p
HasAllowedPolicy-from_node flow nodes e p node is lt h =
    let parts = policies_of flow nodes e p node is lt in
    subst (λ k. IsPolicyAllowed k (policy_of flow p)) (sym parts.0) (subst (IsPolicyAllowed node.kind) (sym parts.1) h)

pub HasAllowedPolicy-at_node : (flow : Dataflow) (nodes : List Node) → flow.nodes ≡ nodes → (p : ℕ) (node : Node) → node ≡ get_or nodes p node → p < length nodes
    → HasAllowedPolicy flow p → IsPolicyAllowed node.kind node.policy
HasAllowedPolicy-at_node flow nodes e p node is lt h =
    let parts = policies_of flow nodes e p node is lt in
    subst (IsPolicyAllowed node.kind) parts.1 (subst (λ k. IsPolicyAllowed k (policy_of flow p)) parts.0 h)

-- ---- chains

-- the chain from a loop is short where that from its parent is
pub chain_at : (flow : Dataflow) (loops : List Loop) → flow.loops ≡ loops → (l : ℕ) (a_loop : Loop) → a_loop ≡ get_or loops l a_loop → l < length loops
    → ends_within 3 flow (Some l) ≡ ends_within 2 flow a_loop.parent
unfolding declared_parent
chain_at flow loops e l a_loop is lt =
    let past : Loop = record { name = []; max = 0; parent = None } in
    ap (λ (x : Loop). ends_within 2 flow x.parent) (ap (λ ls. get_or ls l past) e ∙ get_or_default loops l past a_loop lt ∙ sym is)

-- ---- domains

-- an edge joins domains exactly where the kinds of the nodes of its link do
pub JoinsDomains-iff_kinds : (flow : Dataflow) (loops : List Loop) (nodes : List Node) (links : List Link) → IsMadeOf flow loops nodes links → AreWithin (length nodes) links → (e : ℕ) → e < length links
    → (d₁ d₂ : Node)
    → (out_domain_of_kind flow (get_or nodes (link_at links e).sender d₁).kind ≡ domain_of_kind flow (get_or nodes (link_at links e).receiver d₂).kind) ↔ JoinsDomains flow e
JoinsDomains-iff_kinds flow loops nodes links made within e lt d₁ d₂ =
    let edges = edges_of flow loops nodes links made in
    let s = (link_at links e).sender in
    let r = (link_at links e).receiver in
    let from : kind_of flow (sender flow e) ≡ (get_or nodes s d₁).kind =
    ap (kind_of flow) (sym (edges.senders e lt)) ∙ kinds_of flow loops nodes links made s ∙ ap (λ (n : Node). n.kind) (get_or_default nodes s idle_node d₁ (within.senders e lt)) in
    let to : kind_of flow (receiver flow e) ≡ (get_or nodes r d₂).kind =
    ap (kind_of flow) (sym (edges.receivers e lt)) ∙ kinds_of flow loops nodes links made r ∙ ap (λ (n : Node). n.kind) (get_or_default nodes r idle_node d₂ (within.receivers e lt)) in (
      λ h. ap (out_domain_of_kind flow) from ∙ h ∙ ap (domain_of_kind flow) (sym to),
      λ h. ap (out_domain_of_kind flow) (sym from) ∙ h ∙ ap (domain_of_kind flow) to,
    )

-- ---- degrees

-- the degrees of a node, by its lists of edges
pub HasDegrees-iff_lists : (nodes : List Node) (incoming outgoing : List (Vec ℕ Global)) (p : ℕ) (node : Node) (ins outs : Vec ℕ Global) (m n : ℕ)
    → p < length nodes → p < length incoming → p < length outgoing
    → node ≡ get_or nodes p node → ins ≡ get_or incoming p ins → outs ≡ get_or outgoing p outs → m ≡ length ins.items → n ≡ length outs.items
    → (IsInDegree node.kind m × IsOutDegree node.kind n) ↔ (IsInDegree (listed_kind nodes p) (length (edges_at incoming p)) × IsOutDegree (listed_kind nodes p) (length (edges_at outgoing p)))
HasDegrees-iff_lists nodes incoming outgoing p node ins outs m n below below_in below_out is_node is_in is_out count_in count_out =
    let kind : node.kind ≡ listed_kind nodes p = ap (λ (x : Node). x.kind) (is_node ∙ get_or_default nodes p node idle_node below) in
    let into : m ≡ length (edges_at incoming p) = count_in ∙ ap length (sym (edges_there incoming p ins below_in is_in)) in
    let out_of : n ≡ length (edges_at outgoing p) = count_out ∙ ap length (sym (edges_there outgoing p outs below_out is_out)) in
    let Degrees : Kind → ℕ → ℕ → Type 0 = λ k i o. IsInDegree k i × IsOutDegree k o in (
      λ h. subst (λ k. Degrees k (length (edges_at incoming p)) (length (edges_at outgoing p))) kind
          (subst (λ i. Degrees node.kind i (length (edges_at outgoing p))) into (subst (λ o. Degrees node.kind m o) out_of h)),
      λ h. subst (λ o. Degrees node.kind m o) (sym out_of)
          (subst (λ i. Degrees node.kind i (length (edges_at outgoing p))) (sym into) (subst (λ k. Degrees k (length (edges_at incoming p)) (length (edges_at outgoing p))) (sym kind) h)),
    )

-- ---- a node of a sort

any_at : (sort : Kind → Bool) (nodes : List Node) → list_any (λ (node : Node). sort node.kind) nodes ≡ true
    → (p : ℕ) × (p < length nodes) × (sort (listed_kind nodes p) ≡ true)
any_at sort [] h = absurd (false≢true h)
any_at sort (node ∷ nodes) h =
    elim (or_cases (sort node.kind) (list_any (λ (n : Node). sort n.kind) nodes) h) [
      | inl here ↦ (zero, omega arith, here)
      | inr later ↦ let rest = any_at sort nodes later in (suc rest.0, omega (arith, rest.1), rest.2)
    ]

any_from : (sort : Kind → Bool) (nodes : List Node) (p : ℕ) → p < length nodes → sort (listed_kind nodes p) ≡ true → list_any (λ (node : Node). sort node.kind) nodes ≡ true
any_from sort [] p lt h = absurd (omega arith)
any_from sort (node ∷ nodes) zero lt h = or_left (sort node.kind) (list_any (λ (n : Node). sort n.kind) nodes) h
any_from sort (node ∷ nodes) (suc p) lt h = or_right (sort node.kind) (list_any (λ (n : Node). sort n.kind) nodes) (any_from sort nodes p (omega arith) h)

pub HasNodeOf-from_any : (flow : Dataflow) (nodes : List Node) (sort : Kind → Bool) → flow.nodes ≡ nodes → list_any (λ (node : Node). sort node.kind) nodes ≡ true → HasNodeOf flow sort
unfolding kind_of
HasNodeOf-from_any flow nodes sort e h =
    let some = any_at sort flow.nodes (ap (list_any (λ (node : Node). sort node.kind)) e ∙ h) in
    (some.0, some.1, some.2)

pub any-from_HasNodeOf : (flow : Dataflow) (nodes : List Node) (sort : Kind → Bool) → flow.nodes ≡ nodes → HasNodeOf flow sort → list_any (λ (node : Node). sort node.kind) nodes ≡ true
unfolding kind_of
any-from_HasNodeOf flow nodes sort e h =
    ap (list_any (λ (node : Node). sort node.kind)) (sym e) ∙ any_from sort flow.nodes h.0 h.1 h.2
