-- What an edge of a well-formed dataflow joins, its projections by the kind of its sender, and the in-edges of a node.
use Rattle.std.proofs.Common.{◌≡◌, ℕ, zero, suc, ◌+◌, ◌≤◌, ◌<◌, Bool, true, false, ◌&&◌, ◌==◌, cond, nat_lt, List, [], ◌∷◌, length, get_or, refl, sym, ap, subst, ◌∙◌, arith}
use Rattle.std.specs.List.{AllByRecursion}
use Rattle.std.proofs.lemmas.Bool.{eqb-true, eq-eqb}
use Rattle.std.proofs.lemmas.Bool.Decides.{nat_tests}
use Rattle.std.proofs.lemmas.List.{get_or_past}
use Rattle.std.specs.Prelude.{Result, IfOk}
use Rattle.std.proofs.lemmas.Result.{IfOk-weaker}
use Rattle.fw_time.specs.declared.stamp.Bounds.{Bounds}
use Rattle.fw_time.specs.Stamp.{Stamp, in_domain}
use Rattle.fw_frontier.specs.Frontier.{Frontier}
use Rattle.fw_frontier.specs.Front.{Front, frontier_of, IsFrontOf}
use Rattle.fw_frontier.proofs.BelowLaws.{names-as}
use Rattle.fw_flow.specs.declared.event.Event.{Event}
use Rattle.fw_flow.specs.Kind.{Kind}
use Rattle.fw_flow.specs.declared.kind.Kind.TheVariants.{OutputEpoch, Sequence}
use Rattle.fw_flow.specs.declared.node.Edge.{Edge}
use Rattle.fw_flow.specs.Dataflow.{System, Dataflow, idle_node, kind_of, sender, receiver, edges_into, in_edges, domain_of, domain_of_kind, out_domain_of, out_domain_of_kind, greatest_of_kind, bounds_of, bounds_of_domain, bounds_of_edge}
use Rattle.fw_flow.specs.WellFormed.{IsWellFormed, IsGroupSize}
use Rattle.fw_flow.specs.Projection.{phi_of_kind, psi_of_kind, psi_back_of_kind, phi, phi_by_count, psi, psi_back, table_count, IsSentTable}
use Rattle.fw_flow.specs.ProjectedStamps.{AreEndsOf}
use Rattle.fw_flow.proofs.PickedEdges.{picked-at, picked-from}
use Rattle.fw_flow.proofs.ProjectionLaws.{phi-by_table}

-- past the last node stand idle outputs
pub kind-past : (flow : Dataflow) (p : ℕ) → length flow.nodes ≤ p → kind_of flow p ≡ OutputEpoch
unfolding kind_of
kind-past flow p h = ap (λ node. node.kind) (get_or_past flow.nodes p idle_node h)

-- by whether a place is among so many
pub by_place : (P : Type 0) (i n : ℕ) → (i < n → P) → (n ≤ i → P) → P
by_place P i n f g = by (nat_lt i n) refl
  where
    less : nat_lt i n ≡ true → i < n
    less e = grind (arith, nat_tests)

    past : nat_lt i n ≡ false → n ≤ i
    past e = grind (arith, nat_tests)

    by : (b : Bool) → nat_lt i n ≡ b → P
    by true e = f (less e)
    by false e = g (past e)

-- a node regroups by so many numbers as it may
pub group_size : (flow : Dataflow) → IsWellFormed flow → (p : ℕ) → IsGroupSize (kind_of flow p)
group_size flow w p = by_place (IsGroupSize (kind_of flow p)) p (length flow.nodes) (w.limits.groups p) (λ h. subst IsGroupSize (sym (kind-past flow p h)) tt)

-- past the last edge stand edges between idle outputs
ends-past : (flow : Dataflow) (e : ℕ) → length flow.edges ≤ e → (sender flow e ≡ length flow.nodes) × (receiver flow e ≡ length flow.nodes)
unfolding sender receiver
ends-past flow e h =
    let same = get_or_past flow.edges e (record { name = []; sender = length flow.nodes; receiver = length flow.nodes }) h in
    (ap (λ edge. edge.sender) same, ap (λ edge. edge.receiver) same)

-- an edge joins equal domains
edge-domains : (flow : Dataflow) → IsWellFormed flow → (e : ℕ) → out_domain_of flow (sender flow e) ≡ domain_of flow (receiver flow e)
edge-domains flow w e = by_place (out_domain_of flow (sender flow e) ≡ domain_of flow (receiver flow e)) e (length flow.edges) (w.domains e) past
  where
    past : length flow.edges ≤ e → out_domain_of flow (sender flow e) ≡ domain_of flow (receiver flow e)
    past h =
        let ends = ends-past flow e h in
        ap (out_domain_of_kind flow) (ap (kind_of flow) ends.0 ∙ kind-past flow (length flow.nodes) (omega arith))
        ∙ sym (ap (domain_of_kind flow) (ap (kind_of flow) ends.1 ∙ kind-past flow (length flow.nodes) (omega arith)))

-- the ends of an edge of a well-formed dataflow
pub ends-of : (flow : Dataflow) → IsWellFormed flow → (e : ℕ) {kind : Kind} {from to : Bounds} → kind ≡ kind_of flow (sender flow e) → from ≡ bounds_of flow (sender flow e)
    → to ≡ bounds_of flow (receiver flow e) → AreEndsOf flow e kind from to
unfolding bounds_of
ends-of flow w e is_kind is_from is_to =
    let is_out = is_to ∙ ap (bounds_of_domain flow) (sym (edge-domains flow w e)) in
    record {
      is_kind = is_kind;
      is_from = is_from;
      is_to = is_to;
      is_out = is_out;
      group = subst IsGroupSize (sym is_kind) (group_size flow w (sender flow e));
      domains = record {
        flow = flow;
        of_sender = is_from ∙ ap (λ k. bounds_of_domain flow (domain_of_kind flow k)) (sym is_kind);
        of_receiver = is_out ∙ ap (λ k. bounds_of_domain flow (out_domain_of_kind flow k)) (sym is_kind);
      };
    }

-- ---- the projections of an edge, by its ends

-- what names a frontier names it by other bounds and another test that are the same
named_as : {E : Type 0} {b other : Bounds} {f : Frontier} (res : Result Front E) (g : Frontier) → b ≡ other → ((u : Stamp) → f u ≡ g u)
    → IfOk res (λ os. IsFrontOf b os f) → IfOk res (λ os. IsFrontOf other os g)
named_as {b = b} {other} {f} res g e same =
    IfOk-weaker res (λ os. IsFrontOf b os f) (λ os. IsFrontOf other os g) (λ os n. subst (λ b. IsFrontOf b os g) e (names-as b os f g n same))

pub phi-counted : {E : Type 0} {flow : Dataflow} {e : ℕ} {kind : Kind} {from to : Bounds} → AreEndsOf flow e kind from to → (os : Front) (table : List (ℕ × ℕ)) (res : Result Front E)
    → IfOk res (λ g. IsFrontOf to g (λ u. in_domain to u && phi_of_kind from.greatest kind (table_count (frontier_of from os) table) (frontier_of from os) u))
    → IfOk res (λ g. IsFrontOf (bounds_of flow (receiver flow e)) g
    (phi_by_count flow (table_count (frontier_of (bounds_of flow (sender flow e)) os) table) e (frontier_of (bounds_of flow (sender flow e)) os)))
unfolding bounds_of phi_by_count
phi-counted {flow = flow} {e} is os table res =
    let f = frontier_of (bounds_of flow (sender flow e)) os in
    named_as res (phi_by_count flow (table_count f table) e f) is.is_to
    (λ u i. in_domain (is.is_out i) u && phi_of_kind (is.is_from i).greatest (is.is_kind i) (table_count (frontier_of (is.is_from i) os) table) (frontier_of (is.is_from i) os) u)

pub phi-named : {E : Type 0} {flow : Dataflow} {e : ℕ} {kind : Kind} {from to : Bounds} → AreEndsOf flow e kind from to → (os : Front) (table : List (ℕ × ℕ)) (res : Result Front E)
    → (sys : System) (h : List Event) → sys.flow ≡ flow → (kind_of flow (sender flow e) ≡ Sequence → IsSentTable sys h (sender flow e) table)
    → IfOk res (λ g. IsFrontOf to g (λ u. in_domain to u && phi_of_kind from.greatest kind (table_count (frontier_of from os) table) (frontier_of from os) u))
    → IfOk res (λ g. IsFrontOf (bounds_of flow (receiver flow e)) g (phi sys h e (frontier_of (bounds_of flow (sender flow e)) os)))
unfolding bounds_of
phi-named {flow = flow} {e} is os table res sys h same counted =
    let f = frontier_of (bounds_of flow (sender flow e)) os in
    named_as res (phi sys h e f) is.is_to
    (λ u. (λ i. in_domain (is.is_out i) u && phi_of_kind (is.is_from i).greatest (is.is_kind i) (table_count (frontier_of (is.is_from i) os) table) (frontier_of (is.is_from i) os) u)
    ∙ ap (λ flow. in_domain (bounds_of_edge flow e) u && phi_of_kind (greatest_of_kind flow (kind_of flow (sender flow e))) (kind_of flow (sender flow e)) (table_count f table) f u) (sym same)
    ∙ sym (phi-by_table sys h e f table (subst (λ flow. kind_of flow (sender flow e) ≡ Sequence → IsSentTable sys h (sender flow e) table) (sym same) counted) u))

pub psi-named : {E : Type 0} {flow : Dataflow} {e : ℕ} {kind : Kind} {from to : Bounds} → AreEndsOf flow e kind from to → (os : Front) (res : Result Front E)
    → IfOk res (λ g. IsFrontOf to g (λ u. in_domain to u && psi_of_kind from.greatest kind (frontier_of from os) u))
    → IfOk res (λ g. IsFrontOf (bounds_of flow (receiver flow e)) g (psi flow e (frontier_of (bounds_of flow (sender flow e)) os)))
unfolding bounds_of psi
psi-named {flow = flow} {e} is os res =
    named_as res (psi flow e (frontier_of (bounds_of flow (sender flow e)) os)) is.is_to
    (λ u i. in_domain (is.is_out i) u && psi_of_kind (is.is_from i).greatest (is.is_kind i) (frontier_of (is.is_from i) os) u)

pub psi_back-named : {E : Type 0} {flow : Dataflow} {e : ℕ} {kind : Kind} {from to : Bounds} → AreEndsOf flow e kind from to → (os : Front) (res : Result Front E)
    → IfOk res (λ g. IsFrontOf from g (λ t. in_domain from t && psi_back_of_kind from.greatest kind (frontier_of to os) t))
    → IfOk res (λ g. IsFrontOf (bounds_of flow (sender flow e)) g (psi_back flow e (frontier_of (bounds_of flow (receiver flow e)) os)))
unfolding bounds_of psi_back
psi_back-named {flow = flow} {e} is os res =
    named_as res (psi_back flow e (frontier_of (bounds_of flow (receiver flow e)) os)) is.is_from
    (λ t i. in_domain (is.is_from i) t && psi_back_of_kind (is.is_from i).greatest (is.is_kind i) (frontier_of (is.is_to i) os) t)

-- ---- the in-edges of a node are the edges that it receives on

pub into-from : (P : ℕ → Type 0) (n : ℕ) (es : List Edge) (p : ℕ) (d : Edge) → ((i : ℕ) → i < length es → (get_or es i d).receiver ≡ p → P (n + i))
    → AllByRecursion P (edges_into n es p)
into-from P n es p d h = picked-from (λ k fs. edges_into k fs p) (λ e. e.receiver) p (λ k. refl) (λ k e fs. refl) P n es d h

-- what holds of each in-edge of a node holds of each edge that it receives on
pub in_edges-at : (P : ℕ → Type 0) (flow : Dataflow) (p : ℕ) → AllByRecursion P (in_edges flow p) → (e : ℕ) → e < length flow.edges → receiver flow e ≡ p → P e
unfolding in_edges receiver
in_edges-at P flow p a e l r =
    let at : P (0 + e) = picked-at (λ k fs. edges_into k fs p) (λ d. d.receiver) p (λ k d fs. refl) P 0 flow.edges (record { name = []; sender = length flow.nodes; receiver = length flow.nodes }) a e l r in
    subst P (omega arith) at

pub in_edges-from : (P : ℕ → Type 0) (flow : Dataflow) (p : ℕ) → ((e : ℕ) → e < length flow.edges → receiver flow e ≡ p → P e) → AllByRecursion P (in_edges flow p)
unfolding in_edges receiver
in_edges-from P flow p h =
    into-from P 0 flow.edges p (record { name = []; sender = length flow.nodes; receiver = length flow.nodes }) (λ e l r. subst P (omega arith) (h e l r))
