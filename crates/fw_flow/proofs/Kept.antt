-- The links that are kept of a list, and the paths over them.
use Rattle.std.proofs.Common.{◌≡◌, inl, inr, ℕ, ◌+◌, ◌<◌, Bool, true, false, not, ◌&&◌, ◌==◌, nat_le, List, [], ◌∷◌, ◌++◌, length, map, length-append, refl, sym, ap, ◌∙◌, subst, arith}
use Rattle.std.proofs.lemmas.Bool.{cases_lt, cases_eq, true≢false}
use Rattle.std.proofs.lemmas.List.{get_or_append_left, get_or_push, get_or-map, length-map}
use Rattle.std.specs.Bool.{OnTrue, OnFalse}
use Rattle.fw_flow.specs.declared.walks.Link.{Link}
use Rattle.fw_flow.specs.declared.node.Node.{Node}
use Rattle.fw_flow.specs.Check.{HoldsBelow, JoinsDomains}
use Rattle.fw_flow.specs.Dataflow.{Dataflow, idle_node, kind_of, sender, receiver}
use Rattle.fw_flow.specs.Depths.{depth_of_kind, depth_of, depth_graph, ReturningPath, listed_depth, stays_deep, AreKept, ClosedPath}
use Rattle.fw_flow.specs.Walks.{Graph, IsPath, Path, graph_of, link_at, listed_kind, AreWithin, IsMadeOf}
use Rattle.fw_flow.specs.WellFormed.{is_feedback_kind}
use Rattle.fw_flow.proofs.Flows.{edges_of, kinds_of}

pub kept-none : (test : Link → Bool) (links : List Link) → AreKept test links 0 []
kept-none test links = record { only = λ k lt. absurd (omega arith); each = λ e lt h. absurd (omega arith) }

pub kept-skip : (test : Link → Bool) (links : List Link) (m : ℕ) (kept : List Link) → test (link_at links m) ≡ false → AreKept test links m kept → AreKept test links (m + 1) kept
kept-skip test links m kept out a = record {
  only = λ k lt. let x = a.only k lt in let l : x.0 < m = x.1 in (x.0, omega arith, x.2, x.3);
  each = λ e lt h. elim (cases_eq e m) [
    | inl same ↦ absurd (true≢false (sym h ∙ ap (λ i. test (link_at links i)) same ∙ out))
    | inr other ↦ a.each e (less e lt other) h
  ];
}
  where
    less : (e : ℕ) → e < m + 1 → (e ≡ m → ⊥) → e < m
    less e lt other = grind arith

pub kept-more : (test : Link → Bool) (links : List Link) (m : ℕ) (kept now : List Link) → test (link_at links m) ≡ true → now ≡ kept ++ link_at links m ∷ []
    → AreKept test links m kept → AreKept test links (m + 1) now
kept-more test links m kept now in_ is a =
    let long : length now ≡ length kept + 1 = ap length is ∙ length-append kept (link_at links m ∷ []) in
    let last : link_at now (length kept) ≡ link_at links m = ap (λ ls. link_at ls (length kept)) is ∙ get_or_push kept (link_at links m) (record { sender = 0; receiver = 0 }) (length kept) refl in
    let before : (k : ℕ) → k < length kept → link_at now k ≡ link_at kept k = λ k lt. ap (λ ls. link_at ls k) is ∙ get_or_append_left kept (link_at links m ∷ []) (record { sender = 0; receiver = 0 }) k lt in
    record {
      only = λ k lt. elim (cases_lt k (length kept)) [
        | inl old ↦ let x = a.only k old in let l : x.0 < m = x.1 in (x.0, omega arith, x.2, before k old ∙ x.3)
        | inr new ↦ let same : k ≡ length kept = omega arith in (m, omega arith, in_, ap (link_at now) same ∙ last)
      ];
      each = λ e lt h. elim (cases_eq e m) [
        | inl same ↦ (length kept, omega arith, last ∙ ap (link_at links) (sym same))
        | inr other ↦ let x = a.each e (less e lt other) h in let l : x.0 < length kept = x.1 in (x.0, omega arith, before x.0 x.1 ∙ x.2)
      ];
    }
  where
    less : (e : ℕ) → e < m + 1 → (e ≡ m → ⊥) → e < m
    less e lt other = grind arith

-- a graph over these links, of which the free ones are those that pass the test
pub record IsOver (test : Link → Bool) (links : List Link) (g : Graph) : Type 0 where
  pub size : g.size ≡ length links
  pub source : (e : ℕ) → e < length links → g.source e ≡ (link_at links e).sender
  pub target : (e : ℕ) → e < length links → g.target e ≡ (link_at links e).receiver
  pub free : (e : ℕ) → e < length links → g.is_free e ≡ test (link_at links e)

-- so many edges, from p to q
record Edges (g : Graph) (p q n : ℕ) : Type 0 where
  edges : List ℕ
  count : length edges ≡ n
  path : IsPath g p edges q

from_kept : (test : Link → Bool) (links kept : List Link) (g : Graph) → IsOver test links g → AreKept test links (length links) kept
    → (p : ℕ) (es : List ℕ) (q : ℕ) → IsPath (graph_of kept) p es q → Edges g p q (length es)
from_kept test links kept g o a p [] q h = record { edges = []; count = refl; path = h }
from_kept test links kept g o a p (k ∷ ks) q h =
    let x = a.only k h.0 in
    let e = x.0 in
    let rest = from_kept test links kept g o a (link_at kept k).receiver ks q h.3 in
    let to : (link_at kept k).receiver ≡ g.target e = ap (λ (l : Link). l.receiver) x.3 ∙ sym (o.target e x.1) in
    let s = o.size in
    let lt : e < length links = x.1 in
    let c = rest.count in
    record {
      edges = e ∷ rest.edges;
      count = omega arith;
      path = (
        omega arith,
        o.free e x.1 ∙ x.2,
        o.source e x.1 ∙ sym (ap (λ (l : Link). l.sender) x.3) ∙ h.2,
        subst (λ n. IsPath g n rest.edges q) to rest.path,
      );
    }

to_kept : (test : Link → Bool) (links kept : List Link) (g : Graph) → IsOver test links g → AreKept test links (length links) kept
    → (p : ℕ) (es : List ℕ) (q : ℕ) → IsPath g p es q → Edges (graph_of kept) p q (length es)
to_kept test links kept g o a p [] q h = record { edges = []; count = refl; path = h }
to_kept test links kept g o a p (e ∷ es) q h =
    let s = o.size in
    let below : e < length links = omega (arith, h.0) in
    let x = a.each e below (sym (o.free e below) ∙ h.1) in
    let k = x.0 in
    let rest = to_kept test links kept g o a (g.target e) es q h.3 in
    let to : g.target e ≡ (link_at kept k).receiver = o.target e below ∙ sym (ap (λ (l : Link). l.receiver) x.2) in
    let c = rest.count in
    record {
      edges = k ∷ rest.edges;
      count = omega arith;
      path = (
        x.1,
        refl,
        ap (λ (l : Link). l.sender) x.2 ∙ sym (o.source e below) ∙ h.2,
        subst (λ n. IsPath (graph_of kept) n rest.edges q) to rest.path,
      );
    }

-- a path over the kept links is one over the free edges
pub Path-from_kept : (test : Link → Bool) (links kept : List Link) (g : Graph) → IsOver test links g → AreKept test links (length links) kept
    → (p q : ℕ) → Path (graph_of kept) p q → Path g p q
Path-from_kept test links kept g o a p q path =
    let r = from_kept test links kept g o a p path.edges q path.path in
    record { edges = r.edges; some = omega (arith, r.count, path.some); path = r.path }

-- and the other way
pub Path-to_kept : (test : Link → Bool) (links kept : List Link) (g : Graph) → IsOver test links g → AreKept test links (length links) kept
    → (p q : ℕ) → Path g p q → Path (graph_of kept) p q
Path-to_kept test links kept g o a p q path =
    let r = to_kept test links kept g o a p path.edges q path.path in
    record { edges = r.edges; some = omega (arith, r.count, path.some); path = r.path }

-- ---- the links that count at a depth

-- the depths of the nodes of a dataflow
abbrev pub AreDepthsOf : Dataflow → List Node → List ℕ → Type 0
AreDepthsOf flow nodes depths = depths ≡ map (λ (node : Node). depth_of_kind flow node.kind) nodes

depth-listed : (flow : Dataflow) (nodes : List Node) (links : List Link) (depths : List ℕ) → IsMadeOf flow flow.loops nodes links → AreDepthsOf flow nodes depths
    → (p : ℕ) → p < length nodes → listed_depth depths p ≡ depth_of flow p
depth-listed flow nodes links depths made are p lt =
    ap (λ ds. listed_depth ds p) are ∙ get_or-map (λ (node : Node). depth_of_kind flow node.kind) nodes p idle_node 0 lt
    ∙ ap (depth_of_kind flow) (sym (kinds_of flow flow.loops nodes links made p))

over-depth : (flow : Dataflow) (nodes : List Node) (links : List Link) (depths : List ℕ) (depth : ℕ) → IsMadeOf flow flow.loops nodes links → AreWithin (length nodes) links
    → AreDepthsOf flow nodes depths → IsOver (stays_deep nodes depths depth) links (depth_graph flow depth)
over-depth flow nodes links depths depth made within are =
    let edges = edges_of flow flow.loops nodes links made in
    record {
      size = sym edges.count;
      source = λ e lt. sym (edges.senders e lt);
      target = λ e lt. sym (edges.receivers e lt);
      free = λ e lt.
          let s = (link_at links e).sender in
          let r = (link_at links e).receiver in
          let from : depth_of flow (sender flow e) ≡ listed_depth depths s =
          ap (depth_of flow) (sym (edges.senders e lt)) ∙ sym (depth-listed flow nodes links depths made are s (within.senders e lt)) in
          let to : depth_of flow (receiver flow e) ≡ listed_depth depths r =
          ap (depth_of flow) (sym (edges.receivers e lt)) ∙ sym (depth-listed flow nodes links depths made are r (within.receivers e lt)) in
          let kind : kind_of flow (sender flow e) ≡ listed_kind nodes s =
          ap (kind_of flow) (sym (edges.senders e lt)) ∙ kinds_of flow flow.loops nodes links made s in
          λ i. nat_le depth (from i) && (nat_le depth (to i) && not (is_feedback_kind (kind i) && (from i == depth)));
    }

-- the kept links join nodes too
pub kept-within : (test : Link → Bool) (n : ℕ) (links kept : List Link) → AreKept test links (length links) kept → AreWithin n links → AreWithin n kept
kept-within test n links kept a within = record {
  senders = λ k lt. let x = a.only k lt in subst (λ (l : Link). l.sender < n) (sym x.3) (within.senders x.0 x.1);
  receivers = λ k lt. let x = a.only k lt in subst (λ (l : Link). l.receiver < n) (sym x.3) (within.receivers x.0 x.1);
}

-- a path of the kept links back to a node of the depth is one of the dataflow's edges
pub ReturningPath-from_kept : (flow : Dataflow) (nodes : List Node) (links kept : List Link) (depths : List ℕ) (depth : ℕ) → IsMadeOf flow flow.loops nodes links
    → AreWithin (length nodes) links → AreDepthsOf flow nodes depths → AreKept (stays_deep nodes depths depth) links (length links) kept
    → ClosedPath kept depths depth → ReturningPath flow depth
ReturningPath-from_kept flow nodes links kept depths depth made within are a back =
    let count = ap length are ∙ length-map nodes (λ (node : Node). depth_of_kind flow node.kind) in
    let lt : back.node < length nodes = omega (arith, count, back.there) in
    record {
      node = back.node;
      at = sym (depth-listed flow nodes links depths made are back.node lt) ∙ back.at;
      path = Path-from_kept (stays_deep nodes depths depth) links kept (depth_graph flow depth) (over-depth flow nodes links depths depth made within are) a back.node back.node back.path;
    }

starts_at_node : (flow : Dataflow) (nodes : List Node) (links : List Link) (depth : ℕ) → IsMadeOf flow flow.loops nodes links → AreWithin (length nodes) links
    → (p : ℕ) (es : List ℕ) (q : ℕ) → 0 < length es → IsPath (depth_graph flow depth) p es q → p < length nodes
starts_at_node flow nodes links depth made within p [] q some path = absurd (omega arith)
starts_at_node flow nodes links depth made within p (e ∷ es) q some path =
    let edges = edges_of flow flow.loops nodes links made in
    let count = edges.count in
    let lt : e < length links = omega (arith, count, path.0) in
    subst (λ x. x < length nodes) (edges.senders e lt ∙ path.2) (within.senders e lt)

-- and the other way
pub ClosedPath-from_returning : (flow : Dataflow) (nodes : List Node) (links kept : List Link) (depths : List ℕ) (depth : ℕ) → IsMadeOf flow flow.loops nodes links
    → AreWithin (length nodes) links → AreDepthsOf flow nodes depths → AreKept (stays_deep nodes depths depth) links (length links) kept
    → ReturningPath flow depth → ClosedPath kept depths depth
ClosedPath-from_returning flow nodes links kept depths depth made within are a back =
    let count = ap length are ∙ length-map nodes (λ (node : Node). depth_of_kind flow node.kind) in
    let lt = starts_at_node flow nodes links depth made within back.node back.path.edges back.node back.path.some back.path.path in
    record {
      node = back.node;
      there = omega (arith, count, lt);
      at = depth-listed flow nodes links depths made are back.node lt ∙ back.at;
      path = Path-to_kept (stays_deep nodes depths depth) links kept (depth_graph flow depth) (over-depth flow nodes links depths depth made within are) a back.node back.node back.path;
    }

-- the edges join domains where the links do
pub joins-edges : (flow : Dataflow) (nodes : List Node) (links : List Link) → IsMadeOf flow flow.loops nodes links → HoldsBelow (JoinsDomains flow) (length links)
    → HoldsBelow (JoinsDomains flow) (length flow.edges)
joins-edges flow nodes links made joins = λ e lt. let count = (edges_of flow flow.loops nodes links made).count in joins e (omega (arith, count, lt))

-- ---- what an answer says

pub OnTrue-by : {P Q : Type 0} (b : Bool) → (P → Q) → OnTrue b P → OnTrue b Q
OnTrue-by true f h = f h
OnTrue-by false f h = tt

pub OnFalse-by : {P Q : Type 0} (b : Bool) → (P → Q) → OnFalse b P → OnFalse b Q
OnFalse-by true f h = tt
OnFalse-by false f h = f h
