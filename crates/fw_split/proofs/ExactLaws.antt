-- The flow without the word is well formed where its exact expansion is.
use Rattle.std.proofs.Common.{◌≡◌, inl, inr, ℕ, zero, suc, ◌<◌, ◌≤◌, Bool, true, false, not, eqb, List, [], ◌∷◌, length, map, Option, Some, None, refl, sym, ap, ◌∙◌, subst, arith}
use Rattle.std.proofs.lemmas.Bool.{true≢false, eqb-true, or_cases, false_from_ne_true}
use Rattle.fw_lemmas.proofs.Each.{each-weaker, each-one}
use Rattle.std.proofs.lemmas.Map.Steps.{length-le_from_distinct_below}
use Rattle.std.specs.Prelude.{IfSome}
use Rattle.std.specs.List.{AllByRecursion, IsDistinct, list_any}
use Rattle.fw_flow.specs.declared.node.Loop.{Loop}
use Rattle.fw_flow.specs.Kind.{Kind, loop_of_kind}
use Rattle.fw_flow.specs.declared.kind.Kind.TheVariants.{OutputEpoch, OutputNumber, Concat}
use Rattle.fw_flow.specs.Dataflow.{System, Dataflow, kind_of, policy_of, sender, receiver, in_edges, out_edges, domain_of, out_domain_of_kind, domain_of_kind, declared_parent, is_loop, is_domain_of, is_domain_within, is_input_kind, is_output_kind}
use Rattle.fw_flow.specs.KeyParts.{may_split}
use Rattle.fw_flow.specs.Check.{HasNodeOf}
use Rattle.fw_flow.specs.WellFormed.{IsWellFormed, IsClosedWalk, IsWalk, IsInDegree, IsOutDegree, IsPolicyAllowed, IsGroupSize, StaysWithin}
use Rattle.fw_flow.proofs.OutEdgeLaws.{out_edges-at, out_edges-from}
use Rattle.fw_split.specs.Expansion.{EdgeOrigin, Whole, PartOf, SentBy, NodeOrigin, Same, Replica, Gathered, IsNodeOf, SendsFor, IsEdgeOf, IsExpansion, parts_to}
use Rattle.fw_split.specs.Exact.{node_of_origin, IsExactExpansion}
use Rattle.fw_split.specs.LawsOfSplitting.{WithoutTheWordIsWellFormed}
use Rattle.fw_split.proofs.LoopsLaws.{max_of-loops, declared_parent-loops, ends_within-loops, domain_of_kind-loops, out_domain_of_kind-loops}
use Rattle.fw_split.proofs.ExactWalks.{matched, matched-length, first-part, IsInto, each-into, made-of, StandsFor, by_split, sends-is, stands, has-replica, WalkAgain, walk-again}

-- ---- how many there are

any-is : (P : ℕ → Type 0) (qs : List ℕ) → AllByRecursion P qs → (q : ℕ) → list_any (eqb q) qs ≡ true → P q
any-is P [] a q h = absurd (cc)
any-is P (x ∷ xs) a q h = elim (or_cases (eqb q x) (list_any (eqb q) xs) h) [
  | inl e ↦ subst P (sym (eqb-true q x e)) a.0
  | inr later ↦ any-is P xs a.1 q later
]

-- it is that of a number below k
abbrev OfOne : (ℕ → ℕ → Type 0) → ℕ → ℕ → ℕ → Type 0
OfOne R m k q = (p : ℕ) × (q < m) × (p < k) × R p q

-- Each of the first n numbers has one below m, and no two have the same: so n is at most m.
few-from_once : (R : ℕ → ℕ → Type 0) (n m : ℕ) → ((p : ℕ) → p < n → (q : ℕ) × (q < m) × R p q) → ((p r q : ℕ) → R p q → R r q → p ≡ r) → n ≤ m
unfolding IsDistinct
few-from_once R n m each once =
    let c = chosen n (λ p l. l) in
    subst (λ k. k ≤ m) c.2 (length-le_from_distinct_below c.0 m c.1 (λ q h. (any-is (OfOne R m n) c.0 c.3 q h).1))
  where
    chosen : (k : ℕ) → ((p : ℕ) → p < k → p < n) → (qs : List ℕ) × IsDistinct eqb qs × (length qs ≡ k) × AllByRecursion (OfOne R m k) qs
    chosen zero below = ([], tt, refl, tt)
    chosen (suc k) below =
        let one = each k (below k (omega arith)) in
        let rest = chosen k (λ p l. below p (omega arith)) in (
          one.0 ∷ rest.0,
          (
            each-weaker (OfOne R m k) (λ y. eqb one.0 y ≡ false) rest.0
                (λ y o. false_from_ne_true (eqb one.0 y) (λ e. let same = once k o.0 y (subst (R k) (eqb-true one.0 y e) one.2) o.3 in let l = o.2 in absurd (omega arith))) rest.3,
            rest.1,
          ),
          ap suc rest.2,
          ((k, one.1, omega arith, one.2), each-weaker (OfOne R m k) (OfOne R m (suc k)) rest.0 (λ y o. (o.0, o.1, let l = o.2 in omega arith, o.3)) rest.3),
        )

-- ---- kinds

abbrev IsSplit : Kind → Type 0
IsSplit kind = may_split kind ≡ true

loop-stands : (kind other : Kind) → StandsFor kind other → loop_of_kind other ≡ loop_of_kind kind
loop-stands kind other (inl same) = ap loop_of_kind same
loop-stands kind other (inr joint) = ap loop_of_kind joint.0

out_domain-stands : (f g : Dataflow) → f.loops ≡ g.loops → (kind other : Kind) → StandsFor kind other → out_domain_of_kind f kind ≡ out_domain_of_kind g other
out_domain-stands f g e kind other (inl same) = out_domain_of_kind-loops f g e kind ∙ ap (out_domain_of_kind g) (sym same)
out_domain-stands f g e kind other (inr joint) =
    by_split (λ k. out_domain_of_kind f k ≡ out_domain_of_kind g (Concat (loop_of_kind k))) (λ w. refl) (λ w. refl) (λ w. refl) refl kind joint.1
    ∙ ap (out_domain_of_kind g) (sym joint.0)

groups-stand : (kind other : Kind) → StandsFor kind other → IsGroupSize other → IsGroupSize kind
groups-stand kind other (inl same) h = subst (λ k. IsGroupSize k) same h
groups-stand kind other (inr joint) h = by_split (λ k. IsGroupSize k) (λ w. tt) (λ w. tt) (λ w. tt) tt kind joint.1

pub no_input : (kind : Kind) → IsSplit kind → is_input_kind kind ≡ false
no_input kind h = by_split (λ k. is_input_kind k ≡ false) (λ w. refl) (λ w. refl) (λ w. refl) refl kind h

pub no_output : (kind : Kind) → IsSplit kind → is_output_kind kind ≡ false
no_output kind h = by_split (λ k. is_output_kind k ≡ false) (λ w. refl) (λ w. refl) (λ w. refl) refl kind h

output-stands : (kind other : Kind) → StandsFor kind other → is_output_kind kind ≡ true → is_output_kind other ≡ true
output-stands kind other (inl same) h = ap is_output_kind same ∙ h
output-stands kind other (inr joint) h = absurd (true≢false (sym h ∙ no_output kind joint.1))

-- only of an output a number of out-edges is asked
out_degree-from : (kind : Kind) (n : ℕ) → (is_output_kind kind ≡ true → n ≡ 0) → IsOutDegree kind n
out_degree-from OutputEpoch n h = h refl
out_degree-from OutputNumber n h = h refl
out_degree-from kind n h = tt

out_degree-none : (kind : Kind) (n : ℕ) → is_output_kind kind ≡ true → IsOutDegree kind n → n ≡ 0
out_degree-none OutputEpoch n h d = d
out_degree-none OutputNumber n h d = d
out_degree-none kind n h d = absurd (cc)

empty : (xs : List ℕ) → AllByRecursion (λ x. ⊥) xs → length xs ≡ 0
empty [] a = refl
empty (x ∷ xs) a = absurd a.0

of-empty : (P : ℕ → Type 0) (xs : List ℕ) → length xs ≡ 0 → AllByRecursion P xs
of-empty P [] e = tt
of-empty P (x ∷ xs) e = absurd (omega arith)

-- ---- edges

-- the edge of which one of this origin is a part, or is it
abbrev edge_of : EdgeOrigin → Option ℕ
edge_of (Whole d) = Some d
edge_of (PartOf d part) = Some d
edge_of (SentBy p part) = None

-- an edge of the expansion that is this edge, or a part of it, leads from what sends for its sender to a node of the kind of its receiver
record EdgeThere (small large : System) (of_node : ℕ → NodeOrigin) (of_edge : ℕ → EdgeOrigin) (d : ℕ) : Type 0 where
  edge : ℕ
  within : edge < length large.flow.edges
  is : edge_of (of_edge edge) ≡ Some d
  sends : SendsFor (sender small.flow d) (of_node (sender large.flow edge))
  from : sender small.flow d < length small.flow.nodes
  to : receiver small.flow d < length small.flow.nodes
  leads : kind_of large.flow (receiver large.flow edge) ≡ kind_of small.flow (receiver small.flow d)

-- what is so of an edge that is this edge, or a part of it
record IsPartOf (small large : System) (of_node : ℕ → NodeOrigin) (of_edge : ℕ → EdgeOrigin) (d : ℕ) : Type 0 where
  edge : ℕ
  within : edge < length large.flow.edges
  is : edge_of (of_edge edge) ≡ Some d
  sends : SendsFor (sender small.flow d) (of_node (sender large.flow edge))

some-part : (small large : System) (of_node : ℕ → NodeOrigin) (of_edge : ℕ → EdgeOrigin) → IsExpansion small large of_node of_edge
    → (d : ℕ) → d < length small.flow.edges → IsPartOf small large of_node of_edge d
some-part small large of_node of_edge x d there = elim (x.edges_again d there) [
  | inl one ↦ record {
    edge = one.0;
    within = one.1;
    is = ap edge_of one.2;
    sends = (subst (IsEdgeOf small.flow large.flow of_node one.0) one.2 (x.edges one.0)).0;
  }
  | inr parts ↦
      let one = first-part (λ part. (e : ℕ) × (e < length large.flow.edges) × (of_edge e ≡ PartOf d part)) parts.0
      (matched (λ e. e < length large.flow.edges) of_edge (PartOf d) parts.1 (parts_to parts.0) parts.3 parts.2) in
      record {
        edge = one.0;
        within = one.1;
        is = ap edge_of one.2;
        sends = (subst (IsEdgeOf small.flow large.flow of_node one.0) one.2 (x.edges one.0)).0;
      }
]

edge-there : (small large : System) (of_node : ℕ → NodeOrigin) (of_edge : ℕ → EdgeOrigin) → IsExactExpansion small large of_node of_edge → IsWellFormed large.flow
    → (d : ℕ) → d < length small.flow.edges → EdgeThere small large of_node of_edge d
edge-there small large of_node of_edge exact w d there = record {
  edge = e;
  within = one.within;
  is = one.is;
  sends = one.sends;
  from = subst (λ p. p < length small.flow.nodes) (sends-is (sender small.flow d) (of_node (sender large.flow e)) one.sends)
      (exact.within (sender large.flow e) (w.senders_declared e one.within));
  to = (leads (of_node q) (x.nodes q) (exact.within q (w.receivers_declared e one.within))).0;
  leads = (leads (of_node q) (x.nodes q) (exact.within q (w.receivers_declared e one.within))).1;
}
  where
    x : IsExpansion small large of_node of_edge
    x = exact.expansion

    one : IsPartOf small large of_node of_edge d
    one = some-part small large of_node of_edge x d there

    e : ℕ
    e = one.edge

    q : ℕ
    q = receiver large.flow e

    -- where the edge is into the node of which its receiver is made
    at : (p : ℕ) (make : ℕ → EdgeOrigin) → ((i : ℕ) → edge_of (make i) ≡ Some i) → map of_edge (in_edges large.flow q) ≡ map make (in_edges small.flow p)
        → receiver small.flow d ≡ p
    at p make shows h =
        let made = made-of (IsInto small.flow p) large.flow of_edge make q (in_edges small.flow p) h (each-into small.flow p) e (one.within, refl) in
        let same : made.0 ≡ d = some-is made.0 d (sym (shows made.0) ∙ ap edge_of made.2 ∙ one.is) in
        sym (ap (receiver small.flow) same) ∙ made.1.1
      where
        some-is : (a b : ℕ) → Some a ≡ Some b → a ≡ b
        some-is a b h = cc

    leads : (origin : NodeOrigin) → IsNodeOf small large of_edge q origin → node_of_origin origin < length small.flow.nodes
        → (receiver small.flow d < length small.flow.nodes) × (kind_of large.flow q ≡ kind_of small.flow (receiver small.flow d))
    leads (Same p) n l =
        let r = at p Whole (λ i. refl) n.4 in
        (subst (λ k. k < length small.flow.nodes) (sym r) l, n.0 ∙ ap (kind_of small.flow) (sym r))
    leads (Replica p part) n l =
        let r = at p (λ i. PartOf i part) (λ i. refl) n.4 in
        (subst (λ k. k < length small.flow.nodes) (sym r) l, n.0 ∙ ap (kind_of small.flow) (sym r))
    leads (Gathered p) n l =
        let made = made-of (λ part. Unit {0}) large.flow of_edge (SentBy p) q (parts_to n.4.0) n.4.1 (each-one (λ part. Unit {0}) (parts_to n.4.0) (λ part. tt)) e (one.within, refl) in
        absurd (none-some (edge_of (of_edge e)) d (sym (ap edge_of made.2)) one.is)
      where
        none-some : (o : Option ℕ) (a : ℕ) → o ≡ None → o ≡ Some a → ⊥
        none-some o a h k = absurd (cc)

-- ---- well formed

-- what a node of the expansion has that sends for a node
record NodeThere (small large : System) (of_node : ℕ → NodeOrigin) (p : ℕ) : Type 0 where
  node : ℕ
  within : node < length large.flow.nodes
  sends : SendsFor p (of_node node)
  like : StandsFor (kind_of small.flow p) (kind_of large.flow node)

node-there : (small large : System) (of_node : ℕ → NodeOrigin) (of_edge : ℕ → EdgeOrigin) → IsExpansion small large of_node of_edge
    → (p : ℕ) → p < length small.flow.nodes → NodeThere small large of_node p
node-there small large of_node of_edge x p there =
    let a = x.nodes_again p there in
    record { node = a.0; within = a.1; sends = a.2; like = stands small large of_edge p a.0 (of_node a.0) (x.nodes a.0) a.2 }

-- the node itself, or a replica of it: a node of the same kind and policy, with as many in-edges
record NodeAlike (small large : System) (p : ℕ) : Type 0 where
  node : ℕ
  within : node < length large.flow.nodes
  kind : kind_of large.flow node ≡ kind_of small.flow p
  policy : policy_of large.flow node ≡ policy_of small.flow p
  ins : length (in_edges large.flow node) ≡ length (in_edges small.flow p)

node-alike : (small large : System) (of_node : ℕ → NodeOrigin) (of_edge : ℕ → EdgeOrigin) → IsExpansion small large of_node of_edge → IsWellFormed large.flow
    → (p : ℕ) → p < length small.flow.nodes → NodeAlike small large p
node-alike small large of_node of_edge x w p there = by (of_node a.0) (x.nodes a.0) a.2
  where
    a : (q : ℕ) × (q < length large.flow.nodes) × SendsFor p (of_node q)
    a = x.nodes_again p there

    by : (origin : NodeOrigin) → IsNodeOf small large of_edge a.0 origin → SendsFor p origin → NodeAlike small large p
    by (Same r) n s = record {
      node = a.0;
      within = a.1;
      kind = n.0 ∙ ap (kind_of small.flow) s;
      policy = n.1 ∙ ap (policy_of small.flow) s;
      ins = matched-length of_edge Whole (in_edges large.flow a.0) (in_edges small.flow r) n.4 ∙ ap (λ k. length (in_edges small.flow k)) s;
    }
    by (Replica r part) n s = absurd s
    by (Gathered r) n s =
        let h = has-replica small large of_node of_edge x r a.0 n in
        let q = sender large.flow h.edge in
        record {
          node = q;
          within = w.senders_declared h.edge h.into.0;
          kind = h.node.0 ∙ ap (kind_of small.flow) s;
          policy = h.node.1 ∙ ap (policy_of small.flow) s;
          ins = matched-length of_edge (λ d. PartOf d h.part) (in_edges large.flow q) (in_edges small.flow r) h.node.4 ∙ ap (λ k. length (in_edges small.flow k)) s;
        }

-- a node of a sort of kinds that neither may be split nor is a concat comes from one of that sort
border-again : (small large : System) (of_node : ℕ → NodeOrigin) (of_edge : ℕ → EdgeOrigin) → IsExactExpansion small large of_node of_edge
    → (sort : Kind → Bool) → ((kind : Kind) → IsSplit kind → sort kind ≡ false) → ((within : Option ℕ) → sort (Concat within) ≡ false)
    → HasNodeOf large.flow sort → HasNodeOf small.flow sort
border-again small large of_node of_edge exact sort split joint has = by (of_node q) (exact.expansion.nodes q) (exact.within q has.1)
  where
    q : ℕ
    q = has.0

    by : (origin : NodeOrigin) → IsNodeOf small large of_edge q origin → node_of_origin origin < length small.flow.nodes → HasNodeOf small.flow sort
    by (Same p) n l = (p, l, ap sort (sym n.0) ∙ has.2)
    by (Replica p part) n l = absurd (true≢false (sym has.2 ∙ ap sort n.0 ∙ split (kind_of small.flow p) n.3))
    by (Gathered p) n l = absurd (true≢false (sym has.2 ∙ ap sort n.0 ∙ joint (loop_of_kind (kind_of small.flow p))))

-- a closed walk comes again, and is closed
record ClosedAgain (small large : Dataflow) (of_node : ℕ → NodeOrigin) (p : ℕ) (es : List ℕ) : Type 0 where
  node : ℕ
  again : WalkAgain small large of_node es node p
  closed : IsClosedWalk large node again.edges
  begins : (l : ℕ) → StaysWithin small l es → StaysWithin large l again.edges

closed-again : (small large : System) (of_node : ℕ → NodeOrigin) (of_edge : ℕ → EdgeOrigin) → IsExactExpansion small large of_node of_edge → IsWellFormed large.flow
    → (p : ℕ) (es : List ℕ) → IsClosedWalk small.flow p es → ClosedAgain small.flow large.flow of_node p es
closed-again small large of_node of_edge exact w p es c = by es c
  where
    ends : (d : ℕ) → d < length small.flow.edges → receiver small.flow d < length small.flow.nodes
    ends d l = (edge-there small large of_node of_edge exact w d l).to

    by : (es : List ℕ) → IsClosedWalk small.flow p es → ClosedAgain small.flow large.flow of_node p es
    by [] c = let l = c.some in absurd (omega arith)
    by (d ∷ ds) c =
        let there = (edge-there small large of_node of_edge exact w d c.walk.0).from in
        let n = node-there small large of_node of_edge exact.expansion p (subst (λ k. k < length small.flow.nodes) c.walk.1 there) in
        let again = walk-again small large of_node of_edge exact w ends p (d ∷ ds) p c.walk n.node n.within n.sends in
        let same = exact.once p again.last n.node again.within n.within again.sends n.sends in
        record {
          node = n.node;
          again = again;
          closed = record {
            some = let l = again.longer in omega arith;
            walk = subst (λ k. IsWalk large.flow n.node again.edges k) same again.walk;
          };
          begins = λ l s. again.stays l (sym (ap (λ k. is_domain_within small.flow l (domain_of small.flow k)) c.walk.1) ∙ s.0) s;
        }

pub without-the-word : WithoutTheWordIsWellFormed
without-the-word small large of_node of_edge exact w = record {
  loops_declared = λ p l.
      let n = there p l in
      subst (λ loop. IfSome loop (λ k. k < length f.loops)) (loop-stands (kind_of f p) (kind_of g n.node) n.like)
      (subst (λ loops. IfSome (loop_of_kind (kind_of g n.node)) (λ k. k < length loops)) (sym x.loops) (w.loops_declared n.node n.within));
  parents_declared = λ l b.
      subst (λ parent. IfSome parent (λ k. k < length f.loops)) (sym (declared_parent-loops f g x.loops l))
      (subst (λ loops. IfSome (declared_parent g l) (λ k. k < length loops)) (sym x.loops) (w.parents_declared l (below l b)));
  chains = λ l b. ends_within-loops f g x.loops 3 (Some l) ∙ w.chains l (below l b);
  senders_declared = λ d l. (edge d l).from;
  receivers_declared = λ d l. (edge d l).to;
  in_degrees = λ p l.
      let n = node-alike small large of_node of_edge x w p l in
      subst (λ k. IsInDegree (kind_of f p) k) n.ins (subst (λ k. IsInDegree k (length (in_edges g n.node))) n.kind (w.in_degrees n.node n.within));
  out_degrees = λ p l. out_degree-from (kind_of f p) (length (out_edges f p)) (no-out p l);
  domains = λ d l.
      let e = edge d l in
      out_domain-stands f g x.loops (kind_of f (sender f d)) (kind_of g (sender g e.edge))
      (stands small large of_edge (sender f d) (sender g e.edge) (of_node (sender g e.edge)) (x.nodes (sender g e.edge)) e.sends)
      ∙ w.domains e.edge e.within
      ∙ ap (domain_of_kind g) e.leads
      ∙ sym (domain_of_kind-loops f g x.loops (kind_of f (receiver f d)));
  in_loops = λ p es c passes.
      let a = closed-again small large of_node of_edge exact w p es c in
      w.in_loops a.node a.again.edges a.closed (a.again.passes (λ d. not (is_loop d)) passes);
  fed_back = λ l p es c stays passes.
      let a = closed-again small large of_node of_edge exact w p es c in
      a.again.feeds l (w.fed_back l a.node a.again.edges a.closed (a.begins l stays) (a.again.passes (is_domain_of l) passes));
  policies = λ p l.
      let n = node-alike small large of_node of_edge x w p l in
      subst (λ k. IsPolicyAllowed (kind_of f p) k) n.policy (subst (λ k. IsPolicyAllowed k (policy_of g n.node)) n.kind (w.policies n.node n.within));
  limits = record {
    nodes = let few = few-nodes in let most = w.limits.nodes in omega arith;
    edges = let few = few-edges in let most = w.limits.edges in omega arith;
    loops = subst (λ loops. length loops ≤ 64) (sym x.loops) w.limits.loops;
    counters = λ l b. subst (λ n. (1 ≤ n) × (n ≤ 1024)) (sym (max_of-loops f g x.loops l)) (w.limits.counters l (below l b));
    groups = λ p l. let n = there p l in groups-stand (kind_of f p) (kind_of g n.node) n.like (w.limits.groups n.node n.within);
  };
  input = border-again small large of_node of_edge exact is_input_kind no_input (λ w. refl) w.input;
  output = border-again small large of_node of_edge exact is_output_kind no_output (λ w. refl) w.output;
}
  where
    f : Dataflow
    f = small.flow

    g : Dataflow
    g = large.flow

    x : IsExpansion small large of_node of_edge
    x = exact.expansion

    below : (l : ℕ) → l < length f.loops → l < length g.loops
    below l b = subst (λ (loops : List Loop). l < length loops) x.loops b

    there : (p : ℕ) → p < length f.nodes → NodeThere small large of_node p
    there p l = node-there small large of_node of_edge x p l

    edge : (d : ℕ) → d < length f.edges → EdgeThere small large of_node of_edge d
    edge d l = edge-there small large of_node of_edge exact w d l

    -- an edge out of an output would come again
    no-out : (p : ℕ) → p < length f.nodes → is_output_kind (kind_of f p) ≡ true → length (out_edges f p) ≡ 0
    no-out p l is =
        let n = there p l in
        let none = out_degree-none (kind_of g n.node) (length (out_edges g n.node)) (output-stands (kind_of f p) (kind_of g n.node) n.like is)
        (w.out_degrees n.node n.within) in
        empty (out_edges f p) (out_edges-from (λ d. ⊥) f p (λ d b from.
        let e = edge d b in
        let sends : SendsFor p (of_node (sender g e.edge)) = subst (λ k. SendsFor k (of_node (sender g e.edge))) from e.sends in
        out_edges-at (λ e. ⊥) g n.node (of-empty (λ e. ⊥) (out_edges g n.node) none) e.edge e.within
        (exact.once p (sender g e.edge) n.node (w.senders_declared e.edge e.within) n.within sends n.sends)))

    few-nodes : length f.nodes ≤ length g.nodes
    few-nodes =
        few-from_once (λ p q. SendsFor p (of_node q)) (length f.nodes) (length g.nodes) (λ p l. let n = there p l in (n.node, n.within, n.sends))
        (λ p r q s t. sym (sends-is p (of_node q) s) ∙ sends-is r (of_node q) t)

    few-edges : length f.edges ≤ length g.edges
    few-edges =
        few-from_once (λ d e. edge_of (of_edge e) ≡ Some d) (length f.edges) (length g.edges) (λ d l. let e = edge d l in (e.edge, e.within, e.is))
        (λ d b e s t. some-same d b (sym s ∙ t))
      where
        some-same : (a b : ℕ) → Some a ≡ Some b → a ≡ b
        some-same a b h = cc
