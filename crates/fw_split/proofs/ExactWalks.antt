-- The walks of a flow without the word come again in its expansion: an edge as itself, or as a part of it behind which stands the edge from the replica.
use Rattle.std.proofs.Common.{◌≡◌, ◌⊎◌, inl, inr, ℕ, zero, suc, ◌+◌, ◌<◌, ◌≤◌, Bool, true, false, List, [], ◌∷◌, length, map, Option, refl, sym, ap, ◌∙◌, subst, arith}
use Rattle.std.proofs.lemmas.Bool.{true≢false}
use Rattle.std.specs.List.{AllByRecursion, range_with_len}
use Rattle.fw_lemmas.proofs.Each.{each_of-map}
use Rattle.fw_flow.specs.declared.key_part.KeyPart.{KeyPart}
use Rattle.fw_flow.specs.declared.kind.Domain.{Domain}
use Rattle.fw_flow.specs.Kind.{Kind, loop_of_kind}
use Rattle.fw_flow.specs.declared.kind.Kind.TheVariants.{Input, OutputEpoch, OutputNumber, Select, Concat, Distinct, Join, Sum, Enter, Feedback, Leave, Total, Sequence, Ledger, Regroup}
use Rattle.fw_flow.specs.Dataflow.{System, Dataflow, kind_of, sender, receiver, in_edges, domain_of, domain_of_kind, is_domain_within}
use Rattle.fw_flow.specs.KeyParts.{may_split}
use Rattle.fw_flow.specs.WellFormed.{IsWellFormed, IsWalk, Passes, StaysWithin, is_feedback_of}
use Rattle.fw_flow.proofs.EdgeLaws.{in_edges-at, in_edges-from}
use Rattle.fw_split.specs.Expansion.{EdgeOrigin, Whole, PartOf, SentBy, NodeOrigin, Same, Replica, Gathered, IsNodeOf, SendsFor, IsEdgeOf, IsExpansion, parts_to}
use Rattle.fw_split.specs.Exact.{node_of_origin, IsExactExpansion}
use Rattle.fw_split.proofs.LoopsLaws.{domain_of_kind-loops, is_domain_within-loops}

-- ---- lists side by side

pub matched : {A B C : Type 0} (P : A → Type 0) (f : A → C) (g : B → C) (xs : List A) (ys : List B) → map f xs ≡ map g ys → AllByRecursion P xs
    → AllByRecursion (λ y. (x : A) × P x × (f x ≡ g y)) ys
matched P f g [] [] h a = tt
matched P f g [] (y ∷ ys) h a = absurd (cc)
matched P f g (x ∷ xs) [] h a = absurd (cc)
matched P f g (x ∷ xs) (y ∷ ys) h a = ((x, a.0, cc), matched P f g xs ys (cc) a.1)

pub matched-length : {A B C : Type 0} (f : A → C) (g : B → C) (xs : List A) (ys : List B) → map f xs ≡ map g ys → length xs ≡ length ys
matched-length f g [] [] h = refl
matched-length f g [] (y ∷ ys) h = absurd (cc)
matched-length f g (x ∷ xs) [] h = absurd (cc)
matched-length f g (x ∷ xs) (y ∷ ys) h = ap suc (matched-length f g xs ys cc)

-- what holds of all parts holds of the first
pub first-part : (P : KeyPart → Type 0) (last : ℕ) → AllByRecursion P (parts_to last) → P (record { place = 0; last = last })
first-part P last a = by (last + 1) (omega arith) (each_of-map P part (range_with_len 0 (last + 1)) a)
  where
    part : ℕ → KeyPart
    part i = record { place = i; last = last }

    by : (n : ℕ) → 0 < n → AllByRecursion (λ i. P (part i)) (range_with_len 0 n) → P (part 0)
    by zero l b = absurd (omega arith)
    by (suc n) l b = b.0

-- ---- the edges to a node

-- the edge leads to the node
abbrev pub IsInto : Dataflow → ℕ → ℕ → Type 0
IsInto flow q e = (e < length flow.edges) × (receiver flow e ≡ q)

pub each-into : (flow : Dataflow) (q : ℕ) → AllByRecursion (IsInto flow q) (in_edges flow q)
each-into flow q = in_edges-from (IsInto flow q) flow q (λ e l r. (l, r))

-- an edge to the node comes again
pub again-into : (flow large : Dataflow) (of_edge make : ℕ → EdgeOrigin) (p q : ℕ) → map of_edge (in_edges large q) ≡ map make (in_edges flow p)
    → (d : ℕ) → IsInto flow p d → (e : ℕ) × IsInto large q e × (of_edge e ≡ make d)
again-into flow large of_edge make p q h d i =
    in_edges-at (λ d. (e : ℕ) × IsInto large q e × (of_edge e ≡ make d)) flow p
    (matched (IsInto large q) of_edge make (in_edges large q) (in_edges flow p) h (each-into large q)) d i.0 i.1

-- an edge of the expansion to the node is made of this
pub made-of : {B : Type 0} (P : B → Type 0) (large : Dataflow) (of_edge : ℕ → EdgeOrigin) (make : B → EdgeOrigin) (q : ℕ) (ys : List B)
    → map of_edge (in_edges large q) ≡ map make ys → AllByRecursion P ys → (e : ℕ) → IsInto large q e → (y : B) × P y × (make y ≡ of_edge e)
made-of {B} P large of_edge make q ys h a e i =
    in_edges-at (λ e. (y : B) × P y × (make y ≡ of_edge e)) large q (matched P make of_edge ys (in_edges large q) (sym h) a) e i.0 i.1

-- ---- kinds

-- a node of this other kind sends for one of the kind: it is of the kind, or a concat of replicas
abbrev pub StandsFor : Kind → Kind → Type 0
StandsFor kind other = (other ≡ kind) ⊎ ((other ≡ Concat (loop_of_kind kind)) × (may_split kind ≡ true))

-- what is true of all kinds that may be split, where it is so of these four
pub by_split : (P : Kind → Type 0) → ((within : Option ℕ) → P (Distinct within)) → ((within : Option ℕ) → P (Join within)) → ((within : Option ℕ) → P (Sum within))
    → P Total → (kind : Kind) → may_split kind ≡ true → P kind
by_split P d j s t (Distinct within) h = d within
by_split P d j s t (Join within) h = j within
by_split P d j s t (Sum within) h = s within
by_split P d j s t Total h = t
by_split P d j s t Input h = absurd (cc)
by_split P d j s t OutputEpoch h = absurd (cc)
by_split P d j s t OutputNumber h = absurd (cc)
by_split P d j s t (Select selection within) h = absurd (cc)
by_split P d j s t (Concat within) h = absurd (cc)
by_split P d j s t (Enter l) h = absurd (cc)
by_split P d j s t (Feedback l) h = absurd (cc)
by_split P d j s t (Leave l) h = absurd (cc)
by_split P d j s t Sequence h = absurd (cc)
by_split P d j s t Ledger h = absurd (cc)
by_split P d j s t (Regroup n) h = absurd (cc)

domain-stands : (f g : Dataflow) → f.loops ≡ g.loops → (kind other : Kind) → StandsFor kind other → domain_of_kind f kind ≡ domain_of_kind g other
domain-stands f g e kind other (inl same) = domain_of_kind-loops f g e kind ∙ ap (domain_of_kind g) (sym same)
domain-stands f g e kind other (inr joint) =
    by_split (λ k. domain_of_kind f k ≡ domain_of_kind g (Concat (loop_of_kind k))) (λ w. refl) (λ w. refl) (λ w. refl) refl kind joint.1
    ∙ ap (domain_of_kind g) (sym joint.0)

no_feedback : (l : ℕ) (kind : Kind) → may_split kind ≡ true → is_feedback_of l kind ≡ false
no_feedback l kind h = by_split (λ k. is_feedback_of l k ≡ false) (λ w. refl) (λ w. refl) (λ w. refl) refl kind h

feedback-stands : (l : ℕ) (kind other : Kind) → StandsFor kind other → is_feedback_of l other ≡ true → is_feedback_of l kind ≡ true
feedback-stands l kind other (inl same) h = ap (is_feedback_of l) (sym same) ∙ h
feedback-stands l kind other (inr joint) h = absurd (true≢false (sym h ∙ ap (is_feedback_of l) joint.0))

-- ---- nodes by origin

pub sends-is : (p : ℕ) (origin : NodeOrigin) → SendsFor p origin → node_of_origin origin ≡ p
sends-is p (Same q) s = s
sends-is p (Replica q part) s = absurd s
sends-is p (Gathered q) s = s

pub stands : (small large : System) (of_edge : ℕ → EdgeOrigin) (p q : ℕ) (origin : NodeOrigin) → IsNodeOf small large of_edge q origin → SendsFor p origin
    → StandsFor (kind_of small.flow p) (kind_of large.flow q)
stands small large of_edge p q (Same r) n s = inl (n.0 ∙ ap (kind_of small.flow) s)
stands small large of_edge p q (Replica r part) n s = absurd s
stands small large of_edge p q (Gathered r) n s =
    inr (n.0 ∙ ap (λ k. Concat (loop_of_kind (kind_of small.flow k))) s, sym (ap (λ k. may_split (kind_of small.flow k)) s) ∙ n.3)

-- a replica of the node, and its edge to the concat
pub record HasReplica (small large : System) (of_node : ℕ → NodeOrigin) (of_edge : ℕ → EdgeOrigin) (p q : ℕ) : Type 0 where
  pub edge : ℕ
  pub into : IsInto large.flow q edge
  pub part : KeyPart
  pub is : of_node (sender large.flow edge) ≡ Replica p part
  pub node : IsNodeOf small large of_edge (sender large.flow edge) (Replica p part)

pub has-replica : (small large : System) (of_node : ℕ → NodeOrigin) (of_edge : ℕ → EdgeOrigin) → IsExpansion small large of_node of_edge
    → (p q : ℕ) → IsNodeOf small large of_edge q (Gathered p) → HasReplica small large of_node of_edge p q
has-replica small large of_node of_edge x p q n =
    let one = first-part (λ part. (e : ℕ) × IsInto large.flow q e × (of_edge e ≡ SentBy p part)) n.4.0
    (matched (IsInto large.flow q) of_edge (SentBy p) (in_edges large.flow q) (parts_to n.4.0) n.4.1 (each-into large.flow q)) in
    let part : KeyPart = record { place = 0; last = n.4.0 } in
    let is : IsEdgeOf small.flow large.flow of_node one.0 (SentBy p part) = subst (IsEdgeOf small.flow large.flow of_node one.0) one.2 (x.edges one.0) in
    record {
      edge = one.0;
      into = one.1;
      part = part;
      is = is.0;
      node = subst (IsNodeOf small large of_edge (sender large.flow one.0)) is.0 (x.nodes (sender large.flow one.0));
    }

-- ---- one edge

-- from one node of the expansion to another leads an edge, or a part of an edge to a replica of a node of this kind and the edge from there
abbrev pub IsStep : Dataflow → Kind → ℕ → ℕ → Type 0
IsStep large kind q r = ((e : ℕ) × (e < length large.edges) × (sender large e ≡ q) × (receiver large e ≡ r))
    ⊎ ((e : ℕ) × (f : ℕ) × ((e < length large.edges) × (sender large e ≡ q)) × IsInto large r f × (sender large f ≡ receiver large e)
    × (kind_of large (receiver large e) ≡ kind) × (may_split kind ≡ true))

-- what an edge leads to, in the expansion
pub record Onward (small large : Dataflow) (of_node : ℕ → NodeOrigin) (d q : ℕ) : Type 0 where
  pub node : ℕ
  pub within : node < length large.nodes
  pub sends : SendsFor (receiver small d) (of_node node)
  pub step : IsStep large (kind_of small (receiver small d)) q node

pub onward : (small large : System) (of_node : ℕ → NodeOrigin) (of_edge : ℕ → EdgeOrigin) → IsExactExpansion small large of_node of_edge → IsWellFormed large.flow
    → (d : ℕ) → d < length small.flow.edges → receiver small.flow d < length small.flow.nodes
    → (q : ℕ) → q < length large.flow.nodes → SendsFor (sender small.flow d) (of_node q) → Onward small.flow large.flow of_node d q
onward small large of_node of_edge exact w d there within q declared sends =
    record { node = r; within = again.1; sends = again.2; step = by (of_node r) (x.nodes r) again.2 }
  where
    x : IsExpansion small large of_node of_edge
    x = exact.expansion

    p : ℕ
    p = receiver small.flow d

    again : (q : ℕ) × (q < length large.flow.nodes) × SendsFor p (of_node q)
    again = x.nodes_again p within

    r : ℕ
    r = again.0

    -- what sends on the edge is the node
    from : (e : ℕ) → e < length large.flow.edges → SendsFor (sender small.flow d) (of_node (sender large.flow e)) → sender large.flow e ≡ q
    from e l s = exact.once (sender small.flow d) (sender large.flow e) q (w.senders_declared e l) declared s sends

    by : (origin : NodeOrigin) → IsNodeOf small large of_edge r origin → SendsFor p origin → IsStep large.flow (kind_of small.flow p) q r
    by (Same k) n s =
        let one = again-into small.flow large.flow of_edge Whole k r n.4 d (there, sym s) in
        let is = subst (IsEdgeOf small.flow large.flow of_node one.0) one.2 (x.edges one.0) in
        inl (one.0, one.1.0, from one.0 one.1.0 is.0, one.1.1)
    by (Replica k part) n s = absurd s
    by (Gathered k) n s =
        let h = has-replica small large of_node of_edge x k r n in
        let one = again-into small.flow large.flow of_edge (λ d. PartOf d h.part) k (sender large.flow h.edge) h.node.4 d (there, sym s) in
        let is = subst (IsEdgeOf small.flow large.flow of_node one.0) one.2 (x.edges one.0) in
        inr (
          one.0,
          h.edge,
          (one.1.0, from one.0 one.1.0 is.0),
          h.into,
          sym one.1.1,
          ap (kind_of large.flow) one.1.1 ∙ h.node.0 ∙ ap (kind_of small.flow) s,
          sym (ap (λ k. may_split (kind_of small.flow k)) s) ∙ h.node.3,
        )

-- ---- walks

-- the walk of these edges to z comes again from node q, as one that passes and stays alike and is fed back by no more
pub record WalkAgain (small large : Dataflow) (of_node : ℕ → NodeOrigin) (es : List ℕ) (q z : ℕ) : Type 0 where
  pub edges : List ℕ
  pub last : ℕ
  pub within : last < length large.nodes
  pub sends : SendsFor z (of_node last)
  pub walk : IsWalk large q edges last
  pub longer : length es ≤ length edges
  pub passes : (test : Domain → Bool) → Passes small (λ k. test (domain_of_kind small k)) es → Passes large (λ k. test (domain_of_kind large k)) edges
  pub stays : (l : ℕ) → is_domain_within small l (domain_of small z) ≡ true → StaysWithin small l es → StaysWithin large l edges
  pub feeds : (l : ℕ) → Passes large (is_feedback_of l) edges → Passes small (is_feedback_of l) es

begins-within : (flow : Dataflow) (l p : ℕ) (es : List ℕ) (z : ℕ) → IsWalk flow p es z → is_domain_within flow l (domain_of flow z) ≡ true → StaysWithin flow l es
    → is_domain_within flow l (domain_of flow p) ≡ true
begins-within flow l p [] z h last s = ap (λ k. is_domain_within flow l (domain_of flow k)) h ∙ last
begins-within flow l p (e ∷ es) z h last s = sym (ap (λ k. is_domain_within flow l (domain_of flow k)) h.1) ∙ s.0

-- the domains of these nodes are alike
alike : (f g : Dataflow) → f.loops ≡ g.loops → (p q : ℕ) → StandsFor (kind_of f p) (kind_of g q) → domain_of f p ≡ domain_of g q
alike f g e p q s = domain-stands f g e (kind_of f p) (kind_of g q) s

within-alike : (f g : Dataflow) → f.loops ≡ g.loops → (l p q : ℕ) → StandsFor (kind_of f p) (kind_of g q) → is_domain_within f l (domain_of f p) ≡ true
    → is_domain_within g l (domain_of g q) ≡ true
within-alike f g e l p q s h =
    sym (is_domain_within-loops f g e l (domain_of f p) ∙ ap (is_domain_within g l) (alike f g e p q s)) ∙ h

-- with one edge more before it
walk-more : (small large : System) (of_node : ℕ → NodeOrigin) (of_edge : ℕ → EdgeOrigin) → IsExpansion small large of_node of_edge
    → (d : ℕ) (es : List ℕ) (z : ℕ) → IsWalk small.flow (receiver small.flow d) es z → (q : ℕ) → SendsFor (sender small.flow d) (of_node q)
    → (next : Onward small.flow large.flow of_node d q) → WalkAgain small.flow large.flow of_node es next.node z
    → WalkAgain small.flow large.flow of_node (d ∷ es) q z
walk-more small large of_node of_edge x d es z walk q sent next rest = by next.step
  where
    f : Dataflow
    f = small.flow

    g : Dataflow
    g = large.flow

    k : ℕ
    k = sender f d

    like : StandsFor (kind_of f k) (kind_of g q)
    like = stands small large of_edge k q (of_node q) (x.nodes q) sent

    -- the first node of the step
    passes-first : (test : Domain → Bool) (j : ℕ) → j ≡ q → test (domain_of f k) ≡ true → test (domain_of g j) ≡ true
    passes-first test j e h = ap (λ i. test (domain_of g i)) e ∙ sym (ap test (alike f g x.loops k q like)) ∙ h

    stays-first : (l j : ℕ) → j ≡ q → is_domain_within f l (domain_of f k) ≡ true → is_domain_within g l (domain_of g j) ≡ true
    stays-first l j e h = ap (λ i. is_domain_within g l (domain_of g i)) e ∙ within-alike f g x.loops l k q like h

    feeds-first : (l j : ℕ) → j ≡ q → is_feedback_of l (kind_of g j) ≡ true → is_feedback_of l (kind_of f k) ≡ true
    feeds-first l j e h = feedback-stands l (kind_of f k) (kind_of g q) like (sym (ap (λ i. is_feedback_of l (kind_of g i)) e) ∙ h)

    by : IsStep g (kind_of f (receiver f d)) q next.node → WalkAgain f g of_node (d ∷ es) q z
    by (inl one) =
        let e = one.0 in
        record {
          edges = e ∷ rest.edges;
          last = rest.last;
          within = rest.within;
          sends = rest.sends;
          walk = (one.1, one.2, subst (λ j. IsWalk g j rest.edges rest.last) (sym one.3) rest.walk);
          longer = let l = rest.longer in omega arith;
          passes = λ test h. elim h [ inl here ↦ inl (passes-first test (sender g e) one.2 here) | inr later ↦ inr (rest.passes test later) ];
          stays = λ l last h. (stays-first l (sender g e) one.2 h.0, rest.stays l last h.1);
          feeds = λ l h. elim h [ inl here ↦ inl (feeds-first l (sender g e) one.2 here) | inr later ↦ inr (rest.feeds l later) ];
        }
    by (inr two) =
        let e = two.0 in
        let e2 = two.1 in
        let between : kind_of g (sender g e2) ≡ kind_of f (receiver f d) = ap (kind_of g) two.4 ∙ two.5 in
        record {
          edges = e ∷ e2 ∷ rest.edges;
          last = rest.last;
          within = rest.within;
          sends = rest.sends;
          walk = (two.2.0, two.2.1, (two.3.0, two.4, subst (λ j. IsWalk g j rest.edges rest.last) (sym two.3.1) rest.walk));
          longer = let l = rest.longer in omega arith;
          passes = λ test h. elim h [ inl here ↦ inl (passes-first test (sender g e) two.2.1 here) | inr later ↦ inr (inr (rest.passes test later)) ];
          stays = λ l last h. (
            stays-first l (sender g e) two.2.1 h.0,
            (
              within-alike f g x.loops l (receiver f d) (sender g e2) (inl between) (begins-within f l (receiver f d) es z walk last h.1),
              rest.stays l last h.1,
            ),
          );
          feeds = λ l h. elim h [
            | inl here ↦ inl (feeds-first l (sender g e) two.2.1 here)
            | inr onward ↦ elim onward [
              | inl here ↦ absurd (true≢false (sym here ∙ ap (is_feedback_of l) between ∙ no_feedback l (kind_of f (receiver f d)) two.6))
              | inr later ↦ inr (rest.feeds l later)
            ]
          ];
        }

pub walk-again : (small large : System) (of_node : ℕ → NodeOrigin) (of_edge : ℕ → EdgeOrigin) → IsExactExpansion small large of_node of_edge
    → IsWellFormed large.flow → ((d : ℕ) → d < length small.flow.edges → receiver small.flow d < length small.flow.nodes)
    → (p : ℕ) (es : List ℕ) (z : ℕ) → IsWalk small.flow p es z → (q : ℕ) → q < length large.flow.nodes → SendsFor p (of_node q)
    → WalkAgain small.flow large.flow of_node es q z
walk-again small large of_node of_edge exact w ends p [] z walk q declared sends = record {
  edges = [];
  last = q;
  within = declared;
  sends = subst (λ k. SendsFor k (of_node q)) walk sends;
  walk = refl;
  longer = omega arith;
  passes = λ test h. h;
  stays = λ l last h. tt;
  feeds = λ l h. h;
}
walk-again small large of_node of_edge exact w ends p (d ∷ es) z walk q declared sends =
    let sent : SendsFor (sender small.flow d) (of_node q) = subst (λ j. SendsFor j (of_node q)) (sym walk.1) sends in
    let next = onward small large of_node of_edge exact w d walk.0 (ends d walk.0) q declared sent in
    walk-more small large of_node of_edge exact.expansion d es z walk.2 q sent next
    (walk-again small large of_node of_edge exact w ends (receiver small.flow d) es z walk.2 next.node next.within next.sends)
