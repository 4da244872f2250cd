-- An expansion denotes what the flow without the word does.
use Rattle.std.proofs.Common.{◌≡◌, inl, inr, ℕ, true, List, [], ◌∷◌, ◌++◌, map, Option, None, refl, sym, ap, ◌∙◌}
use Rattle.std.proofs.lemmas.Bool.{true≢false}
use Rattle.std.specs.Prelude.{slice_index_or}
use Rattle.std.specs.List.{flat_map}
use Rattle.fw_time.specs.Sending.{fed_back_stamp}
use Rattle.fw_bag.specs.declared.rec.Rec.{Rec}
use Rattle.fw_flow.specs.declared.key_part.KeyPart.{KeyPart}
use Rattle.fw_flow.specs.Kind.{Kind, loop_of_kind}
use Rattle.fw_flow.specs.declared.kind.Kind.TheVariants.{Input, OutputEpoch, OutputNumber, Select, Concat, Distinct, Join, Sum, Enter, Feedback, Leave, Total, Sequence, Ledger, Regroup}
use Rattle.fw_flow.specs.declared.node.Loop.{Loop}
use Rattle.fw_flow.specs.Dataflow.{System, Dataflow, kind_of, sender, receiver, in_edges, batches_of, max_of}
use Rattle.fw_flow.specs.KeyParts.{is_of_part, may_split}
use Rattle.fw_flow.specs.WholeBags.{Timed, in_order, timed_at_some, one_by_one, distinct_timed, distinct_stamps, sums_at, totals_at, joint_bag, outputs_of_kind, outputs_of}
use Rattle.fw_model.specs.Carried.{carried_timed}
use Rattle.fw_model.specs.Denotation.{Family, IsDenotation}
use Rattle.fw_model.proofs.CarriedLaws.{carried_timed-whole, carried_timed-part}
use Rattle.fw_model.proofs.DenotationLaws.{denotation-only}
use Rattle.fw_model.proofs.TimedLaws.{in_order-twice}
use Rattle.fw_split.specs.Expansion.{EdgeOrigin, Whole, PartOf, SentBy, NodeOrigin, Same, Replica, Gathered, IsNodeOf, SendsFor, IsEdgeOf, IsExpansion, parts_to, timed_of_part, bag_of_origin}
use Rattle.fw_split.specs.LawsOfSplitting.{ReplicasSendTheirParts, ExpansionDenotesTheSame, DenotationOfExpansion, NodesHearTheSame, EdgesCarryTheSame}
use Rattle.fw_split.proofs.KeyLaws.{distinct-keyed, joint-keyed, joined-keyed}
use Rattle.fw_split.proofs.PartLaws.{keyed-in_order, keyed-bag, parts-make}
use Rattle.fw_split.proofs.SumsByKeyLaws.{sum-keyed, total-keyed}

-- ---- what a replica sends

pub replicas-send : ReplicasSendTheirParts
replicas-send flow (Distinct within) batches bags part s =
    let k = is_of_part part in
    keyed-in_order k (outputs_of_kind flow (Distinct within) batches bags)
    ∙ ap in_order (distinct-keyed k (joint_bag bags) ∙ ap distinct_timed (sym (joint-keyed k bags)))
replicas-send flow (Join within) batches bags part s =
    let k = is_of_part part in keyed-in_order k (outputs_of_kind flow (Join within) batches bags) ∙ ap in_order (joined-keyed k bags)
replicas-send flow (Sum within) batches bags part s =
    let k = is_of_part part in
    let rs = joint_bag bags in
    keyed-bag k (sums_at (distinct_stamps rs) rs) (sums_at (distinct_stamps (timed_of_part part rs)) (timed_of_part part rs)) (λ t x. sum-keyed k t x rs)
    ∙ ap (λ qs. in_order (sums_at (distinct_stamps qs) qs)) (sym (joint-keyed k bags))
replicas-send flow Total batches bags part s =
    let k = is_of_part part in
    let rs = joint_bag bags in
    keyed-bag k (totals_at (distinct_stamps rs) rs) (totals_at (distinct_stamps (timed_of_part part rs)) (timed_of_part part rs)) (λ t x. total-keyed k t x rs)
    ∙ ap (λ qs. in_order (totals_at (distinct_stamps qs) qs)) (sym (joint-keyed k bags))
replicas-send flow Input batches bags part s = absurd (cc)
replicas-send flow OutputEpoch batches bags part s = absurd (cc)
replicas-send flow OutputNumber batches bags part s = absurd (cc)
replicas-send flow (Select selection within) batches bags part s = absurd (cc)
replicas-send flow (Concat within) batches bags part s = absurd (cc)
replicas-send flow (Enter l) batches bags part s = absurd (cc)
replicas-send flow (Feedback l) batches bags part s = absurd (cc)
replicas-send flow (Leave l) batches bags part s = absurd (cc)
replicas-send flow Sequence batches bags part s = absurd (cc)
replicas-send flow Ledger batches bags part s = absurd (cc)
replicas-send flow (Regroup n) batches bags part s = absurd (cc)

-- ---- what any other node sends

max_of-loops : (f g : Dataflow) → f.loops ≡ g.loops → (l : ℕ) → max_of f l ≡ max_of g l
unfolding max_of
max_of-loops f g e l = ap (λ (loops : List Loop). (slice_index_or loops l (record { name = []; max = 0; parent = None })).max) e

-- of a flow no more is read than its loops
outputs-loops : (f g : Dataflow) → f.loops ≡ g.loops → (kind : Kind) (batches : List (List Rec)) (bags : List (List Timed))
    → outputs_of_kind f kind batches bags ≡ outputs_of_kind g kind batches bags
outputs-loops f g e (Feedback l) batches bags =
    ap (λ m. flat_map (λ (r : Timed). timed_at_some (fed_back_stamp m r.at) (r.rec ∷ [])) (joint_bag bags)) (max_of-loops f g e l)
outputs-loops f g e Input batches bags = refl
outputs-loops f g e OutputEpoch batches bags = refl
outputs-loops f g e OutputNumber batches bags = refl
outputs-loops f g e (Select selection within) batches bags = refl
outputs-loops f g e (Concat within) batches bags = refl
outputs-loops f g e (Distinct within) batches bags = refl
outputs-loops f g e (Join within) batches bags = refl
outputs-loops f g e (Sum within) batches bags = refl
outputs-loops f g e (Enter l) batches bags = refl
outputs-loops f g e (Leave l) batches bags = refl
outputs-loops f g e Total batches bags = refl
outputs-loops f g e Sequence batches bags = refl
outputs-loops f g e Ledger batches bags = refl
outputs-loops f g e (Regroup n) batches bags = refl

-- a concat sends what comes
concat-sends : (flow : Dataflow) (within : Option ℕ) (rs : List Timed) → one_by_one flow (Concat within) rs ≡ rs
concat-sends flow within [] = refl
concat-sends flow within (r ∷ rs) = ap (λ ys. r ∷ ys) (concat-sends flow within rs)

joint-parts : (rs : List Timed) (parts : List KeyPart) → joint_bag (map (λ part. timed_of_part part rs) parts) ≡ flat_map (λ part. timed_of_part part rs) parts
joint-parts rs [] = refl
joint-parts rs (part ∷ parts) = ap (λ ys. timed_of_part part rs ++ ys) (joint-parts rs parts)

-- ---- by origin

-- what the edges of the expansion carry
abbrev expanded : System → Family → (ℕ → EdgeOrigin) → Family
expanded small family of_edge e = bag_of_origin small family (of_edge e)

through : {A B C : Type 0} (g : B → C) (f : A → B) (xs : List A) → map (λ x. g (f x)) xs ≡ map g (map f xs)
through g f [] = refl
through g f (x ∷ xs) = ap (λ ys. g (f x) ∷ ys) (through g f xs)

-- the bags on edges, by what these are made of
bags-by : (small : System) (family : Family) (of_edge : ℕ → EdgeOrigin) (es : List ℕ) (made : List EdgeOrigin) → map of_edge es ≡ made
    → map (expanded small family of_edge) es ≡ map (bag_of_origin small family) made
bags-by small family of_edge es made h = through (bag_of_origin small family) of_edge es ∙ ap (map (bag_of_origin small family)) h

-- what a node of an origin sends in the expansion
abbrev made_by : System → Family → NodeOrigin → List Timed
made_by small family (Same p) = outputs_of small family p
made_by small family (Replica p part) = timed_of_part part (outputs_of small family p)
made_by small family (Gathered p) = outputs_of small family p

-- a node of a kind that may be split reads neither a loop nor batches
outputs-split : (f g : Dataflow) (kind : Kind) (xs ys : List (List Rec)) (bags : List (List Timed)) → may_split kind ≡ true
    → outputs_of_kind f kind xs bags ≡ outputs_of_kind g kind ys bags
outputs-split f g (Distinct within) xs ys bags s = refl
outputs-split f g (Join within) xs ys bags s = refl
outputs-split f g (Sum within) xs ys bags s = refl
outputs-split f g Total xs ys bags s = refl
outputs-split f g Input xs ys bags s = absurd (cc)
outputs-split f g OutputEpoch xs ys bags s = absurd (cc)
outputs-split f g OutputNumber xs ys bags s = absurd (cc)
outputs-split f g (Select selection within) xs ys bags s = absurd (cc)
outputs-split f g (Concat within) xs ys bags s = absurd (cc)
outputs-split f g (Enter l) xs ys bags s = absurd (cc)
outputs-split f g (Feedback l) xs ys bags s = absurd (cc)
outputs-split f g (Leave l) xs ys bags s = absurd (cc)
outputs-split f g Sequence xs ys bags s = absurd (cc)
outputs-split f g Ledger xs ys bags s = absurd (cc)
outputs-split f g (Regroup n) xs ys bags s = absurd (cc)

node-sends : (small large : System) (of_edge : ℕ → EdgeOrigin) → small.flow.loops ≡ large.flow.loops → (family : Family)
    → (q : ℕ) (origin : NodeOrigin) → IsNodeOf small large of_edge q origin → outputs_of large (expanded small family of_edge) q ≡ made_by small family origin
node-sends small large of_edge same family q (Same p) n =
    let of : Kind → List (List Rec) → List (List Timed) → List Timed = λ kind batches bags. in_order (outputs_of_kind large.flow kind batches bags) in
    let bags = map (expanded small family of_edge) (in_edges large.flow q) in
    ap (λ kind. of kind (batches_of large q) bags) n.0
    ∙ ap (λ batches. of (kind_of small.flow p) batches bags) n.3
    ∙ ap (of (kind_of small.flow p) (batches_of small p))
    (bags-by small family of_edge (in_edges large.flow q) (map Whole (in_edges small.flow p)) n.4
    ∙ sym (through (bag_of_origin small family) Whole (in_edges small.flow p)))
    ∙ ap in_order (outputs-loops large.flow small.flow (sym same) (kind_of small.flow p) (batches_of small p) (map family (in_edges small.flow p)))
node-sends small large of_edge same family q (Replica p part) n =
    let of : Kind → List (List Timed) → List Timed = λ kind bags. in_order (outputs_of_kind large.flow kind (batches_of large q) bags) in
    let kind = kind_of small.flow p in
    let ins = in_edges small.flow p in
    let made : ℕ → EdgeOrigin = λ d. PartOf d part in
    ap (λ k. of k (map (expanded small family of_edge) (in_edges large.flow q))) n.0
    ∙ ap (of kind) (bags-by small family of_edge (in_edges large.flow q) (map made ins) n.4
    ∙ sym (through (bag_of_origin small family) made ins) ∙ through (timed_of_part part) family ins)
    ∙ sym (replicas-send large.flow kind (batches_of large q) (map family ins) part n.3)
    ∙ ap (λ rs. timed_of_part part (in_order rs)) (outputs-split large.flow small.flow kind (batches_of large q) (batches_of small p) (map family ins) n.3)
node-sends small large of_edge same family q (Gathered p) n =
    let of : Kind → List (List Timed) → List Timed = λ kind bags. in_order (outputs_of_kind large.flow kind (batches_of large q) bags) in
    let within = loop_of_kind (kind_of small.flow p) in
    let last = n.4.0 in
    let sent = outputs_of small family p in
    ap (λ k. of k (map (expanded small family of_edge) (in_edges large.flow q))) n.0
    ∙ ap (of (Concat within)) (bags-by small family of_edge (in_edges large.flow q) (map (SentBy p) (parts_to last)) n.4.1
    ∙ sym (through (bag_of_origin small family) (SentBy p) (parts_to last)))
    ∙ ap in_order (concat-sends large.flow within (joint_bag (map (λ part. timed_of_part part sent) (parts_to last))) ∙ joint-parts sent (parts_to last))
    ∙ parts-make last sent
    ∙ in_order-twice (outputs_of_kind small.flow (kind_of small.flow p) (batches_of small p) (map family (in_edges small.flow p)))

sends-for : (small : System) (family : Family) (p : ℕ) (origin : NodeOrigin) → SendsFor p origin → made_by small family origin ≡ outputs_of small family p
sends-for small family p (Same q) s = ap (outputs_of small family) s
sends-for small family p (Replica q part) s = absurd s
sends-for small family p (Gathered q) s = ap (outputs_of small family) s

edge-carries : (small large : System) (of_node : ℕ → NodeOrigin) (of_edge : ℕ → EdgeOrigin) → IsExpansion small large of_node of_edge
    → (family : Family) → IsDenotation small family → (e : ℕ) (origin : EdgeOrigin) → IsEdgeOf small.flow large.flow of_node e origin
    → bag_of_origin small family origin ≡ carried_timed large.flow e (outputs_of large (expanded small family of_edge) (sender large.flow e))
edge-carries small large of_node of_edge x family f e origin = by origin
  where
    q : ℕ
    q = sender large.flow e

    sent : List Timed
    sent = outputs_of large (expanded small family of_edge) q

    sends : sent ≡ made_by small family (of_node q)
    sends = node-sends small large of_edge x.loops family q (of_node q) (x.nodes q)

    there : (d : ℕ) → family d ≡ outputs_of small family (sender small.flow d)
    there d = f d ∙ carried_timed-whole small.flow d (x.whole (receiver small.flow d)) (outputs_of small family (sender small.flow d))

    by : (o : EdgeOrigin) → IsEdgeOf small.flow large.flow of_node e o → bag_of_origin small family o ≡ carried_timed large.flow e sent
    by (Whole d) i =
        there d ∙ sym (carried_timed-whole large.flow e i.1 sent ∙ sends ∙ sends-for small family (sender small.flow d) (of_node q) i.0)
    by (PartOf d part) i =
        ap (timed_of_part part) (there d)
        ∙ sym (carried_timed-part large.flow e part i.1 sent ∙ ap (timed_of_part part) (sends ∙ sends-for small family (sender small.flow d) (of_node q) i.0))
    by (SentBy p part) i = sym (carried_timed-whole large.flow e i.1 sent ∙ sends ∙ ap (made_by small family) i.0)

pub expansion-denotes : ExpansionDenotesTheSame
expansion-denotes small large of_node of_edge x family f e = edge-carries small large of_node of_edge x family f e (of_edge e) (x.edges e)

pub denotation-expanded : DenotationOfExpansion
denotation-expanded small large of_node of_edge x w family other f g e =
    denotation-only large other (expanded small family of_edge) w g (expansion-denotes small large of_node of_edge x family f) e

-- what edges carry, by what these are made of
carried-by : (small : System) (family other : Family) (of_edge : ℕ → EdgeOrigin) → ((e : ℕ) → other e ≡ bag_of_origin small family (of_edge e))
    → (es : List ℕ) (made : List EdgeOrigin) → map of_edge es ≡ made → map other es ≡ map (bag_of_origin small family) made
carried-by small family other of_edge each es made h = same es ∙ bags-by small family of_edge es made h
  where
    same : (xs : List ℕ) → map other xs ≡ map (λ e. bag_of_origin small family (of_edge e)) xs
    same [] = refl
    same (x ∷ xs) = ap (λ b. b ∷ map other xs) (each x) ∙ ap (λ bs. bag_of_origin small family (of_edge x) ∷ bs) (same xs)

pub nodes-hear : NodesHearTheSame
nodes-hear small large of_node of_edge x w family other f g p there whole =
    let again = x.nodes_again p there in let heard = by (of_node q) refl again.2 (x.nodes q) in (q, again.1, heard.0, heard.1, heard.2)
  where
    q : ℕ
    q = (x.nodes_again p there).0

    by : (origin : NodeOrigin) → of_node q ≡ origin → SendsFor p origin → IsNodeOf small large of_edge q origin
        → (of_node q ≡ Same p) × (kind_of large.flow q ≡ kind_of small.flow p) × (map other (in_edges large.flow q) ≡ map family (in_edges small.flow p))
    by (Same r) e s n = (
      e ∙ ap Same s,
      n.0 ∙ ap (kind_of small.flow) s,
      carried-by small family other of_edge (denotation-expanded small large of_node of_edge x w family other f g) (in_edges large.flow q) (map Whole (in_edges small.flow r)) n.4
          ∙ sym (through (bag_of_origin small family) Whole (in_edges small.flow r)) ∙ ap (λ r. map family (in_edges small.flow r)) s,
    )
    by (Replica r part) e s n = absurd s
    by (Gathered r) e s n = absurd (true≢false (sym n.3 ∙ ap (λ r. may_split (kind_of small.flow r)) s ∙ whole))

pub edges-carry : EdgesCarryTheSame
edges-carry small large of_node of_edge x w family other f g d there = elim (x.edges_again d there) [
  | inl one ↦ inl (one.0, one.1, one.2, each one.0 ∙ ap (bag_of_origin small family) one.2)
  | inr parts ↦ inr (parts.0, parts.1, parts.2, parts.3, ap in_order (flat parts.1 (map (PartOf d) (parts_to parts.0)) parts.3 ∙ flat-parts (parts_to parts.0)) ∙ parts-make parts.0 (family d))
]
  where
    each : (e : ℕ) → other e ≡ bag_of_origin small family (of_edge e)
    each = denotation-expanded small large of_node of_edge x w family other f g

    joint-map : (bag : ℕ → List Timed) (es : List ℕ) → flat_map bag es ≡ joint_bag (map bag es)
    joint-map bag [] = refl
    joint-map bag (e ∷ es) = ap (λ ys. bag e ++ ys) (joint-map bag es)

    flat : (es : List ℕ) (made : List EdgeOrigin) → map of_edge es ≡ made → flat_map other es ≡ joint_bag (map (bag_of_origin small family) made)
    flat es made h = joint-map other es ∙ ap joint_bag (carried-by small family other of_edge each es made h)

    flat-parts : (parts : List KeyPart) → joint_bag (map (bag_of_origin small family) (map (PartOf d) parts)) ≡ flat_map (λ part. timed_of_part part (family d)) parts
    flat-parts parts = ap joint_bag (sym (through (bag_of_origin small family) (PartOf d) parts)) ∙ joint-parts (family d) parts
