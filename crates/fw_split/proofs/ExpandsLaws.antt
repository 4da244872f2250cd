-- So the one dataflow is an exact expansion of the other.
use Rattle.std.proofs.Common.{◌≡◌, ◌⊎◌, inl, inr, ℕ, ◌+◌, ◌-◌, ◌<◌, ◌≤◌, true, cond, List, [], ◌∷◌, ◌++◌, length, map, get_or, Option, Some, None, refl, sym, ap, ◌∙◌, subst, arith}
use Rattle.std.proofs.lemmas.Bool.{cases_lt}
use Rattle.std.proofs.lemmas.List.{get_or-map, get_or_past, length-map}
use Rattle.std.specs.List.{AllByRecursion, IsDistinct, flat_map, range_with_len}
use Rattle.std.specs.Str.{bytes_eq}
use Rattle.fw_lemmas.proofs.Each.{each-at, each-both, each-suffix, each-weaker}
use Rattle.fw_bag.specs.declared.rec.Rec.{Rec}
use Rattle.fw_flow.specs.declared.key_part.KeyPart.{KeyPart}
use Rattle.fw_flow.specs.declared.kind.Kind.TheVariants.{Concat}
use Rattle.fw_flow.specs.declared.kind.Policy.{Policy}
use Rattle.fw_flow.specs.declared.kind.Policy.TheVariants.{None as NoPolicy}
use Rattle.fw_flow.specs.declared.node.Loop.{Loop}
use Rattle.fw_flow.specs.declared.node.Node.{Node}
use Rattle.fw_flow.specs.declared.node.Edge.{Edge}
use Rattle.fw_flow.specs.declared.raw.Declaration.TheVariants.{Loop as ALoop, Node as ANode, Edge as AnEdge}
use Rattle.fw_flow.specs.Dataflow.{Dataflow, System, edges_into, idle_node, in_edges, node_at, receiver, sender}
use Rattle.fw_flow.specs.Declaring.{Declaration, Declared}
use Rattle.fw_flow.specs.Expand.{replicas_of_kind, split_of}
use Rattle.fw_flow.specs.FullNames.{part_name}
use Rattle.fw_flow.specs.KeyParts.{may_split, part_of}
use Rattle.fw_flow.specs.Kind.{RawKind, loop_of_kind}
use Rattle.fw_flow.specs.PlainNames.{HasNoPart}
use Rattle.fw_flow.specs.Raw.{edge_in, edge_names, flow_of_declarations, loop_in, loop_name, loop_names, node_in, node_name, node_names, place_or_end, resolved_kind}
use Rattle.fw_flow.specs.WellFormed.{IsWellFormed}
use Rattle.fw_flow.proofs.Checks.{length-nodes}
use Rattle.fw_flow.proofs.Drafts.{names_of_flow}
use Rattle.fw_flow.proofs.FullNameLaws.{IsDotless}
use Rattle.fw_flow.proofs.KindLaws.{loop_of_kind-map}
use Rattle.fw_split.specs.Exact.{IsExactExpansion, node_of_origin}
use Rattle.fw_split.specs.Expansion.{EdgeOrigin, Whole, PartOf, SentBy, Same, IsEdgeAgain, IsEdgeInParts, IsEdgeOf, IsNodeAgain, IsNodeOf, SendsFor, parts_to}
use Rattle.fw_split.specs.LawsOfSplitting.{DeclarationsExpand}
use Rattle.fw_split.specs.Unsplit.{AreAsWritten, HaveSameBatches, unsplit, without_word}
use Rattle.fw_split.proofs.DeclaredLaws.{IsHere, IsMadeOf, IsNodeHere, each-here, no_edge, small_of, split-there}
use Rattle.fw_split.proofs.ExpandedLaws.{Between, between-edge, distinct-full, distinct-ways, each-fits, each-placed, edge_origin, edge_origin-at, edge_origin-past, edges_made, few-of, Fits, full_names, idle-large, in-at, IsPlaced, kind-at, large-is, large_of, made-at, map-map, may_split-map, name-at, no_node, no_way, node-large, node_origin, node_origin-at, node_origin-past, nodes_in, none-both, part-at, parts-all, place-made, plain-node, plain-sends, plains, policy-at, receiver-at, sender-at, way_names}
use Rattle.fw_split.proofs.InEdgeLaws.{gathered-picks, into-none, into-picks, picks, replica-picks, same-picks}
use Rattle.fw_split.proofs.MadeLaws.{MadeEdge, MadeNode, edge_as, edge_made_of, edges-written, edges_of, gathered_made, node_as, node_made_of, nodes_of, part_in, part_made, replica_made, written_edges, written_of}
use Rattle.fw_split.proofs.PlaceLaws.{each-joined, each-stands, each_of-joined, own-place, places-equal}

small-length : (raw : List Declared) → length (small_of raw).nodes ≡ length (node_names raw)
small-length raw = length-nodes (loop_names raw) raw

large-length : (raw : List Declared) → length (large_of raw).nodes ≡ length (nodes_in raw)
large-length raw = length-map (nodes_in raw) (λ (m : MadeNode). m.node)

ways-length : (raw : List Declared) → length (large_of raw).edges ≡ length (edges_made raw)
ways-length raw = length-map (edges_made raw) (edge_as (full_names raw))

full-length : (raw : List Declared) → length (full_names raw) ≡ length (nodes_in raw)
full-length raw = length-map (nodes_in raw) (λ (m : MadeNode). m.node.name)

-- ---- in-edges

into-large : (raw : List Declared) (full : List ℕ) → place_or_end (full_names raw) full < length (nodes_in raw)
    → map (edge_origin raw) (in_edges (large_of raw) (place_or_end (full_names raw) full)) ≡ picks full (edges_made raw)
into-large raw full lt =
    ap (map (edge_origin raw)) (in-at (large_of raw) (place_or_end (full_names raw) full))
    ∙ into-picks (full_names raw) (edge_origin raw) full no_way (omega (arith, lt, full-length raw)) 0 (edges_made raw)
    (λ i l. let same : 0 + i ≡ i = omega arith in ap (edge_origin raw) same ∙ edge_origin-at raw i l)

module _ (raw : List Declared) (w : AreAsWritten raw) (f : ℕ → EdgeOrigin) where
  written-names : edge_names raw ≡ map (λ (m : MadeEdge). m.name) (written_edges f (edge_names raw) raw)
  written-names =
      (names_of_flow raw).1 ∙ ap (map (λ (e : Edge). e.name)) (edges-written f (edge_names raw) (node_names raw) raw)
      ∙ map-map (λ (e : Edge). e.name) (edge_as (node_names raw)) (written_edges f (edge_names raw) raw)

  abbrev HasOwn : MadeEdge → Type 0
  HasOwn m = m.origin ≡ f (place_or_end (edge_names raw) m.name)

  own-one : (d : Declaration) → AllByRecursion HasOwn (written_of f (edge_names raw) d)
  own-one (ALoop name max parent) = tt
  own-one (ANode name kind policy split part) = tt
  own-one (AnEdge name from to) = (refl, tt)

  each-own : (ds : List Declared) → AllByRecursion HasOwn (written_edges f (edge_names raw) ds)
  each-own ds = each-joined HasOwn (λ d. written_of f (edge_names raw) d.declaration) ds (each ds)
    where
      each : (xs : List Declared) → AllByRecursion (λ d. AllByRecursion HasOwn (written_of f (edge_names raw) d.declaration)) xs
      each [] = tt
      each (x ∷ xs) = (own-one x.declaration, each xs)

  written-own : (i : ℕ) → i < length (written_edges f (edge_names raw) raw) → f i ≡ (get_or (written_edges f (edge_names raw) raw) i no_way).origin
  written-own i lt =
      let m = get_or (written_edges f (edge_names raw) raw) i no_way in
      let place : place_or_end (map (λ (x : MadeEdge). x.name) (written_edges f (edge_names raw) raw)) m.name ≡ i =
      own-place (λ (x : MadeEdge). x.name) (written_edges f (edge_names raw) raw) i no_way (subst (IsDistinct bytes_eq) written-names w.edges) lt in
      ap f (sym (ap (λ names. place_or_end names m.name) written-names ∙ place))
      ∙ sym (each-at HasOwn (written_edges f (edge_names raw) raw) i no_way lt (each-own raw))

  pub into-small : (name : List ℕ) → place_or_end (node_names raw) name < length (small_of raw).nodes
      → map f (in_edges (small_of raw) (place_or_end (node_names raw) name)) ≡ picks name (written_edges f (edge_names raw) raw)
  into-small name lt =
      ap (map f) (in-at (small_of raw) (place_or_end (node_names raw) name)
      ∙ ap (λ es. edges_into 0 es (place_or_end (node_names raw) name)) (edges-written f (edge_names raw) (node_names raw) raw))
      ∙ into-picks (node_names raw) f name no_way (omega (arith, lt, small-length raw)) 0 (written_edges f (edge_names raw) raw)
      (λ i l. let same : 0 + i ≡ i = omega arith in ap f same ∙ written-own i l)

-- ---- the whole

module _ (raw : List Declared) (w : AreAsWritten raw) (wf : IsWellFormed (large_of raw)) (before after : List (List (List Rec))) where
  -- what each receiver of an edge that is declared is: it is there
  receiver-one : (d : Declaration) → IsHere raw d → AllByRecursion (IsPlaced raw w) (edges_of raw (node_names raw) (edge_names raw) d)
      → AllByRecursion (λ m. place_or_end (node_names raw) m.receiver < length (node_names raw)) (written_of Whole (edge_names raw) d)
  receiver-one (ALoop name max parent) h p = tt
  receiver-one (ANode name kind policy split part) h p = tt
  receiver-one (AnEdge name from to) h p = (by (split_of raw to) refl p, tt)
    where
      by : (o : Option ℕ) → split_of raw to ≡ o → AllByRecursion (IsPlaced raw w) (edge_made_of raw (node_names raw) (edge_names raw) name from to o)
          → place_or_end (node_names raw) to < length (node_names raw)
      by None e p = let lt = (plain-node raw w to h.plain_receiver p.0.1).there in omega (arith, lt, small-length raw)
      by (Some n) e p = split-there raw to n e

  receivers : AllByRecursion (λ m. place_or_end (node_names raw) m.receiver < length (node_names raw)) (written_edges Whole (edge_names raw) raw)
  receivers =
      let of : Declared → List MadeEdge = λ d. edges_of raw (node_names raw) (edge_names raw) d.declaration in
      let Low : MadeEdge → Type 0 = λ m. place_or_end (node_names raw) m.receiver < length (node_names raw) in
      each-joined Low (λ d. written_of Whole (edge_names raw) d.declaration) raw
      (each-weaker (λ d. IsHere raw d.declaration × AllByRecursion (IsPlaced raw w) (of d)) (λ d. AllByRecursion Low (written_of Whole (edge_names raw) d.declaration)) raw
      (λ d k. receiver-one d.declaration k.0 k.1)
      (each-both (λ d. IsHere raw d.declaration) (λ d. AllByRecursion (IsPlaced raw w) (of d)) raw (each-here raw w) (each_of-joined (IsPlaced raw w) of raw (each-placed raw w wf))))

  -- ---- each node

  module _ (same : HaveSameBatches (record { flow = small_of raw; batches = before }) (record { flow = large_of raw; batches = after })) where
    node-by : (q : ℕ) → q < length (nodes_in raw) → (own : List ℕ) (kind : RawKind) (policy : Policy) (count : Option ℕ) → IsNodeHere raw own kind policy count
        → IsMadeOf raw own kind policy count (get_or (nodes_in raw) q no_node)
        → IsNodeOf (record { flow = small_of raw; batches = before }) (record { flow = large_of raw; batches = after }) (edge_origin raw) q (get_or (nodes_in raw) q no_node).origin
    node-by q lt own kind policy None h made =
        let m = get_or (nodes_in raw) q no_node in
        let p = place_or_end (node_names raw) own in
        let here = node-large raw q lt ∙ ap (λ (x : MadeNode). x.node) made in
        let node = node_as (loop_names raw) own kind policy None in
        let at : place_or_end (full_names raw) own ≡ q = ap (λ (x : MadeNode). place_or_end (full_names raw) x.node.name) (sym made) ∙ place-made raw w q lt in
        let ins : map (edge_origin raw) (in_edges (large_of raw) q) ≡ map Whole (in_edges (small_of raw) p) =
        ap (λ x. map (edge_origin raw) (in_edges (large_of raw) x)) (sym at) ∙ into-large raw own (subst (λ x. x < length (nodes_in raw)) (sym at) lt)
        ∙ same-picks raw (node_names raw) (edge_names raw) own h.plain h.counted raw (plains raw w) ∙ sym (into-small raw w Whole own h.there) in
        subst (IsNodeOf (record { flow = small_of raw; batches = before }) (record { flow = large_of raw; batches = after }) (edge_origin raw) q) (sym (ap (λ (x : MadeNode). x.origin) made)) (
          kind-at (large_of raw) q node here ∙ sym (kind-at (small_of raw) p node h.is),
          policy-at (large_of raw) q node here ∙ sym (policy-at (small_of raw) p node h.is),
          part-at (large_of raw) q node here ∙ none-both (may_split (resolved_kind (loop_names raw) kind)),
          same p q (name-at (large_of raw) q node here ∙ sym (name-at (small_of raw) p node h.is)),
          ins,
        )
    node-by q lt own kind policy (Some n) h (inl part) =
        let i = part.0 in
        let made = part.2 in
        let m = get_or (nodes_in raw) q no_node in
        let p = place_or_end (node_names raw) own in
        let here = node-large raw q lt ∙ ap (λ (x : MadeNode). x.node) made in
        let node = node_as (loop_names raw) (part_name own i) kind policy (Some (part_in n i)) in
        let small_node = node_as (loop_names raw) own kind policy None in
        let at : place_or_end (full_names raw) (part_name own i) ≡ q = ap (λ (x : MadeNode). place_or_end (full_names raw) x.node.name) (sym made) ∙ place-made raw w q lt in
        let splits : may_split (resolved_kind (loop_names raw) kind) ≡ true = may_split-map (place_or_end (loop_names raw)) kind ∙ h.may n refl in
        let ins : map (edge_origin raw) (in_edges (large_of raw) q) ≡ map (λ d. PartOf d (part_in n i)) (in_edges (small_of raw) p) =
        ap (λ x. map (edge_origin raw) (in_edges (large_of raw) x)) (sym at) ∙ into-large raw (part_name own i) (subst (λ x. x < length (nodes_in raw)) (sym at) lt)
        ∙ replica-picks raw (node_names raw) (edge_names raw) own n i h.plain h.counted part.1 (few-of raw w own n h.counted).1 raw (plains raw w)
        ∙ sym (into-small raw w (λ d. PartOf d (part_in n i)) own h.there) in
        subst (IsNodeOf (record { flow = small_of raw; batches = before }) (record { flow = large_of raw; batches = after }) (edge_origin raw) q) (sym (ap (λ (x : MadeNode). x.origin) made)) (
          kind-at (large_of raw) q node here ∙ sym (kind-at (small_of raw) p small_node h.is),
          policy-at (large_of raw) q node here ∙ sym (policy-at (small_of raw) p small_node h.is),
          part-at (large_of raw) q node here ∙ ap (λ b. cond b (Some (part_in n i)) None) splits,
          ap may_split (kind-at (small_of raw) p small_node h.is) ∙ splits,
          ins,
        )
    node-by q lt own kind policy (Some n) h (inr made) =
        let m = get_or (nodes_in raw) q no_node in
        let p = place_or_end (node_names raw) own in
        let here = node-large raw q lt ∙ ap (λ (x : MadeNode). x.node) made in
        let node = node_as (loop_names raw) own (Concat (loop_of_kind kind)) NoPolicy None in
        let small_node = node_as (loop_names raw) own kind policy None in
        let at : place_or_end (full_names raw) own ≡ q = ap (λ (x : MadeNode). place_or_end (full_names raw) x.node.name) (sym made) ∙ place-made raw w q lt in
        let splits : may_split (resolved_kind (loop_names raw) kind) ≡ true = may_split-map (place_or_end (loop_names raw)) kind ∙ h.may n refl in
        let ins : map (edge_origin raw) (in_edges (large_of raw) q) ≡ map (SentBy p) (parts_to (n - 1)) =
        ap (λ x. map (edge_origin raw) (in_edges (large_of raw) x)) (sym at) ∙ into-large raw own (subst (λ x. x < length (nodes_in raw)) (sym at) lt)
        ∙ gathered-picks raw (node_names raw) (edge_names raw) own n h.plain h.counted raw (plains raw w) w.nodes (let low = h.there in omega (arith, low, small-length raw))
        ∙ parts-all (SentBy p) n (few-of raw w own n h.counted).0 in
        subst (IsNodeOf (record { flow = small_of raw; batches = before }) (record { flow = large_of raw; batches = after }) (edge_origin raw) q) (sym (ap (λ (x : MadeNode). x.origin) made)) (
          kind-at (large_of raw) q node here
              ∙ ap Concat (sym (loop_of_kind-map (place_or_end (loop_names raw)) kind) ∙ sym (ap loop_of_kind (kind-at (small_of raw) p small_node h.is))),
          policy-at (large_of raw) q node here,
          part-at (large_of raw) q node here,
          ap may_split (kind-at (small_of raw) p small_node h.is) ∙ splits,
          (n - 1, ins),
        )

    past-by : (q : ℕ) → length (nodes_in raw) ≤ q
        → IsNodeOf (record { flow = small_of raw; batches = before }) (record { flow = large_of raw; batches = after }) (edge_origin raw) q
        (Same (length (small_of raw).nodes + (q - length (nodes_in raw))))
    past-by q past =
        let p = length (small_of raw).nodes + (q - length (nodes_in raw)) in
        let here = idle-large raw q past in
        let there = get_or_past (small_of raw).nodes p idle_node (omega arith) in
        let large_ins : in_edges (large_of raw) q ≡ [] =
        in-at (large_of raw) q ∙ into-none 0 (full_names raw) (edges_made raw) q (omega (arith, past, full-length raw))
        (each-weaker (IsPlaced raw w) (λ m. place_or_end (full_names raw) m.receiver < length (full_names raw)) (edges_made raw)
        (λ m k. let lt = k.1 in omega (arith, lt, full-length raw)) (each-placed raw w wf)) in
        let small_ins : in_edges (small_of raw) p ≡ [] =
        in-at (small_of raw) p ∙ ap (λ es. edges_into 0 es p) (edges-written Whole (edge_names raw) (node_names raw) raw)
        ∙ into-none 0 (node_names raw) (written_edges Whole (edge_names raw) raw) p (omega (arith, small-length raw)) receivers in (
          kind-at (large_of raw) q idle_node here ∙ sym (kind-at (small_of raw) p idle_node there),
          policy-at (large_of raw) q idle_node here ∙ sym (policy-at (small_of raw) p idle_node there),
          part-at (large_of raw) q idle_node here,
          same p q (name-at (large_of raw) q idle_node here ∙ sym (name-at (small_of raw) p idle_node there)),
          ap (map (edge_origin raw)) large_ins ∙ sym (ap (map Whole) small_ins),
        )

    node-of : (q : ℕ)
        → IsNodeOf (record { flow = small_of raw; batches = before }) (record { flow = large_of raw; batches = after }) (edge_origin raw) q (node_origin raw q)
    node-of q = elim (cases_lt q (length (nodes_in raw))) [
      | inl lt ↦
          let x = made-at raw w q lt in
          subst (IsNodeOf (record { flow = small_of raw; batches = before }) (record { flow = large_of raw; batches = after }) (edge_origin raw) q)
          (sym (node_origin-at raw q lt)) (node-by q lt x.name x.kind x.policy x.count x.here x.made)
      | inr past ↦
          subst (IsNodeOf (record { flow = small_of raw; batches = before }) (record { flow = large_of raw; batches = after }) (edge_origin raw) q)
          (sym (node_origin-past raw q past)) (past-by q past)
    ]

  -- ---- each edge

  edge-of : (e : ℕ) → IsEdgeOf (small_of raw) (large_of raw) (node_origin raw) e (edge_origin raw e)
  edge-of e = elim (cases_lt e (length (edges_made raw))) [
    | inl lt ↦
        let m = get_or (edges_made raw) e no_way in
        let x = edge_as (full_names raw) m in
        let is = get_or-map (edge_as (full_names raw)) (edges_made raw) e no_way (record { name = []; sender = length (large_of raw).nodes; receiver = length (large_of raw).nodes }) lt in
        let fits = each-at (Fits raw w) (edges_made raw) e no_way lt (each-fits raw w wf) in
        subst (IsEdgeOf (small_of raw) (large_of raw) (node_origin raw) e) (sym (edge_origin-at raw e lt))
        (between-edge raw w e m.origin
        (subst (λ s. Between raw w s (receiver (large_of raw) e) m.origin) (sym (sender-at (large_of raw) e x is))
        (subst (λ r. Between raw w (place_or_end (full_names raw) m.sender) r m.origin) (sym (receiver-at (large_of raw) e x is)) fits)))
    | inr past ↦
        let many = ways-length raw in
        let d = length (small_of raw).edges + (e - length (edges_made raw)) in
        let end = length (large_of raw).nodes in
        let idle : Edge = record { name = []; sender = length (large_of raw).nodes; receiver = length (large_of raw).nodes } in
        let here = get_or_past (large_of raw).edges e idle (omega (arith, past, many)) in
        let there = get_or_past (small_of raw).edges d (no_edge raw) (omega arith) in
        let nodes = large-length raw in
        let count : length (small_of raw).nodes + (end - length (nodes_in raw)) ≡ length (small_of raw).nodes = omega (arith, nodes) in
        let of : node_origin raw (sender (large_of raw) e) ≡ Same (length (small_of raw).nodes) =
        ap (node_origin raw) (sender-at (large_of raw) e idle here) ∙ node_origin-past raw end (omega (arith, nodes)) ∙ ap Same count in
        subst (IsEdgeOf (small_of raw) (large_of raw) (node_origin raw) e) (sym (edge_origin-past raw e past)) (
          subst (SendsFor (sender (small_of raw) d)) (sym of) (sym (sender-at (small_of raw) d (no_edge raw) there)),
          ap (part_of (large_of raw)) (receiver-at (large_of raw) e idle here) ∙ part-at (large_of raw) end idle_node (idle-large raw end (omega (arith, nodes))),
        )
  ]

  -- ---- no node of the flow without the word is a replica

  whole-one : (line : ℕ) (d : Declaration) → HasNoPart d → AllByRecursion (λ (n : Node). n.part ≡ None) (node_in (loop_names raw) (record { line = line; declaration = d }))
  whole-one line (ALoop name max parent) k = tt
  whole-one line (ANode name kind policy split part) k = (k, tt)
  whole-one line (AnEdge name from to) k = tt

  whole-of : (p : ℕ) → part_of (small_of raw) p ≡ None
  whole-of p = elim (cases_lt p (length (small_of raw).nodes)) [
    | inl lt ↦
        let n = get_or (small_of raw).nodes p idle_node in
        part-at (small_of raw) p n refl
        ∙ ap (λ o. cond (may_split n.kind) o None)
        (each-at (λ (x : Node). x.part ≡ None) (small_of raw).nodes p idle_node lt
        (each-joined (λ (x : Node). x.part ≡ None) (node_in (loop_names raw)) raw
        (each-weaker (λ d. HasNoPart d.declaration) (λ d. AllByRecursion (λ (x : Node). x.part ≡ None) (node_in (loop_names raw) d)) raw
        (λ d k. whole-one d.line d.declaration k) w.no_parts)))
        ∙ none-both (may_split n.kind)
    | inr past ↦ part-at (small_of raw) p idle_node (get_or_past (small_of raw).nodes p idle_node past)
  ]

  -- ---- each node comes again

  abbrev ComesAgain : Node → Type 0
  ComesAgain n = IsDotless n.name × (place_or_end (full_names raw) n.name < length (nodes_in raw))

  abbrev Stands : MadeNode → Type 0
  Stands m = (place_or_end (full_names raw) m.node.name < length (nodes_in raw)) × (get_or (nodes_in raw) (place_or_end (full_names raw) m.node.name) no_node ≡ m)

  again-by : (name : List ℕ) (kind : RawKind) (policy : Policy) (part : Option KeyPart) (o : Option ℕ) → IsDotless name
      → AllByRecursion Stands (node_made_of (loop_names raw) (node_names raw) name kind policy part o) → IsDotless name × (place_or_end (full_names raw) name < length (nodes_in raw))
  again-by name kind policy part None plain s = (plain, s.0.0)
  again-by name kind policy part (Some n) plain s =
      (plain, (each-suffix Stands (map (replica_made (loop_names raw) (node_names raw) name kind policy n) (range_with_len 0 n)) (gathered_made (loop_names raw) (node_names raw) name kind ∷ []) s).0.0)

  again-one : (line : ℕ) (d : Declaration) → IsHere raw d → AllByRecursion Stands (nodes_of (loop_names raw) (node_names raw) d)
      → AllByRecursion ComesAgain (node_in (loop_names raw) (record { line = line; declaration = d }))
  again-one line (ALoop name max parent) h s = tt
  again-one line (ANode name kind policy split part) h s = (again-by name kind policy part (replicas_of_kind kind split part) h.plain s, tt)
  again-one line (AnEdge name from to) h s = tt

  each-again : AllByRecursion ComesAgain (small_of raw).nodes
  each-again =
      let of : Declared → List MadeNode = λ d. nodes_of (loop_names raw) (node_names raw) d.declaration in
      each-joined ComesAgain (node_in (loop_names raw)) raw
      (each-weaker (λ d. IsHere raw d.declaration × AllByRecursion Stands (of d)) (λ d. AllByRecursion ComesAgain (node_in (loop_names raw) d)) raw
      (λ d k. again-one d.line d.declaration k.0 k.1)
      (each-both (λ d. IsHere raw d.declaration) (λ d. AllByRecursion Stands (of d)) raw (each-here raw w)
      (each_of-joined Stands of raw (each-stands (λ (m : MadeNode). m.node.name) (nodes_in raw) no_node (distinct-full raw w)))))

  nodes-again : (p : ℕ) → p < length (small_of raw).nodes → IsNodeAgain (large_of raw) (node_origin raw) p
  nodes-again p lt =
      let n = get_or (small_of raw).nodes p idle_node in
      let names = (names_of_flow raw).0 in
      let at : place_or_end (node_names raw) n.name ≡ p =
      ap (λ xs. place_or_end xs n.name) names ∙ own-place (λ (x : Node). x.name) (small_of raw).nodes p idle_node (subst (IsDistinct bytes_eq) names w.nodes) lt in
      let again = each-at ComesAgain (small_of raw).nodes p idle_node lt each-again in
      let low = again.1 in
      let q = place_or_end (full_names raw) n.name in
      (q, omega (arith, low, large-length raw), subst (λ x. SendsFor x (node_origin raw q)) at (plain-sends raw w n.name again.0 again.1))

  -- ---- each edge comes again

  abbrev EdgeComesAgain : ℕ → Type 0
  EdgeComesAgain d = IsEdgeAgain (large_of raw) (edge_origin raw) d ⊎ IsEdgeInParts (large_of raw) (edge_origin raw) d

  abbrev StandsEdge : MadeEdge → Type 0
  StandsEdge m = (place_or_end (way_names raw) m.name < length (edges_made raw)) × (get_or (edges_made raw) (place_or_end (way_names raw) m.name) no_way ≡ m)

  edge-again : (name from to : List ℕ) (o : Option ℕ) → split_of raw to ≡ o
      → AllByRecursion StandsEdge (edge_made_of raw (node_names raw) (edge_names raw) name from to o) → EdgeComesAgain (place_or_end (edge_names raw) name)
  edge-again name from to None e s =
      let low = s.0.0 in
      let at = place_or_end (way_names raw) name in
      inl (at, omega (arith, low, ways-length raw), edge_origin-at raw at low ∙ ap (λ (m : MadeEdge). m.origin) s.0.1)
  edge-again name from to (Some n) e s =
      let d = place_or_end (edge_names raw) name in
      let all = each (range_with_len 0 n) s in
      inr (n - 1, map (λ i. place_or_end (way_names raw) (part_name name i)) (range_with_len 0 n), all.0, all.1 ∙ parts-all (PartOf d) n (few-of raw w to n e).0)
    where
      each : (is : List ℕ) → AllByRecursion StandsEdge (map (part_made raw (node_names raw) (edge_names raw) name from to n) is)
          → AllByRecursion (λ x. x < length (large_of raw).edges) (map (λ i. place_or_end (way_names raw) (part_name name i)) is)
          × (map (edge_origin raw) (map (λ i. place_or_end (way_names raw) (part_name name i)) is) ≡ map (λ i. PartOf (place_or_end (edge_names raw) name) (part_in n i)) is)
      each [] k = (tt, refl)
      each (i ∷ is) k =
          let rest = each is k.1 in
          let low = k.0.0 in
          let at = place_or_end (way_names raw) (part_name name i) in
          let first = edge_origin-at raw at low ∙ ap (λ (m : MadeEdge). m.origin) k.0.1 in
          let others = map (edge_origin raw) (map (λ j. place_or_end (way_names raw) (part_name name j)) is) in (
            (omega (arith, low, ways-length raw), rest.0),
            ap (λ o. o ∷ others) first ∙ ap (λ os. PartOf (place_or_end (edge_names raw) name) (part_in n i) ∷ os) rest.1,
          )

  edge_again-one : (line : ℕ) (d : Declaration) → AllByRecursion StandsEdge (edges_of raw (node_names raw) (edge_names raw) d)
      → AllByRecursion (λ (x : Edge). EdgeComesAgain (place_or_end (edge_names raw) x.name)) (edge_in (node_names raw) (record { line = line; declaration = d }))
  edge_again-one line (ALoop name max parent) s = tt
  edge_again-one line (ANode name kind policy split part) s = tt
  edge_again-one line (AnEdge name from to) s = (edge-again name from to (split_of raw to) refl s, tt)

  edges-again : (d : ℕ) → d < length (small_of raw).edges → EdgeComesAgain d
  edges-again d lt =
      let x = get_or (small_of raw).edges d (no_edge raw) in
      let names = (names_of_flow raw).1 in
      let of : Declared → List MadeEdge = λ k. edges_of raw (node_names raw) (edge_names raw) k.declaration in
      let Again : Edge → Type 0 = λ y. EdgeComesAgain (place_or_end (edge_names raw) y.name) in
      let at : place_or_end (edge_names raw) x.name ≡ d =
      ap (λ xs. place_or_end xs x.name) names ∙ own-place (λ (y : Edge). y.name) (small_of raw).edges d (no_edge raw) (subst (IsDistinct bytes_eq) names w.edges) lt in
      let all : AllByRecursion Again (small_of raw).edges =
      each-joined Again (edge_in (node_names raw)) raw
      (each-weaker (λ k. AllByRecursion StandsEdge (of k)) (λ k. AllByRecursion Again (edge_in (node_names raw) k)) raw (λ k s. edge_again-one k.line k.declaration s)
      (each_of-joined StandsEdge of raw (each-stands (λ (m : MadeEdge). m.name) (edges_made raw) no_way (distinct-ways raw w)))) in
      subst EdgeComesAgain at (each-at Again (small_of raw).edges d (no_edge raw) lt all)

  -- ---- one node alone sends for each

  -- the node at q sends for that at p: they have one name
  pub record HasNameOf (p q : ℕ) : Type 0 where
    pub name : List ℕ
    pub is : place_or_end (node_names raw) name ≡ p
    pub there : place_or_end (node_names raw) name < length (small_of raw).nodes
    pub at : place_or_end (full_names raw) name ≡ q
    pub named : (node_at (large_of raw) q).name ≡ (node_at (small_of raw) p).name

  name-of : (p q : ℕ) → q < length (nodes_in raw) → (own : List ℕ) (kind : RawKind) (policy : Policy) (count : Option ℕ) → IsNodeHere raw own kind policy count
      → IsMadeOf raw own kind policy count (get_or (nodes_in raw) q no_node) → SendsFor p (get_or (nodes_in raw) q no_node).origin → HasNameOf p q
  name-of p q lt own kind policy None h made s =
      let is : place_or_end (node_names raw) own ≡ p = subst (SendsFor p) (ap (λ (x : MadeNode). x.origin) made) s in
      record {
        name = own;
        is = is;
        there = h.there;
        at = ap (λ (x : MadeNode). place_or_end (full_names raw) x.node.name) (sym made) ∙ place-made raw w q lt;
        named = name-at (large_of raw) q (node_as (loop_names raw) own kind policy None) (node-large raw q lt ∙ ap (λ (x : MadeNode). x.node) made)
            ∙ sym (name-at (small_of raw) (place_or_end (node_names raw) own) (node_as (loop_names raw) own kind policy None) h.is)
            ∙ ap (λ x. (node_at (small_of raw) x).name) is;
      }
  name-of p q lt own kind policy (Some n) h (inl part) s = absurd (subst (SendsFor p) (ap (λ (x : MadeNode). x.origin) part.2) s)
  name-of p q lt own kind policy (Some n) h (inr made) s =
      let is : place_or_end (node_names raw) own ≡ p = subst (SendsFor p) (ap (λ (x : MadeNode). x.origin) made) s in
      record {
        name = own;
        is = is;
        there = h.there;
        at = ap (λ (x : MadeNode). place_or_end (full_names raw) x.node.name) (sym made) ∙ place-made raw w q lt;
        named = name-at (large_of raw) q (node_as (loop_names raw) own (Concat (loop_of_kind kind)) NoPolicy None) (node-large raw q lt ∙ ap (λ (x : MadeNode). x.node) made)
            ∙ sym (name-at (small_of raw) (place_or_end (node_names raw) own) (node_as (loop_names raw) own kind policy None) h.is)
            ∙ ap (λ x. (node_at (small_of raw) x).name) is;
      }

  has-name : (p q : ℕ) → q < length (large_of raw).nodes → SendsFor p (node_origin raw q) → HasNameOf p q
  has-name p q lt s =
      let low : q < length (nodes_in raw) = omega (arith, lt, large-length raw) in
      let x = made-at raw w q low in
      name-of p q low x.name x.kind x.policy x.count x.here x.made (subst (SendsFor p) (node_origin-at raw q low) s)

  once-of : (p q r : ℕ) → q < length (large_of raw).nodes → r < length (large_of raw).nodes → SendsFor p (node_origin raw q) → SendsFor p (node_origin raw r) → q ≡ r
  once-of p q r low high s t =
      let a = has-name p q low s in
      let b = has-name p r high t in
      let there = b.there in
      let same : a.name ≡ b.name = places-equal (node_names raw) a.name b.name (omega (arith, there, small-length raw)) (a.is ∙ sym b.is) in
      sym a.at ∙ ap (place_or_end (full_names raw)) same ∙ b.at

  within-by : (own : List ℕ) (kind : RawKind) (policy : Policy) (count : Option ℕ) → IsNodeHere raw own kind policy count → (m : MadeNode) → IsMadeOf raw own kind policy count m
      → node_of_origin m.origin < length (small_of raw).nodes
  within-by own kind policy None h m made = subst (λ o. node_of_origin o < length (small_of raw).nodes) (sym (ap (λ (x : MadeNode). x.origin) made)) h.there
  within-by own kind policy (Some n) h m (inl part) = subst (λ o. node_of_origin o < length (small_of raw).nodes) (sym (ap (λ (x : MadeNode). x.origin) part.2)) h.there
  within-by own kind policy (Some n) h m (inr made) = subst (λ o. node_of_origin o < length (small_of raw).nodes) (sym (ap (λ (x : MadeNode). x.origin) made)) h.there

  within-of : (q : ℕ) → q < length (large_of raw).nodes → node_of_origin (node_origin raw q) < length (small_of raw).nodes
  within-of q lt =
      let low : q < length (nodes_in raw) = omega (arith, lt, large-length raw) in
      let x = made-at raw w q low in
      subst (λ o. node_of_origin o < length (small_of raw).nodes) (sym (node_origin-at raw q low)) (within-by x.name x.kind x.policy x.count x.here (get_or (nodes_in raw) q no_node) x.made)

  exact : HaveSameBatches (record { flow = small_of raw; batches = before }) (record { flow = large_of raw; batches = after })
      → IsExactExpansion (record { flow = small_of raw; batches = before }) (record { flow = large_of raw; batches = after }) (node_origin raw) (edge_origin raw)
  exact same = record {
    expansion = record {
      whole = whole-of;
      loops = refl;
      nodes = node-of same;
      edges = edge-of;
      nodes_again = nodes-again;
      edges_again = edges-again;
    };
    within = within-of;
    once = once-of;
    named = λ p q lt s. (has-name p q lt s).named;
  }

-- ---- the declarations without the word

-- what does not ask for the word is the same without it
unsplit-joined : {B : Type 0} (f : Declared → List B) → ((line : ℕ) (d : Declaration) → f (record { line = line; declaration = without_word d }) ≡ f (record { line = line; declaration = d }))
    → (raw : List Declared) → flat_map f (unsplit raw) ≡ flat_map f raw
unsplit-joined f h [] = refl
unsplit-joined f h (d ∷ raw) = ap (λ xs. xs ++ flat_map f (unsplit raw)) (h d.line d.declaration) ∙ ap (λ xs. f d ++ xs) (unsplit-joined f h raw)

unsplit-loop_names : (raw : List Declared) → loop_names (unsplit raw) ≡ loop_names raw
unsplit-loop_names raw = unsplit-joined loop_name by raw
  where
    by : (line : ℕ) (d : Declaration) → loop_name (record { line = line; declaration = without_word d }) ≡ loop_name (record { line = line; declaration = d })
    by line (ALoop name max parent) = refl
    by line (ANode name kind policy split part) = refl
    by line (AnEdge name from to) = refl

unsplit-node_names : (raw : List Declared) → node_names (unsplit raw) ≡ node_names raw
unsplit-node_names raw = unsplit-joined node_name by raw
  where
    by : (line : ℕ) (d : Declaration) → node_name (record { line = line; declaration = without_word d }) ≡ node_name (record { line = line; declaration = d })
    by line (ALoop name max parent) = refl
    by line (ANode name kind policy split part) = refl
    by line (AnEdge name from to) = refl

unsplit-loops : (names : List (List ℕ)) (raw : List Declared) → flat_map (loop_in names) (unsplit raw) ≡ flat_map (loop_in names) raw
unsplit-loops names raw = unsplit-joined (loop_in names) by raw
  where
    by : (line : ℕ) (d : Declaration) → loop_in names (record { line = line; declaration = without_word d }) ≡ loop_in names (record { line = line; declaration = d })
    by line (ALoop name max parent) = refl
    by line (ANode name kind policy split part) = refl
    by line (AnEdge name from to) = refl

unsplit-nodes : (names : List (List ℕ)) (raw : List Declared) → flat_map (node_in names) (unsplit raw) ≡ flat_map (node_in names) raw
unsplit-nodes names raw = unsplit-joined (node_in names) by raw
  where
    by : (line : ℕ) (d : Declaration) → node_in names (record { line = line; declaration = without_word d }) ≡ node_in names (record { line = line; declaration = d })
    by line (ALoop name max parent) = refl
    by line (ANode name kind policy split part) = refl
    by line (AnEdge name from to) = refl

unsplit-edges : (names : List (List ℕ)) (raw : List Declared) → flat_map (edge_in names) (unsplit raw) ≡ flat_map (edge_in names) raw
unsplit-edges names raw = unsplit-joined (edge_in names) by raw
  where
    by : (line : ℕ) (d : Declaration) → edge_in names (record { line = line; declaration = without_word d }) ≡ edge_in names (record { line = line; declaration = d })
    by line (ALoop name max parent) = refl
    by line (ANode name kind policy split part) = refl
    by line (AnEdge name from to) = refl

-- the dataflow without the word
pub unsplit-flow : (raw : List Declared) → flow_of_declarations (unsplit raw) ≡ small_of raw
unsplit-flow raw =
    let loops = ap (λ names. flat_map (loop_in names) (unsplit raw)) (unsplit-loop_names raw) ∙ unsplit-loops (loop_names raw) raw in
    let nodes = ap (λ names. flat_map (node_in names) (unsplit raw)) (unsplit-loop_names raw) ∙ unsplit-nodes (loop_names raw) raw in
    let edges = ap (λ names. flat_map (edge_in names) (unsplit raw)) (unsplit-node_names raw) ∙ unsplit-edges (node_names raw) raw in
    let flow : List Loop → List Node → List Edge → Dataflow = λ ls ns es. record { loops = ls; nodes = ns; edges = es } in
    ap (λ ls. flow ls (flow_of_declarations (unsplit raw)).nodes (flow_of_declarations (unsplit raw)).edges) loops
    ∙ ap (λ ns. flow (small_of raw).loops ns (flow_of_declarations (unsplit raw)).edges) nodes
    ∙ ap (flow (small_of raw).loops (small_of raw).nodes) edges

pub declarations-expand : DeclarationsExpand
declarations-expand raw small large w of checked same =
    let first : small.flow ≡ small_of raw = of ∙ unsplit-flow raw in
    let second : large.flow ≡ large_of raw = checked.value ∙ large-is raw in
    let with_flow : List (List (List Rec)) → Dataflow → System = λ batches flow. record { flow = flow; batches = batches } in
    let moved : HaveSameBatches (with_flow small.batches (small_of raw)) (with_flow large.batches (large_of raw)) =
    subst (λ f. HaveSameBatches (with_flow small.batches f) (with_flow large.batches (large_of raw))) first
    (subst (λ g. HaveSameBatches (with_flow small.batches small.flow) (with_flow large.batches g)) second same) in
    let done = exact raw w (subst IsWellFormed (large-is raw) checked.well_formed) small.batches large.batches moved in (
      node_origin raw,
      edge_origin raw,
      subst (λ f. IsExactExpansion (with_flow small.batches f) large (node_origin raw) (edge_origin raw)) (sym first)
          (subst (λ g. IsExactExpansion (with_flow small.batches (small_of raw)) (with_flow large.batches g) (node_origin raw) (edge_origin raw)) (sym second) done),
    )
