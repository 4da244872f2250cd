-- The dataflow of an expansion is an expansion of the dataflow without the word.
use Rattle.std.proofs.Common.{◌≡◌, inl, inr, ℕ, zero, suc, ◌+◌, ◌-◌, ◌<◌, ◌≤◌, Bool, true, false, cond, List, [], ◌∷◌, length, map, get_or, Option, Some, None, IfSome, refl, sym, ap, ◌∙◌, subst, arith}
use Rattle.std.proofs.lemmas.List.{get_or-map, get_or_past, length-map}
use Rattle.std.specs.List.{AllByRecursion, IsDistinct, flat_map, range_with_len}
use Rattle.std.specs.Str.{bytes_eq}
use Rattle.fw_lemmas.proofs.Each.{each-at, each-both, each-of_places, each-weaker}
use Rattle.fw_flow.specs.declared.key_part.KeyPart.{KeyPart}
use Rattle.fw_flow.specs.declared.kind.Kind.TheVariants.{Input, OutputEpoch, OutputNumber, Select, Concat, Distinct, Join, Sum, Enter, Feedback, Leave, Total, Sequence, Ledger, Regroup}
use Rattle.fw_flow.specs.declared.kind.Policy.{Policy}
use Rattle.fw_flow.specs.declared.node.Loop.{Loop}
use Rattle.fw_flow.specs.declared.node.Node.{Node}
use Rattle.fw_flow.specs.declared.node.Edge.{Edge}
use Rattle.fw_flow.specs.declared.raw.Declaration.TheVariants.{Loop as ALoop, Node as ANode, Edge as AnEdge}
use Rattle.fw_flow.specs.Dataflow.{Dataflow, edges_into, idle_node, in_edges, kind_of, node_at, policy_of, receiver, sender}
use Rattle.fw_flow.specs.Declaring.{Declaration, Declared}
use Rattle.fw_flow.specs.Expand.{expand, replicas_of_kind, split_of}
use Rattle.fw_flow.specs.FullNames.{part_name}
use Rattle.fw_flow.specs.KeyParts.{may_split, part_of, part_of_node}
use Rattle.fw_flow.specs.Kind.{RawKind, kind_map}
use Rattle.fw_flow.specs.Raw.{edge_in, edge_names, flow_of_declarations, loop_in, loop_names, node_in, node_names, place_or_end, resolved_kind}
use Rattle.fw_flow.specs.WellFormed.{IsWellFormed}
use Rattle.fw_flow.proofs.Drafts.{names_of_flow}
use Rattle.fw_flow.proofs.ExpandNameLaws.{distinct-edges, distinct-nodes, loops-expanded}
use Rattle.fw_flow.proofs.FullNameLaws.{IsDotless}
use Rattle.fw_split.specs.Expansion.{EdgeOrigin, Whole, PartOf, SentBy, NodeOrigin, Same, Replica, IsEdgeOf, SendsFor, parts_to}
use Rattle.fw_split.specs.Unsplit.{AreAsWritten}
use Rattle.fw_split.proofs.DeclaredLaws.{IsEdgeHere, IsHere, IsMade, IsMadeOf, IsNodeHere, each-here, each-made, here-plain, small_of}
use Rattle.fw_split.proofs.InEdgeLaws.{IsPlain, some-once}
use Rattle.fw_split.proofs.MadeLaws.{AreFew, MadeEdge, MadeNode, edge_as, edge_made_of, edges-made, edges_of, few-split, loops-made, made_edges, made_nodes, nodes-made, part_in, part_made, sent_made, sent_of}
use Rattle.fw_split.proofs.PlaceLaws.{each-joined, each_of-joined, name-there, own-place, part-dot, part-once}

-- ---- the dataflow of the expansion, by what it is made of

abbrev pub nodes_in : List Declared → List MadeNode
nodes_in raw = made_nodes (loop_names raw) (node_names raw) raw

abbrev pub edges_made : List Declared → List MadeEdge
edges_made raw = made_edges raw (node_names raw) (edge_names raw) raw

abbrev pub full_names : List Declared → List (List ℕ)
full_names raw = map (λ m. m.node.name) (nodes_in raw)

abbrev pub way_names : List Declared → List (List ℕ)
way_names raw = map (λ m. m.name) (edges_made raw)

abbrev pub large_of : List Declared → Dataflow
large_of raw = record {
  loops = flat_map (loop_in (loop_names raw)) raw;
  nodes = map (λ m. m.node) (nodes_in raw);
  edges = map (edge_as (full_names raw)) (edges_made raw);
}

pub no_node : MadeNode
no_node = record { node = idle_node; origin = Same 0 }

pub no_way : MadeEdge
no_way = record { name = []; sender = []; receiver = []; origin = Whole 0 }

pub map-map : {A B C : Type 0} (g : B → C) (f : A → B) (xs : List A) → map g (map f xs) ≡ map (λ x. g (f x)) xs
map-map g f [] = refl
map-map g f (x ∷ xs) = ap (λ ys. g (f x) ∷ ys) (map-map g f xs)

nodes-large : (raw : List Declared) → (flow_of_declarations (expand raw)).nodes ≡ (large_of raw).nodes
nodes-large raw = ap (λ names. flat_map (node_in names) (expand raw)) (loops-expanded raw) ∙ nodes-made (loop_names raw) (node_names raw) raw raw

names-large : (raw : List Declared) → node_names (expand raw) ≡ full_names raw
names-large raw =
    (names_of_flow (expand raw)).0 ∙ ap (map (λ (n : Node). n.name)) (nodes-large raw) ∙ map-map (λ (n : Node). n.name) (λ (m : MadeNode). m.node) (nodes_in raw)

edges-large : (raw : List Declared) → (flow_of_declarations (expand raw)).edges ≡ (large_of raw).edges
edges-large raw =
    ap (λ names. flat_map (edge_in names) (expand raw)) (names-large raw) ∙ edges-made raw (node_names raw) (edge_names raw) (full_names raw) raw

ways-large : (raw : List Declared) → edge_names (expand raw) ≡ way_names raw
ways-large raw =
    (names_of_flow (expand raw)).1 ∙ ap (map (λ (e : Edge). e.name)) (edges-large raw) ∙ map-map (λ (e : Edge). e.name) (edge_as (full_names raw)) (edges_made raw)

pub large-is : (raw : List Declared) → flow_of_declarations (expand raw) ≡ large_of raw
large-is raw =
    let flow : List Loop → List Node → List Edge → Dataflow = λ ls ns es. record { loops = ls; nodes = ns; edges = es } in
    let loops : (flow_of_declarations (expand raw)).loops ≡ (large_of raw).loops =
    ap (λ names. flat_map (loop_in names) (expand raw)) (loops-expanded raw) ∙ loops-made (loop_names raw) raw raw in
    ap (λ ls. flow ls (flow_of_declarations (expand raw)).nodes (flow_of_declarations (expand raw)).edges) loops
    ∙ ap (λ ns. flow (large_of raw).loops ns (flow_of_declarations (expand raw)).edges) (nodes-large raw)
    ∙ ap (flow (large_of raw).loops (large_of raw).nodes) (edges-large raw)

pub distinct-full : (raw : List Declared) → AreAsWritten raw → IsDistinct bytes_eq (full_names raw)
distinct-full raw w = subst (IsDistinct bytes_eq) (names-large raw) (distinct-nodes raw w.names w.nodes)

pub distinct-ways : (raw : List Declared) → AreAsWritten raw → IsDistinct bytes_eq (way_names raw)
distinct-ways raw w = subst (IsDistinct bytes_eq) (ways-large raw) (distinct-edges raw w.names w.nodes w.edges)

-- ---- the origins

-- of what the node at a place is made; past the last one stand nodes past the last one of the flow without the word
pub node_origin : List Declared → ℕ → NodeOrigin
node_origin raw q = get_or (map (λ m. m.origin) (nodes_in raw)) q (Same (length (small_of raw).nodes + (q - length (nodes_in raw))))

pub edge_origin : List Declared → ℕ → EdgeOrigin
edge_origin raw e = get_or (map (λ m. m.origin) (edges_made raw)) e (Whole (length (small_of raw).edges + (e - length (edges_made raw))))

pub node_origin-at : (raw : List Declared) (q : ℕ) → q < length (nodes_in raw) → node_origin raw q ≡ (get_or (nodes_in raw) q no_node).origin
unfolding node_origin
node_origin-at raw q lt = get_or-map (λ (m : MadeNode). m.origin) (nodes_in raw) q no_node (Same (length (small_of raw).nodes + (q - length (nodes_in raw)))) lt

pub node_origin-past : (raw : List Declared) (q : ℕ) → length (nodes_in raw) ≤ q → node_origin raw q ≡ Same (length (small_of raw).nodes + (q - length (nodes_in raw)))
unfolding node_origin
node_origin-past raw q past =
    get_or_past (map (λ (m : MadeNode). m.origin) (nodes_in raw)) q (Same (length (small_of raw).nodes + (q - length (nodes_in raw))))
    (omega (arith, past, length-map (nodes_in raw) (λ (m : MadeNode). m.origin)))

pub edge_origin-at : (raw : List Declared) (e : ℕ) → e < length (edges_made raw) → edge_origin raw e ≡ (get_or (edges_made raw) e no_way).origin
unfolding edge_origin
edge_origin-at raw e lt = get_or-map (λ (m : MadeEdge). m.origin) (edges_made raw) e no_way (Whole (length (small_of raw).edges + (e - length (edges_made raw)))) lt

pub edge_origin-past : (raw : List Declared) (e : ℕ) → length (edges_made raw) ≤ e → edge_origin raw e ≡ Whole (length (small_of raw).edges + (e - length (edges_made raw)))
unfolding edge_origin
edge_origin-past raw e past =
    get_or_past (map (λ (m : MadeEdge). m.origin) (edges_made raw)) e (Whole (length (small_of raw).edges + (e - length (edges_made raw))))
    (omega (arith, past, length-map (edges_made raw) (λ (m : MadeEdge). m.origin)))

-- ---- what is read of a dataflow

pub kind-at : (flow : Dataflow) (p : ℕ) (n : Node) → get_or flow.nodes p idle_node ≡ n → kind_of flow p ≡ n.kind
unfolding kind_of
kind-at flow p n e = ap (λ (x : Node). x.kind) e

pub policy-at : (flow : Dataflow) (p : ℕ) (n : Node) → get_or flow.nodes p idle_node ≡ n → policy_of flow p ≡ n.policy
unfolding policy_of
policy-at flow p n e = ap (λ (x : Node). x.policy) e

pub part-at : (flow : Dataflow) (p : ℕ) (n : Node) → get_or flow.nodes p idle_node ≡ n → part_of flow p ≡ part_of_node n
unfolding part_of
part-at flow p n e = ap part_of_node e

pub name-at : (flow : Dataflow) (p : ℕ) (n : Node) → get_or flow.nodes p idle_node ≡ n → (node_at flow p).name ≡ n.name
unfolding node_at
name-at flow p n e = ap (λ (x : Node). x.name) e

pub sender-at : (flow : Dataflow) (e : ℕ) (x : Edge) → get_or flow.edges e (record { name = []; sender = length flow.nodes; receiver = length flow.nodes }) ≡ x → sender flow e ≡ x.sender
unfolding sender
sender-at flow e x is = ap (λ (y : Edge). y.sender) is

pub receiver-at : (flow : Dataflow) (e : ℕ) (x : Edge) → get_or flow.edges e (record { name = []; sender = length flow.nodes; receiver = length flow.nodes }) ≡ x → receiver flow e ≡ x.receiver
unfolding receiver
receiver-at flow e x is = ap (λ (y : Edge). y.receiver) is

pub in-at : (flow : Dataflow) (p : ℕ) → in_edges flow p ≡ edges_into 0 flow.edges p
unfolding in_edges
in-at flow p = refl

pub none-both : (b : Bool) → ◌≡◌ {A = Option KeyPart} (cond b None None) None
none-both true = refl
none-both false = refl

pub may_split-map : (f : List ℕ → ℕ) (kind : RawKind) → may_split (kind_map f kind) ≡ may_split kind
may_split-map f Input = refl
may_split-map f OutputEpoch = refl
may_split-map f OutputNumber = refl
may_split-map f (Select selection within) = refl
may_split-map f (Concat within) = refl
may_split-map f (Distinct within) = refl
may_split-map f (Join within) = refl
may_split-map f (Sum within) = refl
may_split-map f (Enter l) = refl
may_split-map f (Feedback l) = refl
may_split-map f (Leave l) = refl
may_split-map f Total = refl
may_split-map f Sequence = refl
may_split-map f Ledger = refl
may_split-map f (Regroup size) = refl

-- the node at a place in the expansion
pub node-large : (raw : List Declared) (q : ℕ) → q < length (nodes_in raw) → get_or (large_of raw).nodes q idle_node ≡ (get_or (nodes_in raw) q no_node).node
node-large raw q lt = get_or-map (λ (m : MadeNode). m.node) (nodes_in raw) q no_node idle_node lt

pub idle-large : (raw : List Declared) (q : ℕ) → length (nodes_in raw) ≤ q → get_or (large_of raw).nodes q idle_node ≡ idle_node
idle-large raw q past = get_or_past (large_of raw).nodes q idle_node (omega (arith, past, length-map (nodes_in raw) (λ (m : MadeNode). m.node)))

-- all parts from the first to the last
pub parts-all : {X : Type 0} (g : KeyPart → X) (n : ℕ) → 1 ≤ n → map (λ i. g (part_in n i)) (range_with_len 0 n) ≡ map g (parts_to (n - 1))
parts-all g n some =
    let same : n ≡ (n - 1) + 1 = omega (arith, some) in
    ap (λ k. map (λ i. g (part_in n i)) (range_with_len 0 k)) same ∙ sym (map-map g (part_in n) (range_with_len 0 ((n - 1) + 1)))

-- ---- with declarations as they are written

module _ (raw : List Declared) (w : AreAsWritten raw) where
  pub made-at : (q : ℕ) → q < length (nodes_in raw) → IsMade raw (get_or (nodes_in raw) q no_node)
  made-at q lt = each-at (IsMade raw) (nodes_in raw) q no_node lt (each-made raw w)

  pub plains : AllByRecursion (λ d. IsPlain raw d.declaration) raw
  plains = each-weaker (λ d. IsHere raw d.declaration) (λ d. IsPlain raw d.declaration) raw (λ d h. here-plain raw d.declaration h) (each-here raw w)

  -- the name of the node at the place of a name
  name-made : (full : List ℕ) → place_or_end (full_names raw) full < length (nodes_in raw)
      → (get_or (nodes_in raw) (place_or_end (full_names raw) full) no_node).node.name ≡ full
  name-made full lt =
      sym (get_or-map (λ (m : MadeNode). m.node.name) (nodes_in raw) (place_or_end (full_names raw) full) no_node [] lt)
      ∙ name-there (full_names raw) full (omega (arith, lt, length-map (nodes_in raw) (λ (m : MadeNode). m.node.name)))

  pub place-made : (q : ℕ) → q < length (nodes_in raw) → place_or_end (full_names raw) (get_or (nodes_in raw) q no_node).node.name ≡ q
  place-made q lt = own-place (λ (m : MadeNode). m.node.name) (nodes_in raw) q no_node (distinct-full raw w) lt

  -- ---- by the name of a node

  -- the node of a name without a dot sends for the node of this name, and is no replica
  pub record SendsAs (name : List ℕ) (m : MadeNode) : Type 0 where
    pub sends : SendsFor (place_or_end (node_names raw) name) m.origin
    pub whole : part_of_node m.node ≡ None
    pub there : place_or_end (node_names raw) name < length (small_of raw).nodes

  sends-as : (name : List ℕ) → IsDotless name → (m : MadeNode) → m.node.name ≡ name
      → (own : List ℕ) (kind : RawKind) (policy : Policy) (count : Option ℕ) → IsNodeHere raw own kind policy count → IsMadeOf raw own kind policy count m → SendsAs name m
  sends-as name plain m named own kind policy None h made =
      let same : own ≡ name = sym (ap (λ (x : MadeNode). x.node.name) made) ∙ named in
      record {
        sends = subst (SendsFor (place_or_end (node_names raw) name)) (sym (ap (λ (x : MadeNode). x.origin) made)) (ap (place_or_end (node_names raw)) same);
        whole = ap (λ (x : MadeNode). part_of_node x.node) made ∙ none-both (may_split (resolved_kind (loop_names raw) kind));
        there = subst (λ n. place_or_end (node_names raw) n < length (small_of raw).nodes) same h.there;
      }
  sends-as name plain m named own kind policy (Some n) h (inl at) =
      absurd (part-dot own at.0 (subst IsDotless (sym (sym (ap (λ (x : MadeNode). x.node.name) at.2) ∙ named)) plain))
  sends-as name plain m named own kind policy (Some n) h (inr made) =
      let same : own ≡ name = sym (ap (λ (x : MadeNode). x.node.name) made) ∙ named in
      record {
        sends = subst (SendsFor (place_or_end (node_names raw) name)) (sym (ap (λ (x : MadeNode). x.origin) made)) (ap (place_or_end (node_names raw)) same);
        whole = ap (λ (x : MadeNode). part_of_node x.node) made;
        there = subst (λ n. place_or_end (node_names raw) n < length (small_of raw).nodes) same h.there;
      }

  pub plain-node : (name : List ℕ) → IsDotless name → place_or_end (full_names raw) name < length (nodes_in raw)
      → SendsAs name (get_or (nodes_in raw) (place_or_end (full_names raw) name) no_node)
  plain-node name plain lt =
      let q = place_or_end (full_names raw) name in
      let m = get_or (nodes_in raw) q no_node in
      let x = made-at q lt in
      sends-as name plain m (name-made name lt) x.name x.kind x.policy x.count x.here x.made

  pub plain-sends : (name : List ℕ) → IsDotless name → place_or_end (full_names raw) name < length (nodes_in raw)
      → SendsFor (place_or_end (node_names raw) name) (node_origin raw (place_or_end (full_names raw) name))
  plain-sends name plain lt =
      subst (SendsFor (place_or_end (node_names raw) name)) (sym (node_origin-at raw (place_or_end (full_names raw) name) lt)) (plain-node name plain lt).sends

  plain-whole : (name : List ℕ) → IsDotless name → place_or_end (full_names raw) name < length (nodes_in raw)
      → part_of (large_of raw) (place_or_end (full_names raw) name) ≡ None
  plain-whole name plain lt =
      let q = place_or_end (full_names raw) name in
      part-at (large_of raw) q (get_or (nodes_in raw) q no_node).node (node-large raw q lt) ∙ (plain-node name plain lt).whole

  -- there are few parts of what is split
  pub few-of : (name : List ℕ) (n : ℕ) → split_of raw name ≡ Some n → AreFew n
  few-of name n e = subst (λ o. IfSome o AreFew) e (few-split raw name)

  abbrev IsReplicaAs : List ℕ → ℕ → ℕ → MadeNode → Type 0
  IsReplicaAs name n i m = (m.origin ≡ Replica (place_or_end (node_names raw) name) (part_in n i)) × (part_of_node m.node ≡ Some (part_in n i))

  replica-as : (name : List ℕ) (n i : ℕ) → IsDotless name → split_of raw name ≡ Some n → i < n → (m : MadeNode) → m.node.name ≡ part_name name i
      → (own : List ℕ) (kind : RawKind) (policy : Policy) (count : Option ℕ) → IsNodeHere raw own kind policy count → IsMadeOf raw own kind policy count m → IsReplicaAs name n i m
  replica-as name n i plain many low m named own kind policy None h made =
      absurd (part-dot name i (subst IsDotless (sym (ap (λ (x : MadeNode). x.node.name) made) ∙ named) h.plain))
  replica-as name n i plain many low m named own kind policy (Some k) h (inl at) =
      let j = at.0 in
      let few = few-of own k h.counted in
      let most = few-of name n many in
      let both = part-once own name j i h.plain plain (let lt = at.1 in let le = few.1 in omega arith) (let le = most.1 in omega arith) (sym (ap (λ (x : MadeNode). x.node.name) at.2) ∙ named) in
      let count : k ≡ n = some-once k n (sym h.counted ∙ ap (split_of raw) both.0 ∙ many) in
      let part : part_in k j ≡ part_in n i = ap (λ x. part_in x j) count ∙ ap (part_in n) both.1 in (
        ap (λ (x : MadeNode). x.origin) at.2 ∙ ap (λ x. Replica (place_or_end (node_names raw) x) (part_in k j)) both.0 ∙ ap (Replica (place_or_end (node_names raw) name)) part,
        ap (λ (x : MadeNode). part_of_node x.node) at.2
            ∙ ap (λ b. cond b (Some (part_in k j)) None) (may_split-map (place_or_end (loop_names raw)) kind ∙ h.may k refl)
            ∙ ap (λ p. Some p) part,
      )
  replica-as name n i plain many low m named own kind policy (Some k) h (inr made) =
      absurd (part-dot name i (subst IsDotless (sym (ap (λ (x : MadeNode). x.node.name) made) ∙ named) h.plain))

  replica-node : (name : List ℕ) (n i : ℕ) → IsDotless name → split_of raw name ≡ Some n → i < n → place_or_end (full_names raw) (part_name name i) < length (nodes_in raw)
      → (node_origin raw (place_or_end (full_names raw) (part_name name i)) ≡ Replica (place_or_end (node_names raw) name) (part_in n i))
      × (part_of (large_of raw) (place_or_end (full_names raw) (part_name name i)) ≡ Some (part_in n i))
  replica-node name n i plain many low lt =
      let q = place_or_end (full_names raw) (part_name name i) in
      let m = get_or (nodes_in raw) q no_node in
      let x = made-at q lt in
      let both = replica-as name n i plain many low m (name-made (part_name name i) lt) x.name x.kind x.policy x.count x.here x.made in
      (node_origin-at raw q lt ∙ both.0, part-at (large_of raw) q m.node (node-large raw q lt) ∙ both.1)

  -- ---- the edges

  -- both ends of an edge are there
  abbrev pub IsPlaced : MadeEdge → Type 0
  IsPlaced m = (place_or_end (full_names raw) m.sender < length (nodes_in raw)) × (place_or_end (full_names raw) m.receiver < length (nodes_in raw))

  pub each-placed : IsWellFormed (large_of raw) → AllByRecursion IsPlaced (edges_made raw)
  each-placed wf = each-of_places IsPlaced no_way (edges_made raw) placed
    where
      placed : (e : ℕ) → e < length (edges_made raw) → IsPlaced (get_or (edges_made raw) e no_way)
      placed e lt =
          let x = edge_as (full_names raw) (get_or (edges_made raw) e no_way) in
          let many = length-map (edges_made raw) (edge_as (full_names raw)) in
          let nodes = length-map (nodes_in raw) (λ (m : MadeNode). m.node) in
          let is : get_or (large_of raw).edges e (record { name = []; sender = length (large_of raw).nodes; receiver = length (large_of raw).nodes }) ≡ x =
          get_or-map (edge_as (full_names raw)) (edges_made raw) e no_way (record { name = []; sender = length (large_of raw).nodes; receiver = length (large_of raw).nodes }) lt in
          let s = wf.senders_declared e (omega (arith, lt, many)) in
          let r = wf.receivers_declared e (omega (arith, lt, many)) in (
            subst (λ n. x.sender < n) nodes (subst (λ p. p < length (large_of raw).nodes) (sender-at (large_of raw) e x is) s),
            subst (λ n. x.receiver < n) nodes (subst (λ p. p < length (large_of raw).nodes) (receiver-at (large_of raw) e x is) r),
          )

  -- an edge of this origin may lead from one place to the other
  abbrev pub Between : ℕ → ℕ → EdgeOrigin → Type 0
  Between s r (Whole d) = SendsFor (sender (small_of raw) d) (node_origin raw s) × (part_of (large_of raw) r ≡ None)
  Between s r (PartOf d part) = SendsFor (sender (small_of raw) d) (node_origin raw s) × (part_of (large_of raw) r ≡ Some part)
  Between s r (SentBy p part) = (node_origin raw s ≡ Replica p part) × (part_of (large_of raw) r ≡ None)

  pub between-edge : (e : ℕ) (origin : EdgeOrigin) → Between (sender (large_of raw) e) (receiver (large_of raw) e) origin → IsEdgeOf (small_of raw) (large_of raw) (node_origin raw) e origin
  between-edge e (Whole d) b = b
  between-edge e (PartOf d part) b = b
  between-edge e (SentBy p part) b = b

  abbrev pub Fits : MadeEdge → Type 0
  Fits m = Between (place_or_end (full_names raw) m.sender) (place_or_end (full_names raw) m.receiver) m.origin

  sent-fits : (name : List ℕ) (n : ℕ) → IsDotless name → split_of raw name ≡ Some n → (a m : ℕ) → a + m ≤ n
      → AllByRecursion IsPlaced (map (sent_made raw (node_names raw) (edge_names raw) name n) (range_with_len a m))
      → AllByRecursion Fits (map (sent_made raw (node_names raw) (edge_names raw) name n) (range_with_len a m))
  sent-fits name n plain many a zero low p = tt
  sent-fits name n plain many a (suc m) low p = (
    ((replica-node name n a plain many (omega arith) p.0.0).0, plain-whole name plain p.0.1),
    sent-fits name n plain many (a + 1) m (omega arith) p.1,
  )

  -- the sender of an edge that is declared sends for it
  sender-sends : (name from to : List ℕ) → IsEdgeHere raw name from to → place_or_end (full_names raw) from < length (nodes_in raw)
      → SendsFor (sender (small_of raw) (place_or_end (edge_names raw) name)) (node_origin raw (place_or_end (full_names raw) from))
  sender-sends name from to h lt =
      let x : Edge = record { name = name; sender = place_or_end (node_names raw) from; receiver = place_or_end (node_names raw) to } in
      subst (λ p. SendsFor p (node_origin raw (place_or_end (full_names raw) from))) (sym (sender-at (small_of raw) (place_or_end (edge_names raw) name) x h.is))
      (plain-sends from h.plain_sender lt)

  part-fits : (name from to : List ℕ) (n : ℕ) → IsEdgeHere raw name from to → split_of raw to ≡ Some n → (a m : ℕ) → a + m ≤ n
      → AllByRecursion IsPlaced (map (part_made raw (node_names raw) (edge_names raw) name from to n) (range_with_len a m))
      → AllByRecursion Fits (map (part_made raw (node_names raw) (edge_names raw) name from to n) (range_with_len a m))
  part-fits name from to n h many a zero low p = tt
  part-fits name from to n h many a (suc m) low p = (
    (sender-sends name from to h p.0.0, (replica-node to n a h.plain_receiver many (omega arith) p.0.1).1),
    part-fits name from to n h many (a + 1) m (omega arith) p.1,
  )

  fits-one : (d : Declaration) → IsHere raw d → AllByRecursion IsPlaced (edges_of raw (node_names raw) (edge_names raw) d)
      → AllByRecursion Fits (edges_of raw (node_names raw) (edge_names raw) d)
  fits-one (ALoop name max parent) h p = tt
  fits-one (ANode name kind policy split part) h p = by (replicas_of_kind kind split part) h p
    where
      by : (o : Option ℕ) → IsNodeHere raw name kind policy o → AllByRecursion IsPlaced (sent_of raw (node_names raw) (edge_names raw) name o)
          → AllByRecursion Fits (sent_of raw (node_names raw) (edge_names raw) name o)
      by None k p = tt
      by (Some n) k p = sent-fits name n k.plain k.counted 0 n (omega arith) p
  fits-one (AnEdge name from to) h p = by (split_of raw to) refl p
    where
      by : (o : Option ℕ) → split_of raw to ≡ o → AllByRecursion IsPlaced (edge_made_of raw (node_names raw) (edge_names raw) name from to o)
          → AllByRecursion Fits (edge_made_of raw (node_names raw) (edge_names raw) name from to o)
      by None e p = ((sender-sends name from to h p.0.0, plain-whole to h.plain_receiver p.0.1), tt)
      by (Some n) e p = part-fits name from to n h e 0 n (omega arith) p

  pub each-fits : IsWellFormed (large_of raw) → AllByRecursion Fits (edges_made raw)
  each-fits wf =
      let of : Declared → List MadeEdge = λ d. edges_of raw (node_names raw) (edge_names raw) d.declaration in
      each-joined Fits of raw
      (each-weaker (λ d. IsHere raw d.declaration × AllByRecursion IsPlaced (of d)) (λ d. AllByRecursion Fits (of d)) raw (λ d k. fits-one d.declaration k.0 k.1)
      (each-both (λ d. IsHere raw d.declaration) (λ d. AllByRecursion IsPlaced (of d)) raw (each-here raw w) (each_of-joined IsPlaced of raw (each-placed wf))))
