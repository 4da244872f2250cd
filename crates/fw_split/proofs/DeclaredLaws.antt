-- What is known of each declaration, where they are as texts write them, and of each node and edge that it comes to.
use Rattle.std.proofs.Common.{◌≡◌, ◌⊎◌, inl, inr, ℕ, zero, suc, ◌+◌, ◌<◌, ◌≤◌, true, false, ◌&&◌, cond, List, [], ◌∷◌, ◌++◌, length, map, get_or, Option, Some, None, refl, sym, ap, ◌∙◌, subst, arith}
use Rattle.std.proofs.lemmas.Bool.{cases_lt}
use Rattle.std.proofs.lemmas.List.Sums.{fails_before_first}
use Rattle.std.proofs.lemmas.Map.Keys.{IsDistinct-head, IsDistinct-tail}
use Rattle.std.specs.List.{AllByRecursion, IsDistinct, range_with_len}
use Rattle.std.specs.Option.{option_map_or, option_or}
use Rattle.std.specs.Str.{bytes_eq}
use Rattle.fw_lemmas.proofs.Bools.{first_holds, second_holds}
use Rattle.fw_lemmas.proofs.Each.{each-append, each-both, each-of_places, each-one, each-weaker}
use Rattle.fw_lines.specs.Spelling.{is_name}
use Rattle.fw_flow.specs.declared.key_part.KeyPart.{KeyPart}
use Rattle.fw_flow.specs.declared.kind.Policy.{Policy}
use Rattle.fw_flow.specs.declared.node.Node.{Node}
use Rattle.fw_flow.specs.declared.node.Edge.{Edge}
use Rattle.fw_flow.specs.declared.raw.Declaration.TheVariants.{Loop as ALoop, Node as ANode, Edge as AnEdge}
use Rattle.fw_flow.specs.Builder.{has_names}
use Rattle.fw_flow.specs.Dataflow.{Dataflow, idle_node}
use Rattle.fw_flow.specs.Declaring.{Declaration, Declared}
use Rattle.fw_flow.specs.Expand.{replicas_declared, replicas_of_kind, split_of}
use Rattle.fw_flow.specs.KeyParts.{may_split}
use Rattle.fw_flow.specs.Kind.{RawKind, loop_of_kind}
use Rattle.fw_flow.specs.PlainNames.{HasNoPart}
use Rattle.fw_flow.specs.Raw.{edge_in, edge_names, flow_of_declarations, loop_names, node_in, node_name, node_names, place_or_end}
use Rattle.fw_flow.proofs.Drafts.{names_of_flow}
use Rattle.fw_flow.proofs.FullNameLaws.{IsDotless, dotless-name}
use Rattle.fw_flow.proofs.NewLaws.{other_way}
use Rattle.fw_split.specs.Unsplit.{AreAsWritten}
use Rattle.fw_split.proofs.InEdgeLaws.{IsPlain}
use Rattle.fw_split.proofs.MadeLaws.{MadeNode, gathered_made, made_nodes, node_as, node_made_of, nodes_of, replica_made, same_made, split-may}
use Rattle.fw_split.proofs.PlaceLaws.{each-joined, each-stands, each_of-joined, name-itself}

-- ---- how many replicas a node has, by its name

-- a node is split in as many as these say of its name
abbrev pub IsCounted : List Declared → Declaration → Type 0
IsCounted all (ALoop name max parent) = Unit {0}
IsCounted all (ANode name kind policy split part) = split_of all name ≡ replicas_of_kind kind split part
IsCounted all (AnEdge name sender receiver) = Unit {0}

-- these do not declare a node of the name
abbrev LacksNode : List ℕ → Declared → Type 0
LacksNode name d = AllByRecursion (λ y. bytes_eq name y ≡ false) (node_name d)

lacks-none : (name : List ℕ) (line : ℕ) (d : Declaration) → LacksNode name (record { line = line; declaration = d }) → replicas_declared name d ≡ None
lacks-none name line (ALoop own max parent) k = refl
lacks-none name line (ANode own kind policy split part) k = ap (λ c. cond c (replicas_of_kind kind split part) None) k.0
lacks-none name line (AnEdge own sender receiver) k = refl

split-lacks : (raw : List Declared) (name : List ℕ) → AllByRecursion (LacksNode name) raw → split_of raw name ≡ None
split-lacks [] name k = refl
split-lacks (d ∷ raw) name k = ap (λ o. option_or o (split_of raw name)) (lacks-none name d.line d.declaration k.0) ∙ split-lacks raw name k.1

-- what is split is declared
pub split-there : (raw : List Declared) (name : List ℕ) (n : ℕ) → split_of raw name ≡ Some n → place_or_end (node_names raw) name < length (node_names raw)
split-there raw name n e = elim (cases_lt (place_or_end (node_names raw) name) (length (node_names raw))) [
  | inl lt ↦ lt
  | inr past ↦
      let lacks = each_of-joined (λ y. bytes_eq name y ≡ false) node_name raw
      (each-of_places (λ y. bytes_eq name y ≡ false) [] (node_names raw) (λ p lt. fails_before_first (bytes_eq name) (node_names raw) p [] (omega (arith, past, lt)))) in
      absurd (none-some (sym (split-lacks raw name lacks) ∙ e))
]
  where
    none-some : ◌≡◌ {A = Option ℕ} None (Some n) → ⊥
    none-some e = absurd (cc)

first-none : (o p : Option ℕ) → p ≡ None → option_or o p ≡ o
first-none None p e = e
first-none (Some n) p e = refl

-- with a declaration in front that is of another name
counted-behind : (d : Declared) (raw : List Declared) (line : ℕ) (e : Declaration)
    → AllByRecursion (λ name. replicas_declared name d.declaration ≡ None) (node_name (record { line = line; declaration = e })) → IsCounted raw e → IsCounted (d ∷ raw) e
counted-behind d raw line (ALoop name max parent) a k = tt
counted-behind d raw line (ANode name kind policy split part) a k = ap (λ o. option_or o (split_of raw name)) a.0 ∙ k
counted-behind d raw line (AnEdge name sender receiver) a k = tt

pub each-counted : (raw : List Declared) → IsDistinct bytes_eq (node_names raw) → AllByRecursion (λ d. IsCounted raw d.declaration) raw
each-counted [] once = tt
each-counted (d ∷ raw) once = by d.line d.declaration once (λ o. each-counted raw o)
  where
    after : Declaration → Declared → Type 0
    after e x = AllByRecursion (λ name. replicas_declared name e ≡ None) (node_name x)

    behind : (line : ℕ) (e : Declaration) → AllByRecursion (after e) raw → AllByRecursion (λ x. IsCounted raw x.declaration) raw
        → AllByRecursion (λ x. IsCounted (record { line = line; declaration = e } ∷ raw) x.declaration) raw
    behind line e a k =
        each-weaker (λ x. after e x × IsCounted raw x.declaration) (λ x. IsCounted (record { line = line; declaration = e } ∷ raw) x.declaration) raw
        (λ x both. counted-behind (record { line = line; declaration = e }) raw x.line x.declaration both.0 both.1)
        (each-both (after e) (λ x. IsCounted raw x.declaration) raw a k)

    by : (line : ℕ) (e : Declaration) → IsDistinct bytes_eq (node_name (record { line = line; declaration = e }) ++ node_names raw)
        → (IsDistinct bytes_eq (node_names raw) → AllByRecursion (λ x. IsCounted raw x.declaration) raw)
        → AllByRecursion (λ x. IsCounted (record { line = line; declaration = e } ∷ raw) x.declaration) (record { line = line; declaration = e } ∷ raw)
    by line (ALoop name max parent) o rest =
        let e = ALoop name max parent in
        (tt, behind line e (each-one (after e) raw (λ x. each-one (λ n. replicas_declared n e ≡ None) (node_name x) (λ n. refl))) (rest o))
    by line (ANode name kind policy split part) o rest =
        let e = ANode name kind policy split part in
        let apart = each_of-joined (λ y. bytes_eq name y ≡ false) node_name raw (IsDistinct-head bytes_eq name (node_names raw) o) in (
          ap (λ c. option_or (cond c (replicas_of_kind kind split part) None) (split_of raw name)) (name-itself name)
              ∙ first-none (replicas_of_kind kind split part) (split_of raw name) (split-lacks raw name apart),
          behind line e
              (each-weaker (LacksNode name) (after e) raw
              (λ x k. each-weaker (λ y. bytes_eq name y ≡ false) (λ y. replicas_declared y e ≡ None) (node_name x)
              (λ y f. ap (λ c. cond c (replicas_of_kind kind split part) None) (other_way name y f)) k) apart)
              (rest (IsDistinct-tail bytes_eq name (node_names raw) o)),
        )
    by line (AnEdge name sender receiver) o rest =
        let e = AnEdge name sender receiver in
        (tt, behind line e (each-one (after e) raw (λ x. each-one (λ n. replicas_declared n e ≡ None) (node_name x) (λ n. refl))) (rest o))

-- ---- what is known of each declaration

-- the flow without the word
abbrev pub small_of : List Declared → Dataflow
small_of raw = flow_of_declarations raw

-- what stands past its last edge
abbrev pub no_edge : List Declared → Edge
no_edge raw = record { name = []; sender = length (small_of raw).nodes; receiver = length (small_of raw).nodes }

-- a node is declared by this name, is of this kind and policy, and is split in so many, if it is
pub record IsNodeHere (raw : List Declared) (name : List ℕ) (kind : RawKind) (policy : Policy) (count : Option ℕ) : Type 0 where
  pub plain : IsDotless name
  pub there : place_or_end (node_names raw) name < length (small_of raw).nodes
  pub is : get_or (small_of raw).nodes (place_or_end (node_names raw) name) idle_node ≡ node_as (loop_names raw) name kind policy None
  pub counted : split_of raw name ≡ count
  pub may : (n : ℕ) → count ≡ Some n → may_split kind ≡ true

-- an edge is declared by this name, with this sender and this receiver
pub record IsEdgeHere (raw : List Declared) (name sender receiver : List ℕ) : Type 0 where
  pub plain : IsDotless name
  pub plain_sender : IsDotless sender
  pub plain_receiver : IsDotless receiver
  pub there : place_or_end (edge_names raw) name < length (small_of raw).edges
  pub is : get_or (small_of raw).edges (place_or_end (edge_names raw) name) (no_edge raw)
      ≡ record { name = name; sender = place_or_end (node_names raw) sender; receiver = place_or_end (node_names raw) receiver }

-- what is declared is there
abbrev pub IsHere : List Declared → Declaration → Type 0
IsHere raw (ALoop name max parent) = Unit {0}
IsHere raw (ANode name kind policy split part) = IsNodeHere raw name kind policy (replicas_of_kind kind split part)
IsHere raw (AnEdge name sender receiver) = IsEdgeHere raw name sender receiver

pub here-plain : (raw : List Declared) (d : Declaration) → IsHere raw d → IsPlain raw d
here-plain raw (ALoop name max parent) h = tt
here-plain raw (ANode name kind policy split part) h = (h.plain, h.counted)
here-plain raw (AnEdge name sender receiver) h = (h.plain, h.plain_sender, h.plain_receiver)

-- the node stands at the place of its name among these
abbrev NodeThere : List Declared → Node → Type 0
NodeThere raw n =
    (place_or_end (node_names raw) n.name < length (small_of raw).nodes) × (get_or (small_of raw).nodes (place_or_end (node_names raw) n.name) idle_node ≡ n)

abbrev EdgeThere : List Declared → Edge → Type 0
EdgeThere raw e =
    (place_or_end (edge_names raw) e.name < length (small_of raw).edges) × (get_or (small_of raw).edges (place_or_end (edge_names raw) e.name) (no_edge raw) ≡ e)

nodes-there : (raw : List Declared) → IsDistinct bytes_eq (node_names raw) → AllByRecursion (NodeThere raw) (small_of raw).nodes
nodes-there raw once =
    let ns = (small_of raw).nodes in
    let same = (names_of_flow raw).0 in
    subst (λ names. AllByRecursion (λ n. (place_or_end names n.name < length ns) × (get_or ns (place_or_end names n.name) idle_node ≡ n)) ns) (sym same)
    (each-stands (λ n. n.name) ns idle_node (subst (IsDistinct bytes_eq) same once))

edges-there : (raw : List Declared) → IsDistinct bytes_eq (edge_names raw) → AllByRecursion (EdgeThere raw) (small_of raw).edges
edges-there raw once =
    let es = (small_of raw).edges in
    let same = (names_of_flow raw).1 in
    subst (λ names. AllByRecursion (λ e. (place_or_end names e.name < length es) × (get_or es (place_or_end names e.name) (no_edge raw) ≡ e)) es) (sym same)
    (each-stands (λ e. e.name) es (no_edge raw) (subst (IsDistinct bytes_eq) same once))

here-one : (raw : List Declared) (line : ℕ) (d : Declaration) → has_names d ≡ true → IsCounted raw d → HasNoPart d
    → AllByRecursion (NodeThere raw) (node_in (loop_names raw) (record { line = line; declaration = d }))
    → AllByRecursion (EdgeThere raw) (edge_in (node_names raw) (record { line = line; declaration = d })) → IsHere raw d
here-one raw line (ALoop name max parent) h c whole n e = tt
here-one raw line (ANode name kind policy split part) h c whole n e = record {
  plain = dotless-name name (first_holds (is_name name) (option_map_or is_name (loop_of_kind kind) true) h);
  there = n.0.0;
  is = n.0.1 ∙ ap (node_as (loop_names raw) name kind policy) whole;
  counted = c;
  may = λ m many. split-may kind split part m many;
}
here-one raw line (AnEdge name sender receiver) h c whole n e =
    let two = first_holds (is_name name && is_name sender) (is_name receiver) h in
    record {
      plain = dotless-name name (first_holds (is_name name) (is_name sender) two);
      plain_sender = dotless-name sender (second_holds (is_name name) (is_name sender) two);
      plain_receiver = dotless-name receiver (second_holds (is_name name && is_name sender) (is_name receiver) h);
      there = e.0.0;
      is = e.0.1;
    }

pub each-here : (raw : List Declared) → AreAsWritten raw → AllByRecursion (λ d. IsHere raw d.declaration) raw
each-here raw w =
    let Names : Declared → Type 0 = λ d. has_names d.declaration ≡ true in
    let Counts : Declared → Type 0 = λ d. IsCounted raw d.declaration in
    let Whole : Declared → Type 0 = λ d. HasNoPart d.declaration in
    let Nodes : Declared → Type 0 = λ d. AllByRecursion (NodeThere raw) (node_in (loop_names raw) d) in
    let Edges : Declared → Type 0 = λ d. AllByRecursion (EdgeThere raw) (edge_in (node_names raw) d) in
    let nodes = each_of-joined (NodeThere raw) (node_in (loop_names raw)) raw (nodes-there raw w.nodes) in
    let edges = each_of-joined (EdgeThere raw) (edge_in (node_names raw)) raw (edges-there raw w.edges) in
    let both = each-both Nodes Edges raw nodes edges in
    let three = each-both Whole (λ d. Nodes d × Edges d) raw w.no_parts both in
    let four = each-both Counts (λ d. Whole d × (Nodes d × Edges d)) raw (each-counted raw w.nodes) three in
    each-weaker (λ d. Names d × (Counts d × (Whole d × (Nodes d × Edges d)))) (λ d. IsHere raw d.declaration) raw
    (λ d k. here-one raw d.line d.declaration k.0 k.1.0 k.1.1.0 k.1.1.1.0 k.1.1.1.1)
    (each-both Names (λ d. Counts d × (Whole d × (Nodes d × Edges d))) raw w.names four)

-- ---- what is known of each node that they come to

abbrev pub IsMadeOf : List Declared → List ℕ → RawKind → Policy → Option ℕ → MadeNode → Type 0
IsMadeOf raw name kind policy None m = m ≡ same_made (loop_names raw) (node_names raw) name kind policy None
IsMadeOf raw name kind policy (Some n) m =
    ((i : ℕ) × (i < n) × (m ≡ replica_made (loop_names raw) (node_names raw) name kind policy n i)) ⊎ (m ≡ gathered_made (loop_names raw) (node_names raw) name kind)

-- it is made of a node that is declared
pub record IsMade (raw : List Declared) (m : MadeNode) : Type 0 where
  pub name : List ℕ
  pub kind : RawKind
  pub policy : Policy
  pub count : Option ℕ
  pub here : IsNodeHere raw name kind policy count
  pub made : IsMadeOf raw name kind policy count m

module _ (raw : List Declared) (name : List ℕ) (kind : RawKind) (policy : Policy) where
  replicas-made : (n : ℕ) → IsNodeHere raw name kind policy (Some n) → (a m : ℕ) → a + m ≤ n
      → AllByRecursion (IsMade raw) (map (replica_made (loop_names raw) (node_names raw) name kind policy n) (range_with_len a m))
  replicas-made n h a zero low = tt
  replicas-made n h a (suc m) low = (
    record { name = name; kind = kind; policy = policy; count = Some n; here = h; made = inl (a, omega arith, refl) },
    replicas-made n h (a + 1) m (omega arith),
  )

  pub node-made : (part : Option KeyPart) → part ≡ None → (count : Option ℕ) → IsNodeHere raw name kind policy count
      → AllByRecursion (IsMade raw) (node_made_of (loop_names raw) (node_names raw) name kind policy part count)
  node-made part whole None h = (
    record { name = name; kind = kind; policy = policy; count = None; here = h; made = ap (same_made (loop_names raw) (node_names raw) name kind policy) whole },
    tt,
  )
  node-made part whole (Some n) h =
      each-append (IsMade raw) (map (replica_made (loop_names raw) (node_names raw) name kind policy n) (range_with_len 0 n)) (gathered_made (loop_names raw) (node_names raw) name kind ∷ [])
      (replicas-made n h 0 n (omega arith))
      (record { name = name; kind = kind; policy = policy; count = Some n; here = h; made = inr refl }, tt)

made-one : (raw : List Declared) (d : Declaration) → IsHere raw d → HasNoPart d → AllByRecursion (IsMade raw) (nodes_of (loop_names raw) (node_names raw) d)
made-one raw (ALoop name max parent) h whole = tt
made-one raw (ANode name kind policy split part) h whole = node-made raw name kind policy part whole (replicas_of_kind kind split part) h
made-one raw (AnEdge name sender receiver) h whole = tt

pub each-made : (raw : List Declared) → AreAsWritten raw → AllByRecursion (IsMade raw) (made_nodes (loop_names raw) (node_names raw) raw)
each-made raw w =
    each-joined (IsMade raw) (λ d. nodes_of (loop_names raw) (node_names raw) d.declaration) raw
    (each-weaker (λ d. IsHere raw d.declaration × HasNoPart d.declaration) (λ d. AllByRecursion (IsMade raw) (nodes_of (loop_names raw) (node_names raw) d.declaration)) raw
    (λ d k. made-one raw d.declaration k.0 k.1)
    (each-both (λ d. IsHere raw d.declaration) (λ d. HasNoPart d.declaration) raw (each-here raw w) w.no_parts))
