-- An expansion has names as they are written but at replicas, and at the edges to them and from them; so has its flow.
use Rattle.std.proofs.Common.{◌≡◌, ℕ, zero, suc, ◌-◌, ◌≤◌, Bool, true, false, ◌&&◌, cond, List, [], ◌∷◌, map, Option, Some, None, refl, sym, ap, ◌∙◌, arith}
use Rattle.std.specs.List.{AllByRecursion, flat_map, range_with_len}
use Rattle.std.specs.Option.{option_map_or, option_or}
use Rattle.std.specs.Str.{bytes_eq}
use Rattle.fw_lemmas.proofs.Bools.{first_holds}
use Rattle.fw_lemmas.proofs.Each.{each-append, each-prefix, each-suffix, each-weaker}
use Rattle.fw_lines.specs.Spelling.{is_name}
use Rattle.fw_flow.specs.declared.key_part.KeyPart.{KeyPart}
use Rattle.fw_flow.specs.declared.kind.Kind.TheVariants.{Input, OutputEpoch, OutputNumber, Select, Concat, Distinct, Join, Sum, Enter, Feedback, Leave, Total, Sequence, Ledger, Regroup}
use Rattle.fw_flow.specs.declared.kind.Policy.{Policy}
use Rattle.fw_flow.specs.declared.node.Edge.{Edge}
use Rattle.fw_flow.specs.declared.node.Node.{Node}
use Rattle.fw_flow.specs.declared.raw.Declaration.TheVariants.{Loop as ALoop, Node as ANode, Edge as AnEdge}
use Rattle.fw_flow.specs.Builder.{has_names}
use Rattle.fw_flow.specs.Dataflow.{Dataflow, is_input_kind}
use Rattle.fw_flow.specs.Declaring.{Declaration, Declared}
use Rattle.fw_flow.specs.Expand.{at_line, edge_to_replica, expand, expanded, expanded_one, joint, replica, replica_edge, replicas_declared, replicas_for, replicas_of_kind, split_edge, split_node, split_of}
use Rattle.fw_flow.specs.KeyParts.{HasNoReplicas, may_split, part_of_node}
use Rattle.fw_flow.specs.Kind.{Kind, RawKind, kind_map, loop_of_kind}
use Rattle.fw_flow.specs.PlainNames.{ArePlain, HasNoPart, HasPlainEdge, HasPlainEdges, HasPlainInputs, HasPlainNode, HasPlainNodes}
use Rattle.fw_flow.specs.Raw.{edge_in, flow_of_declarations, loop_names, node_in, node_names, place_or_end}
use Rattle.fw_flow.proofs.ExpandLaws.{replicas_there}

-- ---- lists

each-flat : {A B : Type 0} (P : B → Type 0) (f : A → List B) (xs : List A) → AllByRecursion (λ x. AllByRecursion P (f x)) xs → AllByRecursion P (flat_map f xs)
each-flat P f [] h = tt
each-flat P f (x ∷ xs) h = each-append P (f x) (flat_map f xs) h.0 (each-flat P f xs h.1)

flat-each : {A B : Type 0} (P : B → Type 0) (f : A → List B) (xs : List A) → AllByRecursion P (flat_map f xs) → AllByRecursion (λ x. AllByRecursion P (f x)) xs
flat-each P f [] h = tt
flat-each P f (x ∷ xs) h = (each-prefix P (f x) (flat_map f xs) h, flat-each P f xs (each-suffix P (f x) (flat_map f xs) h))

each-step : {A : Type 0} (P Q R : A → Type 0) (xs : List A) → ((x : A) → P x → Q x → R x) → AllByRecursion P xs → AllByRecursion Q xs → AllByRecursion R xs
each-step P Q R [] f p q = tt
each-step P Q R (x ∷ xs) f p q = (f x p.0 q.0, each-step P Q R xs f p.1 q.1)

each-line : (P : Declaration → Type 0) (line : ℕ) (ds : List Declaration) → AllByRecursion P ds → AllByRecursion (λ (d : Declared). P d.declaration) (at_line line ds)
each-line P line [] h = tt
each-line P line (d ∷ ds) h = (h.0, each-line P line ds h.1)

line-each : (P : Declaration → Type 0) (line : ℕ) (ds : List Declaration) → AllByRecursion (λ (d : Declared). P d.declaration) (at_line line ds) → AllByRecursion P ds
line-each P line [] h = tt
line-each P line (d ∷ ds) h = (h.0, line-each P line ds h.1)

each-made : (P : Declaration → Type 0) (make : ℕ → Declaration) (is : List ℕ) → ((i : ℕ) → P (make i)) → AllByRecursion P (map make is)
each-made P make [] h = tt
each-made P make (i ∷ is) h = (h i, each-made P make is h)

-- ---- nodes

-- where a node is split, its kind may be
split-may : (kind : RawKind) (split : Option ℕ) (part : Option KeyPart) (n : ℕ) → replicas_of_kind kind split part ≡ Some n → may_split kind ≡ true
split-may kind None part n e = absurd (cc)
split-may kind (Some m) (Some part) n e = absurd (cc)
split-may kind (Some m) None n e = by (may_split kind) refl e
  where
    by : (t : Bool) → may_split kind ≡ t → cond t (Some (replicas_for m)) None ≡ Some n → may_split kind ≡ true
    by true is h = is
    by false is h = absurd (cc)

replica-plain : (name : List ℕ) (kind : RawKind) (policy : Policy) (n i : ℕ) → may_split kind ≡ true → HasPlainNode (replica name kind policy n i)
replica-plain name kind policy n i may none =
    let part : KeyPart = record { place = i; last = n - 1 } in
    let some : Some part ≡ None = ap (λ b. cond b (Some part) None) (sym may) ∙ none in
    absurd (cc)

split-plain : (name : List ℕ) (kind : RawKind) (policy : Policy) (split : Option ℕ) (n : ℕ) → may_split kind ≡ true → is_name name ≡ true → AllByRecursion HasPlainNode (split_node name kind policy split n)
split-plain name kind policy split n may named =
    each-append HasPlainNode (map (replica name kind policy n) (range_with_len 0 n)) (joint name kind split ∷ map (replica_edge name) (range_with_len 0 n))
    (each-made HasPlainNode (replica name kind policy n) (range_with_len 0 n) (λ i. replica-plain name kind policy n i may))
    ((λ none. named), each-made HasPlainNode (replica_edge name) (range_with_len 0 n) (λ i. tt))

node-plain : (name : List ℕ) (kind : RawKind) (policy : Policy) (split : Option ℕ) (part : Option KeyPart) (o : Option ℕ) → replicas_of_kind kind split part ≡ o → is_name name ≡ true
    → AllByRecursion HasPlainNode (option_map_or (split_node name kind policy split) o (ANode name kind policy split part ∷ []))
node-plain name kind policy split part None e named = ((λ none. named), tt)
node-plain name kind policy split part (Some n) e named = split-plain name kind policy split n (split-may kind split part n e) named

edge-plain : (name sender receiver : List ℕ) (o : Option ℕ) → AllByRecursion HasPlainNode (option_map_or (split_edge name sender receiver) o (AnEdge name sender receiver ∷ []))
edge-plain name sender receiver None = (tt, tt)
edge-plain name sender receiver (Some n) = each-made HasPlainNode (edge_to_replica name sender receiver) (range_with_len 0 n) (λ i. tt)

one-plain : (all : List Declared) (d : Declaration) → has_names d ≡ true → AllByRecursion HasPlainNode (expanded all d)
one-plain all (ALoop name max parent) k = (tt, tt)
one-plain all (ANode name kind policy split part) k =
    node-plain name kind policy split part (replicas_of_kind kind split part) refl (first_holds (is_name name) (option_map_or is_name (loop_of_kind kind) true) k)
one-plain all (AnEdge name sender receiver) k = edge-plain name sender receiver (split_of all receiver)

each-plain : (all raw : List Declared) → AllByRecursion (λ (d : Declared). has_names d.declaration ≡ true) raw
    → AllByRecursion (λ (d : Declared). AllByRecursion (λ (e : Declared). HasPlainNode e.declaration) (expanded_one all d)) raw
each-plain all [] k = tt
each-plain all (d ∷ raw) k = (each-line HasPlainNode d.line (expanded all d.declaration) (one-plain all d.declaration k.0), each-plain all raw k.1)

-- ---- edges

-- a node whose expansion has no part is not split
node-kept : (name : List ℕ) (kind : RawKind) (policy : Policy) (split : Option ℕ) (part : Option KeyPart) (o : Option ℕ) → replicas_of_kind kind split part ≡ o
    → AllByRecursion HasNoPart (option_map_or (split_node name kind policy split) o (ANode name kind policy split part ∷ [])) → replicas_of_kind kind split part ≡ None
node-kept name kind policy split part None e h = e
node-kept name kind policy split part (Some zero) e h = let some : 1 ≤ 0 = replicas_there kind split part 0 (sym e) in absurd (omega arith)
node-kept name kind policy split part (Some (suc n)) e h = let first = h.0 in absurd (cc)

-- no node is split by this
abbrev SplitsNone : Declaration → Type 0
SplitsNone (ALoop name max parent) = Unit {0}
SplitsNone (ANode name kind policy split part) = replicas_of_kind kind split part ≡ None
SplitsNone (AnEdge name sender receiver) = Unit {0}

one-kept : (all : List Declared) (d : Declaration) → AllByRecursion HasNoPart (expanded all d) → SplitsNone d
one-kept all (ALoop name max parent) h = tt
one-kept all (ANode name kind policy split part) h = node-kept name kind policy split part (replicas_of_kind kind split part) refl h
one-kept all (AnEdge name sender receiver) h = tt

all-kept : (all raw : List Declared) → AllByRecursion (λ (d : Declared). AllByRecursion (λ (e : Declared). HasNoPart e.declaration) (expanded_one all d)) raw
    → AllByRecursion (λ (d : Declared). SplitsNone d.declaration) raw
all-kept all [] h = tt
all-kept all (d ∷ raw) h = (one-kept all d.declaration (line-each HasNoPart d.line (expanded all d.declaration) h.0), all-kept all raw h.1)

both-none : (b : Bool) → ◌≡◌ {A = Option ℕ} (cond b None None) None
both-none true = refl
both-none false = refl

declared-kept : (name : List ℕ) (d : Declaration) → SplitsNone d → replicas_declared name d ≡ None
declared-kept name (ALoop own max parent) k = refl
declared-kept name (ANode own kind policy split part) k = ap (λ o. cond (bytes_eq name own) o None) k ∙ both-none (bytes_eq name own)
declared-kept name (AnEdge own sender receiver) k = refl

split-kept : (raw : List Declared) (name : List ℕ) → AllByRecursion (λ (d : Declared). SplitsNone d.declaration) raw → split_of raw name ≡ None
split-kept [] name k = refl
split-kept (d ∷ raw) name k = ap (λ o. option_or o (split_of raw name)) (declared-kept name d.declaration k.0) ∙ split-kept raw name k.1

node-edges : (name : List ℕ) (kind : RawKind) (policy : Policy) (split : Option ℕ) (part : Option KeyPart) (o : Option ℕ) → o ≡ None
    → AllByRecursion HasPlainEdge (option_map_or (split_node name kind policy split) o (ANode name kind policy split part ∷ []))
node-edges name kind policy split part None e = (tt, tt)
node-edges name kind policy split part (Some n) e = absurd (cc)

edge-edges : (name sender receiver : List ℕ) (o : Option ℕ) → o ≡ None → is_name name ≡ true
    → AllByRecursion HasPlainEdge (option_map_or (split_edge name sender receiver) o (AnEdge name sender receiver ∷ []))
edge-edges name sender receiver None e named = (named, tt)
edge-edges name sender receiver (Some n) e named = absurd (cc)

edge-own : (name sender receiver : List ℕ) → has_names (AnEdge name sender receiver) ≡ true → is_name name ≡ true
edge-own name sender receiver k = first_holds (is_name name) (is_name sender) (first_holds (is_name name && is_name sender) (is_name receiver) k)

one-edges : (all : List Declared) (d : Declaration) → ((name : List ℕ) → split_of all name ≡ None) → SplitsNone d → has_names d ≡ true → AllByRecursion HasPlainEdge (expanded all d)
one-edges all (ALoop name max parent) none s k = (tt, tt)
one-edges all (ANode name kind policy split part) none s k = node-edges name kind policy split part (replicas_of_kind kind split part) s
one-edges all (AnEdge name sender receiver) none s k = edge-edges name sender receiver (split_of all receiver) (none receiver) (edge-own name sender receiver k)

each-edges : (all raw : List Declared) → ((name : List ℕ) → split_of all name ≡ None) → AllByRecursion (λ (d : Declared). SplitsNone d.declaration) raw
    → AllByRecursion (λ (d : Declared). has_names d.declaration ≡ true) raw → AllByRecursion (λ (d : Declared). AllByRecursion (λ (e : Declared). HasPlainEdge e.declaration) (expanded_one all d)) raw
each-edges all [] none s k = tt
each-edges all (d ∷ raw) none s k = (each-line HasPlainEdge d.line (expanded all d.declaration) (one-edges all d.declaration none s.0 k.0), each-edges all raw none s.1 k.1)

-- where what is declared has names, its expansion is plain
pub plain-expanded : (raw : List Declared) → AllByRecursion (λ (d : Declared). has_names d.declaration ≡ true) raw → ArePlain (expand raw)
plain-expanded raw names = record {
  nodes = each-flat (λ (e : Declared). HasPlainNode e.declaration) (expanded_one raw) raw (each-plain raw raw names);
  edges = λ whole.
      let kept = all-kept raw raw (flat-each (λ (e : Declared). HasNoPart e.declaration) (expanded_one raw) raw whole) in
      each-flat (λ (e : Declared). HasPlainEdge e.declaration) (expanded_one raw) raw (each-edges raw raw (λ name. split-kept raw name kept) kept names);
}

-- ---- the flow

may_split-map : (f : List ℕ → ℕ) (kind : RawKind) → may_split (kind_map f kind) ≡ may_split kind
may_split-map f Input = refl
may_split-map f OutputEpoch = refl
may_split-map f OutputNumber = refl
may_split-map f (Select selection within) = refl
may_split-map f (Concat within) = refl
may_split-map f (Distinct within) = refl
may_split-map f (Join within) = refl
may_split-map f (Sum within) = refl
may_split-map f (Enter l) = refl
may_split-map f (Feedback l) = refl
may_split-map f (Leave l) = refl
may_split-map f Total = refl
may_split-map f Sequence = refl
may_split-map f Ledger = refl
may_split-map f (Regroup n) = refl

node-named : (loops : List (List ℕ)) (line : ℕ) (d : Declaration) → HasPlainNode d
    → AllByRecursion (λ (n : Node). part_of_node n ≡ None → is_name n.name ≡ true) (node_in loops (record { line = line; declaration = d }))
node-named loops line (ALoop name max parent) h = tt
node-named loops line (ANode name kind policy split part) h =
    ((λ none. h (ap (λ b. cond b part None) (sym (may_split-map (place_or_end loops) kind)) ∙ none)), tt)
node-named loops line (AnEdge name sender receiver) h = tt

nodes-named : (loops : List (List ℕ)) (raw : List Declared) → AllByRecursion (λ (d : Declared). HasPlainNode d.declaration) raw
    → AllByRecursion (λ (n : Node). part_of_node n ≡ None → is_name n.name ≡ true) (flat_map (node_in loops) raw)
nodes-named loops [] h = tt
nodes-named loops (d ∷ raw) h =
    each-append (λ (n : Node). part_of_node n ≡ None → is_name n.name ≡ true) (node_in loops d) (flat_map (node_in loops) raw) (node-named loops d.line d.declaration h.0) (nodes-named loops raw h.1)

node-whole : (loops : List (List ℕ)) (line : ℕ) (d : Declaration) → AllByRecursion (λ (n : Node). n.part ≡ None) (node_in loops (record { line = line; declaration = d })) → HasNoPart d
node-whole loops line (ALoop name max parent) h = tt
node-whole loops line (ANode name kind policy split part) h = h.0
node-whole loops line (AnEdge name sender receiver) h = tt

nodes-whole : (loops : List (List ℕ)) (raw : List Declared) → AllByRecursion (λ (n : Node). n.part ≡ None) (flat_map (node_in loops) raw) → AllByRecursion (λ (d : Declared). HasNoPart d.declaration) raw
nodes-whole loops [] h = tt
nodes-whole loops (d ∷ raw) h = (
  node-whole loops d.line d.declaration (each-prefix (λ (n : Node). n.part ≡ None) (node_in loops d) (flat_map (node_in loops) raw) h),
  nodes-whole loops raw (each-suffix (λ (n : Node). n.part ≡ None) (node_in loops d) (flat_map (node_in loops) raw) h),
)

edge-named : (nodes : List (List ℕ)) (line : ℕ) (d : Declaration) → HasPlainEdge d → AllByRecursion (λ (e : Edge). is_name e.name ≡ true) (edge_in nodes (record { line = line; declaration = d }))
edge-named nodes line (ALoop name max parent) h = tt
edge-named nodes line (ANode name kind policy split part) h = tt
edge-named nodes line (AnEdge name sender receiver) h = (h, tt)

edges-named : (nodes : List (List ℕ)) (raw : List Declared) → AllByRecursion (λ (d : Declared). HasPlainEdge d.declaration) raw
    → AllByRecursion (λ (e : Edge). is_name e.name ≡ true) (flat_map (edge_in nodes) raw)
edges-named nodes [] h = tt
edges-named nodes (d ∷ raw) h =
    each-append (λ (e : Edge). is_name e.name ≡ true) (edge_in nodes d) (flat_map (edge_in nodes) raw) (edge-named nodes d.line d.declaration h.0) (edges-named nodes raw h.1)

-- the flow of plain declarations is plain
pub plain-nodes : (raw : List Declared) → ArePlain raw → HasPlainNodes (flow_of_declarations raw)
plain-nodes raw plain = nodes-named (loop_names raw) raw plain.nodes

pub plain-edges : (raw : List Declared) → ArePlain raw → HasPlainEdges (flow_of_declarations raw)
plain-edges raw plain = λ whole. edges-named (node_names raw) raw (plain.edges (nodes-whole (loop_names raw) raw whole))

-- ---- without replicas, and at inputs

whole-part : (n : Node) → n.part ≡ None → part_of_node n ≡ None
whole-part n none = ap (λ o. cond (may_split n.kind) o None) none ∙ by (may_split n.kind)
  where
    by : (b : Bool) → ◌≡◌ {A = Option KeyPart} (cond b None None) None
    by true = refl
    by false = refl

-- without replicas all nodes have names as they are written
pub nodes-plain : (flow : Dataflow) → HasNoReplicas flow → HasPlainNodes flow → AllByRecursion (λ (n : Node). is_name n.name ≡ true) flow.nodes
nodes-plain flow whole plain =
    each-step (λ (n : Node). n.part ≡ None) (λ (n : Node). part_of_node n ≡ None → is_name n.name ≡ true) (λ (n : Node). is_name n.name ≡ true) flow.nodes
    (λ n none named. named (whole-part n none)) whole plain

input-whole : (n : Node) → is_input_kind n.kind ≡ true → part_of_node n ≡ None
input-whole n input = ap (λ b. cond b n.part None) (by n.kind input)
  where
    by : (k : Kind) → is_input_kind k ≡ true → may_split k ≡ false
    by Input h = refl
    by k h = absurd (cc)

-- inputs have names as they are written
pub inputs-plain : (flow : Dataflow) → HasPlainNodes flow → HasPlainInputs flow
inputs-plain flow plain =
    each-weaker (λ (n : Node). part_of_node n ≡ None → is_name n.name ≡ true) (λ (n : Node). is_input_kind n.kind ≡ true → is_name n.name ≡ true) flow.nodes
    (λ n named input. named (input-whole n input)) plain
