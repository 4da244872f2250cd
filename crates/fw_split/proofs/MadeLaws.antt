-- What declarations come to in their expansion, each node and each edge with its origin.
use Rattle.std.proofs.Common.{◌≡◌, ℕ, ◌-◌, ◌≤◌, Bool, true, false, ◌&&◌, nat_le, cond, List, [], ◌∷◌, ◌++◌, map, Option, Some, None, IfSome, refl, sym, ap, ◌∙◌, arith}
use Rattle.std.proofs.lemmas.Bool.Decides.{nat_tests}
use Rattle.std.proofs.lemmas.Grind.{flat_map-append}
use Rattle.std.specs.List.{flat_map, range_with_len}
use Rattle.std.specs.Option.{option_map_or, option_or}
use Rattle.std.specs.Str.{bytes_eq}
use Rattle.fw_flow.specs.declared.key_part.KeyPart.{KeyPart}
use Rattle.fw_flow.specs.declared.kind.Kind.TheVariants.{Concat}
use Rattle.fw_flow.specs.declared.kind.Policy.{Policy}
use Rattle.fw_flow.specs.declared.kind.Policy.TheVariants.{None as NoPolicy}
use Rattle.fw_flow.specs.declared.node.Node.{Node}
use Rattle.fw_flow.specs.declared.node.Edge.{Edge}
use Rattle.fw_flow.specs.declared.raw.Declaration.TheVariants.{Loop as ALoop, Node as ANode, Edge as AnEdge}
use Rattle.fw_flow.specs.Declaring.{Declaration, Declared}
use Rattle.fw_flow.specs.Expand.{at_line, edge_to_replica, expanded, expanded_one, joint, replica, replica_edge, replicas_declared, replicas_for, replicas_of_kind, split_edge, split_node, split_of}
use Rattle.fw_flow.specs.FullNames.{part_name, out_name}
use Rattle.fw_flow.specs.KeyParts.{may_split}
use Rattle.fw_flow.specs.Kind.{RawKind, loop_of_kind}
use Rattle.fw_flow.specs.Raw.{edge_in, loop_in, node_in, place_or_end, resolved_kind}
use Rattle.fw_split.specs.Expansion.{EdgeOrigin, Whole, PartOf, SentBy, NodeOrigin, Same, Replica, Gathered}

-- a node of an expansion, and of what it is made
pub record MadeNode : Type 0 where
  pub node : Node
  pub origin : NodeOrigin

-- an edge of an expansion by its names, and of what it is made
pub record MadeEdge : Type 0 where
  pub name : List ℕ
  pub sender : List ℕ
  pub receiver : List ℕ
  pub origin : EdgeOrigin

-- the part of the replica at a place, of so many
abbrev pub part_in : ℕ → ℕ → KeyPart
part_in n i = record { place = i; last = n - 1 }

-- a node as it is declared, with these names of loops
abbrev pub node_as : List (List ℕ) → List ℕ → RawKind → Policy → Option KeyPart → Node
node_as loops name kind policy part = record { name = name; kind = resolved_kind loops kind; policy = policy; part = part }

-- ---- nodes, with these names of loops and of nodes

module _ (loops nodes : List (List ℕ)) where
  abbrev pub same_made : List ℕ → RawKind → Policy → Option KeyPart → MadeNode
  same_made name kind policy part = record { node = node_as loops name kind policy part; origin = Same (place_or_end nodes name) }

  abbrev pub replica_made : List ℕ → RawKind → Policy → ℕ → ℕ → MadeNode
  replica_made name kind policy n i =
      record { node = node_as loops (part_name name i) kind policy (Some (part_in n i)); origin = Replica (place_or_end nodes name) (part_in n i) }

  abbrev pub gathered_made : List ℕ → RawKind → MadeNode
  gathered_made name kind = record { node = node_as loops name (Concat (loop_of_kind kind)) NoPolicy None; origin = Gathered (place_or_end nodes name) }

  abbrev pub split_made : List ℕ → RawKind → Policy → ℕ → List MadeNode
  split_made name kind policy n = map (replica_made name kind policy n) (range_with_len 0 n) ++ gathered_made name kind ∷ []

  abbrev pub node_made_of : List ℕ → RawKind → Policy → Option KeyPart → Option ℕ → List MadeNode
  node_made_of name kind policy part count = option_map_or (split_made name kind policy) count (same_made name kind policy part ∷ [])

  -- the nodes that a declaration comes to
  abbrev pub nodes_of : Declaration → List MadeNode
  nodes_of (ALoop name max parent) = []
  nodes_of (ANode name kind policy split part) = node_made_of name kind policy part (replicas_of_kind kind split part)
  nodes_of (AnEdge name sender receiver) = []

  made_replicas : (line : ℕ) (name : List ℕ) (kind : RawKind) (policy : Policy) (n : ℕ) (is : List ℕ)
      → flat_map (node_in loops) (at_line line (map (replica name kind policy n) is)) ≡ map (λ m. m.node) (map (replica_made name kind policy n) is)
  made_replicas line name kind policy n [] = refl
  made_replicas line name kind policy n (i ∷ is) = ap (λ ms. (replica_made name kind policy n i).node ∷ ms) (made_replicas line name kind policy n is)

  made_none : (line : ℕ) (name : List ℕ) (is : List ℕ) → flat_map (node_in loops) (at_line line (map (replica_edge name) is)) ≡ []
  made_none line name [] = refl
  made_none line name (i ∷ is) = made_none line name is

  made_no_parts : (line : ℕ) (name sender receiver : List ℕ) (is : List ℕ) → flat_map (node_in loops) (at_line line (map (edge_to_replica name sender receiver) is)) ≡ []
  made_no_parts line name sender receiver [] = refl
  made_no_parts line name sender receiver (i ∷ is) = made_no_parts line name sender receiver is

-- of two lists, one after the other
at_line-append : {B : Type 0} (f : Declared → List B) (line : ℕ) (ds es : List Declaration) → flat_map f (at_line line (ds ++ es)) ≡ flat_map f (at_line line ds) ++ flat_map f (at_line line es)
at_line-append f line ds es = ap (flat_map f) (both ds) ∙ flat_map-append f (at_line line ds) (at_line line es)
  where
    both : (xs : List Declaration) → at_line line (xs ++ es) ≡ at_line line xs ++ at_line line es
    both [] = refl
    both (x ∷ xs) = ap (λ ys. record { line = line; declaration = x } ∷ ys) (both xs)

map-both : {A B : Type 0} (f : A → B) (xs ys : List A) → map f (xs ++ ys) ≡ map f xs ++ map f ys
map-both f [] ys = refl
map-both f (x ∷ xs) ys = ap (λ zs. f x ∷ zs) (map-both f xs ys)

pub map-joined : {A B C : Type 0} (h : B → C) (f : A → List B) (xs : List A) → map h (flat_map f xs) ≡ flat_map (λ x. map h (f x)) xs
map-joined h f [] = refl
map-joined h f (x ∷ xs) = map-both h (f x) (flat_map f xs) ∙ ap (λ ys. map h (f x) ++ ys) (map-joined h f xs)

pub joined-joined : {A B C : Type 0} (f : B → List C) (g : A → List B) (xs : List A) → flat_map f (flat_map g xs) ≡ flat_map (λ x. flat_map f (g x)) xs
joined-joined f g [] = refl
joined-joined f g (x ∷ xs) = flat_map-append f (g x) (flat_map g xs) ∙ ap (λ ys. flat_map f (g x) ++ ys) (joined-joined f g xs)

nodes-one : (loops nodes : List (List ℕ)) (all : List Declared) (line : ℕ) (d : Declaration)
    → flat_map (node_in loops) (at_line line (expanded all d)) ≡ map (λ m. m.node) (nodes_of loops nodes d)
nodes-one loops nodes all line (ALoop name max parent) = refl
nodes-one loops nodes all line (ANode name kind policy split part) = by (replicas_of_kind kind split part)
  where
    by : (o : Option ℕ) → flat_map (node_in loops) (at_line line (option_map_or (split_node name kind policy split) o (ANode name kind policy split part ∷ [])))
        ≡ map (λ m. m.node) (node_made_of loops nodes name kind policy part o)
    by None = refl
    by (Some n) =
        let is = range_with_len 0 n in
        at_line-append (node_in loops) line (map (replica name kind policy n) is) (joint name kind split ∷ map (replica_edge name) is)
        ∙ ap (λ ms. ms ++ (gathered_made loops nodes name kind).node ∷ flat_map (node_in loops) (at_line line (map (replica_edge name) is))) (made_replicas loops nodes line name kind policy n is)
        ∙ ap (λ ms. map (λ m. m.node) (map (replica_made loops nodes name kind policy n) is) ++ (gathered_made loops nodes name kind).node ∷ ms) (made_none loops nodes line name is)
        ∙ sym (map-both (λ m. m.node) (map (replica_made loops nodes name kind policy n) is) (gathered_made loops nodes name kind ∷ []))
nodes-one loops nodes all line (AnEdge name sender receiver) = by (split_of all receiver)
  where
    by : (o : Option ℕ) → flat_map (node_in loops) (at_line line (option_map_or (split_edge name sender receiver) o (AnEdge name sender receiver ∷ []))) ≡ []
    by None = refl
    by (Some n) = made_no_parts loops nodes line name sender receiver (range_with_len 0 n)

-- the nodes that declarations come to
abbrev pub made_nodes : List (List ℕ) → List (List ℕ) → List Declared → List MadeNode
made_nodes loops nodes raw = flat_map (λ d. nodes_of loops nodes d.declaration) raw

-- they are those of the expansion
pub nodes-made : (loops nodes : List (List ℕ)) (all raw : List Declared)
    → flat_map (node_in loops) (flat_map (expanded_one all) raw) ≡ map (λ m. m.node) (made_nodes loops nodes raw)
nodes-made loops nodes all [] = refl
nodes-made loops nodes all (d ∷ raw) =
    flat_map-append (node_in loops) (expanded_one all d) (flat_map (expanded_one all) raw)
    ∙ ap (λ ms. ms ++ flat_map (node_in loops) (flat_map (expanded_one all) raw)) (nodes-one loops nodes all d.line d.declaration)
    ∙ ap (λ ms. map (λ m. m.node) (nodes_of loops nodes d.declaration) ++ ms) (nodes-made loops nodes all raw)
    ∙ sym (map-both (λ m. m.node) (nodes_of loops nodes d.declaration) (made_nodes loops nodes raw))

-- ---- edges, with these names of nodes and of edges, among all of these declarations

module _ (all : List Declared) (nodes edges : List (List ℕ)) where
  abbrev pub sent_made : List ℕ → ℕ → ℕ → MadeEdge
  sent_made name n i = record { name = out_name name i; sender = part_name name i; receiver = name; origin = SentBy (place_or_end nodes name) (part_in n i) }

  abbrev pub whole_made : List ℕ → List ℕ → List ℕ → MadeEdge
  whole_made name sender receiver = record { name = name; sender = sender; receiver = receiver; origin = Whole (place_or_end edges name) }

  abbrev pub part_made : List ℕ → List ℕ → List ℕ → ℕ → ℕ → MadeEdge
  part_made name sender receiver n i =
      record { name = part_name name i; sender = sender; receiver = part_name receiver i; origin = PartOf (place_or_end edges name) (part_in n i) }

  abbrev pub sent_of : List ℕ → Option ℕ → List MadeEdge
  sent_of name count = option_map_or (λ n. map (sent_made name n) (range_with_len 0 n)) count []

  abbrev pub edge_made_of : List ℕ → List ℕ → List ℕ → Option ℕ → List MadeEdge
  edge_made_of name sender receiver count =
      option_map_or (λ n. map (part_made name sender receiver n) (range_with_len 0 n)) count (whole_made name sender receiver ∷ [])

  -- the edges that a declaration comes to
  abbrev pub edges_of : Declaration → List MadeEdge
  edges_of (ALoop name max parent) = []
  edges_of (ANode name kind policy split part) = sent_of name (replicas_of_kind kind split part)
  edges_of (AnEdge name sender receiver) = edge_made_of name sender receiver (split_of all receiver)

-- the edge, with its nodes by their places among these names
abbrev pub edge_as : List (List ℕ) → MadeEdge → Edge
edge_as names m = record { name = m.name; sender = place_or_end names m.sender; receiver = place_or_end names m.receiver }

module _ (all : List Declared) (nodes edges names : List (List ℕ)) where
  placed_sent : (line : ℕ) (name : List ℕ) (n : ℕ) (is : List ℕ)
      → flat_map (edge_in names) (at_line line (map (replica_edge name) is)) ≡ map (edge_as names) (map (sent_made all nodes edges name n) is)
  placed_sent line name n [] = refl
  placed_sent line name n (i ∷ is) = ap (λ es. edge_as names (sent_made all nodes edges name n i) ∷ es) (placed_sent line name n is)

  placed_none : (line : ℕ) (name : List ℕ) (kind : RawKind) (policy : Policy) (n : ℕ) (is : List ℕ)
      → flat_map (edge_in names) (at_line line (map (replica name kind policy n) is)) ≡ []
  placed_none line name kind policy n [] = refl
  placed_none line name kind policy n (i ∷ is) = placed_none line name kind policy n is

  placed_parts : (line : ℕ) (name sender receiver : List ℕ) (n : ℕ) (is : List ℕ)
      → flat_map (edge_in names) (at_line line (map (edge_to_replica name sender receiver) is)) ≡ map (edge_as names) (map (part_made all nodes edges name sender receiver n) is)
  placed_parts line name sender receiver n [] = refl
  placed_parts line name sender receiver n (i ∷ is) =
      ap (λ es. edge_as names (part_made all nodes edges name sender receiver n i) ∷ es) (placed_parts line name sender receiver n is)

  edges-one : (line : ℕ) (d : Declaration) → flat_map (edge_in names) (at_line line (expanded all d)) ≡ map (edge_as names) (edges_of all nodes edges d)
  edges-one line (ALoop name max parent) = refl
  edges-one line (ANode name kind policy split part) = by (replicas_of_kind kind split part)
    where
      by : (o : Option ℕ) → flat_map (edge_in names) (at_line line (option_map_or (split_node name kind policy split) o (ANode name kind policy split part ∷ [])))
          ≡ map (edge_as names) (sent_of all nodes edges name o)
      by None = refl
      by (Some n) =
          let is = range_with_len 0 n in
          at_line-append (edge_in names) line (map (replica name kind policy n) is) (joint name kind split ∷ map (replica_edge name) is)
          ∙ ap (λ es. es ++ flat_map (edge_in names) (at_line line (map (replica_edge name) is))) (placed_none line name kind policy n is)
          ∙ placed_sent line name n is
  edges-one line (AnEdge name sender receiver) = by (split_of all receiver)
    where
      by : (o : Option ℕ) → flat_map (edge_in names) (at_line line (option_map_or (split_edge name sender receiver) o (AnEdge name sender receiver ∷ [])))
          ≡ map (edge_as names) (edge_made_of all nodes edges name sender receiver o)
      by None = refl
      by (Some n) = placed_parts line name sender receiver n (range_with_len 0 n)

-- the edges that declarations come to
abbrev pub made_edges : List Declared → List (List ℕ) → List (List ℕ) → List Declared → List MadeEdge
made_edges all nodes edges raw = flat_map (λ d. edges_of all nodes edges d.declaration) raw

-- they are those of the expansion
pub edges-made : (all : List Declared) (nodes edges names : List (List ℕ)) (raw : List Declared)
    → flat_map (edge_in names) (flat_map (expanded_one all) raw) ≡ map (edge_as names) (made_edges all nodes edges raw)
edges-made all nodes edges names [] = refl
edges-made all nodes edges names (d ∷ raw) =
    flat_map-append (edge_in names) (expanded_one all d) (flat_map (expanded_one all) raw)
    ∙ ap (λ es. es ++ flat_map (edge_in names) (flat_map (expanded_one all) raw)) (edges-one all nodes edges names d.line d.declaration)
    ∙ ap (λ es. map (edge_as names) (edges_of all nodes edges d.declaration) ++ es) (edges-made all nodes edges names raw)
    ∙ sym (map-both (edge_as names) (edges_of all nodes edges d.declaration) (made_edges all nodes edges raw))

-- ---- the flow without the word, and its edges with what they become

-- the edge that a declaration is, with an origin made of its place
abbrev pub written_of : (ℕ → EdgeOrigin) → List (List ℕ) → Declaration → List MadeEdge
written_of f edges (ALoop name max parent) = []
written_of f edges (ANode name kind policy split part) = []
written_of f edges (AnEdge name sender receiver) = record { name = name; sender = sender; receiver = receiver; origin = f (place_or_end edges name) } ∷ []

abbrev pub written_edges : (ℕ → EdgeOrigin) → List (List ℕ) → List Declared → List MadeEdge
written_edges f edges raw = flat_map (λ d. written_of f edges d.declaration) raw

written-one : (f : ℕ → EdgeOrigin) (edges names : List (List ℕ)) (line : ℕ) (d : Declaration)
    → edge_in names (record { line = line; declaration = d }) ≡ map (edge_as names) (written_of f edges d)
written-one f edges names line (ALoop name max parent) = refl
written-one f edges names line (ANode name kind policy split part) = refl
written-one f edges names line (AnEdge name sender receiver) = refl

pub edges-written : (f : ℕ → EdgeOrigin) (edges names : List (List ℕ)) (raw : List Declared)
    → flat_map (edge_in names) raw ≡ map (edge_as names) (written_edges f edges raw)
edges-written f edges names [] = refl
edges-written f edges names (d ∷ raw) =
    ap (λ es. es ++ flat_map (edge_in names) raw) (written-one f edges names d.line d.declaration)
    ∙ ap (λ es. map (edge_as names) (written_of f edges d.declaration) ++ es) (edges-written f edges names raw)
    ∙ sym (map-both (edge_as names) (written_of f edges d.declaration) (written_edges f edges raw))

-- ---- the loops

loops-one : (loops : List (List ℕ)) (all : List Declared) (line : ℕ) (d : Declaration)
    → flat_map (loop_in loops) (at_line line (expanded all d)) ≡ loop_in loops (record { line = line; declaration = d })
loops-one loops all line (ALoop name max parent) = refl
loops-one loops all line (ANode name kind policy split part) = by (replicas_of_kind kind split part)
  where
    replicas : (n : ℕ) (is : List ℕ) → flat_map (loop_in loops) (at_line line (map (replica name kind policy n) is)) ≡ []
    replicas n [] = refl
    replicas n (i ∷ is) = replicas n is

    edges : (is : List ℕ) → flat_map (loop_in loops) (at_line line (map (replica_edge name) is)) ≡ []
    edges [] = refl
    edges (i ∷ is) = edges is

    by : (o : Option ℕ) → flat_map (loop_in loops) (at_line line (option_map_or (split_node name kind policy split) o (ANode name kind policy split part ∷ []))) ≡ []
    by None = refl
    by (Some n) =
        let is = range_with_len 0 n in
        at_line-append (loop_in loops) line (map (replica name kind policy n) is) (joint name kind split ∷ map (replica_edge name) is)
        ∙ ap (λ ls. ls ++ flat_map (loop_in loops) (at_line line (map (replica_edge name) is))) (replicas n is)
        ∙ edges is
loops-one loops all line (AnEdge name sender receiver) = by (split_of all receiver)
  where
    parts : (is : List ℕ) → flat_map (loop_in loops) (at_line line (map (edge_to_replica name sender receiver) is)) ≡ []
    parts [] = refl
    parts (i ∷ is) = parts is

    by : (o : Option ℕ) → flat_map (loop_in loops) (at_line line (option_map_or (split_edge name sender receiver) o (AnEdge name sender receiver ∷ []))) ≡ []
    by None = refl
    by (Some n) = parts (range_with_len 0 n)

-- the loops of an expansion are those that are declared
pub loops-made : (loops : List (List ℕ)) (all raw : List Declared) → flat_map (loop_in loops) (flat_map (expanded_one all) raw) ≡ flat_map (loop_in loops) raw
loops-made loops all [] = refl
loops-made loops all (d ∷ raw) =
    flat_map-append (loop_in loops) (expanded_one all d) (flat_map (expanded_one all) raw)
    ∙ ap (λ ls. ls ++ flat_map (loop_in loops) (flat_map (expanded_one all) raw)) (loops-one loops all d.line d.declaration)
    ∙ ap (λ ls. loop_in loops d ++ ls) (loops-made loops all raw)

-- ---- how many replicas

-- from one to 64
abbrev pub AreFew : ℕ → Type 0
AreFew n = (1 ≤ n) × (n ≤ 64)

few-for : (n : ℕ) → AreFew (replicas_for n)
few-for n = by (nat_le 2 n && nat_le n 64) refl
  where
    by : (t : Bool) → (nat_le 2 n && nat_le n 64) ≡ t → AreFew (cond t n 2)
    by true e = (grind (arith, nat_tests, e), grind (arith, nat_tests, e))
    by false e = (omega arith, omega arith)

few-kind : (kind : RawKind) (split : Option ℕ) (part : Option KeyPart) → IfSome (replicas_of_kind kind split part) AreFew
few-kind kind None part = tt
few-kind kind (Some n) (Some part) = tt
few-kind kind (Some n) None = by (may_split kind)
  where
    by : (t : Bool) → IfSome (cond t (Some (replicas_for n)) None) AreFew
    by true = few-for n
    by false = tt

few-declared : (name : List ℕ) (d : Declaration) → IfSome (replicas_declared name d) AreFew
few-declared name (ALoop own max parent) = tt
few-declared name (ANode own kind policy split part) = by (bytes_eq name own)
  where
    by : (t : Bool) → IfSome (cond t (replicas_of_kind kind split part) None) AreFew
    by true = few-kind kind split part
    by false = tt
few-declared name (AnEdge own sender receiver) = tt

few-first : (o p : Option ℕ) → IfSome o AreFew → IfSome p AreFew → IfSome (option_or o p) AreFew
few-first None p a b = b
few-first (Some n) p a b = a

pub few-split : (raw : List Declared) (name : List ℕ) → IfSome (split_of raw name) AreFew
few-split [] name = tt
few-split (d ∷ raw) name = few-first (replicas_declared name d.declaration) (split_of raw name) (few-declared name d.declaration) (few-split raw name)

-- a node that is split is of a kind that may be
pub split-may : (kind : RawKind) (split : Option ℕ) (part : Option KeyPart) (n : ℕ) → replicas_of_kind kind split part ≡ Some n → may_split kind ≡ true
split-may kind None part n e = absurd (cc)
split-may kind (Some m) (Some part) n e = absurd (cc)
split-may kind (Some m) None n e = by (may_split kind) refl e
  where
    by : (t : Bool) → may_split kind ≡ t → cond t (Some (replicas_for m)) None ≡ Some n → may_split kind ≡ true
    by true h k = h
    by false h k = absurd (cc)
