-- The names of an expansion: they are distinct where those that are declared are distinct names.
use Rattle.std.proofs.Common.{◌≡◌, ℕ, zero, suc, ◌+◌, ◌-◌, ◌<◌, ◌≤◌, ◌^◌, nat_le, Bool, true, false, ◌&&◌, ◌==◌, cond, List, [], ◌∷◌, ◌++◌, length, map, Option, Some, None, IfSome, refl, sym, ap, ◌∙◌, subst, arith}
use Rattle.std.proofs.lemmas.Bool.{or_left}
use Rattle.std.proofs.lemmas.Bool.Decides.{nat_tests}
use Rattle.std.proofs.lemmas.Grind.{flat_map-append}
use Rattle.std.proofs.lemmas.List.{append_assoc, length-append}
use Rattle.std.proofs.lemmas.Map.Keys.{IsDistinct-cons, IsDistinct-head, IsDistinct-tail}
use Rattle.std.proofs.lemmas.Slice.Eq.{bytes_eq-Decides}
use Rattle.std.specs.Char.{is_ascii_digit}
use Rattle.std.specs.Fmt.{decimal}
use Rattle.std.specs.List.{AllByRecursion, IsDistinct, flat_map, list_all, range_with_len}
use Rattle.std.specs.Option.{option_map_or, option_or}
use Rattle.std.specs.Prelude.{codes}
use Rattle.std.specs.Str.{bytes_eq}
use Rattle.fw_lemmas.proofs.Bools.{first_holds}
use Rattle.fw_lemmas.proofs.Each.{each-append, each-weaker}
use Rattle.fw_lines.specs.Spelling.{is_name}
use Rattle.fw_lines.proofs.DecimalLaws.{decimal_digits}
use Rattle.fw_flow.specs.declared.key_part.KeyPart.{KeyPart}
use Rattle.fw_flow.specs.declared.kind.Policy.{Policy}
use Rattle.fw_flow.specs.declared.raw.Declaration.TheVariants.{Loop as ALoop, Node as ANode, Edge as AnEdge}
use Rattle.fw_flow.specs.Builder.{has_names}
use Rattle.fw_flow.specs.Declaring.{Declaration, Declared}
use Rattle.fw_flow.specs.Expand.{at_line, edge_to_replica, expand, expanded_one, joint, replica, replica_edge, replicas_declared, replicas_for, replicas_of_kind, split_edge, split_node, split_of}
use Rattle.fw_flow.specs.FullNames.{part_name, out_name}
use Rattle.fw_flow.specs.KeyParts.{may_split}
use Rattle.fw_flow.specs.Kind.{RawKind, loop_of_kind}
use Rattle.fw_flow.specs.Names.{has_name}
use Rattle.fw_flow.specs.Raw.{loop_name, node_name, edge_name, loop_names, node_names, edge_names}
use Rattle.fw_flow.proofs.DistinctLaws.{IsGroup, apart-where, distinct-append, distinct-groups, distinct-places, out-differs, part-differs}
use Rattle.fw_flow.proofs.FullNameLaws.{IsDotless, dotless-name}

-- ---- what stands before the first dot of a name, and whether `out` follows it

before_dot : List ℕ → List ℕ
before_dot [] = []
before_dot (b ∷ bs) = cond (b == 46) [] (b ∷ before_dot bs)

-- 1 if a letter `o` follows the dot, else 0
mark_of : List ℕ → ℕ
mark_of [] = 0
mark_of (b ∷ bs) = cond (b == 111) 1 0

mark_behind_dot : List ℕ → ℕ
mark_behind_dot [] = 0
mark_behind_dot (b ∷ bs) = cond (b == 46) (mark_of bs) (mark_behind_dot bs)

-- the key of the name of an edge
edge_key : List ℕ → List ℕ
edge_key name = mark_behind_dot name ∷ before_dot name

head-plain : (b : ℕ) (bs : List ℕ) → IsDotless (b ∷ bs) → (b == 46) ≡ false
head-plain b bs k = by (b == 46) refl
  where
    by : (t : Bool) → (b == 46) ≡ t → t ≡ false
    by true e = absurd (grind (arith, nat_tests, k, e))
    by false e = refl

tail-plain : (b : ℕ) (bs : List ℕ) → IsDotless (b ∷ bs) → IsDotless bs
tail-plain b bs k = grind (arith, nat_tests, k)

before-plain : (name : List ℕ) → IsDotless name → before_dot name ≡ name
unfolding before_dot
before-plain [] k = refl
before-plain (b ∷ bs) k = ap (λ t. cond t [] (b ∷ before_dot bs)) (head-plain b bs k) ∙ ap (λ xs. b ∷ xs) (before-plain bs (tail-plain b bs k))

before-behind : (name rest : List ℕ) → IsDotless name → before_dot (name ++ 46 ∷ rest) ≡ name
unfolding before_dot
before-behind [] rest k = refl
before-behind (b ∷ bs) rest k =
    ap (λ t. cond t [] (b ∷ before_dot (bs ++ 46 ∷ rest))) (head-plain b bs k) ∙ ap (λ xs. b ∷ xs) (before-behind bs rest (tail-plain b bs k))

mark-plain : (name : List ℕ) → IsDotless name → mark_behind_dot name ≡ 0
unfolding mark_behind_dot
mark-plain [] k = refl
mark-plain (b ∷ bs) k = ap (λ t. cond t (mark_of bs) (mark_behind_dot bs)) (head-plain b bs k) ∙ mark-plain bs (tail-plain b bs k)

mark-behind : (name rest : List ℕ) → IsDotless name → mark_behind_dot (name ++ 46 ∷ rest) ≡ mark_of rest
unfolding mark_behind_dot
mark-behind [] rest k = refl
mark-behind (b ∷ bs) rest k =
    ap (λ t. cond t (mark_of (bs ++ 46 ∷ rest)) (mark_behind_dot (bs ++ 46 ∷ rest))) (head-plain b bs k) ∙ mark-behind bs rest (tail-plain b bs k)

digit-no_o : (b : ℕ) → is_ascii_digit b ≡ true → (b == 111) ≡ false
digit-no_o b k = grind (arith, nat_tests, k)

mark-digits : (ds : List ℕ) → list_all is_ascii_digit ds ≡ true → mark_of ds ≡ 0
unfolding mark_of
mark-digits [] k = refl
mark-digits (b ∷ bs) k = ap (λ t. cond t 1 0) (digit-no_o b (first_holds (is_ascii_digit b) (list_all is_ascii_digit bs) k))

key-plain : (name : List ℕ) → IsDotless name → edge_key name ≡ 0 ∷ name
unfolding edge_key
key-plain name k = ap (λ n. n ∷ before_dot name) (mark-plain name k) ∙ ap (λ xs. 0 ∷ xs) (before-plain name k)

key-part : (name : List ℕ) (i : ℕ) → IsDotless name → i < 2 ^ 64 → edge_key (part_name name i) ≡ 0 ∷ name
unfolding edge_key
key-part name i k small =
    ap (λ n. n ∷ before_dot (part_name name i)) (mark-behind name (decimal i) k ∙ mark-digits (decimal i) (decimal_digits i small))
    ∙ ap (λ xs. 0 ∷ xs) (before-behind name (decimal i) k)

key-out : (name : List ℕ) (i : ℕ) → IsDotless name → edge_key (out_name name i) ≡ 1 ∷ name
unfolding edge_key mark_of
key-out name i k =
    ap (λ n. n ∷ before_dot (out_name name i)) (mark-behind name (codes "out." ++ decimal i) k)
    ∙ ap (λ xs. 1 ∷ xs) (before-behind name (codes "out." ++ decimal i) k)

-- ---- how many replicas

for-most : (n : ℕ) → replicas_for n ≤ 64
for-most n = by (nat_le 2 n && nat_le n 64) refl
  where
    by : (t : Bool) → (nat_le 2 n && nat_le n 64) ≡ t → cond t n 2 ≤ 64
    by true e = grind (arith, nat_tests, e)
    by false e = omega arith

kind-most : (kind : RawKind) (split : Option ℕ) (part : Option KeyPart) → IfSome (replicas_of_kind kind split part) (λ n. n ≤ 64)
kind-most kind None part = tt
kind-most kind (Some n) (Some part) = tt
kind-most kind (Some n) None = by (may_split kind)
  where
    by : (t : Bool) → IfSome (cond t (Some (replicas_for n)) None) (λ m. m ≤ 64)
    by true = for-most n
    by false = tt

declared-most : (name : List ℕ) (d : Declaration) → IfSome (replicas_declared name d) (λ n. n ≤ 64)
declared-most name (ALoop own max parent) = tt
declared-most name (ANode own kind policy split part) = by (bytes_eq name own)
  where
    by : (t : Bool) → IfSome (cond t (replicas_of_kind kind split part) None) (λ m. m ≤ 64)
    by true = kind-most kind split part
    by false = tt
declared-most name (AnEdge own sender receiver) = tt

first-some : (o p : Option ℕ) → IfSome o (λ n. n ≤ 64) → IfSome p (λ n. n ≤ 64) → IfSome (option_or o p) (λ n. n ≤ 64)
first-some None p a b = b
first-some (Some n) p a b = a

split-most : (raw : List Declared) (name : List ℕ) → IfSome (split_of raw name) (λ n. n ≤ 64)
split-most [] name = tt
split-most (d ∷ raw) name = first-some (replicas_declared name d.declaration) (split_of raw name) (declared-most name d.declaration) (split-most raw name)

-- ---- the names of what a declaration comes to

nodes-replicas : (line : ℕ) (name : List ℕ) (kind : RawKind) (policy : Policy) (n : ℕ) (is : List ℕ)
    → flat_map node_name (at_line line (map (replica name kind policy n) is)) ≡ map (part_name name) is
nodes-replicas line name kind policy n [] = refl
nodes-replicas line name kind policy n (i ∷ is) = ap (λ xs. part_name name i ∷ xs) (nodes-replicas line name kind policy n is)

nodes-edges : (line : ℕ) (name : List ℕ) (is : List ℕ) → flat_map node_name (at_line line (map (replica_edge name) is)) ≡ []
nodes-edges line name [] = refl
nodes-edges line name (i ∷ is) = nodes-edges line name is

nodes-parts : (line : ℕ) (name sender receiver : List ℕ) (is : List ℕ) → flat_map node_name (at_line line (map (edge_to_replica name sender receiver) is)) ≡ []
nodes-parts line name sender receiver [] = refl
nodes-parts line name sender receiver (i ∷ is) = nodes-parts line name sender receiver is

edges-replicas : (line : ℕ) (name : List ℕ) (kind : RawKind) (policy : Policy) (n : ℕ) (is : List ℕ)
    → flat_map edge_name (at_line line (map (replica name kind policy n) is)) ≡ []
edges-replicas line name kind policy n [] = refl
edges-replicas line name kind policy n (i ∷ is) = edges-replicas line name kind policy n is

edges-edges : (line : ℕ) (name : List ℕ) (is : List ℕ) → flat_map edge_name (at_line line (map (replica_edge name) is)) ≡ map (out_name name) is
edges-edges line name [] = refl
edges-edges line name (i ∷ is) = ap (λ xs. out_name name i ∷ xs) (edges-edges line name is)

edges-parts : (line : ℕ) (name sender receiver : List ℕ) (is : List ℕ)
    → flat_map edge_name (at_line line (map (edge_to_replica name sender receiver) is)) ≡ map (part_name name) is
edges-parts line name sender receiver [] = refl
edges-parts line name sender receiver (i ∷ is) = ap (λ xs. part_name name i ∷ xs) (edges-parts line name sender receiver is)

loops-replicas : (line : ℕ) (name : List ℕ) (kind : RawKind) (policy : Policy) (n : ℕ) (is : List ℕ)
    → flat_map loop_name (at_line line (map (replica name kind policy n) is)) ≡ []
loops-replicas line name kind policy n [] = refl
loops-replicas line name kind policy n (i ∷ is) = loops-replicas line name kind policy n is

loops-edges : (line : ℕ) (name : List ℕ) (is : List ℕ) → flat_map loop_name (at_line line (map (replica_edge name) is)) ≡ []
loops-edges line name [] = refl
loops-edges line name (i ∷ is) = loops-edges line name is

loops-parts : (line : ℕ) (name sender receiver : List ℕ) (is : List ℕ) → flat_map loop_name (at_line line (map (edge_to_replica name sender receiver) is)) ≡ []
loops-parts line name sender receiver [] = refl
loops-parts line name sender receiver (i ∷ is) = loops-parts line name sender receiver is

-- of two lists of declarations on a line
of-both : (name : Declared → List (List ℕ)) (line : ℕ) (ds es : List Declaration)
    → flat_map name (at_line line (ds ++ es)) ≡ flat_map name (at_line line ds) ++ flat_map name (at_line line es)
of-both name line [] es = refl
of-both name line (d ∷ ds) es =
    ap (λ xs. name (record { line = line; declaration = d }) ++ xs) (of-both name line ds es)
    ∙ sym (append_assoc (name (record { line = line; declaration = d })) (flat_map name (at_line line ds)) (flat_map name (at_line line es)))

nodes-split : (line : ℕ) (name : List ℕ) (kind : RawKind) (policy : Policy) (split : Option ℕ) (n : ℕ)
    → flat_map node_name (at_line line (split_node name kind policy split n)) ≡ map (part_name name) (range_with_len 0 n) ++ name ∷ []
nodes-split line name kind policy split n =
    of-both node_name line (map (replica name kind policy n) (range_with_len 0 n)) (joint name kind split ∷ map (replica_edge name) (range_with_len 0 n))
    ∙ ap (λ xs. xs ++ name ∷ flat_map node_name (at_line line (map (replica_edge name) (range_with_len 0 n)))) (nodes-replicas line name kind policy n (range_with_len 0 n))
    ∙ ap (λ xs. map (part_name name) (range_with_len 0 n) ++ name ∷ xs) (nodes-edges line name (range_with_len 0 n))

edges-split : (line : ℕ) (name : List ℕ) (kind : RawKind) (policy : Policy) (split : Option ℕ) (n : ℕ)
    → flat_map edge_name (at_line line (split_node name kind policy split n)) ≡ map (out_name name) (range_with_len 0 n)
edges-split line name kind policy split n =
    of-both edge_name line (map (replica name kind policy n) (range_with_len 0 n)) (joint name kind split ∷ map (replica_edge name) (range_with_len 0 n))
    ∙ ap (λ xs. xs ++ flat_map edge_name (at_line line (map (replica_edge name) (range_with_len 0 n)))) (edges-replicas line name kind policy n (range_with_len 0 n))
    ∙ edges-edges line name (range_with_len 0 n)

loops-split : (line : ℕ) (name : List ℕ) (kind : RawKind) (policy : Policy) (split : Option ℕ) (n : ℕ)
    → flat_map loop_name (at_line line (split_node name kind policy split n)) ≡ []
loops-split line name kind policy split n =
    of-both loop_name line (map (replica name kind policy n) (range_with_len 0 n)) (joint name kind split ∷ map (replica_edge name) (range_with_len 0 n))
    ∙ ap (λ xs. xs ++ flat_map loop_name (at_line line (map (replica_edge name) (range_with_len 0 n)))) (loops-replicas line name kind policy n (range_with_len 0 n))
    ∙ loops-edges line name (range_with_len 0 n)

-- ---- the groups of nodes

one-name : (name : List ℕ) → has_name name (name ∷ []) ≡ true
one-name name = or_left (bytes_eq name name) false ((bytes_eq-Decides name name).1 refl)

single-once : (name : List ℕ) → IsDistinct bytes_eq (name ∷ [])
unfolding IsDistinct
single-once name = (tt, tt)

none-once : IsDistinct bytes_eq []
unfolding IsDistinct
none-once = tt

longer : (name rest : List ℕ) (b : ℕ) → name ++ b ∷ rest ≡ name → ⊥
longer name rest b e = absurd (omega (arith, length-append name (b ∷ rest), ap length e))

parts-apart : (name : List ℕ) (is : List ℕ) → AllByRecursion (λ x. AllByRecursion (λ y. bytes_eq x y ≡ false) (name ∷ [])) (map (part_name name) is)
parts-apart name [] = tt
parts-apart name (i ∷ is) = ((apart-where (part_name name i) name (λ e. longer name (decimal i) 46 e), tt), parts-apart name is)

nodes-once : (name : List ℕ) (n : ℕ) → n ≤ 64 → IsDistinct bytes_eq (map (part_name name) (range_with_len 0 n) ++ name ∷ [])
nodes-once name n most =
    distinct-append (map (part_name name) (range_with_len 0 n)) (name ∷ []) (distinct-places (part_name name) (part-differs name) 0 n (omega arith)) (single-once name)
    (parts-apart name (range_with_len 0 n))

parts-keyed : (name : List ℕ) (is : List ℕ) → IsDotless name → AllByRecursion (λ x. has_name (before_dot x) (name ∷ []) ≡ true) (map (part_name name) is)
parts-keyed name [] k = tt
parts-keyed name (i ∷ is) k = (ap (λ x. has_name x (name ∷ [])) (before-behind name (decimal i) k) ∙ one-name name, parts-keyed name is k)

nodes-keyed : (name : List ℕ) (n : ℕ) → IsDotless name → AllByRecursion (λ x. has_name (before_dot x) (name ∷ []) ≡ true) (map (part_name name) (range_with_len 0 n) ++ name ∷ [])
nodes-keyed name n k =
    each-append (λ x. has_name (before_dot x) (name ∷ []) ≡ true) (map (part_name name) (range_with_len 0 n)) (name ∷ []) (parts-keyed name (range_with_len 0 n) k)
    (ap (λ x. has_name x (name ∷ [])) (before-plain name k) ∙ one-name name, tt)

-- the names of the nodes that these come to are distinct, and each has the name of the declaration before its dot
abbrev AreNodesOf : List ℕ → List (List ℕ) → Type 0
AreNodesOf name names = IsDistinct bytes_eq names × AllByRecursion (λ x. has_name (before_dot x) (name ∷ []) ≡ true) names

nodes-of : (line : ℕ) (name : List ℕ) (kind : RawKind) (policy : Policy) (split : Option ℕ) (part : Option KeyPart) (o : Option ℕ) → IfSome o (λ n. n ≤ 64) → IsDotless name
    → AreNodesOf name (flat_map node_name (at_line line (option_map_or (split_node name kind policy split) o (ANode name kind policy split part ∷ []))))
nodes-of line name kind policy split part None most k = (single-once name, (ap (λ x. has_name x (name ∷ [])) (before-plain name k) ∙ one-name name, tt))
nodes-of line name kind policy split part (Some n) most k = subst (AreNodesOf name) (sym (nodes-split line name kind policy split n)) (nodes-once name n most, nodes-keyed name n k)

no_nodes-of : (line : ℕ) (name sender receiver : List ℕ) (o : Option ℕ)
    → flat_map node_name (at_line line (option_map_or (split_edge name sender receiver) o (AnEdge name sender receiver ∷ []))) ≡ []
no_nodes-of line name sender receiver None = refl
no_nodes-of line name sender receiver (Some n) = nodes-parts line name sender receiver (range_with_len 0 n)

-- the names of the nodes that a declaration comes to
abbrev node_group : List Declared → Declared → List (List ℕ)
node_group all d = flat_map node_name (expanded_one all d)

group-empty : {A : Type 0} (names keys : A → List (List ℕ)) (key : List ℕ → List ℕ) (a : A) → names a ≡ [] → IsGroup names keys key a
group-empty names keys key a e = record {
  once = subst (IsDistinct bytes_eq) (sym e) none-once;
  keyed = subst (AllByRecursion (λ x. has_name (key x) (keys a) ≡ true)) (sym e) tt;
}

group-node : (all : List Declared) (line : ℕ) (d : Declaration) → has_names d ≡ true → IsGroup (node_group all) node_name before_dot (record { line = line; declaration = d })
group-node all line (ALoop name max parent) k = group-empty (node_group all) node_name before_dot (record { line = line; declaration = ALoop name max parent }) refl
group-node all line (ANode name kind policy split part) k =
    let dotless = dotless-name name (first_holds (is_name name) (option_map_or is_name (loop_of_kind kind) true) k) in
    let both = nodes-of line name kind policy split part (replicas_of_kind kind split part) (kind-most kind split part) dotless in
    record { once = both.0; keyed = both.1 }
group-node all line (AnEdge name sender receiver) k =
    group-empty (node_group all) node_name before_dot (record { line = line; declaration = AnEdge name sender receiver }) (no_nodes-of line name sender receiver (split_of all receiver))

-- ---- the groups of edges

edges-once : (name : ℕ → List ℕ) (n : ℕ) → n ≤ 64 → ((i j : ℕ) → i < j → j < 2 ^ 64 → name i ≡ name j → ⊥) → IsDistinct bytes_eq (map name (range_with_len 0 n))
edges-once name n most differs = distinct-places name differs 0 n (omega arith)

-- the key of what an edge, or a node, gives edges
abbrev edge_keys : Declared → List (List ℕ)
edge_keys d = keys_in d.declaration
  where
    keys_in : Declaration → List (List ℕ)
    keys_in (ALoop name max parent) = []
    keys_in (ANode name kind policy split part) = (1 ∷ name) ∷ []
    keys_in (AnEdge name sender receiver) = (0 ∷ name) ∷ []

-- the names of the edges that these come to are distinct, and have one key
abbrev AreEdgesOf : List ℕ → List (List ℕ) → Type 0
AreEdgesOf own names = IsDistinct bytes_eq names × AllByRecursion (λ x. has_name (edge_key x) (own ∷ []) ≡ true) names

keyed-by : (name : ℕ → List ℕ) (own : List ℕ) → ((i : ℕ) → i < 2 ^ 64 → edge_key (name i) ≡ own) → (a n : ℕ) → a + n ≤ 2 ^ 64
    → AllByRecursion (λ x. has_name (edge_key x) (own ∷ []) ≡ true) (map name (range_with_len a n))
keyed-by name own has a zero low = tt
keyed-by name own has a (suc n) low = (ap (λ x. has_name x (own ∷ [])) (has a (omega arith)) ∙ one-name own, keyed-by name own has (a + 1) n (omega arith))

out_edges-of : (line : ℕ) (name : List ℕ) (kind : RawKind) (policy : Policy) (split : Option ℕ) (part : Option KeyPart) (o : Option ℕ) → IfSome o (λ n. n ≤ 64) → IsDotless name
    → AreEdgesOf (1 ∷ name) (flat_map edge_name (at_line line (option_map_or (split_node name kind policy split) o (ANode name kind policy split part ∷ []))))
out_edges-of line name kind policy split part None most k = (none-once, tt)
out_edges-of line name kind policy split part (Some n) most k =
    subst (AreEdgesOf (1 ∷ name)) (sym (edges-split line name kind policy split n))
    (edges-once (out_name name) n most (out-differs name), keyed-by (out_name name) (1 ∷ name) (λ i small. key-out name i k) 0 n (omega arith))

part_edges-of : (line : ℕ) (name sender receiver : List ℕ) (o : Option ℕ) → IfSome o (λ n. n ≤ 64) → IsDotless name
    → AreEdgesOf (0 ∷ name) (flat_map edge_name (at_line line (option_map_or (split_edge name sender receiver) o (AnEdge name sender receiver ∷ []))))
part_edges-of line name sender receiver None most k = (single-once name, (ap (λ x. has_name x ((0 ∷ name) ∷ [])) (key-plain name k) ∙ one-name (0 ∷ name), tt))
part_edges-of line name sender receiver (Some n) most k =
    subst (AreEdgesOf (0 ∷ name)) (sym (edges-parts line name sender receiver (range_with_len 0 n)))
    (edges-once (part_name name) n most (part-differs name), keyed-by (part_name name) (0 ∷ name) (λ i small. key-part name i k small) 0 n (omega arith))

-- the names of the edges that a declaration comes to
abbrev edge_group : List Declared → Declared → List (List ℕ)
edge_group all d = flat_map edge_name (expanded_one all d)

group-edge : (all : List Declared) (line : ℕ) (d : Declaration) → has_names d ≡ true → IsGroup (edge_group all) edge_keys edge_key (record { line = line; declaration = d })
group-edge all line (ALoop name max parent) k = group-empty (edge_group all) edge_keys edge_key (record { line = line; declaration = ALoop name max parent }) refl
group-edge all line (ANode name kind policy split part) k =
    let dotless = dotless-name name (first_holds (is_name name) (option_map_or is_name (loop_of_kind kind) true) k) in
    let both = out_edges-of line name kind policy split part (replicas_of_kind kind split part) (kind-most kind split part) dotless in
    record { once = both.0; keyed = both.1 }
group-edge all line (AnEdge name sender receiver) k =
    let dotless = dotless-name name (first_holds (is_name name) (is_name sender) (first_holds (is_name name && is_name sender) (is_name receiver) k)) in
    let both = part_edges-of line name sender receiver (split_of all receiver) (split-most all receiver) dotless in
    record { once = both.0; keyed = both.1 }

-- the keys of distinct names are distinct
node-apart : (name : List ℕ) (raw : List Declared) → AllByRecursion (λ y. bytes_eq name y ≡ false) (node_names raw) → AllByRecursion (λ y. bytes_eq (1 ∷ name) y ≡ false) (flat_map edge_keys raw)
node-apart name [] a = tt
node-apart name (d ∷ raw) a = by (λ h. node-apart name raw h) d.line d.declaration a
  where
    by : (AllByRecursion (λ y. bytes_eq name y ≡ false) (node_names raw) → AllByRecursion (λ y. bytes_eq (1 ∷ name) y ≡ false) (flat_map edge_keys raw)) → (line : ℕ) (e : Declaration)
        → AllByRecursion (λ y. bytes_eq name y ≡ false) (node_name (record { line = line; declaration = e }) ++ node_names raw)
        → AllByRecursion (λ y. bytes_eq (1 ∷ name) y ≡ false) (edge_keys (record { line = line; declaration = e }) ++ flat_map edge_keys raw)
    by rest line (ALoop own max parent) h = rest h
    by rest line (ANode own kind policy split part) h = (h.0, rest h.1)
    by rest line (AnEdge own sender receiver) h = (refl, rest h)

edge-apart : (name : List ℕ) (raw : List Declared) → AllByRecursion (λ y. bytes_eq name y ≡ false) (edge_names raw) → AllByRecursion (λ y. bytes_eq (0 ∷ name) y ≡ false) (flat_map edge_keys raw)
edge-apart name [] a = tt
edge-apart name (d ∷ raw) a = by (λ h. edge-apart name raw h) d.line d.declaration a
  where
    by : (AllByRecursion (λ y. bytes_eq name y ≡ false) (edge_names raw) → AllByRecursion (λ y. bytes_eq (0 ∷ name) y ≡ false) (flat_map edge_keys raw)) → (line : ℕ) (e : Declaration)
        → AllByRecursion (λ y. bytes_eq name y ≡ false) (edge_name (record { line = line; declaration = e }) ++ edge_names raw)
        → AllByRecursion (λ y. bytes_eq (0 ∷ name) y ≡ false) (edge_keys (record { line = line; declaration = e }) ++ flat_map edge_keys raw)
    by rest line (ALoop own max parent) h = rest h
    by rest line (ANode own kind policy split part) h = (refl, rest h)
    by rest line (AnEdge own sender receiver) h = (h.0, rest h.1)

keys-once : (raw : List Declared) → IsDistinct bytes_eq (node_names raw) → IsDistinct bytes_eq (edge_names raw) → IsDistinct bytes_eq (flat_map edge_keys raw)
keys-once [] nodes edges = none-once
keys-once (d ∷ raw) nodes edges = by (λ n e. keys-once raw n e) d.line d.declaration nodes edges
  where
    by : (IsDistinct bytes_eq (node_names raw) → IsDistinct bytes_eq (edge_names raw) → IsDistinct bytes_eq (flat_map edge_keys raw)) → (line : ℕ) (e : Declaration)
        → IsDistinct bytes_eq (node_name (record { line = line; declaration = e }) ++ node_names raw)
        → IsDistinct bytes_eq (edge_name (record { line = line; declaration = e }) ++ edge_names raw)
        → IsDistinct bytes_eq (edge_keys (record { line = line; declaration = e }) ++ flat_map edge_keys raw)
    by rest line (ALoop own max parent) n e = rest n e
    by rest line (ANode own kind policy split part) n e =
        IsDistinct-cons bytes_eq (1 ∷ own) (flat_map edge_keys raw) (node-apart own raw (IsDistinct-head bytes_eq own (node_names raw) n))
        (rest (IsDistinct-tail bytes_eq own (node_names raw) n) e)
    by rest line (AnEdge own sender receiver) n e =
        IsDistinct-cons bytes_eq (0 ∷ own) (flat_map edge_keys raw) (edge-apart own raw (IsDistinct-head bytes_eq own (edge_names raw) e))
        (rest n (IsDistinct-tail bytes_eq own (edge_names raw) e))

-- ---- the names of the whole expansion

flat-flat : {A B C : Type 0} (f : B → List C) (g : A → List B) (xs : List A) → flat_map f (flat_map g xs) ≡ flat_map (λ x. flat_map f (g x)) xs
flat-flat f g [] = refl
flat-flat f g (x ∷ xs) = flat_map-append f (g x) (flat_map g xs) ∙ ap (λ ys. flat_map f (g x) ++ ys) (flat-flat f g xs)

-- where the names that are declared are names, and those of nodes distinct, so are those of the expansion's nodes
pub distinct-nodes : (raw : List Declared) → AllByRecursion (λ (d : Declared). has_names d.declaration ≡ true) raw → IsDistinct bytes_eq (node_names raw)
    → IsDistinct bytes_eq (node_names (expand raw))
distinct-nodes raw names once =
    subst (IsDistinct bytes_eq) (sym (flat-flat node_name (expanded_one raw) raw))
    (distinct-groups (node_group raw) node_name before_dot raw
    (each-weaker (λ (d : Declared). has_names d.declaration ≡ true) (IsGroup (node_group raw) node_name before_dot) raw (λ d k. group-node raw d.line d.declaration k) names) once)

-- and those of edges
pub distinct-edges : (raw : List Declared) → AllByRecursion (λ (d : Declared). has_names d.declaration ≡ true) raw → IsDistinct bytes_eq (node_names raw)
    → IsDistinct bytes_eq (edge_names raw) → IsDistinct bytes_eq (edge_names (expand raw))
distinct-edges raw names nodes edges =
    subst (IsDistinct bytes_eq) (sym (flat-flat edge_name (expanded_one raw) raw))
    (distinct-groups (edge_group raw) edge_keys edge_key raw
    (each-weaker (λ (d : Declared). has_names d.declaration ≡ true) (IsGroup (edge_group raw) edge_keys edge_key) raw (λ d k. group-edge raw d.line d.declaration k) names)
    (keys-once raw nodes edges))

loops-of : (all : List Declared) (line : ℕ) (d : Declaration) → flat_map loop_name (expanded_one all (record { line = line; declaration = d })) ≡ loop_name (record { line = line; declaration = d })
loops-of all line (ALoop name max parent) = refl
loops-of all line (ANode name kind policy split part) = by (replicas_of_kind kind split part)
  where
    by : (o : Option ℕ) → flat_map loop_name (at_line line (option_map_or (split_node name kind policy split) o (ANode name kind policy split part ∷ []))) ≡ []
    by None = refl
    by (Some n) = loops-split line name kind policy split n
loops-of all line (AnEdge name sender receiver) = by (split_of all receiver)
  where
    by : (o : Option ℕ) → flat_map loop_name (at_line line (option_map_or (split_edge name sender receiver) o (AnEdge name sender receiver ∷ []))) ≡ []
    by None = refl
    by (Some n) = loops-parts line name sender receiver (range_with_len 0 n)

loops-each : (all raw : List Declared) → flat_map (λ d. flat_map loop_name (expanded_one all d)) raw ≡ loop_names raw
loops-each all [] = refl
loops-each all (d ∷ raw) = ap (λ xs. xs ++ flat_map (λ e. flat_map loop_name (expanded_one all e)) raw) (loops-of all d.line d.declaration) ∙ ap (λ xs. loop_name d ++ xs) (loops-each all raw)

-- the loops of an expansion have the names of those that are declared
pub loops-expanded : (raw : List Declared) → loop_names (expand raw) ≡ loop_names raw
loops-expanded raw = flat-flat loop_name (expanded_one raw) raw ∙ loops-each raw raw

pub distinct-loops : (raw : List Declared) → IsDistinct bytes_eq (loop_names raw) → IsDistinct bytes_eq (loop_names (expand raw))
distinct-loops raw once = subst (IsDistinct bytes_eq) (sym (loops-expanded raw)) once
