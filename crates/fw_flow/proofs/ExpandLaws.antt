-- The expansion of declarations: where nothing is split it is the declarations themselves.
use Rattle.std.proofs.Common.{◌≡◌, ℕ, ◌+◌, ◌<◌, ◌≤◌, nat_le, ◌&&◌, Bool, true, false, cond, List, [], ◌∷◌, ◌++◌, length, map, take, drop, get_or, Option, Some, None, IfSome, refl, sym, ap, ◌∙◌, subst, arith}
use Rattle.std.proofs.lemmas.Grind.{flat_map-append}
use Rattle.std.proofs.lemmas.Bool.Decides.{nat_tests}
use Rattle.std.proofs.lemmas.List.{append-nil, append_assoc, drop_all, drop_more, map-append, take_more}
use Rattle.std.proofs.lemmas.List.FromFn.{map-range_with_len_more}
use Rattle.std.specs.List.{AllByRecursion, flat_map, range_with_len}
use Rattle.std.specs.Option.{option_map_or, option_or}
use Rattle.std.specs.Str.{bytes_eq}
use Rattle.fw_flow.specs.declared.raw.Declaration.TheVariants.{Loop as ALoop, Node as ANode, Edge as AnEdge}
use Rattle.fw_lemmas.proofs.Each.{each-weaker}
use Rattle.fw_flow.specs.Check.{HasSplitNumber, IsChecked}
use Rattle.fw_flow.specs.Dataflow.{Dataflow}
use Rattle.fw_flow.specs.Declaring.{Declaration, Declared}
use Rattle.fw_flow.specs.declared.key_part.KeyPart.{KeyPart}
use Rattle.fw_flow.specs.declared.kind.Policy.{Policy}
use Rattle.fw_flow.specs.KeyParts.{may_split}
use Rattle.fw_flow.specs.Kind.{RawKind}
use Rattle.fw_flow.specs.Expand.{at_line, expand, expanded, expanded_one, joint, replica, replica_edge, replicas_declared, replicas_for, replicas_of_kind, split_edge, split_node, split_of}
use Rattle.fw_flow.specs.Raw.{flow_of_declarations}
use Rattle.fw_flow.specs.WellFormed.{IsWellFormed}

-- a declaration, on the line of this number
abbrev pub on_line : ℕ → Declaration → Declared
on_line line d = record { line = line; declaration = d }

-- whether a declaration splits no node
abbrev pub is_whole : Declaration → Bool
is_whole (ALoop name max parent) = true
is_whole (ANode name kind policy None part) = true
is_whole (ANode name kind policy (Some n) part) = false
is_whole (AnEdge name sender receiver) = true

-- no node is split
abbrev pub AreWhole : List Declared → Type 0
AreWhole raw = AllByRecursion (λ (d : Declared). is_whole d.declaration ≡ true) raw

both-none : (b : Bool) → ◌≡◌ {A = Option ℕ} (cond b None None) None
both-none true = refl
both-none false = refl

declared-none : (name : List ℕ) (d : Declaration) → is_whole d ≡ true → replicas_declared name d ≡ None
declared-none name (ALoop own max parent) k = refl
declared-none name (ANode own kind policy None part) k = both-none (bytes_eq name own)
declared-none name (ANode own kind policy (Some n) part) k = absurd (cc)
declared-none name (AnEdge own sender receiver) k = refl

split_of-none : (raw : List Declared) (name : List ℕ) → AreWhole raw → split_of raw name ≡ None
split_of-none [] name k = refl
split_of-none (d ∷ raw) name k = ap (λ o. option_or o (split_of raw name)) (declared-none name d.declaration k.0) ∙ split_of-none raw name k.1

expanded-none : (all : List Declared) → ((name : List ℕ) → split_of all name ≡ None) → (d : Declaration) → is_whole d ≡ true → expanded all d ≡ d ∷ []
expanded-none all none (ALoop name max parent) k = refl
expanded-none all none (ANode name kind policy None part) k = refl
expanded-none all none (ANode name kind policy (Some n) part) k = absurd (cc)
expanded-none all none (AnEdge name sender receiver) k =
    ap (λ o. option_map_or (split_edge name sender receiver) o (AnEdge name sender receiver ∷ [])) (none receiver)

each-none : (all raw : List Declared) → ((name : List ℕ) → split_of all name ≡ None) → AreWhole raw → flat_map (expanded_one all) raw ≡ raw
each-none all [] none k = refl
each-none all (d ∷ raw) none k =
    ap (λ ds. at_line d.line ds ++ flat_map (expanded_one all) raw) (expanded-none all none d.declaration k.0) ∙ ap (λ ds. d ∷ ds) (each-none all raw none k.1)

-- where nothing is split, the expansion is the declarations themselves
pub expand-none : (raw : List Declared) → AreWhole raw → expand raw ≡ raw
expand-none raw k = each-none raw raw (λ name. split_of-none raw name k) k

numbers-none : (raw : List Declared) → AreWhole raw → AllByRecursion (λ (d : Declared). HasSplitNumber d.declaration) raw
numbers-none raw k = each-weaker (λ (d : Declared). is_whole d.declaration ≡ true) (λ (d : Declared). HasSplitNumber d.declaration) raw (λ d h. by d.declaration h) k
  where
    by : (d : Declaration) → is_whole d ≡ true → HasSplitNumber d
    by (ALoop name max parent) h = tt
    by (ANode name kind policy None part) h = tt
    by (ANode name kind policy (Some n) part) h = absurd (cc)
    by (AnEdge name sender receiver) h = tt

-- so, where these are a well-formed flow, it is that of the expansion
pub checked-whole : (raw : List Declared) (flow : Dataflow) → AreWhole raw → IsWellFormed flow → flow_of_declarations raw ≡ flow → IsChecked (expand raw) flow
checked-whole raw flow whole wf same =
    let itself : raw ≡ expand raw = sym (expand-none raw whole) in
    subst (λ ds. IsChecked ds flow) itself (record { well_formed = subst IsWellFormed (sym same) wf; split_numbers = numbers-none raw whole; value = sym same })

-- with one declaration more, the expansion has what it comes to
pub expanded-more : (all raw : List Declared) (i : ℕ) (d : Declared) (so_far more : List Declared) → i < length raw → d ≡ get_or raw i d
    → so_far ≡ flat_map (expanded_one all) (take i raw) → more ≡ so_far ++ expanded_one all d → more ≡ flat_map (expanded_one all) (take (i + 1) raw)
expanded-more all raw i d so_far more lt is before e =
    e ∙ ap (λ ds. ds ++ expanded_one all d) before ∙ sym (ap (flat_map (expanded_one all)) (take_more raw i d lt ∙ ap (λ (x : Declared). take i raw ++ x ∷ []) (sym is))
    ∙ flat_map-append (expanded_one all) (take i raw) (d ∷ []) ∙ ap (λ ds. flat_map (expanded_one all) (take i raw) ++ ds) (append-nil (expanded_one all d)))

-- ---- what the code makes of one declaration

-- one declaration more on a line
pub made_more : (line : ℕ) (make : ℕ → Declaration) (start all more : List Declared) (place : ℕ) (d : Declared) → all ≡ start ++ at_line line (map make (range_with_len 0 place))
    → more ≡ all ++ d ∷ [] → d ≡ record { line = line; declaration = make place } → more ≡ start ++ at_line line (map make (range_with_len 0 (place + 1)))
made_more line make start all more place d so_far e is =
    let added : at_line line (map make (range_with_len 0 (place + 1))) ≡ at_line line (map make (range_with_len 0 place)) ++ record { line = line; declaration = make place } ∷ [] =
    ap (at_line line) (map-range_with_len_more make 0 place place (omega arith)) ∙ map-append (λ (x : Declaration). on_line line x) (map make (range_with_len 0 place)) (make place ∷ []) in
    e ∙ ap (λ ds. ds ++ d ∷ []) so_far ∙ append_assoc start (at_line line (map make (range_with_len 0 place))) (d ∷ [])
    ∙ ap (λ (x : Declared). start ++ (at_line line (map make (range_with_len 0 place)) ++ x ∷ [])) is ∙ ap (λ ds. start ++ ds) (sym added)

-- the replicas, where they are joined, and the edges to there, one after another
pub node_made : (line : ℕ) (name : List ℕ) (kind : RawKind) (policy : Policy) (split : Option ℕ) (n : ℕ) (start first second : List Declared) (d : Declared)
    → first ≡ start ++ at_line line (map (replica name kind policy n) (range_with_len 0 n)) → second ≡ first ++ d ∷ [] → d ≡ record { line = line; declaration = joint name kind split }
    → second ++ at_line line (map (replica_edge name) (range_with_len 0 n)) ≡ start ++ at_line line (split_node name kind policy split n)
node_made line name kind policy split n start first second d a b is =
    let replicas = map (replica name kind policy n) (range_with_len 0 n) in
    let edges = map (replica_edge name) (range_with_len 0 n) in
    ap (λ ds. ds ++ at_line line edges) (b ∙ ap (λ ds. ds ++ d ∷ []) a) ∙ append_assoc (start ++ at_line line replicas) (d ∷ []) (at_line line edges)
    ∙ append_assoc start (at_line line replicas) (d ∷ at_line line edges)
    ∙ ap (λ (x : Declared). start ++ (at_line line replicas ++ x ∷ at_line line edges)) is
    ∙ ap (λ ds. start ++ ds) (sym (map-append (λ (x : Declaration). on_line line x) replicas (joint name kind split ∷ edges)))

-- a node that is split comes to that; one that is not, an edge to such a one, and a loop to themselves
pub node-split : (raw : List Declared) (one : Declared) (name : List ℕ) (kind : RawKind) (policy : Policy) (split : Option ℕ) (part : Option KeyPart) (n : ℕ)
    → one.declaration ≡ ANode name kind policy split part → Some n ≡ replicas_of_kind kind split part → expanded_one raw one ≡ at_line one.line (split_node name kind policy split n)
node-split raw one name kind policy split part n is many =
    ap (λ d. at_line one.line (expanded raw d)) is
    ∙ ap (λ o. at_line one.line (option_map_or (split_node name kind policy split) o (ANode name kind policy split part ∷ []))) (sym many)

pub node-whole : (raw : List Declared) (one : Declared) (name : List ℕ) (kind : RawKind) (policy : Policy) (split : Option ℕ) (part : Option KeyPart)
    → one.declaration ≡ ANode name kind policy split part → None ≡ replicas_of_kind kind split part → expanded_one raw one ≡ one ∷ []
node-whole raw one name kind policy split part is none =
    ap (λ d. at_line one.line (expanded raw d)) is
    ∙ ap (λ o. at_line one.line (option_map_or (split_node name kind policy split) o (ANode name kind policy split part ∷ []))) (sym none)
    ∙ ap (λ (d : Declaration). on_line one.line d ∷ []) (sym is)

pub edge-split : (raw : List Declared) (one : Declared) (name sender receiver : List ℕ) (n : ℕ)
    → one.declaration ≡ AnEdge name sender receiver → Some n ≡ split_of raw receiver → expanded_one raw one ≡ at_line one.line (split_edge name sender receiver n)
edge-split raw one name sender receiver n is many =
    ap (λ d. at_line one.line (expanded raw d)) is
    ∙ ap (λ o. at_line one.line (option_map_or (split_edge name sender receiver) o (AnEdge name sender receiver ∷ []))) (sym many)

pub edge-whole : (raw : List Declared) (one : Declared) (name sender receiver : List ℕ)
    → one.declaration ≡ AnEdge name sender receiver → None ≡ split_of raw receiver → expanded_one raw one ≡ one ∷ []
edge-whole raw one name sender receiver is none =
    ap (λ d. at_line one.line (expanded raw d)) is
    ∙ ap (λ o. at_line one.line (option_map_or (split_edge name sender receiver) o (AnEdge name sender receiver ∷ []))) (sym none)
    ∙ ap (λ (d : Declaration). on_line one.line d ∷ []) (sym is)

pub loop-itself : (raw : List Declared) (one : Declared) (name : List ℕ) (max : ℕ) (parent : Option (List ℕ)) → one.declaration ≡ ALoop name max parent → expanded_one raw one ≡ one ∷ []
loop-itself raw one name max parent is = ap (λ d. at_line one.line (expanded raw d)) is ∙ ap (λ (d : Declaration). on_line one.line d ∷ []) (sym is)

-- ---- how the code looks for the node that is split

split-step : (raw : List Declared) (name : List ℕ) (i : ℕ) (one : Declared) → i < length raw → one ≡ get_or raw i one
    → split_of (drop i raw) name ≡ option_or (replicas_declared name one.declaration) (split_of (drop (i + 1) raw) name)
split-step raw name i one lt is = ap (λ ds. split_of ds name) (drop_more raw i one lt ∙ ap (λ (x : Declared). x ∷ drop (i + 1) raw) (sym is))

pub split_found : (raw : List Declared) (name : List ℕ) (i n : ℕ) (one : Declared) → split_of raw name ≡ split_of (drop i raw) name → i < length raw → one ≡ get_or raw i one
    → Some n ≡ replicas_declared name one.declaration → Some n ≡ split_of raw name
split_found raw name i n one so_far lt is found =
    sym (so_far ∙ split-step raw name i one lt is ∙ ap (λ o. option_or o (split_of (drop (i + 1) raw) name)) (sym found))

pub split_missed : (raw : List Declared) (name : List ℕ) (i : ℕ) (one : Declared) → split_of raw name ≡ split_of (drop i raw) name → i < length raw → one ≡ get_or raw i one
    → None ≡ replicas_declared name one.declaration → split_of raw name ≡ split_of (drop (i + 1) raw) name
split_missed raw name i one so_far lt is none = so_far ∙ split-step raw name i one lt is ∙ ap (λ o. option_or o (split_of (drop (i + 1) raw) name)) (sym none)

pub split_past : (raw : List Declared) (name : List ℕ) (i : ℕ) → split_of raw name ≡ split_of (drop i raw) name → length raw ≤ i → None ≡ split_of raw name
split_past raw name i so_far past = sym (so_far ∙ ap (λ ds. split_of ds name) (drop_all i raw past))

-- ---- there is one replica at least

replicas-some : (n : ℕ) → 1 ≤ replicas_for n
replicas-some n = by (nat_le 2 n && nat_le n 64) refl
  where
    by : (t : Bool) → (nat_le 2 n && nat_le n 64) ≡ t → 1 ≤ cond t n 2
    by true e = grind (arith, nat_tests, e)
    by false e = omega arith

kind-some : (kind : RawKind) (split : Option ℕ) (part : Option KeyPart) → IfSome (replicas_of_kind kind split part) (λ n. 1 ≤ n)
kind-some kind None part = tt
kind-some kind (Some n) (Some part) = tt
kind-some kind (Some n) None = by (may_split kind)
  where
    by : (t : Bool) → IfSome (cond t (Some (replicas_for n)) None) (λ m. 1 ≤ m)
    by true = replicas-some n
    by false = tt

pub replicas_there : (kind : RawKind) (split : Option ℕ) (part : Option KeyPart) (n : ℕ) → Some n ≡ replicas_of_kind kind split part → 1 ≤ n
replicas_there kind split part n many = subst (λ o. IfSome o (λ m. 1 ≤ m)) (sym many) (kind-some kind split part)
