-- The rules of `Flow::check` against well-formedness: declarations that break one are not well formed, and those that break none are.
use Rattle.std.proofs.Common.{◌≡◌, ◌⊎◌, ◌↔◌, inl, inr, ℕ, zero, suc, ◌+◌, ◌<◌, ◌≤◌, Bool, true, false, not, ◌||◌, cond, List, [], ◌∷◌, length, map, take, Option, Some, None, refl, sym, ap, ◌∙◌, subst, arith, slice_get, IfSome}
use Rattle.std.proofs.lemmas.Bool.{and_from, and_parts, false≢true, cases_lt}
use Rattle.std.proofs.lemmas.List.{length-map}
use Rattle.std.proofs.lemmas.Option.{same_Some, slice_get_within, get_or_from_slice_get}
use Rattle.std.specs.List.{AllByRecursion, flat_map}
use Rattle.std.specs.Option.{option_map_or}
use Rattle.std.specs.Prelude.{option_map}
use Rattle.fw_lines.specs.declared.refusal.Code.{Code}
use Rattle.fw_lines.specs.declared.refusal.Code.TheVariants.{F3, F4, F5, F6, F7, F8, F9, F12}
use Rattle.fw_lines.specs.declared.refusal.Refusal.{Refusal}
use Rattle.fw_flow.specs.declared.kind.Policy.{Policy}
use Rattle.fw_flow.specs.declared.node.Loop.{Loop}
use Rattle.fw_flow.specs.declared.node.Node.{Node}
use Rattle.fw_flow.specs.declared.node.Edge.{Edge}
use Rattle.fw_flow.specs.Declaring.{Declaration}
use Rattle.fw_flow.specs.declared.raw.Declaration.TheVariants.{Loop as ALoop, Node as ANode, Edge as AnEdge}
use Rattle.fw_flow.specs.Declaring.{Declared}
use Rattle.fw_flow.specs.Kind.{RawKind, loop_of_kind}
use Rattle.fw_flow.specs.Check.{are_names_declared, NamesTheDeclared, HasItsDegrees, JoinsDomains, HasAllowedPolicy, IsWithinLimitsAfter, StaysWithinLimits, all_lines, loop_lines, node_lines, edge_lines, HoldsBelow, IsFirstBreak, KeepsRule, IsBroken, rules, IsFirstBrokenOf, IsFirstBroken, IsChecked, HasSplitNumber}
use Rattle.fw_flow.specs.declared.key_part.KeyPart.{KeyPart}
use Rattle.fw_flow.specs.Dataflow.{Dataflow, idle_node, kind_of, sender, receiver, max_of, declared_parent}
use Rattle.std.specs.Str.{bytes_eq}
use Rattle.fw_lemmas.proofs.Numbers.{below_step}
use Rattle.fw_flow.specs.Names.{has_name}
use Rattle.fw_flow.specs.Raw.{names_of, loop_name, node_name, edge_name, loop_names, node_names, edge_names, place_or_end, resolved_kind, loop_in, node_in, edge_in, flow_of_declarations}
use Rattle.fw_flow.specs.WellFormed.{IsWellFormed, IsWithinLimits, IsLoopDeclared, IsParentDeclared, HasShortChain, IsGroupSize}
use Rattle.fw_flow.proofs.KindLaws.{loop_of_kind-map, IsGroupSize-map}
use Rattle.fw_flow.proofs.Givers.{GivesOne, giver_of, slice_get-given, length-given}

-- ---- what a declaration gives

loop_part : (loops : List (List ℕ)) (line : ℕ) (d : Declaration) → (loop_in loops (record { line = line; declaration = d }) ≡ []) ⊎ ((a : Loop) × (loop_in loops (record { line = line; declaration = d }) ≡ a ∷ []))
loop_part loops line (ALoop name max parent) = inr (record { name = name; max = max; parent = option_map (place_or_end loops) parent }, refl)
loop_part loops line (ANode name kind policy split part) = inl refl
loop_part loops line (AnEdge name s r) = inl refl

pub GivesOne-loop_in : (loops : List (List ℕ)) → GivesOne (loop_in loops)
GivesOne-loop_in loops d = loop_part loops d.line d.declaration

node_part : (loops : List (List ℕ)) (line : ℕ) (d : Declaration) → (node_in loops (record { line = line; declaration = d }) ≡ []) ⊎ ((a : Node) × (node_in loops (record { line = line; declaration = d }) ≡ a ∷ []))
node_part loops line (ALoop name max parent) = inl refl
node_part loops line (ANode name kind policy split part) = inr (record { name = name; kind = resolved_kind loops kind; policy = policy; part = part }, refl)
node_part loops line (AnEdge name s r) = inl refl

pub GivesOne-node_in : (loops : List (List ℕ)) → GivesOne (node_in loops)
GivesOne-node_in loops d = node_part loops d.line d.declaration

edge_part : (nodes : List (List ℕ)) (line : ℕ) (d : Declaration) → (edge_in nodes (record { line = line; declaration = d }) ≡ []) ⊎ ((a : Edge) × (edge_in nodes (record { line = line; declaration = d }) ≡ a ∷ []))
edge_part nodes line (ALoop name max parent) = inl refl
edge_part nodes line (ANode name kind policy split part) = inl refl
edge_part nodes line (AnEdge name s r) = inr (record { name = name; sender = place_or_end nodes s; receiver = place_or_end nodes r }, refl)

pub GivesOne-edge_in : (nodes : List (List ℕ)) → GivesOne (edge_in nodes)
GivesOne-edge_in nodes d = edge_part nodes d.line d.declaration

-- ---- as many names and lines as parts

loop_name_count : (loops : List (List ℕ)) (line : ℕ) (d : Declaration) → length (loop_in loops (record { line = line; declaration = d })) ≡ length (loop_name (record { line = line; declaration = d }))
loop_name_count loops line (ALoop name max parent) = refl
loop_name_count loops line (ANode name kind policy split part) = refl
loop_name_count loops line (AnEdge name s r) = refl

node_name_count : (loops : List (List ℕ)) (line : ℕ) (d : Declaration) → length (node_in loops (record { line = line; declaration = d })) ≡ length (node_name (record { line = line; declaration = d }))
node_name_count loops line (ALoop name max parent) = refl
node_name_count loops line (ANode name kind policy split part) = refl
node_name_count loops line (AnEdge name s r) = refl

edge_name_count : (nodes : List (List ℕ)) (line : ℕ) (d : Declaration) → length (edge_in nodes (record { line = line; declaration = d })) ≡ length (edge_name (record { line = line; declaration = d }))
edge_name_count nodes line (ALoop name max parent) = refl
edge_name_count nodes line (ANode name kind policy split part) = refl
edge_name_count nodes line (AnEdge name s r) = refl

pub length-loops : (loops : List (List ℕ)) (raw : List Declared) → length (flat_map (loop_in loops) raw) ≡ length (loop_names raw)
length-loops loops raw = length-given (loop_in loops) loop_name (λ d. loop_name_count loops d.line d.declaration) raw

pub length-nodes : (loops : List (List ℕ)) (raw : List Declared) → length (flat_map (node_in loops) raw) ≡ length (node_names raw)
length-nodes loops raw = length-given (node_in loops) node_name (λ d. node_name_count loops d.line d.declaration) raw

pub length-edges : (nodes : List (List ℕ)) (raw : List Declared) → length (flat_map (edge_in nodes) raw) ≡ length (edge_names raw)
length-edges nodes raw = length-given (edge_in nodes) edge_name (λ d. edge_name_count nodes d.line d.declaration) raw

pub length-loop_lines : (raw : List Declared) → length (loop_lines raw) ≡ length (flow_of_declarations raw).loops
length-loop_lines raw =
    length-given (λ (d : Declared). map (λ name. d.line) (loop_name d)) loop_name (λ d. length-map (loop_name d) (λ name. d.line)) raw
    ∙ sym (length-loops (loop_names raw) raw)

pub length-node_lines : (raw : List Declared) → length (node_lines raw) ≡ length (flow_of_declarations raw).nodes
length-node_lines raw =
    length-given (λ (d : Declared). map (λ name. d.line) (node_name d)) node_name (λ d. length-map (node_name d) (λ name. d.line)) raw
    ∙ sym (length-nodes (loop_names raw) raw)

pub length-edge_lines : (raw : List Declared) → length (edge_lines raw) ≡ length (flow_of_declarations raw).edges
length-edge_lines raw =
    length-given (λ (d : Declared). map (λ name. d.line) (edge_name d)) edge_name (λ d. length-map (edge_name d) (λ name. d.line)) raw
    ∙ sym (length-edges (node_names raw) raw)

pub length-all_lines : (raw : List Declared) → length (all_lines raw) ≡ length raw
length-all_lines raw = length-map raw (λ (d : Declared). d.line)

-- ---- names and places

has_step : (b : Bool) (n m : ℕ) (rest : Bool) → cond (not b) (1 + n) 0 < suc m → (n < m → rest ≡ true) → (b || rest) ≡ true
has_step true n m rest lt h = refl
has_step false n m rest lt h = h (omega (arith, lt))

has_name-from_below : (names : List (List ℕ)) (name : List ℕ) → place_or_end names name < length names → has_name name names ≡ true
has_name-from_below [] name lt = absurd (omega arith)
has_name-from_below (x ∷ names) name lt =
    has_step (bytes_eq name x) (place_or_end names name) (length names) (has_name name names) lt (λ h. has_name-from_below names name h)

pub place-below : (names : List (List ℕ)) (name : List ℕ) → has_name name names ≡ true → place_or_end names name < length names
place-below [] name h = absurd (false≢true h)
place-below (x ∷ names) name h =
    below_step (bytes_eq name x) (place_or_end names name) (length names) (has_name name names) h (λ rest. place-below names name rest)

named : (flow : Dataflow) (loops : List (List ℕ)) (l : List ℕ) → length flow.loops ≡ length loops → (place_or_end loops l < length flow.loops) ↔ (has_name l loops ≡ true)
named flow loops l e = (λ h. has_name-from_below loops l (omega (arith, e, h)), λ h. omega (arith, e, place-below loops l h))

-- a loop by its place is declared exactly where its name is
place_declared : (flow : Dataflow) (loops : List (List ℕ)) (name : Option (List ℕ)) → length flow.loops ≡ length loops
    → IfSome (option_map (place_or_end loops) name) (λ l. l < length flow.loops) ↔ (option_map_or (λ l. has_name l loops) name true ≡ true)
place_declared flow loops None e = (λ h. refl, λ h. tt)
place_declared flow loops (Some l) e = named flow loops l e

-- so is that of a kind
loop_declared : (flow : Dataflow) (loops : List (List ℕ)) (kind : RawKind) → length flow.loops ≡ length loops
    → IsLoopDeclared flow (resolved_kind loops kind) ↔ (option_map_or (λ l. has_name l loops) (loop_of_kind kind) true ≡ true)
loop_declared flow loops kind e =
    subst (λ o. IfSome o (λ l. l < length flow.loops) ↔ (option_map_or (λ l. has_name l loops) (loop_of_kind kind) true ≡ true))
    (sym (loop_of_kind-map (place_or_end loops) kind)) (place_declared flow loops (loop_of_kind kind) e)

-- ---- what stands at a place of the flow

kind_of-given : (flow : Dataflow) (p : ℕ) (node : Node) → slice_get flow.nodes p ≡ Some node → kind_of flow p ≡ node.kind
unfolding kind_of
kind_of-given flow p node there = ap (λ (n : Node). n.kind) (get_or_from_slice_get flow.nodes p node idle_node there)

sender-given : (flow : Dataflow) (e : ℕ) (edge : Edge) → slice_get flow.edges e ≡ Some edge → sender flow e ≡ edge.sender
unfolding sender
sender-given flow e edge there =
    ap (λ (x : Edge). x.sender) (get_or_from_slice_get flow.edges e edge (record { name = []; sender = length flow.nodes; receiver = length flow.nodes }) there)

receiver-given : (flow : Dataflow) (e : ℕ) (edge : Edge) → slice_get flow.edges e ≡ Some edge → receiver flow e ≡ edge.receiver
unfolding receiver
receiver-given flow e edge there =
    ap (λ (x : Edge). x.receiver) (get_or_from_slice_get flow.edges e edge (record { name = []; sender = length flow.nodes; receiver = length flow.nodes }) there)

max_of-given : (flow : Dataflow) (l : ℕ) (a_loop : Loop) → slice_get flow.loops l ≡ Some a_loop → max_of flow l ≡ a_loop.max
unfolding max_of
max_of-given flow l a_loop there =
    ap (λ (x : Loop). x.max) (get_or_from_slice_get flow.loops l a_loop (record { name = []; max = 0; parent = None }) there)

parent-given : (flow : Dataflow) (l : ℕ) (a_loop : Loop) → slice_get flow.loops l ≡ Some a_loop → declared_parent flow l ≡ a_loop.parent
unfolding declared_parent
parent-given flow l a_loop there =
    ap (λ (x : Loop). x.parent) (get_or_from_slice_get flow.loops l a_loop (record { name = []; max = 0; parent = None }) there)

-- a declared node, at its place of the flow
record NodePlace (raw : List Declared) (name : List ℕ) (kind : RawKind) (before : List Declared) : Type 0 where
  below : length (node_names before) < length (flow_of_declarations raw).nodes
  is_kind : kind_of (flow_of_declarations raw) (length (node_names before)) ≡ resolved_kind (loop_names raw) kind

node_place : (raw : List Declared) (i line : ℕ) (name : List ℕ) (kind : RawKind) (policy : Policy) (split : Option ℕ) (part : Option KeyPart)
    → slice_get raw i ≡ Some (record { line = line; declaration = ANode name kind policy split part }) → NodePlace raw name kind (take i raw)
node_place raw i line name kind policy split part there =
    let loops = loop_names raw in
    let node : Node = record { name = name; kind = resolved_kind loops kind; policy = policy; part = part } in
    let count = length-nodes loops (take i raw) in
    let given = subst (λ n. slice_get (flat_map (node_in loops) raw) n ≡ Some node) count
    (slice_get-given (node_in loops) (GivesOne-node_in loops) raw i (record { line = line; declaration = ANode name kind policy split part }) node there refl) in
    record {
      below = slice_get_within (flow_of_declarations raw).nodes (length (node_names (take i raw))) node given;
      is_kind = kind_of-given (flow_of_declarations raw) (length (node_names (take i raw))) node given;
    }

-- a declared edge, at its place of the flow
record EdgePlace (raw : List Declared) (s r : List ℕ) (before : List Declared) : Type 0 where
  below : length (edge_names before) < length (flow_of_declarations raw).edges
  is_sender : sender (flow_of_declarations raw) (length (edge_names before)) ≡ place_or_end (node_names raw) s
  is_receiver : receiver (flow_of_declarations raw) (length (edge_names before)) ≡ place_or_end (node_names raw) r

edge_place : (raw : List Declared) (i line : ℕ) (name s r : List ℕ)
    → slice_get raw i ≡ Some (record { line = line; declaration = AnEdge name s r }) → EdgePlace raw s r (take i raw)
edge_place raw i line name s r there =
    let nodes = node_names raw in
    let edge : Edge = record { name = name; sender = place_or_end nodes s; receiver = place_or_end nodes r } in
    let count = length-edges nodes (take i raw) in
    let given = subst (λ n. slice_get (flat_map (edge_in nodes) raw) n ≡ Some edge) count
    (slice_get-given (edge_in nodes) (GivesOne-edge_in nodes) raw i (record { line = line; declaration = AnEdge name s r }) edge there refl) in
    record {
      below = slice_get_within (flow_of_declarations raw).edges (length (edge_names (take i raw))) edge given;
      is_sender = sender-given (flow_of_declarations raw) (length (edge_names (take i raw))) edge given;
      is_receiver = receiver-given (flow_of_declarations raw) (length (edge_names (take i raw))) edge given;
    }

-- a declared loop, at its place of the flow
record LoopPlace (raw : List Declared) (max : ℕ) (parent : Option (List ℕ)) (before : List Declared) : Type 0 where
  below : length (loop_names before) < length (flow_of_declarations raw).loops
  is_max : max_of (flow_of_declarations raw) (length (loop_names before)) ≡ max
  is_parent : declared_parent (flow_of_declarations raw) (length (loop_names before)) ≡ option_map (place_or_end (loop_names raw)) parent

loop_place : (raw : List Declared) (i line : ℕ) (name : List ℕ) (max : ℕ) (parent : Option (List ℕ))
    → slice_get raw i ≡ Some (record { line = line; declaration = ALoop name max parent }) → LoopPlace raw max parent (take i raw)
loop_place raw i line name max parent there =
    let loops = loop_names raw in
    let a_loop : Loop = record { name = name; max = max; parent = option_map (place_or_end loops) parent } in
    let count = length-loops loops (take i raw) in
    let given = subst (λ n. slice_get (flat_map (loop_in loops) raw) n ≡ Some a_loop) count
    (slice_get-given (loop_in loops) (GivesOne-loop_in loops) raw i (record { line = line; declaration = ALoop name max parent }) a_loop there refl) in
    record {
      below = slice_get_within (flow_of_declarations raw).loops (length (loop_names (take i raw))) a_loop given;
      is_max = max_of-given (flow_of_declarations raw) (length (loop_names (take i raw))) a_loop given;
      is_parent = parent-given (flow_of_declarations raw) (length (loop_names (take i raw))) a_loop given;
    }

-- ---- a well-formed flow breaks no rule

names_declared : (raw : List Declared) → IsWellFormed (flow_of_declarations raw) → (i line : ℕ) (d : Declaration)
    → slice_get raw i ≡ Some (record { line = line; declaration = d }) → are_names_declared (names_of raw) d ≡ true
names_declared raw wf i line (ALoop name max parent) there =
    let at = loop_place raw i line name max parent there in
    (place_declared (flow_of_declarations raw) (loop_names raw) parent (length-loops (loop_names raw) raw)).0
    (subst (λ o. IfSome o (λ k. k < length (flow_of_declarations raw).loops)) at.is_parent (wf.parents_declared (length (loop_names (take i raw))) at.below))
names_declared raw wf i line (ANode name kind policy split part) there =
    let at = node_place raw i line name kind policy split part there in
    (loop_declared (flow_of_declarations raw) (loop_names raw) kind (length-loops (loop_names raw) raw)).0
    (subst (IsLoopDeclared (flow_of_declarations raw)) at.is_kind (wf.loops_declared (length (node_names (take i raw))) at.below))
names_declared raw wf i line (AnEdge name s r) there =
    let at = edge_place raw i line name s r there in
    let e = length (edge_names (take i raw)) in
    let count = length-nodes (loop_names raw) raw in
    let from = wf.senders_declared e at.below in
    let to = wf.receivers_declared e at.below in
    and_from (has_name s (node_names raw)) (has_name r (node_names raw))
    (has_name-from_below (node_names raw) s (omega (arith, count, from, at.is_sender)))
    (has_name-from_below (node_names raw) r (omega (arith, count, to, at.is_receiver)))

within_limits : (raw : List Declared) → IsWithinLimits (flow_of_declarations raw) → (i line : ℕ) (d : Declaration)
    → slice_get raw i ≡ Some (record { line = line; declaration = d }) → HasSplitNumber d → IsWithinLimitsAfter (take i raw) d
within_limits raw limits i line (ALoop name max parent) there number =
    let at = loop_place raw i line name max parent there in
    let bounds = limits.counters (length (loop_names (take i raw))) at.below in
    (omega (arith, limits.loops, at.below), omega (arith, bounds.0, at.is_max), omega (arith, bounds.1, at.is_max))
within_limits raw limits i line (ANode name kind policy split part) there number =
    let at = node_place raw i line name kind policy split part there in
    (omega (arith, limits.nodes, at.below), (IsGroupSize-map (place_or_end (loop_names raw)) kind).0 (subst IsGroupSize at.is_kind (limits.groups (length (node_names (take i raw))) at.below)), number)
within_limits raw limits i line (AnEdge name s r) there number =
    let at = edge_place raw i line name s r there in
    omega (arith, limits.edges, at.below)

-- ---- what the rules say of the part that a declaration gives

node_named : (raw : List Declared) (line : ℕ) (d : Declaration) (part : Node) → node_in (loop_names raw) (record { line = line; declaration = d }) ≡ part ∷ []
    → are_names_declared (names_of raw) d ≡ true → IsLoopDeclared (flow_of_declarations raw) part.kind
node_named raw line (ANode name kind policy split keys) part gives h =
    let same : resolved_kind (loop_names raw) kind ≡ part.kind = cc in
    subst (IsLoopDeclared (flow_of_declarations raw)) same ((loop_declared (flow_of_declarations raw) (loop_names raw) kind (length-loops (loop_names raw) raw)).1 h)
node_named raw line d part gives h = absurd (cc)

loop_named_in : (raw : List Declared) (line : ℕ) (d : Declaration) (part : Loop) → loop_in (loop_names raw) (record { line = line; declaration = d }) ≡ part ∷ []
    → are_names_declared (names_of raw) d ≡ true → IfSome part.parent (λ k. k < length (flow_of_declarations raw).loops)
loop_named_in raw line (ALoop name max parent) part gives h =
    let same : option_map (place_or_end (loop_names raw)) parent ≡ part.parent = cc in
    subst (λ o. IfSome o (λ k. k < length (flow_of_declarations raw).loops)) same ((place_declared (flow_of_declarations raw) (loop_names raw) parent (length-loops (loop_names raw) raw)).1 h)
loop_named_in raw line d part gives h = absurd (cc)

edge_named : (raw : List Declared) (line : ℕ) (d : Declaration) (part : Edge) → edge_in (node_names raw) (record { line = line; declaration = d }) ≡ part ∷ []
    → are_names_declared (names_of raw) d ≡ true → (part.sender < length (node_names raw)) × (part.receiver < length (node_names raw))
edge_named raw line (AnEdge name s r) part gives h =
    let names = node_names raw in
    let both = and_parts (has_name s names) (has_name r names) h in
    let from : place_or_end names s ≡ part.sender = cc in
    let to : place_or_end names r ≡ part.receiver = cc in
    (subst (λ p. p < length names) from (place-below names s both.0), subst (λ p. p < length names) to (place-below names r both.1))
edge_named raw line d part gives h = absurd (cc)

node_within : (loops : List (List ℕ)) (before : List Declared) (line : ℕ) (d : Declaration) (part : Node) → node_in loops (record { line = line; declaration = d }) ≡ part ∷ []
    → IsWithinLimitsAfter before d → (length (flat_map (node_in loops) before) < 256) × IsGroupSize part.kind
node_within loops before line (ANode name kind policy split keys) part gives h =
    let same : resolved_kind loops kind ≡ part.kind = cc in
    (omega (arith, length-nodes loops before, h.0), subst IsGroupSize same ((IsGroupSize-map (place_or_end loops) kind).1 h.1))
node_within loops before line d part gives h = absurd (cc)

edge_within : (nodes : List (List ℕ)) (before : List Declared) (line : ℕ) (d : Declaration) (part : Edge) → edge_in nodes (record { line = line; declaration = d }) ≡ part ∷ []
    → IsWithinLimitsAfter before d → length (flat_map (edge_in nodes) before) < 512
edge_within nodes before line (AnEdge name s r) part gives h = omega (arith, length-edges nodes before, h)
edge_within nodes before line d part gives h = absurd (cc)

loop_within : (loops : List (List ℕ)) (before : List Declared) (line : ℕ) (d : Declaration) (part : Loop) → loop_in loops (record { line = line; declaration = d }) ≡ part ∷ []
    → IsWithinLimitsAfter before d → (length (flat_map (loop_in loops) before) < 64) × (1 ≤ part.max) × (part.max ≤ 1024)
loop_within loops before line (ALoop name max parent) part gives h =
    let same : max ≡ part.max = cc in
    (omega (arith, length-loops loops before, h.0), omega (arith, same, h.1), omega (arith, same, h.2))
loop_within loops before line d part gives h = absurd (cc)

-- ---- declarations that break no rule are well formed

names_at : (raw : List Declared) → KeepsRule raw F3 → (i : ℕ) (x : Declared) → slice_get raw i ≡ Some x → are_names_declared (names_of raw) x.declaration ≡ true
names_at raw h i x there =
    subst (λ o. IfSome o (λ (x : Declared). are_names_declared (names_of raw) x.declaration ≡ true)) there (h i (omega (arith, length-all_lines raw, slice_get_within raw i x there)))

limits_at : (raw : List Declared) → KeepsRule raw F8 → (i : ℕ) (x : Declared) → slice_get raw i ≡ Some x → IsWithinLimitsAfter (take i raw) x.declaration
limits_at raw h i x there =
    subst (λ o. IfSome o (λ (x : Declared). IsWithinLimitsAfter (take i raw) x.declaration)) there (h i (omega (arith, length-all_lines raw, slice_get_within raw i x there)))

loops_declared : (raw : List Declared) → KeepsRule raw F3 → (p : ℕ) → p < length (flow_of_declarations raw).nodes → IsLoopDeclared (flow_of_declarations raw) (kind_of (flow_of_declarations raw) p)
loops_declared raw h p lt =
    let g = giver_of (node_in (loop_names raw)) (GivesOne-node_in (loop_names raw)) raw p lt in
    subst (IsLoopDeclared (flow_of_declarations raw)) (sym (kind_of-given (flow_of_declarations raw) p g.part g.is))
    (node_named raw g.giver.line g.giver.declaration g.part g.gives (names_at raw h g.place g.giver g.there))

parents_declared : (raw : List Declared) → KeepsRule raw F3 → (l : ℕ) → l < length (flow_of_declarations raw).loops → IsParentDeclared (flow_of_declarations raw) l
parents_declared raw h l lt =
    let loops = loop_names raw in
    let g = giver_of (loop_in loops) (GivesOne-loop_in loops) raw l lt in
    subst (λ o. IfSome o (λ k. k < length (flow_of_declarations raw).loops)) (sym (parent-given (flow_of_declarations raw) l g.part g.is))
    (loop_named_in raw g.giver.line g.giver.declaration g.part g.gives (names_at raw h g.place g.giver g.there))

-- both ends of an edge are declared
pub both_declared : (raw : List Declared) → KeepsRule raw F3 → (e : ℕ) → e < length (flow_of_declarations raw).edges
    → (sender (flow_of_declarations raw) e < length (flow_of_declarations raw).nodes) × (receiver (flow_of_declarations raw) e < length (flow_of_declarations raw).nodes)
both_declared raw h e lt =
    let g = giver_of (edge_in (node_names raw)) (GivesOne-edge_in (node_names raw)) raw e lt in
    let below = edge_named raw g.giver.line g.giver.declaration g.part g.gives (names_at raw h g.place g.giver g.there) in
    let count = length-nodes (loop_names raw) raw in
    (omega (arith, count, below.0, sender-given (flow_of_declarations raw) e g.part g.is), omega (arith, count, below.1, receiver-given (flow_of_declarations raw) e g.part g.is))

-- there are at most so many parts where each stands behind fewer
few : {A : Type 0} (f : Declared → List A) → GivesOne f → (raw : List Declared) → KeepsRule raw F8 → (most : ℕ)
    → ((before : List Declared) (line : ℕ) (d : Declaration) (part : A) → f (record { line = line; declaration = d }) ≡ part ∷ [] → IsWithinLimitsAfter before d → length (flat_map f before) < most)
    → length (flat_map f raw) ≤ most
few f one raw h most fewer =
    elim (cases_lt most (length (flat_map f raw))) [
      | inl over ↦
          let g = giver_of f one raw most over in
          absurd (omega (arith, fewer (take g.place raw) g.giver.line g.giver.declaration g.part g.gives (limits_at raw h g.place g.giver g.there), g.before))
      | inr within ↦ within
    ]

limits_hold : (raw : List Declared) → KeepsRule raw F8 → IsWithinLimits (flow_of_declarations raw)
limits_hold raw h =
    let loops = loop_names raw in
    let nodes = node_names raw in
    record {
      nodes = few (node_in loops) (GivesOne-node_in loops) raw h 256 (λ before line d part gives w. (node_within loops before line d part gives w).0);
      edges = few (edge_in nodes) (GivesOne-edge_in nodes) raw h 512 (edge_within nodes);
      loops = few (loop_in loops) (GivesOne-loop_in loops) raw h 64 (λ before line d part gives w. (loop_within loops before line d part gives w).0);
      counters = λ l lt.
          let g = giver_of (loop_in loops) (GivesOne-loop_in loops) raw l lt in
          let range = loop_within loops (take g.place raw) g.giver.line g.giver.declaration g.part g.gives (limits_at raw h g.place g.giver g.there) in
          let max = max_of-given (flow_of_declarations raw) l g.part g.is in
          (omega (arith, range.1, max), omega (arith, range.2, max));
      groups = λ p lt.
          let g = giver_of (node_in loops) (GivesOne-node_in loops) raw p lt in
          subst IsGroupSize (sym (kind_of-given (flow_of_declarations raw) p g.part g.is))
          (node_within loops (take g.place raw) g.giver.line g.giver.declaration g.part g.gives (limits_at raw h g.place g.giver g.there)).1;
    }

pub IsWellFormed-from_rules : (raw : List Declared) → KeepsRule raw F3 → KeepsRule raw F12 → KeepsRule raw F4 → KeepsRule raw F5 → KeepsRule raw F6 → KeepsRule raw F7 → KeepsRule raw F8 → KeepsRule raw F9 → IsWellFormed (flow_of_declarations raw)
IsWellFormed-from_rules raw names chains degrees domains walks policies limits borders =
    let loops = length-loop_lines raw in
    let nodes = length-node_lines raw in
    let edges = length-edge_lines raw in
    record {
      loops_declared = loops_declared raw names;
      parents_declared = parents_declared raw names;
      chains = λ l lt. chains l (omega (arith, loops));
      senders_declared = λ e lt. (both_declared raw names e lt).0;
      receivers_declared = λ e lt. (both_declared raw names e lt).1;
      in_degrees = λ p lt. (degrees p (omega (arith, nodes))).0;
      out_degrees = λ p lt. (degrees p (omega (arith, nodes))).1;
      domains = λ e lt. domains e (omega (arith, edges));
      in_loops = walks.in_loops;
      fed_back = walks.fed_back;
      policies = λ p lt. policies p (omega (arith, nodes));
      limits = limits_hold raw limits;
      input = borders.0;
      output = borders.1;
    }

-- the number of a declaration is in range where the declaration is within the limits
number-within : (before : List Declared) (d : Declaration) → IsWithinLimitsAfter before d → HasSplitNumber d
number-within before (ALoop name max parent) h = tt
number-within before (ANode name kind policy split part) h = h.2
number-within before (AnEdge name s r) h = tt

each-where : {A : Type 0} (P : A → Type 0) (xs : List A) → ((i : ℕ) (x : A) → slice_get xs i ≡ Some x → P x) → AllByRecursion P xs
each-where P [] h = tt
each-where P (x ∷ xs) h = (h 0 x refl, each-where P xs (λ i y there. h (suc i) y there))

-- declarations within the limits have numbers in range
pub numbers-within : (raw : List Declared) → KeepsRule raw F8 → AllByRecursion (λ (d : Declared). HasSplitNumber d.declaration) raw
numbers-within raw h = each-where (λ (d : Declared). HasSplitNumber d.declaration) raw (λ i d there. number-within (take i raw) d.declaration (limits_at raw h i d there))

-- ---- declarations that break a rule are not

each-got : {A : Type 0} (P : A → Type 0) (xs : List A) (i : ℕ) (x : A) → slice_get xs i ≡ Some x → AllByRecursion P xs → P x
each-got P [] i x there a = absurd (cc)
each-got P (y ∷ ys) zero x there a = subst P (same_Some y x there) a.0
each-got P (y ∷ ys) (suc i) x there a = each-got P ys i x there a.1

names_rule_at : (raw : List Declared) → IsWellFormed (flow_of_declarations raw) → (i : ℕ) (o : Option Declared) → slice_get raw i ≡ o
    → IfSome o (λ (d : Declared). are_names_declared (names_of raw) d.declaration ≡ true)
names_rule_at raw wf i None there = tt
names_rule_at raw wf i (Some d) there = names_declared raw wf i d.line d.declaration there

limits_rule_at : (raw : List Declared) → IsWellFormed (flow_of_declarations raw) → AllByRecursion (λ (d : Declared). HasSplitNumber d.declaration) raw
    → (i : ℕ) (o : Option Declared) → slice_get raw i ≡ o → IfSome o (λ (d : Declared). IsWithinLimitsAfter (take i raw) d.declaration)
limits_rule_at raw wf numbers i None there = tt
limits_rule_at raw wf numbers i (Some d) there =
    within_limits raw wf.limits i d.line d.declaration there (each-got (λ (x : Declared). HasSplitNumber x.declaration) raw i d there numbers)

-- each rule holds of a well-formed flow whose split numbers are in range
pub KeepsRule-from_IsWellFormed : (raw : List Declared) → IsWellFormed (flow_of_declarations raw) → AllByRecursion (λ (d : Declared). HasSplitNumber d.declaration) raw
    → (code : Code) → KeepsRule raw code
KeepsRule-from_IsWellFormed raw wf numbers F3 = λ i lt. names_rule_at raw wf i (slice_get raw i) refl
KeepsRule-from_IsWellFormed raw wf numbers F4 = λ p lt. (wf.in_degrees p (omega (arith, length-node_lines raw)), wf.out_degrees p (omega (arith, length-node_lines raw)))
KeepsRule-from_IsWellFormed raw wf numbers F5 = λ e lt. wf.domains e (omega (arith, length-edge_lines raw))
KeepsRule-from_IsWellFormed raw wf numbers F6 = record { in_loops = wf.in_loops; fed_back = wf.fed_back }
KeepsRule-from_IsWellFormed raw wf numbers F7 = λ p lt. wf.policies p (omega (arith, length-node_lines raw))
KeepsRule-from_IsWellFormed raw wf numbers F8 = λ i lt. limits_rule_at raw wf numbers i (slice_get raw i) refl
KeepsRule-from_IsWellFormed raw wf numbers F9 = (wf.input, wf.output)
KeepsRule-from_IsWellFormed raw wf numbers F12 = λ l lt. wf.chains l (omega (arith, length-loop_lines raw))
KeepsRule-from_IsWellFormed raw wf numbers code = tt

first_break-false : (Rule : ℕ → Type 0) (lines : List ℕ) (line : ℕ) → IsFirstBreak Rule lines line → HoldsBelow Rule (length lines) → ⊥
first_break-false Rule lines line first holds = first.broken (holds first.place (slice_get_within lines first.place line first.there))

-- a rule is not both broken and kept
pub broken_or_holds : (raw : List Declared) (code : Code) (line : ℕ) → IsBroken raw code line → KeepsRule raw code → ⊥
broken_or_holds raw F3 line broken holds = first_break-false (NamesTheDeclared raw) (all_lines raw) line broken holds
broken_or_holds raw F4 line broken holds = first_break-false (HasItsDegrees (flow_of_declarations raw)) (node_lines raw) line broken holds
broken_or_holds raw F5 line broken holds = first_break-false (JoinsDomains (flow_of_declarations raw)) (edge_lines raw) line broken holds
broken_or_holds raw F6 line broken holds =
    elim broken.0 [
      | inl walk ↦ holds.in_loops walk.node walk.edges walk.closed walk.passes
      | inr slip ↦ let walk = slip.1 in walk.avoids (holds.fed_back slip.0 walk.node walk.edges walk.closed walk.stays walk.passes)
    ]
broken_or_holds raw F7 line broken holds = first_break-false (HasAllowedPolicy (flow_of_declarations raw)) (node_lines raw) line broken holds
broken_or_holds raw F8 line broken holds = first_break-false (StaysWithinLimits raw) (all_lines raw) line broken holds
broken_or_holds raw F9 line broken holds = broken.0 holds
broken_or_holds raw F12 line broken holds = first_break-false (HasShortChain (flow_of_declarations raw)) (loop_lines raw) line broken holds
broken_or_holds raw code line broken holds = broken

one_first_break : (Rule : ℕ → Type 0) (lines : List ℕ) (m n : ℕ) → IsFirstBreak Rule lines m → IsFirstBreak Rule lines n → m ≡ n
one_first_break Rule lines m n first second =
    elim (cases_lt first.place second.place) [
      | inl before ↦ absurd (first.broken (second.earlier first.place before))
      | inr not_before ↦ elim (cases_lt second.place first.place) [
        | inl after ↦ absurd (second.broken (first.earlier second.place after))
        | inr not_after ↦
            let same : first.place ≡ second.place = omega arith in
            same_Some m n (sym first.there ∙ ap (slice_get lines) same ∙ second.there)
      ]
    ]

-- a broken rule has one line
one_line : (raw : List Declared) (code : Code) (m n : ℕ) → IsBroken raw code m → IsBroken raw code n → m ≡ n
one_line raw F3 m n first second = one_first_break (NamesTheDeclared raw) (all_lines raw) m n first second
one_line raw F4 m n first second = one_first_break (HasItsDegrees (flow_of_declarations raw)) (node_lines raw) m n first second
one_line raw F5 m n first second = one_first_break (JoinsDomains (flow_of_declarations raw)) (edge_lines raw) m n first second
one_line raw F6 m n first second = first.1 ∙ sym second.1
one_line raw F7 m n first second = one_first_break (HasAllowedPolicy (flow_of_declarations raw)) (node_lines raw) m n first second
one_line raw F8 m n first second = one_first_break (StaysWithinLimits raw) (all_lines raw) m n first second
one_line raw F9 m n first second = first.1 ∙ sym second.1
one_line raw F12 m n first second = one_first_break (HasShortChain (flow_of_declarations raw)) (loop_lines raw) m n first second
one_line raw code m n first second = absurd first

-- a first broken rule is broken
broken_of : (codes : List Code) (raw : List Declared) (r : Refusal) → IsFirstBrokenOf codes raw r → IsBroken raw r.code r.line
broken_of [] raw r first = absurd first
broken_of (code ∷ codes) raw r (inl here) = subst (λ c. IsBroken raw c r.line) (sym here.0) here.1
broken_of (code ∷ codes) raw r (inr later) = broken_of codes raw r later.1

-- declarations of a well-formed flow are not refused
pub checked_or_refused : (raw : List Declared) (flow : Dataflow) (r : Refusal) → IsChecked raw flow → IsFirstBroken raw r → ⊥
checked_or_refused raw flow r checked first =
    broken_or_holds raw r.code r.line (broken_of rules raw r first) (KeepsRule-from_IsWellFormed raw checked.well_formed checked.split_numbers r.code)

-- declarations are those of one dataflow
pub one_value : (raw : List Declared) (flow other : Dataflow) → IsChecked raw flow → IsChecked raw other → flow ≡ other
one_value raw flow other first second = first.value ∙ sym second.value

same_refusal : (r s : Refusal) → r.code ≡ s.code → r.line ≡ s.line → r ≡ s
same_refusal r s e f =
    let with_code : Code → Refusal = λ c. record { code = c; line = r.line } in
    let with_line : ℕ → Refusal = λ n. record { code = s.code; line = n } in
    ap with_code e ∙ ap with_line f

one_refusal_of : (codes : List Code) (raw : List Declared) (r s : Refusal) → IsFirstBrokenOf codes raw r → IsFirstBrokenOf codes raw s → r ≡ s
one_refusal_of [] raw r s first second = absurd first
one_refusal_of (code ∷ codes) raw r s (inl a) (inl b) = same_refusal r s (a.0 ∙ sym b.0) (one_line raw code r.line s.line a.1 b.1)
one_refusal_of (code ∷ codes) raw r s (inl a) (inr b) = absurd (broken_or_holds raw code r.line a.1 b.0)
one_refusal_of (code ∷ codes) raw r s (inr a) (inl b) = absurd (broken_or_holds raw code s.line b.1 a.0)
one_refusal_of (code ∷ codes) raw r s (inr a) (inr b) = one_refusal_of codes raw r s a.1 b.1

-- declarations are refused by one rule, at one line
pub one_refusal : (raw : List Declared) (r s : Refusal) → IsFirstBroken raw r → IsFirstBroken raw s → r ≡ s
one_refusal raw r s first second = one_refusal_of rules raw r s first second
