-- The sources of a dataflow by their names, found one after another.
use Rattle.std.proofs.Common.{◌≡◌, ℕ, zero, suc, ◌+◌, ◌<◌, ◌≤◌, Bool, true, false, cond, List, [], ◌∷◌, ◌++◌, map, length, get_or, Some, None, refl, sym, ◌∙◌, ap, arith}
use Rattle.std.proofs.lemmas.List.{get_or-map, length-map}
use Rattle.std.proofs.lemmas.Map.Keys.{apart_from_distinct}
use Rattle.std.proofs.lemmas.Slice.Eq.{bytes_eq-Decides}
use Rattle.std.specs.List.{IsDistinct, flat_map, range_with_len}
use Rattle.std.specs.Map.{lookup}
use Rattle.std.specs.Prelude.{is_some, IsNone}
use Rattle.std.specs.Str.{bytes_eq}
use Rattle.fw_lemmas.proofs.Lists.{joined_more}
use Rattle.fw_flow.specs.declared.node.Node.{Node}
use Rattle.fw_flow.specs.Dataflow.{Dataflow, node_at, kind_of, idle_node, is_input_kind}
use Rattle.fw_lines.specs.Sources.{node_named}
use Rattle.fw_flow.specs.Sources.{source_named_at}

same_name : (a b : List ℕ) → bytes_eq a b ≡ true → a ≡ b
same_name a b e = (bytes_eq-Decides a b).0 e

passed_over : (test : List ℕ → Bool) (name : List ℕ) (place : ℕ) (rest : List (List ℕ × ℕ)) (b : Bool) → test name ≡ false → lookup test (cond b ((name, place) ∷ []) [] ++ rest) ≡ lookup test rest
passed_over test name place rest true e = ap (λ c. cond c (Some place) (lookup test rest)) e
passed_over test name place rest false e = refl

-- the names of two nodes are not the same
names_differ : (flow : Dataflow) (a p : ℕ) → IsDistinct bytes_eq (map (λ (n : Node). n.name) flow.nodes) → a < p → p < length flow.nodes → bytes_eq (node_at flow a).name (node_at flow p).name ≡ false
unfolding node_at
names_differ flow a p distinct before below =
    let name = λ (n : Node). n.name in
    let names = map name flow.nodes in
    let all : length names ≡ length flow.nodes = length-map flow.nodes name in
    let first : get_or names a [] ≡ (get_or flow.nodes a idle_node).name = get_or-map name flow.nodes a idle_node [] (omega (arith, before, below)) in
    let second : get_or names p [] ≡ (get_or flow.nodes p idle_node).name = get_or-map name flow.nodes p idle_node [] below in
    sym (ap (λ x. bytes_eq x (get_or names p [])) first ∙ ap (bytes_eq (get_or flow.nodes a idle_node).name) second)
    ∙ apart_from_distinct bytes_eq names a p [] distinct before (omega (arith, all, below))

none_among : (flow : Dataflow) (p : ℕ) → IsDistinct bytes_eq (map (λ (n : Node). n.name) flow.nodes) → p < length flow.nodes → (a n : ℕ) → a + n ≤ p → node_named (flat_map (source_named_at flow) (range_with_len a n)) (node_at flow p).name ≡ None
none_among flow p distinct below a zero h = refl
none_among flow p distinct below a (suc n) h =
    passed_over (bytes_eq (node_at flow p).name) (node_at flow a).name a (flat_map (source_named_at flow) (range_with_len (a + 1) n)) (is_input_kind (kind_of flow a)) (by (bytes_eq (node_at flow p).name (node_at flow a).name) refl)
    ∙ none_among flow p distinct below (a + 1) n (omega (arith, h))
  where
    by : (b : Bool) → bytes_eq (node_at flow p).name (node_at flow a).name ≡ b → b ≡ false
    by false e = refl
    by true e =
        let same = same_name (node_at flow p).name (node_at flow a).name e in
        sym ((bytes_eq-Decides (node_at flow a).name (node_at flow p).name).1 (sym same)) ∙ names_differ flow a p distinct (omega (arith, h)) below

-- the next node's name is not among those of the earlier sources
pub name_is_new : (flow : Dataflow) (p : ℕ) → IsDistinct bytes_eq (map (λ (n : Node). n.name) flow.nodes) → p < length flow.nodes → IsNone (node_named (flat_map (source_named_at flow) (range_with_len 0 p)) (node_at flow p).name)
name_is_new flow p distinct below = ap is_some (none_among flow p distinct below 0 p (omega arith))

-- the sources among one node more
pub sources_more : (flow : Dataflow) (p : ℕ) → flat_map (source_named_at flow) (range_with_len 0 (p + 1)) ≡ flat_map (source_named_at flow) (range_with_len 0 p) ++ source_named_at flow p
sources_more flow p = joined_more (source_named_at flow) p
