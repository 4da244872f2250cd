-- The nodes that words name, found one after another.
use Rattle.std.proofs.Common.{◌≡◌, ℕ, ◌+◌, ◌<◌, ◌≤◌, nat_eq, Bool, false, ◌&&◌, List, [], ◌∷◌, ◌++◌, length, drop, get_or, Option, Some, None, refl, sym, ◌∙◌, ap, append_assoc}
use Rattle.std.proofs.lemmas.List.{drop_more, at_drop_all, append-nil}
use Rattle.std.proofs.lemmas.List.Folds.{list_all-map}
use Rattle.std.specs.List.{list_all}
use Rattle.std.specs.Option.{option_map, option_and_then}
use Rattle.fw_lines.specs.declared.span.Span.{Span}
use Rattle.fw_lines.specs.Lines.{bytes_at, words_at}
use Rattle.fw_flow.specs.FullNames.{is_full_name}
use Rattle.fw_flow.specs.Dataflow.{Dataflow}
use Rattle.fw_schedule.specs.Names.{are_names, node_with_name, nodes_named}

-- parts of a text are one name or more where they are not none and each of them is a name
pub names_at : (text : List ℕ) (words : List Span) (none all : Bool) → none ≡ nat_eq (length words) 0 → none ≡ false
    → all ≡ list_all (λ word. is_full_name (bytes_at text word)) words → all ≡ are_names (words_at text words)
names_at text [] none all e h k = absurd (cc (e, h))
names_at text (word ∷ words) none all e h k = k ∙ ap (λ b. is_full_name (bytes_at text word) && b) (sym (list_all-map is_full_name (bytes_at text) words))

-- what the code's loop knows: the nodes of the first `count` names are found, and on the others it rests what is found in all
pub record AreFoundUpTo (flow : Dataflow) (text : List ℕ) (names : List Span) (count : ℕ) (nodes : List ℕ) : Type 0 where
  pub whole : option_map (λ rest. nodes ++ rest) (nodes_named flow (words_at text (drop count names))) ≡ nodes_named flow (words_at text names)

-- the node of the next name, before those of the others
found_next : (flow : Dataflow) (text : List ℕ) (names : List Span) (count : ℕ) (d : Span) → count < length names
    → nodes_named flow (words_at text (drop count names)) ≡ option_and_then (λ node. option_map (λ nodes. node ∷ nodes) (nodes_named flow (words_at text (drop (count + 1) names)))) (node_with_name flow (bytes_at text (get_or names count d)))
found_next flow text names count d below = ap (λ ws. nodes_named flow (words_at text ws)) (drop_more names count d below)

-- one node more is found
pub found_more : (flow : Dataflow) (text : List ℕ) (names : List Span) (count node : ℕ) (nodes new : List ℕ) (d : Span) → count < length names → AreFoundUpTo flow text names count nodes
    → node_with_name flow (bytes_at text (get_or names count d)) ≡ Some node → new ≡ nodes ++ node ∷ [] → AreFoundUpTo flow text names (count + 1) new
found_more flow text names count node nodes new d below h there e =
    let rest = nodes_named flow (words_at text (drop (count + 1) names)) in
    let next = found_next flow text names count d below ∙ ap (option_and_then (λ n. option_map (λ ns. n ∷ ns) rest)) there in
    record {
      whole = ap (λ ns. option_map (λ r. ns ++ r) rest) e ∙ by rest ∙ ap (option_map (λ r. nodes ++ r)) (sym next) ∙ h.whole;
    }
  where
    by : (o : Option (List ℕ)) → option_map (λ r. (nodes ++ node ∷ []) ++ r) o ≡ option_map (λ r. nodes ++ r) (option_map (λ ns. node ∷ ns) o)
    by None = refl
    by (Some r) = ap Some (append_assoc nodes (node ∷ []) r)

-- a name is not that of a node, so that nothing is found in all
pub found_none : (flow : Dataflow) (text : List ℕ) (names : List Span) (count : ℕ) (nodes : List ℕ) (d : Span) → count < length names → AreFoundUpTo flow text names count nodes
    → node_with_name flow (bytes_at text (get_or names count d)) ≡ None → None ≡ nodes_named flow (words_at text names)
found_none flow text names count nodes d below h none =
    let rest = nodes_named flow (words_at text (drop (count + 1) names)) in
    let next = found_next flow text names count d below ∙ ap (option_and_then (λ n. option_map (λ ns. n ∷ ns) rest)) none in
    ap (option_map (λ r. nodes ++ r)) (sym next) ∙ h.whole

-- where no name is left the nodes are those that are found in all
pub found_all : (flow : Dataflow) (text : List ℕ) (names : List Span) (count : ℕ) (nodes : List ℕ) → length names ≤ count → AreFoundUpTo flow text names count nodes
    → Some nodes ≡ nodes_named flow (words_at text names)
found_all flow text names count nodes past h =
    ap Some (sym (append-nil nodes))
    ∙ sym (at_drop_all (λ ws. option_map (λ r. nodes ++ r) (nodes_named flow (words_at text ws))) names count past)
    ∙ h.whole
