-- The names of declarations, with one declaration more.
use Rattle.std.proofs.Common.{◌≡◌, ℕ, ◌<◌, ◌-◌, ◌^◌, List, [], ◌∷◌, ◌++◌, length, sym, ◌∙◌, ap, arith}
use Rattle.std.proofs.lemmas.Grind.{flat_map-append}
use Rattle.std.proofs.lemmas.List.{append-nil, length-append}
use Rattle.fw_flow.specs.Declaring.{Declaration}
use Rattle.fw_flow.specs.declared.raw.Declaration.TheVariants.{Loop as ALoop, Node as ANode, Edge as AnEdge}
use Rattle.fw_flow.specs.Declaring.{Declared}
use Rattle.fw_flow.specs.declared.raw.NameSpaces.{NameSpaces}
use Rattle.fw_flow.specs.Raw.{loop_name, node_name, edge_name, loop_names, node_names, edge_names, names_of, with_name, AreNamed}

abbrev spaces : List (List ℕ) → List (List ℕ) → List (List ℕ) → NameSpaces
spaces loops nodes edges = record { loops = loops; nodes = nodes; edges = edges }

abbrev with_names : NameSpaces → List Declared → NameSpaces
with_names names raw = spaces (names.loops ++ loop_names raw) (names.nodes ++ node_names raw) (names.edges ++ edge_names raw)

with_one : (names : NameSpaces) (line : ℕ) (d : Declaration)
    → with_names names (record { line = line; declaration = d } ∷ []) ≡ with_name names d
with_one names line (ALoop name max parent) =
    ap (λ x. spaces (names.loops ++ name ∷ []) x (names.edges ++ [])) (append-nil names.nodes) ∙ ap (λ x. spaces (names.loops ++ name ∷ []) names.nodes x) (append-nil names.edges)
with_one names line (ANode name kind policy split part) =
    ap (λ x. spaces x (names.nodes ++ name ∷ []) (names.edges ++ [])) (append-nil names.loops) ∙ ap (λ x. spaces names.loops (names.nodes ++ name ∷ []) x) (append-nil names.edges)
with_one names line (AnEdge name sender receiver) =
    ap (λ x. spaces x (names.nodes ++ []) (names.edges ++ name ∷ [])) (append-nil names.loops) ∙ ap (λ x. spaces names.loops x (names.edges ++ name ∷ [])) (append-nil names.nodes)

-- the names with those of one declaration more
pub names_more : (raw : List Declared) (d : Declared) → names_of (raw ++ d ∷ []) ≡ with_name (names_of raw) d.declaration
names_more raw d =
    let one = d ∷ [] in
    ap (λ x. spaces x (node_names (raw ++ one)) (edge_names (raw ++ one))) (flat_map-append loop_name raw one)
    ∙ ap (λ x. spaces (loop_names raw ++ loop_names one) x (edge_names (raw ++ one))) (flat_map-append node_name raw one)
    ∙ ap (λ x. spaces (loop_names raw ++ loop_names one) (node_names raw ++ node_names one) x) (flat_map-append edge_name raw one)
    ∙ with_one (names_of raw) d.line d.declaration

-- where the name of a declaration is added, they are the names of the declarations with it
pub named_more : (names new : NameSpaces) (raw more : List Declared) (d : Declared) → AreNamed names raw → length raw < 2 ^ 32 - 1
    → new ≡ with_name names d.declaration → more ≡ raw ++ d ∷ [] → AreNamed new more
named_more names new raw more d named few n m = record {
  taken = n ∙ ap (λ t. with_name t d.declaration) named.taken ∙ sym (ap names_of m ∙ names_more raw d);
  few = grind (arith, length-append);
}
