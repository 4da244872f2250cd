-- Names that are each new behind those before them are distinct.
use Rattle.std.proofs.Common.{◌≡◌, ℕ, not, ◌||◌, Bool, true, false, List, [], ◌∷◌, ◌++◌, refl, sym, ap, ◌∙◌, subst}
use Rattle.std.proofs.lemmas.Bool.{true≢false}
use Rattle.std.proofs.lemmas.Grind.{flat_map-append}
use Rattle.std.proofs.lemmas.List.{append-nil, append_assoc}
use Rattle.std.specs.List.{AllByRecursion, IsDistinct, flat_map, list_any}
use Rattle.std.specs.Str.{bytes_eq}
use Rattle.fw_lemmas.proofs.Each.{each-each, each-weaker}
use Rattle.fw_flow.specs.Declaring.{Declaration, Declared}
use Rattle.fw_flow.specs.declared.raw.Declaration.TheVariants.{Loop as ALoop, Node as ANode, Edge as AnEdge}
use Rattle.fw_flow.specs.Names.{has_name}
use Rattle.fw_flow.specs.Raw.{edge_name, is_new, loop_name, node_name}
use Rattle.fw_flow.proofs.DistinctLaws.{distinct-append}
use Rattle.fw_flow.proofs.NewLaws.{other_way}
use Rattle.fw_split.specs.LawsOfSplitting.{NewNamesAreWritten}

-- a name that is not among these is apart from each
apart-each : (name : List ℕ) (xs : List (List ℕ)) → has_name name xs ≡ false → AllByRecursion (λ x. bytes_eq x name ≡ false) xs
apart-each name [] e = tt
apart-each name (x ∷ xs) e = (other_way name x (first (bytes_eq name x) (list_any (bytes_eq name) xs) e), apart-each name xs (second (bytes_eq name x) (list_any (bytes_eq name) xs) e))
  where
    first : (a b : Bool) → (a || b) ≡ false → a ≡ false
    first true b e = e
    first false b e = refl

    second : (a b : Bool) → (a || b) ≡ false → b ≡ false
    second true b e = absurd (true≢false e)
    second false b e = e

module _ (names : Declared → List (List ℕ)) where
  -- what stands behind some declarations, each with names that are new there
  once-behind : (before rest : List Declared) → ((d : Declared) → IsDistinct bytes_eq (names d)) → IsDistinct bytes_eq (flat_map names before)
      → ((front : List Declared) (d : Declared) (back : List Declared) → before ++ rest ≡ front ++ d ∷ back → AllByRecursion (λ n. has_name n (flat_map names front) ≡ false) (names d))
      → IsDistinct bytes_eq (flat_map names (before ++ rest))
  once-behind before [] one once new = subst (λ ds. IsDistinct bytes_eq (flat_map names ds)) (sym (append-nil before)) once
  once-behind before (d ∷ rest) one once new =
      let whole : (before ++ d ∷ []) ++ rest ≡ before ++ d ∷ rest = append_assoc before (d ∷ []) rest in
      let apart = each-each (λ x y. bytes_eq x y ≡ false) (flat_map names before) (names d)
      (each-weaker (λ y. has_name y (flat_map names before) ≡ false) (λ y. AllByRecursion (λ x. bytes_eq x y ≡ false) (flat_map names before)) (names d)
      (λ y e. apart-each y (flat_map names before) e) (new before d rest refl)) in
      let longer : IsDistinct bytes_eq (flat_map names (before ++ d ∷ [])) =
      subst (IsDistinct bytes_eq) (sym (flat_map-append names before (d ∷ []) ∙ ap (λ xs. flat_map names before ++ xs) (append-nil (names d))))
      (distinct-append (flat_map names before) (names d) once (one d) apart) in
      subst (λ ds. IsDistinct bytes_eq (flat_map names ds)) whole
      (once-behind (before ++ d ∷ []) rest one longer (λ front e back same. new front e back (sym whole ∙ same)))

not-there : (b : Bool) → not b ≡ true → b ≡ false
not-there true e = absurd (true≢false (sym e))
not-there false e = refl

none-once : IsDistinct bytes_eq []
unfolding IsDistinct
none-once = tt

single-once : (name : List ℕ) → IsDistinct bytes_eq (name ∷ [])
unfolding IsDistinct
single-once name = (tt, tt)

loops-new : (front : List Declared) (line : ℕ) (d : Declaration) → is_new front d ≡ true
    → AllByRecursion (λ n. has_name n (flat_map loop_name front) ≡ false) (loop_name (record { line = line; declaration = d }))
loops-new front line (ALoop name max parent) e = (not-there (has_name name (flat_map loop_name front)) e, tt)
loops-new front line (ANode name kind policy split part) e = tt
loops-new front line (AnEdge name from to) e = tt

nodes-new : (front : List Declared) (line : ℕ) (d : Declaration) → is_new front d ≡ true
    → AllByRecursion (λ n. has_name n (flat_map node_name front) ≡ false) (node_name (record { line = line; declaration = d }))
nodes-new front line (ALoop name max parent) e = tt
nodes-new front line (ANode name kind policy split part) e = (not-there (has_name name (flat_map node_name front)) e, tt)
nodes-new front line (AnEdge name from to) e = tt

edges-new : (front : List Declared) (line : ℕ) (d : Declaration) → is_new front d ≡ true
    → AllByRecursion (λ n. has_name n (flat_map edge_name front) ≡ false) (edge_name (record { line = line; declaration = d }))
edges-new front line (ALoop name max parent) e = tt
edges-new front line (ANode name kind policy split part) e = tt
edges-new front line (AnEdge name from to) e = (not-there (has_name name (flat_map edge_name front)) e, tt)

loop-single : (line : ℕ) (d : Declaration) → IsDistinct bytes_eq (loop_name (record { line = line; declaration = d }))
loop-single line (ALoop name max parent) = single-once name
loop-single line (ANode name kind policy split part) = none-once
loop-single line (AnEdge name from to) = none-once

node-single : (line : ℕ) (d : Declaration) → IsDistinct bytes_eq (node_name (record { line = line; declaration = d }))
node-single line (ALoop name max parent) = none-once
node-single line (ANode name kind policy split part) = single-once name
node-single line (AnEdge name from to) = none-once

edge-single : (line : ℕ) (d : Declaration) → IsDistinct bytes_eq (edge_name (record { line = line; declaration = d }))
edge-single line (ALoop name max parent) = none-once
edge-single line (ANode name kind policy split part) = none-once
edge-single line (AnEdge name from to) = single-once name

pub written-in_turn : NewNamesAreWritten
written-in_turn raw names no_parts new = record {
  names = names;
  loops = once-behind loop_name [] raw (λ d. loop-single d.line d.declaration) none-once (λ front d back same. loops-new front d.line d.declaration (new front d back same));
  nodes = once-behind node_name [] raw (λ d. node-single d.line d.declaration) none-once (λ front d back same. nodes-new front d.line d.declaration (new front d back same));
  edges = once-behind edge_name [] raw (λ d. edge-single d.line d.declaration) none-once (λ front d back same. edges-new front d.line d.declaration (new front d back same));
  no_parts = no_parts;
}
