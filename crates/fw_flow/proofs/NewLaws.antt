-- Of distinct names each is new behind those before it.
use Rattle.std.proofs.Common.{◌≡◌, ◌||◌, not, ℕ, ◌+◌, ◌<◌, Bool, true, false, List, [], ◌∷◌, ◌++◌, length, take, drop, refl, sym, ◌∙◌, ap, subst, get_or}
use Rattle.std.proofs.lemmas.Grind.{flat_map-append}
use Rattle.std.proofs.lemmas.List.{take_more}
use Rattle.std.proofs.lemmas.Slice.Eq.{bytes_eq-Decides}
use Rattle.std.specs.List.{AllByRecursion, IsDistinct, list_any}
use Rattle.std.specs.Str.{bytes_eq}
use Rattle.fw_lemmas.proofs.Lists.{split_at}
use Rattle.fw_flow.specs.Declaring.{Declaration, Declared}
use Rattle.fw_flow.specs.declared.raw.Declaration.TheVariants.{Loop as ALoop, Node as ANode, Edge as AnEdge}
use Rattle.fw_flow.specs.declared.raw.NameSpaces.{NameSpaces}
use Rattle.fw_flow.specs.Names.{has_name}
use Rattle.fw_flow.specs.Raw.{edge_name, edge_names, is_new, is_new_among, loop_name, loop_names, names_of, node_name, node_names, with_name}
use Rattle.fw_flow.proofs.Named.{names_more}

-- names that differ one way differ the other way
pub other_way : (a b : List ℕ) → bytes_eq a b ≡ false → bytes_eq b a ≡ false
other_way a b h = by (bytes_eq b a) refl
  where
    by : (c : Bool) → bytes_eq b a ≡ c → c ≡ false
    by false e = refl
    by true e = let same = (bytes_eq-Decides b a).0 e in sym ((bytes_eq-Decides a b).1 (sym same)) ∙ h

-- of distinct names each is new behind those before it
new_behind : (before : List (List ℕ)) (name : List ℕ) (behind : List (List ℕ)) → IsDistinct bytes_eq (before ++ name ∷ behind) → has_name name before ≡ false
unfolding IsDistinct
new_behind [] name behind once = refl
new_behind (first ∷ before) name behind once =
    ap (λ b. b || list_any (bytes_eq name) before) (other_way first name (among before once.0)) ∙ new_behind before name behind once.1
  where
    among : (xs : List (List ℕ)) → AllByRecursion (λ y. bytes_eq first y ≡ false) (xs ++ name ∷ behind) → bytes_eq first name ≡ false
    among [] h = h.0
    among (x ∷ xs) h = among xs h.1

-- the names of the three spaces are distinct
pub record AreOnce (raw : List Declared) : Type 0 where
  pub loops : IsDistinct bytes_eq (loop_names raw)
  pub nodes : IsDistinct bytes_eq (node_names raw)
  pub edges : IsDistinct bytes_eq (edge_names raw)

pub is_new_behind : (raw : List Declared) (number : ℕ) (d : Declaration) (rest : List Declared)
    → AreOnce (raw ++ record { line = number; declaration = d } ∷ rest) → is_new raw d ≡ true
is_new_behind raw number (ALoop name max parent) rest once =
    let names = flat_map-append loop_name raw (record { line = number; declaration = ALoop name max parent } ∷ rest) in
    ap not (new_behind (loop_names raw) name (loop_names rest) (subst (IsDistinct bytes_eq) names once.loops))
is_new_behind raw number (ANode name kind policy split part) rest once =
    let names = flat_map-append node_name raw (record { line = number; declaration = ANode name kind policy split part } ∷ rest) in
    ap not (new_behind (node_names raw) name (node_names rest) (subst (IsDistinct bytes_eq) names once.nodes))
is_new_behind raw number (AnEdge name sender receiver) rest once =
    let names = flat_map-append edge_name raw (record { line = number; declaration = AnEdge name sender receiver } ∷ rest) in
    ap not (new_behind (edge_names raw) name (edge_names rest) (subst (IsDistinct bytes_eq) names once.edges))

-- so the names of declarations whose names are distinct are taken one after another
pub names_taken : (names new : NameSpaces) (raw : List Declared) (i : ℕ) (d : Declared) → AreOnce raw → i < length raw → d ≡ get_or raw i d
    → names ≡ names_of (take i raw) → (is_new_among names d.declaration ≡ true → new ≡ with_name names d.declaration) → new ≡ names_of (take (i + 1) raw)
names_taken names new raw i d once lt is so_far taken =
    let whole : take i raw ++ d ∷ drop (i + 1) raw ≡ raw = sym (split_at raw i d lt is) in
    let fresh : is_new_among names d.declaration ≡ true =
    ap (λ n. is_new_among n d.declaration) so_far ∙ is_new_behind (take i raw) d.line d.declaration (drop (i + 1) raw) (subst AreOnce (sym whole) once) in
    let more : take i raw ++ d ∷ [] ≡ take (i + 1) raw = ap (λ (x : Declared). take i raw ++ x ∷ []) is ∙ sym (take_more raw i d lt) in
    taken fresh ∙ ap (λ n. with_name n d.declaration) so_far ∙ sym (names_more (take i raw) d) ∙ ap names_of more
