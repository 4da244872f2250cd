-- Names of sources, as a map keeps them.
use Rattle.std.proofs.Common.{◌≡◌, ℕ, nat_eq, cond, List, [], ◌∷◌, ◌++◌, Option, Some, None, refl, sym, ◌∙◌, ap, IsNone, arith}
use Rattle.indexmap.proofs.CallerLemmas.{insert_entry-new}
use Rattle.indexmap.specs.IndexMap.{IndexMap, insert_entry}
use Rattle.std.specs.Cmp.Lexicographic.{pointwise}
use Rattle.std.specs.Map.{lookup}
use Rattle.std.specs.declared.alloc.Global.{Global}
use Rattle.std.specs.declared.vec.Vec.{Vec}
use Rattle.fw_lines.specs.Sources.{node_named, named_sources}

-- a look-up among the names is one among their bytes
pub node_of-named : (es : List (Vec ℕ Global × ℕ)) (name : List ℕ) → node_named (named_sources es) name ≡ lookup (λ k. pointwise nat_eq name k.items) es
node_of-named [] name = refl
node_of-named (e ∷ es) name = ap (cond (pointwise nat_eq name e.0.items) (Some e.1)) (node_of-named es name)

pub named-append : (xs ys : List (Vec ℕ Global × ℕ)) → named_sources (xs ++ ys) ≡ named_sources xs ++ named_sources ys
named-append [] ys = refl
named-append (x ∷ xs) ys = ap (λ zs. (x.0.items, x.1) ∷ zs) (named-append xs ys)

none_from_is : (o : Option ℕ) → IsNone o → o ≡ None
none_from_is None h = refl
none_from_is (Some n) h = grind arith

-- a new name goes last
pub added : {S : Type 0} (m : IndexMap (Vec ℕ Global) ℕ S) (es : List (Vec ℕ Global × ℕ)) (key : Vec ℕ Global) (name : List ℕ) (node : ℕ) (names : List (List ℕ × ℕ))
    → named_sources m.entries ≡ names → key.items ≡ name → IsNone (node_named names name)
    → es ≡ insert_entry (λ (x y : Vec ℕ Global). pointwise nat_eq x.items y.items) m.entries key node
    → named_sources es ≡ names ++ (name, node) ∷ []
added m es key name node names v k n e =
    let there : node_named names key.items ≡ None = ap (node_named names) k ∙ none_from_is (node_named names name) n in
    let new : lookup (λ (y : Vec ℕ Global). pointwise nat_eq key.items y.items) m.entries ≡ None = sym (node_of-named m.entries key.items) ∙ ap (λ x. node_named x key.items) v ∙ there in
    ap named_sources (e ∙ insert_entry-new (λ (x y : Vec ℕ Global). pointwise nat_eq x.items y.items) m key node new)
    ∙ named-append m.entries ((key, node) ∷ [])
    ∙ ap (λ x. x ++ (key.items, node) ∷ []) v
    ∙ ap (λ x. names ++ (x, node) ∷ []) k
