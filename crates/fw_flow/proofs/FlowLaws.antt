-- The names and the edges that a flow keeps for looking them up.
use Rattle.std.proofs.Common.{◌≡◌, inl, inr, unwrap_or, ◌≤◌, ◌<◌, ℕ, false, zero, suc, nat_eq, List, [], ◌∷◌, ◌++◌, length, Option, Some, None, refl, sym, ◌∙◌, ap, slice_index_or, cond, position, nat_lt, ◌||◌, ◌+◌, not, arith}
use Rattle.std.proofs.lemmas.Bool.{cases_lt, lt-ltb, le-ltb, cond-true, cond-false}
use Rattle.std.proofs.lemmas.List.Sums.{prefix_len-le-length}
use Rattle.std.specs.List.{list_any, position_or_len, AllByRecursion, IsDistinct}
use Rattle.std.specs.Cmp.Lexicographic.{pointwise}
use Rattle.std.specs.Str.{bytes_eq}
use Rattle.std.specs.declared.alloc.Global.{Global}
use Rattle.std.specs.declared.vec.Vec.{Vec}
use Rattle.fw_flow.specs.Names.{has_name, place_of, bytes_of}
use Rattle.fw_flow.specs.Flow.{edges_at}

pub edges_there : (xs : List (Vec ℕ Global)) (i : ℕ) (x : Vec ℕ Global) → i < length xs → x ≡ slice_index_or xs i x → edges_at xs i ≡ x.items
edges_there [] i x h e = grind arith
edges_there (y ∷ ys) zero x h e = ap (λ (v : Vec ℕ Global). v.items) (sym e)
edges_there (y ∷ ys) (suc i) x h e = edges_there ys i x (grind arith) e

pub edges_past : (xs : List (Vec ℕ Global)) (i : ℕ) → length xs ≤ i → edges_at xs i ≡ []
edges_past [] i h = refl
edges_past (y ∷ ys) zero h = grind arith
edges_past (y ∷ ys) (suc i) h = edges_past ys i (grind arith)

pub name_among_keys : (name : List ℕ) (keys : List (Vec ℕ Global)) → has_name name (bytes_of keys) ≡ list_any (λ (k : Vec ℕ Global). pointwise nat_eq name k.items) keys
name_among_keys name [] = refl
name_among_keys name (k ∷ ks) = ap (λ b. pointwise nat_eq name k.items || b) (name_among_keys name ks)

pub length_of_bytes : (keys : List (Vec ℕ Global)) → length (bytes_of keys) ≡ length keys
length_of_bytes [] = refl
length_of_bytes (k ∷ ks) = ap suc (length_of_bytes ks)

index_among_keys : (name : List ℕ) (keys : List (Vec ℕ Global)) → position_or_len (bytes_eq name) (bytes_of keys) ≡ position_or_len (λ (k : Vec ℕ Global). pointwise nat_eq name k.items) keys
index_among_keys name [] = refl
index_among_keys name (k ∷ ks) = ap (λ n. cond (not (pointwise nat_eq name k.items)) (1 + n) 0) (index_among_keys name ks)

abbrev some_below : (i n : ℕ) → Option ℕ
some_below i n = cond (nat_lt i n) (Some i) None

pub place_among_keys : (name : List ℕ) (keys : List (Vec ℕ Global)) → place_of name (bytes_of keys) ≡ position (λ (k : Vec ℕ Global). pointwise nat_eq name k.items) keys
place_among_keys name keys =
    ap (λ i. some_below i (length (bytes_of keys))) (index_among_keys name keys)
    ∙ ap (some_below (position_or_len (λ (k : Vec ℕ Global). pointwise nat_eq name k.items) keys)) (length_of_bytes keys)

pub bytes_of_append : (xs ys : List (Vec ℕ Global)) → bytes_of (xs ++ ys) ≡ bytes_of xs ++ bytes_of ys
bytes_of_append [] ys = refl
bytes_of_append (x ∷ xs) ys = ap (λ zs. x.items ∷ zs) (bytes_of_append xs ys)

-- the place of a name, or else their number, is its place or the end
pub place_or_end_of : (name : List ℕ) (names : List (List ℕ)) (n : ℕ) → n ≡ length names → unwrap_or (place_of name names) n ≡ position_or_len (bytes_eq name) names
place_or_end_of name names n e =
    elim (cases_lt (position_or_len (bytes_eq name) names) (length names)) [
      | inl lt ↦ ap (λ o. unwrap_or o n) (cond-true _ (Some (position_or_len (bytes_eq name) names)) None (lt-ltb (position_or_len (bytes_eq name) names) (length names) lt))
      | inr past ↦
          let within = prefix_len-le-length (λ x. not (bytes_eq name x)) names in
          ap (λ o. unwrap_or o n) (cond-false _ (Some (position_or_len (bytes_eq name) names)) None (le-ltb (position_or_len (bytes_eq name) names) (length names) past))
          ∙ omega (arith, within, past)
    ]

pub place_within : (name : List ℕ) (names : List (List ℕ)) → position_or_len (bytes_eq name) names ≤ length names
place_within name names = prefix_len-le-length (λ x. not (bytes_eq name x)) names

apart_bytes : (name : List ℕ) (keys : List (Vec ℕ Global)) → AllByRecursion (λ (k : Vec ℕ Global). pointwise nat_eq name k.items ≡ false) keys
    → AllByRecursion (λ other. bytes_eq name other ≡ false) (bytes_of keys)
apart_bytes name [] a = tt
apart_bytes name (k ∷ ks) a = (a.0, apart_bytes name ks a.1)

-- the names of distinct keys are distinct
pub distinct_bytes : (keys : List (Vec ℕ Global)) → IsDistinct (λ (a b : Vec ℕ Global). pointwise nat_eq a.items b.items) keys → IsDistinct bytes_eq (bytes_of keys)
unfolding IsDistinct
distinct_bytes [] d = tt
distinct_bytes (k ∷ ks) d = (apart_bytes k.items ks d.0, distinct_bytes ks d.1)
