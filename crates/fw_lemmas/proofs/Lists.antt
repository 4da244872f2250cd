-- Places, ends and parts of lists.
use Rattle.std.proofs.Common.{◌≡◌, ◌-◌, List, [], ◌∷◌, ◌++◌, length, Some, ◌∙◌, ap, arith, ℕ, ◌<◌, get_or, zero, suc, Contains, sym, false, map, refl, slice_index_or, ◌+◌, take, drop}
use Rattle.std.specs.List.{range_with_len, flat_map}
use Rattle.std.specs.Prelude.{slice_get}
use Rattle.std.proofs.Math.Seq.{get_or-append_seam}
use Rattle.std.proofs.lemmas.Grind.{flat_map-append}
use Rattle.std.proofs.lemmas.List.{length-append, get_or_default, take-append-drop, drop_more, append-nil}
use Rattle.std.proofs.lemmas.Option.{slice_get-get_or}

-- the last element is read at the place before the length
pub last_of : {A : Type 0} (before : List A) (y : A) → slice_get (before ++ y ∷ []) (length (before ++ y ∷ []) - 1) ≡ Some y
last_of before y =
    let long = length-append before (y ∷ []) in
    let i : length (before ++ y ∷ []) - 1 ≡ length before = omega (arith, long) in
    ap (slice_get (before ++ y ∷ [])) i ∙ slice_get-get_or (before ++ y ∷ []) (length before) y (omega (arith, long)) ∙ ap Some (get_or-append_seam before y [] y)

-- what an index reads
pub read_at : {A : Type 0} (xs : List A) (p i : ℕ) (x d : A) → i ≡ p → i < length xs → x ≡ get_or xs i x → x ≡ get_or xs p d
read_at xs p i x d e l is = is ∙ get_or_default xs i x d l ∙ ap (λ n. get_or xs n d) e

-- a list of one element has that one only
pub only_one : (k q : ℕ) → Contains (k ∷ []) q → q ≡ k
only_one k q c = by c.0 c.1 c.2
  where
    by : (i : ℕ) → i < 1 → get_or (k ∷ []) i q ≡ q → q ≡ k
    by zero l e = sym e
    by (suc i) l e = absurd (omega arith)

-- an empty list has no element
pub contains-none : {X : Type 0} (xs : List X) (x : X) → xs ≡ [] → Contains xs x → ⊥
contains-none xs x e c = let l = c.1 in let none = ap length e in absurd (omega arith)

-- a list of answers that are all false has no other, at any place
pub none-mapped : (xs : List ℕ) (p : ℕ) → slice_index_or (map (λ q. false) xs) p false ≡ false
none-mapped [] p = refl
none-mapped (x ∷ xs) zero = refl
none-mapped (x ∷ xs) (suc p) = none-mapped xs p

-- a list is what is before a place, the element there and what is behind it
pub split_at : {A : Type 0} (xs : List A) (i : ℕ) (x : A) → i < length xs → x ≡ get_or xs i x → xs ≡ take i xs ++ x ∷ drop (i + 1) xs
split_at xs i x l e = sym (take-append-drop i xs) ∙ ap (λ ys. take i xs ++ ys) (drop_more xs i x l ∙ ap (λ y. y ∷ drop (i + 1) xs) (sym e))

-- one number more stands at the end
pub range_more : (a n : ℕ) → range_with_len a (n + 1) ≡ range_with_len a n ++ (a + n) ∷ []
range_more a zero = ap (λ k. k ∷ []) (omega arith)
range_more a (suc n) =
    let more : range_with_len (a + 1) (n + 1) ≡ range_with_len (a + 1) n ++ (a + 1 + n) ∷ [] = range_more (a + 1) n in
    let last : a + 1 + n ≡ a + suc n = omega arith in
    let longer : suc n + 1 ≡ suc (n + 1) = omega arith in
    ap (range_with_len a) longer ∙ ap (λ t. a ∷ t) (more ∙ ap (λ k. range_with_len (a + 1) n ++ k ∷ []) last)

-- what is made for one number more stands at the end
pub joined_more : {X : Type 0} (make : ℕ → List X) (p : ℕ) → flat_map make (range_with_len 0 (p + 1)) ≡ flat_map make (range_with_len 0 p) ++ make p
joined_more make p =
    ap (flat_map make) (range_more 0 p)
    ∙ flat_map-append make (range_with_len 0 p) ((0 + p) ∷ [])
    ∙ ap (λ k. flat_map make (range_with_len 0 p) ++ (make k ++ [])) (omega arith)
    ∙ ap (λ t. flat_map make (range_with_len 0 p) ++ t) (append-nil (make p))
