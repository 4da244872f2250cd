-- The names of an expansion are distinct where those that are declared are distinct names.
use Rattle.std.proofs.Common.{◌≡◌, inl, inr, ℕ, zero, suc, ◌+◌, ◌<◌, ◌≤◌, ◌^◌, Bool, true, false, ◌||◌, List, [], ◌∷◌, ◌++◌, map, refl, sym, ap, ◌∙◌, subst, arith}
use Rattle.std.proofs.lemmas.Bool.{false≢true, or_left, or_right, cases_Bool}
use Rattle.std.proofs.lemmas.Fmt.{decimal_injective}
use Rattle.std.proofs.lemmas.List.Folds.{list_any-append}
use Rattle.std.proofs.lemmas.Slice.Eq.{bytes_eq-Decides}
use Rattle.std.specs.Fmt.{decimal}
use Rattle.std.specs.List.{AllByRecursion, IsDistinct, flat_map, list_any, range_with_len}
use Rattle.std.specs.Prelude.{codes}
use Rattle.std.specs.Str.{bytes_eq}
use Rattle.fw_lemmas.proofs.Each.{each-append, each-suffix, each-weaker}
use Rattle.fw_flow.specs.Names.{has_name}
use Rattle.fw_flow.specs.FullNames.{part_name, out_name}

-- ---- equal bytes

same-bytes : (xs ys : List ℕ) → bytes_eq xs ys ≡ true → xs ≡ ys
same-bytes xs ys e = (bytes_eq-Decides xs ys).0 e

bytes-same : (xs ys : List ℕ) → xs ≡ ys → bytes_eq xs ys ≡ true
bytes-same xs ys e = (bytes_eq-Decides xs ys).1 e

-- bytes that cannot be equal are not
pub apart-where : (xs ys : List ℕ) → (xs ≡ ys → ⊥) → bytes_eq xs ys ≡ false
apart-where xs ys never = by (bytes_eq xs ys) refl
  where
    by : (b : Bool) → bytes_eq xs ys ≡ b → b ≡ false
    by true e = absurd (never (same-bytes xs ys e))
    by false e = refl

-- ---- lists of distinct names

-- each of the first is apart from each of the second
abbrev AreApart : List (List ℕ) → List (List ℕ) → Type 0
AreApart xs ys = AllByRecursion (λ x. AllByRecursion (λ y. bytes_eq x y ≡ false) ys) xs

pub distinct-append : (xs ys : List (List ℕ)) → IsDistinct bytes_eq xs → IsDistinct bytes_eq ys → AreApart xs ys → IsDistinct bytes_eq (xs ++ ys)
unfolding IsDistinct
distinct-append [] ys dx dy a = dy
distinct-append (x ∷ xs) ys dx dy a =
    (each-append (λ y. bytes_eq x y ≡ false) xs ys dx.0 a.0, distinct-append xs ys dx.1 dy a.1)

distinct-behind : (xs ys : List (List ℕ)) → IsDistinct bytes_eq (xs ++ ys) → IsDistinct bytes_eq ys
unfolding IsDistinct
distinct-behind [] ys d = d
distinct-behind (x ∷ xs) ys d = distinct-behind xs ys d.1

among-apart : (x : List ℕ) (ys : List (List ℕ)) → AllByRecursion (λ y. bytes_eq x y ≡ false) ys → has_name x ys ≡ true → ⊥
among-apart x [] a h = false≢true h
among-apart x (y ∷ ys) a h = among-apart x ys a.1 (ap (λ b. b || list_any (bytes_eq x) ys) (sym a.0) ∙ h)

-- of distinct names none is among the first and the second
not-twice : (x : List ℕ) (xs ys : List (List ℕ)) → IsDistinct bytes_eq (xs ++ ys) → has_name x xs ≡ true → has_name x ys ≡ true → ⊥
unfolding IsDistinct
not-twice x [] ys d h k = false≢true h
not-twice x (z ∷ zs) ys d h k = elim (cases_Bool (bytes_eq x z)) [
  | inl e ↦ among-apart x ys (subst (λ w. AllByRecursion (λ y. bytes_eq w y ≡ false) ys) (sym (same-bytes x z e)) (each-suffix (λ y. bytes_eq z y ≡ false) zs ys d.0)) k
  | inr e ↦ not-twice x zs ys d.1 (ap (λ b. b || list_any (bytes_eq x) zs) (sym e) ∙ h) k
]

-- ---- groups of names, each with keys of its own

module _ {A : Type 0} (names keys : A → List (List ℕ)) (key : List ℕ → List ℕ) where
  -- the names of a group are distinct, and the key of each is among its keys
  pub record IsGroup (a : A) : Type 0 where
    pub once : IsDistinct bytes_eq (names a)
    pub keyed : AllByRecursion (λ x. has_name (key x) (keys a) ≡ true) (names a)

  keyed-all : (items : List A) → AllByRecursion IsGroup items → AllByRecursion (λ x. has_name (key x) (flat_map keys items) ≡ true) (flat_map names items)
  keyed-all [] g = tt
  keyed-all (a ∷ items) g =
      each-append (λ x. has_name (key x) (flat_map keys (a ∷ items)) ≡ true) (names a) (flat_map names items)
      (each-weaker (λ x. has_name (key x) (keys a) ≡ true) (λ x. has_name (key x) (flat_map keys (a ∷ items)) ≡ true) (names a)
      (λ x h. list_any-append (bytes_eq (key x)) (keys a) (flat_map keys items) ∙ or_left (has_name (key x) (keys a)) (has_name (key x) (flat_map keys items)) h) g.0.keyed)
      (each-weaker (λ x. has_name (key x) (flat_map keys items) ≡ true) (λ x. has_name (key x) (flat_map keys (a ∷ items)) ≡ true) (flat_map names items)
      (λ x h. list_any-append (bytes_eq (key x)) (keys a) (flat_map keys items) ∙ or_right (has_name (key x) (keys a)) (has_name (key x) (flat_map keys items)) h) (keyed-all items g.1))

  apart-groups : (xs ys : List (List ℕ)) (ks ls : List (List ℕ)) → IsDistinct bytes_eq (ks ++ ls)
      → AllByRecursion (λ x. has_name (key x) ks ≡ true) xs → AllByRecursion (λ y. has_name (key y) ls ≡ true) ys → AreApart xs ys
  apart-groups [] ys ks ls d h k = tt
  apart-groups (x ∷ xs) ys ks ls d h k = (
    each-weaker (λ y. has_name (key y) ls ≡ true) (λ y. bytes_eq x y ≡ false) ys
        (λ y l. apart-where x y (λ same. not-twice (key x) ks ls d h.0 (subst (λ z. has_name z ls ≡ true) (sym (ap key same)) l))) k,
    apart-groups xs ys ks ls d h.1 k,
  )

  -- names of groups whose keys are distinct are distinct
  pub distinct-groups : (items : List A) → AllByRecursion IsGroup items → IsDistinct bytes_eq (flat_map keys items) → IsDistinct bytes_eq (flat_map names items)
  unfolding IsDistinct
  distinct-groups [] g d = tt
  distinct-groups (a ∷ items) g d =
      distinct-append (names a) (flat_map names items) g.0.once (distinct-groups items g.1 (distinct-behind (keys a) (flat_map keys items) d))
      (apart-groups (names a) (flat_map names items) (keys a) (flat_map keys items) d g.0.keyed (keyed-all items g.1))

-- ---- names by places

-- names that differ where their places do
abbrev DiffersByPlace : (ℕ → List ℕ) → Type 0
DiffersByPlace name = (i j : ℕ) → i < j → j < 2 ^ 64 → name i ≡ name j → ⊥

apart-places : (name : ℕ → List ℕ) → DiffersByPlace name → (i a n : ℕ) → i < a → a + n ≤ 2 ^ 64
    → AllByRecursion (λ y. bytes_eq (name i) y ≡ false) (map name (range_with_len a n))
apart-places name differs i a zero lt low = tt
apart-places name differs i a (suc n) lt low =
    (apart-where (name i) (name a) (λ e. differs i a lt (omega arith) e), apart-places name differs i (a + 1) n (omega arith) (omega arith))

pub distinct-places : (name : ℕ → List ℕ) → DiffersByPlace name → (a n : ℕ) → a + n ≤ 2 ^ 64 → IsDistinct bytes_eq (map name (range_with_len a n))
unfolding IsDistinct
distinct-places name differs a zero low = tt
distinct-places name differs a (suc n) low = (apart-places name differs a (a + 1) n (omega arith) (omega arith), distinct-places name differs (a + 1) n (omega arith))

same-behind : (name xs ys : List ℕ) → name ++ xs ≡ name ++ ys → xs ≡ ys
same-behind [] xs ys e = e
same-behind (b ∷ bs) xs ys e = let more : bs ++ xs ≡ bs ++ ys = cc in same-behind bs xs ys more

-- the names of parts differ where their places do
pub part-differs : (name : List ℕ) → DiffersByPlace (part_name name)
part-differs name i j lt low e =
    let behind = same-behind name (46 ∷ decimal i) (46 ∷ decimal j) e in
    let digits : decimal i ≡ decimal j = cc in
    let same : i ≡ j = decimal_injective i j (omega arith) low digits in
    absurd (omega arith)

-- so do those of the edges from replicas
pub out-differs : (name : List ℕ) → DiffersByPlace (out_name name)
out-differs name i j lt low e =
    let behind = same-behind name (codes ".out." ++ decimal i) (codes ".out." ++ decimal j) e in
    let digits : decimal i ≡ decimal j = same-behind (codes ".out.") (decimal i) (decimal j) behind in
    let same : i ≡ j = decimal_injective i j (omega arith) low digits in
    absurd (omega arith)
