-- Where names stand among distinct ones, and full names apart from each other.
use Rattle.std.proofs.Common.{◌≡◌, ℕ, zero, suc, ◌+◌, ◌<◌, ◌^◌, Bool, true, false, ◌==◌, ◌&&◌, not, cond, List, [], ◌∷◌, ◌++◌, length, map, get_or, refl, sym, ap, ◌∙◌, subst, arith}
use Rattle.std.proofs.lemmas.Bool.{true≢false}
use Rattle.std.proofs.lemmas.Bool.Decides.{nat_tests}
use Rattle.std.proofs.lemmas.Fmt.{decimal_injective}
use Rattle.std.proofs.lemmas.List.{length-map}
use Rattle.std.proofs.lemmas.List.Folds.{list_all-append}
use Rattle.std.proofs.lemmas.List.Sums.{passes_at_first, position_or_len_is}
use Rattle.std.proofs.lemmas.Map.Keys.{apart_from_distinct}
use Rattle.std.proofs.lemmas.Slice.Eq.{bytes_eq-Decides}
use Rattle.std.specs.Fmt.{decimal}
use Rattle.std.specs.List.{AllByRecursion, IsDistinct, flat_map, list_all}
use Rattle.std.specs.Str.{bytes_eq}
use Rattle.fw_lemmas.proofs.Bools.{same_tests}
use Rattle.fw_lemmas.proofs.Each.{each-append, each-of_places, each-prefix, each-suffix}
use Rattle.fw_lemmas.proofs.Numbers.{eqb-self}
use Rattle.fw_flow.specs.FullNames.{part_name}
use Rattle.fw_flow.specs.Raw.{place_or_end}
use Rattle.fw_flow.proofs.DistinctLaws.{apart-where}
use Rattle.fw_flow.proofs.FullNameLaws.{IsDotless}
use Rattle.fw_flow.proofs.NewLaws.{other_way}

-- ---- names

pub name-equal : (a b : List ℕ) → bytes_eq a b ≡ true → a ≡ b
name-equal a b e = (bytes_eq-Decides a b).0 e

pub name-same : (a b : List ℕ) → a ≡ b → bytes_eq a b ≡ true
name-same a b e = (bytes_eq-Decides a b).1 e

pub name-itself : (a : List ℕ) → bytes_eq a a ≡ true
name-itself a = (bytes_eq-Decides a a).1 refl

-- a name that has a place stands there
pub name-there : (names : List (List ℕ)) (name : List ℕ) → place_or_end names name < length names → get_or names (place_or_end names name) [] ≡ name
name-there names name lt = sym (name-equal name (get_or names (place_or_end names name) []) (passes_at_first (bytes_eq name) names [] lt))

-- the place of a name among distinct ones is its own
pub place-own : (names : List (List ℕ)) (name : List ℕ) (i : ℕ) → IsDistinct bytes_eq names → i < length names → get_or names i [] ≡ name → place_or_end names name ≡ i
place-own names name i once lt is =
    position_or_len_is (bytes_eq name) names i [] (omega (arith, lt))
    (λ k below. other_way (get_or names k []) name (ap (bytes_eq (get_or names k [])) (sym is) ∙ apart_from_distinct bytes_eq names k i [] once below lt))
    (λ h. (bytes_eq-Decides name (get_or names i [])).1 (sym is))

pub number-equal : (m n : ℕ) → (m == n) ≡ true → m ≡ n
number-equal m n e = grind (arith, nat_tests, e)

-- of a name that has a place, others have the place alone if they are that name
pub places-equal : (names : List (List ℕ)) (a b : List ℕ) → place_or_end names b < length names → place_or_end names a ≡ place_or_end names b → a ≡ b
places-equal names a b lt e =
    sym (name-there names a (subst (λ p. p < length names) (sym e) lt)) ∙ ap (λ p. get_or names p []) e ∙ name-there names b lt

pub same-places : (names : List (List ℕ)) (a b : List ℕ) → place_or_end names b < length names → (place_or_end names a == place_or_end names b) ≡ bytes_eq a b
same-places names a b lt =
    same_tests (place_or_end names a == place_or_end names b) (bytes_eq a b)
    (λ e. (bytes_eq-Decides a b).1 (places-equal names a b lt (number-equal (place_or_end names a) (place_or_end names b) e)))
    (λ e. ap (λ n. place_or_end names n == place_or_end names b) (name-equal a b e) ∙ eqb-self (place_or_end names b))

-- things with distinct names stand at the places of their names
module _ {A : Type 0} (name_of : A → List ℕ) where
  pub own-place : (xs : List A) (i : ℕ) (d : A) → IsDistinct bytes_eq (map name_of xs) → i < length xs → place_or_end (map name_of xs) (name_of (get_or xs i d)) ≡ i
  own-place xs i d once lt =
      place-own (map name_of xs) (name_of (get_or xs i d)) i once (omega (arith, lt, length-map xs name_of)) (name-at xs i d lt)
    where
      name-at : (ys : List A) (j : ℕ) (e : A) → j < length ys → get_or (map name_of ys) j [] ≡ name_of (get_or ys j e)
      name-at [] j e lt = absurd (omega arith)
      name-at (y ∷ ys) zero e lt = refl
      name-at (y ∷ ys) (suc j) e lt = name-at ys j e (omega arith)

  pub each-stands : (xs : List A) (d : A) → IsDistinct bytes_eq (map name_of xs)
      → AllByRecursion (λ x. (place_or_end (map name_of xs) (name_of x) < length xs) × (get_or xs (place_or_end (map name_of xs) (name_of x)) d ≡ x)) xs
  each-stands xs d once =
      each-of_places (λ x. (place_or_end (map name_of xs) (name_of x) < length xs) × (get_or xs (place_or_end (map name_of xs) (name_of x)) d ≡ x)) d xs
      (λ p lt. let own = own-place xs p d once lt in (subst (λ n. n < length xs) (sym own) lt, ap (λ n. get_or xs n d) own))

-- ---- full names

dot-last : (a : Bool) → (a && false) ≡ false
dot-last true = refl
dot-last false = refl

-- the name of a part has a dot
pub part-dot : (name : List ℕ) (i : ℕ) → IsDotless (part_name name i) → ⊥
part-dot name i k =
    true≢false (sym k ∙ list_all-append (λ b. not (b == 46)) name (46 ∷ decimal i) ∙ dot-last (list_all (λ b. not (b == 46)) name))

pub plain-part : (name other : List ℕ) (i : ℕ) → IsDotless name → bytes_eq name (part_name other i) ≡ false
plain-part name other i k = apart-where name (part_name other i) (λ e. part-dot other i (subst IsDotless e k))

pub part-plain : (name other : List ℕ) (i : ℕ) → IsDotless name → bytes_eq (part_name other i) name ≡ false
part-plain name other i k = apart-where (part_name other i) name (λ e. part-dot other i (subst IsDotless (sym e) k))

dotless-head : (b : ℕ) (bs : List ℕ) → IsDotless (b ∷ bs) → b ≡ 46 → ⊥
dotless-head b bs k e = absurd (grind (arith, nat_tests, k, e))

dotless-tail : (b : ℕ) (bs : List ℕ) → IsDotless (b ∷ bs) → IsDotless bs
dotless-tail b bs k = grind (arith, nat_tests, k)

-- what stands before the first dot and behind it
pub dot-once : (a b x y : List ℕ) → IsDotless a → IsDotless b → a ++ 46 ∷ x ≡ b ++ 46 ∷ y → (a ≡ b) × (x ≡ y)
dot-once [] [] x y ka kb e = let rest : x ≡ y = cc in (refl, rest)
dot-once [] (c ∷ b) x y ka kb e = let same : c ≡ 46 = cc in absurd (dotless-head c b kb same)
dot-once (c ∷ a) [] x y ka kb e = let same : c ≡ 46 = cc in absurd (dotless-head c a ka same)
dot-once (c ∷ a) (d ∷ b) x y ka kb e =
    let first : c ≡ d = cc in
    let behind : a ++ 46 ∷ x ≡ b ++ 46 ∷ y = cc in
    let rest = dot-once a b x y (dotless-tail c a ka) (dotless-tail d b kb) behind in
    (ap (λ n. n ∷ a) first ∙ ap (λ ns. d ∷ ns) rest.0, rest.1)

-- the name of a part tells the name and the place
pub part-once : (a b : List ℕ) (i j : ℕ) → IsDotless a → IsDotless b → i < 2 ^ 64 → j < 2 ^ 64 → part_name a i ≡ part_name b j → (a ≡ b) × (i ≡ j)
part-once a b i j ka kb low high e =
    let both = dot-once a b (decimal i) (decimal j) ka kb e in (both.0, decimal_injective i j low high both.1)

-- ---- lists that are joined

pub each-joined : {A B : Type 0} (P : B → Type 0) (f : A → List B) (xs : List A) → AllByRecursion (λ x. AllByRecursion P (f x)) xs → AllByRecursion P (flat_map f xs)
each-joined P f [] a = tt
each-joined P f (x ∷ xs) a = each-append P (f x) (flat_map f xs) a.0 (each-joined P f xs a.1)

pub each_of-joined : {A B : Type 0} (P : B → Type 0) (f : A → List B) (xs : List A) → AllByRecursion P (flat_map f xs) → AllByRecursion (λ x. AllByRecursion P (f x)) xs
each_of-joined P f [] a = tt
each_of-joined P f (x ∷ xs) a = (each-prefix P (f x) (flat_map f xs) a, each_of-joined P f xs (each-suffix P (f x) (flat_map f xs) a))

pub joined-same : {A B : Type 0} (f g : A → List B) (xs : List A) → AllByRecursion (λ x. f x ≡ g x) xs → flat_map f xs ≡ flat_map g xs
joined-same f g [] a = refl
joined-same f g (x ∷ xs) a = ap (λ ys. ys ++ flat_map f xs) a.0 ∙ ap (λ ys. g x ++ ys) (joined-same f g xs a.1)

-- with something at a name, and nothing at others, it is there once
pub joined-once : {B : Type 0} (name : List ℕ) (made : List B) (names : List (List ℕ)) → IsDistinct bytes_eq names → place_or_end names name < length names
    → flat_map (λ x. cond (bytes_eq x name) made []) names ≡ made
unfolding IsDistinct
joined-once {B} name made names once lt = by names once lt
  where
    none : (xs : List (List ℕ)) → AllByRecursion (λ x. bytes_eq name x ≡ false) xs → flat_map (λ x. cond (bytes_eq x name) made []) xs ≡ []
    none [] a = refl
    none (x ∷ xs) a = ap (λ b. cond b made [] ++ flat_map (λ y. cond (bytes_eq y name) made []) xs) (other_way name x a.0) ∙ none xs a.1

    nil : (xs : List B) → xs ++ [] ≡ xs
    nil [] = refl
    nil (x ∷ xs) = ap (λ ys. x ∷ ys) (nil xs)

    later : (b : Bool) (p n : ℕ) → b ≡ false → cond (not b) (1 + p) 0 < suc n → p < n
    later true p n e h = absurd (true≢false e)
    later false p n e h = omega arith

    one : (x : List ℕ) (xs : List (List ℕ)) (b : Bool) → bytes_eq x name ≡ b → AllByRecursion (λ y. bytes_eq x y ≡ false) xs
        → (bytes_eq x name ≡ false → flat_map (λ y. cond (bytes_eq y name) made []) xs ≡ made) → cond b made [] ++ flat_map (λ y. cond (bytes_eq y name) made []) xs ≡ made
    one x xs true e a rest = ap (λ ys. made ++ ys) (none xs (subst (λ n. AllByRecursion (λ y. bytes_eq n y ≡ false) xs) (name-equal x name e) a)) ∙ nil made
    one x xs false e a rest = rest e

    by : (xs : List (List ℕ)) → IsDistinct bytes_eq xs → place_or_end xs name < length xs → flat_map (λ x. cond (bytes_eq x name) made []) xs ≡ made
    by [] d l = absurd (omega arith)
    by (x ∷ xs) d l = one x xs (bytes_eq x name) refl d.0 (λ e. by xs d.1 (later (bytes_eq name x) (place_or_end xs name) (length xs) (other_way x name e) l))
