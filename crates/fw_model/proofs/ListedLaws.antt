-- The canonical fronts of a domain, and all lists over given elements, one by one.
use Rattle.std.proofs.Common.{◌&&◌, ◌≡◌, ℕ, zero, suc, ◌<◌, Bool, not, List, [], ◌∷◌, ◌++◌, length, map, filter, refl, sym, ap, subst, inl, inr, ◌⊎◌, arith}
use Rattle.std.specs.List.{AllByRecursion}
use Rattle.std.proofs.lemmas.Bool.{cond_both, cases_lt}
use Rattle.fw_time.specs.Stamp.{in_domain}
use Rattle.fw_time.specs.declared.stamp.Bounds.{Bounds}
use Rattle.fw_frontier.specs.Front.{Front, frontier_of, IsCanonical}
use Rattle.fw_frontier.specs.Outside.{front_without_all}
use Rattle.fw_frontier.proofs.NamesLaws.{names-self, names-same, frontier-closed}
use Rattle.fw_model.proofs.FrontLaws.{outsiders, outsiders-name}
use Rattle.fw_model.proofs.StampLists.{stamps}

-- ---- elements of lists

-- the element is in the list
unfoldable pub IsIn : {A : Type 0} → A → List A → Type 0
IsIn x [] = ⊥
IsIn x (y ∷ ys) = (x ≡ y) ⊎ IsIn x ys

pub each-in : {A : Type 0} (P : A → Type 0) (x : A) (xs : List A) → IsIn x xs → AllByRecursion P xs → P x
unfolding IsIn
each-in P x [] i a = absurd i
each-in P x (y ∷ ys) (inl e) a = subst P (sym e) a.0
each-in P x (y ∷ ys) (inr i) a = each-in P x ys i a.1

in-left : {A : Type 0} (x : A) (xs ys : List A) → IsIn x xs → IsIn x (xs ++ ys)
unfolding IsIn
in-left x [] ys i = absurd i
in-left x (y ∷ xs) ys (inl e) = inl e
in-left x (y ∷ xs) ys (inr i) = inr (in-left x xs ys i)

in-right : {A : Type 0} (x : A) (xs ys : List A) → IsIn x ys → IsIn x (xs ++ ys)
unfolding IsIn
in-right x [] ys i = i
in-right x (y ∷ xs) ys i = inr (in-right x xs ys i)

pub in-map : {A B : Type 0} (f : A → B) (x : A) (xs : List A) → IsIn x xs → IsIn (f x) (map f xs)
unfolding IsIn
in-map f x [] i = absurd i
in-map f x (y ∷ xs) (inl e) = inl (ap f e)
in-map f x (y ∷ xs) (inr i) = inr (in-map f x xs i)

-- what a function makes of each pair of elements of two lists
pub pairs_of : {A B C : Type 0} → (A → B → C) → List A → List B → List C
pairs_of f [] ys = []
pairs_of f (x ∷ xs) ys = map (f x) ys ++ pairs_of f xs ys

pub in-pairs : {A B C : Type 0} (f : A → B → C) (x : A) (y : B) (xs : List A) (ys : List B) → IsIn x xs → IsIn y ys → IsIn (f x y) (pairs_of f xs ys)
unfolding IsIn pairs_of
in-pairs f x y [] ys i j = absurd i
in-pairs {C} f x y (z ∷ xs) ys (inl e) j =
    in-left (f x y) (map (f z) ys) (pairs_of f xs ys) (subst (λ (w : C). IsIn w (map (f z) ys)) (ap (λ a. f a y) (sym e)) (in-map (f z) y ys j))
in-pairs f x y (z ∷ xs) ys (inr i) j = in-right (f x y) (map (f z) ys) (pairs_of f xs ys) (in-pairs f x y xs ys i j)

-- the lists of n elements of these
pub lists_of : {A : Type 0} → List A → ℕ → List (List A)
lists_of xs zero = [] ∷ []
lists_of xs (suc n) = pairs_of (λ y ys. y ∷ ys) xs (lists_of xs n)

pub in-lists : {A : Type 0} (xs ys : List A) (n : ℕ) → length ys ≡ n → AllByRecursion (λ y. IsIn y xs) ys → IsIn ys (lists_of xs n)
unfolding IsIn lists_of
in-lists xs [] zero l a = inl refl
in-lists xs [] (suc n) l a = absurd (omega arith)
in-lists xs (y ∷ ys) zero l a = absurd (omega arith)
in-lists xs (y ∷ ys) (suc n) l a = in-pairs (λ z zs. z ∷ zs) y ys xs (lists_of xs n) a.0 (in-lists xs ys n (omega arith) a.1)

-- ---- fronts

-- the lists that keep some of the elements
selections : {A : Type 0} → List A → List (List A)
selections [] = [] ∷ []
selections (x ∷ xs) = map (λ ys. x ∷ ys) (selections xs) ++ selections xs

in-selections : {A : Type 0} (test : A → Bool) (xs : List A) → IsIn (filter test xs) (selections xs)
unfolding IsIn selections
in-selections test [] = inl refl
in-selections {A} test (x ∷ xs) =
    let i = in-selections test xs in
    cond_both (test x) (x ∷ filter test xs) (filter test xs) (λ (ys : List A). IsIn ys (map (λ zs. x ∷ zs) (selections xs) ++ selections xs))
    (λ e. in-left (x ∷ filter test xs) (map (λ zs. x ∷ zs) (selections xs)) (selections xs) (in-map (λ zs. x ∷ zs) (filter test xs) (selections xs) i))
    (λ e. in-right (filter test xs) (map (λ zs. x ∷ zs) (selections xs)) (selections xs) i)

-- the fronts of a domain
pub fronts_of : Bounds → List Front
fronts_of b = map (λ ss. front_without_all ss []) (selections (stamps b.greatest))

pub in-fronts : (b : Bounds) (os : Front) → IsCanonical b os → IsIn os (fronts_of b)
unfolding fronts_of
in-fronts b os c =
    let f = frontier_of b os in
    let ss = outsiders b f in
    let e : os ≡ front_without_all ss [] = names-same b os (front_without_all ss []) f (names-self b os c) (outsiders-name b f (frontier-closed b os)) in
    subst (λ (x : Front). IsIn x (map (λ xs. front_without_all xs []) (selections (stamps b.greatest)))) (sym e)
    (in-map (λ xs. front_without_all xs []) ss (selections (stamps b.greatest)) (in-selections (λ t. in_domain b t && not (f t)) (stamps b.greatest)))

-- the fronts of the first n of these domains
pub fronts_below : (ℕ → Bounds) → ℕ → List Front
fronts_below bounds zero = []
fronts_below bounds (suc n) = fronts_of (bounds n) ++ fronts_below bounds n

pub in-fronts_below : (bounds : ℕ → Bounds) (n p : ℕ) → p < n → (os : Front) → IsCanonical (bounds p) os → IsIn os (fronts_below bounds n)
unfolding fronts_below
in-fronts_below bounds zero p l os c = absurd (omega arith)
in-fronts_below bounds (suc n) p l os c = elim (cases_lt p n) [
  | inl m ↦ in-right os (fronts_of (bounds n)) (fronts_below bounds n) (in-fronts_below bounds n p m os c)
  | inr m ↦
      let e : p ≡ n = omega arith in
      in-left os (fronts_of (bounds n)) (fronts_below bounds n) (in-fronts (bounds n) os (subst (λ q. IsCanonical (bounds q) os) e c))
]
