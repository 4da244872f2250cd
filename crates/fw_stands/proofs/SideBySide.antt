-- Two lists side by side.
use Rattle.std.proofs.Common.{◌≡◌, Bool, true, List, [], ◌∷◌, filter, refl, sym, subst}
use Rattle.std.specs.List.{AllByRecursion, AllZip}
use Rattle.fw_lemmas.proofs.Each.{each-one, each-filter}
use Rattle.fw_lemmas.proofs.Filters.{filter-swap}
use Rattle.fw_lemmas.proofs.SideBySide.{zip-weaker, zip-right}
use Rattle.fw_collect.proofs.CollectLaws.{zip-one}

-- with what holds of each on the left
pub zip-left : {A B : Type 0} (P : A → Type 0) (R S : A → B → Type 0) (xs : List A) (ys : List B) → ((a : A) (b : B) → P a → R a b → S a b) → AllByRecursion P xs
    → AllZip R xs ys → AllZip S xs ys
zip-left P R S [] [] w p r = tt
zip-left P R S [] (b ∷ ys) w p r = absurd r
zip-left P R S (a ∷ xs) [] w p r = absurd r
zip-left P R S (a ∷ xs) (b ∷ ys) w p r = (w a b p.0 r.0, zip-left P R S xs ys w p.1 r.1)

pub zip-filter : {A B : Type 0} (R : A → B → Type 0) (f : A → Bool) (g : B → Bool) (xs : List A) (ys : List B) → ((a : A) (b : B) → R a b → f a ≡ g b) → AllZip R xs ys
    → AllZip R (filter f xs) (filter g ys)
zip-filter R f g [] [] w r = tt
zip-filter R f g [] (b ∷ ys) w r = absurd r
zip-filter R f g (a ∷ xs) [] w r = absurd r
zip-filter R f g (a ∷ xs) (b ∷ ys) w r = zip-one R (f a) (g b) a b (filter f xs) (filter g ys) (w a b r.0) r.0 (zip-filter R f g xs ys w r.1)

-- what is left on both sides, where those on the right passed a first test
pub zip-gone : {A B : Type 0} (R : A → B → Type 0) (first : B → Bool) (f : A → Bool) (g : B → Bool) (xs : List A) (ys : List B)
    → ((a : A) (b : B) → first b ≡ true → R a b → f a ≡ g b) → AllZip R xs (filter first ys) → AllZip R (filter f xs) (filter first (filter g ys))
zip-gone {A = A} {B = B} R first f g xs ys w r =
    let S : A → B → Type 0 = λ a b. (first b ≡ true) × R a b in
    subst (AllZip R (filter f xs)) (sym (filter-swap first g g ys (each-one (λ b. first b ≡ true → g b ≡ g b) ys (λ b e. refl))))
    (zip-weaker S R (filter f xs) (filter g (filter first ys)) (λ a b s. s.1)
    (zip-filter S f g xs (filter first ys) (λ a b s. w a b s.0 s.1)
    (zip-right (λ b. first b ≡ true) R S xs (filter first ys) (λ a b p q. (p, q))
    (each-filter (λ b. first b ≡ true) first ys (each-one (λ b. first b ≡ true → first b ≡ true) ys (λ b e. e))) r)))
