-- Two lists side by side.
use Rattle.std.proofs.Common.{List, [], ◌∷◌, ◌++◌}
use Rattle.std.specs.List.{AllZip, AllByRecursion}

pub zip-weaker : {A B : Type 0} (R S : A → B → Type 0) (xs : List A) (ys : List B) → ((a : A) (b : B) → R a b → S a b) → AllZip R xs ys → AllZip S xs ys
zip-weaker R S [] [] w r = tt
zip-weaker R S [] (b ∷ ys) w r = absurd r
zip-weaker R S (a ∷ xs) [] w r = absurd r
zip-weaker R S (a ∷ xs) (b ∷ ys) w r = (w a b r.0, zip-weaker R S xs ys w r.1)

-- with what holds of each on the right
pub zip-right : {A B : Type 0} (P : B → Type 0) (R S : A → B → Type 0) (xs : List A) (ys : List B) → ((a : A) (b : B) → P b → R a b → S a b) → AllByRecursion P ys
    → AllZip R xs ys → AllZip S xs ys
zip-right P R S [] [] w p r = tt
zip-right P R S [] (b ∷ ys) w p r = absurd r
zip-right P R S (a ∷ xs) [] w p r = absurd r
zip-right P R S (a ∷ xs) (b ∷ ys) w p r = (w a b p.0 r.0, zip-right P R S xs ys w p.1 r.1)

pub zip-both : {A B : Type 0} (R S : A → B → Type 0) (xs : List A) (ys : List B) → AllZip R xs ys → AllZip S xs ys → AllZip (λ a b. R a b × S a b) xs ys
zip-both R S [] [] r s = tt
zip-both R S [] (b ∷ ys) r s = absurd r
zip-both R S (a ∷ xs) [] r s = absurd r
zip-both R S (a ∷ xs) (b ∷ ys) r s = ((r.0, s.0), zip-both R S xs ys r.1 s.1)

pub zip-append : {A B : Type 0} (R : A → B → Type 0) (xs : List A) (ys : List B) (us : List A) (vs : List B) → AllZip R xs ys → AllZip R us vs → AllZip R (xs ++ us) (ys ++ vs)
zip-append R [] [] us vs r s = s
zip-append R [] (b ∷ ys) us vs r s = absurd r
zip-append R (a ∷ xs) [] us vs r s = absurd r
zip-append R (a ∷ xs) (b ∷ ys) us vs r s = (r.0, zip-append R xs ys us vs r.1 s)
