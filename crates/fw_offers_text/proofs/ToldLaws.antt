-- What is told first, and lists over places with one changed.
use Rattle.std.proofs.Common.{◌≡◌, ℕ, ◌<◌, Bool, true, false, not, ◌&&◌, ◌||◌, ◌==◌, cond, List, [], ◌∷◌, ◌++◌, map, Option, Some, None, refl, sym, ◌∙◌, ap, subst, arith, set, get_or}
use Rattle.std.specs.Prelude.{◌≢◌}
use Rattle.std.proofs.lemmas.Bool.{eq-eqb, eqb-true, true≢false}
use Rattle.std.proofs.lemmas.List.{length-set, get_or-set_same, get_or-set_other}
use Rattle.std.proofs.lemmas.List.FromFn.{get_or-map-range_with_len, length-map-range_with_len, fill_by_all}
use Rattle.std.specs.List.{list_any, range_with_len}
use Rattle.std.specs.Option.{is_none, is_some, option_or}
use Rattle.fw_offers_text.specs.Statements.{first_told}

-- ---- options

pub or_none : {A : Type 0} (o : Option A) → option_or o None ≡ o
or_none None = refl
or_none (Some a) = refl

or_assoc : {A : Type 0} (o p q : Option A) → option_or o (option_or p q) ≡ option_or (option_or o p) q
or_assoc None p q = refl
or_assoc (Some a) p q = refl

pub none_or : {A : Type 0} (o p : Option A) → is_none o ≡ true → option_or o p ≡ p
none_or None p h = refl
none_or (Some a) p h = absurd (cc)

pub none-some : {A : Type 0} (o : Option A) → not (is_some o) ≡ is_none o
none-some None = refl
none-some (Some a) = refl

pub true_option : {A : Type 0} (b : Bool) (a : A) → b ≡ true → cond b (Some a) None ≡ Some a
true_option b a h = ap (λ c. cond c (Some a) None) h

pub false_option : {A : Type 0} (b : Bool) (a : A) → b ≡ false → cond b (Some a) None ≡ None
false_option b a h = ap (λ c. cond c (Some a) None) h

pub some_if : {A : Type 0} (b : Bool) (a : A) → b ≡ is_some (cond b (Some a) None)
some_if true a = refl
some_if false a = refl

-- ---- what is told first

pub first_more : {S A : Type 0} (tells : S → Option A) (said : List S) (s : S) → first_told tells (said ++ s ∷ []) ≡ option_or (first_told tells said) (tells s)
first_more tells [] s = or_none (tells s)
first_more tells (t ∷ said) s = ap (option_or (tells t)) (first_more tells said s) ∙ or_assoc (tells t) (first_told tells said) (tells s)

some-or : {A : Type 0} (o p : Option A) → (is_some o || is_some p) ≡ is_some (option_or o p)
some-or None p = refl
some-or (Some a) p = refl

-- something is told where one of the statements tells it
pub any_told : {S A : Type 0} (tells : S → Option A) (test : S → Bool) (said : List S) → ((s : S) → test s ≡ is_some (tells s)) → list_any test said ≡ is_some (first_told tells said)
any_told tells test [] h = refl
any_told tells test (s ∷ said) h = ap (λ b. b || list_any test said) (h s) ∙ ap (λ b. is_some (tells s) || b) (any_told tells test said h) ∙ some-or (tells s) (first_told tells said)

pub any_same : {S : Type 0} (test other : S → Bool) (said : List S) → ((s : S) → test s ≡ other s) → list_any test said ≡ list_any other said
any_same test other [] h = refl
any_same test other (s ∷ said) h = ap (λ b. b || list_any test said) (h s) ∙ ap (λ b. other s || b) (any_same test other said h)

pub any_none : {S : Type 0} (test : S → Bool) (said : List S) → ((s : S) → test s ≡ false) → list_any test said ≡ false
any_none test [] h = refl
any_none test (s ∷ said) h = ap (λ b. b || list_any test said) (h s) ∙ any_none test said h

-- ---- lists over places

same_bool : (p q : ℕ) → (p == q) ≡ false → q ≢ p
same_bool p q h e = true≢false (sym (eq-eqb p q (sym e)) ∙ h)

-- a list over places in which one is changed
pub map-set : {A : Type 0} (f g : ℕ → A) (n p : ℕ) (v : A) → p < n → v ≡ g p → ((q : ℕ) → (p == q) ≡ false → f q ≡ g q) → set (map f (range_with_len 0 n)) p v ≡ map g (range_with_len 0 n)
map-set f g n p v below here there =
    fill_by_all g (set (map f (range_with_len 0 n)) p v) n v
    (length-set (map f (range_with_len 0 n)) p v ∙ length-map-range_with_len f 0 n)
    (λ k small. by k small (p == k) refl)
  where
    by : (k : ℕ) → k < n → (b : Bool) → (p == k) ≡ b → get_or (set (map f (range_with_len 0 n)) p v) k v ≡ g k
    by k small true e =
        let same : p ≡ k = eqb-true p k e in
        subst (λ j. get_or (set (map f (range_with_len 0 n)) p v) j v ≡ g j) same
        (get_or-set_same (map f (range_with_len 0 n)) p v v (omega (arith, below, length-map-range_with_len f 0 n)) ∙ here)
    by k small false e =
        get_or-set_other (map f (range_with_len 0 n)) p k v v (same_bool p k e)
        ∙ get_or-map-range_with_len f 0 n k k v small (omega arith) ∙ there k e

pub map-same : {A : Type 0} (f g : ℕ → A) (xs : List ℕ) → ((q : ℕ) → f q ≡ g q) → map f xs ≡ map g xs
map-same f g [] h = refl
map-same f g (x ∷ xs) h = ap (λ y. y ∷ map f xs) (h x) ∙ ap (λ ys. g x ∷ ys) (map-same f g xs h)
