-- The least of some stamps: the calls find them, they are one list, and they decide what is inside.
use Rattle.std.proofs.Common.{◌≡◌, ℕ, ◌<◌, Bool, true, false, not, ◌&&◌, List, [], ◌∷◌, ◌++◌, length, get_or, refl, sym, ap, ◌∙◌, subst, zero, suc, ◌⊎◌, inl, inr, arith}
use Rattle.std.proofs.lemmas.List.Elements.{Contains-get_or, Contains-append_left, Contains-append_right}
use Rattle.std.specs.List.{AllByRecursion, Contains}
use Rattle.std.specs.List.Sorted.{IsStrictlySortedBy}
use Rattle.std.specs.Ordering.{is_lt}
use Rattle.std.specs.declared.cmp.Ordering.{Ordering}
use Rattle.std.specs.declared.cmp.Ordering.TheVariants.{Less, Equal, Greater}
use Rattle.fw_lemmas.proofs.Each.{each-at}
use Rattle.fw_time.specs.declared.stamp.Bounds.{Bounds}
use Rattle.fw_time.specs.Stamp.{leq, stamp_cmp, in_domain}
use Rattle.fw_time.proofs.StampLaws.{leq-trans, leq-antisym, before-irrefl, before-trans}
use Rattle.fw_frontier.specs.Front.{inside, IsCanonical}
use Rattle.fw_frontier.specs.Least.{IsOneOfTheLeast, AreLeastOf}
use Rattle.fw_frontier.specs.Outside.{front_without, front_without_all}
use Rattle.fw_frontier.proofs.GenericLaws.{no, found}
use Rattle.fw_frontier.proofs.InsideLaws.{inside-excluding, inside-excluding_all}
use Rattle.fw_frontier.proofs.AntichainLaws.{IsAntichain, all-excluding, all-excluding_all, antichain-excluding, antichain-excluding_all, antichain-at}
use Rattle.fw_frontier.proofs.CanonicalLaws.{antichain-canonical, canonical-antichain}
use Rattle.fw_frontier.proofs.NamesLaws.{all-outside}

-- ---- the stamps of a list

first : (o : List ℕ) (os : List (List ℕ)) → Contains (o ∷ os) o
first o os = (0, omega arith, refl)

later : (o : List ℕ) (os : List (List ℕ)) (t : List ℕ) → Contains os t → Contains (o ∷ os) t
later o os t c = Contains-append_right (o ∷ []) os t c

which : (o : List ℕ) (os : List (List ℕ)) (t : List ℕ) → Contains (o ∷ os) t → (o ≡ t) ⊎ Contains os t
which o os t c = at c.0 c.1 c.2
  where
    at : (k : ℕ) → k < length (o ∷ os) → get_or (o ∷ os) k t ≡ t → (o ≡ t) ⊎ Contains os t
    at zero l e = inl e
    at (suc k) l e = inr (k, omega arith, e)

none : {A : Type 0} (t : List ℕ) → Contains [] t → A
none t c = lies c.0 c.1
  where
    lies : {A : Type 0} (k : ℕ) → k < 0 → A
    lies k l = absurd (omega arith)

each-of : (P : List ℕ → Type 0) (os : List (List ℕ)) (t : List ℕ) → AllByRecursion P os → Contains os t → P t
each-of P os t h c = subst P c.2 (each-at P os c.0 t c.1 h)

all-from : (P : List ℕ → Type 0) (os : List (List ℕ)) → ((t : List ℕ) → Contains os t → P t) → AllByRecursion P os
all-from P [] f = tt
all-from P (o ∷ os) f = (f o (first o os), all-from P os (λ t c. f t (later o os t c)))

-- ---- of lists in order with the same stamps there is one

unordered : {A : Type 0} (s t : List ℕ) → stamp_cmp s t ≡ Less → stamp_cmp t s ≡ Less → A
unordered s t h k = no (sym (before-irrefl s) ∙ before-trans s t s (ap is_lt h) (ap is_lt k))

same-members : (xs ys : List (List ℕ)) → IsStrictlySortedBy stamp_cmp xs → IsStrictlySortedBy stamp_cmp ys
    → ((t : List ℕ) → Contains xs t → Contains ys t) → ((t : List ℕ) → Contains ys t → Contains xs t) → xs ≡ ys
unfolding IsStrictlySortedBy
same-members [] [] h k f g = refl
same-members [] (y ∷ ys) h k f g = none y (g y (first y ys))
same-members (x ∷ xs) [] h k f g = none x (f x (first x xs))
same-members (x ∷ xs) (y ∷ ys) h k f g =
    let e : x ≡ y = heads (which y ys x (f x (first x xs))) (which x xs y (g y (first y ys))) in
    let r : xs ≡ ys = same-members xs ys h.1 k.1
    (λ t c. rest x y xs ys t e h.0 c (which y ys t (f t (later x xs t c))))
    (λ t c. rest y x ys xs t (sym e) k.0 c (which x xs t (g t (later y ys t c)))) in
    ap (λ u. u ∷ xs) e ∙ ap (λ us. y ∷ us) r
  where
    heads : (y ≡ x) ⊎ Contains ys x → (x ≡ y) ⊎ Contains xs y → x ≡ y
    heads (inl e) d = sym e
    heads (inr c) (inl e) = e
    heads (inr c) (inr d) = unordered x y (each-of (λ q. stamp_cmp x q ≡ Less) xs y h.0 d) (each-of (λ q. stamp_cmp y q ≡ Less) ys x k.0 c)

    rest : (x y : List ℕ) (xs ys : List (List ℕ)) (t : List ℕ) → x ≡ y → AllByRecursion (λ q. stamp_cmp x q ≡ Less) xs → Contains xs t → (y ≡ t) ⊎ Contains ys t → Contains ys t
    rest x y xs ys t e h c (inl f) =
        let l : stamp_cmp x t ≡ Less = each-of (λ q. stamp_cmp x q ≡ Less) xs t h c in
        let same : t ≡ x = sym (e ∙ f) in
        let m : stamp_cmp t x ≡ Less = ap (λ u. stamp_cmp u x) same ∙ ap (λ u. stamp_cmp x u) (sym same) ∙ l in
        unordered x t l m
    rest x y xs ys t e h c (inr d) = d

-- ---- what makes a list the least of some stamps

sorted-antichain : (os : List (List ℕ)) → IsAntichain os → IsStrictlySortedBy stamp_cmp os
unfolding IsStrictlySortedBy
sorted-antichain [] h = tt
sorted-antichain (o ∷ os) h = (up os h.0.ascending, sorted-antichain os h.1)
  where
    less : (c : Ordering) → is_lt c ≡ true → c ≡ Less
    less Less e = refl
    less Equal e = no e
    less Greater e = no e

    up : (qs : List (List ℕ)) → AllByRecursion (λ q. is_lt (stamp_cmp o q) ≡ true) qs → AllByRecursion (λ q. stamp_cmp o q ≡ Less) qs
    up [] h = tt
    up (q ∷ qs) h = (less (stamp_cmp o q) h.0, up qs h.1)

-- the stamps of a list are outside
outside-each : (ss : List (List ℕ)) (s : List ℕ) → Contains ss s → inside ss s ≡ false
outside-each ss s c = each-of (λ p. inside ss p ≡ false) ss s (all-outside ss) c

one-of : (os : List (List ℕ)) (p q : List ℕ) → IsAntichain os → Contains os p → Contains os q → leq p q ≡ true → p ≡ q
one-of os p q h c d l =
    let e : get_or os c.0 [] ≡ p = other os c.0 p c.1 ∙ c.2 in
    let f : get_or os d.0 [] ≡ q = other os d.0 q d.1 ∙ d.2 in
    sym e ∙ antichain-at os c.0 d.0 h c.1 d.1 ((λ i. leq (e i) (f i)) ∙ l) ∙ f
  where
    other : (us : List (List ℕ)) (i : ℕ) (d : List ℕ) → i < length us → get_or us i [] ≡ get_or us i d
    other [] i d l = absurd (omega arith)
    other (u ∷ us) zero d l = refl
    other (u ∷ us) (suc i) d l = other us i d (omega arith)

least-from : (ss os : List (List ℕ)) → IsAntichain os → AllByRecursion (Contains ss) os → ((t : List ℕ) → inside os t ≡ inside ss t) → AreLeastOf ss os
least-from ss os h among same = record {
  ascending = sorted-antichain os h;
  members = λ o. (λ c. is-least o c, λ l. is-there o l);
}
  where
    -- each of the stamps has one of the list at most it
    under : (s : List ℕ) → Contains ss s → (i : ℕ) × ((i < length os) × (leq (get_or os i []) s ≡ true))
    under s c = found os s (same s ∙ outside-each ss s c)

    is-least : (o : List ℕ) → Contains os o → IsOneOfTheLeast ss o
    is-least o c = record {
      one_of_them = each-of (Contains ss) os o among c;
      only_itself = λ s d l.
          let u = under s d in
          let p = get_or os u.0 [] in
          let e : p ≡ o = one-of os p o h (Contains-get_or os u.0 [] u.1.0) c (leq-trans p s o u.1.1 l) in
          leq-antisym s o l (ap (λ v. leq v s) (sym e) ∙ u.1.1);
    }

    is-there : (o : List ℕ) → IsOneOfTheLeast ss o → Contains os o
    is-there o l =
        let u = under o l.one_of_them in
        let p = get_or os u.0 [] in
        let c : Contains os p = Contains-get_or os u.0 [] u.1.0 in
        subst (Contains os) (l.only_itself p (each-of (Contains ss) os p among c) u.1.1) c

-- ---- the calls find them

inside-append : (os ss : List (List ℕ)) (t : List ℕ) → inside (os ++ ss) t ≡ (inside os t && inside ss t)
inside-append [] ss t = refl
inside-append (o ∷ os) ss t = ap (λ c. not (leq o t) && c) (inside-append os ss t) ∙ assoc (not (leq o t)) (inside os t) (inside ss t)
  where
    assoc : (a b c : Bool) → (a && (b && c)) ≡ ((a && b) && c)
    assoc true b c = refl
    assoc false b c = refl

more-least : (ss os : List (List ℕ)) → IsAntichain os → AreLeastOf (os ++ ss) (front_without_all ss os)
more-least ss os h =
    least-from (os ++ ss) (front_without_all ss os) (antichain-excluding_all ss os h)
    (all-excluding_all (Contains (os ++ ss)) ss os (all-from (Contains (os ++ ss)) ss (Contains-append_right os ss)) (all-from (Contains (os ++ ss)) os (Contains-append_left os ss)))
    (λ t. inside-excluding_all ss os t ∙ sym (inside-append os ss t))

pub until-least : (ss : List (List ℕ)) → AreLeastOf ss (front_without_all ss [])
until-least ss = more-least ss [] tt

-- the least of some stamps are one list
pub least-same : (ss xs ys : List (List ℕ)) → AreLeastOf ss xs → AreLeastOf ss ys → xs ≡ ys
least-same ss xs ys h k =
    same-members xs ys h.ascending k.ascending (λ t c. (k.members t).1 ((h.members t).0 c)) (λ t c. (h.members t).1 ((k.members t).0 c))

least-antichain : (ss os : List (List ℕ)) → AreLeastOf ss os → IsAntichain os
least-antichain ss os h = subst IsAntichain (least-same ss (front_without_all ss []) os (until-least ss) h) (antichain-excluding_all ss [] tt)

pub meet-least : (ss os : List (List ℕ)) → AreLeastOf os os → AreLeastOf (os ++ ss) (front_without_all ss os)
meet-least ss os h = more-least ss os (least-antichain os os h)

pub cut-least : (s : List ℕ) (os : List (List ℕ)) → AreLeastOf os os → AreLeastOf (s ∷ os) (front_without s os)
cut-least s os h =
    least-from (s ∷ os) (front_without s os) (antichain-excluding s os (least-antichain os os h))
    (all-excluding (Contains (s ∷ os)) s os (first s os) (all-from (Contains (s ∷ os)) os (later s os)))
    (λ t. inside-excluding s os t ∙ swap (inside os t) (not (leq s t)))
  where
    swap : (a b : Bool) → (a && b) ≡ (b && a)
    swap true true = refl
    swap true false = refl
    swap false true = refl
    swap false false = refl

-- ---- what they decide

pub least-inside : (ss os : List (List ℕ)) (t : List ℕ) → AreLeastOf ss os → inside os t ≡ inside ss t
least-inside ss os t h = ap (λ us. inside us t) (least-same ss os (front_without_all ss []) h (until-least ss)) ∙ inside-excluding_all ss [] t

of-itself : (os : List (List ℕ)) → IsAntichain os → AreLeastOf os os
of-itself os h = least-from os os h (all-from (Contains os) os (λ t c. c)) (λ t. refl)

pub least-itself : (ss os : List (List ℕ)) → AreLeastOf ss os → AreLeastOf os os
least-itself ss os h = of-itself os (least-antichain ss os h)

pub canonical-least_itself : (b : Bounds) (os : List (List ℕ)) → IsCanonical b os → AreLeastOf os os
canonical-least_itself b os h = of-itself os (antichain-canonical b os h)

pub least-canonical : (b : Bounds) (ss os : List (List ℕ)) → AllByRecursion (λ s. in_domain b s ≡ true) ss → AreLeastOf ss os → IsCanonical b os
least-canonical b ss os d h =
    canonical-antichain b os (all-from (λ o. in_domain b o ≡ true) os (λ o c. each-of (λ s. in_domain b s ≡ true) ss o d ((h.members o).0 c).one_of_them)) (least-antichain ss os h)
