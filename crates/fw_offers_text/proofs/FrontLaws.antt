-- Which stamps name a frontier, as tests.
use Rattle.std.proofs.Common.{◌≡◌, Bool, true, false, not, ◌&&◌, ◌||◌, cond, List, [], ◌∷◌, Some, None, refl, sym, ◌∙◌, ap, subst}
use Rattle.std.specs.List.{AllByRecursion, list_all}
use Rattle.std.specs.Ordering.{is_lt}
use Rattle.fw_time.specs.Stamp.{Stamp, leq, in_domain, stamp_cmp}
use Rattle.fw_time.specs.declared.stamp.Bounds.{Bounds}
use Rattle.fw_frontier.specs.Front.{Front, frontier_of, IsCanonical, IsFrontOf}
use Rattle.fw_frontier.proofs.NamesLaws.{names-same, names-self}
use Rattle.fw_offers_text.specs.Statements.{are_least_in_order, is_canonical}
use Rattle.std.proofs.lemmas.Bool.{and_parts, and_from, not-true}

pub tested-all : {A : Type 0} (P : A → Type 0) (test : A → Bool) (xs : List A) → ((x : A) → test x ≡ true → P x) → list_all test xs ≡ true → AllByRecursion P xs
tested-all P test [] h k = tt
tested-all P test (x ∷ xs) h k = let t = and_parts (test x) (list_all test xs) k in (h x t.0, tested-all P test xs h t.1)

pub all-tested : {A : Type 0} (P : A → Type 0) (test : A → Bool) (xs : List A) → ((x : A) → P x → test x ≡ true) → AllByRecursion P xs → list_all test xs ≡ true
all-tested P test [] h k = refl
all-tested P test (x ∷ xs) h k = and_from (test x) (list_all test xs) (h x k.0) (all-tested P test xs h k.1)

-- stamps of the domain, as a property of each
pub all_in-domain : (b : Bounds) (f : Front) → list_all (in_domain b) f ≡ true → AllByRecursion (λ s. in_domain b s ≡ true) f
all_in-domain b f h = tested-all (λ s. in_domain b s ≡ true) (in_domain b) f (λ s k. k) h

before-all : (o : Stamp) (os : Front) → list_all (λ q. is_lt (stamp_cmp o q) && not (leq o q || leq q o)) os ≡ true
    → AllByRecursion (λ q. is_lt (stamp_cmp o q) ≡ true) os × AllByRecursion (λ q. (leq o q || leq q o) ≡ false) os
before-all o os h = (
  tested-all (λ q. is_lt (stamp_cmp o q) ≡ true) (λ q. is_lt (stamp_cmp o q) && not (leq o q || leq q o)) os (λ q k. (and_parts (is_lt (stamp_cmp o q)) (not (leq o q || leq q o)) k).0) h,
  tested-all (λ q. (leq o q || leq q o) ≡ false) (λ q. is_lt (stamp_cmp o q) && not (leq o q || leq q o)) os (λ q k. not-true (leq o q || leq q o) (and_parts (is_lt (stamp_cmp o q)) (not (leq o q || leq q o)) k).1) h,
)

all-before : (o : Stamp) (os : Front) → AllByRecursion (λ q. is_lt (stamp_cmp o q) ≡ true) os → AllByRecursion (λ q. (leq o q || leq q o) ≡ false) os
    → list_all (λ q. is_lt (stamp_cmp o q) && not (leq o q || leq q o)) os ≡ true
all-before o [] h k = refl
all-before o (q ∷ os) h k =
    and_from (is_lt (stamp_cmp o q) && not (leq o q || leq q o)) (list_all (λ q. is_lt (stamp_cmp o q) && not (leq o q || leq q o)) os)
    (and_from (is_lt (stamp_cmp o q)) (not (leq o q || leq q o)) h.0 (ap not k.0)) (all-before o os h.1 k.1)

least-sound : (b : Bounds) (f : Front) → list_all (in_domain b) f ≡ true → are_least_in_order f ≡ true → IsCanonical b f
least-sound b [] h k = tt
least-sound b (o ∷ os) h k =
    let d = and_parts (in_domain b o) (list_all (in_domain b) os) h in
    let t = and_parts (list_all (λ q. is_lt (stamp_cmp o q) && not (leq o q || leq q o)) os) (are_least_in_order os) k in
    let u = before-all o os t.0 in
    (record { in_the_domain = d.0; ascending = u.0; incomparable = u.1 }, least-sound b os d.1 t.1)

pub canonical-sound : (b : Bounds) (f : Front) → is_canonical b f ≡ true → IsCanonical b f
canonical-sound b f h = let t = and_parts (list_all (in_domain b) f) (are_least_in_order f) h in least-sound b f t.0 t.1

least-complete : (b : Bounds) (f : Front) → IsCanonical b f → are_least_in_order f ≡ true
least-complete b [] h = refl
least-complete b (o ∷ os) h =
    and_from (list_all (λ q. is_lt (stamp_cmp o q) && not (leq o q || leq q o)) os) (are_least_in_order os)
    (all-before o os h.0.ascending h.0.incomparable) (least-complete b os h.1)

all_of_domain : (b : Bounds) (f : Front) → IsCanonical b f → list_all (in_domain b) f ≡ true
all_of_domain b [] h = refl
all_of_domain b (o ∷ os) h = and_from (in_domain b o) (list_all (in_domain b) os) h.0.in_the_domain (all_of_domain b os h.1)

pub canonical-complete : (b : Bounds) (f : Front) → IsCanonical b f → is_canonical b f ≡ true
canonical-complete b f h = and_from (list_all (in_domain b) f) (are_least_in_order f) (all_of_domain b f h) (least-complete b f h)

-- stamps of the domain are the least of their frontier, in order, where they are the list that names it
pub named_or_other : (b : Bounds) (stamps least : Front) (same : Bool) → list_all (in_domain b) stamps ≡ true → IsFrontOf b least (frontier_of b stamps)
    → (same ≡ true → stamps ≡ least) → (stamps ≡ least → same ≡ true) → same ≡ are_least_in_order stamps
named_or_other b stamps least true domain names is from =
    sym (least-complete b stamps (subst (IsCanonical b) (sym (is refl)) names.canonical))
named_or_other b stamps least false domain names is from = by (are_least_in_order stamps) refl
  where
    by : (c : Bool) → are_least_in_order stamps ≡ c → false ≡ c
    by false e = refl
    by true e = from (names-same b stamps least (frontier_of b stamps) (names-self b stamps (least-sound b stamps domain e)) names)

-- the same as the code tests it
pub front_or_none : (b : Bounds) (stamps told outside least : Front) (same : Bool) → told ≡ stamps → outside ≡ told → list_all (in_domain b) stamps ≡ true
    → ((c : Bounds) → AllByRecursion (λ s. in_domain c s ≡ true) outside → IsFrontOf c least (frontier_of c outside))
    → (same ≡ true → told ≡ least) → (told ≡ least → same ≡ true) → cond same (Some told) None ≡ cond (are_least_in_order stamps) (Some stamps) None
front_or_none b stamps told outside least same t o domain names is from =
    let out : outside ≡ stamps = o ∙ t in
    let named : IsFrontOf b least (frontier_of b stamps) = subst (λ f. IsFrontOf b least (frontier_of b f)) out (names b (subst (AllByRecursion (λ s. in_domain b s ≡ true)) (sym out) (all_in-domain b stamps domain))) in
    ap (λ f. cond same (Some f) None) t
    ∙ ap (λ x. cond x (Some stamps) None) (named_or_other b stamps least same domain named (λ h. sym t ∙ is h) (λ h. from (t ∙ h)))
