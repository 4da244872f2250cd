-- Stamps of a node that send alike: one list after another, from a larger base, and cut; and what stands for causes.
use Rattle.std.proofs.Common.{◌≡◌, inl, inr, ℕ, Bool, true, false, cond, List, [], ◌∷◌, ◌++◌, Option, Some, refl, sym, ◌∙◌, ap, subst}
use Rattle.std.specs.Prelude.{filter}
use Rattle.std.specs.List.{AllByRecursion, Contains}
use Rattle.std.proofs.lemmas.Bool.{cases_Bool, cond_both}
use Rattle.std.proofs.lemmas.List.Elements.{Contains-append_left, Contains-append_right, Contains-append_cases}
use Rattle.fw_lemmas.proofs.Bools.{two_ways}
use Rattle.fw_lemmas.proofs.Each.{each-weaker, each-append, each-prefix, each-suffix, each-kept}
use Rattle.fw_time.specs.Stamp.{Stamp, in_domain}
use Rattle.fw_frontier.specs.Frontier.{Frontier, Within}
use Rattle.fw_flow.specs.Dataflow.{Dataflow, bounds_of, send_stamp}
use Rattle.fw_model.specs.Alike.{SendsAsOneIn, SendAlike, StandForCauses}
use Rattle.fw_model.specs.Thinned.{IsThinnedIf}
use Rattle.fw_model.proofs.ThinnedLaws.{each-contained}
use Rattle.fw_model.proofs.SentStandLaws.{IsOne, one-contained, contained-one}

-- ---- stamps that send alike

pub alike-same : (send : Stamp → Option Stamp) (base : Frontier) (cs : List Stamp) → SendAlike send base cs cs
alike-same send base cs = record {
  outside = λ t e. (λ c. c, λ c. c);
  there = λ t c i. record { one = t; there = c; inside = i; same = refl };
  back = λ t c i. record { one = t; there = c; inside = i; same = refl };
}

as_one-left : (send : Stamp → Option Stamp) (base : Frontier) (cs ds : List Stamp) (t : Stamp) → SendsAsOneIn send base cs t → SendsAsOneIn send base (cs ++ ds) t
as_one-left send base cs ds t o = record { one = o.one; there = Contains-append_left cs ds o.one o.there; inside = o.inside; same = o.same }

as_one-right : (send : Stamp → Option Stamp) (base : Frontier) (cs ds : List Stamp) (t : Stamp) → SendsAsOneIn send base ds t → SendsAsOneIn send base (cs ++ ds) t
as_one-right send base cs ds t o = record { one = o.one; there = Contains-append_right cs ds o.one o.there; inside = o.inside; same = o.same }

contained-both : (cs ds gs hs : List Stamp) (t : Stamp) → (Contains cs t → Contains gs t) → (Contains ds t → Contains hs t) → Contains (cs ++ ds) t → Contains (gs ++ hs) t
contained-both cs ds gs hs t f g c = elim (Contains-append_cases cs ds t c) [
  | inl l ↦ Contains-append_left gs hs t (f l)
  | inr r ↦ Contains-append_right gs hs t (g r)
]

as_one-both : (send : Stamp → Option Stamp) (base : Frontier) (cs ds gs hs : List Stamp) (t : Stamp) → (Contains cs t → SendsAsOneIn send base gs t)
    → (Contains ds t → SendsAsOneIn send base hs t) → Contains (cs ++ ds) t → SendsAsOneIn send base (gs ++ hs) t
as_one-both send base cs ds gs hs t f g c = elim (Contains-append_cases cs ds t c) [
  | inl l ↦ as_one-left send base gs hs t (f l)
  | inr r ↦ as_one-right send base gs hs t (g r)
]

pub alike-append : (send : Stamp → Option Stamp) (base : Frontier) (cs ds gs hs : List Stamp) → SendAlike send base cs gs → SendAlike send base ds hs
    → SendAlike send base (cs ++ ds) (gs ++ hs)
alike-append send base cs ds gs hs a b = record {
  outside = λ t e.
      let l = a.outside t e in
      let r = b.outside t e in
      (contained-both cs ds gs hs t l.0 r.0, contained-both gs hs cs ds t l.1 r.1);
  there = λ t c i. as_one-both send base cs ds gs hs t (λ k. a.there t k i) (λ k. b.there t k i) c;
  back = λ t c i. as_one-both send base gs hs cs ds t (λ k. a.back t k i) (λ k. b.back t k i) c;
}

outside-of : (base wide : Frontier) → Within base wide → (t : Stamp) → wide t ≡ false → base t ≡ false
outside-of base wide w t e = elim (cases_Bool (base t)) [ inl i ↦ absurd (two_ways (wide t) (w t i) e) | inr n ↦ n ]

as_one-wider : (send : Stamp → Option Stamp) (base wide : Frontier) (ds : List Stamp) (t : Stamp) → Within base wide → wide t ≡ true
    → (base t ≡ true → SendsAsOneIn send base ds t) → (base t ≡ false → Contains ds t) → SendsAsOneIn send wide ds t
as_one-wider send base wide ds t w i f g = elim (cases_Bool (base t)) [
  | inl b ↦ let o = f b in record { one = o.one; there = o.there; inside = w o.one o.inside; same = o.same }
  | inr n ↦ record { one = t; there = g n; inside = i; same = refl }
]

pub alike-wider : (send : Stamp → Option Stamp) (base wide : Frontier) (cs ds : List Stamp) → Within base wide → SendAlike send base cs ds → SendAlike send wide cs ds
alike-wider send base wide cs ds w a = record {
  outside = λ t e. a.outside t (outside-of base wide w t e);
  there = λ t c i. as_one-wider send base wide ds t w i (λ b. a.there t c b) (λ n. (a.outside t n).0 c);
  back = λ t c i. as_one-wider send base wide cs t w i (λ b. a.back t c b) (λ n. (a.outside t n).1 c);
}

one-kept : (f : Frontier) (q : Stamp) (xs : List Stamp) → f q ≡ true → IsOne q xs → IsOne q (filter f xs)
one-kept f q [] k i = absurd i
one-kept f q (x ∷ xs) k (inl e) = subst (λ b. IsOne q (cond b (x ∷ filter f xs) (filter f xs))) (sym (ap f e ∙ k)) (inl e)
one-kept f q (x ∷ xs) k (inr i) = cond_both (f x) (x ∷ filter f xs) (filter f xs) (IsOne q) (λ c. inr (one-kept f q xs k i)) (λ c. one-kept f q xs k i)

kept-head : (f : Frontier) (q x : Stamp) (xs : List Stamp) → f x ≡ true → IsOne q (x ∷ filter f xs) → (IsOne q (filter f xs) → (f q ≡ true) × IsOne q xs)
    → (f q ≡ true) × IsOne q (x ∷ xs)
kept-head f q x xs k (inl e) r = (ap f (sym e) ∙ k, inl e)
kept-head f q x xs k (inr i) r = let s = r i in (s.0, inr s.1)

kept-one : (f : Frontier) (q : Stamp) (xs : List Stamp) → IsOne q (filter f xs) → (f q ≡ true) × IsOne q xs
kept-one f q [] i = absurd i
kept-one f q (x ∷ xs) i = elim (cases_Bool (f x)) [
  | inl k ↦ kept-head f q x xs k (subst (λ b. IsOne q (cond b (x ∷ filter f xs) (filter f xs))) k i) (kept-one f q xs)
  | inr k ↦ let r = kept-one f q xs (subst (λ b. IsOne q (cond b (x ∷ filter f xs) (filter f xs))) k i) in (r.0, inr r.1)
]

contained-kept : (f : Frontier) (xs : List Stamp) (t : Stamp) → f t ≡ true → Contains xs t → Contains (filter f xs) t
contained-kept f xs t k c = one-contained t (filter f xs) (one-kept f t xs k (contained-one t xs c))

kept-contained : (f : Frontier) (xs : List Stamp) (t : Stamp) → Contains (filter f xs) t → (f t ≡ true) × Contains xs t
kept-contained f xs t c = let k = kept-one f t xs (contained-one t (filter f xs) c) in (k.0, one-contained t xs k.1)

as_one-cut : (send : Stamp → Option Stamp) (base f : Frontier) (ds : List Stamp) (t : Stamp) → Within base f → SendsAsOneIn send base ds t → SendsAsOneIn send base (filter f ds) t
as_one-cut send base f ds t w o = record { one = o.one; there = contained-kept f ds o.one (w o.one o.inside) o.there; inside = o.inside; same = o.same }

cut-contained : (f : Frontier) (cs ds : List Stamp) (t : Stamp) → (Contains cs t → Contains ds t) → Contains (filter f cs) t → Contains (filter f ds) t
cut-contained f cs ds t g c = let k = kept-contained f cs t c in contained-kept f ds t k.0 (g k.1)

-- a cut that holds the base leaves them alike
pub alike-cut : (send : Stamp → Option Stamp) (base f : Frontier) (cs ds : List Stamp) → Within base f → SendAlike send base cs ds
    → SendAlike send base (filter f cs) (filter f ds)
alike-cut send base f cs ds w a = record {
  outside = λ t e. let o = a.outside t e in (cut-contained f cs ds t o.0, cut-contained f ds cs t o.1);
  there = λ t c i. as_one-cut send base f ds t w (a.there t (kept-contained f cs t c).1 i);
  back = λ t c i. as_one-cut send base f cs t w (a.back t (kept-contained f ds t c).1 i);
}

-- ---- what stands for causes

-- all are of the domain of node p
abbrev AreOfNode : Dataflow → ℕ → List Stamp → Type 0
AreOfNode flow p ss = AllByRecursion (λ t. in_domain (bounds_of flow p) t ≡ true) ss

-- what is thinned from the causes
pub for-same : (flow : Dataflow) (p : ℕ) (whole : Bool) (base : Frontier) (causes kept : List Stamp) → IsThinnedIf whole base causes kept → StandForCauses flow p whole base causes kept
for-same flow p whole base causes kept t = record {
  all = causes;
  alike = λ w. alike-same (send_stamp flow p) base causes;
  same = λ w. refl;
  of_domain = λ d. d;
  thinned = t;
}

-- where perhaps not the whole is asked, it is thinned from the causes
pub for-less : (flow : Dataflow) (p : ℕ) (base : Frontier) (causes kept : List Stamp) → StandForCauses flow p false base causes kept → IsThinnedIf false base causes kept
for-less flow p base causes kept s = subst (λ ss. IsThinnedIf false base ss kept) (s.same refl) s.thinned

-- a cause outside the base is kept
pub for-outside : (flow : Dataflow) (p : ℕ) (whole : Bool) (base : Frontier) (causes kept : List Stamp) → StandForCauses flow p whole base causes kept
    → (t : Stamp) → Contains causes t → base t ≡ false → Contains kept t
for-outside flow p whole base causes kept s t c n =
    let there : Contains s.all t = elim (cases_Bool whole) [
      | inl k ↦ ((s.alike k).outside t n).0 c
      | inr k ↦ subst (λ ss. Contains ss t) (sym (s.same k)) c
    ] in
    each-contained (λ u. base u ≡ false → Contains kept u) t s.all there s.thinned.outside n

-- other stamps are kept
pub for-kept : (flow : Dataflow) (p : ℕ) (whole : Bool) (base : Frontier) (causes old new : List Stamp)
    → ((all : List Stamp) → IsThinnedIf whole base all old → IsThinnedIf whole base all new) → StandForCauses flow p whole base causes old → StandForCauses flow p whole base causes new
for-kept flow p whole base causes old new f s = record { all = s.all; alike = s.alike; same = s.same; of_domain = s.of_domain; thinned = f s.all s.thinned }

-- there are more causes
pub for-more : (flow : Dataflow) (p : ℕ) (whole : Bool) (base : Frontier) (more causes old new : List Stamp)
    → ((all : List Stamp) → IsThinnedIf whole base all old → IsThinnedIf whole base (more ++ all) new) → StandForCauses flow p whole base causes old
    → StandForCauses flow p whole base (more ++ causes) new
for-more flow p whole base more causes old new f s =
    let P : Stamp → Type 0 = λ t. in_domain (bounds_of flow p) t ≡ true in
    record {
      all = more ++ s.all;
      alike = λ w. alike-append (send_stamp flow p) base more causes more s.all (alike-same (send_stamp flow p) base more) (s.alike w);
      same = λ w. ap (λ ss. more ++ ss) (s.same w);
      of_domain = λ d. each-append P more s.all (each-prefix P more causes d) (s.of_domain (each-suffix P more causes d));
      thinned = f s.all s.thinned;
    }

-- the base is larger
pub for-wider : (flow : Dataflow) (p : ℕ) (whole : Bool) (base wide : Frontier) (causes old new : List Stamp) → (whole ≡ true → Within base wide) → AreOfNode flow p causes
    → ((all : List Stamp) → AreOfNode flow p all → IsThinnedIf whole base all old → IsThinnedIf whole wide all new) → StandForCauses flow p whole base causes old
    → StandForCauses flow p whole wide causes new
for-wider flow p whole base wide causes old new w d f s = record {
  all = s.all;
  alike = λ k. alike-wider (send_stamp flow p) base wide causes s.all (w k) (s.alike k);
  same = s.same;
  of_domain = s.of_domain;
  thinned = f s.all (s.of_domain d) s.thinned;
}

-- the causes are cut to a frontier that holds the base, and the base is perhaps larger
pub for-cut : (flow : Dataflow) (p : ℕ) (whole : Bool) (base wide f : Frontier) (causes old new : List Stamp) → (whole ≡ true → Within base wide) → (whole ≡ true → Within base f)
    → AreOfNode flow p causes → ((all : List Stamp) → AreOfNode flow p all → IsThinnedIf whole base all old → IsThinnedIf whole wide (filter f all) new)
    → StandForCauses flow p whole base causes old → StandForCauses flow p whole wide (filter f causes) new
for-cut flow p whole base wide f causes old new w v d g s =
    let P : Stamp → Type 0 = λ t. in_domain (bounds_of flow p) t ≡ true in
    let send = send_stamp flow p in
    record {
      all = filter f s.all;
      alike = λ k. alike-wider send base wide (filter f causes) (filter f s.all) (w k) (alike-cut send base f causes s.all (v k) (s.alike k));
      same = λ k. ap (filter f) (s.same k);
      of_domain = λ c. each-kept P f s.all (s.of_domain d);
      thinned = g s.all (s.of_domain d) s.thinned;
    }

-- each stamp of which those inside the base send like causes
all-sends : (flow : Dataflow) (p : ℕ) (base : Frontier) (causes all : List Stamp) → SendAlike (send_stamp flow p) base causes all
    → ((t : Stamp) → Contains causes t → (w : Stamp) × (send_stamp flow p t ≡ Some w)) → (t : Stamp) → Contains all t → (w : Stamp) × (send_stamp flow p t ≡ Some w)
all-sends flow p base causes all a f t c = elim (cases_Bool (base t)) [
  | inl i ↦
      let o = a.back t c i in
      let s = f o.one o.there in
      (s.0, sym o.same ∙ s.1)
  | inr n ↦ f t ((a.outside t n).1 c)
]

-- where each cause sends, each kept stamp does
pub kept-sends : (flow : Dataflow) (p : ℕ) (whole : Bool) (base : Frontier) (causes kept : List Stamp) → StandForCauses flow p whole base causes kept
    → ((t : Stamp) → Contains causes t → (w : Stamp) × (send_stamp flow p t ≡ Some w)) → (t : Stamp) → Contains kept t → (w : Stamp) × (send_stamp flow p t ≡ Some w)
kept-sends flow p whole base causes kept s f t c =
    let there : Contains s.all t = each-contained (Contains s.all) t kept c s.thinned.among in
    elim (cases_Bool whole) [
      | inl k ↦ all-sends flow p base causes s.all (s.alike k) f t there
      | inr k ↦ f t (subst (λ ss. Contains ss t) (s.same k) there)
    ]

-- and where each cause is of the domain, each kept stamp is
pub kept-of_domain : (flow : Dataflow) (p : ℕ) (whole : Bool) (base : Frontier) (causes kept : List Stamp) → StandForCauses flow p whole base causes kept → AreOfNode flow p causes → AreOfNode flow p kept
kept-of_domain flow p whole base causes kept s d =
    let P : Stamp → Type 0 = λ t. in_domain (bounds_of flow p) t ≡ true in
    each-weaker (Contains s.all) P kept (λ t c. each-contained P t s.all c (s.of_domain d)) s.thinned.among
