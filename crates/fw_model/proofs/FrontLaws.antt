-- Each frontier has its list of outside stamps.
use Rattle.std.proofs.Common.{◌&&◌, ◌≡◌, Bool, true, false, not, List, [], ◌∷◌, filter, refl, ap, inl, inr}
use Rattle.std.specs.List.{AllByRecursion}
use Rattle.std.proofs.lemmas.Bool.{and_parts, and_from, cases_Bool, false_from_ne_true}
use Rattle.fw_lemmas.proofs.Bools.{two_ways, same_tests}
use Rattle.fw_lemmas.proofs.Each.{each-filter, each_of-filter}
use Rattle.fw_time.specs.Stamp.{Stamp, leq, in_domain}
use Rattle.fw_time.specs.declared.stamp.Bounds.{Bounds}
use Rattle.fw_time.proofs.StampLaws.{leq-refl}
use Rattle.fw_time.proofs.DomainLaws.{domain-leq}
use Rattle.fw_frontier.specs.Frontier.{Frontier, IsFrontier}
use Rattle.fw_frontier.specs.Front.{Front, inside, frontier_of, IsFrontOf}
use Rattle.fw_frontier.specs.Outside.{front_without_all}
use Rattle.fw_frontier.proofs.BelowLaws.{names-as}
use Rattle.fw_frontier.proofs.NamesLaws.{names-until}
use Rattle.fw_model.specs.LawsOfExistence.{FrontierHasFront}
use Rattle.fw_model.proofs.StampLists.{stamps, each_stamp-at, each_stamp-from}

pub inside-from : (os : Front) (t : Stamp) → AllByRecursion (λ o. leq o t ≡ false) os → inside os t ≡ true
inside-from [] t a = refl
inside-from (o ∷ os) t a = and_from (not (leq o t)) (inside os t) (ap not a.0) (inside-from os t a.1)

pub inside-each : (os : Front) (t : Stamp) → inside os t ≡ true → AllByRecursion (λ o. leq o t ≡ false) os
inside-each [] t k = tt
inside-each (o ∷ os) t k =
    let a = and_parts (not (leq o t)) (inside os t) k in
    (false_from_ne_true (leq o t) (λ e. two_ways (not (leq o t)) a.0 (ap not e)), inside-each os t a.1)

-- the domain's stamps that are outside
abbrev pub outsiders : Bounds → Frontier → List Stamp
outsiders b f = filter (λ t. in_domain b t && not (f t)) (stamps b.greatest)

outsiders-same : (b : Bounds) (f : Frontier) → IsFrontier b f → (t : Stamp) → frontier_of b (outsiders b f) t ≡ f t
outsiders-same b f fr t =
    let out : Stamp → Bool = λ s. in_domain b s && not (f s) in
    same_tests (frontier_of b (filter out (stamps b.greatest)) t) (f t)
    (λ k.
    let a = and_parts (in_domain b t) (inside (filter out (stamps b.greatest)) t) k in
    let each = each_of-filter (λ s. leq s t ≡ false) out (stamps b.greatest) (inside-each (filter out (stamps b.greatest)) t a.1) in
    elim (cases_Bool (f t)) [
      | inl e ↦ e
      | inr e ↦ absurd (two_ways (leq t t) (leq-refl t) (each_stamp-at (λ s. out s ≡ true → leq s t ≡ false) b.greatest t each (domain-leq b t a.0) (and_from (in_domain b t) (not (f t)) a.0 (ap not e))))
    ])
    (λ k.
    and_from (in_domain b t) (inside (filter out (stamps b.greatest)) t) (fr.inside_domain t k)
    (inside-from (filter out (stamps b.greatest)) t (each-filter (λ s. leq s t ≡ false) out (stamps b.greatest)
    (each_stamp-from (λ s. out s ≡ true → leq s t ≡ false) b.greatest
    (λ s d e. false_from_ne_true (leq s t) (λ l. let o = and_parts (in_domain b s) (not (f s)) e in two_ways (not (f s)) o.1 (ap not (fr.closed s t o.0 l k))))))))

-- and they make the list that names the frontier
pub outsiders-name : (b : Bounds) (f : Frontier) → IsFrontier b f → IsFrontOf b (front_without_all (outsiders b f) []) f
outsiders-name b f fr =
    let ss = outsiders b f in
    names-as b (front_without_all ss []) (frontier_of b ss) f
    (names-until b ss (each-filter (λ s. in_domain b s ≡ true) (λ t. in_domain b t && not (f t)) (stamps b.greatest)
    (each_stamp-from (λ s. (in_domain b s && not (f s)) ≡ true → in_domain b s ≡ true) b.greatest (λ s d e. (and_parts (in_domain b s) (not (f s)) e).0))))
    (outsiders-same b f fr)

pub has_front : FrontierHasFront
has_front b f fr = (front_without_all (outsiders b f) [], outsiders-name b f fr)
