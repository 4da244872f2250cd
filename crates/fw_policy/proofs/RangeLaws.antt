-- What nodes offer that are restored to anything settled, acknowledged or logged: all from the low watermark on.
use Rattle.std.proofs.Common.{◌≡◌, ◌↔◌, inl, inr, true, false, not, List, [], ◌∷◌, refl, sym, ◌∙◌, ap, subst}
use Rattle.std.specs.List.{AllByRecursion, list_any}
use Rattle.std.proofs.lemmas.Bool.{and_parts, and_from, or_cases, or_left, or_right, cases_Bool, not-true}
use Rattle.fw_lemmas.proofs.Bools.{two_ways}
use Rattle.fw_time.specs.Stamp.{Stamp, leq, in_domain}
use Rattle.fw_time.specs.declared.stamp.Bounds.{Bounds}
use Rattle.fw_time.proofs.StampLaws.{leq-refl, leq-trans}
use Rattle.fw_time.proofs.DomainLaws.{domain-leq, plain-in_domain}
use Rattle.fw_frontier.specs.Frontier.{Frontier, Within, meet}
use Rattle.fw_frontier.specs.Front.{Front, inside, frontier_of, IsFrontOf}
use Rattle.fw_frontier.proofs.InsideLaws.{inside-closed}
use Rattle.fw_model.specs.Offers.{IsBetween}
use Rattle.fw_policy.specs.Offering.{below_all}
use Rattle.fw_model.proofs.SentStandLaws.{IsOne, one-holds}

pub range-between : (b : Bounds) (g : Frontier) (low least greatest f : Front) → least ≡ low → IsFrontOf b greatest g
    → IsBetween b least greatest f ↔ (Within (frontier_of b f) g × Within (frontier_of b low) (frontier_of b f))
range-between b g low least greatest f e n = (
  λ k. ((λ t j. sym (n.same t) ∙ k.1 t j), subst (λ (x : Front). Within (frontier_of b x) (frontier_of b f)) e k.0),
  λ w. (subst (λ (x : Front). Within (frontier_of b x) (frontier_of b f)) (sym e) w.1, (λ t j. n.same t ∙ w.0 t j)),
)

pub within-both : (f g h : Frontier) → Within f (meet g h) ↔ (Within f g × Within f h)
within-both f g h = (
  λ w. ((λ t e. (and_parts (g t) (h t) (w t e)).0), (λ t e. (and_parts (g t) (h t) (w t e)).1)),
  λ w. λ t e. and_from (g t) (h t) (w.0 t e) (w.1 t e),
)

any-below : (t : Stamp) (ss : List Stamp) → list_any (λ s. leq s t) ss ≡ true → (s : Stamp) × IsOne s ss × (leq s t ≡ true)
any-below t [] k = absurd (cc)
any-below t (s ∷ ss) k = elim (or_cases (leq s t) (list_any (λ x. leq x t) ss) k) [
  | inl l ↦ (s, inl refl, l)
  | inr l ↦ let r = any-below t ss l in (r.0, inr r.1, r.2)
]

each-outside : (f : Frontier) (all : List Stamp) → ((t : Stamp) → f t ≡ true → list_any (λ s. leq s t) all ≡ false) → (ss : List Stamp)
    → ((s : Stamp) → IsOne s ss → list_any (λ x. leq x s) all ≡ true) → AllByRecursion (λ s. f s ≡ false) ss
each-outside f all h [] i = tt
each-outside f all h (s ∷ ss) i = (
  elim (cases_Bool (f s)) [ inl k ↦ absurd (two_ways (list_any (λ x. leq x s) all) (i s (inl refl)) (h s k)) | inr n ↦ n ],
  each-outside f all h ss (λ x j. i x (inr j)),
)

one-below : (s : Stamp) (ss : List Stamp) → IsOne s ss → list_any (λ x. leq x s) ss ≡ true
one-below s [] i = absurd i
one-below s (x ∷ ss) (inl e) = or_left (leq x s) (list_any (λ y. leq y s) ss) (ap (λ y. leq y s) e ∙ leq-refl s)
one-below s (x ∷ ss) (inr i) = or_right (leq x s) (list_any (λ y. leq y s) ss) (one-below s ss i)

-- in a domain without sides a frontier lies within what is at none of these stamps or above exactly where none of them is inside
pub within-below : (b : Bounds) (f : Front) (g : Frontier) (ss : List Stamp) → b.sides ≡ false
    → Within (frontier_of b f) (below_all ss g) ↔ (Within (frontier_of b f) g × AllByRecursion (λ s. frontier_of b f s ≡ false) ss)
within-below b f g ss plain = (
  λ w. (
    (λ t e. (and_parts (g t) (not (list_any (λ s. leq s t) ss)) (w t e)).0),
    each-outside (frontier_of b f) ss (λ t e. not-true (list_any (λ s. leq s t) ss) (and_parts (g t) (not (list_any (λ s. leq s t) ss)) (w t e)).1) ss (λ s i. one-below s ss i),
  ),
  λ w. λ t e. and_from (g t) (not (list_any (λ s. leq s t) ss)) (w.0 t e) (elim (cases_Bool (list_any (λ s. leq s t) ss)) [
    | inl k ↦
        let a = any-below t ss k in
        let d = and_parts (in_domain b t) (inside f t) e in
        absurd (two_ways (frontier_of b f a.0) (and_from (in_domain b a.0) (inside f a.0) (plain-in_domain b a.0 plain ∙ leq-trans a.0 t b.greatest a.2 (domain-leq b t d.0)) (inside-closed f a.0 t a.2 d.1))
        (one-holds (λ s. frontier_of b f s ≡ false) a.0 ss a.1 w.1))
    | inr n ↦ ap not n
  ]),
)
