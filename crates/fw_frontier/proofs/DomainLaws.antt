-- Frontiers of a type of times, seen from the domain: plain facts on tests, for the laws.
use Rattle.std.proofs.Common.{◌≡◌, ℕ, Bool, true, false, not, ◌&&◌, List, [], ◌∷◌, length, refl, sym, ap, ◌∙◌}
use Rattle.std.specs.List.{AllByRecursion}
use Rattle.fw_time.specs.Stamp.{leq, glb, in_domain}
use Rattle.fw_time.specs.declared.stamp.Bounds.{Bounds}
use Rattle.fw_time.proofs.StampLaws.{glb-left, glb-right, glb-leq, length-glb, leq-glb}
use Rattle.fw_time.proofs.DomainLaws.{domain-leq, domain-length, plain-in_domain}
use Rattle.fw_frontier.specs.Front.{inside, IsCanonical, IsFrontOf}
use Rattle.fw_frontier.specs.Frontier.{some_above}
use Rattle.fw_frontier.specs.Domain.{IsOfDomain}
use Rattle.fw_frontier.proofs.BelowLaws.{names-by}
use Rattle.fw_frontier.proofs.NamesLaws.{names-self, names-same}

module _ {T : Type 0} (coords : T → List ℕ) (of_coords : List ℕ → T) (dimension : ℕ)
    (long : (t : T) → length (coords t) ≡ dimension)
    (all : (s : List ℕ) → length s ≡ dimension → coords (of_coords s) ≡ s)
    (b : Bounds) (shape : length b.greatest ≡ dimension) where
  -- the part of a time in the domain
  part : (t : T) → coords (of_coords (glb (coords t) b.greatest)) ≡ glb (coords t) b.greatest
  part t = all (glb (coords t) b.greatest) (length-glb (coords t) b.greatest (long t ∙ sym shape) ∙ long t)

  pub decides : b.sides ≡ false → (f g : T → Bool) → ((s t : T) → leq (coords s) (coords t) ≡ true → f t ≡ true → f s ≡ true)
      → IsOfDomain coords of_coords b g
      → ((t : T) → in_domain b (coords t) ≡ true → f t ≡ true → g t ≡ true)
      → (t : T) → f t ≡ true → g t ≡ true
  decides plain f g closed ends within t h =
      let c = of_coords (glb (coords t) b.greatest) in
      let e = long t ∙ sym shape in
      ends t ∙ within c (plain-in_domain b (coords c) plain ∙ ap (λ u. leq u b.greatest) (part t) ∙ glb-right (coords t) b.greatest e)
      (closed c t (ap (λ u. leq u (coords t)) (part t) ∙ glb-left (coords t) b.greatest e) h)

  pub cut-ends : (f h : T → Bool) (s : T) → in_domain b (coords s) ≡ true → IsOfDomain coords of_coords b f
      → ((t : T) → h t ≡ (f t && not (leq (coords s) (coords t)))) → IsOfDomain coords of_coords b h
  cut-ends f h s d ends each t =
      let c = of_coords (glb (coords t) b.greatest) in
      let same = leq-glb (coords s) (coords t) b.greatest (domain-leq b (coords s) d) (long t ∙ sym shape) ∙ ap (leq (coords s)) (sym (part t)) in
      each t ∙ (λ i. ends t i && not (same i)) ∙ sym (each c)

  pub cover-ends : (h : T → Bool) (ss : List (List ℕ)) → ((t : T) → h t ≡ some_above ss (glb (coords t) b.greatest)) → IsOfDomain coords of_coords b h
  cover-ends h ss each t =
      let c = of_coords (glb (coords t) b.greatest) in
      let once = glb-leq (glb (coords t) b.greatest) b.greatest (glb-right (coords t) b.greatest (long t ∙ sym shape)) in
      each t ∙ ap (some_above ss) (sym (ap (λ u. glb u b.greatest) (part t) ∙ once)) ∙ sym (each c)

  pub front-ends : (h : T → Bool) (os : List (List ℕ)) → AllByRecursion (λ o. in_domain b o ≡ true) os
      → ((t : T) → h t ≡ inside os (coords t)) → IsOfDomain coords of_coords b h
  front-ends h os d each t =
      let c = of_coords (glb (coords t) b.greatest) in
      each t ∙ same os d (coords t) (long t ∙ sym shape) ∙ ap (inside os) (sym (part t)) ∙ sym (each c)
    where
      same : (os : List (List ℕ)) → AllByRecursion (λ o. in_domain b o ≡ true) os → (u : List ℕ) → length u ≡ length b.greatest → inside os u ≡ inside os (glb u b.greatest)
      same [] d u e = refl
      same (o ∷ os) d u e = let p = leq-glb o u b.greatest (domain-leq b o d.0) e in let q = same os d.1 u e in λ i. not (p i) && q i

  pub trip : (os ps : List (List ℕ)) (f : T → Bool) → IsCanonical b os → ((t : T) → f t ≡ inside os (coords t))
      → IsFrontOf b ps (λ t. in_domain b t && f (of_coords t)) → ps ≡ os
  trip os ps f h each named =
      names-same b ps os (λ t. in_domain b t && f (of_coords t)) named
      (names-by b os os (λ t. f (of_coords t)) (names-self b os h) (λ t d. sym (each (of_coords t) ∙ ap (inside os) (all t (domain-length b t d ∙ shape)))))
