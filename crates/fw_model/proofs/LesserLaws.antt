-- Stamps of a node's domain.
use Rattle.std.proofs.Common.{◌≡◌, ℕ, ◌≤◌, Bool, true, false, [], ◌∷◌, refl}
use Rattle.std.proofs.lemmas.Bool.{and_from}
use Rattle.fw_time.specs.Stamp.{Stamp, leq, counts, in_domain}
use Rattle.fw_time.specs.declared.stamp.Bounds.{Bounds}
use Rattle.fw_time.proofs.StampLaws.{leq-trans}
use Rattle.fw_time.proofs.DomainLaws.{domain-leq, domain-counts}
use Rattle.fw_flow.specs.Dataflow.{Dataflow, bounds_of, bounds_of_edge, domain_of, greatest_of}
use Rattle.fw_model.proofs.StampLaws.{line-leq}

-- no node's domain has sides, so what is at most a stamp of it is one
pub lesser-in_domain : (flow : Dataflow) (p : ℕ) (s t : Stamp) → leq s t ≡ true → in_domain (bounds_of flow p) t ≡ true → in_domain (bounds_of flow p) s ≡ true
unfolding bounds_of
lesser-in_domain flow p s t l d = leq-trans s t (greatest_of flow (domain_of flow p)) l d

-- nor has an edge's
pub lesser-on_edge : (flow : Dataflow) (e : ℕ) (s t : Stamp) → leq s t ≡ true → in_domain (bounds_of_edge flow e) t ≡ true → in_domain (bounds_of_edge flow e) s ≡ true
lesser-on_edge flow e s t l d = leq-trans s t (bounds_of_edge flow e).greatest l d

-- the numbers up to one of a domain of one coordinate
pub line-in_domain : (b : Bounds) (k n : ℕ) → k ≤ n → in_domain b (n ∷ []) ≡ true → in_domain b (k ∷ []) ≡ true
line-in_domain b k n l d =
    and_from (counts b.sides (k ∷ [])) (leq (k ∷ []) b.greatest) (by b.sides (domain-counts b (n ∷ []) d)) (leq-trans (k ∷ []) (n ∷ []) b.greatest (line-leq k n l) (domain-leq b (n ∷ []) d))
  where
    by : (c : Bool) → counts c (n ∷ []) ≡ true → counts c (k ∷ []) ≡ true
    by true h = h
    by false h = refl
