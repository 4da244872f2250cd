-- What a node settles holds all that is kept of it.
use Rattle.std.proofs.Common.{◌≡◌, true, false, [], ◌∷◌, refl, inl, inr}
use Rattle.std.specs.List.{AllByRecursion, list_any}
use Rattle.std.proofs.lemmas.Bool.{and_from, and_parts, false_from_ne_true, or_cases}
use Rattle.fw_lemmas.proofs.Bools.{two_ways}
use Rattle.fw_time.specs.Stamp.{Stamp, in_domain}
use Rattle.fw_time.specs.declared.stamp.Bounds.{Bounds}
use Rattle.fw_frontier.specs.Frontier.{join}
use Rattle.fw_frontier.specs.Front.{Front, frontier_of, inside, IsFrontOf}
use Rattle.fw_frontier.proofs.CanonicalLaws.{in_domain-canonical}
use Rattle.fw_frontier.proofs.NamesLaws.{all-outside}
use Rattle.fw_progress.specs.Settle.{has_more}
use Rattle.fw_stands.proofs.GrowthLaws.{joined-has}

-- a stamp of the domain that is inside one and outside the other
record IsBetween (b : Bounds) (f g : Front) (t : Stamp) : Type 0 where
  of_domain : in_domain b t ≡ true
  gained : inside f t ≡ true
  lacked : inside g t ≡ false

between : (b : Bounds) (f g os : Front) → AllByRecursion (λ o. in_domain b o ≡ true) os → AllByRecursion (λ o. inside g o ≡ false) os
    → list_any (λ o. inside f o) os ≡ true → (t : Stamp) × IsBetween b f g t
between b f g [] d n e = absurd (two_ways false e refl)
between b f g (o ∷ os) d n e = elim (or_cases (inside f o) (list_any (λ q. inside f q) os) e) [
  | inl i ↦ (o, record { of_domain = d.0; gained = i; lacked = n.0 })
  | inr i ↦ between b f g os d.1 n.1 i
]

-- no more is kept than the union of what is settled and kept
pub none-kept : (b : Bounds) (settled kept both : Front) → IsFrontOf b both (join (frontier_of b settled) (frontier_of b kept)) → has_more kept both ≡ false
none-kept b settled kept both n = false_from_ne_true (has_more kept both) (λ more.
    let t = between b kept both both (in_domain-canonical b both n.canonical) (all-outside both) more in
    let held = joined-has b settled both (frontier_of b kept) n t.0 (and_from (in_domain b t.0) (inside kept t.0) t.1.of_domain t.1.gained) in
    two_ways (inside both t.0) (and_parts (in_domain b t.0) (inside both t.0) held).1 t.1.lacked)
