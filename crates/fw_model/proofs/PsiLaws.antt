-- Psi in its frontier.
use Rattle.std.proofs.Common.{◌≡◌, ℕ, zero, suc, true, inl, inr, ◌⊎◌}
use Rattle.std.proofs.lemmas.Bool.{and_parts, and_from, and_right, or_cases, or_left, or_right}
use Rattle.fw_lemmas.proofs.Bools.{same_tests}
use Rattle.fw_time.specs.Stamp.{Stamp, in_domain}
use Rattle.fw_frontier.specs.Frontier.{Frontier, Within, join}
use Rattle.fw_flow.specs.Dataflow.{greatest_of_kind, Dataflow, kind_of, sender, out_domain_of_kind, bounds_of_domain}
use Rattle.fw_flow.specs.Projection.{psi_of_kind, psi}
use Rattle.fw_model.specs.LawsOfProjections.{PsiIsMonotone, PsiOfJoin, PsiOfNothing, PsiOfUnion}
use Rattle.fw_model.specs.Unions.{IsUnion}
use Rattle.fw_model.proofs.SenderLaws.{sends_lawfully}

-- ---- monotone

pub psi-monotone : PsiIsMonotone
unfolding psi
psi-monotone flow e f g w u k =
    let kind = kind_of flow (sender flow e) in
    let i = in_domain (bounds_of_domain flow (out_domain_of_kind flow kind)) u in
    let a = and_parts i (psi_of_kind (greatest_of_kind flow kind) kind f u) k in
    and_from i (psi_of_kind (greatest_of_kind flow kind) kind g u) a.0 ((sends_lawfully flow kind).of_psi.grows f g w u a.1)

-- ---- unions

pub psi-union : PsiOfUnion
unfolding psi
psi-union flow e family f w = record {
  each_within = λ i. psi-monotone flow e (family i) f (w.each_within i);
  from_one = λ u k.
      let kind = kind_of flow (sender flow e) in
      let i = in_domain (bounds_of_domain flow (out_domain_of_kind flow kind)) u in
      let a = and_parts i (psi_of_kind (greatest_of_kind flow kind) kind f u) k in
      let y = (sends_lawfully flow kind).of_psi.from_one family f w u a.1 in
      (y.0, and_from i (psi_of_kind (greatest_of_kind flow kind) kind (family y.0) u) a.0 y.1);
}

-- the union of two frontiers is that of a family that has the first at 0, and the second everywhere else
abbrev one_of : Frontier → Frontier → ℕ → Frontier
one_of f g zero = f
one_of f g (suc i) = g

one_of-join : (f g : Frontier) → IsUnion (one_of f g) (join f g)
one_of-join f g = record { each_within = λ i. within i; from_one = λ t k. found t (or_cases (f t) (g t) k) }
  where
    within : (i : ℕ) → Within (one_of f g i) (join f g)
    within zero = λ t k. or_left (f t) (g t) k
    within (suc i) = λ t k. or_right (f t) (g t) k

    found : (t : Stamp) → (f t ≡ true) ⊎ (g t ≡ true) → (i : ℕ) × (one_of f g i t ≡ true)
    found t (inl k) = (0, k)
    found t (inr k) = (1, k)

psi-one_of : (flow : Dataflow) (e : ℕ) (f g : Frontier) (i : ℕ) (u : Stamp) → psi flow e (one_of f g i) u ≡ true → join (psi flow e f) (psi flow e g) u ≡ true
psi-one_of flow e f g zero u k = or_left (psi flow e f u) (psi flow e g u) k
psi-one_of flow e f g (suc i) u k = or_right (psi flow e f u) (psi flow e g u) k

pub psi-join : PsiOfJoin
psi-join flow e f g u =
    let w = psi-union flow e (one_of f g) (join f g) (one_of-join f g) in
    same_tests (psi flow e (join f g) u) (join (psi flow e f) (psi flow e g) u)
    (λ k. let y = w.from_one u k in psi-one_of flow e f g y.0 u y.1)
    (λ k. elim (or_cases (psi flow e f u) (psi flow e g u) k) [ inl a ↦ w.each_within 0 u a | inr a ↦ w.each_within 1 u a ])

-- ---- nothing

pub psi-nothing : PsiOfNothing
unfolding psi
psi-nothing flow e u = and_right _ _ ((sends_lawfully flow (kind_of flow (sender flow e))).of_psi.of_nothing u)
