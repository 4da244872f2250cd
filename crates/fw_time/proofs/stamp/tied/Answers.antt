use Rattle.std.proofs.Common.{◌≡◌, ◌∙◌, ap, sym, refl}
use Rattle.std.specs.Ordering.{nat_cmp, ordering_then}
use Rattle.std.specs.declared.cmp.Ordering.{Ordering}
use Rattle.std.specs.declared.cmp.Ordering.TheVariants.{Less, Equal, Greater}
use Rattle.fw_time.proofs.Padded.{opened, cmp_places}
use Rattle.fw_time.proofs.stamp.tied.Goals as goal

pub returns-in-Equal : goal.returns-in-Equal
returns-in-Equal c =
    c.cmp.ensures
    ∙ ap (λ o. ordering_then o (nat_cmp c.stamp.inside.len c.other.inside.len)) (sym c.in-Equal.is ∙ c.order.ensures)
    ∙ cmp_places (opened _ _ _ c.stamp.view_is c.stamp.invariant) (opened _ _ _ c.other.view_is c.other.invariant)

pub returns-in_default : goal.returns-in_default
returns-in_default c =
    decided c.order.result (nat_cmp c.stamp.inside.len c.other.inside.len) c.in_default.not-Equal
    ∙ ap (λ o. ordering_then o (nat_cmp c.stamp.inside.len c.other.inside.len)) c.order.ensures
    ∙ cmp_places (opened _ _ _ c.stamp.view_is c.stamp.invariant) (opened _ _ _ c.other.view_is c.other.invariant)
  where
    decided : (o p : Ordering) → (o ≡ Equal → ⊥) → o ≡ ordering_then o p
    decided Less p h = refl
    decided Equal p h = absurd (h refl)
    decided Greater p h = refl
