-- By what nodes are restored, by their kinds and policies.
use Rattle.std.proofs.Common.{◌≡◌, ◌⊎◌, inl, inr, ℕ, true, false, [], ◌∷◌, refl, sym, ◌∙◌, ap, subst}
use Rattle.fw_time.specs.Stamp.{up_to}
use Rattle.fw_flow.specs.Kind.{Kind}
use Rattle.fw_flow.specs.declared.kind.Kind.TheVariants.{Input, OutputEpoch, OutputNumber}
use Rattle.fw_flow.specs.declared.kind.Policy.{Policy}
use Rattle.fw_flow.specs.declared.kind.Policy.TheVariants as policy
use Rattle.fw_flow.specs.declared.restoring.Restoring.TheVariants.{Bound, Anything, Checkpoints, Events}
use Rattle.fw_flow.specs.Dataflow.{Dataflow, kind_of, policy_of, bounds_of, bounds_of_domain, domain_of_kind, greatest_number, is_notified_kind}
use Rattle.fw_flow.specs.Restoring.{restoring_of_policy, restoring, way_of}
use Rattle.fw_model.specs.Covers.{takes_its_notices}
use Rattle.fw_model.specs.Sending.{SendsByCount, SendsByStamp}
use Rattle.fw_model.specs.Writes.{takes_checkpoints}

-- what is restored to what it acknowledged is an output
pub bound-output : (kind : Kind) (p : Policy) → restoring kind p ≡ Bound → (kind ≡ OutputEpoch) ⊎ (kind ≡ OutputNumber)
bound-output Input p e = cc
bound-output OutputEpoch p e = inl refl
bound-output OutputNumber p e = inr refl
bound-output kind p e = absurd (not_bound p e)
  where
    not_bound : (p : Policy) → restoring_of_policy p ≡ Bound → ⊥
    not_bound policy.None e = cc
    not_bound policy.Lazy e = cc
    not_bound policy.Logged e = cc
    not_bound policy.Eager e = cc
    not_bound policy.Full e = cc

-- no node's domain has sides
pub bounds-plain : (flow : Dataflow) (p : ℕ) → (bounds_of flow p).sides ≡ false
unfolding bounds_of
bounds-plain flow p = refl

-- and its domain is that of epochs or of numbers
pub bound-numbers : (flow : Dataflow) (p : ℕ) → way_of flow p ≡ Bound → bounds_of flow p ≡ up_to (greatest_number ∷ [])
unfolding bounds_of
bound-numbers flow p e = elim (bound-output (kind_of flow p) (policy_of flow p) e) [
  | inl is ↦ ap (λ x. bounds_of_domain flow (domain_of_kind flow x)) is
  | inr is ↦ ap (λ x. bounds_of_domain flow (domain_of_kind flow x)) is
]

none-checkpoints : (kind : Kind) → restoring kind policy.None ≡ Checkpoints → ⊥
none-checkpoints Input e = cc
none-checkpoints OutputEpoch e = cc
none-checkpoints OutputNumber e = cc
none-checkpoints kind e = cc

-- what is restored by its checkpoints takes no notices of its own
pub checkpoints-notices : (kind : Kind) (p : Policy) → restoring kind p ≡ Checkpoints → takes_its_notices kind p ≡ false
checkpoints-notices kind policy.None e = absurd (none-checkpoints kind e)
checkpoints-notices kind policy.Lazy e = refl
checkpoints-notices kind policy.Logged e = refl
checkpoints-notices kind policy.Eager e = refl
checkpoints-notices kind policy.Full e = refl

-- and takes checkpoints
pub checkpoints-take : (kind : Kind) (p : Policy) → restoring kind p ≡ Checkpoints → takes_checkpoints p ≡ true
checkpoints-take Input p e = absurd (cc e)
checkpoints-take OutputEpoch p e = absurd (cc e)
checkpoints-take OutputNumber p e = absurd (cc e)
checkpoints-take kind policy.None e = absurd (cc e)
checkpoints-take kind policy.Lazy e = refl
checkpoints-take kind policy.Logged e = refl
checkpoints-take kind policy.Eager e = refl
checkpoints-take kind policy.Full e = absurd (cc e)

-- what is restored by its events logs each of them
pub events-full : (kind : Kind) (p : Policy) → restoring kind p ≡ Events → p ≡ policy.Full
events-full Input p e = cc
events-full OutputEpoch p e = cc
events-full OutputNumber p e = cc
events-full kind p e = by p e
  where
    by : (p : Policy) → restoring_of_policy p ≡ Events → p ≡ policy.Full
    by policy.None e = cc
    by policy.Lazy e = cc
    by policy.Logged e = cc
    by policy.Eager e = cc
    by policy.Full e = refl

-- an output is not notified
pub output-not_notified : (kind : Kind) → (kind ≡ OutputEpoch) ⊎ (kind ≡ OutputNumber) → is_notified_kind kind ≡ false
output-not_notified kind (inl e) = ap is_notified_kind e
output-not_notified kind (inr e) = ap is_notified_kind e

-- what is restored to anything settled keeps nothing, and so takes notices of its own unless it is not notified
pub anything-not_notified : (kind : Kind) (p : Policy) → restoring kind p ≡ Anything → takes_its_notices kind p ≡ false → is_notified_kind kind ≡ false
anything-not_notified Input p e n = cc
anything-not_notified OutputEpoch p e n = cc
anything-not_notified OutputNumber p e n = cc
anything-not_notified kind p e n = by p e n
  where
    by : (p : Policy) → restoring_of_policy p ≡ Anything → takes_its_notices kind p ≡ false → is_notified_kind kind ≡ false
    by policy.None e n = n
    by policy.Lazy e n = cc
    by policy.Logged e n = cc
    by policy.Eager e n = cc
    by policy.Full e n = cc

-- an output sends nothing
pub no-output : (flow : Dataflow) (kind : Kind) → (kind ≡ OutputEpoch) ⊎ (kind ≡ OutputNumber) → SendsByCount kind ⊎ SendsByStamp flow kind → ⊥
no-output flow kind (inl e) (inl s) = let x : SendsByCount OutputEpoch = sym e ∙ s in cc
no-output flow kind (inl e) (inr s) = subst (SendsByStamp flow) e s
no-output flow kind (inr e) (inl s) = let x : SendsByCount OutputNumber = sym e ∙ s in cc
no-output flow kind (inr e) (inr s) = subst (SendsByStamp flow) e s
