-- What is read of the loops of a flow alone.
use Rattle.std.proofs.Common.{◌≡◌, ℕ, zero, suc, if◌then◌else◌, List, [], ◌∷◌, Option, Some, None, refl, ap, ◌∙◌}
use Rattle.std.specs.Prelude.{slice_index_or}
use Rattle.fw_flow.specs.declared.kind.Domain.{Domain}
use Rattle.fw_flow.specs.declared.kind.Domain.TheVariants.{Epoch, Number, Loop as InLoop}
use Rattle.fw_flow.specs.Kind.{Kind}
use Rattle.fw_flow.specs.declared.kind.Kind.TheVariants.{Input, OutputEpoch, OutputNumber, Select, Concat, Distinct, Join, Sum, Enter, Feedback, Leave, Total, Sequence, Ledger, Regroup}
use Rattle.fw_flow.specs.declared.node.Loop.{Loop}
use Rattle.fw_flow.specs.Dataflow.{Dataflow, max_of, declared_parent, ends_within, domain_within, parent_of, loops_within, loops_of, is_one_of, is_domain_within, domain_of_kind, out_domain_of_kind}

pub max_of-loops : (f g : Dataflow) → f.loops ≡ g.loops → (l : ℕ) → max_of f l ≡ max_of g l
unfolding max_of
max_of-loops f g e l = ap (λ (loops : List Loop). (slice_index_or loops l (record { name = []; max = 0; parent = None })).max) e

pub declared_parent-loops : (f g : Dataflow) → f.loops ≡ g.loops → (l : ℕ) → declared_parent f l ≡ declared_parent g l
unfolding declared_parent
declared_parent-loops f g e l = ap (λ (loops : List Loop). (slice_index_or loops l (record { name = []; max = 0; parent = None })).parent) e

pub ends_within-loops : (f g : Dataflow) → f.loops ≡ g.loops → (n : ℕ) (l : Option ℕ) → ends_within n f l ≡ ends_within n g l
ends_within-loops f g e n None = refl
ends_within-loops f g e zero (Some l) = refl
ends_within-loops f g e (suc n) (Some l) = ap (ends_within n f) (declared_parent-loops f g e l) ∙ ends_within-loops f g e n (declared_parent g l)

pub parent_of-loops : (f g : Dataflow) → f.loops ≡ g.loops → (l : ℕ) → parent_of f l ≡ parent_of g l
unfolding parent_of
parent_of-loops f g e l =
    ap (λ b. if b then domain_within (declared_parent f l) else Epoch) (ends_within-loops f g e 3 (Some l))
    ∙ ap (λ (k : Option ℕ). if ends_within 3 g (Some l) then domain_within k else Epoch) (declared_parent-loops f g e l)

loops_within-loops : (f g : Dataflow) → f.loops ≡ g.loops → (n : ℕ) (d : Domain) → loops_within n f d ≡ loops_within n g d
loops_within-loops f g e n Epoch = refl
loops_within-loops f g e n Number = refl
loops_within-loops f g e zero (InLoop l) = refl
loops_within-loops f g e (suc n) (InLoop l) =
    ap (λ d. l ∷ loops_within n f d) (parent_of-loops f g e l) ∙ ap (λ ls. l ∷ ls) (loops_within-loops f g e n (parent_of g l))

pub is_domain_within-loops : (f g : Dataflow) → f.loops ≡ g.loops → (l : ℕ) (d : Domain) → is_domain_within f l d ≡ is_domain_within g l d
unfolding loops_of
is_domain_within-loops f g e l d = ap (is_one_of l) (loops_within-loops f g e 3 d)

pub domain_of_kind-loops : (f g : Dataflow) → f.loops ≡ g.loops → (kind : Kind) → domain_of_kind f kind ≡ domain_of_kind g kind
domain_of_kind-loops f g e (Enter l) = parent_of-loops f g e l
domain_of_kind-loops f g e Input = refl
domain_of_kind-loops f g e OutputEpoch = refl
domain_of_kind-loops f g e OutputNumber = refl
domain_of_kind-loops f g e (Select selection within) = refl
domain_of_kind-loops f g e (Concat within) = refl
domain_of_kind-loops f g e (Distinct within) = refl
domain_of_kind-loops f g e (Join within) = refl
domain_of_kind-loops f g e (Sum within) = refl
domain_of_kind-loops f g e (Feedback l) = refl
domain_of_kind-loops f g e (Leave l) = refl
domain_of_kind-loops f g e Total = refl
domain_of_kind-loops f g e Sequence = refl
domain_of_kind-loops f g e Ledger = refl
domain_of_kind-loops f g e (Regroup n) = refl

pub out_domain_of_kind-loops : (f g : Dataflow) → f.loops ≡ g.loops → (kind : Kind) → out_domain_of_kind f kind ≡ out_domain_of_kind g kind
out_domain_of_kind-loops f g e (Leave l) = parent_of-loops f g e l
out_domain_of_kind-loops f g e (Enter l) = refl
out_domain_of_kind-loops f g e Input = refl
out_domain_of_kind-loops f g e OutputEpoch = refl
out_domain_of_kind-loops f g e OutputNumber = refl
out_domain_of_kind-loops f g e (Select selection within) = refl
out_domain_of_kind-loops f g e (Concat within) = refl
out_domain_of_kind-loops f g e (Distinct within) = refl
out_domain_of_kind-loops f g e (Join within) = refl
out_domain_of_kind-loops f g e (Sum within) = refl
out_domain_of_kind-loops f g e (Feedback l) = refl
out_domain_of_kind-loops f g e Total = refl
out_domain_of_kind-loops f g e Sequence = refl
out_domain_of_kind-loops f g e Ledger = refl
out_domain_of_kind-loops f g e (Regroup n) = refl
