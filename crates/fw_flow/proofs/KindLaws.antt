-- Kinds with another loop.
use Rattle.std.proofs.Common.{◌≡◌, ◌↔◌, Option, Some, None, refl, ap, IfSome}
use Rattle.std.proofs.lemmas.Option.{same_Some}
use Rattle.std.specs.Option.{option_map}
use Rattle.fw_flow.specs.declared.kind.Kind.{Kind as KindBy}
use Rattle.fw_flow.specs.declared.kind.Kind.TheVariants.{Input, Select, Concat, Distinct, Join, Sum, Enter, Feedback, Leave, Regroup}
use Rattle.fw_flow.specs.Kind.{loop_of_kind, kind_map}
use Rattle.fw_flow.specs.WellFormed.{IsGroupSize}

-- what holds of each value holds of the one that there may be
pub IfSome-each : {X : Type 0} {P : X → Type 0} (o : Option X) → ((x : X) → P x) → IfSome o P
IfSome-each None h = tt
IfSome-each (Some x) h = h x

-- the loop of a kind with another loop is that loop
pub loop_of_kind-map : {L M : Type 0} (f : L → M) (kind : KindBy L) → loop_of_kind (kind_map f kind) ≡ option_map f (loop_of_kind kind)
loop_of_kind-map f Input = refl
loop_of_kind-map f kind = refl

-- it regroups by as many numbers
pub IsGroupSize-map : {L M : Type 0} (f : L → M) (kind : KindBy L) → IsGroupSize (kind_map f kind) ↔ IsGroupSize kind
IsGroupSize-map f (Regroup n) = (λ h. h, λ h. h)
IsGroupSize-map f kind = (λ h. tt, λ h. tt)

-- a kind whose loop g finds again is found again
pub kind_map-back : {L M : Type 0} (f : L → M) (g : M → L) (kind : KindBy L) → option_map g (option_map f (loop_of_kind kind)) ≡ loop_of_kind kind
    → kind_map g (kind_map f kind) ≡ kind
kind_map-back f g (Select selection within) back = ap (λ w. Select selection w) back
kind_map-back f g (Concat within) back = ap (λ w. Concat w) back
kind_map-back f g (Distinct within) back = ap (λ w. Distinct w) back
kind_map-back f g (Join within) back = ap (λ w. Join w) back
kind_map-back f g (Sum within) back = ap (λ w. Sum w) back
kind_map-back f g (Enter l) back = ap (λ l. Enter l) (same_Some (g (f l)) l back)
kind_map-back f g (Feedback l) back = ap (λ l. Feedback l) (same_Some (g (f l)) l back)
kind_map-back f g (Leave l) back = ap (λ l. Leave l) (same_Some (g (f l)) l back)
kind_map-back f g kind back = refl
