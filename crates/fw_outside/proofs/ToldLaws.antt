-- What follows for the records of a store that may cease to tell them.
use Rattle.std.proofs.Common.{List, ℕ, Option, Some, None, nat_cmp, refl, sym, ◌∙◌, subst}
use Rattle.std.specs.Prelude.{IsSome}
use Rattle.std.specs.FinMap.{FinMap}
use Rattle.fw_outside.specs.Outside.{StayIfTold}

abbrev Records : Type 0
Records = FinMap nat_cmp (List ℕ)

-- what is true of the records, and where none are told, is true of them afterwards
pub told-kept : (P : Option Records → Type 0) (before after : Option Records) → StayIfTold before after → P None → P before → P after
told-kept P before None stay none at = none
told-kept P before (Some held) stay none at = subst P (sym (stay refl)) at

-- records that are told afterwards were told before
pub told-before : (before after : Option Records) → StayIfTold before after → IsSome after → IsSome before
told-before before after stay told = subst (λ (records : Option Records). IsSome records) (stay told) told

-- over two calls
pub told-on : (first middle last : Option Records) → StayIfTold first middle → StayIfTold middle last → StayIfTold first last
told-on first middle last one other told = let e = other told in e ∙ one (subst (λ (records : Option Records). IsSome records) e told)
