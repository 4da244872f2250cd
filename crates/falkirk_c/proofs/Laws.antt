-- A clause over what a handle holds, once that is known.
use Rattle.std.proofs.Common.{◌≡◌, ℕ, List, [], ◌<◌, ◌≤◌, length, Option, None, Some, Result, Ok, Err, IfOk, subst, sym, refl, ap, ◌∙◌, inr}
use Rattle.std.specs.List.{slice_get, slice_index_or}
use Rattle.std.proofs.lemmas.Option.{slice_get_past, slice_get_read}
use Rattle.fw_talk.specs.declared.talk.Talk.{Talk}
use Rattle.falkirk_c.specs.Calls.{Gathers, IsCopied}

-- a handle held this and holds that
pub known : {T : Type 0} (P : Option T → Option T → Type 0) (old new a b : Option T) → old ≡ a → new ≡ b → P a b → P old new
known P old new a b was is p = subst (λ o. P o new) (sym was) (subst (λ n. P a n) (sym is) p)

-- what is said of a value is said of one that is the same
pub if-ok-same : {T B E : Type 0} (P : T → Type 0) (value : B → T) (result : Result B E) (x : T) → P x → IfOk result (λ b. value b ≡ x)
    → IfOk result (λ b. P (value b))
if-ok-same P value (Ok b) x p same = subst P (sym same) p
if-ok-same P value (Err e) x p same = tt

-- no memory, and the handle is as it was
pub gathers-not : (held : Option Talk) → Gathers held 2 held
gathers-not None = (refl, refl)
gathers-not (Some talk) = inr (refl, refl)

-- bytes that are told by another name
pub copied-of : (told bytes old new : List ℕ) (count : ℕ) → told ≡ bytes → count ≡ length told → IsCopied told old new
    → (count ≡ length bytes) × IsCopied bytes old new
copied-of told bytes old new count same counted copied = subst (λ bs. (count ≡ length bs) × IsCopied bs old new) same (counted, copied)

-- what a list has at a place, if it is one of it
pub found-at : {X : Type 0} (told items : List X) (place : ℕ) (x : X) → told ≡ items → place < length told → x ≡ slice_index_or told place x
    → slice_get items place ≡ Some x
found-at told items place x same within is = ap (λ xs. slice_get xs place) (sym same) ∙ slice_get_read told (length told) place x refl within is

pub none-at : {X : Type 0} (told items : List X) (place : ℕ) → told ≡ items → length told ≤ place → slice_get items place ≡ None
none-at told items place same past = ap (λ xs. slice_get xs place) (sym same) ∙ slice_get_past told place past
