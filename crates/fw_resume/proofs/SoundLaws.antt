-- A root that tells what an engine keeps has one spelling.
use Rattle.std.proofs.Common.{◌≡◌, ◌<◌, ◌^◌, Bool, true, ◌&&◌, List, [], ◌∷◌, ◌++◌, length, refl, sym, ap, ◌∙◌}
use Rattle.std.specs.Option.{option_map_or}
use Rattle.std.specs.List.{AllByRecursion}
use Rattle.std.proofs.lemmas.Bool.{and_from, and_parts}
use Rattle.fw_lemmas.proofs.Lists.{last_of}
use Rattle.fw_lemmas.proofs.Each.{each-append}
use Rattle.fw_time.specs.Stamp.{in_domain}
use Rattle.fw_time.specs.declared.stamp.Bounds.{Bounds}
use Rattle.fw_bytes.specs.Sound.{IsStamp, after_last, each_may_follow, may_follow_stamps}
use Rattle.fw_bytes.proofs.FrontLaws.{sound_of_canonical}
use Rattle.fw_frontier.specs.Front.{Front, IsCanonical}
use Rattle.fw_root.specs.declared.extent.Extent.{Extent}
use Rattle.fw_root.specs.OfFlow.{allows_size, allows_stamp}
use Rattle.fw_root.specs.Sound.{IsFrontIn, may_follow_outside}

-- ---- what may stand after what

-- the first of these may come next
abbrev pub IsNextOf : {A : Type 0} → (A → A → Bool) → List A → List A → Type 0
IsNextOf prec before [] = Unit {0}
IsNextOf prec before (x ∷ xs) = after_last prec before x ≡ true

-- each of these stands before the next one
abbrev pub Rise : {A : Type 0} → (A → A → Bool) → List A → Type 0
Rise prec [] = Unit {0}
Rise prec (x ∷ xs) = IsNextOf prec (x ∷ []) xs × Rise prec xs

next-of : {A : Type 0} (prec : A → A → Bool) (before : List A) (x : A) (xs : List A) → IsNextOf prec (x ∷ []) xs → IsNextOf prec (before ++ x ∷ []) xs
next-of prec before x [] n = tt
next-of prec before x (y ∷ ys) n = ap (λ o. option_map_or (λ last. prec last y) o true) (last_of before x) ∙ sym (ap (λ o. option_map_or (λ last. prec last y) o true) (last_of [] x)) ∙ n

pub follow_all : {A : Type 0} (rule : List A → A → Bool) (prec : A → A → Bool) (P : A → Type 0) → ((b : List A) (x : A) → P x → after_last prec b x ≡ true → rule b x ≡ true)
    → (before xs : List A) → IsNextOf prec before xs → Rise prec xs → AllByRecursion P xs → each_may_follow rule before xs ≡ true
follow_all rule prec P k before [] n r a = refl
follow_all rule prec P k before (x ∷ xs) n r a =
    and_from (rule before x) (each_may_follow rule (before ++ x ∷ []) xs) (k before x a.0 n)
    (follow_all rule prec P k (before ++ x ∷ []) xs (next-of prec before x xs r.0) r.1 a.1)

-- each of these stands before each later one
abbrev pub AllRise : {A : Type 0} → (A → A → Bool) → List A → Type 0
AllRise prec [] = Unit {0}
AllRise prec (x ∷ xs) = AllByRecursion (λ y. prec x y ≡ true) xs × AllRise prec xs

next-later : {A : Type 0} (prec : A → A → Bool) (x : A) (ys : List A) → AllByRecursion (λ y. prec x y ≡ true) ys → IsNextOf prec (x ∷ []) ys
next-later prec x [] a = tt
next-later prec x (y ∷ ys) a = a.0

rise-all : {A : Type 0} (prec : A → A → Bool) (xs : List A) → AllRise prec xs → Rise prec xs
rise-all prec [] r = tt
rise-all prec (x ∷ xs) r = (next-later prec x xs r.0, rise-all prec xs r.1)

next-first : {A : Type 0} (prec : A → A → Bool) (xs : List A) → IsNextOf prec [] xs
next-first prec [] = tt
next-first prec (x ∷ xs) = refl

pub follow_rising : {A : Type 0} (rule : List A → A → Bool) (prec : A → A → Bool) (P : A → Type 0) → ((b : List A) (x : A) → P x → after_last prec b x ≡ true → rule b x ≡ true)
    → (xs : List A) → AllRise prec xs → AllByRecursion P xs → each_may_follow rule [] xs ≡ true
follow_rising rule prec P k xs r a = follow_all rule prec P k [] xs (next-first prec xs) (rise-all prec xs r) a

pub rise-append : {A : Type 0} (prec : A → A → Bool) (xs ys : List A) → AllRise prec xs → AllRise prec ys → AllByRecursion (λ x. AllByRecursion (λ y. prec x y ≡ true) ys) xs
    → AllRise prec (xs ++ ys)
rise-append prec [] ys a b c = b
rise-append prec (x ∷ xs) ys a b c = (each-append (λ y. prec x y ≡ true) xs ys a.0 c.0, rise-append prec xs ys a.1 b c.1)

-- ---- fronts

in_domain-each : (b : Bounds) (f : Front) → IsCanonical b f → AllByRecursion (λ s. in_domain b s ≡ true) f
in_domain-each b [] c = tt
in_domain-each b (s ∷ f) c = (c.0.in_the_domain, in_domain-each b f c.1)

outside-follow : (b : Bounds) (x : Extent) (before f : Front) → each_may_follow may_follow_stamps before f ≡ true → AllByRecursion (λ s. in_domain b s ≡ true) f
    → AllByRecursion (λ s. allows_stamp b x s ≡ true) f → each_may_follow (may_follow_outside b x) before f ≡ true
outside-follow b x before [] e d a = refl
outside-follow b x before (s ∷ f) e d a =
    let k = and_parts (may_follow_stamps before s) (each_may_follow may_follow_stamps (before ++ s ∷ []) f) e in
    and_from (may_follow_outside b x before s) (each_may_follow (may_follow_outside b x) (before ++ s ∷ []) f)
    (and_from (in_domain b s) (allows_stamp b x s && may_follow_stamps before s) d.0 (and_from (allows_stamp b x s) (may_follow_stamps before s) a.0 k.0))
    (outside-follow b x (before ++ s ∷ []) f k.1 d.1 a.1)

pub front_in : (b : Bounds) (x : Extent) (f : Front) → IsStamp b.greatest → length f < 2 ^ 32 → IsCanonical b f → AllByRecursion (λ s. allows_stamp b x s ≡ true) f
    → allows_size x (length f) ≡ true → IsFrontIn b x f
front_in b x f g few c a size =
    let s = sound_of_canonical b f g few c in record {
      outside = record { few = few; parts = s.parts; follow = outside-follow b x [] f s.follow (in_domain-each b f c) a };
      size = size;
    }
