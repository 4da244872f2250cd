-- The laws of arrivals.
use Rattle.std.proofs.Common.{◌≡◌, Bool, true, false, cond, not, List, [], ◌∷◌, filter, refl, sym, ap, ◌∙◌}
use Rattle.std.specs.List.{AllByRecursion}
use Rattle.fw_lemmas.proofs.Each.{each-weaker, each-filter}
use Rattle.fw_time.specs.Stamp.{Stamp, same}
use Rattle.fw_time.proofs.StampLaws.{same-is}
use Rattle.fw_bag.specs.declared.rec.Rec.{Rec}
use Rattle.fw_bag.specs.Arrivals.{Arrival, arrivals_at, arrivals_inside, recs_of, recs_where, recs_inside, AreInside, AreTimes}

-- ---- one arrival more

pub at-here : (t : Stamp) (a : Arrival) (came : List Arrival) → same a.at t ≡ true → arrivals_at t (a ∷ came) ≡ a ∷ arrivals_at t came
at-here t a came h = ap (λ b. cond b (a ∷ arrivals_at t came) (arrivals_at t came)) h

pub at-elsewhere : (t : Stamp) (a : Arrival) (came : List Arrival) → same a.at t ≡ false → arrivals_at t (a ∷ came) ≡ arrivals_at t came
at-elsewhere t a came h = ap (λ b. cond b (a ∷ arrivals_at t came) (arrivals_at t came)) h

-- ---- the arrivals inside

at_inside_cases : (t : Stamp) (test : Stamp → Bool) (a : Arrival) (came : List Arrival)
    → arrivals_at t (arrivals_inside test came) ≡ cond (test t) (arrivals_at t came) []
    → (b d : Bool) → test a.at ≡ b → same a.at t ≡ d
    → arrivals_at t (cond b (a ∷ arrivals_inside test came) (arrivals_inside test came)) ≡ cond (test t) (cond d (a ∷ arrivals_at t came) (arrivals_at t came)) []
at_inside_cases t test a came ih false true k s =
    let out : test t ≡ false = sym (ap test (same-is a.at t s)) ∙ k in
    ih ∙ ap (λ b. cond b (arrivals_at t came) []) out ∙ sym (ap (λ b. cond b (a ∷ arrivals_at t came) []) out)
at_inside_cases t test a came ih false false k s = ih
at_inside_cases t test a came ih true true k s =
    let into : test t ≡ true = sym (ap test (same-is a.at t s)) ∙ k in
    at-here t a (arrivals_inside test came) s
    ∙ ap (λ xs. a ∷ xs) (ih ∙ ap (λ b. cond b (arrivals_at t came) []) into)
    ∙ sym (ap (λ b. cond b (a ∷ arrivals_at t came) []) into)
at_inside_cases t test a came ih true false k s = at-elsewhere t a (arrivals_inside test came) s ∙ ih

-- of those inside, all or none are at a stamp
pub at-inside : (t : Stamp) (test : Stamp → Bool) (came : List Arrival)
    → arrivals_at t (arrivals_inside test came) ≡ cond (test t) (arrivals_at t came) []
at-inside t test [] = none (test t)
  where
    none : (b : Bool) → [] ≡ cond {A = List Arrival} b [] []
    none true = refl
    none false = refl
at-inside t test (a ∷ came) = at_inside_cases t test a came (at-inside t test came) (test a.at) (same a.at t) refl refl

inside_cases : (test : Stamp → Bool) (a : Arrival) (kept rest : List Arrival) → arrivals_inside test kept ≡ rest
    → (b d : Bool) → test a.at ≡ b → (b ≡ true → d ≡ true) → arrivals_inside test (cond d (a ∷ kept) kept) ≡ cond b (a ∷ rest) rest
inside_cases test a kept rest ih true true k h =
    ap (λ b. cond b (a ∷ arrivals_inside test kept) (arrivals_inside test kept)) k ∙ ap (λ xs. a ∷ xs) ih
inside_cases test a kept rest ih true false k h = absurd (no (h refl))
  where
    no : false ≡ true → ⊥
    no e = cc
inside_cases test a kept rest ih false true k h =
    ap (λ b. cond b (a ∷ arrivals_inside test kept) (arrivals_inside test kept)) k ∙ ih
inside_cases test a kept rest ih false false k h = ih

-- a test that passes fewer stamps passes those of what another one passed
pub inside-narrower : (test other : Stamp → Bool) → ((s : Stamp) → test s ≡ true → other s ≡ true) → (came : List Arrival)
    → arrivals_inside test (arrivals_inside other came) ≡ arrivals_inside test came
inside-narrower test other h [] = refl
inside-narrower test other h (a ∷ came) =
    inside_cases test a (arrivals_inside other came) (arrivals_inside test came) (inside-narrower test other h came) (test a.at) (other a.at) refl (h a.at)

-- ---- recs by a test

-- tests that agree pass the same recs
pub where-same : (test other : Arrival → Bool) → ((a : Arrival) → test a ≡ other a) → (came : List Arrival) → recs_where test came ≡ recs_where other came
where-same test other h [] = refl
where-same test other h (a ∷ came) =
    ap (λ b. cond b (a.rec ∷ recs_where test came) (recs_where test came)) (h a)
    ∙ ap (λ rs. cond (other a) (a.rec ∷ rs) rs) (where-same test other h came)

where_cases : (test : Arrival → Bool) (a : Arrival) (came : List Arrival) → recs_where test came ≡ recs_of (filter test came)
    → (b : Bool) → cond b (a.rec ∷ recs_where test came) (recs_where test came) ≡ recs_of (cond b (a ∷ filter test came) (filter test came))
where_cases test a came ih true = ap (λ (rs : List Rec). a.rec ∷ rs) ih
where_cases test a came ih false = ih

-- they are the recs of the arrivals that the test keeps
pub where-filter : (test : Arrival → Bool) (came : List Arrival) → recs_where test came ≡ recs_of (filter test came)
where-filter test [] = refl
where-filter test (a ∷ came) = where_cases test a came (where-filter test came) (test a)

-- ---- what came inside a test, and outside it

not_both : (a b : Bool) → (b ≡ true → a ≡ true) → not a ≡ true → not b ≡ true
not_both a false h e = refl
not_both a true h e = sym (ap not (h refl)) ∙ e

-- what is outside twice is outside what holds both
pub outside_twice : (inside after : Stamp → Bool) → ((s : Stamp) → inside s ≡ true → after s ≡ true) → (came : List Arrival)
    → arrivals_inside (λ s. not (after s)) (arrivals_inside (λ s. not (inside s)) came) ≡ arrivals_inside (λ s. not (after s)) came
outside_twice inside after h came =
    inside-narrower (λ s. not (after s)) (λ s. not (inside s)) (λ s. not_both (after s) (inside s) (h s)) came

-- where all came inside, nothing came outside
pub none_outside : (inside : Stamp → Bool) (came : List Arrival) → AreInside inside came → arrivals_inside (λ s. not (inside s)) came ≡ []
none_outside inside [] h = refl
none_outside inside (a ∷ came) h =
    ap (λ b. cond (not b) (a ∷ arrivals_inside (λ s. not (inside s)) came) (arrivals_inside (λ s. not (inside s)) came)) h.0
    ∙ none_outside inside came h.1

-- and all recs came inside
pub all_inside : (inside : Stamp → Bool) (came : List Arrival) → AreInside inside came → recs_inside inside came ≡ recs_of came
all_inside inside [] h = refl
all_inside inside (a ∷ came) h =
    ap (λ b. cond b (a.rec ∷ recs_inside inside came) (recs_inside inside came)) h.0 ∙ ap (λ (rs : List Rec). a.rec ∷ rs) (all_inside inside came h.1)

-- what is kept inside is inside
pub kept_inside : (inside : Stamp → Bool) (came : List Arrival) → AreInside inside (arrivals_inside inside came)
kept_inside inside came = each-filter (λ (a : Arrival). inside a.at ≡ true) (λ (a : Arrival). inside a.at) came (each came)
  where
    each : (xs : List Arrival) → AllByRecursion (λ (a : Arrival). inside a.at ≡ true → inside a.at ≡ true) xs
    each [] = tt
    each (x ∷ xs) = ((λ h. h), each xs)

-- and at times of the type
pub kept_times : {T : Type 0} (coords : T → Stamp) (inside : Stamp → Bool) (came : List Arrival) → AreTimes coords came
    → AreTimes coords (arrivals_inside inside came)
kept_times {T} coords inside came h =
    let P : Arrival → Type 0 = λ a. (t : T) × (coords t ≡ a.at) in
    each-filter P (λ a. inside a.at) came (each-weaker P (λ a. inside a.at ≡ true → P a) came (λ a p e. p) h)

-- its recs are those that came inside
pub kept_recs : (inside : Stamp → Bool) (came : List Arrival) → recs_inside inside came ≡ recs_of (arrivals_inside inside came)
kept_recs inside came = where-filter (λ a. inside a.at) came
