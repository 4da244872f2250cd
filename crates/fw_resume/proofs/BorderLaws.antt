-- Inputs and outputs that start again, one after the other.
use Rattle.std.proofs.Common.{◌≡◌, ℕ, zero, suc, [], ◌+◌, ◌<◌, ◌≤◌, List, length, get_or, set, refl, sym, ap, subst, ◌∙◌, inl, inr, arith, add-one}
use Rattle.std.proofs.lemmas.Bool.{cases_eq}
use Rattle.std.proofs.lemmas.List.{get_or-set_same, get_or-set_other, length-set, get_or_default, set-get_or, set-set}
use Rattle.fw_frontier.specs.Front.{Front}
use Rattle.fw_model.specs.Machine.{front_of}
use Rattle.fw_border.specs.Outputs.{OutputState, OutputsState, output_at, with_output, acknowledged, new_output}
use Rattle.fw_border.specs.Sources.{SourceState, with_source, advanced, given_up, unused_source}
use Rattle.fw_resume.specs.Borders.{advanced_by, acknowledged_by, started, number_or_none, AreStarted, AreRaised}

-- ---- one place after the other

-- The first n places were changed so, and the others are as they were.
pub record AreChangedUpTo {A : Type 0} (d : A) (change : ℕ → A → A) (n : ℕ) (old new : List A) : Type 0 where
  pub one_each : length new ≡ length old
  pub each : (p : ℕ) → p < n → get_or new p d ≡ change p (get_or old p d)
  pub rest : (p : ℕ) → n ≤ p → get_or new p d ≡ get_or old p d

pub changed_none : {A : Type 0} (d : A) (change : ℕ → A → A) (old : List A) → AreChangedUpTo d change 0 old old
changed_none d change old = record { one_each = refl; each = λ p l. absurd (omega (arith, l)); rest = λ p l. refl }

pub changed_more : {A : Type 0} (d : A) (change : ℕ → A → A) (n : ℕ) (old mid new : List A) → n < length old → AreChangedUpTo d change n old mid
    → new ≡ set mid n (change n (get_or mid n d)) → AreChangedUpTo d change (n + 1) old new
changed_more d change n old mid new l a e = record {
  one_each = ap length e ∙ length-set mid n (change n (get_or mid n d)) ∙ a.one_each;
  each = λ p k. elim (cases_eq p n) [
    | inl same ↦
        subst (λ q. get_or new q d ≡ change q (get_or old q d)) (sym same)
        (ap (λ xs. get_or xs n d) e ∙ get_or-set_same mid n (change n (get_or mid n d)) d (omega (arith, l, a.one_each))
        ∙ ap (change n) (a.rest n (omega arith)))
    | inr other ↦
        ap (λ xs. get_or xs p d) e ∙ get_or-set_other mid n p (change n (get_or mid n d)) d other ∙ a.each p (omega (arith, k, other))
  ];
  rest = λ p k. ap (λ xs. get_or xs p d) e ∙ get_or-set_other mid n p (change n (get_or mid n d)) d (λ same. absurd (omega (arith, k, same)))
      ∙ a.rest p (omega (arith, k));
}

-- what is changed at a place, and again
pub set_again : {A : Type 0} (d : A) (f g : A → A) (xs : List A) (i : ℕ) → i < length xs
    → set (set xs i (f (get_or xs i d))) i (g (get_or (set xs i (f (get_or xs i d))) i d)) ≡ set xs i (g (f (get_or xs i d)))
set_again d f g xs i l =
    let now = f (get_or xs i d) in
    ap (λ x. set (set xs i now) i (g x)) (get_or-set_same xs i now d l) ∙ set-set xs i now (g now)

-- a place that is changed by nothing
pub set_itself : {A : Type 0} (d : A) (xs : List A) (i : ℕ) → set xs i (get_or xs i d) ≡ xs
set_itself d xs i = set-get_or xs i d

-- ---- inputs

pub advanced_more : (n : ℕ) (sources : List SourceState) (s : ℕ) → s < length sources
    → with_source advanced (with_source (advanced_by n) sources s) s ≡ with_source (advanced_by (n + 1)) sources s
advanced_more n sources s l =
    set_again (unused_source []) (advanced_by n) advanced sources s l
    ∙ ap (λ k. set sources s (advanced_by k (get_or sources s (unused_source [])))) (sym (add-one n))

pub advanced_none : (sources : List SourceState) (s : ℕ) → sources ≡ with_source (advanced_by 0) sources s
advanced_none sources s = sym (set_itself (unused_source []) sources s)

pub started_by : (n : ℕ) (low : Front) (sources mid new : List SourceState) (s : ℕ) → s < length sources → mid ≡ with_source (advanced_by n) sources s
    → new ≡ with_source (given_up low) mid s → new ≡ with_source (started n low) sources s
started_by n low sources mid new s l m e =
    e ∙ ap (λ xs. with_source (given_up low) xs s) m ∙ set_again (unused_source []) (advanced_by n) (given_up low) sources s l

pub low_at : (low : List Front) (p : ℕ) (f : Front) → p < length low → f ≡ get_or low p f → f ≡ front_of low p
low_at low p f l e = e ∙ get_or_default low p f [] l

abbrev pub starting : List ℕ → List ℕ → List Front → ℕ → SourceState → SourceState
starting inputs injected low p source = started (number_or_none inputs injected p) (front_of low p) source

pub started_all : (inputs injected : List ℕ) (low : List Front) (n : ℕ) (old new : List SourceState)
    → AreChangedUpTo (unused_source []) (starting inputs injected low) n old new → AreStarted inputs injected low n old new
started_all inputs injected low n old new a = record { one_each = a.one_each; each = a.each }

-- ---- outputs

pub acknowledged_none : (all : OutputsState) (o : ℕ) → all ≡ record all { outputs = with_output (acknowledged_by 0) all.outputs o }
acknowledged_none all o = ap (λ (os : List OutputState). record all { outputs = os }) (sym (set_itself new_output all.outputs o))

pub acknowledged_more : (n : ℕ) (outputs : List OutputState) (o : ℕ) → o < length outputs
    → with_output acknowledged (with_output (acknowledged_by n) outputs o) o ≡ with_output (acknowledged_by (n + 1)) outputs o
acknowledged_more n outputs o l =
    set_again new_output (acknowledged_by n) acknowledged outputs o l
    ∙ ap (λ k. set outputs o (acknowledged_by k (get_or outputs o new_output))) (sym (add-one n))

-- as many are acknowledged as were before, and so many more
pub bound_of : (n : ℕ) (output : OutputState) → (acknowledged_by n output).bound ≡ output.bound + n
bound_of zero output = omega arith
bound_of (suc n) output = ap (λ b. b + 1) (bound_of n output) ∙ omega arith

pub bound_there : (n : ℕ) (outputs : List OutputState) (o : ℕ) → o < length outputs → (output_at outputs o).bound ≡ 0
    → (output_at (with_output (acknowledged_by n) outputs o) o).bound ≡ n
bound_there n outputs o l e =
    ap (λ (x : OutputState). x.bound) (get_or-set_same outputs o (acknowledged_by n (output_at outputs o)) new_output l)
    ∙ bound_of n (output_at outputs o) ∙ ap (λ b. b + n) e ∙ omega arith

abbrev pub raising : List ℕ → List ℕ → ℕ → OutputState → OutputState
raising nodes bounds p output = acknowledged_by (number_or_none nodes bounds p) output

pub raised_all : (nodes bounds : List ℕ) (n : ℕ) (old new : List OutputState) → AreChangedUpTo new_output (raising nodes bounds) n old new
    → AreRaised nodes bounds n old new
raised_all nodes bounds n old new a = record { one_each = a.one_each; each = a.each }
