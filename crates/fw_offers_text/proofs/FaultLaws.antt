-- The lines of a text, judged one after another.
use Rattle.std.proofs.Common.{◌≡◌, ℕ, ◌+◌, List, [], ◌∷◌, ◌++◌, length, Option, Some, None, refl, sym, ◌∙◌, ap, subst, arith, append_assoc, ◌⊎◌, inl, inr}
use Rattle.std.proofs.lemmas.Bool.{cases_lt}
use Rattle.std.proofs.lemmas.List.{append-nil, length-append}
use Rattle.fw_offers_text.specs.declared.code.ChoiceFault.{ChoiceFault}
use Rattle.fw_offers_text.specs.declared.code.ChoiceFault.TheVariants.{Refused, NoMemory}
use Rattle.fw_offers_text.specs.declared.code.ChoiceCode.{ChoiceCode}
use Rattle.fw_offers_text.specs.declared.code.ChoiceRefusal.{ChoiceRefusal}
use Rattle.fw_offers_text.specs.Faults.{BreakNoChoiceRule, IsFirstChoiceFault, IfChoiceRefused, ChoiceRules, KeepsChoiceRules, IsFirstChoiceRefusal, choice_size_limit}
use Rattle.fw_lines.specs.Lines.{Said, said_lines}

-- ---- rules under which each text has exactly one answer

-- a line breaks one of the rules or none, and no two
pub record AreExact (breaks : List Said → Said → ChoiceCode → Type 0) : Type 0 where
  pub decided : (before : List Said) (line : Said) → ((code : ChoiceCode) × breaks before line code) ⊎ ((code : ChoiceCode) → breaks before line code → ⊥)
  pub no_two : (before : List Said) (line : Said) (first second : ChoiceCode) → breaks before line first → breaks before line second → first ≡ second

-- the rules that a function tells: a line breaks the one that it names
abbrev pub Told : (List Said → Said → Option ChoiceCode) → List Said → Said → ChoiceCode → Type 0
Told fault before line code = fault before line ≡ Some code

pub none_told : (o : Option ChoiceCode) → o ≡ None → (code : ChoiceCode) → o ≡ Some code → ⊥
none_told o e code f = let h : None ≡ Some code = sym e ∙ f in absurd (cc)

pub told_none : (o : Option ChoiceCode) → ((code : ChoiceCode) → o ≡ Some code → ⊥) → o ≡ None
told_none None h = refl
told_none (Some code) h = absurd (h code refl)

pub told_exact : (fault : List Said → Said → Option ChoiceCode) → AreExact (Told fault)
told_exact fault = record {
  decided = λ before line. decide (fault before line);
  no_two = λ before line first second e f. let h : Some first ≡ Some second = sym e ∙ f in cc;
}
  where
    decide : (o : Option ChoiceCode) → ((code : ChoiceCode) × (o ≡ Some code)) ⊎ ((code : ChoiceCode) → o ≡ Some code → ⊥)
    decide None = inr (none_told None refl)
    decide (Some code) = inl (code, refl)

-- ---- places of lines

-- one of two lines of a text stands before the other, or both are the same
places : (b : List Said) (x : Said) (r : List Said) (c : List Said) (y : Said) (s : List Said) → b ++ x ∷ r ≡ c ++ y ∷ s
    → ((b ≡ c) × (x ≡ y)) ⊎ (((t : List Said) × (b ++ x ∷ t ≡ c)) ⊎ ((t : List Said) × (c ++ y ∷ t ≡ b)))
places [] x r [] y s e = let h : x ≡ y = cc in inl (refl, h)
places [] x r (z ∷ c) y s e = let h : x ≡ z = cc in inr (inl (c, ap (λ w. w ∷ c) h))
places (z ∷ b) x r [] y s e = let h : y ≡ z = cc in inr (inr (b, ap (λ w. w ∷ b) h))
places (w ∷ b) x r (z ∷ c) y s e =
    let h : w ≡ z = cc in
    let t : b ++ x ∷ r ≡ c ++ y ∷ s = cc in
    elim (places b x r c y s t) [
      | inl same ↦ inl (ap (λ v. v ∷ b) h ∙ ap (λ l. z ∷ l) same.0, same.1)
      | inr other ↦ elim other [
        | inl before ↦ inr (inl (before.0, ap (λ v. v ∷ (b ++ x ∷ before.0)) h ∙ ap (λ l. z ∷ l) before.1))
        | inr after ↦ inr (inr (after.0, ap (λ v. v ∷ (c ++ y ∷ after.0)) (sym h) ∙ ap (λ l. w ∷ l) after.1))
      ]
    ]

-- lines that stand behind others are no part of them
not_within : (b : List Said) (x : Said) (r c : List Said) (y : Said) (t : List Said) → b ++ x ∷ r ≡ c ++ y ∷ [] → c ++ y ∷ t ≡ b → ⊥
not_within b x r c y t e f =
    let whole : length b + length (x ∷ r) ≡ length c + 1 = sym (length-append b (x ∷ r)) ∙ ap length e ∙ length-append c (y ∷ []) in
    let part : length c + length (y ∷ t) ≡ length b = sym (length-append c (y ∷ t)) ∙ ap length f in
    absurd (omega (arith, whole, part))

-- ---- lines

-- lines of which the first, `done`, break no rule
pub record IsSoundSoFar (breaks : List Said → Said → ChoiceCode → Type 0) (lines left done : List Said) : Type 0 where
  pub parts : done ++ left ≡ lines
  pub sound : BreakNoChoiceRule breaks done

pub none_judged : (breaks : List Said → Said → ChoiceCode → Type 0) (lines : List Said) → IsSoundSoFar breaks lines lines []
none_judged breaks lines = record { parts = refl; sound = nothing }
  where
    nothing : BreakNoChoiceRule breaks []
    nothing [] line after code e b = absurd (cc)
    nothing (first ∷ before) line after code e b = absurd (cc)

-- one line more breaks no rule
pub sound_more : (breaks : List Said → Said → ChoiceCode → Type 0) (lines done : List Said) (line : Said) (left : List Said) → IsSoundSoFar breaks lines (line ∷ left) done → ((code : ChoiceCode) → breaks done line code → ⊥)
    → IsSoundSoFar breaks lines left (done ++ line ∷ [])
sound_more breaks lines done line left h none = record { parts = append_assoc done (line ∷ []) left ∙ h.parts; sound = sound }
  where
    sound : BreakNoChoiceRule breaks (done ++ line ∷ [])
    sound before other after code e b =
        elim (places before other after done line [] e) [
          | inl same ↦ none code (subst (λ l. breaks done l code) same.1 (subst (λ ls. breaks ls other code) same.0 b))
          | inr apart ↦ elim apart [
            | inl earlier ↦ h.sound before other earlier.0 code earlier.1 b
            | inr later ↦ not_within before other after done line later.0 e later.1
          ]
        ]

-- the next line is the first that breaks a rule
pub first_fault : (breaks : List Said → Said → ChoiceCode → Type 0) (lines done : List Said) (line : Said) (left : List Said) (refusal : ChoiceRefusal) → IsSoundSoFar breaks lines (line ∷ left) done → breaks done line refusal.code → refusal.line ≡ line.number
    → IsFirstChoiceFault breaks lines refusal
first_fault breaks lines done line left refusal h b n = record {
  before = done;
  line = line;
  after = left;
  parts = h.parts;
  earlier = h.sound;
  broken = b;
  number = n;
}

pub none_left : (breaks : List Said → Said → ChoiceCode → Type 0) (lines done : List Said) → IsSoundSoFar breaks lines [] done → BreakNoChoiceRule breaks lines × (done ≡ lines)
none_left breaks lines done h =
    let same : done ≡ lines = sym (append-nil done) ∙ h.parts in
    (subst (BreakNoChoiceRule breaks) same h.sound, same)

pub if_refused-weaker : (P Q : ChoiceRefusal → Type 0) (fault : ChoiceFault) → IfChoiceRefused P fault → ((refusal : ChoiceRefusal) → P refusal → Q refusal) → IfChoiceRefused Q fault
if_refused-weaker P Q (Refused refusal) h f = f refusal h
if_refused-weaker P Q NoMemory h f = tt

-- lines that break no rule have no first fault
pub sound_or_first : (breaks : List Said → Said → ChoiceCode → Type 0) (lines : List Said) (refusal : ChoiceRefusal) → BreakNoChoiceRule breaks lines → IsFirstChoiceFault breaks lines refusal → ⊥
sound_or_first breaks lines refusal sound first = sound first.before first.line first.after refusal.code first.parts first.broken

same_refusal : (r s : ChoiceRefusal) → r.code ≡ s.code → r.line ≡ s.line → r ≡ s
same_refusal r s e f =
    let with_code : ChoiceCode → ChoiceRefusal = λ c. record { code = c; line = r.line } in
    let with_line : ℕ → ChoiceRefusal = λ n. record { code = s.code; line = n } in
    ap with_code e ∙ ap with_line f

-- lines have one first fault
pub one_first : (breaks : List Said → Said → ChoiceCode → Type 0) (lines : List Said) (r s : ChoiceRefusal) → AreExact breaks → IsFirstChoiceFault breaks lines r → IsFirstChoiceFault breaks lines s → r ≡ s
one_first breaks lines r s exact first second =
    elim (places first.before first.line first.after second.before second.line second.after (first.parts ∙ sym second.parts)) [
      | inl same ↦ let there : breaks second.before second.line r.code = subst (λ l. breaks second.before l r.code) same.1 (subst (λ ls. breaks ls first.line r.code) same.0 first.broken) in
          same_refusal r s (exact.no_two second.before second.line r.code s.code there second.broken) (first.number ∙ ap (λ (l : Said). l.number) same.1 ∙ sym second.number)
      | inr apart ↦ elim apart [
        | inl before ↦ absurd (second.earlier first.before first.line before.0 r.code before.1 first.broken)
        | inr after ↦ absurd (first.earlier second.before second.line after.0 s.code after.1 second.broken)
      ]
    ]

-- the lines that are left break no rule, or one is the first that does
first_left : (breaks : List Said → Said → ChoiceCode → Type 0) (lines done left : List Said) → AreExact breaks → IsSoundSoFar breaks lines left done
    → BreakNoChoiceRule breaks lines ⊎ ((refusal : ChoiceRefusal) × IsFirstChoiceFault breaks lines refusal)
first_left breaks lines done [] exact h = inl (none_left breaks lines done h).0
first_left breaks lines done (line ∷ left) exact h = by (exact.decided done line) (λ none. first_left breaks lines (done ++ line ∷ []) left exact (sound_more breaks lines done line left h none))
  where
    by : ((code : ChoiceCode) × breaks done line code) ⊎ ((code : ChoiceCode) → breaks done line code → ⊥)
        → (((code : ChoiceCode) → breaks done line code → ⊥) → BreakNoChoiceRule breaks lines ⊎ ((refusal : ChoiceRefusal) × IsFirstChoiceFault breaks lines refusal))
        → BreakNoChoiceRule breaks lines ⊎ ((refusal : ChoiceRefusal) × IsFirstChoiceFault breaks lines refusal)
    by (inr none) later = later none
    by (inl broken) later =
        let refusal : ChoiceRefusal = record { code = broken.0; line = line.number } in
        inr (refusal, first_fault breaks lines done line left refusal h broken.1 refl)

-- lines break no rule, or one of them is the first that does
pub sound_or_some : (breaks : List Said → Said → ChoiceCode → Type 0) (lines : List Said) → AreExact breaks → BreakNoChoiceRule breaks lines ⊎ ((refusal : ChoiceRefusal) × IsFirstChoiceFault breaks lines refusal)
sound_or_some breaks lines exact = first_left breaks lines [] lines exact (none_judged breaks lines)

-- ---- whole texts

-- a sound text has no first refusal
pub sound_or_refused : (rules : ChoiceRules) (text : List ℕ) (refusal : ChoiceRefusal) → KeepsChoiceRules rules text → IsFirstChoiceRefusal rules text refusal → ⊥
sound_or_refused rules text refusal sound (inl large) = absurd (omega (arith, sound.size, large.0))
sound_or_refused rules text refusal sound (inr first) = sound_or_first rules.breaks (said_lines text) refusal sound.lines first.1

-- a text has one first refusal
pub one_first_refusal : (rules : ChoiceRules) (text : List ℕ) (r s : ChoiceRefusal) → AreExact rules.breaks → IsFirstChoiceRefusal rules text r → IsFirstChoiceRefusal rules text s → r ≡ s
one_first_refusal rules text r s exact (inl a) (inl b) = a.1 ∙ sym b.1
one_first_refusal rules text r s exact (inl a) (inr b) = absurd (omega (arith, a.0, b.0))
one_first_refusal rules text r s exact (inr a) (inl b) = absurd (omega (arith, a.0, b.0))
one_first_refusal rules text r s exact (inr a) (inr b) = one_first rules.breaks (said_lines text) r s exact a.1 b.1

-- a text is sound, or has a first refusal
pub sound_or_some_refusal : (rules : ChoiceRules) (text : List ℕ) → AreExact rules.breaks → KeepsChoiceRules rules text ⊎ ((refusal : ChoiceRefusal) × IsFirstChoiceRefusal rules text refusal)
sound_or_some_refusal rules text exact = elim (cases_lt choice_size_limit (length text)) [
  | inl large ↦ inr (record { code = rules.too_long; line = 0 }, inl (large, refl))
  | inr small ↦ elim (sound_or_some rules.breaks (said_lines text) exact) [
    | inl sound ↦ inl (record { size = omega (arith, small); lines = sound })
    | inr fault ↦ inr (fault.0, inr (omega (arith, small), fault.1))
  ]
]
