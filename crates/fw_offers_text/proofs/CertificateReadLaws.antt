-- The lines of a certificate, read one after another.
use Rattle.std.proofs.Common.{◌≡◌, ℕ, ◌≤◌, Bool, true, false, List, [], ◌∷◌, ◌++◌, length, Some, None, refl, sym, ◌∙◌, ap, subst, ◌⊎◌, inl, inr}
use Rattle.std.proofs.lemmas.List.Elements.{filter_map-append}
use Rattle.std.specs.List.{list_any}
use Rattle.std.specs.Result.{result_ok}
use Rattle.fw_lines.specs.declared.line.Line.{Line}
use Rattle.fw_lines.specs.Lines.{Said, words_at, said_in, said_lines}
use Rattle.fw_flow.specs.Dataflow.{Dataflow}
use Rattle.fw_offers_text.specs.declared.claim.Claim.{Claim}
use Rattle.fw_offers_text.specs.declared.code.ChoiceCode.TheVariants.{C5}
use Rattle.fw_offers_text.specs.declared.code.ChoiceRefusal.{ChoiceRefusal}
use Rattle.fw_offers_text.specs.CertificateGrammar.{words_claim, entries_of_lines, entries_in, is_end, certificate_words_fault, certificate_fault, certificate_rules, claim_of, IsAcceptedCertificate, IsRefusedCertificate}
use Rattle.fw_offers_text.specs.ClaimDraft.{ClaimTold, claimed_by, claim_from}
use Rattle.fw_offers_text.specs.Faults.{KeepsChoiceRules, IsFirstChoiceFault, choice_size_limit}
use Rattle.fw_offers_text.proofs.FaultLaws.{Told as Tells, told_exact, none_told, IsSoundSoFar, sound_more, first_fault, none_left, sound_or_refused, sound_or_some_refusal, one_first_refusal}
use Rattle.fw_offers_text.proofs.ClaimLaws.{claim_told}

-- what the code's loop knows: some lines are done, none of them breaks a rule, and what they say is told
pub record IsEntered (flow : Dataflow) (lines left : List Said) (told : ClaimTold) : Type 0 where
  pub done : List Said
  pub so_far : IsSoundSoFar (Tells (certificate_fault flow)) lines left done
  pub value : told ≡ claimed_by flow (entries_of_lines flow done)

-- one line more is read
pub entered_more : (flow : Dataflow) (text : List ℕ) (lines left next : List Said) (line : Line) (old new : ClaimTold) (read : IsEntered flow lines left old) → left ≡ said_in text line ∷ next
    → ((certificate_words_fault flow (entries_of_lines flow read.done) (words_at text line.words) ≡ None) × (new ≡ claimed_by flow (entries_of_lines flow read.done ++ entries_of_lines flow (said_in text line ∷ []))))
    → IsEntered flow lines next new
entered_more flow text lines left next line old new read e taken = record {
  done = read.done ++ said_in text line ∷ [];
  so_far = sound_more (Tells (certificate_fault flow)) lines read.done (said_in text line) next (subst (λ ls. IsSoundSoFar (Tells (certificate_fault flow)) lines ls read.done) e read.so_far) (none_told _ taken.0);
  value = taken.1 ∙ ap (claimed_by flow) (sym (filter_map-append (λ (l : Said). result_ok (words_claim flow l.words)) read.done (said_in text line ∷ [])));
}

-- the next line is the first that breaks a rule
pub entered_broken : (flow : Dataflow) (text : List ℕ) (lines left next : List Said) (line : Line) (told : ClaimTold) (refusal : ChoiceRefusal) (read : IsEntered flow lines left told) → left ≡ said_in text line ∷ next
    → certificate_words_fault flow (entries_of_lines flow read.done) (words_at text line.words) ≡ Some refusal.code → refusal.line ≡ line.number
    → IsFirstChoiceFault (Tells (certificate_fault flow)) lines refusal
entered_broken flow text lines left next line told refusal read e broken number =
    first_fault (Tells (certificate_fault flow)) lines read.done (said_in text line) next refusal (subst (λ ls. IsSoundSoFar (Tells (certificate_fault flow)) lines ls read.done) e read.so_far) broken number

-- all lines of a short text are read, and none breaks a rule
pub record AreAllEntered (flow : Dataflow) (text : List ℕ) (told : ClaimTold) : Type 0 where
  pub sound : KeepsChoiceRules (certificate_rules flow) text
  pub value : told ≡ claimed_by flow (entries_in flow text)

pub all_entered : (flow : Dataflow) (text : List ℕ) (left : List Said) (told : ClaimTold) → length text ≤ choice_size_limit → IsEntered flow (said_lines text) left told → left ≡ []
    → AreAllEntered flow text told
all_entered flow text left told size read e =
    let all = none_left (Tells (certificate_fault flow)) (said_lines text) read.done (subst (λ ls. IsSoundSoFar (Tells (certificate_fault flow)) (said_lines text) ls read.done) e read.so_far) in
    record { sound = record { size = size; lines = all.0 }; value = read.value ∙ ap (λ ls. claimed_by flow (entries_of_lines flow ls)) all.1 }

-- an accepted text is not refused
pub accepted_or_refused : (text : List ℕ) (flow : Dataflow) (claim : Claim) (refusal : ChoiceRefusal) → IsAcceptedCertificate text flow claim → IsRefusedCertificate text flow refusal → ⊥
accepted_or_refused text flow claim refusal accepted (inl first) = sound_or_refused (certificate_rules flow) text refusal accepted.sound first
accepted_or_refused text flow claim refusal accepted (inr unended) = let h : true ≡ false = sym accepted.ended ∙ unended.not_ended in absurd (cc)

-- an accepted text has one value
pub one_value : (text : List ℕ) (flow : Dataflow) (first second : Claim) → IsAcceptedCertificate text flow first → IsAcceptedCertificate text flow second → first ≡ second
one_value text flow first second a b = a.value ∙ sym b.value

-- a text is refused by one rule at one line
pub one_refusal : (text : List ℕ) (flow : Dataflow) (first second : ChoiceRefusal) → IsRefusedCertificate text flow first → IsRefusedCertificate text flow second → first ≡ second
one_refusal text flow first second (inl a) (inl b) = one_first_refusal (certificate_rules flow) text first second (told_exact (certificate_fault flow)) a b
one_refusal text flow first second (inl a) (inr b) = absurd (sound_or_refused (certificate_rules flow) text first b.sound a)
one_refusal text flow first second (inr a) (inl b) = absurd (sound_or_refused (certificate_rules flow) text second a.sound b)
one_refusal text flow first second (inr a) (inr b) = a.whole ∙ sym b.whole

-- each text is accepted or refused
pub some_answer : (text : List ℕ) (flow : Dataflow) → ((claim : Claim) × IsAcceptedCertificate text flow claim) ⊎ ((refusal : ChoiceRefusal) × IsRefusedCertificate text flow refusal)
some_answer text flow = elim (sound_or_some_refusal (certificate_rules flow) text (told_exact (certificate_fault flow))) [
  | inl sound ↦ by (list_any is_end (entries_in flow text)) refl sound
  | inr refused ↦ inr (refused.0, inl refused.1)
]
  where
    by : (b : Bool) → list_any is_end (entries_in flow text) ≡ b → KeepsChoiceRules (certificate_rules flow) text → ((claim : Claim) × IsAcceptedCertificate text flow claim) ⊎ ((refusal : ChoiceRefusal) × IsRefusedCertificate text flow refusal)
    by true e sound = inl (claim_of flow (entries_in flow text), record { sound = sound; ended = e; value = refl })
    by false e sound = inr (record { code = C5; line = 0 }, inr (record { sound = sound; not_ended = e; whole = refl }))

-- ---- the end of a text

-- the last line is not there
pub read_open : (flow : Dataflow) (text : List ℕ) (told : ClaimTold) → AreAllEntered flow text told → told.ended ≡ false → IsRefusedCertificate text flow (record { code = C5; line = 0 })
read_open flow text told read unended = inr (record { sound = read.sound; not_ended = sym (ap (λ (t : ClaimTold). t.ended) read.value) ∙ unended; whole = refl })

-- it is there
pub read_claim : (flow : Dataflow) (text : List ℕ) (told : ClaimTold) (claim : Claim) → AreAllEntered flow text told → told.ended ≡ true → claim ≡ claim_from told → IsAcceptedCertificate text flow claim
read_claim flow text told claim read ended value = record {
  sound = read.sound;
  ended = sym (ap (λ (t : ClaimTold). t.ended) read.value) ∙ ended;
  value = value ∙ ap claim_from read.value ∙ claim_told flow (entries_in flow text);
}
