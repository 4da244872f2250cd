-- What a call promises, by how it ended.
use Rattle.std.proofs.Common.{◌≡◌, ℕ, ◌≤◌, List, Option, Some, None, refl, sym, ap, subst, ◌∙◌, ◌⊎◌, inl, inr, arith}
use Rattle.fw_outside.specs.declared.fault.OutFault.{OutFault}
use Rattle.fw_outside.specs.declared.fault.OutFault.TheVariants as output
use Rattle.fw_outside.specs.Outside.{SinkView, one_more}
use Rattle.fw_flow.specs.declared.choice.Offer.{Offer}
use Rattle.fw_flow.specs.Dataflow.{Dataflow}
use Rattle.fw_offers_text.specs.declared.claim.Claim.{Claim}
use Rattle.fw_command.specs.Writing.{IsCutOff, IsWritten, NeverFall, WritesText}
use Rattle.fw_choosing.specs.Answers.{ChoosingAnswers, EndsBeforeOut, IsPartPrinted, KeepsTexts, RefusesText}
use Rattle.fw_choosing.specs.Choices.{IsChoiceAnswer, IsVerifyAnswer}
use Rattle.fw_choosing.specs.Status.{IsNoted, IsToldStatus, NamesRefusal, fault_status, fetch_faults_told}
use Rattle.fw_choosing.specs.Texts.{IsAnswer, IsAskedFor, IsChooseAnswer, IsChoosingUnread, IsVerdictAnswer}
use Rattle.fw_choosing.specs.Words.{Choosing, choose, verify}
use Rattle.fw_choosing.specs.declared.status.ChoosingStatus.{ChoosingStatus}
use Rattle.fw_choosing.specs.declared.status.ChoosingStatus.TheVariants.{Done, BadWords, FlowRefused, OffersRefused, CertificateRefused, ReadFault, WriteFault, NoMemory, NoChoice, NotShown}

-- ---- how a command ends that printed

abbrev IsEnd : ChoosingStatus → Type 0
IsEnd status = (status ≡ Done) ⊎ (status ≡ NoChoice) ⊎ (status ≡ NotShown)

choice-end : (flow : Dataflow) (offers : List Offer) (text : List ℕ) (status : ChoosingStatus) → IsChoiceAnswer flow offers text status → IsEnd status
choice-end flow offers text Done a = inl refl
choice-end flow offers text NoChoice a = inr (inl refl)
choice-end flow offers text BadWords a = absurd a
choice-end flow offers text (FlowRefused refusal) a = absurd a
choice-end flow offers text (OffersRefused refusal) a = absurd a
choice-end flow offers text (CertificateRefused refusal) a = absurd a
choice-end flow offers text ReadFault a = absurd a
choice-end flow offers text WriteFault a = absurd a
choice-end flow offers text NoMemory a = absurd a
choice-end flow offers text NotShown a = absurd a

verdict-end : (flow : Dataflow) (offers : List Offer) (claim : Claim) (text : List ℕ) (status : ChoosingStatus) → IsVerifyAnswer flow offers claim text status → IsEnd status
verdict-end flow offers claim text Done a = inl refl
verdict-end flow offers claim text NotShown a = inr (inr refl)
verdict-end flow offers claim text BadWords a = absurd a
verdict-end flow offers claim text (FlowRefused refusal) a = absurd a
verdict-end flow offers claim text (OffersRefused refusal) a = absurd a
verdict-end flow offers claim text (CertificateRefused refusal) a = absurd a
verdict-end flow offers claim text ReadFault a = absurd a
verdict-end flow offers claim text WriteFault a = absurd a
verdict-end flow offers claim text NoMemory a = absurd a
verdict-end flow offers claim text NoChoice a = absurd a

answer-end : (told : Option (List ℕ → Option (List ℕ))) (asked : Choosing) (text : List ℕ) (status : ChoosingStatus) → IsAnswer told asked text status → IsEnd status
answer-end told (choose flow offers) text status a = choice-end a.flow a.offers text status a.answer
answer-end told (verify flow offers certificate) text status a = verdict-end a.flow a.offers a.claim text status a.answer

-- such an end is none of these
not-end : (P : ChoosingStatus → Type 0) (status : ChoosingStatus) → (P Done → ⊥) → (P NoChoice → ⊥) → (P NotShown → ⊥) → IsEnd status → P status → ⊥
not-end P status d n s (inl e) p = d (subst P e p)
not-end P status d n s (inr (inl e)) p = n (subst P e p)
not-end P status d n s (inr (inr e)) p = s (subst P e p)

-- ---- what was printed

same-asked : (choosing : Option Choosing) (one other : Choosing) → choosing ≡ Some one → choosing ≡ Some other → one ≡ other
same-asked choosing one other e f = let both : Some one ≡ Some other = sym e ∙ f in cc

none-some : (choosing : Option Choosing) (asked : Choosing) → choosing ≡ Some asked → choosing ≡ None → ⊥
none-some choosing asked e n = let both : Some asked ≡ None = sym e ∙ n in absurd (cc)

no_choice-written : (told : Option (List ℕ → Option (List ℕ))) (choosing : Option Choosing) (asked : Choosing) (text : List ℕ) (before after : SinkView) → choosing ≡ Some asked → IsAnswer told asked text NoChoice
    → IsWritten text before after → (flow : List ℕ) × (offers : List ℕ) × (choosing ≡ Some (choose flow offers))
    × WritesText (λ text. IsChooseAnswer told flow offers text NoChoice) (λ text. IsWritten text before after)
no_choice-written told choosing (choose flow offers) text before after e a w = (flow, offers, e, record { printed = text; text = a; written = w })
no_choice-written told choosing (verify flow offers certificate) text before after e a w = absurd a.answer

not_shown-written : (told : Option (List ℕ → Option (List ℕ))) (choosing : Option Choosing) (asked : Choosing) (text : List ℕ) (before after : SinkView) → choosing ≡ Some asked → IsAnswer told asked text NotShown
    → IsWritten text before after → (flow : List ℕ) × (offers : List ℕ) × (certificate : List ℕ) × (choosing ≡ Some (verify flow offers certificate))
    × WritesText (λ text. IsVerdictAnswer told flow offers certificate text NotShown) (λ text. IsWritten text before after)
not_shown-written told choosing (choose flow offers) text before after e a w = absurd a.answer
not_shown-written told choosing (verify flow offers certificate) text before after e a w = (flow, offers, certificate, e, record { printed = text; text = a; written = w })

pub written-answers : (told : Option (List ℕ → Option (List ℕ))) (choosing : Option Choosing) (asked : Choosing) (text : List ℕ) (status : ChoosingStatus) (before after : SinkView) → choosing ≡ Some asked
    → IsAnswer told asked text status → IsWritten text before after → ChoosingAnswers choosing told status before after
written-answers told choosing asked text status before after e a w =
    let ends = answer-end told asked text status a in
    record {
      chosen = λ flow offers is done. record {
        printed = text;
        text = subst (λ s. IsChooseAnswer told flow offers text s) done (subst (λ c. IsAnswer told c text status) (same-asked choosing asked (choose flow offers) e is) a);
        written = w;
      };
      no_choice = λ none. no_choice-written told choosing asked text before after e (subst (IsAnswer told asked text) none a) w;
      verified = λ flow offers certificate is done. record {
        printed = text;
        text = subst (λ s. IsVerdictAnswer told flow offers certificate text s) done (subst (λ c. IsAnswer told c text status) (same-asked choosing asked (verify flow offers certificate) e is) a);
        written = w;
      };
      not_shown = λ wrong. not_shown-written told choosing asked text before after e (subst (IsAnswer told asked text) wrong a) w;
      bad_words = (λ bad. absurd (not-end (λ s. s ≡ BadWords) status (λ f. absurd (cc)) (λ f. absurd (cc)) (λ f. absurd (cc)) ends bad), λ none. absurd (none-some choosing asked e none));
      refused = λ r. absurd (not-end RefusesText status (λ f. f) (λ f. f) (λ f. f) ends r);
      write_fault = λ f. absurd (not-end (λ s. s ≡ WriteFault) status (λ f. absurd (cc)) (λ f. absurd (cc)) (λ f. absurd (cc)) ends f);
      no_memory = λ f. absurd (not-end (λ s. s ≡ NoMemory) status (λ f. absurd (cc)) (λ f. absurd (cc)) (λ f. absurd (cc)) ends f);
    }

pub answer-no_fault : (told : Option (List ℕ → Option (List ℕ))) (asked : Choosing) (text : List ℕ) (status : ChoosingStatus) (count : ℕ) → IsAnswer told asked text status → count ≡ fetch_faults_told status count
answer-no_fault told asked text status count a = by (answer-end told asked text status a)
  where
    by : IsEnd status → count ≡ fetch_faults_told status count
    by (inl e) = sym (ap (λ s. fetch_faults_told s count) e)
    by (inr (inl e)) = sym (ap (λ s. fetch_faults_told s count) e)
    by (inr (inr e)) = sym (ap (λ s. fetch_faults_told s count) e)

-- ---- nothing was printed

pub no_words-answers : (told : Option (List ℕ → Option (List ℕ))) (choosing : Option Choosing) (view : SinkView) → choosing ≡ None → ChoosingAnswers choosing told BadWords view view
no_words-answers told choosing view none = record {
  chosen = λ flow offers is done. absurd (cc);
  no_choice = λ e. absurd (cc);
  verified = λ flow offers certificate is done. absurd (cc);
  not_shown = λ e. absurd (cc);
  bad_words = (λ bad. none, λ n. refl);
  refused = λ r. absurd r;
  write_fault = λ e. absurd (cc);
  no_memory = λ e. absurd (cc);
}

pub unread-answers : (told : Option (List ℕ → Option (List ℕ))) (choosing : Option Choosing) (asked : Choosing) (status : ChoosingStatus) (view : SinkView) → choosing ≡ Some asked → IsChoosingUnread told asked status
    → ChoosingAnswers choosing told status view view
unread-answers told choosing asked status view e u = record {
  chosen = λ flow offers is done. absurd (subst (IsChoosingUnread told asked) done u);
  no_choice = λ none. absurd (subst (IsChoosingUnread told asked) none u);
  verified = λ flow offers certificate is done. absurd (subst (IsChoosingUnread told asked) done u);
  not_shown = λ wrong. absurd (subst (IsChoosingUnread told asked) wrong u);
  bad_words = (λ bad. absurd (subst (IsChoosingUnread told asked) bad u), λ none. absurd (none-some choosing asked e none));
  refused = λ r. (asked, e, u);
  write_fault = λ f. absurd (subst (IsChoosingUnread told asked) f u);
  no_memory = λ f. inl refl;
}

-- ---- the output failed, or memory was refused

cut_off-part : (told : Option (List ℕ → Option (List ℕ))) (choosing : Option Choosing) (asked : Choosing) (text : List ℕ) (end : ChoosingStatus) (fault : OutFault) (before after : SinkView) → choosing ≡ Some asked
    → IsAnswer told asked text end → IsCutOff text fault before after → IsPartPrinted choosing told fault before after
cut_off-part told choosing asked text end fault before after e a w = record { asked = asked; words = e; end = end; printed = record { printed = text; text = a; written = w } }

pub cut_off-answers : (told : Option (List ℕ → Option (List ℕ))) (choosing : Option Choosing) (asked : Choosing) (text : List ℕ) (end : ChoosingStatus) (fault : OutFault) (before after : SinkView) → choosing ≡ Some asked
    → IsAnswer told asked text end → IsCutOff text fault before after → ChoosingAnswers choosing told (fault_status fault) before after
cut_off-answers told choosing asked text end output.Failed before after e a w = record {
  chosen = λ flow offers is done. absurd (cc);
  no_choice = λ f. absurd (cc);
  verified = λ flow offers certificate is done. absurd (cc);
  not_shown = λ f. absurd (cc);
  bad_words = (λ f. absurd (cc), λ none. absurd (none-some choosing asked e none));
  refused = λ r. absurd r;
  write_fault = λ f. cut_off-part told choosing asked text end output.Failed before after e a w;
  no_memory = λ f. absurd (cc);
}
cut_off-answers told choosing asked text end output.NoMemory before after e a w = record {
  chosen = λ flow offers is done. absurd (cc);
  no_choice = λ f. absurd (cc);
  verified = λ flow offers certificate is done. absurd (cc);
  not_shown = λ f. absurd (cc);
  bad_words = (λ f. absurd (cc), λ none. absurd (none-some choosing asked e none));
  refused = λ r. absurd r;
  write_fault = λ f. absurd (cc);
  no_memory = λ f. inr (cut_off-part told choosing asked text end output.NoMemory before after e a w);
}

-- ---- what was asked of the folder

pub no_words-keeps : {F : Type 0} (texts : F → Option (List ℕ → Option (List ℕ))) (fetch_count fault_count : F → ℕ) (choosing : Option Choosing) (folder : F) → choosing ≡ None
    → KeepsTexts texts fetch_count fault_count choosing BadWords folder folder
no_words-keeps texts fetch_count fault_count choosing folder none =
    record { texts_stay = refl; no_words = λ n. refl; asked = λ asked e. absurd (none-some choosing asked e none); faults = refl }

pub words-keeps : {F : Type 0} (texts : F → Option (List ℕ → Option (List ℕ))) (fetch_count fault_count : F → ℕ) (choosing : Option Choosing) (asked : Choosing) (status : ChoosingStatus) (before after : F)
    → choosing ≡ Some asked → texts after ≡ texts before → IsAskedFor (texts before) asked (fetch_count before) (fetch_count after) → fault_count after ≡ fetch_faults_told status (fault_count before)
    → KeepsTexts texts fetch_count fault_count choosing status before after
words-keeps texts fetch_count fault_count choosing asked status before after e stay counted faults = record {
  texts_stay = stay;
  no_words = λ none. absurd (none-some choosing asked e none);
  asked = λ other is. subst (λ c. IsAskedFor (texts before) c (fetch_count before) (fetch_count after)) (same-asked choosing asked other e is) counted;
  faults = faults;
}

-- ---- what is told

-- a status whose line takes memory is that of a refused text
named-refuses : (status : ChoosingStatus) → NamesRefusal status → RefusesText status
named-refuses status (inl (refusal, e)) = subst RefusesText (sym e) tt
named-refuses status (inr (inl (refusal, e))) = subst RefusesText (sym e) tt
named-refuses status (inr (inr (refusal, e))) = subst RefusesText (sym e) tt

named-no_fault : (status : ChoosingStatus) (count : ℕ) → NamesRefusal status → fetch_faults_told status count ≡ count
named-no_fault status count (inl (refusal, e)) = ap (λ s. fetch_faults_told s count) e
named-no_fault status count (inr (inl (refusal, e))) = ap (λ s. fetch_faults_told s count) e
named-no_fault status count (inr (inr (refusal, e))) = ap (λ s. fetch_faults_told s count) e

pub told-answers : (told : Option (List ℕ → Option (List ℕ))) (choosing : Option Choosing) (status result : ChoosingStatus) (before after : SinkView) → ChoosingAnswers choosing told status before after
    → (NamesRefusal status → after ≡ before) → IsToldStatus status result → ChoosingAnswers choosing told result before after
told-answers told choosing status result before after a nothing (inl e) = subst (λ s. ChoosingAnswers choosing told s before after) (sym e) a
told-answers told choosing status result before after a nothing (inr (names, e)) =
    let refuses = named-refuses status names in
    subst (λ s. ChoosingAnswers choosing told s before after) (sym e) (record {
      chosen = λ flow offers is done. absurd (cc);
      no_choice = λ f. absurd (cc);
      verified = λ flow offers certificate is done. absurd (cc);
      not_shown = λ f. absurd (cc);
      bad_words = (λ f. absurd (cc), λ none. absurd (subst RefusesText (a.bad_words.1 none) refuses));
      refused = λ r. absurd r;
      write_fault = λ f. absurd (cc);
      no_memory = λ f. inl (nothing names);
    })

pub told-keeps : {F : Type 0} (texts : F → Option (List ℕ → Option (List ℕ))) (fetch_count fault_count : F → ℕ) (choosing : Option Choosing) (status result : ChoosingStatus) (before after : F)
    → KeepsTexts texts fetch_count fault_count choosing status before after → IsToldStatus status result → KeepsTexts texts fetch_count fault_count choosing result before after
told-keeps texts fetch_count fault_count choosing status result before after k (inl e) = subst (λ s. KeepsTexts texts fetch_count fault_count choosing s before after) (sym e) k
told-keeps texts fetch_count fault_count choosing status result before after k (inr (names, e)) =
    subst (λ s. KeepsTexts texts fetch_count fault_count choosing s before after) (sym e)
    (record { texts_stay = k.texts_stay; no_words = k.no_words; asked = k.asked; faults = k.faults ∙ named-no_fault status (fault_count before) names })

-- such a status is one of those before anything is written
pub named-before : (status : ChoosingStatus) → NamesRefusal status → EndsBeforeOut status
named-before status (inl (refusal, e)) = subst EndsBeforeOut (sym e) tt
named-before status (inr (inl (refusal, e))) = subst EndsBeforeOut (sym e) tt
named-before status (inr (inr (refusal, e))) = subst EndsBeforeOut (sym e) tt

pub told-before : (status result : ChoosingStatus) → IsToldStatus status result → EndsBeforeOut result → EndsBeforeOut status
told-before status result (inl e) before = subst EndsBeforeOut e before
told-before status result (inr (names, e)) before = absurd (subst EndsBeforeOut e before)

pub printed-not_before : (told : Option (List ℕ → Option (List ℕ))) (asked : Choosing) (text : List ℕ) (status : ChoosingStatus) → IsAnswer told asked text status → EndsBeforeOut status → ⊥
printed-not_before told asked text status a = not-end EndsBeforeOut status (λ f. f) (λ f. f) (λ f. f) (answer-end told asked text status a)

-- ---- counts never fall

never_falls-one : (count : ℕ) → count ≤ one_more count
never_falls-one count = omega arith

same_or_more : (before after : ℕ) → (after ≡ before) ⊎ (after ≡ one_more before) → before ≤ after
same_or_more before after (inl e) = omega (arith, e)
same_or_more before after (inr e) = subst (λ (n : ℕ). before ≤ n) (sym e) (never_falls-one before)

pub noted-never_fall : (line : List ℕ) (before after : SinkView) → IsNoted line before after → NeverFall before after
noted-never_fall line before after (inl w) = record { faults = same_or_more before.faults after.faults (inl w.none_failed); refusals = same_or_more before.refusals after.refusals (inl w.none_refused) }
noted-never_fall line before after (inr (output.Failed, w)) = record { faults = same_or_more before.faults after.faults (inr w.faults); refusals = same_or_more before.refusals after.refusals (inr w.refusals) }
noted-never_fall line before after (inr (output.NoMemory, w)) = record { faults = same_or_more before.faults after.faults (inl w.faults); refusals = same_or_more before.refusals after.refusals w.refusals }
