-- What a call of `falkirk_choose` promises.
use Rattle.std.specs.Prelude.{◌≡◌, ◌⊎◌, ◌↔◌, ℕ, List, Option, Some, None}
use Rattle.fw_outside.specs.declared.fault.OutFault.{OutFault}
use Rattle.fw_outside.specs.declared.fault.OutFault.TheVariants as output
use Rattle.fw_outside.specs.Outside.{SinkView}
use Rattle.fw_command.specs.Writing.{IsWritten, IsCutOff, WritesText}
use Rattle.fw_choosing.specs.Status.{IsNoted, ending_line, fetch_faults_told}
use Rattle.fw_choosing.specs.Texts.{IsAnswer, IsAskedFor, IsChooseAnswer, IsChoosingUnread, IsVerdictAnswer}
use Rattle.fw_choosing.specs.Words.{Choosing, choose, verify}
use Rattle.fw_choosing.specs.declared.status.ChoosingStatus.{ChoosingStatus}
use Rattle.fw_choosing.specs.declared.status.ChoosingStatus.TheVariants.{Done, BadWords, FlowRefused, OffersRefused, CertificateRefused, ReadFault, WriteFault, NoMemory, NoChoice, NotShown}

-- the status refuses a text
abbrev pub RefusesText : ChoosingStatus → Type 0
RefusesText (FlowRefused refusal) = Unit {0}
RefusesText (OffersRefused refusal) = Unit {0}
RefusesText (CertificateRefused refusal) = Unit {0}
RefusesText status = ⊥

-- a command that ends so ends before anything is written: its words are bad, a text is refused, or the folder failed
abbrev pub EndsBeforeOut : ChoosingStatus → Type 0
EndsBeforeOut BadWords = Unit {0}
EndsBeforeOut (FlowRefused refusal) = Unit {0}
EndsBeforeOut (OffersRefused refusal) = Unit {0}
EndsBeforeOut (CertificateRefused refusal) = Unit {0}
EndsBeforeOut ReadFault = Unit {0}
EndsBeforeOut status = ⊥

-- what the command prints of accepted texts was cut off by this fault
pub record IsPartPrinted (choosing : Option Choosing) (told : Option (List ℕ → Option (List ℕ))) (fault : OutFault) (before after : SinkView) : Type 0 where
  pub asked : Choosing
  pub words : choosing ≡ Some asked
  pub end : ChoosingStatus
  pub printed : WritesText (λ text. IsAnswer told asked text end) (λ text. IsCutOff text fault before after)

-- What is true of a call with this status.
pub record ChoosingAnswers (choosing : Option Choosing) (told : Option (List ℕ → Option (List ℕ))) (status : ChoosingStatus) (before after : SinkView)
    : Type 0 where
  -- 0 of `choose`: the texts are accepted; the cuts of the largest consistent choice and the trail to it were written.
  pub chosen : (flow offers : List ℕ) → choosing ≡ Some (choose flow offers) → status ≡ Done
      → WritesText (λ text. IsChooseAnswer told flow offers text Done) (λ text. IsWritten text before after)
  -- 14 of `choose`: the texts are accepted, and no choice is consistent; what shows it was written.
  pub no_choice : status ≡ NoChoice → (flow : List ℕ) × (offers : List ℕ) × (choosing ≡ Some (choose flow offers))
      × WritesText (λ text. IsChooseAnswer told flow offers text NoChoice) (λ text. IsWritten text before after)
  -- 0 of `verify`: the texts are accepted, and the claim is right: so its cuts are those of the largest choice, or none is consistent.
  pub verified : (flow offers certificate : List ℕ) → choosing ≡ Some (verify flow offers certificate) → status ≡ Done
      → WritesText (λ text. IsVerdictAnswer told flow offers certificate text Done) (λ text. IsWritten text before after)
  -- 14 of `verify`: the texts are accepted, and the claim is not right; where was written.
  pub not_shown : status ≡ NotShown → (flow : List ℕ) × (offers : List ℕ) × (certificate : List ℕ) × (choosing ≡ Some (verify flow offers certificate))
      × WritesText (λ text. IsVerdictAnswer told flow offers certificate text NotShown) (λ text. IsWritten text before after)
  -- 2: exactly where the words are neither command.
  pub bad_words : (status ≡ BadWords) ↔ (choosing ≡ None)
  -- 3, 12, 13: the first of the texts that is not accepted is refused so; those before it are accepted.
  pub refused : RefusesText status → (asked : Choosing) × (choosing ≡ Some asked) × IsChoosingUnread told asked status
  -- 7: the output failed, and first bytes of what is printed were written.
  pub write_fault : status ≡ WriteFault → IsPartPrinted choosing told output.Failed before after
  -- 10: at any time; nothing was written, or first bytes.
  pub no_memory : status ≡ NoMemory → (after ≡ before) ⊎ IsPartPrinted choosing told output.NoMemory before after

-- The folder keeps its texts. It was not asked where the words are no command; else for the texts in turn, each once, and for the next
-- only behind accepted ones. Its count of faults is one more where the status tells it, and else as it was.
pub record KeepsTexts {F : Type 0} (texts : F → Option (List ℕ → Option (List ℕ))) (fetch_count fault_count : F → ℕ) (choosing : Option Choosing)
    (status : ChoosingStatus) (before after : F) : Type 0 where
  pub texts_stay : texts after ≡ texts before
  pub no_words : choosing ≡ None → after ≡ before
  pub asked : (asked : Choosing) → choosing ≡ Some asked → IsAskedFor (texts before) asked (fetch_count before) (fetch_count after)
  pub faults : fault_count after ≡ fetch_faults_told status (fault_count before)

-- The notes took the status's line, or first bytes of it where they refused it; they are as they were where all went well.
pub record TellsStatus {N : Type 0} (view : N → SinkView) (status : ChoosingStatus) (before after : N) : Type 0 where
  pub told : IsNoted (ending_line status) (view before) (view after)
  pub no_notes : status ≡ Done → after ≡ before
