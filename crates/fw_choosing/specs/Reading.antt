-- For the proofs of src/reading.rt: why a text is not read.
use Rattle.std.specs.Prelude.{◌≡◌, ◌⊎◌, ℕ, ◌<◌, List, length, Option}
use Rattle.fw_flow.specs.Dataflow.{Dataflow}
use Rattle.fw_offers_text.specs.CertificateGrammar.{IsRefusedCertificate}
use Rattle.fw_offers_text.specs.Faults.{choice_size_limit}
use Rattle.fw_offers_text.specs.OffersGrammar.{AreRefusedOffers}
use Rattle.fw_command.specs.Texts.{HasText}
use Rattle.fw_choosing.specs.declared.status.ChoosingStatus.{ChoosingStatus}
use Rattle.fw_choosing.specs.declared.status.ChoosingStatus.TheVariants.{OffersRefused, CertificateRefused, ReadFault, NoMemory}

-- the folder failed, or memory was refused; or the text is too long, and this status tells it
abbrev pub IsFetchFault : Option (List ℕ → Option (List ℕ)) → List ℕ → ChoosingStatus → ChoosingStatus → Type 0
IsFetchFault told name too_large status =
    (status ≡ ReadFault) ⊎ (status ≡ NoMemory) ⊎ ((status ≡ too_large) × HasText told name (λ text. choice_size_limit < length text))

-- why offers over a flow are not read: they are refused, the folder failed, or memory was refused
abbrev pub IsOffersUnread : Option (List ℕ → Option (List ℕ)) → List ℕ → Dataflow → ChoosingStatus → Type 0
IsOffersUnread told name flow (OffersRefused refusal) = HasText told name (λ text. AreRefusedOffers text flow refusal)
IsOffersUnread told name flow ReadFault = Unit {0}
IsOffersUnread told name flow NoMemory = Unit {0}
IsOffersUnread told name flow status = ⊥

-- why a certificate over a flow is not read
abbrev pub IsClaimUnread : Option (List ℕ → Option (List ℕ)) → List ℕ → Dataflow → ChoosingStatus → Type 0
IsClaimUnread told name flow (CertificateRefused refusal) = HasText told name (λ text. IsRefusedCertificate text flow refusal)
IsClaimUnread told name flow ReadFault = Unit {0}
IsClaimUnread told name flow NoMemory = Unit {0}
IsClaimUnread told name flow status = ⊥
