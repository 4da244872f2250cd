-- What the texts of a command say, which of them is refused, and what is printed of accepted ones.
use Rattle.std.specs.Prelude.{◌≡◌, ◌⊎◌, ℕ, List, Option}
use Rattle.fw_outside.specs.Outside.{one_more}
use Rattle.fw_flow.specs.declared.choice.Offer.{Offer}
use Rattle.fw_flow.specs.Dataflow.{Dataflow}
use Rattle.fw_offers_text.specs.declared.claim.Claim.{Claim}
use Rattle.fw_offers_text.specs.CertificateGrammar.{IsAcceptedCertificate, IsRefusedCertificate}
use Rattle.fw_offers_text.specs.OffersGrammar.{AreAcceptedOffers, AreRefusedOffers}
use Rattle.fw_command.specs.Texts.{HasText, HasFlow, IsFlowRefused}
use Rattle.fw_choosing.specs.Choices.{IsChoiceAnswer, IsVerifyAnswer}
use Rattle.fw_choosing.specs.Words.{Choosing, choose, verify}
use Rattle.fw_choosing.specs.declared.status.ChoosingStatus.{ChoosingStatus}
use Rattle.fw_choosing.specs.declared.status.ChoosingStatus.TheVariants.{FlowRefused, OffersRefused, CertificateRefused, ReadFault, NoMemory}

-- the folder's text under the name is accepted as offers over the flow, and spells these; where the folder tells its texts
abbrev pub HasOffers : Option (List ℕ → Option (List ℕ)) → List ℕ → Dataflow → List Offer → Type 0
HasOffers told name flow offers = HasText told name (λ text. AreAcceptedOffers text flow offers)

-- the texts of a flow and of what its nodes offer are accepted, and say this
pub record AreOffered (told : Option (List ℕ → Option (List ℕ))) (flow_name offers_name : List ℕ) (flow : Dataflow) (offers : List Offer) : Type 0 where
  pub has_flow : HasFlow told flow_name flow
  pub has_offers : HasOffers told offers_name flow offers

-- the folder's text under the name is accepted as a certificate over the flow, and claims this
abbrev pub HasClaim : Option (List ℕ → Option (List ℕ)) → List ℕ → Dataflow → Claim → Type 0
HasClaim told name flow claim = HasText told name (λ text. IsAcceptedCertificate text flow claim)

-- ---- what is printed

-- what `choose` prints of the accepted texts, by the status with which it ends
pub record IsChooseAnswer (told : Option (List ℕ → Option (List ℕ))) (flow_name offers_name text : List ℕ) (status : ChoosingStatus) : Type 0 where
  pub flow : Dataflow
  pub offers : List Offer
  pub accepted : AreOffered told flow_name offers_name flow offers
  pub answer : IsChoiceAnswer flow offers text status

-- what `verify` prints of them
pub record IsVerdictAnswer (told : Option (List ℕ → Option (List ℕ))) (flow_name offers_name certificate_name text : List ℕ) (status : ChoosingStatus)
    : Type 0 where
  pub flow : Dataflow
  pub offers : List Offer
  pub accepted : AreOffered told flow_name offers_name flow offers
  pub claim : Claim
  pub claimed : HasClaim told certificate_name flow claim
  pub answer : IsVerifyAnswer flow offers claim text status

-- what a command prints
abbrev pub IsAnswer : Option (List ℕ → Option (List ℕ)) → Choosing → List ℕ → ChoosingStatus → Type 0
IsAnswer told (choose flow offers) text status = IsChooseAnswer told flow offers text status
IsAnswer told (verify flow offers certificate) text status = IsVerdictAnswer told flow offers certificate text status

-- ---- what is refused

-- the names of the two texts that both commands read
abbrev pub flow_name : Choosing → List ℕ
flow_name (choose flow offers) = flow
flow_name (verify flow offers certificate) = flow

abbrev pub offers_name : Choosing → List ℕ
offers_name (choose flow offers) = offers
offers_name (verify flow offers certificate) = offers

-- the text of the certificate is refused, behind accepted ones
abbrev pub IsCertificateRefused : Option (List ℕ → Option (List ℕ)) → Choosing → (List ℕ → Dataflow → Type 0) → Type 0
IsCertificateRefused told (choose flow offers) IsSo = ⊥
IsCertificateRefused told (verify flow_name offers_name certificate) IsSo =
    (flow : Dataflow) × (offers : List Offer) × AreOffered told flow_name offers_name flow offers × HasText told certificate (λ text. IsSo text flow)

-- Why a command ends before anything is printed: the first of its texts that is not accepted is refused so, the folder failed, or memory was
-- refused.
abbrev pub IsChoosingUnread : Option (List ℕ → Option (List ℕ)) → Choosing → ChoosingStatus → Type 0
IsChoosingUnread told choosing (FlowRefused refusal) = IsFlowRefused told (flow_name choosing) refusal
IsChoosingUnread told choosing (OffersRefused refusal) =
    (flow : Dataflow) × HasFlow told (flow_name choosing) flow × HasText told (offers_name choosing) (λ text. AreRefusedOffers text flow refusal)
IsChoosingUnread told choosing (CertificateRefused refusal) =
    IsCertificateRefused told choosing (λ text flow. IsRefusedCertificate text flow refusal)
IsChoosingUnread told choosing ReadFault = Unit {0}
IsChoosingUnread told choosing NoMemory = Unit {0}
IsChoosingUnread told choosing status = ⊥

-- A folder was asked once more for a text of the command, if its calls were counted from the first number to the second; or for more of them:
-- for the offers only where the flow is accepted, for a certificate only where they are too.
abbrev pub IsAskedFor : Option (List ℕ → Option (List ℕ)) → Choosing → ℕ → ℕ → Type 0
IsAskedFor told (choose flow_name offers_name) before after =
    (after ≡ one_more before) ⊎ ((flow : Dataflow) × HasFlow told flow_name flow × (after ≡ one_more (one_more before)))
IsAskedFor told (verify flow_name offers_name certificate) before after =
    (after ≡ one_more before) ⊎ ((flow : Dataflow) × HasFlow told flow_name flow × ((after ≡ one_more (one_more before))
    ⊎ ((offers : List Offer) × HasOffers told offers_name flow offers × (after ≡ one_more (one_more (one_more before))))))
