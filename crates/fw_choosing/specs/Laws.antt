-- What `choose` prints is a certificate that `verify` finds right.
use Rattle.std.specs.Prelude.{ℕ, List}
use Rattle.fw_flow.specs.declared.choice.Offer.{Offer}
use Rattle.fw_flow.specs.Dataflow.{Dataflow}
use Rattle.fw_offers_text.specs.declared.claim.Claim.{Claim}
use Rattle.fw_offers_text.specs.CertificateGrammar.{IsAcceptedCertificate}
use Rattle.fw_choosing.specs.Choices.{IsClaimRight}

-- the text is accepted as a certificate, and what it claims is right
pub record IsRightCertificate (text : List ℕ) (flow : Dataflow) (offers : List Offer) : Type 0 where
  pub claim : Claim
  pub accepted : IsAcceptedCertificate text flow claim
  pub right : IsClaimRight flow offers claim
