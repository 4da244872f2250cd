-- Laws of poorer covers: where they lack nothing outside a consistent choice, they lower the same, so that they have the same trail.
use Rattle.std.specs.Prelude.{◌↔◌, ℕ, Bool, List}
use Rattle.fw_flow.specs.declared.choice.Choice.{Choice}
use Rattle.fw_flow.specs.declared.choice.Offer.{Offer}
use Rattle.fw_flow.specs.declared.trail.Lowering.{Lowering}
use Rattle.fw_flow.specs.Dataflow.{System}
use Rattle.fw_flow.specs.WellFormed.{IsWellFormed}
use Rattle.fw_model.specs.Certificates.{IsCertificate, IsTrailBy}
use Rattle.fw_model.specs.Choice.{kept, IsCandidate}
use Rattle.fw_model.specs.Covers.{Covers, covers_in}
use Rattle.fw_model.specs.Machine.{Machine}
use Rattle.fw_model.specs.Offers.{IsOffered, AreOffersAbove, covers_of}
use Rattle.fw_model.specs.LawsOfPoorerCovers.{ArePoorerIn}

-- a trail by poorer covers is the trail by the richer ones, and the other way round
abbrev pub PoorerCoversLowerTheSame : Type 0
PoorerCoversLowerTheSame = (sys : System) (state : Machine) (lost : ℕ → Bool) (poor : Covers) (floor : Choice) (trail : List Lowering) (end : Choice)
    → IsWellFormed sys.flow → ArePoorerIn sys state lost poor floor
    → IsTrailBy sys.flow poor (IsCandidate sys state lost kept) trail end ↔ IsTrailBy sys.flow (covers_in sys state) (IsCandidate sys state lost kept) trail end

-- so is a certificate
abbrev pub PoorerCoversCertifyTheSame : Type 0
PoorerCoversCertifyTheSame = (sys : System) (state : Machine) (lost : ℕ → Bool) (poor : Covers) (floor : Choice) (ls : List Lowering) (end : Choice)
    → IsWellFormed sys.flow → ArePoorerIn sys state lost poor floor
    → IsCertificate sys.flow poor (IsCandidate sys state lost kept) ls end ↔ IsCertificate sys.flow (covers_in sys state) (IsCandidate sys state lost kept) ls end

-- where data are what the machine offers above a floor, the trail by the data is that of the machine
abbrev pub TrailByOffersAboveIsTrail : Type 0
TrailByOffersAboveIsTrail = (sys : System) (state : Machine) (lost : ℕ → Bool) (floor : Choice) (offers : List Offer) (trail : List Lowering) (end : Choice)
    → IsWellFormed sys.flow → AreOffersAbove sys state lost floor offers
    → IsTrailBy sys.flow (covers_of sys.flow offers) (IsOffered sys.flow offers) trail end
    ↔ IsTrailBy sys.flow (covers_in sys state) (IsCandidate sys state lost kept) trail end

-- and a certificate over the data is one over the machine's offers
abbrev pub CertificateByOffersAboveIsCertificate : Type 0
CertificateByOffersAboveIsCertificate = (sys : System) (state : Machine) (lost : ℕ → Bool) (floor : Choice) (offers : List Offer) (ls : List Lowering) (end : Choice)
    → IsWellFormed sys.flow → AreOffersAbove sys state lost floor offers
    → IsCertificate sys.flow (covers_of sys.flow offers) (IsOffered sys.flow offers) ls end
    ↔ IsCertificate sys.flow (covers_in sys state) (IsCandidate sys state lost kept) ls end
