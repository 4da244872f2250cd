-- The laws of certificates.
use Rattle.std.specs.Prelude.{◌≡◌, ◌↔◌, ℕ, Bool, List}
use Rattle.fw_flow.specs.declared.choice.Choice.{Choice}
use Rattle.fw_flow.specs.declared.choice.Offer.{Offer}
use Rattle.fw_flow.specs.declared.side.Side.{Side}
use Rattle.fw_flow.specs.declared.trail.Lowering.{Lowering}
use Rattle.fw_flow.specs.Dataflow.{System, Dataflow}
use Rattle.fw_flow.specs.WellFormed.{IsWellFormed}
use Rattle.fw_model.specs.Machine.{Machine}
use Rattle.fw_model.specs.Covers.{covers_in}
use Rattle.fw_model.specs.Choice.{View, kept, IsCandidate, IsConsistentBy, IsLargestBy, IsLargest}
use Rattle.fw_model.specs.Offers.{AreOffersIn, IsOffered, covers_of}
use Rattle.fw_model.specs.Certificates.{IsCertificate, IsDeadEnd, IsTrailBy}
use Rattle.fw_certify.specs.Checked.{IsVerdict}
use Rattle.fw_certify.specs.declared.checker.Verdict.{Verdict}
use Rattle.fw_certify.specs.declared.checker.Verdict.TheVariants.{Yes}

-- a certificate shows that its choice is the largest of what nodes offer: neither that records ascend nor that some choice is
-- consistent is asked
abbrev pub CertificateShowsLargest : Type 0
CertificateShowsLargest = (flow : Dataflow) (offers : List Offer) (ls : List Lowering) (end : Choice) → IsWellFormed flow
    → IsCertificate flow (covers_of flow offers) (IsOffered flow offers) ls end → IsLargestBy flow (covers_of flow offers) (IsOffered flow offers) end

-- and of what the machine offers in a state
abbrev pub CertificateOfStateShowsLargest : Type 0
CertificateOfStateShowsLargest = (sys : System) (state : Machine) (lost : ℕ → Bool) (view : View) (ls : List Lowering) (end : Choice)
    → IsWellFormed sys.flow → IsCertificate sys.flow (covers_in sys state) (IsCandidate sys state lost view) ls end
    → IsLargest sys state (IsCandidate sys state lost view) end

-- a dead end shows that no choice is consistent
abbrev pub DeadEndShowsNone : Type 0
DeadEndShowsNone = (flow : Dataflow) (offers : List Offer) (ls : List Lowering) (side : Side) (choice : Choice) → IsWellFormed flow
    → IsDeadEnd flow (covers_of flow offers) (IsOffered flow offers) ls side
    → IsConsistentBy flow (covers_of flow offers) (IsOffered flow offers) choice → ⊥

-- the trail of a descent is a certificate
abbrev pub TrailIsCertificate : Type 0
TrailIsCertificate = (flow : Dataflow) (offers : List Offer) (trail : List Lowering) (end : Choice)
    → IsTrailBy flow (covers_of flow offers) (IsOffered flow offers) trail end
    → IsCertificate flow (covers_of flow offers) (IsOffered flow offers) trail end

-- the one right verdict on a certificate is yes
abbrev pub CertificateIsSaidYes : Type 0
CertificateIsSaidYes = (flow : Dataflow) (offers : List Offer) (ls : List Lowering) (end : Choice) (verdict : Verdict)
    → IsCertificate flow (covers_of flow offers) (IsOffered flow offers) ls end
    → IsVerdict flow (covers_of flow offers) (IsOffered flow offers) ls end verdict → verdict ≡ Yes

-- two certificates of what is offered end at one choice
abbrev pub CertificatesAgree : Type 0
CertificatesAgree = (flow : Dataflow) (offers : List Offer) (ls ms : List Lowering) (one other : Choice) → IsWellFormed flow
    → IsCertificate flow (covers_of flow offers) (IsOffered flow offers) ls one
    → IsCertificate flow (covers_of flow offers) (IsOffered flow offers) ms other → one ≡ other

-- Where data are what the machine offers in a state, a certificate over the data is one over the state, and back; it is not asked that
-- some choice is consistent.
abbrev pub CertificateOfState : Type 0
CertificateOfState = (sys : System) (state : Machine) (lost : ℕ → Bool) (offers : List Offer) (ls : List Lowering) (end : Choice) → IsWellFormed sys.flow
    → AreOffersIn sys state lost offers
    → IsCertificate sys.flow (covers_of sys.flow offers) (IsOffered sys.flow offers) ls end
    ↔ IsCertificate sys.flow (covers_in sys state) (IsCandidate sys state lost kept) ls end

-- and a dead end over the data is one over the state
abbrev pub DeadEndOfState : Type 0
DeadEndOfState = (sys : System) (state : Machine) (lost : ℕ → Bool) (offers : List Offer) (ls : List Lowering) (side : Side) → IsWellFormed sys.flow
    → AreOffersIn sys state lost offers
    → IsDeadEnd sys.flow (covers_of sys.flow offers) (IsOffered sys.flow offers) ls side
    ↔ IsDeadEnd sys.flow (covers_in sys state) (IsCandidate sys state lost kept) ls side
