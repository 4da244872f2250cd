-- A certificate shows that its choice is the largest; a dead end, that none is consistent; a trail is a certificate.
use Rattle.std.proofs.Common.{◌≡◌, ℕ, List, [], length, ap, ◌∙◌}
use Rattle.fw_flow.specs.declared.choice.Choice.{Choice}
use Rattle.fw_flow.specs.declared.choice.Cut.{Cut}
use Rattle.fw_flow.specs.declared.choice.Cut.TheVariants.{Present}
use Rattle.fw_flow.specs.declared.choice.Offer.{Offer}
use Rattle.fw_flow.specs.declared.side.Side.TheVariants.{Delivered, Discarded, Notified}
use Rattle.fw_flow.specs.declared.side.Limit.TheVariants.{Own, Note}
use Rattle.fw_flow.specs.declared.side.Inclusion.TheVariants.{OfCut, OfNote}
use Rattle.fw_flow.specs.declared.trail.Lowering.{Lowering}
use Rattle.fw_flow.specs.Dataflow.{System, Dataflow, bounds_of}
use Rattle.fw_flow.specs.WellFormed.{IsWellFormed}
use Rattle.fw_model.specs.Machine.{Machine, front_of}
use Rattle.fw_model.specs.Covers.{Covers, covers_in}
use Rattle.fw_model.specs.Choice.{cut_of, IsCandidate, IsLargestBy}
use Rattle.fw_model.specs.Offers.{IsOffered, covers_of}
use Rattle.fw_model.specs.Inclusions.{owner, Holds}
use Rattle.fw_model.specs.Lowerings.{choice_of}
use Rattle.fw_model.specs.Certificates.{IsCertificate}
use Rattle.fw_model.proofs.ArrivedLaws.{arrived-monotone}
use Rattle.fw_model.proofs.ChoiceLaws.{same_fronts}
use Rattle.fw_model.proofs.InclusionLaws.{ArrivalsAreMonotone, cuts-same, each-inclusion, same_each}
use Rattle.fw_model.proofs.PhiLaws.{phi-monotone}
use Rattle.fw_offers.proofs.OfferedLaws.{offered-canonical}
use Rattle.fw_certify.specs.LawsOfCertificates.{CertificateShowsLargest, CertificateOfStateShowsLargest, DeadEndShowsNone, TrailIsCertificate, CertificatesAgree}
use Rattle.fw_model.proofs.EnclosesLaws.{beginning-encloses, leads-encloses, leads-right, left-consistent}

-- ---- the laws

states_arrivals-monotone : (sys : System) (state : Machine) → ArrivalsAreMonotone (covers_in sys state)
states_arrivals-monotone sys state e f g w = phi-monotone sys _ e f g w

largest-end : (flow : Dataflow) (covers : Covers) (offers : ℕ → Cut → Type 0) (ls : List Lowering) (end : Choice) → IsWellFormed flow → ArrivalsAreMonotone covers
    → IsCertificate flow covers offers ls end → IsLargestBy flow covers offers end
largest-end flow covers offers ls end well m c =
    let r = leads-encloses flow covers offers c.start ls end well m (beginning-encloses flow covers offers c.start c.begins) c.leads in
    let holds = each-inclusion flow (Holds flow covers end) well c.ends in
    record {
      consistent = record {
        one_cut_each = r.one_cut_each;
        one_notice_each = r.one_notice_each;
        offered = r.offered;
        canonical = r.notices;
        delivered = λ d l. holds (OfCut (Delivered d)) l;
        discarded = λ e l. holds (OfCut (Discarded e)) l;
        notified = λ p l. holds (OfCut (Notified p)) l;
        own = λ p l. holds (OfNote (Own p)) l;
        notices = λ d l. holds (OfNote (Note d)) l;
      };
      largest = λ other k. r.within other k;
    }

pub certificate-largest : CertificateShowsLargest
certificate-largest flow offers ls end well c = largest-end flow (covers_of flow offers) (IsOffered flow offers) ls end well (arrived-monotone flow offers) c

pub certificate_of_state-largest : CertificateOfStateShowsLargest
certificate_of_state-largest sys state lost view ls end well c =
    largest-end sys.flow (covers_in sys state) (IsCandidate sys state lost view) ls end well (states_arrivals-monotone sys state) c

pub dead_end-none : DeadEndShowsNone
dead_end-none flow offers ls side choice well d k =
    let covers = covers_of flow offers in
    let m = arrived-monotone flow offers in
    let r = leads-encloses flow covers (IsOffered flow offers) d.start ls d.end well m (beginning-encloses flow covers (IsOffered flow offers) d.start d.begins) d.leads in
    d.none (cut_of choice (owner flow side)) (left-consistent flow covers (IsOffered flow offers) (OfCut side) d.end choice well m d.of_flow r k)

pub trail-certificate : TrailIsCertificate
trail-certificate flow offers trail end t = record {
  start = t.start;
  begins = t.begins;
  leads = leads-right flow (covers_of flow offers) (IsOffered flow offers) t.start trail end t.leads;
  ends = t.ends;
}

-- two largest choices are one
largest-one : (flow : Dataflow) (offers : List Offer) (a b : Choice) → IsLargestBy flow (covers_of flow offers) (IsOffered flow offers) a
    → IsLargestBy flow (covers_of flow offers) (IsOffered flow offers) b → a ≡ b
largest-one flow offers a b k l =
    let v = l.largest a k.consistent in
    let w = k.largest b l.consistent in
    let cuts : a.cuts ≡ b.cuts = same_each a.cuts b.cuts (length flow.nodes) Present k.consistent.one_cut_each l.consistent.one_cut_each (λ p m.
    cuts-same flow p (cut_of a p) (cut_of b p) (offered-canonical flow offers p (cut_of a p) (k.consistent.offered p m)) (offered-canonical flow offers p (cut_of b p) (l.consistent.offered p m)) (v.cuts p m) (w.cuts p m)) in
    let notices : a.notices ≡ b.notices = same_each a.notices b.notices (length flow.nodes) [] k.consistent.one_notice_each l.consistent.one_notice_each (λ p m.
    same_fronts (bounds_of flow p) (front_of a.notices p) (front_of b.notices p) (k.consistent.canonical p m) (l.consistent.canonical p m) (v.notices p m) (w.notices p m)) in
    ap (λ xs. choice_of xs a.notices) cuts ∙ ap (choice_of b.cuts) notices

pub certificates-agree : CertificatesAgree
certificates-agree flow offers ls ms one other well c d =
    largest-one flow offers one other (certificate-largest flow offers ls one well c) (certificate-largest flow offers ms other well d)
