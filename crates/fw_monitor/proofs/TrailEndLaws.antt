-- A trail ends at the largest choice.
use Rattle.std.proofs.Common.{List, [], ◌∷◌, sym, subst}
use Rattle.std.specs.List.{AllByRecursion}
use Rattle.fw_lemmas.proofs.Each.{each-suffix}
use Rattle.fw_flow.specs.declared.choice.Choice.{Choice}
use Rattle.fw_flow.specs.declared.choice.Offer.{Offer}
use Rattle.fw_flow.specs.declared.trail.Lowering.{Lowering}
use Rattle.fw_flow.specs.Dataflow.{Dataflow}
use Rattle.fw_flow.specs.WellFormed.{IsWellFormed}
use Rattle.fw_monitor.specs.Descent.{EnclosesConsistent}
use Rattle.fw_model.specs.Choice.{cut_of}
use Rattle.fw_model.specs.Inclusions.{Holds, IsInclusionOf}
use Rattle.fw_model.specs.Lowerings.{Leads}
use Rattle.fw_monitor.specs.Trail.{TrailEndsAtLargest, TrailIsByOffers}
use Rattle.fw_monitor.proofs.DescentLaws.{value_encloses, consistent_of, largest_of}
use Rattle.fw_offers.proofs.OfferedLaws.{left-canonical}
use Rattle.fw_monitor.proofs.StartLaws.{start_encloses}
use Rattle.fw_model.proofs.InclusionLaws.{each-inclusion, inclusions-there}
use Rattle.fw_model.specs.Offers.{IsOffered, covers_of}

leads-encloses : (flow : Dataflow) (offers : List Offer) (choice : Choice) (ls : List Lowering) (end : Choice) → IsWellFormed flow → EnclosesConsistent flow offers choice
    → Leads flow (covers_of flow offers) (IsOffered flow offers) choice ls end → EnclosesConsistent flow offers end
leads-encloses flow offers choice [] end well r same = subst (EnclosesConsistent flow offers) same r
leads-encloses flow offers choice (l ∷ ls) end well r (next, low, rest) =
    let i = low.inclusion in
    let there = (each-suffix (IsInclusionOf flow) low.first.earlier (i ∷ low.first.later) (subst (AllByRecursion (IsInclusionOf flow)) low.first.place (inclusions-there flow))).0 in
    let now = value_encloses flow offers i choice l.to well there r (left-canonical flow offers choice i l.to low.greatest.left) (λ has. low.greatest) in
    leads-encloses flow offers next ls end well (subst (EnclosesConsistent flow offers) (sym low.with_it) now) rest

pub trail-largest : TrailEndsAtLargest
trail-largest flow offers trail end well ascending t offered =
    let s = t.starts in
    let r = leads-encloses flow offers t.start trail end well (start_encloses flow offers t.start.cuts t.start.notices s.one_cut_each s.one_notice_each s.cuts s.notices) t.leads in
    let holds = each-inclusion flow (Holds flow (covers_of flow offers) end) well t.ends in
    largest_of flow offers end r (ascending, (end, consistent_of flow offers end r offered holds)) holds

pub trail-by_offers : TrailIsByOffers
trail-by_offers flow offers trail end has t =
    let s = t.starts in
    record {
      start = t.start;
      begins = record {
        one_cut_each = s.one_cut_each;
        one_notice_each = s.one_notice_each;
        cuts = λ p l. record {
          offered = ((s.cuts p l).largest has.0 (cut_of has.1.0 p) (has.1.1.offered p l)).0;
          greatest = λ x o. ((s.cuts p l).largest has.0 x o).1;
        };
        notices = s.notices;
      };
      leads = t.leads;
      ends = t.ends;
    }
