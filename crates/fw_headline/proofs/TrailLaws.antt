-- In a state in which something can be chosen there is a trail; and a trail ends at the largest choice.
use Rattle.std.proofs.Common.{ℕ, zero, suc, ◌+◌, ◌<◌, Bool, List, [], ◌∷◌, refl, inl, inr, arith}
use Rattle.std.specs.List.{AllByRecursion}
use Rattle.fw_flow.specs.declared.choice.Choice.{Choice}
use Rattle.fw_flow.specs.declared.choice.Cut.TheVariants.{Present, At}
use Rattle.fw_flow.specs.declared.side.Side.TheVariants.{Delivered, Discarded, Notified}
use Rattle.fw_flow.specs.declared.side.Limit.TheVariants.{Own, Note}
use Rattle.fw_flow.specs.declared.side.Inclusion.TheVariants.{OfCut, OfNote}
use Rattle.fw_flow.specs.declared.trail.Lowering.{Lowering}
use Rattle.fw_flow.specs.Dataflow.{System}
use Rattle.fw_flow.specs.WellFormed.{IsWellFormed}
use Rattle.fw_headline.specs.LawsOfTrails.{IsTrailIn, TrailOfStateEndsAtLargest}
use Rattle.fw_headline.proofs.GreatestLaws.{beginning-exists, greatest-left}
use Rattle.fw_headline.proofs.ListLaws.{first-failing}
use Rattle.fw_headline.proofs.LoweredLaws.{IsCanonicalOffer, lowered-less, size_of}
use Rattle.fw_headline.proofs.WithinLaws.{holds-decided}
use Rattle.fw_model.proofs.EnclosesLaws.{Encloses, beginning-encloses, first-there, greatest-encloses, leads-encloses, leads-right}
use Rattle.fw_model.proofs.InclusionLaws.{ArrivalsAreMonotone, each-inclusion}
use Rattle.fw_model.proofs.PhiLaws.{phi-monotone}
use Rattle.fw_model.specs.Choice.{kept, IsCandidate}
use Rattle.fw_model.specs.Choosing.{CanChoose}
use Rattle.fw_model.specs.Covers.{covers_in}
use Rattle.fw_model.specs.Inclusions.{Holds, inclusions}
use Rattle.fw_model.specs.Lowerings.{IsFirstFailing, Leads, lowering_of, with_value}
use Rattle.fw_model.specs.Machine.{Machine, events}

arrivals-grow : (sys : System) (state : Machine) → ArrivalsAreMonotone (covers_in sys state)
arrivals-grow sys state e f g w = phi-monotone sys (events state.history) e f g w

pub candidates-canonical : (sys : System) (state : Machine) (lost : ℕ → Bool) → IsCanonicalOffer sys.flow (IsCandidate sys state lost kept)
candidates-canonical sys state lost p Present o = tt
candidates-canonical sys state lost p (At f) o = o.0

-- lowerings lead from a choice to one at which each inclusion holds
record Descends (sys : System) (state : Machine) (lost : ℕ → Bool) (now : Choice) : Type 0 where
  trail : List Lowering
  end : Choice
  leads : Leads sys.flow (covers_in sys state) (IsCandidate sys state lost kept) now trail end
  ends : AllByRecursion (Holds sys.flow (covers_in sys state) end) (inclusions sys.flow)

descends : (sys : System) (state : Machine) (lost : ℕ → Bool) → IsWellFormed sys.flow → (can : CanChoose sys state lost) (most : ℕ) (now : Choice) → size_of sys now < most
    → Encloses sys.flow (covers_in sys state) (IsCandidate sys state lost kept) now → Descends sys state lost now
descends sys state lost well can zero now l r = absurd (omega arith)
descends sys state lost well can (suc most) now l r = elim (first-failing (Holds sys.flow (covers_in sys state) now) (holds-decided sys state now) (inclusions sys.flow)) [
  | inl all ↦ record { trail = []; end = now; leads = refl; ends = all }
  | inr w ↦
      let covers = covers_in sys state in
      let offers = IsCandidate sys state lost kept in
      let grows = arrivals-grow sys state in
      let first : IsFirstFailing sys.flow covers now w.0 = record { fails = w.5; earlier = w.1; later = w.2; place = w.3; hold = w.4 } in
      let there = first-there sys.flow covers now w.0 first in
      let low = greatest-left sys state lost can.chains well grows can.choice can.consistent now r w.0 there in
      let less = lowered-less sys covers offers (candidates-canonical sys state lost) now w.0 low.0 well there r w.5 low.1 in
      let next = with_value sys.flow now w.0 low.0 in
      let rest = descends sys state lost well can most next (omega arith) (greatest-encloses sys.flow covers offers w.0 now low.0 well grows there r low.1) in
      record {
        trail = lowering_of sys.flow w.0 low.0 ∷ rest.trail;
        end = rest.end;
        leads = (next, record { inclusion = w.0; first = first; told = refl; greatest = low.1; with_it = refl }, rest.leads);
        ends = rest.ends;
      }
]

-- where something can be chosen there is a trail
pub has_trail : (sys : System) (state : Machine) (lost : ℕ → Bool) → IsWellFormed sys.flow → CanChoose sys state lost
    → (trail : List Lowering) × (end : Choice) × IsTrailIn sys state lost trail end
has_trail sys state lost well can =
    let start = beginning-exists sys state lost can.chains can.choice can.consistent in
    let encloses = beginning-encloses sys.flow (covers_in sys state) (IsCandidate sys state lost kept) start.0 start.1 in
    let d = descends sys state lost well can (size_of sys start.0 + 1) start.0 (omega arith) encloses in
    (d.trail, d.end, record { start = start.0; begins = start.1; leads = d.leads; ends = d.ends })

pub trail_of_state-largest : TrailOfStateEndsAtLargest
trail_of_state-largest sys state lost trail end well k =
    let covers = covers_in sys state in
    let offers = IsCandidate sys state lost kept in
    let r = leads-encloses sys.flow covers offers k.start trail end well (arrivals-grow sys state) (beginning-encloses sys.flow covers offers k.start k.begins)
    (leads-right sys.flow covers offers k.start trail end k.leads) in
    let holds = each-inclusion sys.flow (Holds sys.flow covers end) well k.ends in
    record {
      consistent = record {
        one_cut_each = r.one_cut_each;
        one_notice_each = r.one_notice_each;
        offered = r.offered;
        canonical = r.notices;
        delivered = λ d l. holds (OfCut (Delivered d)) l;
        discarded = λ e l. holds (OfCut (Discarded e)) l;
        notified = λ p l. holds (OfCut (Notified p)) l;
        own = λ p l. holds (OfNote (Own p)) l;
        notices = λ d l. holds (OfNote (Note d)) l;
      };
      largest = λ other c. r.within other c;
    }
