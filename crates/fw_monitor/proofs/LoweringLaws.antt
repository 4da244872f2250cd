-- What a lowering of a value finds: the greatest one that is left.
use Rattle.std.proofs.Common.{◌≡◌, ℕ, List, set, None, Some, Option, refl, sym, ap, subst, ◌∙◌}
use Rattle.fw_frontier.specs.Frontier.{Within, meet}
use Rattle.fw_frontier.specs.Front.{Front, frontier_of, IsFrontOf}
use Rattle.fw_flow.specs.declared.choice.Choice.{Choice}
use Rattle.fw_flow.specs.declared.choice.Cut.{Cut}
use Rattle.fw_flow.specs.declared.choice.Cut.TheVariants.{Present, At}
use Rattle.fw_flow.specs.declared.choice.Offer.{Offer}
use Rattle.fw_flow.specs.Dataflow.{Dataflow, bounds_of}
use Rattle.fw_flow.specs.WellFormed.{IsWellFormed}
use Rattle.fw_model.specs.Choice.{cut_of, notice_of, IsCutWithin}
use Rattle.fw_flow.specs.declared.side.Side.{Side}
use Rattle.fw_flow.specs.declared.side.Limit.{Limit}
use Rattle.fw_flow.specs.declared.side.Inclusion.TheVariants.{OfCut, OfNote}
use Rattle.fw_model.specs.Inclusions.{owner, side_bounds, right_of, IsSideOfFlow, note_node, limit_of, IsLimitIn}
use Rattle.fw_model.specs.Lowerings.{choice_of, IsCutLeft, IsValueLeft, IsGreatestLeft}
use Rattle.fw_offers.specs.Sides.{IsLeft}
use Rattle.fw_monitor.specs.Descent.{IsLower, IsLowerCut, IsNoticeLowered, EnclosesConsistent, HasConsistent}
use Rattle.fw_monitor.specs.Tests.{IsLowering, IsTested}
use Rattle.fw_model.proofs.InclusionLaws.{owner-there, node-there}
use Rattle.fw_monitor.proofs.DescentLaws.{lighter_cut, lighter_notice, consistent_left, value_encloses}
use Rattle.fw_offers.proofs.FrontLaws.{meet-left, meet-right, meet-largest}
use Rattle.fw_model.specs.Offers.{IsOffered, covers_of}

-- ---- cuts

-- what is left, by the front of the right side
pub left_by : (flow : Dataflow) (offers : List Offer) (side : Side) (choice : Choice) (bound : Front) (x : Cut) → IsFrontOf (side_bounds flow side) bound (right_of flow (covers_of flow offers) side choice)
    → IsCutLeft flow (covers_of flow offers) (IsOffered flow offers) choice side x → IsLeft flow offers side (cut_of choice (owner flow side)) bound x
left_by flow offers side choice bound x n k = record { offered = k.offered; within = k.within; passes = λ t i. n.same t ∙ k.meets t i }

cut_greatest : (flow : Dataflow) (offers : List Offer) (side : Side) (choice : Choice) (bound : Front) (new : Cut) → IsWellFormed flow → IsSideOfFlow flow side → EnclosesConsistent flow offers choice
    → IsFrontOf (side_bounds flow side) bound (right_of flow (covers_of flow offers) side choice) → IsLower flow offers side (cut_of choice (owner flow side)) bound new
    → HasConsistent flow offers → IsGreatestLeft flow (covers_of flow offers) (IsOffered flow offers) choice (OfCut side) new
cut_greatest flow offers side choice bound new well there r n low has =
    let offered = r.offered has.0 has.1.0 has.1.1 (owner flow side) (owner-there flow side well there) in
    let other = consistent_left flow offers (OfCut side) choice has.1.0 well there r has.0 has.1.1 in
    record {
      left = record {
        offered = (low.largest has.0 offered (cut_of has.1.0 (owner flow side)) (left_by flow offers side choice bound (cut_of has.1.0 (owner flow side)) n other)).0;
        within = low.within;
        meets = λ t i. sym (n.same t) ∙ low.passes has.0 t i;
      };
      greatest = λ x k. (low.largest has.0 offered x (left_by flow offers side choice bound x n k)).1;
    }

cut_lowered : (flow : Dataflow) (offers : List Offer) (side : Side) (choice : Choice) (bound : Front) (new : Cut) → IsWellFormed flow → IsSideOfFlow flow side → EnclosesConsistent flow offers choice
    → IsFrontOf (side_bounds flow side) bound (right_of flow (covers_of flow offers) side choice) → IsLower flow offers side (cut_of choice (owner flow side)) bound new
    → IsLowering flow offers (OfCut side) choice (choice_of (set choice.cuts (owner flow side) new) choice.notices) new
cut_lowered flow offers side choice bound new well there r n low =
    let greatest = cut_greatest flow offers side choice bound new well there r n low in
    record {
      encloses = value_encloses flow offers (OfCut side) choice new well there r low.canonical greatest;
      fewer = lighter_cut flow offers choice (owner flow side) new r (owner-there flow side well there) low.canonical low.within low.other;
      fails = λ h. low.fails (λ t i. n.same t ∙ h t i);
      with_it = refl;
      greatest = greatest;
    }

pub cut_tested : (flow : Dataflow) (offers : List Offer) (side : Side) (cuts new : List Cut) (notices : List Front) (bound : Front) (p q : ℕ) (c v : Cut) → IsWellFormed flow → IsSideOfFlow flow side
    → EnclosesConsistent flow offers (choice_of cuts notices) → IsFrontOf (side_bounds flow side) bound (right_of flow (covers_of flow offers) side (choice_of cuts notices)) → p ≡ owner flow side → q ≡ p → v ≡ c → new ≡ set cuts q c
    → IsLower flow offers side (cut_of (choice_of cuts notices) p) bound c → IsTested flow offers (OfCut side) (choice_of cuts notices) (choice_of new notices) (Some v)
cut_tested flow offers side cuts new notices bound p q c v well there r n e f same is lower =
    let base = cut_lowered flow offers side (choice_of cuts notices) bound c well there r n (subst (λ x. IsLower flow offers side (cut_of (choice_of cuts notices) x) bound c) e lower) in
    subst (λ x. IsLowering flow offers (OfCut side) (choice_of cuts notices) (choice_of new notices) x) (sym same)
    (subst (λ xs. IsLowering flow offers (OfCut side) (choice_of cuts notices) (choice_of xs notices) c) (ap (λ x. set cuts x c) (sym e ∙ sym f) ∙ sym is) base)

-- where no cut is lower, the side holds
pub cut_stays : (flow : Dataflow) (offers : List Offer) (side : Side) (cuts : List Cut) (notices : List Front) (bound : Front) (p : ℕ) → IsWellFormed flow → IsSideOfFlow flow side
    → EnclosesConsistent flow offers (choice_of cuts notices) → IsFrontOf (side_bounds flow side) bound (right_of flow (covers_of flow offers) side (choice_of cuts notices)) → p ≡ owner flow side
    → IsLowerCut flow offers side (cut_of (choice_of cuts notices) p) bound None → IsTested flow offers (OfCut side) (choice_of cuts notices) (choice_of cuts notices) None
cut_stays flow offers side cuts notices bound p well there r n e none = (
  refl,
  λ has t i.
      let choice = choice_of cuts notices in
      let other = consistent_left flow offers (OfCut side) choice has.1.0 well there r has.0 has.1.1 in
      sym (n.same t)
      ∙ subst (λ x. IsLowerCut flow offers side (cut_of choice x) bound None) e none has.0 (cut_of has.1.0 (owner flow side)) (left_by flow offers side choice bound (cut_of has.1.0 (owner flow side)) n other) t i,
)

-- ---- notification frontiers

pub note_greatest : (flow : Dataflow) (offers : List Offer) (limit : Limit) (choice : Choice) (bound f : Front) → IsFrontOf (bounds_of flow (note_node flow limit)) bound (limit_of flow (covers_of flow offers) limit choice)
    → IsFrontOf (bounds_of flow (note_node flow limit)) f (meet (notice_of flow choice (note_node flow limit)) (frontier_of (bounds_of flow (note_node flow limit)) bound))
    → IsGreatestLeft flow (covers_of flow offers) (IsOffered flow offers) choice (OfNote limit) (At f)
note_greatest flow offers limit choice bound f n m = record {
  left = record {
    canonical = m.canonical;
    within = meet-left (bounds_of flow (note_node flow limit)) f (notice_of flow choice (note_node flow limit)) (frontier_of (bounds_of flow (note_node flow limit)) bound) m;
    meets = λ t i. sym (n.same t) ∙ meet-right (bounds_of flow (note_node flow limit)) f (notice_of flow choice (note_node flow limit)) (frontier_of (bounds_of flow (note_node flow limit)) bound) m t i;
  };
  greatest = at;
}
  where
    at : (x : Cut) → IsValueLeft flow (covers_of flow offers) (IsOffered flow offers) choice (OfNote limit) x → IsCutWithin flow (note_node flow limit) x (At f)
    at Present k = absurd k
    at (At g) k =
        let b = bounds_of flow (note_node flow limit) in
        meet-largest b f (notice_of flow choice (note_node flow limit)) (frontier_of b bound) (frontier_of b g) m k.within (λ t i. n.same t ∙ k.meets t i)

note_lowered : (flow : Dataflow) (offers : List Offer) (limit : Limit) (choice : Choice) (bound f : Front) → IsWellFormed flow → IsLimitIn flow limit → EnclosesConsistent flow offers choice
    → IsFrontOf (bounds_of flow (note_node flow limit)) bound (limit_of flow (covers_of flow offers) limit choice)
    → IsFrontOf (bounds_of flow (note_node flow limit)) f (meet (notice_of flow choice (note_node flow limit)) (frontier_of (bounds_of flow (note_node flow limit)) bound))
    → (Within (notice_of flow choice (note_node flow limit)) (frontier_of (bounds_of flow (note_node flow limit)) bound) → ⊥)
    → IsLowering flow offers (OfNote limit) choice (choice_of choice.cuts (set choice.notices (note_node flow limit) f)) (At f)
note_lowered flow offers limit choice bound f well there r n m fails =
    let p = note_node flow limit in
    let b = bounds_of flow p in
    let l = node-there flow (OfNote limit) well there in
    let greatest = note_greatest flow offers limit choice bound f n m in
    record {
      encloses = value_encloses flow offers (OfNote limit) choice (At f) well there r m.canonical (λ has. greatest);
      fewer = lighter_notice flow offers choice p f r l m.canonical greatest.left.within
          (λ e. fails (subst (λ g. Within (frontier_of b g) (frontier_of b bound)) e (meet-right b f (notice_of flow choice p) (frontier_of b bound) m)));
      fails = λ h. fails (λ t i. n.same t ∙ h t i);
      with_it = refl;
      greatest = λ has. greatest;
    }

pub note_tested : (flow : Dataflow) (offers : List Offer) (limit : Limit) (cuts : List Cut) (old new : List Front) (q : ℕ) (bound : Front) (r : Option Cut) → IsWellFormed flow → IsLimitIn flow limit
    → EnclosesConsistent flow offers (choice_of cuts old) → IsFrontOf (bounds_of flow (note_node flow limit)) bound (limit_of flow (covers_of flow offers) limit (choice_of cuts old))
    → q ≡ note_node flow limit → IsNoticeLowered old new q bound r → IsTested flow offers (OfNote limit) (choice_of cuts old) (choice_of cuts new) r
note_tested flow offers limit cuts old new q bound r well there enc n same low = at r (subst (λ p. IsNoticeLowered old new p bound r) same low)
  where
    at : (r : Option Cut) → IsNoticeLowered old new (note_node flow limit) bound r → IsTested flow offers (OfNote limit) (choice_of cuts old) (choice_of cuts new) r
    at None (e, w) = (ap (choice_of cuts) e, λ has t i. sym (n.same t) ∙ w (bounds_of flow (note_node flow limit)) n.canonical t i)
    at (Some to) (f, e, is, cut) =
        let here = cut (bounds_of flow (note_node flow limit)) (enc.notices (note_node flow limit) (node-there flow (OfNote limit) well there)) n.canonical in
        subst (λ x. IsLowering flow offers (OfNote limit) (choice_of cuts old) (choice_of cuts new) x) (sym e)
        (subst (λ xs. IsLowering flow offers (OfNote limit) (choice_of cuts old) (choice_of cuts xs) (At f)) (sym is)
        (note_lowered flow offers limit (choice_of cuts old) bound f well there enc n here.0 here.1))
