-- What a descent finds that ends where no cut is left.
use Rattle.std.proofs.Common.{◌≡◌, ℕ, suc, ◌+◌, ◌*◌, ◌<◌, ◌≤◌, List, [], ◌∷◌, ◌++◌, length, take, drop, set, get_or, Some, None, refl, sym, ap, subst, ◌∙◌, inl, inr, arith}
use Rattle.std.specs.List.{AllByRecursion}
use Rattle.std.proofs.lemmas.Bool.{cases_Bool}
use Rattle.std.proofs.lemmas.List.{take_all}
use Rattle.std.proofs.Math.Nat.{mul-le-mul_right, suc-mul}
use Rattle.fw_lemmas.proofs.Each.{each-append}
use Rattle.fw_lemmas.proofs.Lists.{split_at}
use Rattle.fw_frontier.specs.Frontier.{Within}
use Rattle.fw_frontier.specs.Front.{Front, frontier_of, IsFrontOf}
use Rattle.fw_flow.specs.declared.choice.Choice.{Choice}
use Rattle.fw_flow.specs.declared.choice.Cut.{Cut}
use Rattle.fw_flow.specs.declared.choice.Cut.TheVariants.{Present, At}
use Rattle.fw_flow.specs.declared.choice.Offer.{Offer}
use Rattle.fw_flow.specs.declared.side.Inclusion.{Inclusion}
use Rattle.fw_flow.specs.declared.side.Inclusion.TheVariants.{OfCut, OfNote}
use Rattle.fw_flow.specs.declared.side.Limit.{Limit}
use Rattle.fw_flow.specs.declared.side.Side.{Side}
use Rattle.fw_flow.specs.declared.trail.Lowering.{Lowering}
use Rattle.fw_flow.specs.Dataflow.{Dataflow, bounds_of}
use Rattle.fw_flow.specs.WellFormed.{IsWellFormed}
use Rattle.fw_model.specs.Certificates.{IsBeginning, IsDeadEnd}
use Rattle.fw_model.specs.Choice.{IsCutWithin, cut_of}
use Rattle.fw_model.specs.Covers.{Covers, set_of}
use Rattle.fw_model.specs.Inclusions.{Holds, IsInclusionOf, IsLimitIn, IsSideOfFlow, inclusions, left_of, limit_of, node_of, note_node, owner, right_of, side_bounds}
use Rattle.fw_model.specs.Lowerings.{IsCutLeft, IsGreatestLeft, IsValueLeft, Leads, choice_of, lowering_of, with_value}
use Rattle.fw_model.specs.Machine.{front_of}
use Rattle.fw_model.specs.Offers.{IsOffered, RecordsAscend, covers_of}
use Rattle.fw_model.proofs.EnclosesLaws.{leads-right}
use Rattle.fw_model.proofs.InclusionLaws.{each-inclusion, node-there, owner-there, set_there}
use Rattle.fw_offers.specs.Sides.{IsLeft}
use Rattle.fw_monitor.specs.Descent.{IsGreatest, IsLower, IsLowerCut, IsNoticeLowered, weight}
use Rattle.fw_monitor.specs.Worklist.{AreBegins, after, may_break}
use Rattle.fw_monitor.specs.Finding.{IsBackFrom, IsFirstDeadEnd, IsLargestFound, IsLoweredTo, IsNoneLeftFor, IsOfOffers}
use Rattle.fw_monitor.proofs.BeginLaws.{back_by, begin_read as read}
use Rattle.fw_monitor.proofs.DescentLaws.{consistent_of, largest_of}
use Rattle.fw_monitor.proofs.LoweringLaws.{cut_tested, left_by, note_greatest, note_tested}
use Rattle.fw_monitor.proofs.StartLaws.{start_encloses}
use Rattle.fw_monitor.proofs.TestLaws.{left_over}
use Rattle.fw_monitor.proofs.TrailLaws.{leads_more, spared}
use Rattle.fw_monitor.proofs.WorklistLaws.{after-each, take_next}

-- ---- one inclusion

-- the cut of the side is lowered
pub cut_mended : (flow : Dataflow) (offers : List Offer) (side : Side) (trail more : List Lowering) (cuts new : List Cut) (notices : List Front) (bound : Front) (p q : ℕ) (c v : Cut) (l : Lowering) → IsWellFormed flow → RecordsAscend flow offers
    → IsSideOfFlow flow side → IsOfOffers flow offers (choice_of cuts notices) → IsFrontOf (side_bounds flow side) bound (right_of flow (covers_of flow offers) side (choice_of cuts notices)) → p ≡ owner flow side → q ≡ p → v ≡ c
    → new ≡ set cuts q c → l ≡ lowering_of flow (OfCut side) v → more ≡ trail ++ l ∷ [] → IsOffered flow offers p c
    → IsLower flow offers side (cut_of (choice_of cuts notices) p) bound c → IsLoweredTo flow offers (OfCut side) trail more (choice_of cuts notices) (choice_of new notices)
cut_mended flow offers side trail more cuts new notices bound p q c v l well asc there on n e f same is told longer offered lower =
    let old = choice_of cuts notices in
    let own = subst (λ x. IsOffered flow offers x c) e offered in
    let low = subst (λ x. IsLower flow offers side (cut_of old x) bound c) e lower in
    record {
      to = v;
      lowering = cut_tested flow offers side cuts new notices bound p q c v well there on.encloses n e f same is lower;
      greatest = subst (IsGreatestLeft flow (covers_of flow offers) (IsOffered flow offers) old (OfCut side)) (sym same) (record {
        left = record { offered = own; within = low.within; meets = λ t i. sym (n.same t) ∙ low.passes asc t i };
        greatest = λ x k. (low.largest asc (on.offered (owner flow side) (owner-there flow side well there)) x (left_by flow offers side old bound x n k)).1;
      });
      told = longer ∙ ap (λ x. trail ++ x ∷ []) told;
    }

-- no cut is left: the greatest that there would be is not offered
pub none_offered : (flow : Dataflow) (offers : List Offer) (side : Side) (cuts : List Cut) (notices : List Front) (bound : Front) (p : ℕ) (c : Cut) → IsWellFormed flow → RecordsAscend flow offers
    → IsSideOfFlow flow side → IsOfOffers flow offers (choice_of cuts notices) → IsFrontOf (side_bounds flow side) bound (right_of flow (covers_of flow offers) side (choice_of cuts notices)) → p ≡ owner flow side
    → (IsOffered flow offers p c → ⊥) → IsLower flow offers side (cut_of (choice_of cuts notices) p) bound c → IsNoneLeftFor flow offers (choice_of cuts notices) side
none_offered flow offers side cuts notices bound p c well asc there on n e not_offered lower =
    let old = choice_of cuts notices in
    let low = subst (λ x. IsLower flow offers side (cut_of old x) bound c) e lower in
    record {
      of_flow = there;
      none = λ x k. not_offered (subst (λ y. IsOffered flow offers y c) (sym e)
          (low.largest asc (on.offered (owner flow side) (owner-there flow side well there)) x (left_by flow offers side old bound x n k)).0);
    }

-- no cut is left: no record passes
pub none_lower : (flow : Dataflow) (offers : List Offer) (side : Side) (cuts : List Cut) (notices : List Front) (bound : Front) (p : ℕ) → RecordsAscend flow offers
    → IsSideOfFlow flow side → IsFrontOf (side_bounds flow side) bound (right_of flow (covers_of flow offers) side (choice_of cuts notices)) → p ≡ owner flow side
    → (Within (left_of (covers_of flow offers) side (cut_of (choice_of cuts notices) p)) (frontier_of (side_bounds flow side) bound) → ⊥)
    → IsLowerCut flow offers side (cut_of (choice_of cuts notices) p) bound None → IsNoneLeftFor flow offers (choice_of cuts notices) side
none_lower flow offers side cuts notices bound p asc there n e fails none =
    let old = choice_of cuts notices in
    record {
      of_flow = there;
      none = λ x k. fails (none asc x (subst (λ y. IsLeft flow offers side (cut_of old y) bound x) (sym e) (left_by flow offers side old bound x n k)));
    }

-- the inclusion holds
pub cut_holds : (flow : Dataflow) (offers : List Offer) (side : Side) (choice : Choice) (bound : Front) (p : ℕ) → IsFrontOf (side_bounds flow side) bound (right_of flow (covers_of flow offers) side choice) → p ≡ owner flow side
    → Within (left_of (covers_of flow offers) side (cut_of choice p)) (frontier_of (side_bounds flow side) bound) → Holds flow (covers_of flow offers) choice (OfCut side)
cut_holds flow offers side choice bound p n e w = λ t i. sym (n.same t) ∙ subst (λ x. Within (left_of (covers_of flow offers) side (cut_of choice x)) (frontier_of (side_bounds flow side) bound)) e w t i

-- a notification frontier lies within its limit, or is lowered
pub note_holds : (flow : Dataflow) (offers : List Offer) (limit : Limit) (cuts : List Cut) (old new : List Front) (q : ℕ) (bound : Front) → IsFrontOf (bounds_of flow (note_node flow limit)) bound (limit_of flow (covers_of flow offers) limit (choice_of cuts old))
    → q ≡ note_node flow limit → IsNoticeLowered old new q bound None → (choice_of cuts new ≡ choice_of cuts old) × Holds flow (covers_of flow offers) (choice_of cuts old) (OfNote limit)
note_holds flow offers limit cuts old new q bound n same low = at (subst (λ p. IsNoticeLowered old new p bound None) same low)
  where
    at : IsNoticeLowered old new (note_node flow limit) bound None → (choice_of cuts new ≡ choice_of cuts old) × Holds flow (covers_of flow offers) (choice_of cuts old) (OfNote limit)
    at (e, w) = (ap (choice_of cuts) e, λ t i. sym (n.same t) ∙ w (bounds_of flow (note_node flow limit)) n.canonical t i)

pub note_mended : (flow : Dataflow) (offers : List Offer) (limit : Limit) (trail more : List Lowering) (cuts : List Cut) (old new : List Front) (q : ℕ) (bound : Front) (to : Cut) (l : Lowering) → IsWellFormed flow → IsLimitIn flow limit
    → IsOfOffers flow offers (choice_of cuts old) → IsFrontOf (bounds_of flow (note_node flow limit)) bound (limit_of flow (covers_of flow offers) limit (choice_of cuts old))
    → q ≡ note_node flow limit → l ≡ lowering_of flow (OfNote limit) to → more ≡ trail ++ l ∷ [] → IsNoticeLowered old new q bound (Some to)
    → IsLoweredTo flow offers (OfNote limit) trail more (choice_of cuts old) (choice_of cuts new)
note_mended flow offers limit trail more cuts old new q bound to l well there on n same told longer low = record {
  to = to;
  lowering = note_tested flow offers limit cuts old new q bound (Some to) well there on.encloses n same low;
  greatest = at (subst (λ p. IsNoticeLowered old new p bound (Some to)) same low);
  told = longer ∙ ap (λ x. trail ++ x ∷ []) told;
}
  where
    at : IsNoticeLowered old new (note_node flow limit) bound (Some to) → IsGreatestLeft flow (covers_of flow offers) (IsOffered flow offers) (choice_of cuts old) (OfNote limit) to
    at (f, e, is, cut) =
        let here = cut (bounds_of flow (note_node flow limit)) (on.encloses.notices (note_node flow limit) (node-there flow (OfNote limit) well there)) n.canonical in
        subst (IsGreatestLeft flow (covers_of flow offers) (IsOffered flow offers) (choice_of cuts old) (OfNote limit)) (sym e) (note_greatest flow offers limit (choice_of cuts old) bound f n here.0)

-- ---- the way down

-- the lowerings so far are the trail's, each cut is offered, and the first inclusions hold
pub record IsOnWay (flow : Dataflow) (offers : List Offer) (trail : List Lowering) (choice : Choice) (place : ℕ) : Type 0 where
  pub start : Choice
  pub begins : IsBeginning flow (IsOffered flow offers) start
  pub leads : Leads flow (covers_of flow offers) (IsOffered flow offers) start trail choice
  pub of_offers : IsOfOffers flow offers choice
  pub hold : AllByRecursion (Holds flow (covers_of flow offers) choice) (take place (inclusions flow))
  pub within : place ≤ length (inclusions flow)

pub begun : (flow : Dataflow) (offers : List Offer) (trail : List Lowering) (cuts : List Cut) (notices : List Front) → RecordsAscend flow offers → length cuts ≡ length flow.nodes → length notices ≡ length flow.nodes
    → ((p : ℕ) → p < length flow.nodes → (cut : Cut) × IsOffered flow offers p cut)
    → ((p : ℕ) → p < length flow.nodes → IsGreatest flow offers p (cut_of (choice_of cuts []) p))
    → ((p : ℕ) → p < length flow.nodes → IsFrontOf (bounds_of flow p) (front_of notices p) (set_of flow p (cut_of (choice_of cuts []) p)))
    → trail ≡ [] → IsOnWay flow offers trail (choice_of cuts notices) 0
begun flow offers trail cuts notices asc one each some greatest kept none = record {
  start = choice_of cuts notices;
  begins = record {
    one_cut_each = one;
    one_notice_each = each;
    cuts = λ p l. record { offered = ((greatest p l).largest asc (some p l).0 (some p l).1).0; greatest = λ x o. ((greatest p l).largest asc x o).1 };
    notices = kept;
  };
  leads = subst (λ ls. Leads flow (covers_of flow offers) (IsOffered flow offers) (choice_of cuts notices) ls (choice_of cuts notices)) (sym none) refl;
  of_offers = record {
    encloses = start_encloses flow offers cuts notices one each greatest kept;
    offered = λ p l. ((greatest p l).largest asc (some p l).0 (some p l).1).0;
  };
  hold = tt;
  within = omega arith;
}

pub further : (flow : Dataflow) (offers : List Offer) (all : List Inclusion) (i : Inclusion) (trail more : List Lowering) (old new : Choice) (place : ℕ) → all ≡ inclusions flow → place < length all → i ≡ get_or all place i
    → more ≡ trail → new ≡ old → Holds flow (covers_of flow offers) old i → IsOnWay flow offers trail old place → IsOnWay flow offers more new (place + 1)
further flow offers all i trail more old new place same l is longer stays holds w =
    let m = ap length same in
    let next_is : take (place + 1) (inclusions flow) ≡ take place (inclusions flow) ++ i ∷ [] = subst (λ xs. take (place + 1) xs ≡ take place xs ++ i ∷ []) same (take_next all place i l is) in
    subst (λ ls. IsOnWay flow offers ls new (place + 1)) (sym longer)
    (subst (λ c. IsOnWay flow offers trail c (place + 1)) (sym stays) (record {
      start = w.start;
      begins = w.begins;
      leads = w.leads;
      of_offers = w.of_offers;
      hold = subst (AllByRecursion (Holds flow (covers_of flow offers) old)) (sym next_is)
          (each-append (Holds flow (covers_of flow offers) old) (take place (inclusions flow)) (i ∷ []) w.hold (holds, tt));
      within = omega arith;
    }))

-- with the greatest value that is left each cut is offered
value_offered : (flow : Dataflow) (offers : List Offer) (i : Inclusion) (choice : Choice) (x : Cut) → IsWellFormed flow → IsInclusionOf flow i → IsOfOffers flow offers choice
    → IsGreatestLeft flow (covers_of flow offers) (IsOffered flow offers) choice i x → (p : ℕ) → p < length flow.nodes → IsOffered flow offers p (cut_of (with_value flow choice i x) p)
value_offered flow offers (OfCut side) choice x well there on g =
    let one = on.encloses.one_cut_each in
    let l = owner-there flow side well there in
    set_there (IsOffered flow offers) choice.cuts (length flow.nodes) (owner flow side) x Present (omega arith) on.offered g.left.offered
value_offered flow offers (OfNote limit) choice Present well there on g = on.offered
value_offered flow offers (OfNote limit) choice (At f) well there on g = on.offered

-- an inclusion of an earlier node than those that can be broken holds as before
holds_before : (flow : Dataflow) (offers : List Offer) (i j : Inclusion) (choice : Choice) (to : Cut) (node : ℕ) → node_of flow i < length choice.notices → IsValueLeft flow (covers_of flow offers) (IsOffered flow offers) choice i to
    → AllByRecursion (λ k. node ≤ node_of flow k) (after flow i) → IsInclusionOf flow j → node_of flow j < node → Holds flow (covers_of flow offers) choice j → Holds flow (covers_of flow offers) (with_value flow choice i to) j
holds_before flow offers i j choice to node here left each m before h = elim (cases_Bool (may_break flow i j)) [
  | inl b ↦ let past = after-each (λ k. node ≤ node_of flow k) flow i j m each b in absurd (omega (arith, past, before))
  | inr b ↦ spared flow offers choice i j to here left b h
]

pub again : (flow : Dataflow) (offers : List Offer) (all : List Inclusion) (i : Inclusion) (trail more : List Lowering) (old new : Choice) (place next : ℕ) → IsWellFormed flow → all ≡ inclusions flow → place < length all → i ≡ get_or all place i
    → IsInclusionOf flow i → IsBackFrom flow i next → IsLoweredTo flow offers i trail more old new → IsOnWay flow offers trail old place → IsOnWay flow offers more new next
again flow offers all i trail more old new place next well same l is there back low w =
    let same_length = ap length same in
    let at = node-there flow i well there in
    let each = w.of_offers.encloses.one_notice_each in
    let here : node_of flow i < length old.notices = omega (arith, at, each) in
    let own = back.own in
    let held = back_by flow (Holds flow (covers_of flow offers) old) (Holds flow (covers_of flow offers) (with_value flow old i low.to)) i place back.node (omega (arith, own, at)) (omega (arith, same_length, l))
    (subst (λ xs. i ≡ get_or xs place i) same is) own
    (λ j m before h. holds_before flow offers i j old low.to back.node here low.greatest.left back.each m before h) w.hold in
    record {
      start = w.start;
      begins = w.begins;
      leads = subst (λ ls. Leads flow (covers_of flow offers) (IsOffered flow offers) w.start ls new) (sym low.told)
          (leads_more flow offers w.start old new trail (lowering_of flow i low.to) w.leads (record {
            inclusion = i;
            first = record {
              fails = low.lowering.fails;
              earlier = take place (inclusions flow);
              later = drop (place + 1) (inclusions flow);
              place = subst (λ xs. xs ≡ take place xs ++ i ∷ drop (place + 1) xs) same (split_at all place i l is);
              hold = w.hold;
            };
            told = refl;
            greatest = low.greatest;
            with_it = low.lowering.with_it;
          }));
      of_offers = record {
        encloses = low.lowering.encloses;
        offered = subst (λ c. (p : ℕ) → p < length flow.nodes → IsOffered flow offers p (cut_of c p)) (sym low.lowering.with_it) (value_offered flow offers i old low.to well there w.of_offers low.greatest);
      };
      hold = subst (λ c. AllByRecursion (Holds flow (covers_of flow offers) c) (take next (inclusions flow))) (sym low.lowering.with_it)
          (subst (λ n. AllByRecursion (Holds flow (covers_of flow offers) (with_value flow old i low.to)) (take n (inclusions flow))) (sym back.begins) held.1);
      within = subst (λ n. n ≤ length (inclusions flow)) (sym back.begins) held.0;
    }

-- the list says where to begin again
pub back_read : (flow : Dataflow) (i : Inclusion) (begins : List ℕ) (p k r : ℕ) → AreBegins flow (length flow.nodes) begins → IsWellFormed flow → IsInclusionOf flow i → p ≤ node_of flow i → AllByRecursion (λ j. p ≤ node_of flow j) (after flow i)
    → k ≡ p → r ≡ get_or begins k r → IsBackFrom flow i r
back_read flow i begins p k r b well there own each same is =
    let at = node-there flow i well there in
    record { node = p; own = own; each = each; begins = read flow begins p k r b (omega (arith, own, at)) same is }

pub again_falls : (flow : Dataflow) (old new : Choice) (place next : ℕ) → weight flow new < weight flow old → left_over flow new next < left_over flow old place
unfolding left_over
again_falls flow old new place next k =
    let n = length (inclusions flow) in
    let l : suc (weight flow new) ≤ weight flow old = omega arith in
    let m = mul-le-mul_right (suc n) l in
    let s = suc-mul (weight flow new) (suc n) in
    omega arith

pub further_falls : (flow : Dataflow) (all : List Inclusion) (old new : Choice) (place : ℕ) → all ≡ inclusions flow → place < length all → new ≡ old → left_over flow new (place + 1) < left_over flow old place
unfolding left_over
further_falls flow all old new place same l stays =
    let m = ap length same in
    let k = ap (λ c. weight flow c * suc (length (inclusions flow))) stays in
    omega arith

-- ---- the end

pub found_largest : (flow : Dataflow) (offers : List Offer) (trail : List Lowering) (choice : Choice) (place : ℕ) → IsWellFormed flow → RecordsAscend flow offers → length (inclusions flow) ≤ place
    → IsOnWay flow offers trail choice place → IsLargestFound flow offers trail choice
found_largest flow offers trail choice place well asc past w =
    let all = subst (AllByRecursion (Holds flow (covers_of flow offers) choice)) (take_all place (inclusions flow) past) w.hold in
    let holds = each-inclusion flow (Holds flow (covers_of flow offers) choice) well all in
    let consistent = consistent_of flow offers choice w.of_offers.encloses w.of_offers.offered holds in
    record {
      largest = largest_of flow offers choice w.of_offers.encloses (asc, (choice, consistent)) holds;
      leads = record { start = w.start; begins = w.begins; leads = w.leads; ends = all };
    }

-- a cut that is offered, and of which the side holds, is left
itself-left : (flow : Dataflow) (offers : List Offer) (choice : Choice) (side : Side) (x : Cut) → x ≡ cut_of choice (owner flow side) → IsOffered flow offers (owner flow side) x
    → Holds flow (covers_of flow offers) choice (OfCut side) → IsCutLeft flow (covers_of flow offers) (IsOffered flow offers) choice side x
itself-left flow offers choice side x is offered holds = record {
  offered = offered;
  within = subst (IsCutWithin flow (owner flow side) x) is (same x);
  meets = subst (λ y. Within (left_of (covers_of flow offers) side y) (right_of flow (covers_of flow offers) side choice)) (sym is) holds;
}
  where
    same : (y : Cut) → IsCutWithin flow (owner flow side) y y
    same Present = tt
    same (At f) = λ t i. i

pub found_none : (flow : Dataflow) (offers : List Offer) (all : List Inclusion) (i : Inclusion) (trail : List Lowering) (choice : Choice) (place : ℕ) (side : Side) → IsWellFormed flow → all ≡ inclusions flow
    → place < length all → i ≡ get_or all place i → i ≡ OfCut side → IsOnWay flow offers trail choice place → IsNoneLeftFor flow offers choice side
    → IsFirstDeadEnd flow (covers_of flow offers) (IsOffered flow offers) trail side
found_none flow offers all i trail choice place side well same l is of w none = record {
  start = w.start;
  begins = w.begins;
  end = choice;
  leads = w.leads;
  of_flow = none.of_flow;
  first = record {
    fails = λ h. none.none (cut_of choice (owner flow side)) (itself-left flow offers choice side (cut_of choice (owner flow side)) refl
        (w.of_offers.offered (owner flow side) (owner-there flow side well none.of_flow)) h);
    earlier = take place (inclusions flow);
    later = drop (place + 1) (inclusions flow);
    place = subst (λ j. inclusions flow ≡ take place (inclusions flow) ++ j ∷ drop (place + 1) (inclusions flow)) of
        (subst (λ xs. xs ≡ take place xs ++ i ∷ drop (place + 1) xs) same (split_at all place i l is));
    hold = w.hold;
  };
  none = none.none;
}

-- where the descent ends without a choice, its lowerings, which are right, show that there is none
pub dead_end-of : (flow : Dataflow) (covers : Covers) (offers : ℕ → Cut → Type 0) (trail : List Lowering) (side : Side) → IsFirstDeadEnd flow covers offers trail side → IsDeadEnd flow covers offers trail side
dead_end-of flow covers offers trail side d = record {
  start = d.start;
  begins = d.begins;
  end = d.end;
  leads = leads-right flow covers offers d.start trail d.end d.leads;
  of_flow = d.of_flow;
  none = d.none;
}
