-- By covers that lack nothing outside a floor the same is lowered, wherever values hold the floor.
use Rattle.std.proofs.Common.{◌≡◌, ◌↔◌, ℕ, ◌<◌, Bool, true, List, [], ◌∷◌, length, refl, sym, subst, inl, inr}
use Rattle.std.specs.List.{AllByRecursion}
use Rattle.std.proofs.lemmas.Bool.{or_cases}
use Rattle.fw_lemmas.proofs.Each.{each-both, each-weaker}
use Rattle.fw_frontier.specs.Frontier.{Frontier, Within}
use Rattle.fw_flow.specs.declared.choice.Choice.{Choice}
use Rattle.fw_flow.specs.declared.choice.Cut.{Cut}
use Rattle.fw_flow.specs.declared.choice.Cut.TheVariants.{Present, At}
use Rattle.fw_flow.specs.declared.choice.Offer.{Offer}
use Rattle.fw_flow.specs.declared.side.Side.{Side}
use Rattle.fw_flow.specs.declared.side.Side.TheVariants.{Delivered, Discarded, Notified}
use Rattle.fw_flow.specs.declared.side.Limit.TheVariants.{Own, Note}
use Rattle.fw_flow.specs.declared.side.Inclusion.{Inclusion}
use Rattle.fw_flow.specs.declared.side.Inclusion.TheVariants.{OfCut, OfNote}
use Rattle.fw_flow.specs.declared.trail.Lowering.{Lowering}
use Rattle.fw_flow.specs.Dataflow.{System, Dataflow, sender}
use Rattle.fw_flow.specs.WellFormed.{IsWellFormed}
use Rattle.fw_model.specs.Machine.{Machine, events}
use Rattle.fw_model.specs.Covers.{Covers, covers_in}
use Rattle.fw_model.specs.Choice.{kept, cut_of, notice_of, kept_of, IsCandidate, IsConsistentBy, IsChoiceWithin}
use Rattle.fw_model.specs.Inclusions.{owner, left_of, right_of, right_side, Holds, IsInclusionOf, inclusions}
use Rattle.fw_model.specs.Lowerings.{IsValueLeft, IsGreatestLeft, IsRightLowering, LeadRight, IsFirstFailing, IsLoweredBy, Leads}
use Rattle.fw_model.specs.Certificates.{IsBeginning, IsCertificate, IsTrailBy}
use Rattle.fw_model.specs.Poorer.{IsPoorer, ArePoorer}
use Rattle.fw_model.specs.LawsOfPoorerCovers.{ArePoorerIn}
use Rattle.fw_model.specs.LawsOfPoorerTrails.{CertificateByOffersAboveIsCertificate, PoorerCoversCertifyTheSame, PoorerCoversLowerTheSame, TrailByOffersAboveIsTrail}
use Rattle.fw_model.specs.Offers.{IsOffered, AreOffersAbove, covers_of}
use Rattle.fw_model.proofs.EnclosesLaws.{Encloses, beginning-encloses, right-encloses, leads-encloses, first-there, earlier-there, lowered-right, leads-right}
use Rattle.fw_model.proofs.InclusionLaws.{ArrivalsAreMonotone, inclusions-there, right-monotone, consistent-holds, owner-there}
use Rattle.fw_model.proofs.PhiLaws.{phi-monotone}

-- Poorer covers and richer ones, the same cuts offered with both, and a floor that is consistent by the richer.
pub record HaveAFloor (flow : Dataflow) (poor rich : Covers) (ours theirs : ℕ → Cut → Type 0) (floor : Choice) : Type 0 where
  pub well_formed : IsWellFormed flow
  pub grows : ArrivalsAreMonotone rich
  pub poorer : ArePoorer flow poor rich ours floor
  pub same : (p : ℕ) → p < length flow.nodes → (cut : Cut) → ours p cut ↔ theirs p cut
  pub consistent : IsConsistentBy flow rich theirs floor

-- ---- one inclusion

-- what stands on the right is the same by both
right-is : (flow : Dataflow) (poor rich : Covers) (ours : ℕ → Cut → Type 0) (floor choice : Choice) → ArePoorer flow poor rich ours floor → (i : Inclusion) → IsInclusionOf flow i
    → right_side flow poor i choice ≡ right_side flow rich i choice
right-is flow poor rich ours floor choice a (OfCut (Delivered d)) l = a.arrived d l (kept_of flow choice (sender flow d))
right-is flow poor rich ours floor choice a (OfCut (Discarded e)) l = refl
right-is flow poor rich ours floor choice a (OfCut (Notified p)) l = refl
right-is flow poor rich ours floor choice a (OfNote (Own p)) l = refl
right-is flow poor rich ours floor choice a (OfNote (Note d)) l = a.arrived d l (notice_of flow choice (sender flow d))

-- what stands on the left is poorer
left-poorer : (flow : Dataflow) (poor rich : Covers) (ours : ℕ → Cut → Type 0) (floor : Choice) → ArePoorer flow poor rich ours floor → (side : Side) → IsInclusionOf flow (OfCut side)
    → (cut : Cut) → ours (owner flow side) cut → IsPoorer (left_of poor side cut) (left_of rich side cut) (left_of rich side (cut_of floor (owner flow side)))
left-poorer flow poor rich ours floor a (Delivered d) l cut i = a.delivered d l cut i
left-poorer flow poor rich ours floor a (Discarded e) l cut i = a.discarded e l cut i
left-poorer flow poor rich ours floor a (Notified p) l cut i = a.notified p l cut i

-- at values that hold the floor a cut meets its inclusion by the one exactly where by the other
meets-same : (flow : Dataflow) (poor rich : Covers) (ours theirs : ℕ → Cut → Type 0) (floor choice : Choice) → HaveAFloor flow poor rich ours theirs floor → IsChoiceWithin flow floor choice
    → (side : Side) → IsInclusionOf flow (OfCut side) → (x : Cut) → ours (owner flow side) x
    → Within (left_of poor side x) (right_of flow poor side choice) ↔ Within (left_of rich side x) (right_of flow rich side choice)
meets-same flow poor rich ours theirs floor choice h v side l x o =
    let q = left-poorer flow poor rich ours floor h.poorer side l x o in
    let here = left_of poor side x in
    let below = left_of rich side (cut_of floor (owner flow side)) in
    let is : right_of flow poor side choice ≡ right_of flow rich side choice = right-is flow poor rich ours floor choice h.poorer (OfCut side) l in (
      λ w t i. elim (or_cases (here t) (below t) (q.rest t i)) [
        | inl k ↦ subst (λ (g : Frontier). g t ≡ true) is (w t k)
        | inr k ↦ right-monotone flow rich (OfCut side) floor choice h.well_formed h.grows l v t (consistent-holds flow rich theirs floor h.consistent (OfCut side) l t k)
      ],
      λ w t i. subst (λ (g : Frontier). g t ≡ true) (sym is) (w t (q.within t i)),
    )

-- so the values that are left are the same
left-same : (flow : Dataflow) (poor rich : Covers) (ours theirs : ℕ → Cut → Type 0) (floor choice : Choice) → HaveAFloor flow poor rich ours theirs floor → IsChoiceWithin flow floor choice
    → (i : Inclusion) → IsInclusionOf flow i → (x : Cut) → IsValueLeft flow poor ours choice i x ↔ IsValueLeft flow rich theirs choice i x
left-same flow poor rich ours theirs floor choice h v (OfCut side) l x =
    let p = owner flow side in
    let both = h.same p (owner-there flow side h.well_formed l) x in (
      λ k. record {
        offered = both.0 k.offered;
        within = k.within;
        meets = (meets-same flow poor rich ours theirs floor choice h v side l x k.offered).0 k.meets;
      },
      λ k. record {
        offered = both.1 k.offered;
        within = k.within;
        meets = (meets-same flow poor rich ours theirs floor choice h v side l x (both.1 k.offered)).1 k.meets;
      },
    )
left-same flow poor rich ours theirs floor choice h v (OfNote limit) l Present = (λ k. k, λ k. k)
left-same flow poor rich ours theirs floor choice h v (OfNote limit) l (At f) =
    let is = right-is flow poor rich ours floor choice h.poorer (OfNote limit) l in (
      λ k. record { canonical = k.canonical; within = k.within; meets = λ t i. subst (λ (g : Frontier). g t ≡ true) is (k.meets t i) },
      λ k. record { canonical = k.canonical; within = k.within; meets = λ t i. subst (λ (g : Frontier). g t ≡ true) (sym is) (k.meets t i) },
    )

greatest_left-same : (flow : Dataflow) (poor rich : Covers) (ours theirs : ℕ → Cut → Type 0) (floor choice : Choice) → HaveAFloor flow poor rich ours theirs floor → IsChoiceWithin flow floor choice
    → (i : Inclusion) → IsInclusionOf flow i → (x : Cut) → IsGreatestLeft flow poor ours choice i x ↔ IsGreatestLeft flow rich theirs choice i x
greatest_left-same flow poor rich ours theirs floor choice h v i l x = (
  λ k. record {
    left = (left-same flow poor rich ours theirs floor choice h v i l x).0 k.left;
    greatest = λ y m. k.greatest y ((left-same flow poor rich ours theirs floor choice h v i l y).1 m);
  },
  λ k. record {
    left = (left-same flow poor rich ours theirs floor choice h v i l x).1 k.left;
    greatest = λ y m. k.greatest y ((left-same flow poor rich ours theirs floor choice h v i l y).0 m);
  },
)

holds-same : (flow : Dataflow) (poor rich : Covers) (ours theirs : ℕ → Cut → Type 0) (floor choice : Choice) → HaveAFloor flow poor rich ours theirs floor → Encloses flow rich theirs choice
    → (i : Inclusion) → IsInclusionOf flow i → Holds flow poor choice i ↔ Holds flow rich choice i
holds-same flow poor rich ours theirs floor choice h v (OfCut side) l =
    let p = owner flow side in
    let there = owner-there flow side h.well_formed l in
    meets-same flow poor rich ours theirs floor choice h (v.within floor h.consistent) side l (cut_of choice p) ((h.same p there (cut_of choice p)).1 (v.offered p there))
holds-same flow poor rich ours theirs floor choice h v (OfNote limit) l =
    let is = right-is flow poor rich ours floor choice h.poorer (OfNote limit) l in (
      λ k t i. subst (λ (g : Frontier). g t ≡ true) is (k t i),
      λ k t i. subst (λ (g : Frontier). g t ≡ true) (sym is) (k t i),
    )

-- ---- trails

-- what holds of each inclusion by the one covers holds of it by the other
each-same : (flow : Dataflow) (one other : Covers) (choice : Choice) → ((i : Inclusion) → IsInclusionOf flow i → Holds flow one choice i → Holds flow other choice i)
    → (is : List Inclusion) → AllByRecursion (IsInclusionOf flow) is → AllByRecursion (Holds flow one choice) is → AllByRecursion (Holds flow other choice) is
each-same flow one other choice h is there a =
    each-weaker (λ i. IsInclusionOf flow i × Holds flow one choice i) (Holds flow other choice) is (λ i k. h i k.0 k.1)
    (each-both (IsInclusionOf flow) (Holds flow one choice) is there a)

first-same : (flow : Dataflow) (poor rich : Covers) (ours theirs : ℕ → Cut → Type 0) (floor choice : Choice) → HaveAFloor flow poor rich ours theirs floor → Encloses flow rich theirs choice
    → (i : Inclusion) → IsFirstFailing flow poor choice i ↔ IsFirstFailing flow rich choice i
first-same flow poor rich ours theirs floor choice h v i = (
  λ f. record {
    fails = λ k. f.fails ((holds-same flow poor rich ours theirs floor choice h v i (first-there flow poor choice i f)).1 k);
    earlier = f.earlier;
    later = f.later;
    place = f.place;
    hold = each-same flow poor rich choice (λ j l. (holds-same flow poor rich ours theirs floor choice h v j l).0) f.earlier (earlier-there flow poor choice i f) f.hold;
  },
  λ f. record {
    fails = λ k. f.fails ((holds-same flow poor rich ours theirs floor choice h v i (first-there flow rich choice i f)).0 k);
    earlier = f.earlier;
    later = f.later;
    place = f.place;
    hold = each-same flow rich poor choice (λ j l. (holds-same flow poor rich ours theirs floor choice h v j l).1) f.earlier (earlier-there flow rich choice i f) f.hold;
  },
)

lowered-same : (flow : Dataflow) (poor rich : Covers) (ours theirs : ℕ → Cut → Type 0) (floor choice : Choice) → HaveAFloor flow poor rich ours theirs floor → Encloses flow rich theirs choice
    → (l : Lowering) (next : Choice) → IsLoweredBy flow poor ours choice l next ↔ IsLoweredBy flow rich theirs choice l next
lowered-same flow poor rich ours theirs floor choice h v l next = (
  λ k. record {
    inclusion = k.inclusion;
    first = (first-same flow poor rich ours theirs floor choice h v k.inclusion).0 k.first;
    told = k.told;
    greatest = (greatest_left-same flow poor rich ours theirs floor choice h (v.within floor h.consistent) k.inclusion (first-there flow poor choice k.inclusion k.first) l.to).0 k.greatest;
    with_it = k.with_it;
  },
  λ k. record {
    inclusion = k.inclusion;
    first = (first-same flow poor rich ours theirs floor choice h v k.inclusion).1 k.first;
    told = k.told;
    greatest = (greatest_left-same flow poor rich ours theirs floor choice h (v.within floor h.consistent) k.inclusion (first-there flow rich choice k.inclusion k.first) l.to).1 k.greatest;
    with_it = k.with_it;
  },
)

-- so is a right lowering, in any order
right-same : (flow : Dataflow) (poor rich : Covers) (ours theirs : ℕ → Cut → Type 0) (floor choice : Choice) → HaveAFloor flow poor rich ours theirs floor → Encloses flow rich theirs choice
    → (l : Lowering) (next : Choice) → IsRightLowering flow poor ours choice l next ↔ IsRightLowering flow rich theirs choice l next
right-same flow poor rich ours theirs floor choice h v l next = (
  λ k. record {
    inclusion = k.inclusion;
    of_flow = k.of_flow;
    told = k.told;
    fails = λ m. k.fails ((holds-same flow poor rich ours theirs floor choice h v k.inclusion k.of_flow).1 m);
    greatest = (greatest_left-same flow poor rich ours theirs floor choice h (v.within floor h.consistent) k.inclusion k.of_flow l.to).0 k.greatest;
    with_it = k.with_it;
  },
  λ k. record {
    inclusion = k.inclusion;
    of_flow = k.of_flow;
    told = k.told;
    fails = λ m. k.fails ((holds-same flow poor rich ours theirs floor choice h v k.inclusion k.of_flow).0 m);
    greatest = (greatest_left-same flow poor rich ours theirs floor choice h (v.within floor h.consistent) k.inclusion k.of_flow l.to).1 k.greatest;
    with_it = k.with_it;
  },
)

lead_right-same : (flow : Dataflow) (poor rich : Covers) (ours theirs : ℕ → Cut → Type 0) (floor choice : Choice) → HaveAFloor flow poor rich ours theirs floor → Encloses flow rich theirs choice
    → (ls : List Lowering) (end : Choice) → LeadRight flow poor ours choice ls end ↔ LeadRight flow rich theirs choice ls end
lead_right-same flow poor rich ours theirs floor choice h v [] end = (λ k. k, λ k. k)
lead_right-same flow poor rich ours theirs floor choice h v (l ∷ ls) end = (
  λ k.
      let low = (right-same flow poor rich ours theirs floor choice h v l k.0).0 k.1 in
      let there = right-encloses flow rich theirs choice l k.0 h.well_formed h.grows v low in
      (k.0, low, (lead_right-same flow poor rich ours theirs floor k.0 h there ls end).0 k.2),
  λ k.
      let low = (right-same flow poor rich ours theirs floor choice h v l k.0).1 k.1 in
      let there = right-encloses flow rich theirs choice l k.0 h.well_formed h.grows v k.1 in
      (k.0, low, (lead_right-same flow poor rich ours theirs floor k.0 h there ls end).1 k.2),
)

-- the same lowerings lead from values that hold the floor, to values that hold it
leads-same : (flow : Dataflow) (poor rich : Covers) (ours theirs : ℕ → Cut → Type 0) (floor choice : Choice) → HaveAFloor flow poor rich ours theirs floor → Encloses flow rich theirs choice
    → (ls : List Lowering) (end : Choice) → Leads flow poor ours choice ls end ↔ Leads flow rich theirs choice ls end
leads-same flow poor rich ours theirs floor choice h v [] end = (λ k. k, λ k. k)
leads-same flow poor rich ours theirs floor choice h v (l ∷ ls) end = (
  λ k.
      let low = (lowered-same flow poor rich ours theirs floor choice h v l k.0).0 k.1 in
      let there = right-encloses flow rich theirs choice l k.0 h.well_formed h.grows v (lowered-right flow rich theirs choice l k.0 low) in
      (k.0, low, (leads-same flow poor rich ours theirs floor k.0 h there ls end).0 k.2),
  λ k.
      let low = (lowered-same flow poor rich ours theirs floor choice h v l k.0).1 k.1 in
      let there = right-encloses flow rich theirs choice l k.0 h.well_formed h.grows v (lowered-right flow rich theirs choice l k.0 k.1) in
      (k.0, low, (leads-same flow poor rich ours theirs floor k.0 h there ls end).1 k.2),
)

beginning-same : (flow : Dataflow) (ours theirs : ℕ → Cut → Type 0) (choice : Choice) → ((p : ℕ) → p < length flow.nodes → (cut : Cut) → ours p cut ↔ theirs p cut)
    → IsBeginning flow ours choice → IsBeginning flow theirs choice
beginning-same flow ours theirs choice same b = record {
  one_cut_each = b.one_cut_each;
  one_notice_each = b.one_notice_each;
  cuts = λ p l. record {
    offered = (same p l (cut_of choice p)).0 (b.cuts p l).offered;
    greatest = λ x k. (b.cuts p l).greatest x ((same p l x).1 k);
  };
  notices = b.notices;
}

-- a certificate by the one is one by the other
certificate-same : (flow : Dataflow) (poor rich : Covers) (ours theirs : ℕ → Cut → Type 0) (floor : Choice) → HaveAFloor flow poor rich ours theirs floor
    → (ls : List Lowering) (end : Choice) → IsCertificate flow poor ours ls end ↔ IsCertificate flow rich theirs ls end
certificate-same flow poor rich ours theirs floor h ls end = (
  λ k.
      let begins = beginning-same flow ours theirs k.start h.same k.begins in
      let v = beginning-encloses flow rich theirs k.start begins in
      let leads = (lead_right-same flow poor rich ours theirs floor k.start h v ls end).0 k.leads in
      let there = leads-encloses flow rich theirs k.start ls end h.well_formed h.grows v leads in
      record {
        start = k.start;
        begins = begins;
        leads = leads;
        ends = each-same flow poor rich end (λ j l. (holds-same flow poor rich ours theirs floor end h there j l).0) (inclusions flow) (inclusions-there flow) k.ends;
      },
  λ k.
      let v = beginning-encloses flow rich theirs k.start k.begins in
      let there = leads-encloses flow rich theirs k.start ls end h.well_formed h.grows v k.leads in
      record {
        start = k.start;
        begins = beginning-same flow theirs ours k.start (λ p l cut. ((h.same p l cut).1, (h.same p l cut).0)) k.begins;
        leads = (lead_right-same flow poor rich ours theirs floor k.start h v ls end).1 k.leads;
        ends = each-same flow rich poor end (λ j l. (holds-same flow poor rich ours theirs floor end h there j l).1) (inclusions flow) (inclusions-there flow) k.ends;
      },
)

-- a trail by the one is the trail by the other
trail-same : (flow : Dataflow) (poor rich : Covers) (ours theirs : ℕ → Cut → Type 0) (floor : Choice) → HaveAFloor flow poor rich ours theirs floor
    → (trail : List Lowering) (end : Choice) → IsTrailBy flow poor ours trail end ↔ IsTrailBy flow rich theirs trail end
trail-same flow poor rich ours theirs floor h trail end = (
  λ k.
      let begins = beginning-same flow ours theirs k.start h.same k.begins in
      let v = beginning-encloses flow rich theirs k.start begins in
      let leads = (leads-same flow poor rich ours theirs floor k.start h v trail end).0 k.leads in
      let there = leads-encloses flow rich theirs k.start trail end h.well_formed h.grows v (leads-right flow rich theirs k.start trail end leads) in
      record {
        start = k.start;
        begins = begins;
        leads = leads;
        ends = each-same flow poor rich end (λ j l. (holds-same flow poor rich ours theirs floor end h there j l).0) (inclusions flow) (inclusions-there flow) k.ends;
      },
  λ k.
      let v = beginning-encloses flow rich theirs k.start k.begins in
      let there = leads-encloses flow rich theirs k.start trail end h.well_formed h.grows v (leads-right flow rich theirs k.start trail end k.leads) in
      record {
        start = k.start;
        begins = beginning-same flow theirs ours k.start (λ p l cut. ((h.same p l cut).1, (h.same p l cut).0)) k.begins;
        leads = (leads-same flow poor rich ours theirs floor k.start h v trail end).1 k.leads;
        ends = each-same flow rich poor end (λ j l. (holds-same flow poor rich ours theirs floor end h there j l).1) (inclusions flow) (inclusions-there flow) k.ends;
      },
)

-- ---- in a state

in_state : (sys : System) (state : Machine) (lost : ℕ → Bool) (poor : Covers) (floor : Choice) → IsWellFormed sys.flow → ArePoorerIn sys state lost poor floor
    → HaveAFloor sys.flow poor (covers_in sys state) (IsCandidate sys state lost kept) (IsCandidate sys state lost kept) floor
in_state sys state lost poor floor w a = record {
  well_formed = w;
  grows = λ e f g v. phi-monotone sys (events state.history) e f g v;
  poorer = a.poorer;
  same = λ p l cut. (λ k. k, λ k. k);
  consistent = a.consistent;
}

pub lowers-same : PoorerCoversLowerTheSame
lowers-same sys state lost poor floor trail end w a =
    let offers = IsCandidate sys state lost kept in
    trail-same sys.flow poor (covers_in sys state) offers offers floor (in_state sys state lost poor floor w a) trail end

pub certifies-same : PoorerCoversCertifyTheSame
certifies-same sys state lost poor floor ls end w a =
    let offers = IsCandidate sys state lost kept in
    certificate-same sys.flow poor (covers_in sys state) offers offers floor (in_state sys state lost poor floor w a) ls end

-- ---- by data

by_data : (sys : System) (state : Machine) (lost : ℕ → Bool) (floor : Choice) (offers : List Offer) → IsWellFormed sys.flow → AreOffersAbove sys state lost floor offers
    → HaveAFloor sys.flow (covers_of sys.flow offers) (covers_in sys state) (IsOffered sys.flow offers) (IsCandidate sys state lost kept) floor
by_data sys state lost floor offers w a = record {
  well_formed = w;
  grows = λ e f g v. phi-monotone sys (events state.history) e f g v;
  poorer = a.poorer;
  same = a.offered;
  consistent = a.consistent;
}

pub trail-above : TrailByOffersAboveIsTrail
trail-above sys state lost floor offers trail end w a =
    trail-same sys.flow (covers_of sys.flow offers) (covers_in sys state) (IsOffered sys.flow offers) (IsCandidate sys state lost kept) floor
    (by_data sys state lost floor offers w a) trail end

pub certificate-above : CertificateByOffersAboveIsCertificate
certificate-above sys state lost floor offers ls end w a =
    certificate-same sys.flow (covers_of sys.flow offers) (covers_in sys state) (IsOffered sys.flow offers) (IsCandidate sys state lost kept) floor
    (by_data sys state lost floor offers w a) ls end
