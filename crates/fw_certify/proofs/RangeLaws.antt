-- What a side is in a frontier of a range: it keeps unions, and so grows with the frontier.
use Rattle.std.proofs.Common.{◌≡◌, ◌≢◌, ◌⊎◌, ℕ, ◌<◌, Bool, true, false, cond, ◌&&◌, ◌==◌, List, length, filter, None, refl, sym, ap, ◌∙◌, inl, inr}
use Rattle.std.specs.List.{AllByRecursion}
use Rattle.std.proofs.lemmas.Bool.{and_parts, and_from, or_cases, or_left, cond-false}
use Rattle.fw_lemmas.proofs.Each.{each-weaker, each_of-filter}
use Rattle.fw_frontier.specs.Frontier.{Frontier, Within, nothing, cover, join}
use Rattle.fw_frontier.specs.Front.{Front}
use Rattle.fw_flow.specs.declared.choice.Counted.{Counted}
use Rattle.fw_flow.specs.declared.choice.Cut.TheVariants.{At}
use Rattle.fw_flow.specs.declared.choice.Offer.{Offer}
use Rattle.fw_flow.specs.Kind.{Kind}
use Rattle.fw_flow.specs.declared.kind.Kind.TheVariants.{Input, OutputEpoch, OutputNumber}
use Rattle.fw_flow.specs.declared.kind.Policy.{Policy}
use Rattle.fw_flow.specs.declared.kind.Policy.TheVariants as policy
use Rattle.fw_flow.specs.declared.restoring.Restoring.{Restoring}
use Rattle.fw_flow.specs.declared.restoring.Restoring.TheVariants.{Batches, Bound, Anything, Checkpoints, Events}
use Rattle.fw_flow.specs.declared.side.Side.{Side}
use Rattle.fw_flow.specs.declared.side.Side.TheVariants.{Delivered, Discarded, Notified}
use Rattle.fw_flow.specs.Dataflow.{Dataflow, kind_of, policy_of, sender, receiver, bounds_of, node_frontier}
use Rattle.fw_flow.specs.Projection.{all_inside, psi}
use Rattle.fw_flow.specs.Restoring.{can_resend, restoring, restoring_of_policy, way_of}
use Rattle.fw_flow.specs.WellFormed.{IsWellFormed}
use Rattle.fw_model.specs.Covers.{discarded_at, takes_its_cut, takes_its_notices}
use Rattle.fw_model.specs.Inclusions.{owner, left_of, IsSideOfFlow}
use Rattle.fw_model.specs.Offers.{AreOffersOf, HasOneCause, counted_on_edge, covers_of, delivered_to, is_by_records, notified_of, offered_by, offered_sent, range_of, sent_in, stamps_on, stamps_on_from}
use Rattle.fw_model.specs.Sending.{SendsByCount, SendsByStamp}
use Rattle.fw_model.proofs.ChoiceLaws.{Divides, cover-divides, covered-divides, flag-divides}
use Rattle.fw_model.proofs.InclusionLaws.{owner-there}
use Rattle.fw_model.proofs.PsiLaws.{psi-join, psi-monotone}
use Rattle.fw_model.proofs.WellFormedLaws.{senders_well_formed}
use Rattle.fw_offers.proofs.WayLaws.{one_cause_each, unlisted}

-- what a node sent on edge e inside a frontier, by the way in which it is restored
abbrev pub sent_inside : Dataflow → List Offer → ℕ → Restoring → Frontier → Frontier
sent_inside flow offers e Anything f = psi flow e f
sent_inside flow offers e way f = cover (bounds_of flow (receiver flow e)) (stamps_on_from e f (offered_sent offers (sender flow e)))

-- what a side is inside a frontier, where its node is not restored by records
abbrev pub side_inside : Dataflow → List Offer → Side → Frontier → Frontier
side_inside flow offers (Delivered d) f =
    cond (takes_its_cut (way_of flow (receiver flow d))) f (cover (bounds_of flow (receiver flow d)) (filter f (stamps_on d (delivered_to offers (receiver flow d)))))
side_inside flow offers (Discarded e) f = cond (can_resend (policy_of flow (sender flow e))) nothing (sent_inside flow offers e (way_of flow (sender flow e)) f)
side_inside flow offers (Notified p) f = cond (takes_its_notices (kind_of flow p) (policy_of flow p)) f (cover (bounds_of flow p) (filter f (notified_of offers p)))

sent-is : (flow : Dataflow) (offers : List Offer) (e : ℕ) (way : Restoring) (f : Front) → is_by_records way ≡ false
    → discarded_at flow e way (sent_in flow offers e way (At f)) f ≡ sent_inside flow offers e way (node_frontier flow (sender flow e) f)
sent-is flow offers e Batches f k = refl
sent-is flow offers e Bound f k = refl
sent-is flow offers e Anything f k = refl
sent-is flow offers e Checkpoints f k = absurd (cc)
sent-is flow offers e Events f k = refl

side-inside : (flow : Dataflow) (offers : List Offer) (side : Side) (f : Front) → is_by_records (way_of flow (owner flow side)) ≡ false
    → left_of (covers_of flow offers) side (At f) ≡ side_inside flow offers side (node_frontier flow (owner flow side) f)
side-inside flow offers (Delivered d) f k =
    ap (cond (takes_its_cut (way_of flow (receiver flow d))) (node_frontier flow (receiver flow d) f)) (cond-false (is_by_records (way_of flow (receiver flow d))) _ _ k)
side-inside flow offers (Discarded e) f k = ap (cond (can_resend (policy_of flow (sender flow e))) nothing) (sent-is flow offers e (way_of flow (sender flow e)) f k)
side-inside flow offers (Notified p) f k =
    ap (cond (takes_its_notices (kind_of flow p) (policy_of flow p)) (node_frontier flow p f)) (cond-false (is_by_records (way_of flow p)) _ _ k)

-- where a range is offered, a side is what it is inside the frontier
pub side-is : (flow : Dataflow) (offers : List Offer) (side : Side) (f : Front) → AreOffersOf flow offers → IsWellFormed flow → IsSideOfFlow flow side → range_of offers (owner flow side) ≢ None
    → left_of (covers_of flow offers) side (At f) ≡ side_inside flow offers side (node_frontier flow (owner flow side) f)
side-is flow offers side f a well there range =
    let p = owner flow side in
    side-inside flow offers side f (unlisted (way_of flow p) (offered_by offers p) range (a.form_fits p (owner-there flow side well there)))

-- ---- unions

events-resend : (kind : Kind) (p : Policy) → restoring kind p ≡ Events → can_resend p ≡ true
events-resend Input p e = cc
events-resend OutputEpoch p e = cc
events-resend OutputNumber p e = cc
events-resend kind p e = by p e
  where
    by : (p : Policy) → restoring_of_policy p ≡ Events → can_resend p ≡ true
    by policy.None e = cc
    by policy.Lazy e = cc
    by policy.Logged e = refl
    by policy.Eager e = refl
    by policy.Full e = refl

bound-sends_none : (flow : Dataflow) (kind : Kind) (p : Policy) → restoring kind p ≡ Bound → SendsByCount kind ⊎ SendsByStamp flow kind → ⊥
bound-sends_none flow Input p e s = cc
bound-sends_none flow OutputEpoch p e (inl s) = cc
bound-sends_none flow OutputEpoch p e (inr s) = s
bound-sends_none flow OutputNumber p e (inl s) = cc
bound-sends_none flow OutputNumber p e (inr s) = s
bound-sends_none flow kind p e s = by p e
  where
    by : (p : Policy) → restoring_of_policy p ≡ Bound → ⊥
    by policy.None e = cc
    by policy.Lazy e = cc
    by policy.Logged e = cc
    by policy.Eager e = cc
    by policy.Full e = cc

-- of messages with one cause each, what comes from inside both of two frontiers comes from inside one
one_cause-divides : (e : ℕ) (h f g : Frontier) (ms : List Counted) → AllByRecursion HasOneCause (counted_on_edge e ms) → Within h (join f g)
    → AllByRecursion (Divides (λ (m : Counted). m.edge == e && all_inside h m.causes) (λ m. m.edge == e && all_inside f m.causes) (λ m. m.edge == e && all_inside g m.causes)) ms
one_cause-divides e h f g ms one w =
    each-weaker (λ (m : Counted). (m.edge == e) ≡ true → HasOneCause m)
    (Divides (λ (m : Counted). m.edge == e && all_inside h m.causes) (λ m. m.edge == e && all_inside f m.causes) (λ m. m.edge == e && all_inside g m.causes)) ms
    (λ m c k.
    let a = and_parts (m.edge == e) (all_inside h m.causes) k in
    let one = c a.0 in
    let i = (and_parts (h one.0) true (sym (ap (all_inside h) one.1) ∙ a.1)).0 in
    elim (or_cases (f one.0) (g one.0) (w one.0 i)) [
      | inl j ↦ inl (and_from (m.edge == e) (all_inside f m.causes) a.0 (ap (all_inside f) one.1 ∙ and_from (f one.0) true j refl))
      | inr j ↦ inr (and_from (m.edge == e) (all_inside g m.causes) a.0 (ap (all_inside g) one.1 ∙ and_from (g one.0) true j refl))
    ])
    (each_of-filter HasOneCause (λ (m : Counted). m.edge == e) ms one)

sent-divides : (flow : Dataflow) (offers : List Offer) (e : ℕ) (h f g : Frontier) (way : Restoring) → way ≡ way_of flow (sender flow e) → AreOffersOf flow offers → IsWellFormed flow
    → e < length flow.edges → range_of offers (sender flow e) ≢ None → can_resend (policy_of flow (sender flow e)) ≡ false → Within h (join f g)
    → Within (sent_inside flow offers e way h) (join (sent_inside flow offers e way f) (sent_inside flow offers e way g))
sent-divides flow offers e h f g Batches is a well there range no_resend w =
    covered-divides (bounds_of flow (receiver flow e)) (λ m. m.edge == e && all_inside h m.causes) (λ m. m.edge == e && all_inside f m.causes) (λ m. m.edge == e && all_inside g m.causes)
    (λ m. m.at) (offered_sent offers (sender flow e)) (one_cause-divides e h f g (offered_sent offers (sender flow e)) (one_cause_each flow offers e (sender flow e) a well there refl is range) w)
sent-divides flow offers e h f g Bound is a well there range no_resend w =
    absurd (bound-sends_none flow (kind_of flow (sender flow e)) (policy_of flow (sender flow e)) (sym is) (senders_well_formed flow well e there))
sent-divides flow offers e h f g Anything is a well there range no_resend w =
    λ t k. sym (psi-join flow e f g t) ∙ psi-monotone flow e h (join f g) w t k
sent-divides flow offers e h f g Checkpoints is a well there range no_resend w =
    let k = unlisted (way_of flow (sender flow e)) (offered_by offers (sender flow e)) range (a.form_fits (sender flow e) (well.senders_declared e there)) in
    let l : is_by_records Checkpoints ≡ false = ap is_by_records is ∙ k in
    absurd (cc)
sent-divides flow offers e h f g Events is a well there range no_resend w =
    let k = events-resend (kind_of flow (sender flow e)) (policy_of flow (sender flow e)) (sym is) in
    absurd (cc)

-- inside a union a side has no more than inside the two
pub side-divides : (flow : Dataflow) (offers : List Offer) (side : Side) (h f g : Frontier) → AreOffersOf flow offers → IsWellFormed flow → IsSideOfFlow flow side
    → range_of offers (owner flow side) ≢ None → Within h (join f g)
    → Within (side_inside flow offers side h) (join (side_inside flow offers side f) (side_inside flow offers side g))
side-divides flow offers (Delivered d) h f g a well there range w =
    let b = bounds_of flow (receiver flow d) in
    let ss = stamps_on d (delivered_to offers (receiver flow d)) in
    flag-divides (takes_its_cut (way_of flow (receiver flow d))) h f g (cover b (filter h ss)) (cover b (filter f ss)) (cover b (filter g ss)) w (cover-divides b h f g ss w)
side-divides flow offers (Discarded e) h f g a well there range w = by (can_resend (policy_of flow (sender flow e))) refl
  where
    by : (c : Bool) → can_resend (policy_of flow (sender flow e)) ≡ c
        → (let way = way_of flow (sender flow e) in
        Within (cond c nothing (sent_inside flow offers e way h)) (join (cond c nothing (sent_inside flow offers e way f)) (cond c nothing (sent_inside flow offers e way g))))
    by true r = λ t k. absurd (cc)
    by false r = sent-divides flow offers e h f g (way_of flow (sender flow e)) refl a well there range r w
side-divides flow offers (Notified p) h f g a well there range w =
    let b = bounds_of flow p in
    let ss = notified_of offers p in
    flag-divides (takes_its_notices (kind_of flow p) (policy_of flow p)) h f g (cover b (filter h ss)) (cover b (filter f ss)) (cover b (filter g ss)) w (cover-divides b h f g ss w)

-- a side grows with the frontier
pub side-monotone : (flow : Dataflow) (offers : List Offer) (side : Side) (f g : Frontier) → AreOffersOf flow offers → IsWellFormed flow → IsSideOfFlow flow side
    → range_of offers (owner flow side) ≢ None → Within f g → Within (side_inside flow offers side f) (side_inside flow offers side g)
side-monotone flow offers side f g a well there range w t k =
    elim (or_cases (side_inside flow offers side g t) (side_inside flow offers side g t)
    (side-divides flow offers side f g g a well there range (λ s i. or_left (g s) (g s) (w s i)) t k)) [ inl i ↦ i | inr i ↦ i ]
