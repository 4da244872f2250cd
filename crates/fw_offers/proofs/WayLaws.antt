-- What a side of a cut is, by the way in which its node is restored.
use Rattle.std.proofs.Common.{◌≡◌, ◌≢◌, ◌↔◌, ℕ, ◌<◌, Bool, true, false, cond, List, [], length, filter, None, Option, refl, sym, ap, subst, ◌∙◌, inl, inr, arith}
use Rattle.std.proofs.lemmas.Bool.{cond-true, cond-false, cases_lt}
use Rattle.fw_frontier.specs.Frontier.{Frontier, Within, nothing, everything, cover}
use Rattle.fw_frontier.specs.Front.{Front, frontier_of, IsFrontOf}
use Rattle.fw_flow.specs.declared.choice.Cut.TheVariants.{Present, At}
use Rattle.fw_flow.specs.declared.choice.Recorded.{Recorded}
use Rattle.fw_flow.specs.declared.choice.Offer.{Offer}
use Rattle.fw_flow.specs.declared.restoring.Restoring.{Restoring}
use Rattle.fw_flow.specs.Dataflow.{Dataflow, kind_of, policy_of, sender, receiver, bounds_of}
use Rattle.fw_flow.specs.Projection.{psi}
use Rattle.fw_flow.specs.Restoring.{can_resend, way_of}
use Rattle.fw_model.specs.Covers.{takes_its_cut, takes_its_notices, discarded_at}
use Rattle.fw_model.specs.Offers.{delivered_to, notified_of, offered_sent, stamps_on, stamps_on_from, delivered_in, sent_in, notified_in, covers_of, AreAtEdgeStamps, AreOffersOf}
use Rattle.fw_flow.specs.declared.side.Side.{Side}
use Rattle.fw_flow.specs.declared.side.Side.TheVariants.{Delivered, Discarded, Notified}
use Rattle.fw_model.specs.Inclusions.{left_of, side_bounds}
use Rattle.fw_offers.specs.Sides.{recorded_left, IsRecordAt}
use Rattle.fw_offers.proofs.LookUpLaws.{offer_past}
use Rattle.fw_offers.proofs.FrontLaws.{all_is_everything}
use Rattle.std.specs.List.{AllByRecursion}
use Rattle.fw_flow.specs.declared.choice.Counted.{Counted}
use Rattle.fw_flow.specs.declared.choice.Offered.{Offered}
use Rattle.fw_flow.specs.declared.choice.Offered.TheVariants as form
use Rattle.fw_flow.specs.declared.restoring.Restoring.TheVariants.{Batches, Bound, Anything, Checkpoints, Events}
use Rattle.fw_flow.specs.WellFormed.{IsWellFormed}
use Rattle.fw_model.specs.Offers.{AreOfBatches, HasOneCause, IsFormOf, counted_on_edge, is_by_range, is_by_records, offered_by, offered_range, range_of}

-- what each node sent is at stamps of its edges
pub sent_on_edges : (flow : Dataflow) (offers : List Offer) (p : ℕ) → AreOffersOf flow offers → AreAtEdgeStamps flow (offered_sent offers p)
sent_on_edges flow offers p a = elim (cases_lt p (length flow.nodes)) [
  | inl l ↦ a.sent p l
  | inr l ↦
      let one = a.one_each in
      subst (AreAtEdgeStamps flow) (sym (offer_past (λ (o : Offer). o.stamps.sent) offers p [] (omega arith))) tt
]

way-at : (flow : Dataflow) (q p : ℕ) (way : Restoring) → q ≡ p → way ≡ way_of flow q → way ≡ way_of flow p
way-at flow q p way e k = k ∙ ap (λ x. way_of flow x) e

-- ---- delivered

-- what counts as delivered on edge d inside a frontier, where its receiver is restored in this way
abbrev pub delivered_at : Dataflow → List Offer → ℕ → Restoring → Front → Frontier
delivered_at flow offers d way f = cond (takes_its_cut way) (frontier_of (bounds_of flow (receiver flow d)) f) (delivered_in flow offers d way (At f))

pub delivered_by : (flow : Dataflow) (offers : List Offer) (d q : ℕ) (f : Front) (g : Frontier) (b : Bool) (way : Restoring) → q ≡ receiver flow d
    → way ≡ way_of flow q → ((b ≡ true) ↔ Within (delivered_at flow offers d way f) g)
    → (b ≡ true) ↔ Within ((covers_of flow offers).delivered d (At f)) g
delivered_by flow offers d q f g b way e k h = subst (λ w. (b ≡ true) ↔ Within (delivered_at flow offers d w f) g) (way-at flow q (receiver flow d) way e k) h

pub delivered_by_records : (flow : Dataflow) (offers : List Offer) (d q : ℕ) (f : Front) (g : Frontier) (b : Bool) (r : Option Recorded) → q ≡ receiver flow d
    → Checkpoints ≡ way_of flow q → IsRecordAt flow offers (receiver flow d) f r
    → ((b ≡ true) ↔ Within (recorded_left (bounds_of flow (receiver flow d)) (Delivered d) r) g)
    → (b ≡ true) ↔ Within ((covers_of flow offers).delivered d (At f)) g
delivered_by_records flow offers d q f g b r e k at h =
    delivered_by flow offers d q f g b Checkpoints e k
    (subst (λ x. (b ≡ true) ↔ Within (recorded_left (bounds_of flow (receiver flow d)) (Delivered d) x) g) (at (sym (way-at flow q (receiver flow d) Checkpoints e k))) h)

pub delivered_present : (flow : Dataflow) (offers : List Offer) (side : Side) (d : ℕ) (all bound : Front) (b : Bool) → side ≡ Delivered d → all ≡ []
    → ((b ≡ true) ↔ Within (cover (bounds_of flow (receiver flow d)) (filter (frontier_of (bounds_of flow (receiver flow d)) all) (stamps_on d (delivered_to offers (receiver flow d))))) (frontier_of (bounds_of flow (receiver flow d)) bound))
    → (b ≡ true) ↔ Within (left_of (covers_of flow offers) side Present) (frontier_of (side_bounds flow side) bound)
delivered_present flow offers side d all bound b s a h =
    let bounds = bounds_of flow (receiver flow d) in
    let whole : frontier_of bounds all ≡ everything bounds = ap (frontier_of bounds) a ∙ all_is_everything bounds in
    subst (λ x. (b ≡ true) ↔ Within (left_of (covers_of flow offers) x Present) (frontier_of (side_bounds flow x) bound)) (sym s)
    (subst (λ w. (b ≡ true) ↔ Within (cover bounds (filter w (stamps_on d (delivered_to offers (receiver flow d))))) (frontier_of bounds bound)) whole h)

-- ---- notified

pub notified_takes : (flow : Dataflow) (offers : List Offer) (p : ℕ) (f : Front) (g : Frontier) (b : Bool) → takes_its_notices (kind_of flow p) (policy_of flow p) ≡ true
    → ((b ≡ true) ↔ Within (frontier_of (bounds_of flow p) f) g) → (b ≡ true) ↔ Within ((covers_of flow offers).notified p (At f)) g
notified_takes flow offers p f g b takes h = subst (λ l. (b ≡ true) ↔ Within l g) (sym (cond-true (takes_its_notices (kind_of flow p) (policy_of flow p)) _ _ takes)) h

notified_way : (flow : Dataflow) (offers : List Offer) (p : ℕ) (f : Front) (g : Frontier) (b : Bool) (way : Restoring) → takes_its_notices (kind_of flow p) (policy_of flow p) ≡ false
    → way ≡ way_of flow p → ((b ≡ true) ↔ Within (notified_in flow offers p way (At f)) g) → (b ≡ true) ↔ Within ((covers_of flow offers).notified p (At f)) g
notified_way flow offers p f g b way takes m h =
    subst (λ l. (b ≡ true) ↔ Within l g) (sym (cond-false (takes_its_notices (kind_of flow p) (policy_of flow p)) _ _ takes))
    (subst (λ w. (b ≡ true) ↔ Within (notified_in flow offers p w (At f)) g) m h)

pub notified_by_records : (flow : Dataflow) (offers : List Offer) (p : ℕ) (f : Front) (g : Frontier) (b : Bool) (r : Option Recorded) → takes_its_notices (kind_of flow p) (policy_of flow p) ≡ false
    → Checkpoints ≡ way_of flow p → IsRecordAt flow offers p f r
    → ((b ≡ true) ↔ Within (recorded_left (bounds_of flow p) (Notified p) r) g) → (b ≡ true) ↔ Within ((covers_of flow offers).notified p (At f)) g
notified_by_records flow offers p f g b r takes m at h =
    notified_way flow offers p f g b Checkpoints takes m (subst (λ x. (b ≡ true) ↔ Within (recorded_left (bounds_of flow p) (Notified p) x) g) (at (sym m)) h)

pub notified_present : (flow : Dataflow) (offers : List Offer) (side : Side) (p : ℕ) (all bound : Front) (b : Bool) → side ≡ Notified p → all ≡ []
    → ((b ≡ true) ↔ Within (cover (bounds_of flow p) (filter (frontier_of (bounds_of flow p) all) (notified_of offers p))) (frontier_of (bounds_of flow p) bound))
    → (b ≡ true) ↔ Within (left_of (covers_of flow offers) side Present) (frontier_of (side_bounds flow side) bound)
notified_present flow offers side p all bound b s a h =
    let bounds = bounds_of flow p in
    let whole : frontier_of bounds all ≡ everything bounds = ap (frontier_of bounds) a ∙ all_is_everything bounds in
    subst (λ x. (b ≡ true) ↔ Within (left_of (covers_of flow offers) x Present) (frontier_of (side_bounds flow x) bound)) (sym s)
    (subst (λ w. (b ≡ true) ↔ Within (cover bounds (filter w (notified_of offers p))) (frontier_of bounds bound)) whole h)

-- ---- discarded

pub resends : (flow : Dataflow) (q p : ℕ) (c : Bool) → can_resend (policy_of flow q) ≡ c → q ≡ p → can_resend (policy_of flow p) ≡ c
resends flow q p c r e = sym (ap (λ x. can_resend (policy_of flow x)) e) ∙ r

pub discarded_by : (flow : Dataflow) (offers : List Offer) (e q : ℕ) (f : Front) (g : Frontier) (b : Bool) (way : Restoring) → can_resend (policy_of flow q) ≡ false → q ≡ sender flow e
    → way ≡ way_of flow q → ((b ≡ true) ↔ Within (discarded_at flow e way (sent_in flow offers e way (At f)) f) g)
    → (b ≡ true) ↔ Within ((covers_of flow offers).discarded e (At f)) g
discarded_by flow offers e q f g b way r l m h =
    subst (λ l. (b ≡ true) ↔ Within l g) (sym (cond-false (can_resend (policy_of flow (sender flow e))) nothing _ (resends flow q (sender flow e) false r l)))
    (subst (λ w. (b ≡ true) ↔ Within (discarded_at flow e w (sent_in flow offers e w (At f)) f) g) (way-at flow q (sender flow e) way l m) h)

pub discarded_by_records : (flow : Dataflow) (offers : List Offer) (e q : ℕ) (f : Front) (g : Frontier) (b : Bool) (r : Option Recorded) → can_resend (policy_of flow q) ≡ false → q ≡ sender flow e
    → Checkpoints ≡ way_of flow q → IsRecordAt flow offers (sender flow e) f r
    → ((b ≡ true) ↔ Within (recorded_left (bounds_of flow (receiver flow e)) (Discarded e) r) g)
    → (b ≡ true) ↔ Within ((covers_of flow offers).discarded e (At f)) g
discarded_by_records flow offers e q f g b r n l m at h =
    discarded_by flow offers e q f g b Checkpoints n l m
    (subst (λ x. (b ≡ true) ↔ Within (recorded_left (bounds_of flow (receiver flow e)) (Discarded e) x) g) (at (sym (way-at flow q (sender flow e) Checkpoints l m))) h)

pub discarded_by_psi : (flow : Dataflow) (offers : List Offer) (e q : ℕ) (f s : Front) (g : Frontier) (b : Bool) → can_resend (policy_of flow q) ≡ false → q ≡ sender flow e
    → Anything ≡ way_of flow q → IsFrontOf (bounds_of flow (receiver flow e)) s (psi flow e (frontier_of (bounds_of flow (sender flow e)) f))
    → ((b ≡ true) ↔ Within (frontier_of (bounds_of flow (receiver flow e)) s) g)
    → (b ≡ true) ↔ Within ((covers_of flow offers).discarded e (At f)) g
discarded_by_psi flow offers e q f s g b r l m n h =
    discarded_by flow offers e q f g b Anything r l m
    (λ a t c. h.0 a t (n.same t ∙ c), λ w. h.1 (λ t c. w t (sym (n.same t) ∙ c)))

pub discarded_present : (flow : Dataflow) (offers : List Offer) (e q : ℕ) (all : Front) (g : Frontier) (b : Bool) → can_resend (policy_of flow q) ≡ false → q ≡ sender flow e → all ≡ []
    → ((b ≡ true) ↔ Within (cover (bounds_of flow (receiver flow e)) (stamps_on_from e (frontier_of (bounds_of flow (sender flow e)) all) (offered_sent offers (sender flow e)))) g)
    → (b ≡ true) ↔ Within ((covers_of flow offers).discarded e Present) g
discarded_present flow offers e q all g b r l a h =
    let bounds = bounds_of flow (sender flow e) in
    let whole : frontier_of bounds all ≡ everything bounds = ap (frontier_of bounds) a ∙ all_is_everything bounds in
    subst (λ l. (b ≡ true) ↔ Within l g) (sym (cond-false (can_resend (policy_of flow (sender flow e))) nothing _ (resends flow q (sender flow e) false r l)))
    (subst (λ w. (b ≡ true) ↔ Within (cover (bounds_of flow (receiver flow e)) (stamps_on_from e w (offered_sent offers (sender flow e)))) g) whole h)

-- ---- a range

-- a node that offers a range is not restored by records
pub unlisted : (way : Restoring) (x : Offered) → offered_range x ≢ None → IsFormOf way x → is_by_records way ≡ false
unlisted way (form.Listed records) n fits = absurd (n refl)
unlisted way (form.Between least greatest) n fits = by way fits
  where
    by : (way : Restoring) → is_by_range way ≡ true → is_by_records way ≡ false
    by Batches k = refl
    by Bound k = refl
    by Anything k = refl
    by Checkpoints k = absurd (cc)
    by Events k = refl
unlisted way (form.Batches least greatest exhausted) n fits = ap is_by_records fits

-- and what it sent comes from one event each, where it is a source
of_batches : (x : Offered) (ms : List Counted) → offered_range x ≢ None → IsFormOf Batches x → AreOfBatches x ms → AllByRecursion HasOneCause ms
of_batches (form.Listed records) ms n fits a = absurd (n refl)
of_batches (form.Between least greatest) ms n fits a = absurd (cc)
of_batches (form.Batches least greatest exhausted) ms n fits a = a

-- each message of a source that offers batches has one cause
pub one_cause_each : (flow : Dataflow) (offers : List Offer) (e q : ℕ) → AreOffersOf flow offers → IsWellFormed flow → e < length flow.edges → q ≡ sender flow e → Batches ≡ way_of flow q
    → range_of offers (sender flow e) ≢ None → AllByRecursion HasOneCause (counted_on_edge e (offered_sent offers q))
one_cause_each flow offers e q a well l m way some =
    let p = sender flow e in
    let here : Batches ≡ way_of flow p = way ∙ ap (λ x. way_of flow x) m in
    subst (λ x. AllByRecursion HasOneCause (counted_on_edge e (offered_sent offers x))) (sym m)
    (of_batches (offered_by offers p) (counted_on_edge e (offered_sent offers p)) some
    (subst (λ w. IsFormOf w (offered_by offers p)) (sym here) (a.form_fits p (well.senders_declared e l))) (a.batches e l))
