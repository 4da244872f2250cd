-- What is offered by what is known above a floor is what the machine offers, but perhaps without what counts of the floor.
use Rattle.std.proofs.Common.{◌≡◌, inl, inr, ℕ, ◌<◌, Bool, true, false, not, cond, ◌&&◌, List, length, map, refl, sym, ◌∙◌, ap, subst}
use Rattle.std.specs.Prelude.{filter}
use Rattle.std.specs.List.{flat_map}
use Rattle.std.proofs.lemmas.Bool.{cases_Bool, cond_both, or_cases, or_left, or_right}
use Rattle.fw_lemmas.proofs.Bools.{two_ways}
use Rattle.fw_lemmas.proofs.Each.{each-map, each-filter}
use Rattle.fw_time.specs.Stamp.{Stamp}
use Rattle.fw_frontier.specs.Frontier.{Frontier, IsFrontier, Within, nothing, everything, cover, meet}
use Rattle.fw_frontier.specs.Front.{Front}
use Rattle.fw_frontier.proofs.NamesLaws.{frontier-closed}
use Rattle.fw_flow.specs.declared.choice.Counted.{Counted}
use Rattle.fw_flow.specs.declared.choice.Cut.{Cut}
use Rattle.fw_flow.specs.declared.choice.Cut.TheVariants.{Present, At}
use Rattle.fw_flow.specs.declared.choice.Offer.{Offer}
use Rattle.fw_flow.specs.declared.event.Message.{Message}
use Rattle.fw_flow.specs.declared.restoring.Restoring.{Restoring}
use Rattle.fw_flow.specs.declared.restoring.Restoring.TheVariants.{Batches, Bound, Anything, Checkpoints, Events}
use Rattle.fw_flow.specs.Dataflow.{System, Dataflow, kind_of, policy_of, sender, receiver, bounds_of, bounds_of_edge, is_notified_kind, is_sequence_kind, node_frontier}
use Rattle.fw_flow.specs.Projection.{all_inside, psi}
use Rattle.fw_flow.specs.Restoring.{can_resend, way_of}
use Rattle.fw_flow.specs.WellFormed.{IsWellFormed}
use Rattle.fw_model.proofs.KindSorts.{single-no_sequence, no_sequence-single}
use Rattle.fw_model.specs.Choice.{kept, cut_of, logged_history, AllLogged, IsRestorable}
use Rattle.fw_model.specs.Choosing.{choice_at}
use Rattle.fw_model.specs.Covers.{takes_its_cut, takes_its_notices, covers_in, stamp_of_notice, stamps_from, stamps_inside, notified_inside, discarded_at}
use Rattle.fw_model.specs.EventStamps.{base_of_sent, tells_sent, StandForSent, AreStampsIf, AreStampsOf}
use Rattle.fw_model.specs.History.{delivered_messages, sent_messages}
use Rattle.fw_model.specs.Machine.{Machine, events, front_of}
use Rattle.fw_model.specs.Offers.{notified_of, delivered_to, offered_sent, IsOffered, stamps_on, stamps_on_from, counted_on_edge, delivered_in, sent_in, notified_in, recorded_delivered, recorded_discarded, recorded_notified, covers_of, AreOffersAbove}
use Rattle.fw_model.specs.Poorer.{IsPoorer}
use Rattle.fw_model.specs.Sending.{is_single_kind, SendsByStamp}
use Rattle.fw_model.specs.Writes.{takes_checkpoints}
use Rattle.fw_model.proofs.AskedLaws.{takes-restoring}
use Rattle.fw_model.proofs.ChoiceLaws.{by_batches-input}
use Rattle.fw_model.proofs.DomainLaws.{edge-bounds}
use Rattle.fw_model.proofs.FloorLaws.{floor_cut, floor-consistent}
use Rattle.fw_model.proofs.FrontierLaws.{psi-frontier}
use Rattle.fw_model.proofs.SendsLaws.{sent_from_inside-inside_psi}
use Rattle.fw_model.proofs.SentStandLaws.{cover-from, sent_outside-covers}
use Rattle.fw_model.proofs.ThinnedLaws.{outside-covers, cover-weaker, cover-inside, cover-each}
use Rattle.fw_model.proofs.WellFormedLaws.{senders_well_formed}
use Rattle.fw_keep.specs.declared.entry.Entry.{Entry}
use Rattle.fw_policy.specs.declared.view.NodeView.{NodeView}
use Rattle.fw_policy.specs.Offering.{AreOffersBy}
use Rattle.fw_policy.specs.View.{base_of, IsViewOf}
use Rattle.fw_policy.proofs.FailedLaws.{TellsEnough, known-there, known-batches, known-events, known-among, enough-thinned, enough-logged, enough-none, delivered-logged, notices-logged, no-notices}
use Rattle.fw_policy.proofs.OfferLaws.{Offers, AreOffersKnown, IsWholeView, are-there, delivered-is, notified-is, sent-is, base-domain, record-offered, delivered-thinned, notified-thinned, told-base, sent-everything, filter-split, arrived-same, offered-same, of_flow, offers-ascend}
use Rattle.fw_policy.proofs.WayLaws.{bound-output, output-not_notified, anything-not_notified, no-output, checkpoints-take, events-full}

-- ---- poorer frontiers

-- a frontier is as poor as itself
poorer-equal : (x y z : Frontier) → x ≡ y → IsPoorer x y z
poorer-equal x y z e = record {
  within = λ t i. subst (λ (g : Frontier). g t ≡ true) e i;
  rest = λ t i. or_left (x t) (z t) (subst (λ (g : Frontier). g t ≡ true) (sym e) i);
}

-- more may be missing
poorer-more : (poor rich floor more : Frontier) → Within floor more → IsPoorer poor rich floor → IsPoorer poor rich more
poorer-more poor rich floor more w a = record {
  within = a.within;
  rest = λ t i. elim (or_cases (poor t) (floor t) (a.rest t i)) [
    | inl k ↦ or_left (poor t) (more t) k
    | inr k ↦ or_right (poor t) (more t) (w t k)
  ];
}

poorer-along : (p q r s floor : Frontier) → p ≡ q → r ≡ s → IsPoorer q s floor → IsPoorer p r floor
poorer-along p q r s floor e d a = subst (λ x. IsPoorer x r floor) (sym e) (subst (λ y. IsPoorer q y floor) (sym d) a)

-- ---- the floor of a node

-- the base of a node that takes no checkpoints is the floor
base-floor : (sys : System) (floor : List Front) (state : Machine) (p : ℕ) → IsWellFormed sys.flow → p < length sys.flow.nodes → (way_of sys.flow p ≡ Checkpoints → ⊥)
    → Within (base_of sys floor state p) (node_frontier sys.flow p (front_of floor p))
base-floor sys floor state p w l n =
    let f = node_frontier sys.flow p (front_of floor p) in
    cond_both (takes_checkpoints (policy_of sys.flow p)) (node_frontier sys.flow p (front_of state.settled p)) f (λ g. Within g f)
    (λ e. absurd (n (takes-restoring (kind_of sys.flow p) (policy_of sys.flow p) (w.policies p l) e)))
    (λ e t i. i)

-- what was delivered inside the floor counts of it
delivered-floor : (sys : System) (state : Machine) (d : ℕ) (f : Front)
    → Within (cover (bounds_of sys.flow (receiver sys.flow d)) (stamps_inside (node_frontier sys.flow (receiver sys.flow d) f) (delivered_messages (events state.history) d)))
    ((covers_in sys state).delivered d (At f))
delivered-floor sys state d f =
    let p = receiver sys.flow d in
    let b = bounds_of sys.flow p in
    let g = node_frontier sys.flow p f in
    let all = stamps_inside g (delivered_messages (events state.history) d) in
    cond_both (takes_its_cut (way_of sys.flow p)) g (cover b all) (λ x. Within (cover b all) x)
    (λ e. cover-inside b g (frontier-closed b f) (map (λ (m : Message). m.at) (delivered_messages (events state.history) d)))
    (λ e t i. i)

notified-floor : (sys : System) (state : Machine) (p : ℕ) (f : Front)
    → Within (cover (bounds_of sys.flow p) (notified_inside p (node_frontier sys.flow p f) (events state.history))) ((covers_in sys state).notified p (At f))
notified-floor sys state p f =
    let b = bounds_of sys.flow p in
    let g = node_frontier sys.flow p f in
    let all = notified_inside p g (events state.history) in
    cond_both (takes_its_notices (kind_of sys.flow p) (policy_of sys.flow p)) g (cover b all) (λ x. Within (cover b all) x)
    (λ e. cover-inside b g (frontier-closed b f) (flat_map (stamp_of_notice p) (events state.history)))
    (λ e t i. i)

-- a frontier of an edge's domain is one of its receiver's
edge-frontier : (flow : Dataflow) → IsWellFormed flow → (e : ℕ) (g : Frontier) → IsFrontier (bounds_of_edge flow e) g → IsFrontier (bounds_of flow (receiver flow e)) g
edge-frontier flow w e g f = record {
  inside_domain = λ t i. sym (edge-bounds flow w e t) ∙ f.inside_domain t i;
  closed = λ s t d l i. f.closed s t (edge-bounds flow w e s ∙ d) l i;
}

-- what was sent from inside the floor lies inside psi of it
sent-psi : (sys : System) (state : Machine) (e : ℕ) (f : Front) → IsWellFormed sys.flow → SendsByStamp sys.flow (kind_of sys.flow (sender sys.flow e))
    → Within (cover (bounds_of sys.flow (receiver sys.flow e)) (stamps_from (node_frontier sys.flow (sender sys.flow e) f) (sent_messages sys (events state.history) e)))
    (psi sys.flow e (node_frontier sys.flow (sender sys.flow e) f))
sent-psi sys state e f w s =
    let p = sender sys.flow e in
    let g = node_frontier sys.flow p f in
    let closed = frontier-closed (bounds_of sys.flow p) f in
    let ms = sent_messages sys (events state.history) e in
    cover-each (bounds_of sys.flow (receiver sys.flow e)) (psi sys.flow e g) (edge-frontier sys.flow w e (psi sys.flow e g) (psi-frontier sys.flow e g closed)) (stamps_from g ms)
    (each-map (λ t. psi sys.flow e g t ≡ true) (λ (m : Message). m.at) (filter (λ (m : Message). all_inside g m.causes) ms)
    (each-filter (λ (m : Message). psi sys.flow e g m.at ≡ true) (λ (m : Message). all_inside g m.causes) ms
    (sent_from_inside-inside_psi sys (events state.history) e g s closed)))

discarded-floor : (sys : System) (state : Machine) (e : ℕ) (f : Front) → IsWellFormed sys.flow → e < length sys.flow.edges
    → is_sequence_kind (kind_of sys.flow (sender sys.flow e)) ≡ false → can_resend (policy_of sys.flow (sender sys.flow e)) ≡ false
    → Within (cover (bounds_of sys.flow (receiver sys.flow e)) (stamps_from (node_frontier sys.flow (sender sys.flow e) f) (sent_messages sys (events state.history) e)))
    ((covers_in sys state).discarded e (At f))
discarded-floor sys state e f w l n r =
    let p = sender sys.flow e in
    let all = cover (bounds_of sys.flow (receiver sys.flow e)) (stamps_from (node_frontier sys.flow p f) (sent_messages sys (events state.history) e)) in
    subst (λ c. Within all (cond c nothing (discarded_at sys.flow e (way_of sys.flow p) all f))) (sym r) (by (way_of sys.flow p))
  where
    all : Frontier
    all = cover (bounds_of sys.flow (receiver sys.flow e)) (stamps_from (node_frontier sys.flow (sender sys.flow e) f) (sent_messages sys (events state.history) e))

    by : (way : Restoring) → Within all (discarded_at sys.flow e way all f)
    by Anything = elim (senders_well_formed sys.flow w e l) [
      | inl s ↦ absurd (two_ways (is_sequence_kind (kind_of sys.flow (sender sys.flow e))) (ap is_sequence_kind s) n)
      | inr s ↦ sent-psi sys state e f w s
    ]
    by way = λ t i. i

-- ---- what is known

-- of a node that offers its state as it is all is known, since it did not fail
known-present : (sys : System) (state : Machine) (lost : ℕ → Bool) (floor : List Front) (entries : List Entry) (offers : List Offer) (a : AreOffersKnown sys state lost floor entries offers)
    (p : ℕ) (l : p < length sys.flow.nodes) → IsOffered sys.flow offers p Present → AreStampsOf sys (events state.history) p (base_of sys floor state p) (a.each p l).node.stamps
known-present sys state lost floor entries offers a p l i =
    let o = a.each p l in
    known-there sys floor state p o.node.stamps (lost p) o.known.stamps ((offered-same sys state lost floor entries offers a p l Present).0 i)

-- of one with checkpoints the whole is
whole-checkpoints : (sys : System) (state : Machine) (lost : ℕ → Bool) (floor : List Front) (entries : List Entry) (offers : List Offer) (a : AreOffersKnown sys state lost floor entries offers)
    (p : ℕ) (l : p < length sys.flow.nodes) → IsOffered sys.flow offers p Present → way_of sys.flow p ≡ Checkpoints → IsWholeView sys state floor p (a.each p l).node
whole-checkpoints sys state lost floor entries offers a p l i e =
    subst (λ w. AreStampsIf w sys (events state.history) p (base_of sys floor state p) (a.each p l).node.stamps) (checkpoints-take (kind_of sys.flow p) (policy_of sys.flow p) e)
    (known-present sys state lost floor entries offers a p l i)

-- what a node that logs its events offers is logged
offered-logged : (sys : System) (state : Machine) (lost : ℕ → Bool) (floor : List Front) (entries : List Entry) (offers : List Offer) → AreOffersKnown sys state lost floor entries offers
    → (p : ℕ) → p < length sys.flow.nodes → (f : Front) → IsOffered sys.flow offers p (At f) → way_of sys.flow p ≡ Events
    → AllLogged sys p (node_frontier sys.flow p f) state.writes state.history
offered-logged sys state lost floor entries offers a p l f i e =
    (subst (λ way. IsRestorable sys state kept p way f) e ((offered-same sys state lost floor entries offers a p l (At f)).0 i).1).1

-- ---- the counts

-- what was delivered on edge d, as the machine has it
abbrev delivered_in_all : Machine → ℕ → List Stamp
delivered_in_all state d = map (λ (m : Message). m.at) (delivered_messages (events state.history) d)

-- of what was delivered on edge d enough is known for a set f
abbrev IsDeliveredEnough : System → Machine → List Front → ℕ → Frontier → NodeView → Type 0
IsDeliveredEnough sys state floor d f node =
    TellsEnough f (node_frontier sys.flow (receiver sys.flow d) (front_of floor (receiver sys.flow d))) (delivered_in_all state d) (stamps_on d node.stamps.delivered)

delivered-enough : (sys : System) (state : Machine) (lost : ℕ → Bool) (floor : List Front) (entries : List Entry) (offers : List Offer) (a : AreOffersKnown sys state lost floor entries offers)
    (d : ℕ) (l : d < length sys.flow.edges) → (way_of sys.flow (receiver sys.flow d) ≡ Checkpoints → ⊥) → (f : Frontier)
    → AreStampsOf sys (events state.history) (receiver sys.flow d) (base_of sys floor state (receiver sys.flow d)) (a.each (receiver sys.flow d) (a.well_formed.flow.receivers_declared d l)).node.stamps
    → IsDeliveredEnough sys state floor d f (a.each (receiver sys.flow d) (a.well_formed.flow.receivers_declared d l)).node
delivered-enough sys state lost floor entries offers a d l n f k =
    let p = receiver sys.flow d in
    let there = a.well_formed.flow.receivers_declared d l in
    enough-thinned (takes_checkpoints (policy_of sys.flow p)) f (node_frontier sys.flow p (front_of floor p)) (base_of sys floor state p) (delivered_in_all state d)
    (stamps_on d (a.each p there).node.stamps.delivered) (k.delivered d refl) (base-floor sys floor state p a.well_formed.flow there n)

outside-delivered : (sys : System) (state : Machine) (lost : ℕ → Bool) (floor : List Front) (entries : List Entry) (offers : List Offer) (a : AreOffersKnown sys state lost floor entries offers)
    (d : ℕ) (l : d < length sys.flow.edges) (f : Frontier)
    → IsDeliveredEnough sys state floor d f (a.each (receiver sys.flow d) (a.well_formed.flow.receivers_declared d l)).node
    → IsPoorer (cover (bounds_of sys.flow (receiver sys.flow d)) (filter f (stamps_on d (delivered_to offers (receiver sys.flow d)))))
    (cover (bounds_of sys.flow (receiver sys.flow d)) (stamps_inside f (delivered_messages (events state.history) d)))
    ((covers_in sys state).delivered d (At (front_of floor (receiver sys.flow d))))
outside-delivered sys state lost floor entries offers a d l f k =
    let p = receiver sys.flow d in
    let b = bounds_of sys.flow p in
    let o = a.each p (a.well_formed.flow.receivers_declared d l) in
    let all = delivered_in_all state d in
    let mine = stamps_on d o.node.stamps.delivered in
    let g = node_frontier sys.flow p (front_of floor p) in
    let below = (covers_in sys state).delivered d (At (front_of floor p)) in
    subst (λ (ms : List Counted). IsPoorer (cover b (filter f (stamps_on d ms))) (cover b (filter f all)) below) (sym (delivered-is sys state lost floor entries offers p o))
    (poorer-more (cover b (filter f mine)) (cover b (filter f all)) (cover b (filter (meet f k.base) all)) below
    (λ t i. delivered-floor sys state d (front_of floor p) t (cover-weaker b (meet f k.base) g all k.within t i))
    (outside-covers b k.base all mine k.thinned f))

delivered-poorer : (sys : System) (state : Machine) (lost : ℕ → Bool) (floor : List Front) (entries : List Entry) (offers : List Offer) → AreOffersKnown sys state lost floor entries offers
    → (d : ℕ) → d < length sys.flow.edges → (cut : Cut) → IsOffered sys.flow offers (receiver sys.flow d) cut
    → IsPoorer ((covers_of sys.flow offers).delivered d cut) ((covers_in sys state).delivered d cut) ((covers_in sys state).delivered d (At (front_of floor (receiver sys.flow d))))
delivered-poorer sys state lost floor entries offers a d l Present i = by (way_of sys.flow (receiver sys.flow d)) refl
  where
    p : ℕ
    p = receiver sys.flow d

    all : Frontier
    all = everything (bounds_of sys.flow (receiver sys.flow d))

    there : (way_of sys.flow (receiver sys.flow d) ≡ Checkpoints → ⊥)
        → IsPoorer ((covers_of sys.flow offers).delivered d Present) ((covers_in sys state).delivered d Present) ((covers_in sys state).delivered d (At (front_of floor (receiver sys.flow d))))
    there n = outside-delivered sys state lost floor entries offers a d l all
        (delivered-enough sys state lost floor entries offers a d l n all (known-present sys state lost floor entries offers a p (a.well_formed.flow.receivers_declared d l) i))

    by : (way : Restoring) → way_of sys.flow (receiver sys.flow d) ≡ way
        → IsPoorer ((covers_of sys.flow offers).delivered d Present) ((covers_in sys state).delivered d Present) ((covers_in sys state).delivered d (At (front_of floor (receiver sys.flow d))))
    by Checkpoints e = poorer-equal ((covers_of sys.flow offers).delivered d Present) ((covers_in sys state).delivered d Present) ((covers_in sys state).delivered d (At (front_of floor p)))
        (delivered-thinned sys state lost floor entries offers a d l (whole-checkpoints sys state lost floor entries offers a p (a.well_formed.flow.receivers_declared d l) i e) all (λ t k. base-domain sys floor state p t k))
    by Batches e = there (λ c. let x : Batches ≡ Checkpoints = sym e ∙ c in cc)
    by Bound e = there (λ c. let x : Bound ≡ Checkpoints = sym e ∙ c in cc)
    by Anything e = there (λ c. let x : Anything ≡ Checkpoints = sym e ∙ c in cc)
    by Events e = there (λ c. let x : Events ≡ Checkpoints = sym e ∙ c in cc)
delivered-poorer sys state lost floor entries offers a d l (At f) i = by (way_of sys.flow (receiver sys.flow d)) refl
  where
    p : ℕ
    p = receiver sys.flow d

    g : Frontier
    g = node_frontier sys.flow (receiver sys.flow d) f

    below : Frontier
    below = (covers_in sys state).delivered d (At (front_of floor (receiver sys.flow d)))

    ours : Restoring → Frontier
    ours way = cond (takes_its_cut way) (node_frontier sys.flow (receiver sys.flow d) f) (delivered_in sys.flow offers d way (At f))

    theirs : Restoring → Frontier
    theirs way = cond (takes_its_cut way) (node_frontier sys.flow (receiver sys.flow d) f)
        (cover (bounds_of sys.flow (receiver sys.flow d)) (stamps_inside (node_frontier sys.flow (receiver sys.flow d) f) (delivered_messages (events state.history) d)))

    ps : receiver sys.flow d < length sys.flow.nodes
    ps = a.well_formed.flow.receivers_declared d l

    o : Offers sys state lost floor entries offers (receiver sys.flow d)
    o = a.each (receiver sys.flow d) (a.well_formed.flow.receivers_declared d l)

    enough : (way_of sys.flow (receiver sys.flow d) ≡ Checkpoints → ⊥)
        → AreStampsOf sys (events state.history) (receiver sys.flow d) (base_of sys floor state (receiver sys.flow d)) (a.each (receiver sys.flow d) (a.well_formed.flow.receivers_declared d l)).node.stamps
        → IsPoorer (cover (bounds_of sys.flow (receiver sys.flow d)) (filter g (stamps_on d (delivered_to offers (receiver sys.flow d)))))
        (cover (bounds_of sys.flow (receiver sys.flow d)) (stamps_inside g (delivered_messages (events state.history) d))) below
    enough n k = outside-delivered sys state lost floor entries offers a d l g (delivered-enough sys state lost floor entries offers a d l n g k)

    along : (way : Restoring) → way_of sys.flow (receiver sys.flow d) ≡ way → IsPoorer (ours way) (theirs way) below
        → IsPoorer (ours (way_of sys.flow (receiver sys.flow d))) (theirs (way_of sys.flow (receiver sys.flow d))) below
    along way e k = subst (λ w. IsPoorer (ours w) (theirs w) below) (sym e) k

    by : (way : Restoring) → way_of sys.flow (receiver sys.flow d) ≡ way
        → IsPoorer (ours (way_of sys.flow (receiver sys.flow d))) (theirs (way_of sys.flow (receiver sys.flow d))) below
    by Batches e = along Batches e (enough (λ c. let x : Batches ≡ Checkpoints = sym e ∙ c in cc) (known-batches sys floor state p o.node.stamps (lost p) o.known.stamps e))
    by Bound e = along Bound e (poorer-equal g g below refl)
    by Anything e = along Anything e (poorer-equal g g below refl)
    by Checkpoints e =
        let k = record-offered sys state lost floor entries offers a p (a.well_formed.flow.receivers_declared d l) f i e in
        poorer-equal (ours (way_of sys.flow p)) (theirs (way_of sys.flow p)) below
        (ap ours e ∙ ap (recorded_delivered (bounds_of sys.flow p) d) k.at ∙ k.holds.delivered d l refl ∙ ap (λ (h : Front). (covers_in sys state).delivered d (At h)) k.front)
    by Events e =
        let n : way_of sys.flow p ≡ Checkpoints → ⊥ = λ c. let x : Events ≡ Checkpoints = sym e ∙ c in cc in
        along Events e (elim (known-events sys floor state p o.node.stamps (lost p) o.known.stamps e) [
          | inl k ↦ enough n k
          | inr k ↦ outside-delivered sys state lost floor entries offers a d l g
              (enough-logged g (node_frontier sys.flow p (front_of floor p)) (base_of sys floor state p) (delivered_in_all state d)
              (map (λ (m : Message). m.at) (delivered_messages (logged_history sys state p) d)) (stamps_on d o.node.stamps.delivered) (k.delivered d refl)
              (delivered-logged sys state d p refl g (offered-logged sys state lost floor entries offers a p ps f i e))
              (base-floor sys floor state p a.well_formed.flow ps n))
        ])

-- of what node p was notified enough is known for a set f
abbrev IsNotifiedEnough : System → Machine → List Front → ℕ → Frontier → NodeView → Type 0
IsNotifiedEnough sys state floor p f node =
    TellsEnough f (node_frontier sys.flow p (front_of floor p)) (flat_map (stamp_of_notice p) (events state.history)) node.stamps.notified

notified-enough : (sys : System) (state : Machine) (lost : ℕ → Bool) (floor : List Front) (entries : List Entry) (offers : List Offer) (a : AreOffersKnown sys state lost floor entries offers)
    (p : ℕ) (l : p < length sys.flow.nodes) → (way_of sys.flow p ≡ Checkpoints → ⊥) → (f : Frontier)
    → AreStampsOf sys (events state.history) p (base_of sys floor state p) (a.each p l).node.stamps → IsNotifiedEnough sys state floor p f (a.each p l).node
notified-enough sys state lost floor entries offers a p l n f k =
    enough-thinned (takes_checkpoints (policy_of sys.flow p)) f (node_frontier sys.flow p (front_of floor p)) (base_of sys floor state p) (flat_map (stamp_of_notice p) (events state.history))
    (a.each p l).node.stamps.notified k.notified (base-floor sys floor state p a.well_formed.flow l n)

-- and it is, where the node is of a kind that is not notified
none-enough : (sys : System) (state : Machine) (lost : ℕ → Bool) (floor : List Front) (entries : List Entry) (offers : List Offer) (a : AreOffersKnown sys state lost floor entries offers)
    (p : ℕ) (l : p < length sys.flow.nodes) → is_notified_kind (kind_of sys.flow p) ≡ false → (f : Frontier) → IsNotifiedEnough sys state floor p f (a.each p l).node
none-enough sys state lost floor entries offers a p l n f =
    let o = a.each p l in
    enough-none f (node_frontier sys.flow p (front_of floor p)) (flat_map (stamp_of_notice p) (events state.history)) o.node.stamps.notified
    (no-notices sys (events state.history) p a.legal n) (known-among sys floor state p o.node.stamps (lost p) o.known.stamps)

outside-notified : (sys : System) (state : Machine) (lost : ℕ → Bool) (floor : List Front) (entries : List Entry) (offers : List Offer) (a : AreOffersKnown sys state lost floor entries offers)
    (p : ℕ) (l : p < length sys.flow.nodes) (f : Frontier) → IsNotifiedEnough sys state floor p f (a.each p l).node
    → IsPoorer (cover (bounds_of sys.flow p) (filter f (notified_of offers p))) (cover (bounds_of sys.flow p) (notified_inside p f (events state.history)))
    ((covers_in sys state).notified p (At (front_of floor p)))
outside-notified sys state lost floor entries offers a p l f k =
    let b = bounds_of sys.flow p in
    let o = a.each p l in
    let all = flat_map (stamp_of_notice p) (events state.history) in
    let mine = o.node.stamps.notified in
    let g = node_frontier sys.flow p (front_of floor p) in
    let below = (covers_in sys state).notified p (At (front_of floor p)) in
    subst (λ (ts : List Stamp). IsPoorer (cover b (filter f ts)) (cover b (filter f all)) below) (sym (notified-is sys state lost floor entries offers p o))
    (poorer-more (cover b (filter f mine)) (cover b (filter f all)) (cover b (filter (meet f k.base) all)) below
    (λ t i. notified-floor sys state p (front_of floor p) t (cover-weaker b (meet f k.base) g all k.within t i))
    (outside-covers b k.base all mine k.thinned f))

notified-poorer : (sys : System) (state : Machine) (lost : ℕ → Bool) (floor : List Front) (entries : List Entry) (offers : List Offer) → AreOffersKnown sys state lost floor entries offers
    → (p : ℕ) → p < length sys.flow.nodes → (cut : Cut) → IsOffered sys.flow offers p cut
    → IsPoorer ((covers_of sys.flow offers).notified p cut) ((covers_in sys state).notified p cut) ((covers_in sys state).notified p (At (front_of floor p)))
notified-poorer sys state lost floor entries offers a p l Present i = by (way_of sys.flow p) refl
  where
    all : Frontier
    all = everything (bounds_of sys.flow p)

    there : (way_of sys.flow p ≡ Checkpoints → ⊥)
        → IsPoorer ((covers_of sys.flow offers).notified p Present) ((covers_in sys state).notified p Present) ((covers_in sys state).notified p (At (front_of floor p)))
    there n = outside-notified sys state lost floor entries offers a p l all
        (notified-enough sys state lost floor entries offers a p l n all (known-present sys state lost floor entries offers a p l i))

    by : (way : Restoring) → way_of sys.flow p ≡ way
        → IsPoorer ((covers_of sys.flow offers).notified p Present) ((covers_in sys state).notified p Present) ((covers_in sys state).notified p (At (front_of floor p)))
    by Checkpoints e = poorer-equal ((covers_of sys.flow offers).notified p Present) ((covers_in sys state).notified p Present) ((covers_in sys state).notified p (At (front_of floor p)))
        (notified-thinned sys state lost floor entries offers a p l (whole-checkpoints sys state lost floor entries offers a p l i e) all (λ t k. base-domain sys floor state p t k))
    by Batches e = there (λ c. let x : Batches ≡ Checkpoints = sym e ∙ c in cc)
    by Bound e = there (λ c. let x : Bound ≡ Checkpoints = sym e ∙ c in cc)
    by Anything e = there (λ c. let x : Anything ≡ Checkpoints = sym e ∙ c in cc)
    by Events e = there (λ c. let x : Events ≡ Checkpoints = sym e ∙ c in cc)
notified-poorer sys state lost floor entries offers a p l (At f) i = elim (cases_Bool (takes_its_notices (kind_of sys.flow p) (policy_of sys.flow p))) [
  | inl e ↦ subst (λ c. IsPoorer (cond c g (ours (way_of sys.flow p))) (cond c g theirs) below) (sym e) (poorer-equal g g below refl)
  | inr e ↦ subst (λ c. IsPoorer (cond c g (ours (way_of sys.flow p))) (cond c g theirs) below) (sym e) (by (way_of sys.flow p) refl e)
]
  where
    g : Frontier
    g = node_frontier sys.flow p f

    below : Frontier
    below = (covers_in sys state).notified p (At (front_of floor p))

    ours : Restoring → Frontier
    ours way = notified_in sys.flow offers p way (At f)

    theirs : Frontier
    theirs = cover (bounds_of sys.flow p) (notified_inside p (node_frontier sys.flow p f) (events state.history))

    o : Offers sys state lost floor entries offers p
    o = a.each p l

    enough : (way_of sys.flow p ≡ Checkpoints → ⊥) → AreStampsOf sys (events state.history) p (base_of sys floor state p) (a.each p l).node.stamps
        → IsPoorer (cover (bounds_of sys.flow p) (filter g (notified_of offers p))) theirs below
    enough n k = outside-notified sys state lost floor entries offers a p l g (notified-enough sys state lost floor entries offers a p l n g k)

    none : is_notified_kind (kind_of sys.flow p) ≡ false → IsPoorer (cover (bounds_of sys.flow p) (filter g (notified_of offers p))) theirs below
    none n = outside-notified sys state lost floor entries offers a p l g (none-enough sys state lost floor entries offers a p l n g)

    along : (way : Restoring) → way_of sys.flow p ≡ way → IsPoorer (ours way) theirs below → IsPoorer (ours (way_of sys.flow p)) theirs below
    along way e k = subst (λ w. IsPoorer (ours w) theirs below) (sym e) k

    by : (way : Restoring) → way_of sys.flow p ≡ way → takes_its_notices (kind_of sys.flow p) (policy_of sys.flow p) ≡ false → IsPoorer (ours (way_of sys.flow p)) theirs below
    by Batches e n = along Batches e (enough (λ c. let x : Batches ≡ Checkpoints = sym e ∙ c in cc) (known-batches sys floor state p o.node.stamps (lost p) o.known.stamps e))
    by Bound e n = along Bound e (none (output-not_notified (kind_of sys.flow p) (bound-output (kind_of sys.flow p) (policy_of sys.flow p) e)))
    by Anything e n = along Anything e (none (anything-not_notified (kind_of sys.flow p) (policy_of sys.flow p) e n))
    by Checkpoints e n =
        let k = record-offered sys state lost floor entries offers a p l f i e in
        poorer-equal (ours (way_of sys.flow p)) theirs below
        (ap ours e ∙ ap (recorded_notified (bounds_of sys.flow p)) k.at ∙ k.holds.notified
        ∙ ap (λ (h : Front). (covers_in sys state).notified p (At h)) k.front
        ∙ ap (λ c. cond c (node_frontier sys.flow p f) theirs) n)
    by Events e n =
        let apart : way_of sys.flow p ≡ Checkpoints → ⊥ = λ c. let x : Events ≡ Checkpoints = sym e ∙ c in cc in
        along Events e (elim (known-events sys floor state p o.node.stamps (lost p) o.known.stamps e) [
          | inl k ↦ enough apart k
          | inr k ↦ outside-notified sys state lost floor entries offers a p l g
              (enough-logged g (node_frontier sys.flow p (front_of floor p)) (base_of sys floor state p) (flat_map (stamp_of_notice p) (events state.history))
              (flat_map (stamp_of_notice p) (logged_history sys state p)) o.node.stamps.notified k.notified
              (notices-logged sys state p g (offered-logged sys state lost floor entries offers a p l f i e))
              (base-floor sys floor state p a.well_formed.flow l apart))
        ])

outside-sent : (sys : System) (state : Machine) (lost : ℕ → Bool) (floor : List Front) (entries : List Entry) (offers : List Offer) (a : AreOffersKnown sys state lost floor entries offers)
    (e : ℕ) (l : e < length sys.flow.edges)
    → AreStampsOf sys (events state.history) (sender sys.flow e) (base_of sys floor state (sender sys.flow e)) (a.each (sender sys.flow e) (a.well_formed.flow.senders_declared e l)).node.stamps
    → (way_of sys.flow (sender sys.flow e) ≡ Checkpoints → ⊥)
    → is_single_kind (kind_of sys.flow (sender sys.flow e)) ≡ true → can_resend (policy_of sys.flow (sender sys.flow e)) ≡ false → (f : Frontier)
    → IsPoorer (cover (bounds_of sys.flow (receiver sys.flow e)) (stamps_on_from e f (offered_sent offers (sender sys.flow e))))
    (cover (bounds_of sys.flow (receiver sys.flow e)) (stamps_from f (sent_messages sys (events state.history) e)))
    ((covers_in sys state).discarded e (At (front_of floor (sender sys.flow e))))
outside-sent sys state lost floor entries offers a e l k n s r f =
    let p = sender sys.flow e in
    let b = bounds_of sys.flow (receiver sys.flow e) in
    let there = a.well_formed.flow.senders_declared e l in
    let o = a.each p there in
    let base = base_of sys floor state p in
    let ms = o.node.stamps.sent in
    let all = sent_messages sys (events state.history) e in
    let theirs = cover b (stamps_from f all) in
    let below = (covers_in sys state).discarded e (At (front_of floor p)) in
    let none : takes_checkpoints (policy_of sys.flow p) ≡ false = elim (cases_Bool (takes_checkpoints (policy_of sys.flow p))) [
      | inl takes ↦ absurd (n (takes-restoring (kind_of sys.flow p) (policy_of sys.flow p) (a.well_formed.flow.policies p there) takes))
      | inr lacks ↦ lacks
    ] in
    let stand : StandForSent false sys (events state.history) p base e (counted_on_edge e ms) =
    subst (λ g. StandForSent false sys (events state.history) p g e (counted_on_edge e ms)) (told-base sys.flow p base r)
    (subst (λ c. StandForSent (c && tells_sent sys.flow p) sys (events state.history) p (base_of_sent sys.flow p base) e (counted_on_edge e ms)) none (k.sent s e l refl)) in
    let poorer = sent_outside-covers sys (events state.history) e base (counted_on_edge e ms) s stand f b in
    subst (λ (xs : List Counted). IsPoorer (cover b (stamps_on_from e f xs)) theirs below) (sym (sent-is sys state lost floor entries offers p o))
    (subst (λ (xs : List Counted). IsPoorer (cover b (map (λ (m : Counted). m.at) xs)) theirs below) (sym (filter-split e f ms))
    (poorer-more _ theirs (cover b (stamps_from base all)) below
    (λ t i. discarded-floor sys state e (front_of floor p) a.well_formed.flow l (single-no_sequence (kind_of sys.flow p) s) r t
    (cover-from b base (node_frontier sys.flow p (front_of floor p)) all (base-floor sys floor state p a.well_formed.flow there n) t i))
    poorer))

sent-poorer : (sys : System) (state : Machine) (lost : ℕ → Bool) (floor : List Front) (entries : List Entry) (offers : List Offer) → AreOffersKnown sys state lost floor entries offers
    → (e : ℕ) → e < length sys.flow.edges → IsOffered sys.flow offers (sender sys.flow e) Present → can_resend (policy_of sys.flow (sender sys.flow e)) ≡ false
    → IsPoorer (cover (bounds_of sys.flow (receiver sys.flow e)) (stamps_on_from e (everything (bounds_of sys.flow (sender sys.flow e))) (offered_sent offers (sender sys.flow e))))
    (cover (bounds_of sys.flow (receiver sys.flow e)) (stamps_from (everything (bounds_of sys.flow (sender sys.flow e))) (sent_messages sys (events state.history) e)))
    ((covers_in sys state).discarded e (At (front_of floor (sender sys.flow e))))
sent-poorer sys state lost floor entries offers a e l i r = by (way_of sys.flow (sender sys.flow e)) refl
  where
    all : Frontier
    all = everything (bounds_of sys.flow (sender sys.flow e))

    ours : Frontier
    ours = cover (bounds_of sys.flow (receiver sys.flow e)) (stamps_on_from e all (offered_sent offers (sender sys.flow e)))

    theirs : Frontier
    theirs = cover (bounds_of sys.flow (receiver sys.flow e)) (stamps_from all (sent_messages sys (events state.history) e))

    below : Frontier
    below = (covers_in sys state).discarded e (At (front_of floor (sender sys.flow e)))

    known : AreStampsOf sys (events state.history) (sender sys.flow e) (base_of sys floor state (sender sys.flow e)) (a.each (sender sys.flow e) (a.well_formed.flow.senders_declared e l)).node.stamps
    known = known-present sys state lost floor entries offers a (sender sys.flow e) (a.well_formed.flow.senders_declared e l) i

    exact : (is_sequence_kind (kind_of sys.flow (sender sys.flow e)) ≡ false
        → IsWholeView sys state floor (sender sys.flow e) (a.each (sender sys.flow e) (a.well_formed.flow.senders_declared e l)).node) → IsPoorer ours theirs below
    exact whole = poorer-equal ours theirs below (sent-everything sys state lost floor entries offers a e l r (λ s. known.numbered s (ap not r) e l refl) whole)

    outside : (way_of sys.flow (sender sys.flow e) ≡ Checkpoints → ⊥) → IsPoorer ours theirs below
    outside n = elim (cases_Bool (is_sequence_kind (kind_of sys.flow (sender sys.flow e)))) [
      | inl s ↦ exact (λ n. absurd (two_ways (is_sequence_kind (kind_of sys.flow (sender sys.flow e))) s n))
      | inr s ↦ outside-sent sys state lost floor entries offers a e l known n (no_sequence-single (kind_of sys.flow (sender sys.flow e)) s) r all
    ]

    by : (way : Restoring) → way_of sys.flow (sender sys.flow e) ≡ way → IsPoorer ours theirs below
    by Checkpoints k = exact (λ s. whole-checkpoints sys state lost floor entries offers a (sender sys.flow e) (a.well_formed.flow.senders_declared e l) i k)
    by Batches k = outside (λ c. let x : Batches ≡ Checkpoints = sym k ∙ c in cc)
    by Bound k = outside (λ c. let x : Bound ≡ Checkpoints = sym k ∙ c in cc)
    by Anything k = outside (λ c. let x : Anything ≡ Checkpoints = sym k ∙ c in cc)
    by Events k = outside (λ c. let x : Events ≡ Checkpoints = sym k ∙ c in cc)

discarded-poorer : (sys : System) (state : Machine) (lost : ℕ → Bool) (floor : List Front) (entries : List Entry) (offers : List Offer) → AreOffersKnown sys state lost floor entries offers
    → (e : ℕ) → e < length sys.flow.edges → (cut : Cut) → IsOffered sys.flow offers (sender sys.flow e) cut
    → IsPoorer ((covers_of sys.flow offers).discarded e cut) ((covers_in sys state).discarded e cut) ((covers_in sys state).discarded e (At (front_of floor (sender sys.flow e))))
discarded-poorer sys state lost floor entries offers a e l Present i = elim (cases_Bool (can_resend (policy_of sys.flow (sender sys.flow e)))) [
  | inl r ↦ subst (λ c. IsPoorer (cond c nothing ours) (cond c nothing theirs) below) (sym r) (poorer-equal nothing nothing below refl)
  | inr r ↦ subst (λ c. IsPoorer (cond c nothing ours) (cond c nothing theirs) below) (sym r) (sent-poorer sys state lost floor entries offers a e l i r)
]
  where
    ours : Frontier
    ours = cover (bounds_of sys.flow (receiver sys.flow e)) (stamps_on_from e (everything (bounds_of sys.flow (sender sys.flow e))) (offered_sent offers (sender sys.flow e)))

    theirs : Frontier
    theirs = cover (bounds_of sys.flow (receiver sys.flow e)) (stamps_from (everything (bounds_of sys.flow (sender sys.flow e))) (sent_messages sys (events state.history) e))

    below : Frontier
    below = (covers_in sys state).discarded e (At (front_of floor (sender sys.flow e)))
discarded-poorer sys state lost floor entries offers a e l (At f) i = elim (cases_Bool (can_resend (policy_of sys.flow (sender sys.flow e)))) [
  | inl r ↦ subst (λ c. IsPoorer (cond c nothing (ours (way_of sys.flow (sender sys.flow e)))) (cond c nothing (theirs (way_of sys.flow (sender sys.flow e)))) below) (sym r)
      (poorer-equal nothing nothing below refl)
  | inr r ↦ subst (λ c. IsPoorer (cond c nothing (ours (way_of sys.flow (sender sys.flow e)))) (cond c nothing (theirs (way_of sys.flow (sender sys.flow e)))) below) (sym r)
      (by (way_of sys.flow (sender sys.flow e)) refl r)
]
  where
    p : ℕ
    p = sender sys.flow e

    g : Frontier
    g = node_frontier sys.flow (sender sys.flow e) f

    below : Frontier
    below = (covers_in sys state).discarded e (At (front_of floor (sender sys.flow e)))

    ours : Restoring → Frontier
    ours way = discarded_at sys.flow e way (sent_in sys.flow offers e way (At f)) f

    theirs : Restoring → Frontier
    theirs way = discarded_at sys.flow e way
        (cover (bounds_of sys.flow (receiver sys.flow e)) (stamps_from (node_frontier sys.flow (sender sys.flow e) f) (sent_messages sys (events state.history) e))) f

    along : (way : Restoring) → way_of sys.flow (sender sys.flow e) ≡ way → IsPoorer (ours way) (theirs way) below
        → IsPoorer (ours (way_of sys.flow (sender sys.flow e))) (theirs (way_of sys.flow (sender sys.flow e))) below
    along way k m = subst (λ w. IsPoorer (ours w) (theirs w) below) (sym k) m

    by : (way : Restoring) → way_of sys.flow (sender sys.flow e) ≡ way → can_resend (policy_of sys.flow (sender sys.flow e)) ≡ false
        → IsPoorer (ours (way_of sys.flow (sender sys.flow e))) (theirs (way_of sys.flow (sender sys.flow e))) below
    by Batches k r =
        let o = a.each p (a.well_formed.flow.senders_declared e l) in
        along Batches k (outside-sent sys state lost floor entries offers a e l (known-batches sys floor state p o.node.stamps (lost p) o.known.stamps k)
        (λ c. let x : Batches ≡ Checkpoints = sym k ∙ c in cc) (ap is_single_kind (by_batches-input (kind_of sys.flow p) (policy_of sys.flow p) k)) r g)
    by Bound k r = absurd (no-output sys.flow (kind_of sys.flow p) (bound-output (kind_of sys.flow p) (policy_of sys.flow p) k) (senders_well_formed sys.flow a.well_formed.flow e l))
    by Anything k r = along Anything k (poorer-equal (psi sys.flow e g) (psi sys.flow e g) below refl)
    by Checkpoints k r =
        let c = record-offered sys state lost floor entries offers a p (a.well_formed.flow.senders_declared e l) f i k in
        poorer-equal (ours (way_of sys.flow p)) (theirs (way_of sys.flow p)) below
        (ap ours k ∙ ap (recorded_discarded (bounds_of sys.flow (receiver sys.flow e)) e) c.at ∙ c.holds.discarded e l refl
        ∙ ap (λ (h : Front). (covers_in sys state).discarded e (At h)) c.front ∙ ap (λ x. cond x nothing (theirs (way_of sys.flow p))) r)
    by Events k r = absurd (two_ways (can_resend (policy_of sys.flow p)) (ap can_resend (events-full (kind_of sys.flow p) (policy_of sys.flow p) k)) r)

-- ---- all of it

-- what is offered by what is known above a floor is what the machine offers above it
pub offers-above : (sys : System) (state : Machine) (lost : ℕ → Bool) (floor : List Front) (view : List NodeView) (entries : List Entry) (offers : List Offer)
    → AreOffersBy sys.flow entries 0 view offers → (v : IsViewOf sys state lost floor view entries) → AreOffersAbove sys state lost (choice_at floor v.above.notices) offers
offers-above sys state lost floor view entries offers o v =
    let a = are-there sys state lost floor view entries offers v o in
    let w = a.well_formed.flow in
    let cut : (p : ℕ) → p < length sys.flow.nodes → At (front_of floor p) ≡ cut_of (choice_at floor v.above.notices) p = λ p l. sym (floor_cut sys state floor v.above p l) in
    record {
      of_flow = of_flow sys state lost floor entries offers a;
      ascending = offers-ascend sys state lost floor entries offers a;
      offered = offered-same sys state lost floor entries offers a;
      poorer = record {
        delivered = λ d l c i. subst (λ x. IsPoorer ((covers_of sys.flow offers).delivered d c) ((covers_in sys state).delivered d c) ((covers_in sys state).delivered d x))
            (cut (receiver sys.flow d) (w.receivers_declared d l)) (delivered-poorer sys state lost floor entries offers a d l c i);
        discarded = λ e l c i. subst (λ x. IsPoorer ((covers_of sys.flow offers).discarded e c) ((covers_in sys state).discarded e c) ((covers_in sys state).discarded e x))
            (cut (sender sys.flow e) (w.senders_declared e l)) (discarded-poorer sys state lost floor entries offers a e l c i);
        notified = λ p l c i. subst (λ x. IsPoorer ((covers_of sys.flow offers).notified p c) ((covers_in sys state).notified p c) ((covers_in sys state).notified p x))
            (cut p l) (notified-poorer sys state lost floor entries offers a p l c i);
        arrived = arrived-same sys state lost floor entries offers a;
      };
      consistent = floor-consistent sys state floor lost v.above;
    }
