-- What is offered by what is known of a state is what the machine offers there.
use Rattle.std.proofs.Common.{◌≡◌, ◌≢◌, ◌⊎◌, ◌↔◌, inl, inr, ℕ, zero, suc, ◌+◌, ◌<◌, ◌≤◌, Bool, true, false, not, cond, ◌&&◌, ◌==◌, List, [], ◌∷◌, length, map, slice_index_or, refl, sym, ◌∙◌, ap, subst, arith}
use Rattle.std.specs.Prelude.{filter}
use Rattle.std.specs.List.{AllByRecursion, flat_map}
use Rattle.std.proofs.lemmas.Bool.{cond_both, cases_Bool, and_parts}
use Rattle.fw_lemmas.proofs.Bools.{two_ways}
use Rattle.fw_lemmas.proofs.Each.{each-weaker, each-kept}
use Rattle.fw_time.specs.Stamp.{Stamp, leq, in_domain}
use Rattle.fw_time.specs.declared.stamp.Bounds.{Bounds}
use Rattle.fw_frontier.specs.Frontier.{Frontier, Within, nothing, everything, cover, meet}
use Rattle.fw_frontier.specs.Front.{Front, inside, frontier_of, IsCanonical, IsFrontOf, is_within}
use Rattle.fw_frontier.proofs.NamesLaws.{frontier-closed, is_within-holds, within-is}
use Rattle.fw_model.proofs.KindSorts.{no_sequence-single}
use Rattle.fw_model.specs.Sending.{is_single_kind}
use Rattle.fw_model.proofs.LesserLaws.{lesser-in_domain}
use Rattle.fw_model.proofs.ThinnedLaws.{thinned-covers, thinned-whole}
use Rattle.fw_flow.specs.declared.choice.Counted.{Counted}
use Rattle.fw_flow.specs.declared.choice.Cut.{Cut}
use Rattle.fw_flow.specs.declared.choice.Cut.TheVariants.{Present, At}
use Rattle.fw_flow.specs.declared.choice.Offer.{Offer}
use Rattle.fw_flow.specs.declared.choice.Offered.{Offered}
use Rattle.fw_flow.specs.declared.choice.Offered.TheVariants as form
use Rattle.fw_flow.specs.declared.choice.Recorded.{Recorded}
use Rattle.fw_flow.specs.declared.choice.Stamps.{Stamps}
use Rattle.fw_flow.specs.declared.event.Message.{Message}
use Rattle.fw_flow.specs.Kind.{Kind}
use Rattle.fw_flow.specs.declared.kind.Kind.TheVariants.{Input, OutputEpoch, OutputNumber}
use Rattle.fw_flow.specs.declared.kind.Policy.TheVariants as policy
use Rattle.fw_flow.specs.declared.restoring.Restoring.{Restoring}
use Rattle.fw_flow.specs.declared.restoring.Restoring.TheVariants.{Batches, Bound, Anything, Checkpoints, Events}
use Rattle.fw_flow.specs.Dataflow.{System, Dataflow, kind_of, policy_of, sender, receiver, bounds_of, greatest_number, is_sequence_kind, node_frontier}
use Rattle.fw_flow.specs.NodeFunction.{event_stamp}
use Rattle.fw_flow.specs.Projection.{all_inside, events_at, table_count}
use Rattle.fw_flow.specs.Restoring.{can_resend, way_of}
use Rattle.fw_flow.specs.WellFormed.{IsWellFormed, IsWellFormedSystem}
use Rattle.fw_model.specs.Choice.{kept, IsCandidate, IsRestorable, until}
use Rattle.fw_model.specs.Covers.{takes_its_cut, takes_its_notices, covers_in, stamp_of_notice, stamps_from, stamps_inside, notified_inside, discarded_at}
use Rattle.fw_model.specs.History.{delivered_messages, sent_messages, injected_count, IsLegal}
use Rattle.fw_model.specs.Machine.{Machine, events, no_stamps, front_of, ack_count_of}
use Rattle.fw_model.specs.Offers.{can_stay, offered_by, listed_records, records_of, offered_range, delivered_to, notified_of, offered_sent, counts_offered, IsOfferedFront, IsOffered, IsListed, counted_on_edge, stamps_on, stamps_on_from, delivered_in, sent_in, notified_in, recorded_delivered, recorded_discarded, recorded_notified, covers_of, Ascend, RecordsAscend, IsRecordOf, IsRangeOf, is_by_range, IsFormOf, HasOneCause, AreOfBatches, AreAtEdgeStamps, AreOffersOf, AreOffersIn}
use Rattle.fw_model.specs.Writes.{takes_checkpoints, is_collected, not_collected}
use Rattle.fw_model.proofs.AskedLaws.{reached-all, takes-restoring, IsApart}
use Rattle.fw_model.proofs.CheckpointFrontLaws.{checkpoints-have_stamps}
use Rattle.fw_model.proofs.ChoiceLaws.{by_batches-input, bounds-input}
use Rattle.fw_model.proofs.DomainLaws.{has_epochs}
use Rattle.fw_model.proofs.InputLaws.{injected-few}
use Rattle.fw_model.proofs.LegalLaws.{legal_events-in_domain}
use Rattle.fw_model.proofs.LoggedLaws.{live-logged}
use Rattle.fw_model.proofs.LowLaws.{none-within}
use Rattle.fw_model.proofs.OfferLaws.{listed-offered}
use Rattle.fw_model.proofs.SameInsideLaws.{low-offered}
use Rattle.fw_model.proofs.UntilLaws.{numbers, canonical-until}
use Rattle.fw_model.proofs.WriteLaws.{ArePairs, pairs-passed, LiesBelow}
use Rattle.fw_policy.specs.declared.view.Border.{Border}
use Rattle.fw_policy.specs.declared.view.Border.TheVariants.{Inner, Source, Output}
use Rattle.fw_keep.specs.declared.entry.Entry.{Entry}
use Rattle.fw_policy.specs.declared.view.NodeView.{NodeView}
use Rattle.fw_model.specs.EventStamps.{base_of_sent, StandForSent, StandForNumbered, AreStampsIf}
use Rattle.fw_policy.specs.Entries.{IsRecorded}
use Rattle.fw_policy.specs.View.{base_of, AreWholeFrom, KnowsLosses, IsBorderOf, IsNodeViewOf, AreNodeViewsFrom, IsViewOf, AreReadAs}
use Rattle.fw_policy.specs.Offering.{records_by, empty_record, holding, unlogged_stamps, below_all, IsRange, IsOfBatches, IsOfBound, OffersBy, IsOfferBy, AreOffersBy}
use Rattle.fw_policy.proofs.BatchLaws.{batches-offered}
use Rattle.fw_policy.proofs.NumberLaws.{numbered-covers, counted-arrive}
use Rattle.fw_policy.proofs.RangeLaws.{range-between, within-both, within-below}
use Rattle.fw_policy.proofs.RecordLaws.{IsUnder, pairs-both, entries-recorded, entries-stamps, listed-holding, listed-checkpoint, entries-ascend, ascend-filter}
use Rattle.fw_policy.proofs.RecordedLaws.{IsFound, found-record, empty-recorded}
use Rattle.fw_model.proofs.SentStandLaws.{sent-covers}
use Rattle.fw_policy.proofs.UnloggedLaws.{IsOfEntries, logged-outside}
use Rattle.fw_policy.proofs.WayLaws.{bound-output, bounds-plain, checkpoints-notices, events-full}

-- ---- one node

abbrev IsAt : List Offer → ℕ → Offer → Type 0
IsAt [] p o = ⊥
IsAt (q ∷ os) zero o = q ≡ o
IsAt (q ∷ os) (suc p) o = IsAt os p o

at-map : {A : Type 0} (g : Offer → A) (d : A) (os : List Offer) (p : ℕ) (o : Offer) → IsAt os p o → slice_index_or (map g os) p d ≡ g o
at-map g d [] p o i = absurd i
at-map g d (q ∷ os) zero o i = ap g i
at-map g d (q ∷ os) (suc p) o i = at-map g d os p o i

-- what node p offers, with what is known of it
pub record Offers (sys : System) (state : Machine) (lost : ℕ → Bool) (floor : List Front) (entries : List Entry) (offers : List Offer) (p : ℕ) : Type 0 where
  pub offer : Offer
  pub node : NodeView
  pub there : IsAt offers p offer
  pub known : IsNodeViewOf sys state lost floor p node
  pub is : IsOfferBy sys.flow entries p node offer

-- nothing that happened inside the base of node p is missing in its view
abbrev pub IsWholeView : System → Machine → List Front → ℕ → NodeView → Type 0
IsWholeView sys state floor p node = AreStampsIf true sys (events state.history) p (base_of sys floor state p) node.stamps

offers-at : (sys : System) (state : Machine) (lost : ℕ → Bool) (floor : List Front) (entries : List Entry) (n p : ℕ) (view : List NodeView) (offers : List Offer)
    → AreNodeViewsFrom sys state lost floor n view → AreOffersBy sys.flow entries n view offers → p < length view
    → (offer : Offer) × (node : NodeView) × IsAt offers p offer × IsNodeViewOf sys state lost floor (n + p) node × IsOfferBy sys.flow entries (n + p) node offer
    × (AreWholeFrom sys state floor n view → IsWholeView sys state floor (n + p) node)
offers-at sys state lost floor entries n p [] offers v o l = absurd (omega arith)
offers-at sys state lost floor entries n p (node ∷ view) [] v o l = absurd o
offers-at sys state lost floor entries n zero (node ∷ view) (offer ∷ offers) v o l =
    let e : n ≡ n + 0 = omega arith in
    (offer, node, refl, subst (λ k. IsNodeViewOf sys state lost floor k node) e v.0, subst (λ k. IsOfferBy sys.flow entries k node offer) e o.0, λ w. subst (λ k. IsWholeView sys state floor k node) e w.0)
offers-at sys state lost floor entries n (suc p) (node ∷ view) (offer ∷ offers) v o l =
    let r = offers-at sys state lost floor entries (suc n) p view offers v.1 o.1 (omega arith) in
    let e : suc n + p ≡ n + suc p = omega arith in
    (r.0, r.1, r.2, subst (λ k. IsNodeViewOf sys state lost floor k r.1) e r.3, subst (λ k. IsOfferBy sys.flow entries k r.1 r.0) e r.4, λ w. subst (λ k. IsWholeView sys state floor k r.1) e (r.5 w.1))

lengths : (flow : Dataflow) (entries : List Entry) (n : ℕ) (view : List NodeView) (offers : List Offer) → AreOffersBy flow entries n view offers → length offers ≡ length view
lengths flow entries n [] [] o = refl
lengths flow entries n [] (offer ∷ offers) o = absurd o
lengths flow entries n (node ∷ view) [] o = absurd o
lengths flow entries n (node ∷ view) (offer ∷ offers) o = ap (λ k. suc k) (lengths flow entries (suc n) view offers o.1)

-- what the proofs rest on
pub record AreOffersKnown (sys : System) (state : Machine) (lost : ℕ → Bool) (floor : List Front) (entries : List Entry) (offers : List Offer) : Type 0 where
  pub well_formed : IsWellFormedSystem sys
  pub one_each : length offers ≡ length sys.flow.nodes
  pub each : (p : ℕ) → p < length sys.flow.nodes → Offers sys state lost floor entries offers p
  pub view : List NodeView
  pub each_whole : (p : ℕ) (l : p < length sys.flow.nodes) → AreWholeFrom sys state floor 0 view → IsWholeView sys state floor p (each p l).node
  pub written : AreReadAs sys state entries (filter not_collected state.writes)
  pub under : ArePairs (IsUnder sys) (filter not_collected state.writes)
  pub low : (p : ℕ) → p < length sys.flow.nodes → IsCandidate sys state (λ q. true) kept p (At (front_of state.low p))
  pub settled : (p : ℕ) → p < length sys.flow.nodes → IsCanonical (bounds_of sys.flow p) (front_of state.settled p)
  pub unlogged : (p : ℕ) → policy_of sys.flow p ≡ policy.Full → IsOfEntries sys state p entries
  pub few : (p : ℕ) → injected_count p (events state.history) ≤ greatest_number
  pub legal : IsLegal sys (events state.history)
  pub in_domain : (p : ℕ) → AllByRecursion (λ v. in_domain (bounds_of sys.flow p) (event_stamp v) ≡ true) (events_at sys.flow p (events state.history))
  pub apart : (p : ℕ) → p < length sys.flow.nodes → AllByRecursion (λ (r : Recorded). r.front ≢ no_stamps (bounds_of sys.flow p)) (records_by p entries)

pub are-there : (sys : System) (state : Machine) (lost : ℕ → Bool) (floor : List Front) (view : List NodeView) (entries : List Entry) (offers : List Offer)
    → IsViewOf sys state lost floor view entries → AreOffersBy sys.flow entries 0 view offers → AreOffersKnown sys state lost floor entries offers
are-there sys state lost floor view entries offers v o =
    let w = v.well_formed in
    let r = v.reached in
    let all = reached-all sys w r.0 r.1 state r.2 in
    let legal = all.recover.holds.legal in
    record {
      well_formed = w;
      one_each = lengths sys.flow entries 0 view offers o ∙ v.one_each;
      each = λ p l.
          let k = offers-at sys state lost floor entries 0 p view offers v.nodes o (subst (λ n. p < n) (sym v.one_each) l) in
          let e : 0 + p ≡ p = omega arith in
          record {
            offer = k.0;
            node = k.1;
            there = k.2;
            known = subst (λ q. IsNodeViewOf sys state lost floor q k.1) e k.3;
            is = subst (λ q. IsOfferBy sys.flow entries q k.1 k.0) e k.4;
          };
      view = view;
      each_whole = λ p l whole.
          let k = offers-at sys state lost floor entries 0 p view offers v.nodes o (subst (λ n. p < n) (sym v.one_each) l) in
          let e : 0 + p ≡ p = omega arith in
          subst (λ q. IsWholeView sys state floor q k.1) e (k.5 whole);
      written = v.written;
      under = pairs-passed (IsUnder sys) not_collected state.writes (pairs-both (LiesBelow sys) IsApart state.writes all.recover.ascend all.restore.apart);
      low = λ p l. low-offered sys state all.recover.notices all.recover.watermark p l;
      settled = all.restore.settled;
      unlogged = λ p full. record {
        written = v.written;
        apart = all.restore.apart;
        serials = all.restore.serials;
        live = live-logged sys w r.0 r.1 state r.2 p full;
      };
      few = λ p. omega (arith, injected-few sys (events state.history) legal p, w.few p);
      legal = legal;
      in_domain = legal_events-in_domain sys (events state.history) w.flow (has_epochs sys w) legal;
      apart = λ p l. entries-stamps sys state p entries (filter not_collected state.writes) v.written
          (each-kept _ not_collected state.writes (checkpoints-have_stamps sys w r.0 r.1 state r.2));
    }

pub delivered-is : (sys : System) (state : Machine) (lost : ℕ → Bool) (floor : List Front) (entries : List Entry) (offers : List Offer) (p : ℕ) (o : Offers sys state lost floor entries offers p)
    → delivered_to offers p ≡ o.node.stamps.delivered
delivered-is sys state lost floor entries offers p o = at-map (λ (x : Offer). x.stamps.delivered) [] offers p o.offer o.there ∙ ap (λ (x : Stamps). x.delivered) o.is.stamps

pub notified-is : (sys : System) (state : Machine) (lost : ℕ → Bool) (floor : List Front) (entries : List Entry) (offers : List Offer) (p : ℕ) (o : Offers sys state lost floor entries offers p)
    → notified_of offers p ≡ o.node.stamps.notified
notified-is sys state lost floor entries offers p o = at-map (λ (x : Offer). x.stamps.notified) [] offers p o.offer o.there ∙ ap (λ (x : Stamps). x.notified) o.is.stamps

pub sent-is : (sys : System) (state : Machine) (lost : ℕ → Bool) (floor : List Front) (entries : List Entry) (offers : List Offer) (p : ℕ) (o : Offers sys state lost floor entries offers p)
    → offered_sent offers p ≡ o.node.stamps.sent
sent-is sys state lost floor entries offers p o = at-map (λ (x : Offer). x.stamps.sent) [] offers p o.offer o.there ∙ ap (λ (x : Stamps). x.sent) o.is.stamps

table-is : (sys : System) (state : Machine) (lost : ℕ → Bool) (floor : List Front) (entries : List Entry) (offers : List Offer) (p : ℕ) (o : Offers sys state lost floor entries offers p)
    → counts_offered offers p ≡ o.node.table
table-is sys state lost floor entries offers p o = at-map (λ (x : Offer). x.table) [] offers p o.offer o.there ∙ o.is.table

offered-is : (sys : System) (state : Machine) (lost : ℕ → Bool) (floor : List Front) (entries : List Entry) (offers : List Offer) (p : ℕ) (o : Offers sys state lost floor entries offers p)
    → offered_by offers p ≡ o.offer.offered
offered-is sys state lost floor entries offers p o = at-map (λ (x : Offer). x.offered) (form.Listed []) offers p o.offer o.there

records-are : (sys : System) (state : Machine) (lost : ℕ → Bool) (floor : List Front) (entries : List Entry) (offers : List Offer) (p : ℕ) (o : Offers sys state lost floor entries offers p)
    → records_of offers p ≡ listed_records o.offer.offered
records-are sys state lost floor entries offers p o = ap listed_records (offered-is sys state lost floor entries offers p o)

-- ---- records of a node with checkpoints

-- what is listed of a node that is restored by checkpoints
record IsListing (sys : System) (state : Machine) (p : ℕ) (records : List Recorded) : Type 0 where
  pub recorded : AllByRecursion (λ (r : Recorded). IsRecorded sys state p r.front r) records
  pub ascend : Ascend (bounds_of sys.flow p) records
  pub offered : (f : Front) → IsCanonical (bounds_of sys.flow p) f
      → IsListed f records ↔ (IsRestorable sys state kept p Checkpoints f × Within (frontier_of (bounds_of sys.flow p) (front_of state.low p)) (frontier_of (bounds_of sys.flow p) f))

-- what a node with checkpoints lists
abbrev listed_of : Dataflow → List Entry → ℕ → Front → List Recorded
listed_of flow entries p low = holding low (empty_record (bounds_of flow p) ∷ records_by p entries)

listing : (sys : System) (state : Machine) (lost : ℕ → Bool) (floor : List Front) (entries : List Entry) (offers : List Offer) → AreOffersKnown sys state lost floor entries offers → (p : ℕ) → p < length sys.flow.nodes
    → way_of sys.flow p ≡ Checkpoints → IsListing sys state p (listed_of sys.flow entries p (front_of state.low p))
listing sys state lost floor entries offers a p l way =
    let b = bounds_of sys.flow p in
    let low = front_of state.low p in
    let rs = records_by p entries in
    let none = empty_record b in
    let own = entries-recorded sys state p entries (filter not_collected state.writes) a.written in
    let mine = empty-recorded sys state p way (checkpoints-notices (kind_of sys.flow p) (policy_of sys.flow p) way) in
    let rises : Ascend b (none ∷ rs) = (
      each-weaker (λ (r : Recorded). r.front ≢ no_stamps b) (λ r. Within (frontier_of b (no_stamps b)) (frontier_of b r.front) × (no_stamps b ≢ r.front)) rs
          (λ r d. (none-within b (frontier_of b r.front), λ e. d (sym e)))
          (a.apart p l),
      entries-ascend sys state p entries (filter not_collected state.writes) l a.written a.under,
    ) in
    record {
      recorded = each-kept (λ (r : Recorded). IsRecorded sys state p r.front r) (λ r. is_within low r.front) (none ∷ rs) (mine, own);
      ascend = ascend-filter b (λ r. is_within low r.front) (none ∷ rs) rises;
      offered = λ f canonical.
          let h = listed-holding low f (none ∷ rs) in
          let q = listed-checkpoint sys state (λ far. not (is_collected far)) refl p f entries state.writes a.written in (
            (λ i. let m = h.0 i in (
              elim m.0 [ inl e ↦ inl (sym e) | inr j ↦ inr (q.0 j) ],
              is_within-holds b low f m.1,
            )),
            (λ i. h.1 (
              elim i.0 [ inl e ↦ inl (sym e) | inr j ↦ inr (q.1 j) ],
              within-is b low f canonical i.1,
            )),
          );
    }

-- ---- the same cuts are offered

-- what is offered is what the node can be restored to, from the low watermark on
IsOfferedRight : System → Machine → ℕ → Restoring → Offered → Type 0
IsOfferedRight sys state p way o = (f : Front) → IsCanonical (bounds_of sys.flow p) f
    → IsOfferedFront (bounds_of sys.flow p) o f
    ↔ (IsRestorable sys state kept p way f × Within (frontier_of (bounds_of sys.flow p) (front_of state.low p)) (frontier_of (bounds_of sys.flow p) f))

of-border : (sys : System) (state : Machine) (p : ℕ) (kind : Kind) (x : Border) → kind_of sys.flow p ≡ kind → IsBorderOf sys state p (kind_of sys.flow p) x → IsBorderOf sys state p kind x
of-border sys state p kind x e k = subst (λ c. IsBorderOf sys state p c x) e k

-- an input injected no more than there are numbers
abbrev IsFew : Border → Type 0
IsFew Inner = Unit {0}
IsFew (Source n x) = n ≤ greatest_number
IsFew (Output bound) = Unit {0}

input-few : (sys : System) (state : Machine) (p : ℕ) (x : Border) → injected_count p (events state.history) ≤ greatest_number → IsBorderOf sys state p Input x → IsFew x
input-few sys state p Inner few k = tt
input-few sys state p (Source n x) few k = omega (arith, few, k.0)
input-few sys state p (Output bound) few k = tt

batches-right : (sys : System) (state : Machine) (p : ℕ) (low : Front) (x : Border) (o : Offered) → bounds_of sys.flow p ≡ numbers → IsFew x → low ≡ front_of state.low p
    → IsBorderOf sys state p Input x → IsOfBatches low x o → IsOfferedRight sys state p Batches o
unfolding IsOfferedRight
batches-right sys state p low Inner o b few e k a = absurd a
batches-right sys state p low (Output bound) o b few e k a = absurd a
batches-right sys state p low (Source n x) o b few e k a = subst (IsOfferedRight sys state p Batches) (sym a) (λ f c.
    let m = batches-offered low n x f few (subst (λ (d : Bounds). IsCanonical d f) b c) in (
      (λ i. let j = m.0 (subst (λ (d : Bounds). IsOfferedFront d (form.Batches low (until n) x) f) b i) in (
        elim j.0 [ inl h ↦ inl (h.0, omega (arith, h.1, k.0), h.2) | inr h ↦ inr (sym k.1 ∙ h.0, h.1) ],
        subst (λ (d : Bounds). Within (frontier_of d (front_of state.low p)) (frontier_of d f)) (sym b)
            (subst (λ (g : Front). Within (frontier_of numbers g) (frontier_of numbers f)) e j.1),
      )),
      (λ i. subst (λ (d : Bounds). IsOfferedFront d (form.Batches low (until n) x) f) (sym b) (m.1 (
        elim i.0 [ inl h ↦ inl (h.0, omega (arith, h.1, k.0), h.2) | inr h ↦ inr (k.1 ∙ h.0, h.1) ],
        subst (λ (g : Front). Within (frontier_of numbers g) (frontier_of numbers f)) (sym e)
            (subst (λ (d : Bounds). Within (frontier_of d (front_of state.low p)) (frontier_of d f)) b i.1),
      ))),
    ))

bound-right : (sys : System) (state : Machine) (p : ℕ) (low settled : Front) (x : Border) (o : Offered) → low ≡ front_of state.low p → settled ≡ front_of state.settled p
    → (IsBorderOf sys state p OutputEpoch x ⊎ IsBorderOf sys state p OutputNumber x) → IsOfBound (bounds_of sys.flow p) low settled x o
    → IsOfferedRight sys state p Bound o
unfolding IsOfferedRight
bound-right sys state p low settled Inner o e d k a = absurd a
bound-right sys state p low settled (Source n y) o e d k a = absurd a
bound-right sys state p low settled (Output n) (form.Listed records) e d k a = absurd a
bound-right sys state p low settled (Output n) (form.Batches least greatest exhausted) e d k a = absurd a
bound-right sys state p low settled (Output n) (form.Between least greatest) e d k a = λ f c.
    let b = bounds_of sys.flow p in
    let same : n ≡ ack_count_of state p = elim k [ inl h ↦ h | inr h ↦ h ] in
    let g = frontier_of b (front_of state.settled p) in
    let u = frontier_of b (until (ack_count_of state p)) in
    let names : IsFrontOf b greatest (meet g u) =
    subst (λ m. IsFrontOf b greatest (meet g (frontier_of b (until m)))) same (subst (λ (s : Front). IsFrontOf b greatest (meet (frontier_of b s) (frontier_of b (until n)))) d a.1) in
    let r = range-between b (meet g u) (front_of state.low p) least greatest f (a.0 ∙ e) names in
    let w = within-both (frontier_of b f) g u in
    ((λ i. let j = r.0 i in (w.0 j.0, j.1)), (λ i. r.1 (w.1 i.0, i.1)))

anything-right : (sys : System) (state : Machine) (p : ℕ) (low settled : Front) (o : Offered) → low ≡ front_of state.low p → settled ≡ front_of state.settled p
    → IsRange (bounds_of sys.flow p) low (frontier_of (bounds_of sys.flow p) settled) o → IsOfferedRight sys state p Anything o
unfolding IsOfferedRight
anything-right sys state p low settled (form.Listed records) e d a = absurd a
anything-right sys state p low settled (form.Batches least greatest exhausted) e d a = absurd a
anything-right sys state p low settled (form.Between least greatest) e d a = λ f c.
    let b = bounds_of sys.flow p in
    range-between b (frontier_of b (front_of state.settled p)) (front_of state.low p) least greatest f (a.0 ∙ e)
    (subst (λ (s : Front). IsFrontOf b greatest (frontier_of b s)) d a.1)

lesser-inside : (flow : Dataflow) (p : ℕ) (f : Front) (s t : Stamp) → leq s t ≡ true → frontier_of (bounds_of flow p) f t ≡ true → frontier_of (bounds_of flow p) f s ≡ true
lesser-inside flow p f s t l i =
    let closed = frontier-closed (bounds_of flow p) f in
    closed.closed s t (lesser-in_domain flow p s t l (closed.inside_domain t i)) l i

events-right : (sys : System) (state : Machine) (p : ℕ) (entries : List Entry) (lost : List Stamp) (low settled : Front) (o : Offered) → low ≡ front_of state.low p → settled ≡ front_of state.settled p
    → IsOfEntries sys state p entries → KnowsLosses sys state p lost
    → IsRange (bounds_of sys.flow p) low (below_all (unlogged_stamps p entries lost) (frontier_of (bounds_of sys.flow p) settled)) o
    → IsOfferedRight sys state p Events o
unfolding IsOfferedRight
events-right sys state p entries lost low settled (form.Listed records) e d u known a = absurd a
events-right sys state p entries lost low settled (form.Batches least greatest exhausted) e d u known a = absurd a
events-right sys state p entries lost low settled (form.Between least greatest) e d u known a = λ f c.
    let b = bounds_of sys.flow p in
    let g = frontier_of b (front_of state.settled p) in
    let ss = unlogged_stamps p entries lost in
    let r = range-between b (below_all ss g) (front_of state.low p) least greatest f (a.0 ∙ e)
    (subst (λ (s : Front). IsFrontOf b greatest (below_all ss (frontier_of b s))) d a.1) in
    let w = within-below b f g ss (bounds-plain sys.flow p) in
    let m = logged-outside sys state p entries lost u known (frontier_of b f) (lesser-inside sys.flow p f) in
    ((λ i. let j = r.0 i in let v = w.0 j.0 in ((v.0, (m v.0).1 v.1), j.1)), (λ i. r.1 (w.1 ((i.0).0, (m (i.0).0).0 (i.0).1), i.1)))

-- a node with checkpoints lists those that hold the machine's low watermark
listed-low : (sys : System) (state : Machine) (lost : ℕ → Bool) (floor : List Front) (entries : List Entry) (offers : List Offer) (p : ℕ) (o : Offers sys state lost floor entries offers p) (offered : Offered)
    → OffersBy (bounds_of sys.flow p) entries p o.node Checkpoints offered → offered ≡ form.Listed (listed_of sys.flow entries p (front_of state.low p))
listed-low sys state lost floor entries offers p o offered k = k ∙ ap (λ (low : Front). form.Listed (listed_of sys.flow entries p low)) o.known.low

-- the offer of a node is right, by the way in which it is restored
offered-right : (sys : System) (state : Machine) (lost : ℕ → Bool) (floor : List Front) (entries : List Entry) (offers : List Offer) → AreOffersKnown sys state lost floor entries offers → (p : ℕ) → p < length sys.flow.nodes
    → (o : Offers sys state lost floor entries offers p) → (way : Restoring) → way_of sys.flow p ≡ way → (offered : Offered)
    → OffersBy (bounds_of sys.flow p) entries p o.node way offered → IsOfferedRight sys state p way offered
unfolding IsOfferedRight
offered-right sys state lost floor entries offers a p l o Batches e offered k =
    let is = by_batches-input (kind_of sys.flow p) (policy_of sys.flow p) e in
    let border = of-border sys state p Input o.node.border is o.known.border in
    batches-right sys state p o.node.low o.node.border offered (bounds-input sys.flow p is) (input-few sys state p o.node.border (a.few p) border) o.known.low border k
offered-right sys state lost floor entries offers a p l o Bound e offered k =
    bound-right sys state p o.node.low o.node.settled o.node.border offered o.known.low o.known.settled
    (elim (bound-output (kind_of sys.flow p) (policy_of sys.flow p) e) [
      | inl is ↦ inl (of-border sys state p OutputEpoch o.node.border is o.known.border)
      | inr is ↦ inr (of-border sys state p OutputNumber o.node.border is o.known.border)
    ]) k
offered-right sys state lost floor entries offers a p l o Anything e offered k =
    anything-right sys state p o.node.low o.node.settled offered o.known.low o.known.settled k
offered-right sys state lost floor entries offers a p l o Checkpoints e offered k =
    subst (IsOfferedRight sys state p Checkpoints) (sym (listed-low sys state lost floor entries offers p o offered k)) (λ f c.
    (listing sys state lost floor entries offers a p l e).offered f c)
offered-right sys state lost floor entries offers a p l o Events e offered k =
    let full = events-full (kind_of sys.flow p) (policy_of sys.flow p) e in
    events-right sys state p entries o.node.lost o.node.low o.node.settled offered o.known.low o.known.settled
    (a.unlogged p full) (o.known.losses full) k

flips : (c d : Bool) → c ≡ not d → (c ≡ true) ↔ (d ≡ false)
flips c true e = ((λ i. let x : false ≡ true = sym e ∙ i in cc), (λ i. cc))
flips c false e = ((λ i. refl), (λ i. e))

pub offered-same : (sys : System) (state : Machine) (lost : ℕ → Bool) (floor : List Front) (entries : List Entry) (offers : List Offer) → AreOffersKnown sys state lost floor entries offers
    → (p : ℕ) → p < length sys.flow.nodes → (cut : Cut) → IsOffered sys.flow offers p cut ↔ IsCandidate sys state lost kept p cut
unfolding IsOfferedRight
offered-same sys state lost floor entries offers a p l Present =
    let o = a.each p l in
    flips (can_stay offers p) (lost p) (at-map (λ (x : Offer). x.present) false offers p o.offer o.there ∙ o.is.present ∙ ap not o.known.failed)
offered-same sys state lost floor entries offers a p l (At f) =
    let o = a.each p l in
    let b = bounds_of sys.flow p in
    let is = offered-is sys state lost floor entries offers p o in
    let k = offered-right sys state lost floor entries offers a p l o (way_of sys.flow p) refl o.offer.offered o.is.offered in (
      (λ i. let m = (k f i.0).0 (subst (λ (x : Offered). IsOfferedFront b x f) is i.1) in (i.0, m.0, m.1)),
      (λ c. (c.0, subst (λ (x : Offered). IsOfferedFront b x f) (sym is) ((k f c.0).1 (c.1, c.2)))),
    )

-- ---- the offers are of the dataflow

-- the records are of the node's domain and ascend, and the form fits
AreRecordsRight : System → ℕ → Restoring → Offered → Type 0
AreRecordsRight sys p way offered =
    AllByRecursion (IsRecordOf sys.flow p) (listed_records offered) × Ascend (bounds_of sys.flow p) (listed_records offered) × IsFormOf way offered

-- where all between two frontiers is offered, there are none
range-records : (sys : System) (p : ℕ) (way : Restoring) (low : Front) (g : Frontier) (offered : Offered) → IsRange (bounds_of sys.flow p) low g offered → is_by_range way ≡ true
    → AreRecordsRight sys p way offered
unfolding AreRecordsRight
range-records sys p way low g (form.Listed records) k by_range = absurd k
range-records sys p way low g (form.Between least greatest) k by_range = (tt, tt, by_range)
range-records sys p way low g (form.Batches least greatest exhausted) k by_range = absurd k

-- the records of a node, by the way in which it is restored
records-right : (sys : System) (state : Machine) (lost : ℕ → Bool) (floor : List Front) (entries : List Entry) (offers : List Offer) → AreOffersKnown sys state lost floor entries offers → (p : ℕ) → p < length sys.flow.nodes
    → (o : Offers sys state lost floor entries offers p) → (way : Restoring) → way_of sys.flow p ≡ way → (offered : Offered)
    → OffersBy (bounds_of sys.flow p) entries p o.node way offered → AreRecordsRight sys p way offered
unfolding AreRecordsRight
records-right sys state lost floor entries offers a p l o Batches e offered k = by o.node.border k
  where
    by : (x : Border) → IsOfBatches o.node.low x offered → AreRecordsRight sys p Batches offered
    by Inner k = absurd k
    by (Output n) k = absurd k
    by (Source n y) k = subst (AreRecordsRight sys p Batches) (sym k) (tt, tt, refl)
records-right sys state lost floor entries offers a p l o Bound e offered k = by o.node.border k
  where
    by : (x : Border) → IsOfBound (bounds_of sys.flow p) o.node.low o.node.settled x offered → AreRecordsRight sys p Bound offered
    by Inner k = absurd k
    by (Source n y) k = absurd k
    by (Output n) k = range-records sys p Bound o.node.low _ offered k refl
records-right sys state lost floor entries offers a p l o Anything e offered k = range-records sys p Anything o.node.low _ offered k refl
records-right sys state lost floor entries offers a p l o Checkpoints e offered k =
    let g = listing sys state lost floor entries offers a p l e in
    subst (AreRecordsRight sys p Checkpoints) (sym (listed-low sys state lost floor entries offers p o offered k))
    (each-weaker (λ (r : Recorded). IsRecorded sys state p r.front r) (IsRecordOf sys.flow p) (listed_of sys.flow entries p (front_of state.low p)) (λ r c. c.of_flow) g.recorded, g.ascend, tt)
records-right sys state lost floor entries offers a p l o Events e offered k = range-records sys p Events o.node.low _ offered k refl

-- the ends of what is offered between two frontiers
range-ends : (b : Bounds) (low : Front) (g : Frontier) (offered : Offered) → IsRange b low g offered → IsCanonical b low → IsRangeOf b (offered_range offered)
range-ends b low g (form.Listed records) k c = absurd k
range-ends b low g (form.Between least greatest) k c = (subst (IsCanonical b) (sym k.0) c, k.1.canonical)
range-ends b low g (form.Batches least greatest exhausted) k c = absurd k

-- the ends of a node's range
range-right : (sys : System) (state : Machine) (lost : ℕ → Bool) (floor : List Front) (entries : List Entry) (offers : List Offer) → AreOffersKnown sys state lost floor entries offers → (p : ℕ) → p < length sys.flow.nodes
    → (o : Offers sys state lost floor entries offers p) → (way : Restoring) → way_of sys.flow p ≡ way → (offered : Offered) → OffersBy (bounds_of sys.flow p) entries p o.node way offered
    → IsRangeOf (bounds_of sys.flow p) (offered_range offered)
range-right sys state lost floor entries offers a p l o way e offered k = at way e k
  where
    low : IsCanonical (bounds_of sys.flow p) o.node.low
    low = subst (IsCanonical (bounds_of sys.flow p)) (sym o.known.low) (a.low p l).0

    batches : bounds_of sys.flow p ≡ numbers → (x : Border) → IsFew x → IsOfBatches o.node.low x offered → IsRangeOf (bounds_of sys.flow p) (offered_range offered)
    batches b Inner few k = absurd k
    batches b (Source n y) few k =
        subst (λ (x : Offered). IsRangeOf (bounds_of sys.flow p) (offered_range x)) (sym k)
        (low, subst (λ (d : Bounds). IsCanonical d (until n)) (sym b) (canonical-until n few))
    batches b (Output n) few k = absurd k

    bound : (x : Border) → IsOfBound (bounds_of sys.flow p) o.node.low o.node.settled x offered → IsRangeOf (bounds_of sys.flow p) (offered_range offered)
    bound Inner k = absurd k
    bound (Source n y) k = absurd k
    bound (Output n) k = range-ends (bounds_of sys.flow p) o.node.low _ offered k low

    at : (way : Restoring) → way_of sys.flow p ≡ way → OffersBy (bounds_of sys.flow p) entries p o.node way offered → IsRangeOf (bounds_of sys.flow p) (offered_range offered)
    at Batches e k =
        let is = by_batches-input (kind_of sys.flow p) (policy_of sys.flow p) e in
        batches (bounds-input sys.flow p is) o.node.border (input-few sys state p o.node.border (a.few p) (of-border sys state p Input o.node.border is o.known.border)) k
    at Bound e k = bound o.node.border k
    at Anything e k = range-ends (bounds_of sys.flow p) o.node.low _ offered k low
    at Checkpoints e k = subst (λ (x : Offered). IsRangeOf (bounds_of sys.flow p) (offered_range x)) (sym k) tt
    at Events e k = range-ends (bounds_of sys.flow p) o.node.low _ offered k low

-- what an input sent comes from one batch each
sent-of_batches : (sys : System) (state : Machine) (lost : ℕ → Bool) (floor : List Front) (entries : List Entry) (offers : List Offer) → AreOffersKnown sys state lost floor entries offers → (e : ℕ) → e < length sys.flow.edges
    → AreOfBatches (offered_by offers (sender sys.flow e)) (counted_on_edge e (offered_sent offers (sender sys.flow e)))
unfolding AreRecordsRight
sent-of_batches sys state lost floor entries offers a e l =
    let p = sender sys.flow e in
    let declared = a.well_formed.flow.senders_declared e l in
    let o = a.each p declared in
    let fits = (records-right sys state lost floor entries offers a p declared o (way_of sys.flow p) refl o.offer.offered o.is.offered).2 in
    subst (λ x. AreOfBatches x (counted_on_edge e (offered_sent offers p))) (sym (offered-is sys state lost floor entries offers p o)) (at o o.offer.offered fits)
  where
    at : (o : Offers sys state lost floor entries offers (sender sys.flow e)) (x : Offered) → IsFormOf (way_of sys.flow (sender sys.flow e)) x
        → AreOfBatches x (counted_on_edge e (offered_sent offers (sender sys.flow e)))
    at o (form.Listed records) fits = tt
    at o (form.Between least greatest) fits = tt
    at o (form.Batches least greatest exhausted) fits =
        let p = sender sys.flow e in
        let is = by_batches-input (kind_of sys.flow p) (policy_of sys.flow p) fits in
        subst (λ ms. AllByRecursion HasOneCause (counted_on_edge e ms)) (sym (sent-is sys state lost floor entries offers p o))
        (each-kept HasOneCause (λ (m : Counted). m.edge == e) o.node.stamps.sent (o.known.fits.of_batches is))

-- ---- the base of a node

pub base-domain : (sys : System) (floor : List Front) (state : Machine) (p : ℕ) (t : Stamp) → base_of sys floor state p t ≡ true → in_domain (bounds_of sys.flow p) t ≡ true
base-domain sys floor state p t =
    let b = bounds_of sys.flow p in
    cond_both (takes_checkpoints (policy_of sys.flow p)) (frontier_of b (front_of state.settled p)) (frontier_of b (front_of floor p)) (λ g. g t ≡ true → in_domain b t ≡ true)
    (λ e i. (and_parts (in_domain b t) (inside (front_of state.settled p) t) i).0)
    (λ e i. (and_parts (in_domain b t) (inside (front_of floor p) t) i).0)

base-low : (sys : System) (state : Machine) (p : ℕ) → IsWellFormed sys.flow → p < length sys.flow.nodes → (way_of sys.flow p ≡ Checkpoints → ⊥)
    → Within (base_of sys state.low state p) (frontier_of (bounds_of sys.flow p) (front_of state.low p))
base-low sys state p w l n =
    let b = bounds_of sys.flow p in
    cond_both (takes_checkpoints (policy_of sys.flow p)) (frontier_of b (front_of state.settled p)) (frontier_of b (front_of state.low p)) (λ g. Within g (frontier_of b (front_of state.low p)))
    (λ e. absurd (n (takes-restoring (kind_of sys.flow p) (policy_of sys.flow p) (w.policies p l) e)))
    (λ e t i. i)

-- an offered frontier of a node without checkpoints holds its base
base-offered : (sys : System) (state : Machine) (lost : ℕ → Bool) (entries : List Entry) (offers : List Offer) → AreOffersKnown sys state lost state.low entries offers → (p : ℕ) → p < length sys.flow.nodes
    → (f : Front) → IsOffered sys.flow offers p (At f) → (way_of sys.flow p ≡ Checkpoints → ⊥)
    → Within (base_of sys state.low state p) (frontier_of (bounds_of sys.flow p) f)
base-offered sys state lost entries offers a p l f i n t k =
    ((offered-same sys state lost state.low entries offers a p l (At f)).0 i).2 t (base-low sys state p a.well_formed.flow l n t k)

-- the record of an offered frontier of a node with checkpoints
pub record-offered : (sys : System) (state : Machine) (lost : ℕ → Bool) (floor : List Front) (entries : List Entry) (offers : List Offer) → AreOffersKnown sys state lost floor entries offers → (p : ℕ) → p < length sys.flow.nodes
    → (f : Front) → IsOffered sys.flow offers p (At f) → way_of sys.flow p ≡ Checkpoints
    → IsFound (λ (r : Recorded). IsRecorded sys state p r.front r) f (records_of offers p)
record-offered sys state lost floor entries offers a p l f i e =
    let o = a.each p l in
    let b = bounds_of sys.flow p in
    let is = listed-low sys state lost floor entries offers p o o.offer.offered (subst (λ way. OffersBy b entries p o.node way o.offer.offered) e o.is.offered) in
    let d = records-are sys state lost floor entries offers p o ∙ ap listed_records is in
    found-record (λ (q : Recorded). IsRecorded sys state p q.front q) f (records_of offers p)
    (subst (λ (rs : List Recorded). AllByRecursion (λ (q : Recorded). IsRecorded sys state p q.front q) rs) (sym d) (listing sys state lost floor entries offers a p l e).recorded)
    (listed-offered sys.flow offers p f (ap offered_range (offered-is sys state lost floor entries offers p o ∙ is)) i)

-- ---- the same counts

pub delivered-thinned : (sys : System) (state : Machine) (lost : ℕ → Bool) (floor : List Front) (entries : List Entry) (offers : List Offer) (a : AreOffersKnown sys state lost floor entries offers) (d : ℕ) (l : d < length sys.flow.edges)
    → IsWholeView sys state floor (receiver sys.flow d) (a.each (receiver sys.flow d) (a.well_formed.flow.receivers_declared d l)).node → (f : Frontier) → Within (base_of sys floor state (receiver sys.flow d)) f
    → cover (bounds_of sys.flow (receiver sys.flow d)) (filter f (stamps_on d (delivered_to offers (receiver sys.flow d))))
    ≡ cover (bounds_of sys.flow (receiver sys.flow d)) (filter f (map (λ (m : Message). m.at) (delivered_messages (events state.history) d)))
delivered-thinned sys state lost floor entries offers a d l k f w =
    let p = receiver sys.flow d in
    let b = bounds_of sys.flow p in
    let o = a.each p (a.well_formed.flow.receivers_declared d l) in
    ap (λ (ms : List Counted). cover b (filter f (stamps_on d ms))) (delivered-is sys state lost floor entries offers p o)
    ∙ thinned-covers b (base_of sys floor state p) (map (λ (m : Message). m.at) (delivered_messages (events state.history) d)) (stamps_on d o.node.stamps.delivered)
    (thinned-whole (base_of sys floor state p) (map (λ (m : Message). m.at) (delivered_messages (events state.history) d)) (stamps_on d o.node.stamps.delivered) (k.delivered d refl)) f w

delivered-same : (sys : System) (state : Machine) (lost : ℕ → Bool) (entries : List Entry) (offers : List Offer) (a : AreOffersKnown sys state lost state.low entries offers)
    → AreWholeFrom sys state state.low 0 a.view → (d : ℕ) → d < length sys.flow.edges → (cut : Cut)
    → IsOffered sys.flow offers (receiver sys.flow d) cut → (covers_of sys.flow offers).delivered d cut ≡ (covers_in sys state).delivered d cut
delivered-same sys state lost entries offers a whole d l Present i =
    delivered-thinned sys state lost state.low entries offers a d l (a.each_whole (receiver sys.flow d) (a.well_formed.flow.receivers_declared d l) whole) (everything (bounds_of sys.flow (receiver sys.flow d))) (λ t k. base-domain sys state.low state (receiver sys.flow d) t k)
delivered-same sys state lost entries offers a whole d l (At f) i = by (way_of sys.flow (receiver sys.flow d)) refl
  where
    p : ℕ
    p = receiver sys.flow d

    ps : receiver sys.flow d < length sys.flow.nodes
    ps = a.well_formed.flow.receivers_declared d l

    b : Bounds
    b = bounds_of sys.flow (receiver sys.flow d)

    g : Frontier
    g = node_frontier sys.flow (receiver sys.flow d) f

    ours : Restoring → Frontier
    ours way = cond (takes_its_cut way) (node_frontier sys.flow (receiver sys.flow d) f) (delivered_in sys.flow offers d way (At f))

    theirs : Restoring → Frontier
    theirs way = cond (takes_its_cut way) (node_frontier sys.flow (receiver sys.flow d) f)
        (cover (bounds_of sys.flow (receiver sys.flow d)) (stamps_inside (node_frontier sys.flow (receiver sys.flow d) f) (delivered_messages (events state.history) d)))

    thin : (way_of sys.flow (receiver sys.flow d) ≡ Checkpoints → ⊥)
        → cover (bounds_of sys.flow (receiver sys.flow d)) (filter (node_frontier sys.flow (receiver sys.flow d) f) (stamps_on d (delivered_to offers (receiver sys.flow d))))
        ≡ cover (bounds_of sys.flow (receiver sys.flow d)) (stamps_inside (node_frontier sys.flow (receiver sys.flow d) f) (delivered_messages (events state.history) d))
    thin n = delivered-thinned sys state lost state.low entries offers a d l (a.each_whole (receiver sys.flow d) ps whole) (node_frontier sys.flow (receiver sys.flow d) f) (base-offered sys state lost entries offers a (receiver sys.flow d) ps f i n)

    by : (way : Restoring) → way_of sys.flow (receiver sys.flow d) ≡ way → ours (way_of sys.flow (receiver sys.flow d)) ≡ theirs (way_of sys.flow (receiver sys.flow d))
    by Batches e = ap ours e ∙ thin (λ c. let x : Batches ≡ Checkpoints = sym e ∙ c in cc) ∙ sym (ap theirs e)
    by Bound e = ap ours e ∙ sym (ap theirs e)
    by Anything e = ap ours e ∙ sym (ap theirs e)
    by Checkpoints e =
        let k = record-offered sys state lost state.low entries offers a (receiver sys.flow d) ps f i e in
        ap ours e ∙ ap (recorded_delivered (bounds_of sys.flow (receiver sys.flow d)) d) k.at
        ∙ k.holds.delivered d l refl ∙ ap (λ (h : Front). (covers_in sys state).delivered d (At h)) k.front
    by Events e = ap ours e ∙ thin (λ c. let x : Events ≡ Checkpoints = sym e ∙ c in cc) ∙ sym (ap theirs e)

pub notified-thinned : (sys : System) (state : Machine) (lost : ℕ → Bool) (floor : List Front) (entries : List Entry) (offers : List Offer) (a : AreOffersKnown sys state lost floor entries offers) (p : ℕ) (l : p < length sys.flow.nodes)
    → IsWholeView sys state floor p (a.each p l).node → (f : Frontier) → Within (base_of sys floor state p) f
    → cover (bounds_of sys.flow p) (filter f (notified_of offers p)) ≡ cover (bounds_of sys.flow p) (filter f (flat_map (stamp_of_notice p) (events state.history)))
notified-thinned sys state lost floor entries offers a p l k f w =
    let b = bounds_of sys.flow p in
    let o = a.each p l in
    ap (λ (ts : List Stamp). cover b (filter f ts)) (notified-is sys state lost floor entries offers p o)
    ∙ thinned-covers b (base_of sys floor state p) (flat_map (stamp_of_notice p) (events state.history)) o.node.stamps.notified
    (thinned-whole (base_of sys floor state p) (flat_map (stamp_of_notice p) (events state.history)) o.node.stamps.notified k.notified) f w

notified-same : (sys : System) (state : Machine) (lost : ℕ → Bool) (entries : List Entry) (offers : List Offer) (a : AreOffersKnown sys state lost state.low entries offers)
    → AreWholeFrom sys state state.low 0 a.view → (p : ℕ) → p < length sys.flow.nodes → (cut : Cut)
    → IsOffered sys.flow offers p cut → (covers_of sys.flow offers).notified p cut ≡ (covers_in sys state).notified p cut
notified-same sys state lost entries offers a whole p l Present i =
    notified-thinned sys state lost state.low entries offers a p l (a.each_whole p l whole) (everything (bounds_of sys.flow p)) (λ t k. base-domain sys state.low state p t k)
notified-same sys state lost entries offers a whole p l (At f) i = elim (cases_Bool (takes_its_notices (kind_of sys.flow p) (policy_of sys.flow p))) [
  | inl e ↦ ap (λ c. cond c (node_frontier sys.flow p f) (ours (way_of sys.flow p))) e ∙ sym (ap (λ c. cond c (node_frontier sys.flow p f) theirs) e)
  | inr e ↦
      ap (λ c. cond c (node_frontier sys.flow p f) (ours (way_of sys.flow p))) e
      ∙ by (way_of sys.flow p) refl e
      ∙ sym (ap (λ c. cond c (node_frontier sys.flow p f) theirs) e)
]
  where
    ours : Restoring → Frontier
    ours way = notified_in sys.flow offers p way (At f)

    theirs : Frontier
    theirs = cover (bounds_of sys.flow p) (notified_inside p (node_frontier sys.flow p f) (events state.history))

    thin : (way_of sys.flow p ≡ Checkpoints → ⊥)
        → cover (bounds_of sys.flow p) (filter (node_frontier sys.flow p f) (notified_of offers p))
        ≡ cover (bounds_of sys.flow p) (notified_inside p (node_frontier sys.flow p f) (events state.history))
    thin n = notified-thinned sys state lost state.low entries offers a p l (a.each_whole p l whole) (node_frontier sys.flow p f) (base-offered sys state lost entries offers a p l f i n)

    by : (way : Restoring) → way_of sys.flow p ≡ way → takes_its_notices (kind_of sys.flow p) (policy_of sys.flow p) ≡ false → ours (way_of sys.flow p) ≡ theirs
    by Batches e n = ap ours e ∙ thin (λ c. let x : Batches ≡ Checkpoints = sym e ∙ c in cc)
    by Bound e n = ap ours e ∙ thin (λ c. let x : Bound ≡ Checkpoints = sym e ∙ c in cc)
    by Anything e n = ap ours e ∙ thin (λ c. let x : Anything ≡ Checkpoints = sym e ∙ c in cc)
    by Checkpoints e n =
        let k = record-offered sys state lost state.low entries offers a p l f i e in
        ap ours e ∙ ap (recorded_notified (bounds_of sys.flow p)) k.at ∙ k.holds.notified
        ∙ ap (λ (h : Front). (covers_in sys state).notified p (At h)) k.front
        ∙ ap (λ c. cond c (node_frontier sys.flow p f) theirs) n
    by Events e n = ap ours e ∙ thin (λ c. let x : Events ≡ Checkpoints = sym e ∙ c in cc)

pub filter-split : (e : ℕ) (f : Frontier) (ms : List Counted)
    → filter (λ (m : Counted). m.edge == e && all_inside f m.causes) ms ≡ filter (λ (m : Counted). all_inside f m.causes) (counted_on_edge e ms)
filter-split e f [] = refl
filter-split e f (m ∷ ms) = by (m.edge == e) (filter-split e f ms)
  where
    by : (c : Bool) → filter (λ (x : Counted). x.edge == e && all_inside f x.causes) ms ≡ filter (λ (x : Counted). all_inside f x.causes) (counted_on_edge e ms)
        → cond (c && all_inside f m.causes) (m ∷ filter (λ (x : Counted). x.edge == e && all_inside f x.causes) ms) (filter (λ (x : Counted). x.edge == e && all_inside f x.causes) ms)
        ≡ filter (λ (x : Counted). all_inside f x.causes) (cond c (m ∷ counted_on_edge e ms) (counted_on_edge e ms))
    by true r = ap (λ xs. cond (all_inside f m.causes) (m ∷ xs) xs) r
    by false r = r

-- where a node cannot send again, it is told where it sent
pub told-base : (flow : Dataflow) (p : ℕ) (base : Frontier) → can_resend (policy_of flow p) ≡ false → base_of_sent flow p base ≡ base
told-base flow p base r = ap (λ c. cond (not c) base (λ t. true)) r

pub sent-thinned : (sys : System) (state : Machine) (lost : ℕ → Bool) (floor : List Front) (entries : List Entry) (offers : List Offer) (a : AreOffersKnown sys state lost floor entries offers) (e : ℕ) (l : e < length sys.flow.edges)
    → IsWholeView sys state floor (sender sys.flow e) (a.each (sender sys.flow e) (a.well_formed.flow.senders_declared e l)).node → is_single_kind (kind_of sys.flow (sender sys.flow e)) ≡ true
    → can_resend (policy_of sys.flow (sender sys.flow e)) ≡ false → (f : Frontier) → Within (base_of sys floor state (sender sys.flow e)) f
    → cover (bounds_of sys.flow (receiver sys.flow e)) (stamps_on_from e f (offered_sent offers (sender sys.flow e)))
    ≡ cover (bounds_of sys.flow (receiver sys.flow e)) (stamps_from f (sent_messages sys (events state.history) e))
sent-thinned sys state lost floor entries offers a e l k n r f w =
    let p = sender sys.flow e in
    let b = bounds_of sys.flow (receiver sys.flow e) in
    let o = a.each p (a.well_formed.flow.senders_declared e l) in
    let base = base_of sys floor state p in
    let ms = o.node.stamps.sent in
    let stand : StandForSent true sys (events state.history) p base e (counted_on_edge e ms) =
    subst (λ g. StandForSent true sys (events state.history) p g e (counted_on_edge e ms)) (told-base sys.flow p base r)
    (subst (λ c. StandForSent (true && not c) sys (events state.history) p (base_of_sent sys.flow p base) e (counted_on_edge e ms)) r (k.sent n e l refl)) in
    ap (λ (xs : List Counted). cover b (stamps_on_from e f xs)) (sent-is sys state lost floor entries offers p o)
    ∙ ap (λ (xs : List Counted). cover b (map (λ (m : Counted). m.at) xs)) (filter-split e f ms)
    ∙ sent-covers sys (events state.history) e base (counted_on_edge e ms) n stand (λ t i. base-domain sys floor state p t i) f w b

-- all that a node sent that cannot send it again: of a sequence by its numbers, and else by the whole of where it sent
pub sent-everything : (sys : System) (state : Machine) (lost : ℕ → Bool) (floor : List Front) (entries : List Entry) (offers : List Offer) (a : AreOffersKnown sys state lost floor entries offers) (e : ℕ) (l : e < length sys.flow.edges)
    → can_resend (policy_of sys.flow (sender sys.flow e)) ≡ false
    → (is_sequence_kind (kind_of sys.flow (sender sys.flow e)) ≡ true
    → StandForNumbered sys (events state.history) e (a.each (sender sys.flow e) (a.well_formed.flow.senders_declared e l)).node.stamps.sent)
    → (is_sequence_kind (kind_of sys.flow (sender sys.flow e)) ≡ false → IsWholeView sys state floor (sender sys.flow e) (a.each (sender sys.flow e) (a.well_formed.flow.senders_declared e l)).node)
    → cover (bounds_of sys.flow (receiver sys.flow e)) (stamps_on_from e (everything (bounds_of sys.flow (sender sys.flow e))) (offered_sent offers (sender sys.flow e)))
    ≡ cover (bounds_of sys.flow (receiver sys.flow e)) (stamps_from (everything (bounds_of sys.flow (sender sys.flow e))) (sent_messages sys (events state.history) e))
sent-everything sys state lost floor entries offers a e l r numbered whole = elim (cases_Bool (is_sequence_kind (kind_of sys.flow (sender sys.flow e)))) [
  | inl s ↦
      let p = sender sys.flow e in
      let o = a.each p (a.well_formed.flow.senders_declared e l) in
      let b = bounds_of sys.flow (receiver sys.flow e) in
      ap (λ (xs : List Counted). cover b (stamps_on_from e (everything (bounds_of sys.flow p)) xs)) (sent-is sys state lost floor entries offers p o)
      ∙ numbered-covers sys (events state.history) e o.node.stamps.sent (numbered s) (a.in_domain p)
  | inr n ↦ sent-thinned sys state lost floor entries offers a e l (whole n) (no_sequence-single (kind_of sys.flow (sender sys.flow e)) n) r (everything (bounds_of sys.flow (sender sys.flow e))) (λ t i. base-domain sys floor state (sender sys.flow e) t i)
]

pub output-single : (kind : Kind) → (kind ≡ OutputEpoch) ⊎ (kind ≡ OutputNumber) → is_single_kind kind ≡ true
output-single kind (inl e) = ap is_single_kind e
output-single kind (inr e) = ap is_single_kind e

discarded-same : (sys : System) (state : Machine) (lost : ℕ → Bool) (entries : List Entry) (offers : List Offer) (a : AreOffersKnown sys state lost state.low entries offers)
    → AreWholeFrom sys state state.low 0 a.view → (e : ℕ) → e < length sys.flow.edges → (cut : Cut)
    → IsOffered sys.flow offers (sender sys.flow e) cut → (covers_of sys.flow offers).discarded e cut ≡ (covers_in sys state).discarded e cut
discarded-same sys state lost entries offers a whole e l Present i = elim (cases_Bool (can_resend (policy_of sys.flow (sender sys.flow e)))) [
  | inl r ↦
      let b = bounds_of sys.flow (receiver sys.flow e) in
      let every = everything (bounds_of sys.flow (sender sys.flow e)) in
      ap (λ c. cond c nothing (cover b (stamps_on_from e every (offered_sent offers (sender sys.flow e))))) r
      ∙ sym (ap (λ c. cond c nothing (cover b (stamps_from every (sent_messages sys (events state.history) e)))) r)
  | inr r ↦
      let known = a.each_whole (sender sys.flow e) (a.well_formed.flow.senders_declared e l) whole in
      ap (λ (g : Frontier). cond (can_resend (policy_of sys.flow (sender sys.flow e))) nothing g)
      (sent-everything sys state lost state.low entries offers a e l r (λ s. known.numbered s (ap not r) e l refl) (λ s. known))
]
discarded-same sys state lost entries offers a whole e l (At f) i = elim (cases_Bool (can_resend (policy_of sys.flow (sender sys.flow e)))) [
  | inl r ↦
      ap (λ c. cond c nothing (ours (way_of sys.flow (sender sys.flow e)))) r
      ∙ sym (ap (λ c. cond c nothing (theirs (way_of sys.flow (sender sys.flow e)))) r)
  | inr r ↦
      ap (λ c. cond c nothing (ours (way_of sys.flow (sender sys.flow e)))) r
      ∙ by (way_of sys.flow (sender sys.flow e)) refl r
      ∙ sym (ap (λ c. cond c nothing (theirs (way_of sys.flow (sender sys.flow e)))) r)
]
  where
    p : ℕ
    p = sender sys.flow e

    ps : sender sys.flow e < length sys.flow.nodes
    ps = a.well_formed.flow.senders_declared e l

    ours : Restoring → Frontier
    ours way = discarded_at sys.flow e way (sent_in sys.flow offers e way (At f)) f

    theirs : Restoring → Frontier
    theirs way = discarded_at sys.flow e way
        (cover (bounds_of sys.flow (receiver sys.flow e)) (stamps_from (node_frontier sys.flow (sender sys.flow e) f) (sent_messages sys (events state.history) e))) f

    thin : (way_of sys.flow (sender sys.flow e) ≡ Checkpoints → ⊥) → is_single_kind (kind_of sys.flow (sender sys.flow e)) ≡ true
        → can_resend (policy_of sys.flow (sender sys.flow e)) ≡ false
        → cover (bounds_of sys.flow (receiver sys.flow e)) (stamps_on_from e (node_frontier sys.flow (sender sys.flow e) f) (offered_sent offers (sender sys.flow e)))
        ≡ cover (bounds_of sys.flow (receiver sys.flow e)) (stamps_from (node_frontier sys.flow (sender sys.flow e) f) (sent_messages sys (events state.history) e))
    thin n s r = sent-thinned sys state lost state.low entries offers a e l (a.each_whole (sender sys.flow e) ps whole) s r (node_frontier sys.flow (sender sys.flow e) f) (base-offered sys state lost entries offers a (sender sys.flow e) ps f i n)

    by : (way : Restoring) → way_of sys.flow (sender sys.flow e) ≡ way → can_resend (policy_of sys.flow (sender sys.flow e)) ≡ false
        → ours (way_of sys.flow (sender sys.flow e)) ≡ theirs (way_of sys.flow (sender sys.flow e))
    by Batches k r =
        ap ours k
        ∙ thin (λ c. let x : Batches ≡ Checkpoints = sym k ∙ c in cc) (ap is_single_kind (by_batches-input (kind_of sys.flow p) (policy_of sys.flow p) k)) r
        ∙ sym (ap theirs k)
    by Bound k r =
        ap ours k
        ∙ thin (λ c. let x : Bound ≡ Checkpoints = sym k ∙ c in cc) (output-single (kind_of sys.flow p) (bound-output (kind_of sys.flow p) (policy_of sys.flow p) k)) r
        ∙ sym (ap theirs k)
    by Anything k r = ap ours k ∙ sym (ap theirs k)
    by Checkpoints k r =
        let c = record-offered sys state lost state.low entries offers a (sender sys.flow e) ps f i k in
        ap ours k ∙ ap (recorded_discarded (bounds_of sys.flow (receiver sys.flow e)) e) c.at
        ∙ c.holds.discarded e l refl
        ∙ ap (λ (h : Front). (covers_in sys state).discarded e (At h)) c.front
        ∙ ap (λ x. cond x nothing (theirs (way_of sys.flow (sender sys.flow e)))) r
    by Events k r = absurd (two_ways (can_resend (policy_of sys.flow p)) (ap can_resend (events-full (kind_of sys.flow p) (policy_of sys.flow p) k)) r)

pub arrived-same : (sys : System) (state : Machine) (lost : ℕ → Bool) (floor : List Front) (entries : List Entry) (offers : List Offer) → AreOffersKnown sys state lost floor entries offers → (e : ℕ) → e < length sys.flow.edges → (f : Frontier)
    → (covers_of sys.flow offers).arrived e f ≡ (covers_in sys state).arrived e f
arrived-same sys state lost floor entries offers a e l f =
    let p = sender sys.flow e in
    let o = a.each p (a.well_formed.flow.senders_declared e l) in
    counted-arrive sys (events state.history) e (table_count f (counts_offered offers p)) f
    (λ s. ap (table_count f) (table-is sys state lost floor entries offers p o) ∙ o.known.table s f)

-- ---- all of it

pub of_flow : (sys : System) (state : Machine) (lost : ℕ → Bool) (floor : List Front) (entries : List Entry) (offers : List Offer) → AreOffersKnown sys state lost floor entries offers → AreOffersOf sys.flow offers
unfolding AreRecordsRight
of_flow sys state lost floor entries offers a = record {
  one_each = a.one_each;
  records = λ p l.
      let o = a.each p l in
      subst (λ (rs : List Recorded). AllByRecursion (IsRecordOf sys.flow p) rs) (sym (records-are sys state lost floor entries offers p o))
      (records-right sys state lost floor entries offers a p l o (way_of sys.flow p) refl o.offer.offered o.is.offered).0;
  range = λ p l.
      let o = a.each p l in
      subst (λ (x : Offered). IsRangeOf (bounds_of sys.flow p) (offered_range x)) (sym (offered-is sys state lost floor entries offers p o))
      (range-right sys state lost floor entries offers a p l o (way_of sys.flow p) refl o.offer.offered o.is.offered);
  form_fits = λ p l.
      let o = a.each p l in
      subst (λ (x : Offered). IsFormOf (way_of sys.flow p) x) (sym (offered-is sys state lost floor entries offers p o))
      (records-right sys state lost floor entries offers a p l o (way_of sys.flow p) refl o.offer.offered o.is.offered).2;
  delivered = λ p l.
      let o = a.each p l in
      subst (λ (ms : List Counted). AreAtEdgeStamps sys.flow ms) (sym (delivered-is sys state lost floor entries offers p o)) o.known.fits.delivered;
  notified = λ p l.
      let o = a.each p l in
      subst (λ (ts : List Stamp). AllByRecursion (λ t. in_domain (bounds_of sys.flow p) t ≡ true) ts) (sym (notified-is sys state lost floor entries offers p o)) o.known.fits.notified;
  sent = λ p l.
      let o = a.each p l in
      subst (λ (ms : List Counted). AreAtEdgeStamps sys.flow ms) (sym (sent-is sys state lost floor entries offers p o)) o.known.fits.sent;
  batches = sent-of_batches sys state lost floor entries offers a;
}

-- the records of each node ascend
pub offers-ascend : (sys : System) (state : Machine) (lost : ℕ → Bool) (floor : List Front) (entries : List Entry) (offers : List Offer) → AreOffersKnown sys state lost floor entries offers
    → RecordsAscend sys.flow offers
unfolding AreRecordsRight
offers-ascend sys state lost floor entries offers a = λ p l.
    let x = a.each p l in
    subst (λ (rs : List Recorded). Ascend (bounds_of sys.flow p) rs) (sym (records-are sys state lost floor entries offers p x))
    (records-right sys state lost floor entries offers a p l x (way_of sys.flow p) refl x.offer.offered x.is.offered).1

-- what is offered by what is known is what the machine offers
pub offers-in : (sys : System) (state : Machine) (lost : ℕ → Bool) (view : List NodeView) (entries : List Entry) (offers : List Offer)
    → AreOffersBy sys.flow entries 0 view offers → IsViewOf sys state lost state.low view entries → AreWholeFrom sys state state.low 0 view
    → AreOffersIn sys state lost offers
unfolding are-there
offers-in sys state lost view entries offers o v whole =
    let a = are-there sys state lost state.low view entries offers v o in record {
      of_flow = of_flow sys state lost state.low entries offers a;
      ascending = offers-ascend sys state lost state.low entries offers a;
      offered = offered-same sys state lost state.low entries offers a;
      delivered = delivered-same sys state lost entries offers a whole;
      discarded = discarded-same sys state lost entries offers a whole;
      notified = notified-same sys state lost entries offers a whole;
      arrived = arrived-same sys state lost state.low entries offers a;
    }
