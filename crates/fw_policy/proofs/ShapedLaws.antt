-- What is offered by views and entries of a dataflow is of that dataflow.
use Rattle.std.proofs.Common.{◌≡◌, ℕ, zero, suc, ◌+◌, ◌<◌, true, not, ◌&&◌, ◌==◌, List, [], ◌∷◌, length, map, slice_index_or, refl, sym, ◌∙◌, ap, subst, arith}
use Rattle.std.specs.List.{AllByRecursion, flat_map}
use Rattle.std.proofs.lemmas.Bool.{cond_both, and_parts, eqb-true}
use Rattle.fw_lemmas.proofs.Each.{each-append, each-kept}
use Rattle.fw_time.specs.Stamp.{in_domain}
use Rattle.fw_time.specs.declared.stamp.Bounds.{Bounds}
use Rattle.fw_frontier.specs.Frontier.{Frontier}
use Rattle.fw_frontier.specs.Front.{Front, IsCanonical, is_within}
use Rattle.fw_flow.specs.declared.choice.Counted.{Counted}
use Rattle.fw_flow.specs.declared.choice.Offer.{Offer}
use Rattle.fw_flow.specs.declared.choice.Offered.{Offered}
use Rattle.fw_flow.specs.declared.choice.Offered.TheVariants as form
use Rattle.fw_flow.specs.declared.choice.Stamps.{Stamps}
use Rattle.fw_flow.specs.Kind.{Kind}
use Rattle.fw_flow.specs.declared.kind.Kind.TheVariants.{Input, OutputEpoch, OutputNumber}
use Rattle.fw_flow.specs.declared.kind.Policy.{Policy}
use Rattle.fw_flow.specs.declared.kind.Policy.TheVariants as policy
use Rattle.fw_flow.specs.declared.restoring.Restoring.{Restoring}
use Rattle.fw_flow.specs.declared.restoring.Restoring.TheVariants.{Batches, Bound, Anything, Checkpoints, Events}
use Rattle.fw_flow.specs.Dataflow.{Dataflow, kind_of, policy_of, sender, bounds_of}
use Rattle.fw_flow.specs.Restoring.{restoring_of_policy, restoring, way_of}
use Rattle.fw_flow.specs.WellFormed.{IsWellFormed}
use Rattle.fw_model.specs.Choice.{until}
use Rattle.fw_model.specs.Offers.{offered_by, listed_records, offered_range, offered_sent, counted_on_edge, IsRecordOf, IsRangeOf, is_by_range, IsFormOf, HasOneCause, AreOfBatches, AreAtEdgeStamps, AreOffersOf}
use Rattle.fw_model.proofs.ChoiceLaws.{by_batches-input, bounds-input}
use Rattle.fw_model.proofs.LowLaws.{none-canonical}
use Rattle.fw_model.proofs.UntilLaws.{numbers, canonical-until}
use Rattle.fw_policy.specs.declared.view.Border.{Border}
use Rattle.fw_policy.specs.declared.view.Border.TheVariants.{Inner, Source, Output}
use Rattle.fw_keep.specs.declared.entry.Entry.{Entry}
use Rattle.fw_policy.specs.declared.view.NodeView.{NodeView}
use Rattle.fw_keep.specs.declared.entry.Written.{Written}
use Rattle.fw_keep.specs.declared.entry.Written.TheVariants as written
use Rattle.fw_policy.specs.Known.{FitsWay, AreNodesKnown}
use Rattle.fw_policy.specs.Offering.{record_in, record_by, records_by, empty_record, stamp_of_written, unlogged_by, IsRange, IsOfBatches, IsOfBound, OffersBy, IsOfferBy, AreOffersBy}
use Rattle.fw_record.specs.OfNode.{AreOfDomain}
use Rattle.fw_policy.specs.Shaped.{FitsKind, IsWrittenOf, IsViewFor, AreViewsFrom, FitsFlow}

abbrev AreWritten : Dataflow → List Entry → Type 0
AreWritten flow entries = AllByRecursion (λ (entry : Entry). IsWrittenOf flow entry.node entry.written) entries

-- ---- what the entries hold

record-held : (flow : Dataflow) (p : ℕ) (w : Written) → IsWrittenOf flow p w → AllByRecursion (IsRecordOf flow p) (record_in w)
record-held flow p (written.Checkpoint r stamps sent) k = (k, tt)
record-held flow p (written.Event event) k = tt

records-held : (flow : Dataflow) (p : ℕ) (entries : List Entry) → AreWritten flow entries → AllByRecursion (IsRecordOf flow p) (records_by p entries)
records-held flow p [] a = tt
records-held flow p (entry ∷ entries) a =
    each-append (IsRecordOf flow p) (record_by p entry) (records_by p entries)
    (cond_both (entry.node == p && entry.acknowledged) (record_in entry.written) [] (AllByRecursion (IsRecordOf flow p))
    (λ e. record-held flow p entry.written (subst (λ q. IsWrittenOf flow q entry.written) (eqb-true entry.node p (and_parts (entry.node == p) entry.acknowledged e).0) a.0)) (λ e. tt))
    (records-held flow p entries a.1)

stamp-held : (flow : Dataflow) (p : ℕ) (w : Written) → IsWrittenOf flow p w → AreOfDomain flow p (stamp_of_written w)
stamp-held flow p (written.Checkpoint r stamps sent) k = tt
stamp-held flow p (written.Event event) k = (k, tt)

stamps-held : (flow : Dataflow) (p : ℕ) (entries : List Entry) → AreWritten flow entries → AreOfDomain flow p (flat_map (unlogged_by p) entries)
stamps-held flow p [] a = tt
stamps-held flow p (entry ∷ entries) a =
    each-append (λ t. in_domain (bounds_of flow p) t ≡ true) (unlogged_by p entry) (flat_map (unlogged_by p) entries)
    (cond_both (entry.node == p && not entry.acknowledged) (stamp_of_written entry.written) [] (AreOfDomain flow p)
    (λ e. stamp-held flow p entry.written (subst (λ q. IsWrittenOf flow q entry.written) (eqb-true entry.node p (and_parts (entry.node == p) (not entry.acknowledged) e).0) a.0)) (λ e. tt))
    (stamps-held flow p entries a.1)

-- ---- the views are what the code asks for

-- a border that fits the kind fits the way in which a node of the kind is restored
border-fits : (kind : Kind) (asks : Policy) (x : Border) → FitsKind kind x → FitsWay (restoring kind asks) x
border-fits Input asks Inner k = absurd k
border-fits Input asks (Source n y) k = k
border-fits Input asks (Output n) k = absurd k
border-fits OutputEpoch asks Inner k = absurd k
border-fits OutputEpoch asks (Source n y) k = absurd k
border-fits OutputEpoch asks (Output n) k = tt
border-fits OutputNumber asks Inner k = absurd k
border-fits OutputNumber asks (Source n y) k = absurd k
border-fits OutputNumber asks (Output n) k = tt
border-fits kind asks x k = by asks
  where
    by : (asks : Policy) → FitsWay (restoring_of_policy asks) x
    by policy.None = tt
    by policy.Lazy = tt
    by policy.Logged = tt
    by policy.Eager = tt
    by policy.Full = tt

known-from : (flow : Dataflow) (entries : List Entry) (p : ℕ) (view : List NodeView) → AreWritten flow entries → AreViewsFrom flow p view → AreNodesKnown flow entries p view
known-from flow entries p [] w v = tt
known-from flow entries p (node ∷ view) w v = (
  record {
    settled = v.0.settled;
    border = border-fits (kind_of flow p) (policy_of flow p) node.border v.0.border;
    unlogged = λ way. each-append (λ t. in_domain (bounds_of flow p) t ≡ true) (flat_map (unlogged_by p) entries) node.lost (stamps-held flow p entries w) v.0.lost;
  },
  known-from flow entries (suc p) view w v.1,
)

pub shaped-known : (flow : Dataflow) (view : List NodeView) (entries : List Entry) → FitsFlow flow view entries → AreNodesKnown flow entries 0 view
shaped-known flow view entries s = known-from flow entries 0 view s.written s.views

-- ---- what one node offers

-- what is offered is of node p, that is restored in this way
record IsRight (flow : Dataflow) (p : ℕ) (way : Restoring) (offered : Offered) : Type 0 where
  pub records : AllByRecursion (IsRecordOf flow p) (listed_records offered)
  pub range : IsRangeOf (bounds_of flow p) (offered_range offered)
  pub form_fits : IsFormOf way offered

right-range : (flow : Dataflow) (p : ℕ) (way : Restoring) (low : Front) (g : Frontier) (offered : Offered) → IsCanonical (bounds_of flow p) low → is_by_range way ≡ true
    → IsRange (bounds_of flow p) low g offered → IsRight flow p way offered
right-range flow p way low g (form.Listed records) c by_range k = absurd k
right-range flow p way low g (form.Between least greatest) c by_range k =
    record { records = tt; range = (subst (IsCanonical (bounds_of flow p)) (sym k.0) c, k.1.canonical); form_fits = by_range }
right-range flow p way low g (form.Batches least greatest exhausted) c by_range k = absurd k

right-batches : (flow : Dataflow) (p : ℕ) (low : Front) (x : Border) (offered : Offered) → bounds_of flow p ≡ numbers → IsCanonical (bounds_of flow p) low → FitsWay Batches x → IsOfBatches low x offered
    → IsRight flow p Batches offered
right-batches flow p low Inner offered b c fits k = absurd k
right-batches flow p low (Source n y) offered b c fits k = subst (IsRight flow p Batches) (sym k) (record {
  records = tt;
  range = (c, subst (λ (d : Bounds). IsCanonical d (until n)) (sym b) (canonical-until n fits));
  form_fits = refl;
})
right-batches flow p low (Output n) offered b c fits k = absurd k

right-bound : (flow : Dataflow) (p : ℕ) (low settled : Front) (x : Border) (offered : Offered) → IsCanonical (bounds_of flow p) low → IsOfBound (bounds_of flow p) low settled x offered
    → IsRight flow p Bound offered
right-bound flow p low settled Inner offered c k = absurd k
right-bound flow p low settled (Source n y) offered c k = absurd k
right-bound flow p low settled (Output n) offered c k = right-range flow p Bound low _ offered c refl k

right-by : (flow : Dataflow) (entries : List Entry) (p : ℕ) (node : NodeView) (offered : Offered) → AreWritten flow entries → IsViewFor flow p node → (way : Restoring) → way_of flow p ≡ way
    → OffersBy (bounds_of flow p) entries p node way offered → IsRight flow p way offered
right-by flow entries p node offered w v Batches e k =
    right-batches flow p node.low node.border offered (bounds-input flow p (by_batches-input (kind_of flow p) (policy_of flow p) e)) v.low (subst (λ way. FitsWay way node.border) e (border-fits (kind_of flow p) (policy_of flow p) node.border v.border)) k
right-by flow entries p node offered w v Bound e k = right-bound flow p node.low node.settled node.border offered v.low k
right-by flow entries p node offered w v Anything e k = right-range flow p Anything node.low _ offered v.low refl k
right-by flow entries p node offered w v Checkpoints e k =
    let b = bounds_of flow p in
    let none : IsRecordOf flow p (empty_record b) = record { front = none-canonical b; notified = none-canonical b; delivered = tt; discarded = tt } in
    subst (IsRight flow p Checkpoints) (sym k) (record {
      records = each-kept (IsRecordOf flow p) (λ r. is_within node.low r.front) (empty_record b ∷ records_by p entries) (none, records-held flow p entries w);
      range = tt;
      form_fits = tt;
    })
right-by flow entries p node offered w v Events e k = right-range flow p Events node.low _ offered v.low refl k

-- ---- all of them

-- the offer at a place
abbrev IsAt : List Offer → ℕ → Offer → Type 0
IsAt [] i o = ⊥
IsAt (q ∷ os) zero o = q ≡ o
IsAt (q ∷ os) (suc i) o = IsAt os i o

at-map : {A : Type 0} (g : Offer → A) (d : A) (os : List Offer) (i : ℕ) (o : Offer) → IsAt os i o → slice_index_or (map g os) i d ≡ g o
at-map g d [] i o k = absurd k
at-map g d (q ∷ os) zero o k = ap g k
at-map g d (q ∷ os) (suc i) o k = at-map g d os i o k

-- the offer at a place and the view of node p
record IsBoth (flow : Dataflow) (entries : List Entry) (offers : List Offer) (i p : ℕ) : Type 0 where
  pub offer : Offer
  pub node : NodeView
  pub there : IsAt offers i offer
  pub view : IsViewFor flow p node
  pub is : IsOfferBy flow entries p node offer

both-at : (flow : Dataflow) (entries : List Entry) (n i : ℕ) (view : List NodeView) (offers : List Offer) → AreViewsFrom flow n view → AreOffersBy flow entries n view offers → i < length view
    → IsBoth flow entries offers i (n + i)
both-at flow entries n i [] offers v o l = absurd (omega arith)
both-at flow entries n i (node ∷ view) [] v o l = absurd o
both-at flow entries n zero (node ∷ view) (offer ∷ offers) v o l =
    let e : n ≡ n + 0 = omega arith in
    subst (λ p. IsBoth flow entries (offer ∷ offers) 0 p) e (record { offer = offer; node = node; there = refl; view = v.0; is = o.0 })
both-at flow entries n (suc i) (node ∷ view) (offer ∷ offers) v o l =
    let r = both-at flow entries (suc n) i view offers v.1 o.1 (omega arith) in
    let e : suc n + i ≡ n + suc i = omega arith in
    subst (λ p. IsBoth flow entries (offer ∷ offers) (suc i) p) e (record { offer = r.offer; node = r.node; there = r.there; view = r.view; is = r.is })

one-each : (flow : Dataflow) (entries : List Entry) (n : ℕ) (view : List NodeView) (offers : List Offer) → AreOffersBy flow entries n view offers → length offers ≡ length view
one-each flow entries n [] [] o = refl
one-each flow entries n [] (offer ∷ offers) o = absurd o
one-each flow entries n (node ∷ view) [] o = absurd o
one-each flow entries n (node ∷ view) (offer ∷ offers) o = ap (λ k. suc k) (one-each flow entries (suc n) view offers o.1)

-- what is offered by views and entries of a dataflow is of that dataflow
pub shaped-offers : (flow : Dataflow) (view : List NodeView) (entries : List Entry) (offers : List Offer) → IsWellFormed flow → length view ≡ length flow.nodes → FitsFlow flow view entries
    → AreOffersBy flow entries 0 view offers → AreOffersOf flow offers
shaped-offers flow view entries offers wf long s o = record {
  one_each = one-each flow entries 0 view offers o ∙ long;
  records = λ p l. subst (λ (y : Offered). AllByRecursion (IsRecordOf flow p) (listed_records y)) (sym (offered-is p l)) (right p l).records;
  range = λ p l. subst (λ (y : Offered). IsRangeOf (bounds_of flow p) (offered_range y)) (sym (offered-is p l)) (right p l).range;
  form_fits = λ p l. subst (λ (y : Offered). IsFormOf (way_of flow p) y) (sym (offered-is p l)) (right p l).form_fits;
  delivered = λ p l.
      let x = both p l in
      subst (λ (ms : List Counted). AreAtEdgeStamps flow ms) (sym (at-map (λ (y : Offer). y.stamps.delivered) [] offers p x.offer x.there ∙ ap (λ (y : Stamps). y.delivered) x.is.stamps)) x.view.delivered;
  notified = λ p l.
      let x = both p l in
      subst (AreOfDomain flow p) (sym (at-map (λ (y : Offer). y.stamps.notified) [] offers p x.offer x.there ∙ ap (λ (y : Stamps). y.notified) x.is.stamps)) x.view.notified;
  sent = λ p l. subst (λ (ms : List Counted). AreAtEdgeStamps flow ms) (sym (sent-is p l)) (both p l).view.sent;
  batches = λ e l.
      let p = sender flow e in
      let m = wf.senders_declared e l in
      subst (λ (y : Offered). AreOfBatches y (counted_on_edge e (offered_sent offers p))) (sym (offered-is p m)) (of_batches e p m (both p m).offer.offered (right p m).form_fits);
}
  where
    both : (p : ℕ) → p < length flow.nodes → IsBoth flow entries offers p p
    both p l = let e : 0 + p ≡ p = omega arith in subst (λ q. IsBoth flow entries offers p q) e (both-at flow entries 0 p view offers s.views o (subst (λ n. p < n) (sym long) l))

    offered-is : (p : ℕ) (l : p < length flow.nodes) → offered_by offers p ≡ (both p l).offer.offered
    offered-is p l = let x = both p l in at-map (λ (y : Offer). y.offered) (form.Listed []) offers p x.offer x.there

    sent-is : (p : ℕ) (l : p < length flow.nodes) → offered_sent offers p ≡ (both p l).node.stamps.sent
    sent-is p l = let x = both p l in at-map (λ (y : Offer). y.stamps.sent) [] offers p x.offer x.there ∙ ap (λ (y : Stamps). y.sent) x.is.stamps

    right : (p : ℕ) (l : p < length flow.nodes) → IsRight flow p (way_of flow p) (both p l).offer.offered
    right p l = let x = both p l in right-by flow entries p x.node x.offer.offered s.written x.view (way_of flow p) refl x.is.offered

    of_batches : (e p : ℕ) (l : p < length flow.nodes) (y : Offered) → IsFormOf (way_of flow p) y → AreOfBatches y (counted_on_edge e (offered_sent offers p))
    of_batches e p l (form.Listed records) fits = tt
    of_batches e p l (form.Between least greatest) fits = tt
    of_batches e p l (form.Batches least greatest exhausted) fits =
        subst (λ (ms : List Counted). AllByRecursion HasOneCause (counted_on_edge e ms)) (sym (sent-is p l))
        (each-kept HasOneCause (λ m. m.edge == e) (both p l).node.stamps.sent ((both p l).view.of_batches (by_batches-input (kind_of flow p) (policy_of flow p) fits)))
