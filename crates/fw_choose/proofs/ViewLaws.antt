-- What an engine knows of its nodes is so in each state for which it stands, and of its flow.
use Rattle.std.proofs.Common.{◌≡◌, ◌↔◌, ◌⊎◌, inl, inr, ℕ, zero, suc, ◌+◌, ◌<◌, ◌≤◌, Bool, true, false, not, cond, ◌&&◌, ◌||◌, ◌==◌, List, [], ◌∷◌, ◌++◌, length, map, filter, get_or, slice_index_or, Option, refl, sym, ◌∙◌, ap, subst, arith}
use Rattle.std.specs.List.{AllByRecursion, Contains, flat_map}
use Rattle.std.proofs.lemmas.Bool.{and_parts, and_from, eqb-true, both_ways}
use Rattle.std.proofs.lemmas.List.{get_or_default, length-append}
use Rattle.fw_lemmas.proofs.Each.{each-weaker, each-both, each-one, each-filter, each-kept}
use Rattle.fw_lemmas.proofs.Filters.{filter-all}
use Rattle.fw_time.specs.Stamp.{Stamp, in_domain}
use Rattle.fw_frontier.specs.Frontier.{Frontier}
use Rattle.fw_frontier.specs.Front.{Front, IsCanonical}
use Rattle.fw_flow.specs.declared.choice.Choice.{Choice}
use Rattle.fw_flow.specs.declared.choice.Counted.{Counted}
use Rattle.fw_flow.specs.declared.choice.Offer.{Offer}
use Rattle.fw_flow.specs.declared.choice.Stamps.{Stamps}
use Rattle.fw_flow.specs.declared.event.Event.{Event}
use Rattle.fw_flow.specs.declared.event.Message.{Message}
use Rattle.fw_flow.specs.Kind.{Kind}
use Rattle.fw_flow.specs.declared.kind.Kind.TheVariants.{Input, OutputEpoch, OutputNumber}
use Rattle.fw_flow.specs.declared.kind.Policy.TheVariants as policy
use Rattle.fw_flow.specs.Dataflow.{System, Dataflow, kind_of, sender, receiver, bounds_of, is_input_kind, is_output_kind, is_sequence_kind, greatest_number, HasEpochs, policy_of}
use Rattle.fw_flow.specs.NodeFunction.{event_node, event_stamp}
use Rattle.fw_flow.specs.Projection.{IsSentTable}
use Rattle.fw_model.specs.Sending.{is_single_kind}
use Rattle.fw_model.specs.Certificates.{IsTrailBy}
use Rattle.fw_model.specs.Choice.{kept, IsCandidate, IsConsistentBy, IsLargestBy, IsLargest}
use Rattle.fw_model.specs.Choosing.{CanChoose, choice_at}
use Rattle.fw_model.specs.Covers.{stamp_of_notice}
use Rattle.fw_model.specs.EventStamps.{StandForSent, StandForNumbered, AreStampsOf, IsOfCause, base_of_sent, tells_sent, AreStampsIf}
use Rattle.fw_model.specs.Floors.{IsFloor}
use Rattle.fw_model.specs.History.{injected_count, delivered_messages, IsLegal}
use Rattle.fw_model.specs.Machine.{Machine, SerialEvent, events, front_of}
use Rattle.fw_model.specs.Offers.{AreAtEdgeStamps, HasOneCause, IsOffered, AreOffersAbove, RecordsAscend, covers_of, counted_on_edge, stamps_on}
use Rattle.fw_model.proofs.AskedLaws.{reached-all}
use Rattle.fw_model.proofs.ChoosingLaws.{recovery-has_choice}
use Rattle.fw_model.proofs.DomainLaws.{has_epochs}
use Rattle.fw_model.proofs.FloorLaws.{low-floor}
use Rattle.fw_model.proofs.InputLaws.{injected-few}
use Rattle.fw_model.proofs.KindSorts.{is_sequence}
use Rattle.fw_model.proofs.LegalLaws.{legal-in_domain}
use Rattle.fw_model.proofs.PoorerLaws.{consistent-above, largest-above}
use Rattle.fw_model.proofs.PoorerTrailLaws.{trail-above}
use Rattle.fw_model.proofs.ThinnedLaws.{each-contained}
use Rattle.fw_monitor.specs.Descent.{HasConsistent}
use Rattle.fw_monitor.specs.Trail.{IsTrail}
use Rattle.fw_monitor.proofs.TrailEndLaws.{trail-by_offers}
use Rattle.fw_policy.specs.declared.view.Border.{Border}
use Rattle.fw_policy.specs.declared.view.Border.TheVariants.{Inner, Source, Output}
use Rattle.fw_policy.specs.declared.view.NodeView.{NodeView}
use Rattle.fw_policy.specs.Entries.{AreEntriesOf, uncollected}
use Rattle.fw_record.specs.OfNode.{AreOfDomain}
use Rattle.fw_policy.specs.Shaped.{FitsKind, IsWrittenOf, IsViewFor, AreViewsFrom, FitsFlow}
use Rattle.fw_policy.specs.View.{IsBorderOf, IsKnownOf, IsLostAt, IsNodeViewOf, AreNodeViewsFrom, IsViewOf, KnowsLosses, base_of}
use Rattle.fw_policy.proofs.ReadLaws.{entries-read}
use Rattle.fw_keep.specs.declared.entry.Entry.{Entry}
use Rattle.fw_keep.specs.Stored.{Records}
use Rattle.fw_progress.specs.Counts.{sent_of}
use Rattle.fw_progress.specs.Trace.{IsTraceIf}
use Rattle.fw_border.specs.Outputs.{OutputState}
use Rattle.fw_border.specs.Sources.{SourceState}
use Rattle.fw_stands.specs.Parts.{IsOutputOf, IsSourceOf}
use Rattle.fw_running.specs.declared.running.Running.{Running}
use Rattle.fw_choose.specs.declared.outlook.Outlook.{Outlook}
use Rattle.fw_choose.specs.Outlooks.{IsOutlookBy, IsOutlookByHeld, IsOutlookOf}
use Rattle.fw_choose.specs.declared.viewing.Lost.{Lost}
use Rattle.fw_choose.specs.declared.viewing.Lost.TheVariants.{Failed, All}
use Rattle.fw_choose.specs.Chosen.{is_lost, counts_as_failed, IsChosen, IsViewBy, IsViewByHeld, AreViewsBy, IsBorderBy, is_on_its_edge, of_domains}
use Rattle.fw_choose.proofs.KnownLaws.{losses-known, stamps-known}
use Rattle.fw_running.specs.Kept.{source_of, output_of, lost_at, is_down}
use Rattle.fw_running.specs.Shaped.{IsShaped}
use Rattle.fw_running.specs.Stands.{StandsApart}
use Rattle.fw_model.specs.Writes.{takes_checkpoints}
use Rattle.fw_model.specs.Thinned.{IsThinnedIf}

-- ---- the choice

chosen-is : (lost : Lost) (sys : System) (state : Machine) (choice : Choice) → IsLargest sys state (IsCandidate sys state (is_lost lost state) kept) choice → IsChosen lost sys state choice
chosen-is Failed sys state choice k = k
chosen-is All sys state choice k = k

-- the views and entries are what is known in the state
view-of : (sys : System) (records : Option Records) (state : Machine) (running : Running) (lost : Lost) (view : List NodeView) (entries : List Entry)
    → length view ≡ length running.flow.nodes → entries ≡ running.parts.keep.entries → StandsApart sys running records state
    → (floor : List Front) → IsFloor sys state floor → AreNodeViewsFrom sys state (is_lost lost state) floor 0 view
    → IsViewOf sys state (is_lost lost state) floor view entries
view-of sys records state running lost view entries one_each e a floor above nodes = record {
  well_formed = a.well_formed;
  reached = a.reached;
  above = above;
  one_each = one_each ∙ ap (λ (f : Dataflow). length f.nodes) a.flow;
  nodes = nodes;
  written = entries-read sys state entries (uncollected state) (subst (λ es. AreEntriesOf sys state es (uncollected state)) (sym e) a.entries);
}

-- what is offered by what is known is what the machine offers above a floor, and the descent over it is that of the machine, if some
-- choice of what is offered is consistent
record IsOutlookFrom (flow : Dataflow) (view : List NodeView) (entries : List Entry) (outlook : Outlook) : Type 0 where
  above : (sys : System) (state : Machine) (failed : ℕ → Bool) (floor : List Front) → sys.flow ≡ flow → (known : IsViewOf sys state failed floor view entries)
      → AreOffersAbove sys state failed (choice_at floor known.above.notices) outlook.candidates.items
  largest : (some : Choice) → RecordsAscend flow outlook.candidates.items
      → IsConsistentBy flow (covers_of flow outlook.candidates.items) (IsOffered flow outlook.candidates.items) some
      → IsLargestBy flow (covers_of flow outlook.candidates.items) (IsOffered flow outlook.candidates.items) outlook.descent.choice
  trail : HasConsistent flow outlook.candidates.items → IsTrail flow outlook.candidates.items outlook.descent.trail outlook.descent.choice

-- some choice is consistent in each reached state
outlook-in : (lost : Lost) (view : List NodeView) (entries : List Entry) (outlook : Outlook) (sys : System) (state : Machine) (floor : List Front)
    → IsOutlookFrom sys.flow view entries outlook → IsViewOf sys state (is_lost lost state) floor view entries → IsOutlookOf sys state lost outlook
outlook-in lost view entries outlook sys state floor from known =
    let os = outlook.candidates.items in
    let choice = outlook.descent.choice in
    let trail = outlook.descent.trail in
    let failed = is_lost lost state in
    let w = known.well_formed in
    let reached = known.reached in
    let at : Choice = choice_at floor known.above.notices in
    let a : AreOffersAbove sys state failed at os = from.above sys state failed floor refl known in
    let can : CanChoose sys state failed = recovery-has_choice sys w reached.0 reached.1 state reached.2 failed in
    let consistent = consistent-above sys state failed at os can.choice w.flow a can.consistent in
    let has : HasConsistent sys.flow os = (a.ascending, (can.choice, consistent)) in
    let by_data : IsTrailBy sys.flow (covers_of sys.flow os) (IsOffered sys.flow os) trail choice = trail-by_offers sys.flow os trail choice has (from.trail has) in
    record {
      floor = at;
      offers = a;
      choice = chosen-is lost sys state choice (largest-above sys state failed at os choice w.flow a (from.largest can.choice a.ascending consistent));
      trail = (trail-above sys state failed at os trail choice w.flow a).0 by_data;
      by_data = by_data;
    }

outlook-from : (running : Running) (view : List NodeView) (entries : List Entry) (os : List Offer) (outlook : Outlook) → os ≡ outlook.candidates.items
    → ((sys : System) (state : Machine) (failed : ℕ → Bool) (floor : List Front) → sys.flow ≡ running.flow → (known : IsViewOf sys state failed floor view entries)
    → AreOffersAbove sys state failed (choice_at floor known.above.notices) outlook.candidates.items)
    → ((some : Choice) → RecordsAscend running.flow os → IsConsistentBy running.flow (covers_of running.flow os) (IsOffered running.flow os) some
    → IsLargestBy running.flow (covers_of running.flow os) (IsOffered running.flow os) outlook.descent.choice)
    → (HasConsistent running.flow os → IsTrail running.flow os outlook.descent.trail outlook.descent.choice)
    → IsOutlookFrom running.flow view entries outlook
outlook-from running view entries others outlook is exact give found = record {
  above = exact;
  largest = subst (λ (xs : List Offer). (some : Choice) → RecordsAscend running.flow xs → IsConsistentBy running.flow (covers_of running.flow xs) (IsOffered running.flow xs) some
      → IsLargestBy running.flow (covers_of running.flow xs) (IsOffered running.flow xs) outlook.descent.choice) is give;
  trail = subst (λ (xs : List Offer). HasConsistent running.flow xs → IsTrail running.flow xs outlook.descent.trail outlook.descent.choice) is found;
}

-- the outlook is that of each state for which the engine stands
pub outlook-by : (running : Running) (lost : Lost) (view : List NodeView) (entries : List Entry) (os : List Offer) (outlook : Outlook)
    → AreViewsBy running lost (length running.flow.nodes) view → entries ≡ running.parts.keep.entries → os ≡ outlook.candidates.items
    → ((sys : System) (state : Machine) (failed : ℕ → Bool) (floor : List Front) → sys.flow ≡ running.flow → (known : IsViewOf sys state failed floor view entries)
    → AreOffersAbove sys state failed (choice_at floor known.above.notices) outlook.candidates.items)
    → ((some : Choice) → RecordsAscend running.flow os → IsConsistentBy running.flow (covers_of running.flow os) (IsOffered running.flow os) some
    → IsLargestBy running.flow (covers_of running.flow os) (IsOffered running.flow os) outlook.descent.choice)
    → (HasConsistent running.flow os → IsTrail running.flow os outlook.descent.trail outlook.descent.choice)
    → IsOutlookBy running lost outlook
outlook-by running lost view entries others outlook v e is exact give found = λ sys records state s.
    outlook-in lost view entries outlook sys state s.traces.floor
    (subst (λ f. IsOutlookFrom f view entries outlook) s.apart.flow (outlook-from running view entries others outlook is exact give found))
    (view-of sys records state running lost view entries v.one_each e s.apart s.traces.floor s.traces.above (v.of_state sys records state s))

-- and of each of which it holds what is left
pub outlook-by_held : (running : Running) (lost : Lost) (view : List NodeView) (entries : List Entry) (os : List Offer) (outlook : Outlook)
    → AreViewsBy running lost (length running.flow.nodes) view → entries ≡ running.parts.keep.entries → os ≡ outlook.candidates.items
    → ((sys : System) (state : Machine) (failed : ℕ → Bool) (floor : List Front) → sys.flow ≡ running.flow → (known : IsViewOf sys state failed floor view entries)
    → AreOffersAbove sys state failed (choice_at floor known.above.notices) outlook.candidates.items)
    → ((some : Choice) → RecordsAscend running.flow os → IsConsistentBy running.flow (covers_of running.flow os) (IsOffered running.flow os) some
    → IsLargestBy running.flow (covers_of running.flow os) (IsOffered running.flow os) outlook.descent.choice)
    → (HasConsistent running.flow os → IsTrail running.flow os outlook.descent.trail outlook.descent.choice)
    → IsOutlookByHeld running lost outlook
outlook-by_held running lost view entries others outlook v e is exact give found = λ sys records state s.
    outlook-in lost view entries outlook sys state state.low
    (subst (λ f. IsOutlookFrom f view entries outlook) s.apart.flow (outlook-from running view entries others outlook is exact give found))
    (view-of sys records state running lost view entries v.one_each e s.apart state.low (low-floor sys state s.apart.well_formed s.apart.reached) (v.of_held sys records state s))

-- ---- what fits the flow

pub all-fit : (running : Running) (lost : Lost) (view : List NodeView) (entries : List Entry) → IsShaped running → AreViewsBy running lost (length running.flow.nodes) view
    → entries ≡ running.parts.keep.entries → FitsFlow running.flow view entries
all-fit running lost view entries s v e = record {
  views = v.of_flow;
  written = subst (AllByRecursion (λ (entry : Entry). IsWrittenOf running.flow entry.node entry.written)) (sym e) s.entries;
}

-- ---- one view more

fit-more : (flow : Dataflow) (n m : ℕ) (view : List NodeView) (node : NodeView) → AreViewsFrom flow n view → n + length view ≡ m → IsViewFor flow m node
    → AreViewsFrom flow n (view ++ node ∷ [])
fit-more flow n m [] node a e i =
    let same : m ≡ n = omega arith in (subst (λ k. IsViewFor flow k node) same i, tt)
fit-more flow n m (v ∷ view) node a e i = (a.0, fit-more flow (suc n) m view node a.1 (omega arith) i)

known-more : (sys : System) (state : Machine) (lost : ℕ → Bool) (floor : List Front) (n m : ℕ) (view : List NodeView) (node : NodeView) → AreNodeViewsFrom sys state lost floor n view
    → n + length view ≡ m → IsNodeViewOf sys state lost floor m node → AreNodeViewsFrom sys state lost floor n (view ++ node ∷ [])
known-more sys state lost floor n m [] node a e i =
    let same : m ≡ n = omega arith in (subst (λ k. IsNodeViewOf sys state lost floor k node) same i, tt)
known-more sys state lost floor n m (v ∷ view) node a e i = (a.0, known-more sys state lost floor (suc n) m view node a.1 (omega arith) i)

pub views_none : (running : Running) (lost : Lost) → AreViewsBy running lost 0 []
views_none running lost = record { one_each = refl; of_flow = tt; of_state = λ sys records state s. tt; of_held = λ sys records state s. tt }

pub views_more : (running : Running) (lost : Lost) (n p : ℕ) (view next : List NodeView) (node : NodeView) → AreViewsBy running lost n view → p ≡ n
    → IsViewFor running.flow p node → IsViewBy running lost p node → IsViewByHeld running lost p node → next ≡ view ++ node ∷ [] → AreViewsBy running lost (n + 1) next
views_more running lost n p view next node v at fits known held is =
    subst (AreViewsBy running lost (n + 1)) (sym is) (record {
      one_each = length-append view (node ∷ []) ∙ ap (λ k. k + 1) v.one_each;
      of_flow = fit-more running.flow 0 p view node v.of_flow (omega (arith, v.one_each, at)) fits;
      of_state = λ sys records state s. known-more sys state (is_lost lost state) s.traces.floor 0 p view node (v.of_state sys records state s) (omega (arith, v.one_each, at)) (known sys records state s);
      of_held = λ sys records state s. known-more sys state (is_lost lost state) state.low 0 p view node (v.of_held sys records state s) (omega (arith, v.one_each, at)) (held sys records state s);
    })

-- ---- what is of the domains

passes-edge : (flow : Dataflow) (single : Bool) (m : Counted) → is_on_its_edge flow single m ≡ true → in_domain (bounds_of flow (receiver flow m.edge)) m.at ≡ true
passes-edge flow single m e = (and_parts (in_domain (bounds_of flow (receiver flow m.edge)) m.at) (not single || length m.causes == 1) e).0

edges-fit : (flow : Dataflow) (single : Bool) (ms : List Counted) → AreAtEdgeStamps flow (filter (is_on_its_edge flow single) ms)
edges-fit flow single ms =
    each-filter (λ (m : Counted). in_domain (bounds_of flow (receiver flow m.edge)) m.at ≡ true) (is_on_its_edge flow single) ms
    (each-one (λ (m : Counted). is_on_its_edge flow single m ≡ true → in_domain (bounds_of flow (receiver flow m.edge)) m.at ≡ true) ms (λ m e. passes-edge flow single m e))

stamps-fit : (flow : Dataflow) (p : ℕ) (ts : List Stamp) → AreOfDomain flow p (filter (in_domain (bounds_of flow p)) ts)
stamps-fit flow p ts =
    each-filter (λ t. in_domain (bounds_of flow p) t ≡ true) (in_domain (bounds_of flow p)) ts
    (each-one (λ t. in_domain (bounds_of flow p) t ≡ true → in_domain (bounds_of flow p) t ≡ true) ts (λ t e. e))

one-cause : (ts : List Stamp) → (length ts == 1) ≡ true → (t : Stamp) × (ts ≡ t ∷ [])
one-cause [] e = absurd (both_ways false refl e)
one-cause (t ∷ []) e = (t, refl)
one-cause (t ∷ u ∷ ts) e = absurd (let k : length (t ∷ u ∷ ts) ≡ 1 = eqb-true (length (t ∷ u ∷ ts)) 1 e in omega (arith, k))

causes-fit : (flow : Dataflow) (single : Bool) (ms : List Counted) → single ≡ true → AllByRecursion HasOneCause (filter (is_on_its_edge flow single) ms)
causes-fit flow single ms is =
    each-filter HasOneCause (is_on_its_edge flow single) ms
    (each-one (λ (m : Counted). is_on_its_edge flow single m ≡ true → HasOneCause m) ms (λ m e.
    let here = in_domain (bounds_of flow (receiver flow m.edge)) m.at in
    let k : (not single || length m.causes == 1) ≡ true = (and_parts here (not single || length m.causes == 1) e).1 in
    one-cause m.causes (ap (λ b. not b || length m.causes == 1) (sym is) ∙ k)))

border-fits : (source : SourceState) (output : OutputState) (kind : Kind) (x : Border) → IsBorderBy source output kind x → FitsKind kind x
border-fits source output Input Inner k = absurd k
border-fits source output Input (Source n y) k = k.0
border-fits source output Input (Output n) k = absurd k
border-fits source output OutputEpoch Inner k = absurd k
border-fits source output OutputEpoch (Source n y) k = absurd k
border-fits source output OutputEpoch (Output n) k = tt
border-fits source output OutputNumber Inner k = absurd k
border-fits source output OutputNumber (Source n y) k = absurd k
border-fits source output OutputNumber (Output n) k = tt
border-fits source output kind x k = tt

is-input : (kind : Kind) → kind ≡ Input → is_input_kind kind ≡ true
is-input kind e = ap is_input_kind e

-- what is known of a node fits the flow
pub view-fits : (running : Running) (p : ℕ) (raw : Stamps) (node : NodeView) → IsShaped running → node.stamps ≡ of_domains running.flow p raw
    → node.settled ≡ front_of running.progress.settled p → node.low ≡ front_of running.parts.low p → IsBorderBy (source_of running p) (output_of running p) (kind_of running.flow p) node.border
    → node.lost ≡ filter (in_domain (bounds_of running.flow p)) (lost_at running p) → IsViewFor running.flow p node
view-fits running p raw node s stamps settled low border lost =
    let flow = running.flow in
    let single = is_input_kind (kind_of flow p) in
    record {
      settled = subst (λ (f : Front). IsCanonical (bounds_of flow p) f) (sym settled) (s.progress.settled p);
      low = subst (λ (f : Front). IsCanonical (bounds_of flow p) f) (sym low) (s.low p);
      border = border-fits (source_of running p) (output_of running p) (kind_of flow p) node.border border;
      lost = subst (λ (ts : List Stamp). AreOfDomain flow p ts) (sym lost) (stamps-fit flow p (lost_at running p));
      delivered = subst (λ (all : Stamps). AreAtEdgeStamps flow all.delivered) (sym stamps) (edges-fit flow false raw.delivered);
      notified = subst (λ (all : Stamps). AreOfDomain flow p all.notified) (sym stamps) (stamps-fit flow p raw.notified);
      sent = subst (λ (all : Stamps). AreAtEdgeStamps flow all.sent) (sym stamps) (edges-fit flow single raw.sent);
      of_batches = λ e. subst (λ (all : Stamps). AllByRecursion HasOneCause all.sent) (sym stamps) (causes-fit flow single raw.sent (is-input (kind_of flow p) e));
    }

-- ---- which they all are in each state for which the engine stands

filters-turn : {A : Type 0} (f g : A → Bool) (xs : List A) → filter f (filter g xs) ≡ filter g (filter f xs)
filters-turn f g [] = refl
filters-turn {A = A} f g (x ∷ xs) = by (f x) (g x) refl refl (filters-turn f g xs)
  where
    by : (a b : Bool) → f x ≡ a → g x ≡ b → filter f (filter g xs) ≡ filter g (filter f xs)
        → filter f (cond b (x ∷ filter g xs) (filter g xs)) ≡ filter g (cond a (x ∷ filter f xs) (filter f xs))
    by true true e k ih =
        ap (λ c. cond c (x ∷ filter f (filter g xs)) (filter f (filter g xs))) e ∙ ap (λ ys. x ∷ ys) ih
        ∙ sym (ap (λ c. cond c (x ∷ filter g (filter f xs)) (filter g (filter f xs))) k)
    by true false e k ih = ih ∙ sym (ap (λ c. cond c (x ∷ filter g (filter f xs)) (filter g (filter f xs))) k)
    by false true e k ih = ap (λ c. cond c (x ∷ filter f (filter g xs)) (filter f (filter g xs))) e ∙ ih
    by false false e k ih = ih

-- a test that the messages of an edge pass leaves them
pub same-on_edge : (test : Counted → Bool) (e : ℕ) (ms : List Counted) → AllByRecursion (λ m. test m ≡ true) (counted_on_edge e ms) → counted_on_edge e (filter test ms) ≡ counted_on_edge e ms
same-on_edge test e ms a = filters-turn (λ (m : Counted). m.edge == e) test ms ∙ filter-all test (counted_on_edge e ms) a

all-on_edges : (flow : Dataflow) (ms : List Counted) → AreAtEdgeStamps flow ms → filter (is_on_its_edge flow false) ms ≡ ms
all-on_edges flow ms a =
    filter-all (is_on_its_edge flow false) ms
    (each-weaker (λ (m : Counted). in_domain (bounds_of flow (receiver flow m.edge)) m.at ≡ true) (λ m. is_on_its_edge flow false m ≡ true) ms
    (λ m k. and_from (in_domain (bounds_of flow (receiver flow m.edge)) m.at) true k refl) a)

passes-single : (flow : Dataflow) (m : Counted) (t : Stamp) → in_domain (bounds_of flow (receiver flow m.edge)) m.at ≡ true → m.causes ≡ t ∷ [] → is_on_its_edge flow true m ≡ true
passes-single flow m t k c =
    and_from (in_domain (bounds_of flow (receiver flow m.edge)) m.at) (length m.causes == 1) k (ap (λ ts. length ts == 1) c)

no-both : (kind : Kind) → is_input_kind kind ≡ true → is_sequence_kind kind ≡ true → ⊥
no-both Input i s = both_ways false refl s
no-both kind i s = both_ways false refl i

pub stamps-stay : (whole : Bool) (sys : System) (h : List Event) (p : ℕ) (base : Frontier) (raw : Stamps) → AreStampsIf whole sys h p base raw
    → AreStampsIf whole sys h p base (of_domains sys.flow p raw)
stamps-stay whole sys h p base raw s = record {
  on_edges = (edges-fit flow false raw.delivered, edges-fit flow single raw.sent);
  in_domain = stamps-fit flow p raw.notified;
  delivered = λ d e. subst (λ (ms : List Counted). IsThinnedIf whole base (map (λ (m : Message). m.at) (delivered_messages h d)) (stamps_on d ms))
      (sym (all-on_edges flow raw.delivered s.on_edges.0)) (s.delivered d e);
  notified = subst (λ (ts : List Stamp). IsThinnedIf whole base (flat_map (stamp_of_notice p) h) ts)
      (sym (filter-all (in_domain (bounds_of flow p)) raw.notified s.in_domain)) s.notified;
  sent = λ n e l k. subst (λ (ms : List Counted). StandForSent (whole && tells_sent sys.flow p) sys h p (base_of_sent sys.flow p base) e ms) (sym (by single refl e l k n)) (s.sent n e l k);
  numbered = λ q t e l k. subst (λ (ms : List Counted). StandForNumbered sys h e ms) (sym (all_of single refl q)) (s.numbered q t e l k);
}
  where
    flow : Dataflow
    flow = sys.flow

    single : Bool
    single = is_input_kind (kind_of flow p)

    by : (b : Bool) → single ≡ b → (e : ℕ) → e < length sys.flow.edges → sender sys.flow e ≡ p → is_single_kind (kind_of sys.flow p) ≡ true
        → counted_on_edge e (filter (is_on_its_edge flow single) raw.sent) ≡ counted_on_edge e raw.sent
    by false i e l k n = ap (λ b. counted_on_edge e (filter (is_on_its_edge flow b) raw.sent)) i ∙ ap (λ ms. counted_on_edge e ms) (all-on_edges flow raw.sent s.on_edges.1)
    by true i e l k n =
        ap (λ b. counted_on_edge e (filter (is_on_its_edge flow b) raw.sent)) i
        ∙ same-on_edge (is_on_its_edge flow true) e raw.sent
        (each-weaker (λ (m : Counted). (in_domain (bounds_of flow (receiver flow m.edge)) m.at ≡ true) × IsOfCause flow p m) (λ m. is_on_its_edge flow true m ≡ true) (counted_on_edge e raw.sent)
        (λ m x. passes-single flow m x.1.0 x.0 x.1.2)
        (each-both (λ (m : Counted). in_domain (bounds_of flow (receiver flow m.edge)) m.at ≡ true) (IsOfCause flow p) (counted_on_edge e raw.sent)
        (each-kept (λ (m : Counted). in_domain (bounds_of flow (receiver flow m.edge)) m.at ≡ true) (λ (m : Counted). m.edge == e) raw.sent s.on_edges.1)
        (s.sent n e l k).of_cause))

    all_of : (b : Bool) → single ≡ b → is_sequence_kind (kind_of sys.flow p) ≡ true → filter (is_on_its_edge flow single) raw.sent ≡ raw.sent
    all_of false i q = ap (λ b. filter (is_on_its_edge flow b) raw.sent) i ∙ all-on_edges flow raw.sent s.on_edges.1
    all_of true i q = absurd (no-both (kind_of flow p) i q)

border-is : (sys : System) (state : Machine) (p : ℕ) (source : SourceState) (output : OutputState) (kind : Kind) (x : Border) → IsBorderBy source output kind x → IsSourceOf sys state p source
    → (is_output_kind kind ≡ true → IsOutputOf sys state p output) → injected_count p (events state.history) ≤ greatest_number → IsBorderOf sys state p kind x
border-is sys state p source output Input Inner k s o l = absurd k
border-is sys state p source output Input (Source n y) k s o l = (
  k.1 (subst (λ c. c ≤ greatest_number) (sym s.injected) l) ∙ s.injected,
  k.2 ∙ ap (λ c. c == source.given) s.injected ∙ ap (λ c. injected_count p (events state.history) == c) s.given,
)
border-is sys state p source output Input (Output n) k s o l = absurd k
border-is sys state p source output OutputEpoch Inner k s o l = absurd k
border-is sys state p source output OutputEpoch (Source n y) k s o l = absurd k
border-is sys state p source output OutputEpoch (Output n) k s o l = k ∙ (o refl).bound
border-is sys state p source output OutputNumber Inner k s o l = absurd k
border-is sys state p source output OutputNumber (Source n y) k s o l = absurd k
border-is sys state p source output OutputNumber (Output n) k s o l = k ∙ (o refl).bound
border-is sys state p source output kind x k s o l = k

contains-later : {A : Type 0} (x q : A) (xs : List A) → Contains xs q → Contains (x ∷ xs) q
contains-later x q xs h = (suc h.0, omega (arith, h.1), h.2)

contains-which : {A : Type 0} (x q : A) (xs : List A) → Contains (x ∷ xs) q → (x ≡ q) ⊎ Contains xs q
contains-which {A = A} x q xs h = by h.0 h.1 h.2
  where
    by : (k : ℕ) → k < length (x ∷ xs) → slice_index_or (x ∷ xs) k q ≡ q → (x ≡ q) ⊎ Contains xs q
    by zero l e = inl e
    by (suc k) l e = inr (k, omega (arith, l), e)

pub filtered-contains : {A : Type 0} (f : A → Bool) (xs : List A) (q : A) → Contains (filter f xs) q → Contains xs q
filtered-contains f [] q h = h
filtered-contains {A = A} f (x ∷ xs) q h = by (f x) (filtered-contains f xs q) h
  where
    by : (b : Bool) → (Contains (filter f xs) q → Contains xs q) → Contains (cond b (x ∷ filter f xs) (filter f xs)) q → Contains (x ∷ xs) q
    by true ih k = elim (contains-which x q (filter f xs) k) [
      | inl e ↦ (0, omega arith, e)
      | inr c ↦ contains-later x q xs (ih c)
    ]
    by false ih k = contains-later x q xs (ih k)

pub contains-filtered : {A : Type 0} (f : A → Bool) (xs : List A) (q : A) → f q ≡ true → Contains xs q → Contains (filter f xs) q
contains-filtered f [] q e h = h
contains-filtered {A = A} f (x ∷ xs) q e h = elim (contains-which x q xs h) [
  | inl k ↦ subst (λ b. Contains (cond b (x ∷ filter f xs) (filter f xs)) q) (sym (ap f k ∙ e)) (0, omega arith, k)
  | inr c ↦ by (f x) (contains-filtered f xs q e c)
]
  where
    by : (b : Bool) → Contains (filter f xs) q → Contains (cond b (x ∷ filter f xs) (filter f xs)) q
    by true k = contains-later x q (filter f xs) k
    by false k = k

each-numbered : (P : Event → Type 0) (h : List SerialEvent) → AllByRecursion P (events h) → AllByRecursion (λ (v : SerialEvent). P v.event) h
each-numbered P [] a = tt
each-numbered P (v ∷ h) a = (a.0, each-numbered P h a.1)

pub legal-of : (sys : System) (records : Option Records) (state : Machine) (running : Running) → StandsApart sys running records state → IsLegal sys (events state.history)
legal-of sys records state running a = let r = a.reached in (reached-all sys a.well_formed r.0 r.1 state r.2).recover.holds.legal

-- a stamp at which an event was lost is of the node's domain
lost-in_domain : (sys : System) (records : Option Records) (state : Machine) (running : Running) (p : ℕ) (t : Stamp) → StandsApart sys running records state → IsLostAt sys state p t
    → in_domain (bounds_of sys.flow p) t ≡ true
lost-in_domain sys records state running p t a lost =
    let w = a.well_formed in
    let inside = each-numbered (λ u. in_domain (bounds_of sys.flow (event_node sys.flow u)) (event_stamp u) ≡ true) state.history
    (legal-in_domain sys (events state.history) w.flow (has_epochs sys w) (legal-of sys records state running a)) in
    let u = lost.1 in
    subst (λ x. in_domain (bounds_of sys.flow p) x ≡ true) u.is.stamp
    (subst (λ q. in_domain (bounds_of sys.flow q) (event_stamp u.event.event) ≡ true) u.is.node
    (each-contained (λ (x : SerialEvent). in_domain (bounds_of sys.flow (event_node sys.flow x.event)) (event_stamp x.event) ≡ true) u.event state.history u.there inside))

-- what is known of a node, where that is so of its stamps, and of those at which it lost events
pub view-apart : (running : Running) (lost : Lost) (p : ℕ) (node : NodeView) → p < length running.flow.nodes → IsViewFor running.flow p node
    → node.table ≡ sent_of running.progress.counts p → node.settled ≡ front_of running.progress.settled p → node.low ≡ front_of running.parts.low p
    → IsBorderBy (source_of running p) (output_of running p) (kind_of running.flow p) node.border → node.failed ≡ counts_as_failed lost (is_down running p)
    → (sys : System) (records : Option Records) (state : Machine) → StandsApart sys running records state → (floor : List Front)
    → IsKnownOf sys floor state p node.stamps (is_lost lost state p) → (policy_of sys.flow p ≡ policy.Full → KnowsLosses sys state p node.lost)
    → IsNodeViewOf sys state (is_lost lost state) floor p node
view-apart running lost p node there fits table settled low border failed sys records state a floor stamps losses =
    let h = events state.history in
    let l : p < length sys.flow.nodes = subst (λ (f : Dataflow). p < length f.nodes) a.flow there in
    let few : injected_count p h ≤ greatest_number = omega (arith, injected-few sys h (legal-of sys records state running a) p, a.well_formed.few p) in
    record {
      fits = subst (λ f. IsViewFor f p node) a.flow fits;
      stamps = stamps;
      table = λ k. subst (λ t. IsSentTable sys h p t) (sym table) (a.progress.counts.sent p l (is_sequence (kind_of sys.flow p) k));
      settled = settled ∙ ap (λ fs. front_of fs p) a.settled;
      low = low ∙ ap (λ fs. front_of fs p) a.low;
      border = border-is sys state p (source_of running p) (output_of running p) (kind_of sys.flow p) node.border
          (subst (λ f. IsBorderBy (source_of running p) (output_of running p) (kind_of f p) node.border) a.flow border) (a.sources p l) (a.outputs p l) few;
      losses = losses;
      failed = failed ∙ ap (λ bs. counts_as_failed lost (slice_index_or bs p false)) a.failed;
    }

-- what is known of a node is so in each state for which the engine stands
pub view-known : (running : Running) (lost : Lost) (p : ℕ) (raw : Stamps) (node : NodeView) → p < length running.flow.nodes → IsViewFor running.flow p node
    → ((whole : Bool) (sys : System) (h : List Event) (base : Frontier) → sys.flow ≡ running.flow → HasEpochs sys → IsLegal sys h → IsTraceIf whole sys h p base running.traces
    → AreStampsIf whole sys h p base raw)
    → node.stamps ≡ of_domains running.flow p raw → node.table ≡ sent_of running.progress.counts p
    → node.settled ≡ front_of running.progress.settled p → node.low ≡ front_of running.parts.low p → IsBorderBy (source_of running p) (output_of running p) (kind_of running.flow p) node.border
    → node.lost ≡ filter (in_domain (bounds_of running.flow p)) (lost_at running p) → node.failed ≡ counts_as_failed lost (is_down running p) → IsViewBy running lost p node
view-known running lost p raw node there fits given stamps table settled low border losses failed sys records state s =
    let h = events state.history in
    let legal = legal-of sys records state running s.apart in
    let l : p < length sys.flow.nodes = subst (λ (f : Dataflow). p < length f.nodes) s.apart.flow there in
    let takes = takes_checkpoints (policy_of sys.flow p) in
    let base = base_of sys s.traces.floor state p in
    let all : AreStampsOf sys h p base node.stamps =
    subst (λ (x : Stamps). AreStampsOf sys h p base x) (sym (stamps ∙ ap (λ f. of_domains f p raw) s.apart.flow))
    (stamps-stay takes sys h p base raw (given takes sys h base (sym s.apart.flow) (has_epochs sys s.apart.well_formed) legal (s.traces.each p l))) in
    view-apart running lost p node there fits table settled low border failed sys records state s.apart s.traces.floor
    (stamps-known sys s.traces.floor state p node.stamps all (is_lost lost state p))
    (λ full. losses-known sys state p node.lost (λ t.
    let is : node.lost ≡ filter (in_domain (bounds_of sys.flow p)) (lost_at running p) = losses ∙ ap (λ f. filter (in_domain (bounds_of f p)) (lost_at running p)) s.apart.flow in
    let known = s.lost p full t in
    subst (λ (ts : List Stamp). Contains ts t ↔ IsLostAt sys state p t) (sym is) (
      (λ c. known.0 (filtered-contains (in_domain (bounds_of sys.flow p)) (lost_at running p) t c)),
      (λ x. contains-filtered (in_domain (bounds_of sys.flow p)) (lost_at running p) t (lost-in_domain sys records state running p t s.apart x) (known.1 x)),
    )))

-- what stands at a node's place
pub at_place : {A : Type 0} (xs : List A) (q p : ℕ) (x d : A) → x ≡ get_or xs q x → q ≡ p → p < length xs → x ≡ get_or xs p d
at_place xs q p x d e s l = e ∙ ap (λ k. get_or xs k x) s ∙ get_or_default xs p x d l
