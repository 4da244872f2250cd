-- A node's traces as data stand for its events.
use Rattle.std.proofs.Common.{◌≡◌, inl, inr, ℕ, suc, ◌+◌, ◌<◌, ◌≤◌, Bool, true, false, ◌&&◌, ◌==◌, nat_le, cond, List, [], ◌∷◌, ◌++◌, length, map, Result, Some, None, refl, sym, ap, subst, ◌∙◌, arith}
use Rattle.std.specs.Prelude.{filter, IfOk}
use Rattle.std.specs.List.{AllByRecursion, Contains, flat_map}
use Rattle.std.proofs.lemmas.Bool.{and_from, eq-eqb, cases_lt}
use Rattle.std.proofs.lemmas.Bool.Decides.{nat_tests}
use Rattle.std.proofs.lemmas.List.{get_or_past}
use Rattle.std.proofs.lemmas.Result.{IfOk-weaker}
use Rattle.fw_lemmas.proofs.Each.{each-weaker, each-one, each-map, each-kept}
use Rattle.fw_lemmas.proofs.Filters.{filter-swap}
use Rattle.fw_time.specs.Stamp.{Stamp, in_domain}
use Rattle.fw_time.specs.declared.stamp.Bounds.{Bounds}
use Rattle.fw_frontier.specs.Frontier.{Frontier, Within, everything}
use Rattle.fw_frontier.specs.Front.{Front, inside, frontier_of}
use Rattle.fw_frontier.proofs.NamesLaws.{frontier-closed}
use Rattle.fw_flow.specs.declared.choice.Counted.{Counted}
use Rattle.fw_flow.specs.declared.choice.Stamps.{Stamps}
use Rattle.fw_flow.specs.declared.event.Event.{Event}
use Rattle.fw_flow.specs.declared.event.Event.TheVariants.{Inject, Deliver, Notify}
use Rattle.fw_flow.specs.declared.event.Message.{Message}
use Rattle.fw_flow.specs.declared.node.Edge.{Edge}
use Rattle.fw_flow.specs.Dataflow.{System, Dataflow, kind_of, sender, receiver, bounds_of, bounds_of_domain, domain_of_kind, out_domain_of_kind, greatest_number, out_edges, is_sequence_kind, node_frontier, HasEpochs}
use Rattle.fw_flow.specs.NodeFunction.{event_node, event_stamp, sequence_sent, sent_by}
use Rattle.fw_flow.specs.Projection.{events_at, all_inside, count_from}
use Rattle.fw_flow.specs.WellFormed.{IsWellFormed}
use Rattle.fw_flow.proofs.OutEdgeLaws.{out_edges-from}
use Rattle.fw_model.specs.Covers.{stamp_of_notice}
use Rattle.fw_model.specs.Alike.{StandForCauses}
use Rattle.fw_model.proofs.AlikeLaws.{for-cut}
use Rattle.fw_model.specs.EventStamps.{causes_in, base_of_sent, tells_sent, StandForSent, StandForNumbered, AreStampsIf}
use Rattle.fw_model.specs.Filtering.{events_inside, messages_inside, messages_from, kept_events}
use Rattle.fw_model.specs.History.{is_injection, injected_count, delivered_messages, AreEventsInDomain, IsLegal, sent_messages}
use Rattle.fw_model.specs.Offers.{AreAtEdgeStamps, counted_on_edge, stamps_on, stamps_on_from}
use Rattle.fw_model.specs.Sending.{is_single_kind, SendsByCount}
use Rattle.fw_model.specs.Thinned.{IsThinned, IsThinnedIf}
use Rattle.fw_model.proofs.KindSorts.{single-no_sequence, no_sequence-single, is_sequence}
use Rattle.fw_model.proofs.LegalLaws.{edge_domains, legal_events-in_domain}
use Rattle.fw_model.proofs.LocalityLaws.{events_at-kept, sent_by-same, sends-same}
use Rattle.fw_model.proofs.SequenceLaws.{no_inject, sent_by-sequence}
use Rattle.fw_model.proofs.ThinnedLaws.{each-contained, thinned-if, thinned-whole}
use Rattle.fw_progress.specs.declared.traces.Traces.{Traces}
use Rattle.fw_progress.specs.Covers.{last_number}
use Rattle.fw_progress.specs.StampData.{taken, count_taken, all_delivered, counted_at_stamps, messages_numbered, all_sent, stamps_by, HasItsStamps}
use Rattle.fw_progress.specs.Trace.{delivered_on, stamps_notified, stamps_where_sent, counted_of, counts_sent, IsTraceIf, IsTraceWithin}
use Rattle.fw_progress.specs.Traces.{AreOf, thinned}
use Rattle.fw_progress.proofs.CutTraceLaws.{delivered-domain, notices-domain, sent-domain, causes-from, map-filter, notices-inside, edge-domain, edge-one_cause, sent-own}
use Rattle.fw_progress.proofs.EventLaws.{how_often}
use Rattle.fw_progress.proofs.NumberLaws.{IsNumber, sequence-numbers, numbers-thinned}
use Rattle.fw_progress.proofs.OfferLaws.{Sends, each-joined, on-once, once-out, delivered-on, delivered-on_edges, kept-send, messages-on_edges, sent-on, stands-for_sent}
use Rattle.fw_progress.proofs.SentCoverLaws.{carried-sequence, counts-sequence, from-length, none-kept, no_injection}
use Rattle.fw_progress.proofs.SentTallyLaws.{tally-count}
use Rattle.fw_progress.proofs.TraceLaws.{among-domain, among-passed, kept-domain, thinned-inside, thinned-itself, untold-if, sent-base, sent-within}

-- Lists stand for the events of node p, thinned inside a base, as its traces do; of a sequence it is known how many messages it sent, if they are counted.
record AreKept (whole : Bool) (sys : System) (h : List Event) (p : ℕ) (base : Frontier) (kept : ℕ → List Stamp) (notified : List Stamp) (sent : ℕ → List Stamp) (n : ℕ) : Type 0 where
  on_edges : (d : ℕ) → d < length sys.flow.edges → receiver sys.flow d ≡ p → IsThinnedIf whole base (map (λ (m : Message). m.at) (delivered_messages h d)) (kept d)
  notices : IsThinnedIf whole base (flat_map (stamp_of_notice p) h) notified
  sends : (e : ℕ) → e < length sys.flow.edges → sender sys.flow e ≡ p → is_single_kind (kind_of sys.flow p) ≡ true
      → StandForCauses sys.flow p (whole && tells_sent sys.flow p) (base_of_sent sys.flow p base) (causes_in (sent_messages sys h e)) (sent e)
  count : is_sequence_kind (kind_of sys.flow p) ≡ true → counts_sent sys.flow p ≡ true → n ≡ length (sent_by sys p (events_at sys.flow p h))

-- The events of node p are of its domain, and it injects nothing if it is a sequence.
record AreProper (sys : System) (h : List Event) (p : ℕ) : Type 0 where
  in_the_domain : AreEventsInDomain sys.flow h p
  no_batch : is_sequence_kind (kind_of sys.flow p) ≡ true → injected_count p h ≡ 0

-- ---- what a sequence sent

-- numbers on an out-edge of a sequence are of the receiver's domain
number-domain : (flow : Dataflow) → IsWellFormed flow → (p e : ℕ) → SendsByCount (kind_of flow p) → sender flow e ≡ p → (x : ℕ) → x ≤ greatest_number
    → in_domain (bounds_of flow (receiver flow e)) (x ∷ []) ≡ true
unfolding bounds_of
number-domain flow w p e is r x l =
    sym (ap (λ d. in_domain (bounds_of_domain flow d) (x ∷ [])) (edge_domains flow w e))
    ∙ ap (λ k. in_domain (bounds_of_domain flow (out_domain_of_kind flow k)) (x ∷ [])) (ap (kind_of flow) r ∙ is)
    ∙ and_from (nat_le x greatest_number) true (few x l) refl
  where
    few : (y : ℕ) → y ≤ greatest_number → nat_le y greatest_number ≡ true
    few y l = grind (arith, nat_tests)

-- the first epoch is of a sequence's domain
first-domain : (flow : Dataflow) (p : ℕ) → SendsByCount (kind_of flow p) → in_domain (bounds_of flow p) (0 ∷ []) ≡ true
unfolding bounds_of
first-domain flow p is = ap (λ k. in_domain (bounds_of_domain flow (domain_of_kind flow k)) (0 ∷ [])) is

-- the last number of what a sequence sent stands for all of it, inside a set that has each number
sequence-thinned : (sys : System) (h : List Event) (p n : ℕ) → SendsByCount (kind_of sys.flow p) → injected_count p h ≡ 0 → n ≡ length (sent_by sys p (events_at sys.flow p h))
    → (base : Frontier) → ((x : ℕ) → x ≤ greatest_number → base (x ∷ []) ≡ true)
    → IsThinned base (map (λ (m : Message). m.at) (sent_by sys p (events_at sys.flow p h))) (last_number n)
sequence-thinned sys h p n is none count base all =
    let vs = events_at sys.flow p h in
    let same : sent_by sys p vs ≡ sequence_sent vs = sent_by-sequence sys p is vs (no_inject sys.flow p h none) in
    let many : length (sequence_sent vs) ≡ n = sym (count ∙ ap length same) in
    subst (λ m. IsThinned base (map (λ (x : Message). x.at) (sent_by sys p vs)) (last_number m)) many
    (subst (λ ms. IsThinned base (map (λ (x : Message). x.at) ms) (last_number (length (sequence_sent vs)))) (sym same)
    (numbers-thinned base all (length (sequence_sent vs)) (sequence_sent vs) (sequence-numbers vs)))

-- and each of its numbers is there
sequence-inside : (sys : System) (h : List Event) (p : ℕ) → SendsByCount (kind_of sys.flow p) → injected_count p h ≡ 0
    → (base : Frontier) → ((x : ℕ) → x ≤ greatest_number → base (x ∷ []) ≡ true)
    → AllByRecursion (λ s. base s ≡ true) (map (λ (m : Message). m.at) (sent_by sys p (events_at sys.flow p h)))
sequence-inside sys h p is none base all =
    let vs = events_at sys.flow p h in
    let same : sent_by sys p vs ≡ sequence_sent vs = sent_by-sequence sys p is vs (no_inject sys.flow p h none) in
    subst (λ ms. AllByRecursion (λ s. base s ≡ true) (map (λ (x : Message). x.at) ms)) (sym same)
    (each-map (λ s. base s ≡ true) (λ (x : Message). x.at) (sequence_sent vs)
    (each-weaker (IsNumber 0 (length (sequence_sent vs))) (λ (x : Message). base x.at ≡ true) (sequence_sent vs) (λ s i. ap base i.at ∙ all i.number i.few) (sequence-numbers vs).each))

-- ---- numbers as data

numbered-own : (ss : List Stamp) (e : ℕ) → AllByRecursion (λ (m : Counted). m.edge ≡ e) (messages_numbered ss e)
numbered-own [] e = tt
numbered-own (s ∷ ss) e = (refl, numbered-own ss e)

numbered-stamps : (f : Frontier) → f (0 ∷ []) ≡ true → (ss : List Stamp) (e : ℕ) → map (λ (m : Counted). m.at) (filter (λ (m : Counted). all_inside f m.causes) (messages_numbered ss e)) ≡ ss
numbered-stamps f i [] e = refl
numbered-stamps f i (s ∷ ss) e =
    let rest = filter (λ (m : Counted). all_inside f m.causes) (messages_numbered ss e) in
    ap (λ b. map (λ (m : Counted). m.at) (cond b (record { edge = e; at = s; causes = (0 ∷ []) ∷ []; count = 1 } ∷ rest) rest)) (and_from (f (0 ∷ [])) true i refl)
    ∙ ap (λ ts. s ∷ ts) (numbered-stamps f i ss e)

-- those that pass both tests are those of the ones that pass the first that pass the second
both-tests : (test keep : Counted → Bool) (ms : List Counted) → filter (λ m. test m && keep m) ms ≡ filter keep (filter test ms)
both-tests test keep [] = refl
both-tests test keep (m ∷ ms) = by (test m) (both-tests test keep ms)
  where
    by : (b : Bool) → filter (λ x. test x && keep x) ms ≡ filter keep (filter test ms)
        → cond (b && keep m) (m ∷ filter (λ x. test x && keep x) ms) (filter (λ x. test x && keep x) ms) ≡ filter keep (cond b (m ∷ filter test ms) (filter test ms))
    by true ih = ap (λ xs. cond (keep m) (m ∷ xs) xs) ih
    by false ih = ih

numbered-on : (flow : Dataflow) (p : ℕ) (f : Frontier) → f (0 ∷ []) ≡ true → (ss : List Stamp) (e : ℕ) → e < length flow.edges → sender flow e ≡ p
    → stamps_on_from e f (flat_map (messages_numbered ss) (out_edges flow p)) ≡ ss
numbered-on flow p f i ss e l r =
    let ms = flat_map (messages_numbered ss) (out_edges flow p) in
    ap (map (λ (m : Counted). m.at)) (both-tests (λ (m : Counted). m.edge == e) (λ (m : Counted). all_inside f m.causes) ms)
    ∙ ap (λ xs. map (λ (m : Counted). m.at) (filter (λ (m : Counted). all_inside f m.causes) xs))
    (on-once (messages_numbered ss) (numbered-own ss) (out_edges flow p) e (subst (λ q. how_often (out_edges flow q) e ≡ 1) r (once-out flow e l)))
    ∙ numbered-stamps f i ss e

numbered-on_edge : (flow : Dataflow) (e : ℕ) (ss : List Stamp) → AreOf (bounds_of flow (receiver flow e)) ss → AreAtEdgeStamps flow (messages_numbered ss e)
numbered-on_edge flow e [] a = tt
numbered-on_edge flow e (s ∷ ss) a = (a.0, numbered-on_edge flow e ss a.1)

-- ---- lists as data

all-sequence : (flow : Dataflow) (p : ℕ) (kept : ℕ → List Stamp) (n : ℕ) (counts : Bool) → is_sequence_kind (kind_of flow p) ≡ true → counts_sent flow p ≡ counts
    → all_sent flow p kept n ≡ cond counts (flat_map (messages_numbered (last_number n)) (out_edges flow p)) []
all-sequence flow p kept n counts k c =
    let ms = flat_map (messages_numbered (last_number n)) (out_edges flow p) in
    ap (λ b. cond b (cond (counts_sent flow p) ms []) (flat_map (λ e. counted_at_stamps flow p (kept e) e) (out_edges flow p))) k ∙ ap (λ b. cond b ms []) c

all-others : (flow : Dataflow) (p : ℕ) (kept : ℕ → List Stamp) (n : ℕ) → is_sequence_kind (kind_of flow p) ≡ false
    → all_sent flow p kept n ≡ flat_map (λ e. counted_at_stamps flow p (kept e) e) (out_edges flow p)
all-others flow p kept n k =
    ap (λ b. cond b (cond (counts_sent flow p) (flat_map (messages_numbered (last_number n)) (out_edges flow p)) []) (flat_map (λ e. counted_at_stamps flow p (kept e) e) (out_edges flow p))) k

past_receiver : (flow : Dataflow) (d : ℕ) → length flow.edges ≤ d → receiver flow d ≡ length flow.nodes
unfolding receiver
past_receiver flow d l = ap (λ (e : Edge). e.receiver) (get_or_past flow.edges d (record { name = []; sender = length flow.nodes; receiver = length flow.nodes }) l)

-- an edge into a node is one of the flow
pub edge-there : (flow : Dataflow) (p d : ℕ) → p < length flow.nodes → receiver flow d ≡ p → d < length flow.edges
edge-there flow p d l r = elim (cases_lt d (length flow.edges)) [
  | inl i ↦ i
  | inr i ↦ let z : length flow.nodes ≡ p = sym (past_receiver flow d i) ∙ r in absurd (omega (arith, l, z))
]

kept-stand : (whole : Bool) (sys : System) (h : List Event) (p : ℕ) (base : Frontier) (kept : ℕ → List Stamp) (notified : List Stamp) (sent : ℕ → List Stamp) (n : ℕ) → IsWellFormed sys.flow → p < length sys.flow.nodes
    → AreProper sys h p → AreKept whole sys h p base kept notified sent n
    → AreStampsIf whole sys h p base (record { delivered = all_delivered sys.flow p kept; notified = notified; sent = all_sent sys.flow p sent n })
kept-stand whole sys h p base kept notified sent n w l proper k = record {
  on_edges = (
    delivered-on_edges sys.flow p kept
        (λ d i r. among-domain (bounds_of sys.flow p) (map (λ (m : Message). m.at) (delivered_messages h d)) (kept d)
        (subst (λ q. AreEventsInDomain sys.flow h q → AreOf (bounds_of sys.flow q) (map (λ (m : Message). m.at) (delivered_messages h d))) r (delivered-domain sys h d) proper.in_the_domain)
        (k.on_edges d i r).among),
    by (is_sequence_kind (kind_of sys.flow p)) refl,
  );
  in_domain = among-domain (bounds_of sys.flow p) (flat_map (stamp_of_notice p) h) notified (notices-domain sys h p proper.in_the_domain) k.notices.among;
  delivered = λ d r. let i = edge-there sys.flow p d l r in subst (IsThinnedIf whole base (map (λ (m : Message). m.at) (delivered_messages h d))) (sym (delivered-on sys.flow p kept d i r)) (k.on_edges d i r);
  notified = k.notices;
  sent = λ s e i r.
      subst (StandForSent (whole && tells_sent sys.flow p) sys h p (base_of_sent sys.flow p base) e) (sym (ap (counted_on_edge e) (all-others sys.flow p sent n (single-no_sequence (kind_of sys.flow p) s)) ∙ sent-on sys.flow p sent e i r))
      (stands-for_sent (whole && tells_sent sys.flow p) sys h p (base_of_sent sys.flow p base) (sent e) e i r (sends s e i r) (k.sends e i r s));
  numbered = λ s t e i r. numbered s (counts-sequence sys.flow w p l s t) e i r;
}
  where
    sends : is_single_kind (kind_of sys.flow p) ≡ true → (e : ℕ) → e < length sys.flow.edges → sender sys.flow e ≡ p → AllByRecursion (Sends sys.flow p) (sent e)
    sends s e i r =
        let told = whole && tells_sent sys.flow p in
        let inside = base_of_sent sys.flow p base in
        subst (λ q. is_single_kind (kind_of sys.flow q) ≡ true → AreOf (bounds_of sys.flow q) (causes_in (sent_messages sys h e))
        → StandForCauses sys.flow q told inside (causes_in (sent_messages sys h e)) (sent e) → AllByRecursion (Sends sys.flow q) (sent e)) r
        (kept-send sys h e told inside (sent e)) s (edge-domain sys h p e r proper.in_the_domain) (k.sends e i r s)

    numbers : (s : is_sequence_kind (kind_of sys.flow p) ≡ true) → counts_sent sys.flow p ≡ true → (e : ℕ) → sender sys.flow e ≡ p
        → IsThinned (everything (bounds_of sys.flow (receiver sys.flow e))) (map (λ (m : Message). m.at) (sent_by sys p (events_at sys.flow p h))) (last_number n)
    numbers s c e r =
        sequence-thinned sys h p n (is_sequence (kind_of sys.flow p) s) (proper.no_batch s) (k.count s c) (everything (bounds_of sys.flow (receiver sys.flow e)))
        (number-domain sys.flow w p e (is_sequence (kind_of sys.flow p) s) r)

    of_sequence : (c : Bool) → is_sequence_kind (kind_of sys.flow p) ≡ true → counts_sent sys.flow p ≡ c → AreAtEdgeStamps sys.flow (all_sent sys.flow p sent n)
    of_sequence false s c = subst (AreAtEdgeStamps sys.flow) (sym (all-sequence sys.flow p sent n false s c)) tt
    of_sequence true s c =
        subst (AreAtEdgeStamps sys.flow) (sym (all-sequence sys.flow p sent n true s c))
        (each-joined (λ (m : Counted). in_domain (bounds_of sys.flow (receiver sys.flow m.edge)) m.at ≡ true) (messages_numbered (last_number n)) (out_edges sys.flow p)
        (out_edges-from (λ e. AreAtEdgeStamps sys.flow (messages_numbered (last_number n) e)) sys.flow p
        (λ e i r. numbered-on_edge sys.flow e (last_number n)
        (kept-domain (bounds_of sys.flow (receiver sys.flow e)) (everything (bounds_of sys.flow (receiver sys.flow e))) (map (λ (m : Message). m.at) (sent_by sys p (events_at sys.flow p h))) (last_number n)
        (sequence-inside sys h p (is_sequence (kind_of sys.flow p) s) (proper.no_batch s) (everything (bounds_of sys.flow (receiver sys.flow e)))
        (number-domain sys.flow w p e (is_sequence (kind_of sys.flow p) s) r))
        (numbers s c e r)))))

    by : (b : Bool) → is_sequence_kind (kind_of sys.flow p) ≡ b → AreAtEdgeStamps sys.flow (all_sent sys.flow p sent n)
    by true s = of_sequence (counts_sent sys.flow p) s refl
    by false s =
        subst (AreAtEdgeStamps sys.flow) (sym (all-others sys.flow p sent n s))
        (each-joined (λ (m : Counted). in_domain (bounds_of sys.flow (receiver sys.flow m.edge)) m.at ≡ true) (λ e. counted_at_stamps sys.flow p (sent e) e) (out_edges sys.flow p)
        (out_edges-from (λ e. AllByRecursion (λ (m : Counted). in_domain (bounds_of sys.flow (receiver sys.flow m.edge)) m.at ≡ true) (counted_at_stamps sys.flow p (sent e) e)) sys.flow p
        (λ e i r. messages-on_edges sys.flow w p (sent e) e r (sends (no_sequence-single (kind_of sys.flow p) s) e i r))))

    numbered : is_sequence_kind (kind_of sys.flow p) ≡ true → counts_sent sys.flow p ≡ true → (e : ℕ) → e < length sys.flow.edges → sender sys.flow e ≡ p
        → StandForNumbered sys h e (all_sent sys.flow p sent n)
    numbered s c e i r =
        let first = first-domain sys.flow p (is_sequence (kind_of sys.flow p) s) in
        let B = everything (bounds_of sys.flow (receiver sys.flow e)) in
        let left : stamps_on_from e (everything (bounds_of sys.flow p)) (all_sent sys.flow p sent n) ≡ last_number n =
        ap (stamps_on_from e (everything (bounds_of sys.flow p))) (all-sequence sys.flow p sent n true s c) ∙ numbered-on sys.flow p (everything (bounds_of sys.flow p)) first (last_number n) e i r in
        subst (λ ms. IsThinned B (map (λ (m : Message). m.at) ms) (stamps_on_from e (everything (bounds_of sys.flow (sender sys.flow e))) (all_sent sys.flow p sent n)))
        (sym (carried-sequence sys.flow w e (ap (λ q. is_sequence_kind (kind_of sys.flow q)) r ∙ s) (sent_by sys (sender sys.flow e) (events_at sys.flow (sender sys.flow e) h))))
        (subst (λ q. IsThinned B (map (λ (m : Message). m.at) (sent_by sys q (events_at sys.flow q h))) (stamps_on_from e (everything (bounds_of sys.flow q)) (all_sent sys.flow p sent n))) (sym r)
        (subst (IsThinned B (map (λ (m : Message). m.at) (sent_by sys p (events_at sys.flow p h)))) (sym left) (numbers s c e r)))

-- ---- of all events

count-everything : (ms : List Message) → count_from (inside []) ms ≡ length ms
count-everything [] = refl
count-everything (m ∷ ms) = ap (λ b. cond b (count_from (inside []) ms + 1) (count_from (inside []) ms)) (each m.causes) ∙ more (count_from (inside []) ms) (length ms) (count-everything ms)
  where
    each : (cs : List Stamp) → all_inside (inside []) cs ≡ true
    each [] = refl
    each (c ∷ cs) = each cs

    more : (x y : ℕ) → x ≡ y → x + 1 ≡ suc y
    more x y e = omega (arith, e)

proper-events : (sys : System) (h : List Event) (p : ℕ) → IsWellFormed sys.flow → HasEpochs sys → IsLegal sys h → AreProper sys h p
proper-events sys h p w b l = record {
  in_the_domain = legal_events-in_domain sys h w b l p;
  no_batch = λ s. no_injection sys h p l (is_sequence (kind_of sys.flow p) s);
}

all-kept : (whole : Bool) (sys : System) (h : List Event) (p : ℕ) (base : Frontier) (traces : Traces) → IsTraceIf whole sys h p base traces
    → AreKept whole sys h p base (λ d. taken None (delivered_on traces d)) (taken None (stamps_notified traces p)) (λ e. taken None (stamps_where_sent traces e)) (count_taken None (counted_of traces p))
all-kept whole sys h p base traces t = record {
  on_edges = t.delivered;
  notices = t.notified;
  sends = t.sent;
  count = λ s c. t.counted c (inside []) (λ x i. refl) ∙ count-everything (sent_by sys p (events_at sys.flow p h));
}

-- ---- of the events inside a frontier

delivered-inside : (f : Frontier) (vs : List Event) (d : ℕ) → delivered_messages (events_inside f vs) d ≡ messages_inside f (delivered_messages vs d)
delivered-inside f [] d = refl
delivered-inside f (Inject s x ∷ vs) d = by (f (x ∷ [])) (delivered-inside f vs d)
  where
    by : (c : Bool) → delivered_messages (events_inside f vs) d ≡ messages_inside f (delivered_messages vs d)
        → delivered_messages (cond c (Inject s x ∷ events_inside f vs) (events_inside f vs)) d ≡ messages_inside f (delivered_messages vs d)
    by true e = e
    by false e = e
delivered-inside f (Notify p t ∷ vs) d = by (f t) (delivered-inside f vs d)
  where
    by : (c : Bool) → delivered_messages (events_inside f vs) d ≡ messages_inside f (delivered_messages vs d)
        → delivered_messages (cond c (Notify p t ∷ events_inside f vs) (events_inside f vs)) d ≡ messages_inside f (delivered_messages vs d)
    by true e = e
    by false e = e
delivered-inside f (Deliver x m ∷ vs) d = by (f m.at) refl (delivered-inside f vs d)
  where
    left : List Message
    left = delivered_messages (events_inside f vs) d

    all : List Message
    all = delivered_messages vs d

    kept : (b : Bool) → f m.at ≡ true → left ≡ messages_inside f all → cond b (m ∷ []) [] ++ left ≡ messages_inside f (cond b (m ∷ []) [] ++ all)
    kept true i e = ap (λ ms. m ∷ ms) e ∙ sym (ap (λ c. cond c (m ∷ messages_inside f all) (messages_inside f all)) i)
    kept false i e = e

    dropped : (b : Bool) → f m.at ≡ false → left ≡ messages_inside f all → left ≡ messages_inside f (cond b (m ∷ []) [] ++ all)
    dropped true i e = e ∙ sym (ap (λ c. cond c (m ∷ messages_inside f all) (messages_inside f all)) i)
    dropped false i e = e

    by : (c : Bool) → f m.at ≡ c → left ≡ messages_inside f all → delivered_messages (cond c (Deliver x m ∷ events_inside f vs) (events_inside f vs)) d ≡ messages_inside f (cond (x == d) (m ∷ []) [] ++ all)
    by true i e = kept (x == d) i e
    by false i e = dropped (x == d) i e

-- the events of a node among those inside a set are those of its own that are inside
at-inside : (flow : Dataflow) (p : ℕ) (f : Frontier) (h : List Event) → events_at flow p (events_inside f h) ≡ events_inside f (events_at flow p h)
at-inside flow p f h =
    filter-swap (λ v. event_node flow v == p) (λ v. f (event_stamp v)) (λ v. f (event_stamp v)) h (each-one (λ v. (event_node flow v == p) ≡ true → f (event_stamp v) ≡ f (event_stamp v)) h (λ v c. refl))

-- where one node keeps the events inside a frontier, it has these
kept-inside : (flow : Dataflow) (h : List Event) (p : ℕ) (f : Front)
    → events_at flow p (events_inside (node_frontier flow p f) h) ≡ events_at flow p (kept_events flow (λ q. node_frontier flow q (cond (q == p) f [])) h)
kept-inside flow h p f =
    at-inside flow p (node_frontier flow p f) h ∙ ap (λ c. events_inside (node_frontier flow p (cond c f [])) (events_at flow p h)) (sym (eq-eqb p p refl))
    ∙ sym (events_at-kept flow (λ q. node_frontier flow q (cond (q == p) f [])) p h)

-- what a node sent by its events inside a frontier
sent-inside : (sys : System) (h : List Event) (p : ℕ) (f : Front) → IsWellFormed sys.flow → HasEpochs sys → IsLegal sys h
    → sent_by sys p (events_at sys.flow p (events_inside (node_frontier sys.flow p f) h)) ≡ messages_from (node_frontier sys.flow p f) (sent_by sys p (events_at sys.flow p h))
sent-inside sys h p f w b l =
    ap (sent_by sys p) (kept-inside sys.flow h p f)
    ∙ sent_by-same sys h (λ q. node_frontier sys.flow q (cond (q == p) f [])) w b l (λ q. frontier-closed (bounds_of sys.flow q) (cond (q == p) f [])) p
    ∙ ap (λ c. messages_from (node_frontier sys.flow p (cond c f [])) (sent_by sys p (events_at sys.flow p h))) (eq-eqb p p refl)

-- and on an out-edge
edge-inside : (sys : System) (h : List Event) (p : ℕ) (f : Front) → IsWellFormed sys.flow → HasEpochs sys → IsLegal sys h → (e : ℕ) → sender sys.flow e ≡ p
    → sent_messages sys (events_inside (node_frontier sys.flow p f) h) e ≡ messages_from (node_frontier sys.flow p f) (sent_messages sys h e)
edge-inside sys h p f w b l e r =
    sent-own sys (events_inside (node_frontier sys.flow p f) h) (kept_events sys.flow keep h) e
    (subst (λ q. events_at sys.flow q (kept_events sys.flow keep h) ≡ events_at sys.flow q (events_inside (node_frontier sys.flow p f) h)) (sym r) (sym (kept-inside sys.flow h p f)))
    ∙ sends-same sys h keep w b l (λ q. frontier-closed (bounds_of sys.flow q) (cond (q == p) f [])) e
    ∙ ap (λ q. messages_from (keep q) (sent_messages sys h e)) r
    ∙ ap (λ c. messages_from (node_frontier sys.flow p (cond c f [])) (sent_messages sys h e)) (eq-eqb p p refl)
  where
    keep : ℕ → Frontier
    keep q = node_frontier sys.flow q (cond (q == p) f [])

proper-inside : (sys : System) (h : List Event) (p : ℕ) (f : Frontier) → AreProper sys h p → AreProper sys (events_inside f h) p
proper-inside sys h p f proper = record {
  in_the_domain = subst (AllByRecursion (λ v. in_domain (bounds_of sys.flow p) (event_stamp v) ≡ true)) (sym (at-inside sys.flow p f h))
      (each-kept (λ v. in_domain (bounds_of sys.flow p) (event_stamp v) ≡ true) (λ v. f (event_stamp v)) (events_at sys.flow p h) proper.in_the_domain);
  no_batch = λ s. none-kept (is_injection p) (λ v. f (event_stamp v)) h (proper.no_batch s);
}

whole-inside : (bounds : Bounds) (base : Frontier) (all kept : List Stamp) (f : Front) → AreOf bounds all → Within base (frontier_of bounds f)
    → IsThinnedIf true base all kept → IsThinnedIf true (frontier_of bounds f) (filter (frontier_of bounds f) all) (thinned f (filter (inside f) kept))
whole-inside bounds base all kept f d w h =
    thinned-if true (frontier_of bounds f) (filter (frontier_of bounds f) all) (thinned f (filter (inside f) kept))
    (thinned-inside bounds base all kept f d w (thinned-whole base all kept h))

-- the same of where a node sent, if that is told
sent_whole-inside : (told : Bool) (bounds : Bounds) (base : Frontier) (all kept : List Stamp) (f : Front) → AreOf bounds all → Within base (frontier_of bounds f)
    → IsThinnedIf told (cond told base (λ t. true)) all kept
    → IsThinnedIf told (cond told (frontier_of bounds f) (λ t. true)) (filter (frontier_of bounds f) all) (thinned f (filter (inside f) kept))
sent_whole-inside true bounds base all kept f d w h = whole-inside bounds base all kept f d w h
sent_whole-inside false bounds base all kept f d w h =
    let g = frontier_of bounds f in
    let own = among-domain bounds all kept d h.among in
    untold-if false (filter g all) (thinned f (filter (inside f) kept))
    (each-weaker (Contains (filter g kept)) (Contains (filter g all)) (thinned f (filter (inside f) kept))
    (λ s c. each-contained (Contains (filter g all)) s (filter g kept) c (among-passed g all kept h.among))
    (thinned-inside bounds base kept kept f own w (thinned-itself base kept)).among)

inside-kept : (sys : System) (h : List Event) (p : ℕ) (f : Front) (traces : Traces) → IsWellFormed sys.flow → HasEpochs sys → IsLegal sys h → IsTraceWithin true sys h p f traces
    → AreKept true sys (events_inside (node_frontier sys.flow p f) h) p (node_frontier sys.flow p f) (λ d. taken (Some f) (delivered_on traces d)) (taken (Some f) (stamps_notified traces p))
    (λ e. taken (Some f) (stamps_where_sent traces e)) (count_taken (Some f) (counted_of traces p))
inside-kept sys h p f traces w b l t = record {
  on_edges = λ d i r.
      let all = map (λ (m : Message). m.at) (delivered_messages h d) in
      let same : map (λ (m : Message). m.at) (delivered_messages (events_inside g h) d) ≡ filter g all = ap (map (λ (m : Message). m.at)) (delivered-inside g h d) ∙ map-filter g (delivered_messages h d) in
      subst (λ ss. IsThinnedIf true g ss (thinned f (filter (inside f) (delivered_on traces d)))) (sym same)
      (whole-inside (bounds_of sys.flow p) t.base all (delivered_on traces d) f
      (subst (λ q. AreEventsInDomain sys.flow h q → AreOf (bounds_of sys.flow q) all) r (delivered-domain sys h d) a) t.within (t.trace.delivered d i r));
  notices = subst (λ ss. IsThinnedIf true g ss (thinned f (filter (inside f) (stamps_notified traces p)))) (sym (notices-inside p g h))
      (whole-inside (bounds_of sys.flow p) t.base (flat_map (stamp_of_notice p) h) (stamps_notified traces p) f (notices-domain sys h p a) t.within t.trace.notified);
  sends = λ e i r s. subst (λ ss. StandForCauses sys.flow p (tells_sent sys.flow p) (base_of_sent sys.flow p g) ss (thinned f (filter (inside f) (stamps_where_sent traces e))))
      (sym (ap causes_in (edge-inside sys h p f w b l e r) ∙ causes-from g (sent_messages sys h e) (edge-one_cause sys h e)))
      (for-cut sys.flow p (tells_sent sys.flow p) (base_of_sent sys.flow p t.base) (base_of_sent sys.flow p g) g (causes_in (sent_messages sys h e)) (stamps_where_sent traces e)
      (thinned f (filter (inside f) (stamps_where_sent traces e))) (λ j. sent-within sys.flow p t.base g t.within) (sent-base true sys.flow p t.base g t.within) (edge-domain sys h p e r a)
      (λ all of. sent_whole-inside (tells_sent sys.flow p) (bounds_of sys.flow p) t.base all (stamps_where_sent traces e) f of t.within) (t.trace.sent e i r s));
  count = λ s c.
      tally-count (bounds_of sys.flow p) t.base ms f (counted_of traces p) (sent-domain sys h p a) t.within (t.trace.counted c)
      ∙ sym (ap length (sent-inside sys h p f w b l) ∙ from-length g ms);
}
  where
    g : Frontier
    g = node_frontier sys.flow p f

    ms : List Message
    ms = sent_by sys p (events_at sys.flow p h)

    a : AreEventsInDomain sys.flow h p
    a = legal_events-in_domain sys h w b l p

-- ---- the calls

pub all-stand : {E : Type 0} (flow : Dataflow) (p : ℕ) (traces : Traces) (result : Result Stamps E) → IsWellFormed flow → p < length flow.nodes
    → IfOk result (λ stamps. stamps ≡ stamps_by flow p None traces)
    → (whole : Bool) (sys : System) (h : List Event) (base : Frontier) → sys.flow ≡ flow → HasEpochs sys → IsLegal sys h → IsTraceIf whole sys h p base traces
    → IfOk result (AreStampsIf whole sys h p base)
all-stand flow p traces result w there given whole sys h base s b l t =
    let well : IsWellFormed sys.flow = subst IsWellFormed (sym s) w in
    let stand = kept-stand whole sys h p base _ _ _ _ well (subst (λ g. p < length g.nodes) (sym s) there) (proper-events sys h p well b l) (all-kept whole sys h p base traces t) in
    IfOk-weaker result (λ stamps. stamps ≡ stamps_by flow p None traces) (AreStampsIf whole sys h p base)
    (λ stamps e. subst (AreStampsIf whole sys h p base) (sym (e ∙ ap (λ g. stamps_by g p None traces) (sym s))) stand) given

-- they have its stamps
pub has-stamps : {E : Type 0} (flow : Dataflow) (p : ℕ) (traces : Traces) (result : Result Stamps E) → p < length flow.nodes → IfOk result (λ stamps. stamps ≡ stamps_by flow p None traces)
    → IfOk result (HasItsStamps flow p traces)
has-stamps flow p traces result there given =
    IfOk-weaker result (λ stamps. stamps ≡ stamps_by flow p None traces) (HasItsStamps flow p traces)
    (λ stamps e. record {
      delivered = λ d r. ap (λ (s : Stamps). stamps_on d s.delivered) e ∙ delivered-on flow p (delivered_on traces) d (edge-there flow p d there r) r;
      notified = ap (λ (s : Stamps). s.notified) e;
    }) given

pub inside-stand : {E : Type 0} (flow : Dataflow) (p : ℕ) (f : Front) (traces : Traces) (result : Result Stamps E) → IsWellFormed flow → p < length flow.nodes
    → IfOk result (λ stamps. stamps ≡ stamps_by flow p (Some f) traces)
    → (sys : System) (h : List Event) → sys.flow ≡ flow → HasEpochs sys → IsLegal sys h → IsTraceWithin true sys h p f traces
    → IfOk result (AreStampsIf true sys (events_inside (node_frontier flow p f) h) p (node_frontier flow p f))
inside-stand flow p f traces result w there given sys h s b l t =
    let well : IsWellFormed sys.flow = subst IsWellFormed (sym s) w in
    let g = node_frontier sys.flow p f in
    let stand = kept-stand true sys (events_inside g h) p g _ _ _ _ well (subst (λ x. p < length x.nodes) (sym s) there) (proper-inside sys h p g (proper-events sys h p well b l))
    (inside-kept sys h p f traces well b l t) in
    subst (λ x. IfOk result (AreStampsIf true sys (events_inside (node_frontier x p f) h) p (node_frontier x p f))) s
    (IfOk-weaker result (λ stamps. stamps ≡ stamps_by flow p (Some f) traces) (AreStampsIf true sys (events_inside g h) p g)
    (λ stamps e. subst (AreStampsIf true sys (events_inside g h) p g) (sym (e ∙ ap (λ x. stamps_by x p (Some f) traces) (sym s))) stand) given)
