-- Traces inside a larger base, and in a cut.
use Rattle.std.proofs.Common.{◌≡◌, ◌≢◌, ℕ, Bool, true, false, ◌&&◌, ◌==◌, cond, List, [], ◌∷◌, ◌++◌, map, refl, sym, ap, subst, ◌∙◌}
use Rattle.std.specs.Prelude.{filter}
use Rattle.std.specs.List.{AllByRecursion, flat_map}
use Rattle.std.proofs.lemmas.Bool.{eq-eqb, eqb-true, false_from_ne_true}
use Rattle.fw_lemmas.proofs.Each.{each-append}
use Rattle.fw_lemmas.proofs.Filters.{flat_map-filter}
use Rattle.fw_time.specs.Stamp.{Stamp, in_domain}
use Rattle.fw_time.specs.declared.stamp.Bounds.{Bounds}
use Rattle.fw_frontier.specs.Frontier.{Frontier, Within}
use Rattle.fw_frontier.specs.Front.{Front, frontier_of}
use Rattle.fw_flow.specs.declared.event.Event.{Event}
use Rattle.fw_flow.specs.declared.event.Event.TheVariants.{Inject, Deliver, Notify}
use Rattle.fw_flow.specs.declared.event.Message.{Message}
use Rattle.fw_flow.specs.Dataflow.{System, Dataflow, receiver, bounds_of, node_frontier, HasEpochs, sender}
use Rattle.fw_flow.specs.NodeFunction.{event_node, event_stamp, sent_by}
use Rattle.fw_flow.specs.Projection.{events_at}
use Rattle.fw_flow.specs.WellFormed.{IsWellFormed}
use Rattle.fw_model.specs.Carried.{carried}
use Rattle.fw_model.specs.Covers.{stamp_of_notice}
use Rattle.fw_model.specs.Filtering.{AreFrontiers, kept_events, messages_inside, messages_from, events_inside}
use Rattle.fw_model.specs.History.{message_on, delivered_messages, AreEventsInDomain, IsLegal, sent_messages}
use Rattle.fw_model.specs.Thinned.{IsThinned, IsThinnedIf}
use Rattle.fw_model.proofs.CarriedLaws.{carried-each}
use Rattle.fw_model.proofs.LegalLaws.{legal_events-in_domain}
use Rattle.fw_model.proofs.CauseLaws.{sent_by-each_cause, sent_by-one_cause}
use Rattle.fw_model.proofs.LocalityLaws.{events_at-kept, sent_by-same, delivers-same, sends-same}
use Rattle.fw_model.proofs.SequenceLaws.{one_inside}
use Rattle.fw_progress.specs.declared.sent_tally.SentTally.{SentTally}
use Rattle.fw_progress.specs.declared.traces.Traces.{Traces}
use Rattle.fw_model.specs.Alike.{StandForCauses}
use Rattle.fw_model.proofs.AlikeLaws.{for-wider, for-cut}
use Rattle.fw_model.specs.EventStamps.{causes_in, base_of_sent, tells_sent}
use Rattle.fw_progress.specs.SentTally.{IsSentTally, ComeFromDomain, IsTallySettledTo, IsCountedInAll, IsTallyCutTo}
use Rattle.fw_progress.specs.Trace.{delivered_on, stamps_notified, stamps_where_sent, counted_of, IsTraceIf, IsTraceWithin, KeepsLists, KeepsOthers, AreSettledTo, AreThinnedAt, AreCutTo, HaveChanged}
use Rattle.fw_progress.specs.Traces.{AreOf, IsSettledTo, IsThinnedBy, StandsInside}
use Rattle.fw_progress.proofs.SentTallyLaws.{tally-settle}
use Rattle.fw_progress.proofs.TraceLaws.{thinned-settle, settled-if, inside-if, sent_settled-if, sent_inside-if, sent-base, sent-within}

-- ---- of a node's events alone

-- what was delivered on an edge, by its receiver's events alone
pub delivered-at : (flow : Dataflow) (h : List Event) (d : ℕ) → delivered_messages (events_at flow (receiver flow d) h) d ≡ delivered_messages h d
delivered-at flow h d = flat_map-filter (message_on d) (λ v. event_node flow v == receiver flow d) h (each h)
  where
    each : (vs : List Event) → AllByRecursion (λ v. (event_node flow v == receiver flow d) ≡ false → message_on d v ≡ []) vs
    each [] = tt
    each (Inject s x ∷ vs) = ((λ k. refl), each vs)
    each (Deliver e m ∷ vs) = ((λ k. ap (λ b. cond b (m ∷ []) []) (false_from_ne_true (e == d) (λ i. other e i k))), each vs)
      where
        other : (e : ℕ) → (e == d) ≡ true → (receiver flow e == receiver flow d) ≡ false → ⊥
        other e i k = let z : true ≡ false = sym (eq-eqb (receiver flow e) (receiver flow d) (ap (receiver flow) (eqb-true e d i))) ∙ k in absurd (cc)
    each (Notify p t ∷ vs) = ((λ k. refl), each vs)

-- of what a node was notified, by its events alone
pub notices-at : (flow : Dataflow) (h : List Event) (p : ℕ) → flat_map (stamp_of_notice p) (events_at flow p h) ≡ flat_map (stamp_of_notice p) h
notices-at flow h p = flat_map-filter (stamp_of_notice p) (λ v. event_node flow v == p) h (each h)
  where
    each : (vs : List Event) → AllByRecursion (λ v. (event_node flow v == p) ≡ false → stamp_of_notice p v ≡ []) vs
    each [] = tt
    each (Inject s x ∷ vs) = ((λ k. refl), each vs)
    each (Deliver e m ∷ vs) = ((λ k. refl), each vs)
    each (Notify q t ∷ vs) = ((λ k. ap (λ b. cond b (t ∷ []) []) k), each vs)

-- what was sent on an edge, by its sender's events alone
pub sent-own : (sys : System) (h k : List Event) (e : ℕ) → events_at sys.flow (sender sys.flow e) k ≡ events_at sys.flow (sender sys.flow e) h → sent_messages sys h e ≡ sent_messages sys k e
sent-own sys h k e i = ap (λ vs. carried sys.flow e (sent_by sys (sender sys.flow e) vs)) (sym i)

-- traces are those of each history in which the node has the same events
pub same-trace : (whole : Bool) (sys : System) (h k : List Event) (p : ℕ) (base : Frontier) (traces : Traces) → events_at sys.flow p k ≡ events_at sys.flow p h
    → IsTraceIf whole sys h p base traces → IsTraceIf whole sys k p base traces
same-trace whole sys h k p base traces e t = record {
  delivered = λ d l r. subst (λ ms. IsThinnedIf whole base (map (λ (m : Message). m.at) ms) (delivered_on traces d)) (same d r) (t.delivered d l r);
  notified = subst (λ ss. IsThinnedIf whole base ss (stamps_notified traces p)) (sym (notices-at sys.flow h p) ∙ ap (flat_map (stamp_of_notice p)) (sym e) ∙ notices-at sys.flow k p) t.notified;
  sent = λ d l r n. subst (λ ms. StandForCauses sys.flow p (whole && tells_sent sys.flow p) (base_of_sent sys.flow p base) (causes_in ms) (stamps_where_sent traces d))
      (sent-own sys h k d (subst (λ q. events_at sys.flow q k ≡ events_at sys.flow q h) (sym r) e)) (t.sent d l r n);
  counted = λ c. subst (λ vs. IsSentTally base (sent_by sys p vs) (counted_of traces p)) (sym e) (t.counted c);
}
  where
    same : (d : ℕ) → receiver sys.flow d ≡ p → delivered_messages h d ≡ delivered_messages k d
    same d r =
        let now : events_at sys.flow (receiver sys.flow d) k ≡ events_at sys.flow (receiver sys.flow d) h = subst (λ q. events_at sys.flow q k ≡ events_at sys.flow q h) (sym r) e in
        sym (delivered-at sys.flow h d) ∙ ap (λ vs. delivered_messages vs d) (sym now) ∙ delivered-at sys.flow k d

-- ---- stamps of the domain

delivered-of : (flow : Dataflow) (d : ℕ) (b : Bounds) (vs : List Event) → AllByRecursion (λ v. in_domain b (event_stamp v) ≡ true) vs → AreOf b (map (λ (m : Message). m.at) (delivered_messages vs d))
delivered-of flow d b [] a = tt
delivered-of flow d b (Inject s x ∷ vs) a = delivered-of flow d b vs a.1
delivered-of flow d b (Deliver e m ∷ vs) a = by (e == d) (delivered-of flow d b vs a.1)
  where
    by : (c : Bool) → AreOf b (map (λ (m : Message). m.at) (delivered_messages vs d)) → AreOf b (map (λ (m : Message). m.at) (cond c (m ∷ []) [] ++ delivered_messages vs d))
    by true r = (a.0, r)
    by false r = r
delivered-of flow d b (Notify p t ∷ vs) a = delivered-of flow d b vs a.1

notices-of : (p : ℕ) (b : Bounds) (vs : List Event) → AllByRecursion (λ v. in_domain b (event_stamp v) ≡ true) vs → AreOf b (flat_map (stamp_of_notice p) vs)
notices-of p b [] a = tt
notices-of p b (Inject s x ∷ vs) a = notices-of p b vs a.1
notices-of p b (Deliver e m ∷ vs) a = notices-of p b vs a.1
notices-of p b (Notify q t ∷ vs) a = by (q == p) (notices-of p b vs a.1)
  where
    by : (c : Bool) → AreOf b (flat_map (stamp_of_notice p) vs) → AreOf b (cond c (t ∷ []) [] ++ flat_map (stamp_of_notice p) vs)
    by true r = (a.0, r)
    by false r = r

pub causes-of : (b : Bounds) (ms : List Message) → ComeFromDomain b ms → AreOf b (causes_in ms)
causes-of b [] a = tt
causes-of b (m ∷ ms) a = each-append (λ t. in_domain b t ≡ true) m.causes (causes_in ms) a.0 (causes-of b ms a.1)

-- where the stamps of a node's events are of its domain, so are those of each list
pub delivered-domain : (sys : System) (h : List Event) (d : ℕ) → AreEventsInDomain sys.flow h (receiver sys.flow d) → AreOf (bounds_of sys.flow (receiver sys.flow d)) (map (λ (m : Message). m.at) (delivered_messages h d))
delivered-domain sys h d a =
    subst (λ ms. AreOf (bounds_of sys.flow (receiver sys.flow d)) (map (λ (m : Message). m.at) ms)) (delivered-at sys.flow h d)
    (delivered-of sys.flow d (bounds_of sys.flow (receiver sys.flow d)) (events_at sys.flow (receiver sys.flow d) h) a)

pub notices-domain : (sys : System) (h : List Event) (p : ℕ) → AreEventsInDomain sys.flow h p → AreOf (bounds_of sys.flow p) (flat_map (stamp_of_notice p) h)
notices-domain sys h p a = subst (AreOf (bounds_of sys.flow p)) (notices-at sys.flow h p) (notices-of p (bounds_of sys.flow p) (events_at sys.flow p h) a)

pub sent-domain : (sys : System) (h : List Event) (p : ℕ) → AreEventsInDomain sys.flow h p → ComeFromDomain (bounds_of sys.flow p) (sent_by sys p (events_at sys.flow p h))
sent-domain sys h p a = sent_by-each_cause sys p (λ t. in_domain (bounds_of sys.flow p) t ≡ true) (events_at sys.flow p h) a

-- so are the causes of what was sent on an edge
pub edge-domain : (sys : System) (h : List Event) (p e : ℕ) → sender sys.flow e ≡ p → AreEventsInDomain sys.flow h p → AreOf (bounds_of sys.flow p) (causes_in (sent_messages sys h e))
edge-domain sys h p e r =
    subst (λ q. AreEventsInDomain sys.flow h q → AreOf (bounds_of sys.flow q) (causes_in (sent_messages sys h e))) r
    (λ a. causes-of (bounds_of sys.flow (sender sys.flow e)) (sent_messages sys h e)
    (carried-each sys.flow e (λ (m : Message). AllByRecursion (λ t. in_domain (bounds_of sys.flow (sender sys.flow e)) t ≡ true) m.causes)
    (sent_by sys (sender sys.flow e) (events_at sys.flow (sender sys.flow e) h)) (sent-domain sys h (sender sys.flow e) a)))

-- ---- lists that change together

changed-lists : (flow : Dataflow) (p : ℕ) (R : List Stamp → List Stamp → Type 0) (T : SentTally → SentTally → Type 0) (old new : Traces) → HaveChanged flow p R T old new
    → (q : ℕ) → q ≢ p → KeepsLists flow q old new
changed-lists flow p R T old new c q n = record {
  delivered = λ d r. c.delivered.others d (λ i. n (sym r ∙ i));
  notified = c.notified.others q n;
  sent = λ e s. c.sent.others e (λ i. n (sym s ∙ i));
}

changed-others : (flow : Dataflow) (p : ℕ) (R : List Stamp → List Stamp → Type 0) (T : SentTally → SentTally → Type 0) (old new : Traces) → HaveChanged flow p R T old new → KeepsOthers flow p old new
changed-others flow p R T old new c whole sys h e q n base t = record {
  delivered = λ d l r. subst (IsThinnedIf whole base (map (λ (m : Message). m.at) (delivered_messages h d))) (sym (c.delivered.others d (λ i. n (sym r ∙ ap (λ f. receiver f d) e ∙ i)))) (t.delivered d l r);
  notified = subst (IsThinnedIf whole base (flat_map (stamp_of_notice q) h)) (sym (c.notified.others q n)) t.notified;
  sent = λ d l r k. subst (StandForCauses sys.flow q (whole && tells_sent sys.flow q) (base_of_sent sys.flow q base) (causes_in (sent_messages sys h d)))
      (sym (c.sent.others d (λ i. n (sym r ∙ ap (λ f. sender f d) e ∙ i)))) (t.sent d l r k);
  counted = λ k. subst (IsSentTally base (sent_by sys q (events_at sys.flow q h))) (sym (c.counted.others q n)) (t.counted k);
}

settled-traces : (flow : Dataflow) (p : ℕ) (f : Front) (old new : Traces) → HaveChanged flow p (IsSettledTo f) (IsTallySettledTo f) old new → AreSettledTo flow p f old new
settled-traces flow p f old new change = record {
  here = λ whole sys h e.
      subst (λ g. AreEventsInDomain g h p → IsTraceWithin whole sys h p f old → IsTraceIf whole sys h p (node_frontier g p f) new) e
      (λ a w. here whole sys h (subst (λ g. HaveChanged g p (IsSettledTo f) (IsTallySettledTo f) old new) (sym e) change) a w);
  others = changed-others flow p (IsSettledTo f) (IsTallySettledTo f) old new change;
}
  where
    here : (whole : Bool) (sys : System) (h : List Event) → HaveChanged sys.flow p (IsSettledTo f) (IsTallySettledTo f) old new → AreEventsInDomain sys.flow h p
        → IsTraceWithin whole sys h p f old → IsTraceIf whole sys h p (node_frontier sys.flow p f) new
    here whole sys h c a w =
        let b = bounds_of sys.flow p in
        let t = w.trace in
        record {
          delivered = λ d l r. settled-if whole b f (delivered_on old d) (delivered_on new d) (c.delivered.here d l r) w.base (map (λ (m : Message). m.at) (delivered_messages h d))
              (subst (λ q. AreEventsInDomain sys.flow h q → AreOf (bounds_of sys.flow q) (map (λ (m : Message). m.at) (delivered_messages h d))) r (delivered-domain sys h d) a) w.within (t.delivered d l r);
          notified = settled-if whole b f (stamps_notified old p) (stamps_notified new p) c.notified.here w.base (flat_map (stamp_of_notice p) h) (notices-domain sys h p a) w.within t.notified;
          sent = λ d l r k. for-wider sys.flow p (whole && tells_sent sys.flow p) (base_of_sent sys.flow p w.base) (base_of_sent sys.flow p (node_frontier sys.flow p f))
              (causes_in (sent_messages sys h d)) (stamps_where_sent old d) (stamps_where_sent new d) (λ j. sent-within sys.flow p w.base (node_frontier sys.flow p f) w.within)
              (edge-domain sys h p d r a)
              (λ all of. sent_settled-if whole sys.flow p b f (stamps_where_sent old d) (stamps_where_sent new d) (c.sent.here d l r) w.base all of w.within) (t.sent d l r k);
          counted = λ k. c.counted.here b w.base (sent_by sys p (events_at sys.flow p h)) (sent-domain sys h p a) w.within (t.counted k);
        }

changed-weaker : (flow : Dataflow) (p : ℕ) (R S : List Stamp → List Stamp → Type 0) (T U : SentTally → SentTally → Type 0) (old new : Traces)
    → ((a b : List Stamp) → R a b → S a b) → ((a b : SentTally) → T a b → U a b) → HaveChanged flow p R T old new → HaveChanged flow p S U old new
changed-weaker flow p R S T U old new r t c = record {
  delivered = record { one_each = c.delivered.one_each; here = λ d l e. r _ _ (c.delivered.here d l e); others = c.delivered.others };
  notified = record { one_each = c.notified.one_each; here = r _ _ c.notified.here; others = c.notified.others };
  sent = record { one_each = c.sent.one_each; here = λ d l e. r _ _ (c.sent.here d l e); others = c.sent.others };
  counted = record { one_each = c.counted.one_each; here = t _ _ c.counted.here; others = c.counted.others };
}

-- what is thinned inside a larger base is settled there
pub thinned-traces : (flow : Dataflow) (p : ℕ) (f : Front) (old new : Traces) → AreThinnedAt flow p f old new → AreSettledTo flow p f old new
thinned-traces flow p f old new change = settled-traces flow p f old new
    (changed-weaker flow p (IsThinnedBy f) (IsSettledTo f) (IsCountedInAll f) (IsTallySettledTo f) old new
    (λ a b e bounds base all d w h. subst (IsThinned (frontier_of bounds f) all) (sym e) (thinned-settle bounds base all a f d w h))
    (λ a b e. tally-settle f a b (ap (λ (tally : SentTally). tally.inside) e) (ap (λ (tally : SentTally). tally.outside) e)) change)

-- ---- a cut

pub map-filter : (f : Frontier) (ms : List Message) → map (λ (m : Message). m.at) (messages_inside f ms) ≡ filter f (map (λ (m : Message). m.at) ms)
map-filter f [] = refl
map-filter f (m ∷ ms) = by (f m.at) (map-filter f ms)
  where
    by : (c : Bool) → map (λ (m : Message). m.at) (messages_inside f ms) ≡ filter f (map (λ (m : Message). m.at) ms)
        → map (λ (m : Message). m.at) (cond c (m ∷ messages_inside f ms) (messages_inside f ms)) ≡ cond c (m.at ∷ filter f (map (λ (m : Message). m.at) ms)) (filter f (map (λ (m : Message). m.at) ms))
    by true e = ap (λ ss. m.at ∷ ss) e
    by false e = e

-- of what a node was notified among the events inside a set
pub notices-inside : (p : ℕ) (f : Frontier) (vs : List Event) → flat_map (stamp_of_notice p) (events_inside f vs) ≡ filter f (flat_map (stamp_of_notice p) vs)
notices-inside p f [] = refl
notices-inside p f (Inject s x ∷ vs) = by (f (x ∷ [])) (notices-inside p f vs)
  where
    by : (c : Bool) → flat_map (stamp_of_notice p) (events_inside f vs) ≡ filter f (flat_map (stamp_of_notice p) vs)
        → flat_map (stamp_of_notice p) (cond c (Inject s x ∷ events_inside f vs) (events_inside f vs)) ≡ filter f (flat_map (stamp_of_notice p) vs)
    by true e = e
    by false e = e
notices-inside p f (Deliver d m ∷ vs) = by (f m.at) (notices-inside p f vs)
  where
    by : (c : Bool) → flat_map (stamp_of_notice p) (events_inside f vs) ≡ filter f (flat_map (stamp_of_notice p) vs)
        → flat_map (stamp_of_notice p) (cond c (Deliver d m ∷ events_inside f vs) (events_inside f vs)) ≡ filter f (flat_map (stamp_of_notice p) vs)
    by true e = e
    by false e = e
notices-inside p f (Notify q t ∷ vs) = by (f t) refl (notices-inside p f vs)
  where
    left : List Stamp
    left = flat_map (stamp_of_notice p) (events_inside f vs)

    all : List Stamp
    all = flat_map (stamp_of_notice p) vs

    taken : (b : Bool) → f t ≡ true → left ≡ filter f all → cond b (t ∷ []) [] ++ left ≡ filter f (cond b (t ∷ []) [] ++ all)
    taken true i e = ap (λ ss. t ∷ ss) e ∙ sym (ap (λ c. cond c (t ∷ filter f all) (filter f all)) i)
    taken false i e = e

    dropped : (b : Bool) → f t ≡ false → left ≡ filter f all → left ≡ filter f (cond b (t ∷ []) [] ++ all)
    dropped true i e = e ∙ sym (ap (λ c. cond c (t ∷ filter f all) (filter f all)) i)
    dropped false i e = e

    by : (c : Bool) → f t ≡ c → left ≡ filter f all → flat_map (stamp_of_notice p) (cond c (Notify q t ∷ events_inside f vs) (events_inside f vs)) ≡ filter f (cond (q == p) (t ∷ []) [] ++ all)
    by true i e = taken (q == p) i e
    by false i e = dropped (q == p) i e

-- of messages of one cause each, the causes of those from inside
pub causes-from : (f : Frontier) (ms : List Message) → AllByRecursion (λ (m : Message). (t : Stamp) × (m.causes ≡ t ∷ [])) ms → causes_in (messages_from f ms) ≡ filter f (causes_in ms)
causes-from f [] a = refl
causes-from f (m ∷ ms) a =
    let c = a.0 in
    ap (λ b. causes_in (cond b (m ∷ messages_from f ms) (messages_from f ms))) (one_inside f c.0 m (f c.0) refl c.1)
    ∙ by c.0 c.1 (f c.0) (causes-from f ms a.1) ∙ sym (ap (λ cs. filter f (cs ++ causes_in ms)) c.1)
  where
    by : (t : Stamp) → m.causes ≡ t ∷ [] → (b : Bool) → causes_in (messages_from f ms) ≡ filter f (causes_in ms)
        → causes_in (cond b (m ∷ messages_from f ms) (messages_from f ms)) ≡ cond b (t ∷ filter f (causes_in ms)) (filter f (causes_in ms))
    by t e true k = ap (λ cs. cs ++ causes_in (messages_from f ms)) e ∙ ap (λ ss. t ∷ ss) k
    by t e false k = k

pub notices-kept : (flow : Dataflow) (keep : ℕ → Frontier) (h : List Event) (p : ℕ) → flat_map (stamp_of_notice p) (kept_events flow keep h) ≡ filter (keep p) (flat_map (stamp_of_notice p) h)
notices-kept flow keep h p =
    sym (notices-at flow (kept_events flow keep h) p) ∙ ap (flat_map (stamp_of_notice p)) (events_at-kept flow keep p h)
    ∙ notices-inside p (keep p) (events_at flow p h) ∙ ap (filter (keep p)) (notices-at flow h p)

-- what was delivered on an in-edge of a node, of the events that each node keeps
pub delivered-kept : (sys : System) (h : List Event) (keep : ℕ → Frontier) (p : ℕ) (g : Frontier) → keep p ≡ g → (d : ℕ) → receiver sys.flow d ≡ p
    → map (λ (m : Message). m.at) (delivered_messages (kept_events sys.flow keep h) d) ≡ filter g (map (λ (m : Message). m.at) (delivered_messages h d))
delivered-kept sys h keep p g is d r =
    ap (map (λ (m : Message). m.at)) (delivers-same sys.flow h keep d) ∙ map-filter (keep (receiver sys.flow d)) (delivered_messages h d)
    ∙ ap (λ f. filter f (map (λ (m : Message). m.at) (delivered_messages h d))) (ap keep r ∙ is)

-- what was sent on an edge has one cause each
pub edge-one_cause : (sys : System) (h : List Event) (e : ℕ) → AllByRecursion (λ (m : Message). (t : Stamp) × (m.causes ≡ t ∷ [])) (sent_messages sys h e)
edge-one_cause sys h e =
    let vs = events_at sys.flow (sender sys.flow e) h in
    carried-each sys.flow e (λ (m : Message). (t : Stamp) × (m.causes ≡ t ∷ [])) (sent_by sys (sender sys.flow e) vs) (sent_by-one_cause sys (sender sys.flow e) vs)

-- and where it sent, on an out-edge
pub sent-kept : (sys : System) (h : List Event) (keep : ℕ → Frontier) → IsWellFormed sys.flow → HasEpochs sys → IsLegal sys h → AreFrontiers sys.flow keep → (p : ℕ) (g : Frontier) → keep p ≡ g
    → (e : ℕ) → sender sys.flow e ≡ p → causes_in (sent_messages sys (kept_events sys.flow keep h) e) ≡ filter g (causes_in (sent_messages sys h e))
sent-kept sys h keep well epochs legal fr p g is e r =
    ap causes_in (sends-same sys h keep well epochs legal fr e ∙ ap (λ f. messages_from f (sent_messages sys h e)) (ap keep r ∙ is))
    ∙ causes-from g (sent_messages sys h e) (edge-one_cause sys h e)

pub cut-traces : (flow : Dataflow) (p : ℕ) (f : Front) (old new : Traces) → IsWellFormed flow → HaveChanged flow p (StandsInside f) (IsTallyCutTo f) old new → AreCutTo flow p f old new
cut-traces flow p f old new well change = record {
  here = λ whole sys h keep e epochs legal fr is base w t.
      let is_now : keep p ≡ node_frontier sys.flow p f = is ∙ sym (ap (λ g. node_frontier g p f) e) in
      let fr_now : AreFrontiers sys.flow keep = subst (λ g. AreFrontiers g keep) (sym e) fr in
      let w_now : Within base (node_frontier sys.flow p f) = subst (λ g. Within base (node_frontier g p f)) (sym e) w in
      subst (λ g. IsTraceIf whole sys (kept_events g keep h) p base new) e
      (here whole sys h keep (subst IsWellFormed (sym e) well) epochs legal fr_now is_now base w_now (subst (λ g. HaveChanged g p (StandsInside f) (IsTallyCutTo f) old new) (sym e) change) t);
  lists = change;
  apart = changed-lists flow p (StandsInside f) (IsTallyCutTo f) old new change;
  others = changed-others flow p (StandsInside f) (IsTallyCutTo f) old new change;
}
  where
    here : (whole : Bool) (sys : System) (h : List Event) (keep : ℕ → Frontier) → IsWellFormed sys.flow → HasEpochs sys → IsLegal sys h → AreFrontiers sys.flow keep → keep p ≡ node_frontier sys.flow p f
        → (base : Frontier) → Within base (node_frontier sys.flow p f) → HaveChanged sys.flow p (StandsInside f) (IsTallyCutTo f) old new → IsTraceIf whole sys h p base old
        → IsTraceIf whole sys (kept_events sys.flow keep h) p base new
    here whole sys h keep well epochs legal fr is base w c t =
        let b = bounds_of sys.flow p in
        let a = legal_events-in_domain sys h well epochs legal p in
        let sent = sent_by-same sys h keep well epochs legal fr p ∙ ap (λ g. messages_from g (sent_by sys p (events_at sys.flow p h))) is in
        record {
          delivered = λ d l r.
              let all = map (λ (m : Message). m.at) (delivered_messages h d) in
              subst (λ ss. IsThinnedIf whole base ss (delivered_on new d)) (sym (delivered-kept sys h keep p (node_frontier sys.flow p f) is d r))
              (inside-if whole b f (delivered_on old d) (delivered_on new d) (c.delivered.here d l r) base all
              (subst (λ q. AreEventsInDomain sys.flow h q → AreOf (bounds_of sys.flow q) all) r (delivered-domain sys h d) a) w (t.delivered d l r));
          notified = subst (λ ss. IsThinnedIf whole base ss (stamps_notified new p)) (sym (notices-kept sys.flow keep h p ∙ ap (λ g. filter g (flat_map (stamp_of_notice p) h)) is))
              (inside-if whole b f (stamps_notified old p) (stamps_notified new p) c.notified.here base (flat_map (stamp_of_notice p) h) (notices-domain sys h p a) w t.notified);
          sent = λ d l r k. subst (λ ss. StandForCauses sys.flow p (whole && tells_sent sys.flow p) (base_of_sent sys.flow p base) ss (stamps_where_sent new d))
              (sym (sent-kept sys h keep well epochs legal fr p (node_frontier sys.flow p f) is d r))
              (for-cut sys.flow p (whole && tells_sent sys.flow p) (base_of_sent sys.flow p base) (base_of_sent sys.flow p base) (node_frontier sys.flow p f)
              (causes_in (sent_messages sys h d)) (stamps_where_sent old d) (stamps_where_sent new d) (λ j s i. i) (sent-base whole sys.flow p base (node_frontier sys.flow p f) w)
              (edge-domain sys h p d r a)
              (λ all of. sent_inside-if whole sys.flow p b f (stamps_where_sent old d) (stamps_where_sent new d) (c.sent.here d l r) base all of w) (t.sent d l r k));
          counted = λ k. subst (λ ms. IsSentTally base ms (counted_of new p)) (sym sent)
              (c.counted.here b base (sent_by sys p (events_at sys.flow p h)) (sent-domain sys h p a) w (t.counted k));
        }
