-- The traces of nodes after a recovery.
use Rattle.std.proofs.Common.{◌≡◌, ℕ, ◌<◌, true, false, ◌&&◌, cond, List, [], length, map, filter, refl, sym, ap, subst, ◌∙◌, Bool}
use Rattle.std.specs.List.{AllByRecursion, Contains, flat_map}
use Rattle.std.proofs.lemmas.Bool.{cond-true, cond-false, false_from_ne_true}
use Rattle.fw_lemmas.proofs.Bools.{two_ways}
use Rattle.fw_lemmas.proofs.Each.{each-one, each-filter, each-weaker}
use Rattle.fw_lemmas.proofs.Filters.{filter-none}
use Rattle.fw_time.specs.Stamp.{Stamp, in_domain}
use Rattle.fw_frontier.specs.Frontier.{Frontier, Within, everything, nothing}
use Rattle.fw_frontier.specs.Front.{Front}
use Rattle.fw_frontier.proofs.NamesLaws.{frontier-closed}
use Rattle.fw_flow.specs.declared.choice.Choice.{Choice}
use Rattle.fw_flow.specs.declared.choice.Cut.TheVariants.{At, Present}
use Rattle.fw_flow.specs.declared.choice.Stamps.{Stamps}
use Rattle.fw_flow.specs.declared.event.Event.{Event}
use Rattle.fw_flow.specs.declared.event.Message.{Message}
use Rattle.fw_flow.specs.Dataflow.{System, Dataflow, kind_of, policy_of, receiver, bounds_of, node_frontier, is_input_kind, sender}
use Rattle.fw_flow.specs.NodeFunction.{event_stamp, sent_by}
use Rattle.fw_flow.specs.Projection.{events_at}
use Rattle.fw_model.specs.Choice.{IsCutWithin, cut_of, kept_of}
use Rattle.fw_model.specs.Floors.{IsFloor}
use Rattle.fw_model.specs.Covers.{set_of, stamp_of_notice}
use Rattle.fw_model.specs.Alike.{StandForCauses}
use Rattle.fw_model.proofs.AlikeLaws.{for-same}
use Rattle.fw_model.specs.EventStamps.{AreStampsIf, StandForNumbered, StandForSent, base_of_sent, causes_in, tells_sent}
use Rattle.fw_model.specs.Filtering.{kept_events, messages_from}
use Rattle.fw_model.specs.History.{delivered_messages, sent_messages}
use Rattle.fw_model.specs.Machine.{Machine, events, front_of, is_failed, no_stamps}
use Rattle.fw_model.specs.Offers.{AreAtEdgeStamps, counted_on_edge, stamps_on}
use Rattle.fw_model.specs.Steps.{IsSettledCut, recovered_state}
use Rattle.fw_model.specs.Thinned.{IsThinned, IsThinnedIf}
use Rattle.fw_model.specs.Writes.{takes_checkpoints}
use Rattle.fw_model.proofs.AskedLaws.{takes-not_input}
use Rattle.fw_model.proofs.CarriedLaws.{carried-none}
use Rattle.fw_model.proofs.LowLaws.{input-is, none-within}
use Rattle.fw_model.proofs.FloorLaws.{holds-floors}
use Rattle.fw_model.proofs.SendPartLaws.{part-sends}
use Rattle.fw_policy.specs.View.{base_of}
use Rattle.fw_policy.specs.Entries.{count_within}
use Rattle.fw_progress.specs.SentTally.{IsTallyCutTo}
use Rattle.fw_progress.specs.Trace.{AreEventsInside, IsTraceAmong, IsTraceOf, AreRestoredTo, AreCutTo, IsTraceIf, delivered_on, stamps_notified, stamps_where_sent}
use Rattle.fw_progress.proofs.AmongLaws.{cut-among}
use Rattle.fw_progress.proofs.CutTraceLaws.{delivered-kept, notices-kept, same-trace, sent-kept}
use Rattle.fw_progress.specs.declared.traces.Traces.{Traces}
use Rattle.fw_stands.specs.Recovered.{Recovers, AreNoStamps}
use Rattle.fw_stands.specs.Written.{events_within}
use Rattle.fw_stands.proofs.RecoveredFacts.{knows, events-now}
use Rattle.fw_stands.proofs.RecoveredTables.{events-present, events-cut, settled-at_cut, within-at}
use Rattle.fw_stands.specs.Parts.{IsTraceIn}
use Rattle.fw_model.proofs.ThinnedLaws.{thinned-if}

-- ---- a node that stays as it is

-- a node that stays as it is has its traces
pub traces-present : (sys : System) (floor : List Front) (state : Machine) (choice : Choice) (settled : List Front) → Recovers sys state choice settled
    → (p : ℕ) → p < length sys.flow.nodes → cut_of choice p ≡ Present
    → (traces : Traces) → IsTraceIn sys floor state p traces → IsTraceIn sys floor (recovered_state sys state choice settled) p traces
traces-present sys floor state choice settled r p l is traces t =
    let now = events (recovered_state sys state choice settled).history in
    let takes = takes_checkpoints (policy_of sys.flow p) in
    let low = node_frontier sys.flow p (front_of floor p) in
    let At_base : Front → Type 0 = λ f. IsTraceOf sys now p (cond takes (node_frontier sys.flow p f) low) traces in
    let same_front : front_of settled p ≡ front_of state.settled p =
    subst (λ c. IsSettledCut sys p c (front_of state.settled p) (front_of settled p)) is (r.cuts.each p l) in
    subst At_base (sym same_front)
    (same-trace takes sys (events state.history) now p (base_of sys floor state p) traces (events-present sys state choice settled r p is) t)

-- ---- a node without checkpoints

-- those of a node that takes no checkpoints are cut to its cut
pub traces-cut : (sys : System) (floor : List Front) (state : Machine) (choice : Choice) (settled : List Front) → Recovers sys state choice settled → IsFloor sys state floor
    → (p : ℕ) → p < length sys.flow.nodes → takes_checkpoints (policy_of sys.flow p) ≡ false → (f : Front) → cut_of choice p ≡ At f
    → (old new : Traces) → AreCutTo sys.flow p f old new → IsTraceIn sys floor state p old
    → IsTraceIn sys floor (recovered_state sys state choice settled) p new
traces-cut sys floor state choice settled r above p l takes f is old new cut t =
    let k = knows sys state choice settled r in
    let h = events state.history in
    let next = recovered_state sys state choice settled in
    let low = node_frontier sys.flow p (front_of floor p) in
    let base : base_of sys floor state p ≡ low = cond-false (takes_checkpoints (policy_of sys.flow p)) (node_frontier sys.flow p (front_of state.settled p)) low takes in
    let base_now : base_of sys floor next p ≡ low = cond-false (takes_checkpoints (policy_of sys.flow p)) (node_frontier sys.flow p (front_of settled p)) low takes in
    let within : Within low (node_frontier sys.flow p f) =
    subst (IsCutWithin sys.flow p (At (front_of floor p))) is (holds-floors sys state floor (is_failed state) choice above r.largest p l) in
    subst (λ b. IsTraceOf sys (events next.history) p b new) (sym base_now)
    (subst (λ vs. IsTraceOf sys vs p low new) (sym (events-now sys state choice settled))
    (cut.here (takes_checkpoints (policy_of sys.flow p)) sys h (kept_of sys.flow choice) refl k.epochs k.legal k.keeps.kept (ap (set_of sys.flow p) is) low within
    (subst (λ b. IsTraceOf sys h p b old) base t)))

-- ---- traces of which it is told only that they were some of what happened

-- some of these stamps are thinned inside a base that has all of them
some-thinned : (base : Frontier) (all kept : List Stamp) → AllByRecursion (λ t. base t ≡ true) all → AllByRecursion (Contains all) kept → IsThinnedIf false base all kept
some-thinned base all kept inside among = record {
  among = among;
  outside = each-weaker (λ t. base t ≡ true) (λ t. base t ≡ false → Contains kept t) all (λ t i o. absurd (two_ways (base t) i o)) inside;
  inside = λ w. absurd (cc);
}

some-sent : (flow : Dataflow) (p : ℕ) (base : Frontier) (all kept : List Stamp) → AllByRecursion (λ t. base t ≡ true) all → AllByRecursion (Contains all) kept
    → IsThinnedIf false (base_of_sent flow p base) all kept
some-sent flow p base all kept inside among = by (tells_sent flow p)
  where
    by : (told : Bool) → IsThinnedIf false (cond told base (λ t. true)) all kept
    by true = some-thinned base all kept inside among
    by false = some-thinned (λ t. true) all kept (each-one (λ t. true ≡ true) all (λ t. refl)) among

-- So are traces of a node of which it is not counted how much it sent, where the base has all of its events.
pub some-trace : (sys : System) (h : List Event) (p : ℕ) (base : Frontier) (traces : Traces) → takes_checkpoints (policy_of sys.flow p) ≡ false
    → ((d : ℕ) → receiver sys.flow d ≡ p → AllByRecursion (λ t. base t ≡ true) (map (λ (m : Message). m.at) (delivered_messages h d)))
    → AllByRecursion (λ t. base t ≡ true) (flat_map (stamp_of_notice p) h)
    → ((e : ℕ) → sender sys.flow e ≡ p → AllByRecursion (λ t. base t ≡ true) (causes_in (sent_messages sys h e)))
    → IsTraceAmong sys h p traces → IsTraceIf false sys h p base traces
some-trace sys h p base traces takes delivered notified sent t = record {
  delivered = λ d l r. some-thinned base (map (λ (m : Message). m.at) (delivered_messages h d)) (delivered_on traces d) (delivered d r) (t.delivered d l r);
  notified = some-thinned base (flat_map (stamp_of_notice p) h) (stamps_notified traces p) notified t.notified;
  sent = λ d l r k. for-same sys.flow p false (base_of_sent sys.flow p base) (causes_in (sent_messages sys h d)) (stamps_where_sent traces d)
      (some-sent sys.flow p base (causes_in (sent_messages sys h d)) (stamps_where_sent traces d) (sent d r) (t.sent d l r k));
  counted = λ c. absurd (two_ways (takes_checkpoints (policy_of sys.flow p)) c takes);
}

each-inside : (f : Frontier) (ts : List Stamp) → AllByRecursion (λ t. f t ≡ true) (filter f ts)
each-inside f ts = each-filter (λ t. f t ≡ true) f ts (each-one (λ t. f t ≡ true → f t ≡ true) ts (λ t i. i))

-- where the front of a node that takes no checkpoints is that of its cut, which is its base then, it is enough that they were some
pub traces-cut_among : (sys : System) (floor : List Front) (state : Machine) (choice : Choice) (settled : List Front) → Recovers sys state choice settled
    → (p : ℕ) → takes_checkpoints (policy_of sys.flow p) ≡ false → (f : Front) → cut_of choice p ≡ At f → front_of floor p ≡ f
    → (old new : Traces) → AreCutTo sys.flow p f old new → IsTraceAmong sys (events state.history) p old
    → IsTraceIn sys floor (recovered_state sys state choice settled) p new
traces-cut_among sys floor state choice settled r p takes f is same old new cut t =
    let k = knows sys state choice settled r in
    let w = r.well_formed.flow in
    let h = events state.history in
    let next = recovered_state sys state choice settled in
    let keep = kept_of sys.flow choice in
    let base = node_frontier sys.flow p f in
    let vs = kept_events sys.flow keep h in
    let at : keep p ≡ base = ap (set_of sys.flow p) is in
    let Inside : List Stamp → Type 0 = AllByRecursion (λ t. base t ≡ true) in
    let base_now : base_of sys floor next p ≡ base =
    cond-false (takes_checkpoints (policy_of sys.flow p)) (node_frontier sys.flow p (front_of settled p)) (node_frontier sys.flow p (front_of floor p)) takes
    ∙ ap (node_frontier sys.flow p) same in
    let trace : IsTraceIf false sys vs p base new =
    some-trace sys vs p base new takes
    (λ d e. subst Inside (sym (delivered-kept sys h keep p base at d e)) (each-inside base (map (λ (m : Message). m.at) (delivered_messages h d))))
    (subst Inside (sym (notices-kept sys.flow keep h p ∙ ap (λ g. filter g (flat_map (stamp_of_notice p) h)) at)) (each-inside base (flat_map (stamp_of_notice p) h)))
    (λ d e. subst Inside (sym (sent-kept sys h keep w k.epochs k.legal k.keeps.kept p base at d e)) (each-inside base (causes_in (sent_messages sys h d))))
    (cut-among sys.flow p f (IsTallyCutTo f) old new w cut.lists sys h keep refl k.epochs k.legal k.keeps.kept at t) in
    subst (λ b. IsTraceOf sys (events next.history) p b new) (sym base_now)
    (subst (λ whole. IsTraceIf whole sys (events next.history) p base new) (sym takes)
    (subst (λ xs. IsTraceIf false sys xs p base new) (sym (events-now sys state choice settled)) trace))

-- ---- a node that is cut to a checkpoint

takes-inner : (sys : System) (state : Machine) (choice : Choice) (settled : List Front) → Recovers sys state choice settled
    → (p : ℕ) → takes_checkpoints (policy_of sys.flow p) ≡ true → is_input_kind (kind_of sys.flow p) ≡ false
takes-inner sys state choice settled r p takes =
    false_from_ne_true (is_input_kind (kind_of sys.flow p)) (λ i. takes-not_input sys.flow r.well_formed.flow p takes (input-is (kind_of sys.flow p) i))

base-cut : (sys : System) (floor : List Front) (state : Machine) (choice : Choice) (settled : List Front) → Recovers sys state choice settled
    → (p : ℕ) → p < length sys.flow.nodes → takes_checkpoints (policy_of sys.flow p) ≡ true → (f : Front) → cut_of choice p ≡ At f
    → base_of sys floor (recovered_state sys state choice settled) p ≡ node_frontier sys.flow p f
base-cut sys floor state choice settled r p l takes f is =
    cond-true (takes_checkpoints (policy_of sys.flow p)) (node_frontier sys.flow p (front_of settled p)) (node_frontier sys.flow p (front_of floor p)) takes
    ∙ ap (node_frontier sys.flow p) (settled-at_cut sys state choice settled r p l (takes-inner sys state choice settled r p takes) f is)

-- the events inside are those that the checkpoint has
part-sent : (sys : System) (state : Machine) (choice : Choice) (settled : List Front) → Recovers sys state choice settled → (p : ℕ) (f : Front)
    → sent_by sys p (events_at sys.flow p (events_within sys state p f))
    ≡ messages_from (node_frontier sys.flow p f) (sent_by sys p (events_at sys.flow p (events state.history)))
part-sent sys state choice settled r p f =
    let k = knows sys state choice settled r in
    ap (sent_by sys p) (within-at sys state p f)
    ∙ part-sends sys (events state.history) r.well_formed.flow k.epochs k.legal p (node_frontier sys.flow p f) (frontier-closed (bounds_of sys.flow p) f)

part-inside : (sys : System) (state : Machine) (p : ℕ) (f : Front) → AreEventsInside sys.flow (events_within sys state p f) p (node_frontier sys.flow p f)
part-inside sys state p f =
    let b = node_frontier sys.flow p f in
    let vs = events_at sys.flow p (events state.history) in
    subst (AllByRecursion (λ v. b (event_stamp v) ≡ true)) (sym (within-at sys state p f))
    (each-filter (λ v. b (event_stamp v) ≡ true) (λ v. b (event_stamp v)) vs (each-one (λ v. b (event_stamp v) ≡ true → b (event_stamp v) ≡ true) vs (λ v i. i)))

-- those of a node that is cut to a checkpoint are restored by the stamps and the count of its entry
pub traces-from_checkpoints : (sys : System) (floor : List Front) (state : Machine) (choice : Choice) (settled : List Front) → Recovers sys state choice settled
    → (p : ℕ) → p < length sys.flow.nodes → takes_checkpoints (policy_of sys.flow p) ≡ true → (f : Front) → cut_of choice p ≡ At f
    → (stamps : Stamps) (count : ℕ) → AreStampsIf true sys (events_within sys state p f) p (node_frontier sys.flow p f) stamps
    → count ≡ count_within sys state p f
    → (old new : Traces) → AreRestoredTo sys.flow p stamps count old new
    → IsTraceIn sys floor (recovered_state sys state choice settled) p new
traces-from_checkpoints sys floor state choice settled r p l takes f is stamps count stand counts old new a =
    let now = events (recovered_state sys state choice settled).history in
    let part = events_within sys state p f in
    let b = node_frontier sys.flow p f in
    let events_same : events_at sys.flow p now ≡ events_at sys.flow p part = events-cut sys state choice settled p f is ∙ sym (within-at sys state p f) in
    let trace = subst (λ whole. IsTraceIf whole sys part p b new) (sym takes)
    (a.here true sys part b refl stand (counts ∙ sym (ap length (part-sent sys state choice settled r p f))) (part-inside sys state p f)) in
    subst (λ base. IsTraceOf sys now p base new) (sym (base-cut sys floor state choice settled r p l takes f is))
    (same-trace (takes_checkpoints (policy_of sys.flow p)) sys part now p b new events_same trace)

-- ---- a node that is cut to no stamps

none-thinned : (base : Frontier) (kept : List Stamp) → kept ≡ [] → IsThinned base [] kept
none-thinned base kept e = subst (IsThinned base []) (sym e) (record { among = tt; outside = tt; inside = tt })

none-if : (whole : Bool) (base : Frontier) (kept : List Stamp) → kept ≡ [] → IsThinnedIf whole base [] kept
none-if whole base kept e = thinned-if whole base [] kept (none-thinned base kept e)

-- no stamps stand for no events
no-stamps : (whole : Bool) (sys : System) (p : ℕ) (base : Frontier) (stamps : Stamps) → AreNoStamps stamps → AreStampsIf whole sys [] p base stamps
no-stamps whole sys p base stamps a = record {
  on_edges = (subst (AreAtEdgeStamps sys.flow) (sym a.delivered) tt, subst (AreAtEdgeStamps sys.flow) (sym a.sent) tt);
  in_domain = subst (AllByRecursion (λ t. in_domain (bounds_of sys.flow p) t ≡ true)) (sym a.notified) tt;
  delivered = λ d at. none-if whole base (stamps_on d stamps.delivered) (ap (stamps_on d) a.delivered);
  notified = none-if whole base stamps.notified a.notified;
  sent = λ n e l s. subst (λ ms. StandForSent (whole && tells_sent sys.flow p) sys [] p (base_of_sent sys.flow p base) e (counted_on_edge e ms)) (sym a.sent)
      (record {
        of_cause = tt;
        thinned = subst (λ ms. StandForCauses sys.flow p (whole && tells_sent sys.flow p) (base_of_sent sys.flow p base) (causes_in ms) []) (sym (carried-none sys.flow e))
            (for-same sys.flow p (whole && tells_sent sys.flow p) (base_of_sent sys.flow p base) [] []
            (none-if (whole && tells_sent sys.flow p) (base_of_sent sys.flow p base) [] refl));
      });
  numbered = λ n t e l s. subst (StandForNumbered sys [] e) (sym a.sent)
      (subst (λ ms. IsThinned (everything (bounds_of sys.flow (receiver sys.flow e))) (map (λ (m : Message). m.at) ms) []) (sym (carried-none sys.flow e))
      (none-thinned (everything (bounds_of sys.flow (receiver sys.flow e))) [] refl));
}

-- those of a node that is cut to no stamps are restored by none
pub traces-nothing : (sys : System) (floor : List Front) (state : Machine) (choice : Choice) (settled : List Front) → Recovers sys state choice settled
    → (p : ℕ) → p < length sys.flow.nodes → cut_of choice p ≡ At (no_stamps (bounds_of sys.flow p))
    → (stamps : Stamps) → AreNoStamps stamps → (old new : Traces) → AreRestoredTo sys.flow p stamps 0 old new
    → IsTraceIn sys floor (recovered_state sys state choice settled) p new
traces-nothing sys floor state choice settled r p l is stamps empty old new a =
    let now = events (recovered_state sys state choice settled).history in
    let base = base_of sys floor (recovered_state sys state choice settled) p in
    let b = node_frontier sys.flow p (no_stamps (bounds_of sys.flow p)) in
    let vs = events_at sys.flow p (events state.history) in
    let none : events_at sys.flow p now ≡ [] =
    events-cut sys state choice settled p (no_stamps (bounds_of sys.flow p)) is
    ∙ filter-none (λ v. b (event_stamp v)) vs (each-one (λ v. b (event_stamp v) ≡ false) vs
    (λ v. false_from_ne_true (b (event_stamp v)) (λ i. two_ways false (none-within (bounds_of sys.flow p) nothing (event_stamp v) i) refl))) in
    let whole = takes_checkpoints (policy_of sys.flow p) in
    same-trace whole sys [] now p base new none (a.here whole sys [] base refl (no-stamps whole sys p base stamps empty) refl tt)
