-- What an engine that holds what is left of a state knows of its nodes is as much as a recovery asks.
use Rattle.std.proofs.Common.{◌≡◌, ℕ, ◌<◌, Bool, true, false, ◌==◌, List, length, map, filter, refl, sym, ◌∙◌, ap, subst}
use Rattle.std.specs.List.{AllByRecursion, Contains, flat_map}
use Rattle.std.proofs.lemmas.Bool.{and_from, eqb-true}
use Rattle.fw_lemmas.proofs.Each.{each-both, each-filter, each-one, each-weaker, each_of-map}
use Rattle.fw_lemmas.proofs.Filters.{filter-all}
use Rattle.fw_time.specs.Stamp.{Stamp, in_domain}
use Rattle.fw_frontier.specs.Frontier.{Frontier}
use Rattle.fw_frontier.proofs.NamesLaws.{frontier-closed}
use Rattle.fw_flow.specs.declared.choice.Counted.{Counted}
use Rattle.fw_flow.specs.declared.choice.Stamps.{Stamps}
use Rattle.fw_flow.specs.declared.event.Event.{Event}
use Rattle.fw_flow.specs.declared.event.Message.{Message}
use Rattle.fw_flow.specs.declared.restoring.Restoring.{Restoring}
use Rattle.fw_flow.specs.declared.restoring.Restoring.TheVariants.{Batches, Bound, Anything, Checkpoints, Events}
use Rattle.fw_flow.specs.Dataflow.{System, Dataflow, kind_of, policy_of, receiver, bounds_of, HasEpochs}
use Rattle.fw_flow.specs.Restoring.{way_of}
use Rattle.fw_flow.specs.WellFormed.{IsWellFormed, IsWellFormedSystem}
use Rattle.fw_model.specs.Choice.{logged_history}
use Rattle.fw_model.specs.Covers.{stamp_of_notice}
use Rattle.fw_model.specs.EventStamps.{AreStampsIf, AreStampsOf}
use Rattle.fw_model.specs.History.{delivered_messages, AreEventsInDomain, IsLegal}
use Rattle.fw_model.specs.Machine.{Machine, events, front_of, is_failed}
use Rattle.fw_model.specs.Offers.{counted_on_edge, stamps_on}
use Rattle.fw_model.specs.Writes.{takes_checkpoints}
use Rattle.fw_model.proofs.DomainLaws.{has_epochs}
use Rattle.fw_model.proofs.LegalLaws.{legal_events-in_domain}
use Rattle.fw_model.proofs.LesserLaws.{lesser-in_domain}
use Rattle.fw_policy.specs.declared.view.NodeView.{NodeView}
use Rattle.fw_policy.specs.Shaped.{IsViewFor}
use Rattle.fw_policy.specs.View.{AreLogged, IsKnownOf, IsKnownOfFailed, KnowsLosses, base_of}
use Rattle.fw_progress.specs.declared.traces.Traces.{Traces}
use Rattle.fw_progress.specs.Counts.{sent_of}
use Rattle.fw_progress.specs.StampData.{HasItsStamps}
use Rattle.fw_progress.specs.Trace.{delivered_on, stamps_notified, IsTraceAmong, IsTraceIf}
use Rattle.fw_progress.specs.Traces.{AreOf}
use Rattle.fw_progress.proofs.CutTraceLaws.{delivered-domain, notices-domain}
use Rattle.fw_progress.proofs.StampsLaws.{edge-there}
use Rattle.fw_progress.proofs.TraceLaws.{among-domain}
use Rattle.fw_stands.specs.Parts.{IsTraceIn}
use Rattle.fw_running.specs.declared.running.Running.{Running}
use Rattle.fw_running.specs.Held.{KnowsTracesHeld}
use Rattle.fw_running.specs.Kept.{source_of, output_of, lost_at, is_down}
use Rattle.fw_choose.specs.declared.viewing.Lost.{Lost}
use Rattle.fw_choose.specs.declared.viewing.Lost.TheVariants.{Failed, All}
use Rattle.fw_choose.specs.Chosen.{counts_as_failed, IsBorderBy, IsViewByHeld, is_on_its_edge, of_domains}
use Rattle.fw_choose.proofs.ViewLaws.{contains-filtered, filtered-contains, legal-of, same-on_edge, stamps-stay, view-apart}

-- ---- what is of the domains

-- of what was delivered to a node nothing that is kept is outside the domains
held-delivered : (sys : System) (h : List Event) (p : ℕ) (traces : Traces) (raw : Stamps) → IsWellFormed sys.flow → HasEpochs sys → IsLegal sys h → p < length sys.flow.nodes
    → IsTraceAmong sys h p traces → HasItsStamps sys.flow p traces raw → (d : ℕ) → receiver sys.flow d ≡ p
    → stamps_on d (of_domains sys.flow p raw).delivered ≡ delivered_on traces d
held-delivered sys h p traces raw w b legal l among its d at =
    let flow = sys.flow in
    let q = receiver flow d in
    let all = map (λ (m : Message). m.at) (delivered_messages h d) in
    let ms = counted_on_edge d raw.delivered in
    let own : stamps_on d raw.delivered ≡ delivered_on traces d = its.delivered d at in
    let declared : AreEventsInDomain flow h q = legal_events-in_domain sys h w b legal q in
    let inside : AreOf (bounds_of flow q) (stamps_on d raw.delivered) =
    subst (AreOf (bounds_of flow q)) (sym own)
    (among-domain (bounds_of flow q) all (delivered_on traces d) (delivered-domain sys h d declared) (among.delivered d (edge-there flow p d l at) at)) in
    let here : AllByRecursion (λ (m : Counted). m.edge ≡ d) ms =
    each-filter (λ (m : Counted). m.edge ≡ d) (λ m. m.edge == d) raw.delivered
    (each-one (λ (m : Counted). (m.edge == d) ≡ true → m.edge ≡ d) raw.delivered (λ m e. eqb-true m.edge d e)) in
    let passes : AllByRecursion (λ (m : Counted). is_on_its_edge flow false m ≡ true) ms =
    each-weaker (λ (m : Counted). (m.edge ≡ d) × (in_domain (bounds_of flow q) m.at ≡ true)) (λ m. is_on_its_edge flow false m ≡ true) ms
    (λ m k. and_from (in_domain (bounds_of flow (receiver flow m.edge)) m.at) true (subst (λ e. in_domain (bounds_of flow (receiver flow e)) m.at ≡ true) (sym k.0) k.1) refl)
    (each-both (λ (m : Counted). m.edge ≡ d) (λ m. in_domain (bounds_of flow q) m.at ≡ true) ms here
    (each_of-map (λ t. in_domain (bounds_of flow q) t ≡ true) (λ (m : Counted). m.at) ms inside)) in
    ap (map (λ (m : Counted). m.at)) (same-on_edge (is_on_its_edge flow false) d raw.delivered passes) ∙ own

-- nor of that of which it was notified
held-notified : (sys : System) (h : List Event) (p : ℕ) (traces : Traces) (raw : Stamps) → IsWellFormed sys.flow → HasEpochs sys → IsLegal sys h
    → IsTraceAmong sys h p traces → HasItsStamps sys.flow p traces raw → (of_domains sys.flow p raw).notified ≡ stamps_notified traces p
held-notified sys h p traces raw w b legal among its =
    let bounds = bounds_of sys.flow p in
    let inside : AreOf bounds raw.notified =
    subst (AreOf bounds) (sym its.notified)
    (among-domain bounds (flat_map (stamp_of_notice p) h) (stamps_notified traces p) (notices-domain sys h p (legal_events-in_domain sys h w b legal p)) among.notified) in
    filter-all (in_domain bounds) raw.notified inside ∙ its.notified

-- ---- what is known of a node that failed

held-known : (sys : System) (state : Machine) (p : ℕ) (traces : Traces) (raw : Stamps) → IsWellFormedSystem sys → IsLegal sys (events state.history) → p < length sys.flow.nodes
    → KnowsTracesHeld sys state traces → HasItsStamps sys.flow p traces raw
    → (IsTraceIn sys state.low state p traces → AreStampsOf sys (events state.history) p (base_of sys state.low state p) raw)
    → (way : Restoring) → way_of sys.flow p ≡ way → IsKnownOfFailed sys state.low state p (of_domains sys.flow p raw) way
held-known sys state p traces raw w legal l k its given Batches is =
    stamps-stay (takes_checkpoints (policy_of sys.flow p)) sys (events state.history) p (base_of sys state.low state p) raw (given (k.inputs p l is))
held-known sys state p traces raw w legal l k its given Bound is =
    subst (AllByRecursion (Contains (flat_map (stamp_of_notice p) (events state.history))))
    (sym (held-notified sys (events state.history) p traces raw w.flow (has_epochs sys w) legal (k.among p l) its)) (k.among p l).notified
held-known sys state p traces raw w legal l k its given Anything is =
    subst (AllByRecursion (Contains (flat_map (stamp_of_notice p) (events state.history))))
    (sym (held-notified sys (events state.history) p traces raw w.flow (has_epochs sys w) legal (k.among p l) its)) (k.among p l).notified
held-known sys state p traces raw w legal l k its given Checkpoints is =
    subst (AllByRecursion (Contains (flat_map (stamp_of_notice p) (events state.history))))
    (sym (held-notified sys (events state.history) p traces raw w.flow (has_epochs sys w) legal (k.among p l) its)) (k.among p l).notified
held-known sys state p traces raw w legal l k its given Events is =
    let h = events state.history in
    let b = has_epochs sys w in
    let base = base_of sys state.low state p in
    let among = k.among p l in
    let left = k.logged p l is in
    record {
      delivered = λ d at.
          let there = edge-there sys.flow p d l at in
          subst
          (AreLogged base (map (λ (m : Message). m.at) (delivered_messages h d)) (map (λ (m : Message). m.at) (delivered_messages (logged_history sys state p) d)))
          (sym (held-delivered sys h p traces raw w.flow b legal l among its d at)) (among.delivered d there at, left.delivered d there at);
      notified = subst (AreLogged base (flat_map (stamp_of_notice p) h) (flat_map (stamp_of_notice p) (logged_history sys state p)))
          (sym (held-notified sys h p traces raw w.flow b legal among its)) (among.notified, left.notified);
    }

-- a stamp at or below one that is settled is of the node's domain
losses-held : (sys : System) (state : Machine) (p : ℕ) (gone : List Stamp) → KnowsLosses sys state p gone
    → KnowsLosses sys state p (filter (in_domain (bounds_of sys.flow p)) gone)
losses-held sys state p gone k t i =
    let bounds = bounds_of sys.flow p in
    let known = k t i in
    let declared : in_domain bounds t ≡ true = (frontier-closed bounds (front_of state.settled p)).inside_domain t i in (
      λ x. known.0 (x.0, filtered-contains (in_domain bounds) gone x.0 x.1, x.2),
      λ x.
          let y = known.1 x in
          (y.0, contains-filtered (in_domain bounds) gone y.0 (lesser-in_domain sys.flow p y.0 t y.2 declared) y.1, y.2),
    )

failed-counts : (lost : Lost) (failed : Bool) → failed ≡ true → counts_as_failed lost failed ≡ true
failed-counts Failed failed e = e
failed-counts All failed e = refl

-- what is known of a node is so in each state of which the engine holds what is left
pub view-held : (running : Running) (lost : Lost) (p : ℕ) (raw : Stamps) (node : NodeView) → p < length running.flow.nodes → IsViewFor running.flow p node
    → ((whole : Bool) (sys : System) (h : List Event) (base : Frontier) → sys.flow ≡ running.flow → HasEpochs sys → IsLegal sys h → IsTraceIf whole sys h p base running.traces
    → AreStampsIf whole sys h p base raw)
    → HasItsStamps running.flow p running.traces raw → node.stamps ≡ of_domains running.flow p raw → node.table ≡ sent_of running.progress.counts p
    → node.settled ≡ front_of running.progress.settled p → node.low ≡ front_of running.parts.low p → IsBorderBy (source_of running p) (output_of running p) (kind_of running.flow p) node.border
    → node.lost ≡ filter (in_domain (bounds_of running.flow p)) (lost_at running p) → node.failed ≡ counts_as_failed lost (is_down running p) → IsViewByHeld running lost p node
view-held running lost p raw node there fits given its stamps table settled low border losses failed sys records state s =
    let h = events state.history in
    let w = s.apart.well_formed in
    let legal = legal-of sys records state running s.apart in
    let l : p < length sys.flow.nodes = subst (λ (f : Dataflow). p < length f.nodes) s.apart.flow there in
    let takes = takes_checkpoints (policy_of sys.flow p) in
    let base = base_of sys state.low state p in
    let own : HasItsStamps sys.flow p running.traces raw = subst (λ f. HasItsStamps f p running.traces raw) s.apart.flow its in
    let known = held-known sys state p running.traces raw w legal l s.traces own (λ t. given takes sys h base (sym s.apart.flow) (has_epochs sys w) legal t) (way_of sys.flow p) refl in
    view-apart running lost p node there fits table settled low border failed sys records state s.apart state.low
    (subst (IsKnownOf sys state.low state p node.stamps) (sym (failed-counts lost (is_failed state p) (s.down p l)))
    (subst (λ (all : Stamps). IsKnownOfFailed sys state.low state p all (way_of sys.flow p)) (sym (stamps ∙ ap (λ f. of_domains f p raw) s.apart.flow)) known))
    (λ full.
    let is : node.lost ≡ filter (in_domain (bounds_of sys.flow p)) (lost_at running p) = losses ∙ ap (λ f. filter (in_domain (bounds_of f p)) (lost_at running p)) s.apart.flow in
    subst (KnowsLosses sys state p) (sym is) (losses-held sys state p (lost_at running p) (s.lost p full)))
