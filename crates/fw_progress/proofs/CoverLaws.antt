-- What the traces of a node cover inside a frontier, and how many messages it sent from there.
use Rattle.std.proofs.Common.{◌≡◌, ℕ, ◌+◌, ◌<◌, true, List, length, map, Result, sym, ap, subst, ◌∙◌}
use Rattle.std.specs.Prelude.{filter, IfOk}
use Rattle.std.specs.List.{flat_map}
use Rattle.fw_time.specs.Stamp.{Stamp}
use Rattle.fw_time.specs.declared.stamp.Bounds.{Bounds}
use Rattle.fw_frontier.specs.Frontier.{Frontier, Within, cover}
use Rattle.fw_frontier.specs.Front.{Front, inside, frontier_of, IsFrontOf}
use Rattle.fw_flow.specs.declared.event.Event.{Event}
use Rattle.fw_flow.specs.declared.event.Message.{Message}
use Rattle.fw_flow.specs.Dataflow.{System, Dataflow, receiver, bounds_of, node_frontier, HasEpochs}
use Rattle.fw_flow.specs.NodeFunction.{sent_by}
use Rattle.fw_flow.specs.Projection.{events_at, sent_count}
use Rattle.fw_flow.specs.WellFormed.{IsWellFormed}
use Rattle.fw_model.specs.Covers.{stamp_of_notice}
use Rattle.fw_model.specs.History.{delivered_messages, IsLegal}
use Rattle.fw_model.specs.Thinned.{IsThinned, IsThinnedIf}
use Rattle.fw_model.proofs.LegalLaws.{legal_events-in_domain}
use Rattle.fw_model.proofs.ThinnedLaws.{thinned-whole}
use Rattle.fw_progress.specs.declared.sent_tally.SentTally.{SentTally}
use Rattle.fw_progress.specs.declared.traces.Traces.{Traces}
use Rattle.fw_progress.specs.Covers.{CoversDelivered, CoversNotified}
use Rattle.fw_progress.specs.Tally.{count_inside}
use Rattle.fw_progress.specs.Trace.{delivered_on, stamps_notified, counted_of, counts_sent, IsTraceWithin}
use Rattle.fw_progress.specs.Traces.{AreOf}
use Rattle.fw_progress.proofs.CutTraceLaws.{delivered-domain, notices-domain, sent-domain}
use Rattle.fw_progress.proofs.SentTallyLaws.{tally-count}

-- what a cover is of, of kept stamps inside a front
abbrev pub IsCoverOf : {E : Type 0} → Bounds → Front → List Stamp → Result Front E → Type 0
IsCoverOf bounds f kept result =
    (base : Frontier) (all : List Stamp) → AreOf bounds all → Within base (frontier_of bounds f) → IsThinned base all kept
    → IfOk result (λ front. IsFrontOf bounds front (cover bounds (filter (frontier_of bounds f) all)))

pub delivered-covers : {E : Type 0} (flow : Dataflow) (e : ℕ) (f : Front) (traces : Traces) (kept : List Stamp) (bounds : Bounds) (result : Result Front E) → IsWellFormed flow → e < length flow.edges
    → kept ≡ delivered_on traces e → bounds ≡ bounds_of flow (receiver flow e) → IsCoverOf bounds f kept result
    → (sys : System) (h : List Event) → sys.flow ≡ flow → HasEpochs sys → IsLegal sys h → IsTraceWithin true sys h (receiver flow e) f traces → IfOk result (CoversDelivered sys h e f)
delivered-covers flow e f traces kept bounds result w l k i covers sys h s b legal t =
    let now : IsTraceWithin true sys h (receiver sys.flow e) f traces = subst (λ g. IsTraceWithin true sys h (receiver g e) f traces) (sym s) t in
    let all = map (λ (m : Message). m.at) (delivered_messages h e) in
    let is : bounds ≡ bounds_of sys.flow (receiver sys.flow e) = i ∙ ap (λ g. bounds_of g (receiver g e)) (sym s) in
    subst (λ x. IfOk result (λ front. IsFrontOf x front (cover x (filter (frontier_of x f) all)))) is
    (covers now.base all
    (subst (λ x. AreOf x all) (sym is) (delivered-domain sys h e (legal_events-in_domain sys h (subst IsWellFormed (sym s) w) b legal (receiver sys.flow e))))
    (subst (λ x. Within now.base (frontier_of x f)) (sym is) now.within)
    (thinned-whole now.base all kept (subst (IsThinnedIf true now.base all) (sym k) (now.trace.delivered e (subst (λ g. e < length g.edges) (sym s) l) (λ j. receiver sys.flow e)))))

pub notified-covers : {E : Type 0} (flow : Dataflow) (p : ℕ) (f : Front) (traces : Traces) (kept : List Stamp) (bounds : Bounds) (result : Result Front E) → IsWellFormed flow
    → kept ≡ stamps_notified traces p → bounds ≡ bounds_of flow p → IsCoverOf bounds f kept result
    → (sys : System) (h : List Event) → sys.flow ≡ flow → HasEpochs sys → IsLegal sys h → IsTraceWithin true sys h p f traces → IfOk result (CoversNotified sys h p f)
notified-covers flow p f traces kept bounds result w k i covers sys h s b legal t =
    let all = flat_map (stamp_of_notice p) h in
    let is : bounds ≡ bounds_of sys.flow p = i ∙ ap (λ g. bounds_of g p) (sym s) in
    subst (λ x. IfOk result (λ front. IsFrontOf x front (cover x (filter (frontier_of x f) all)))) is
    (covers t.base all
    (subst (λ x. AreOf x all) (sym is) (notices-domain sys h p (legal_events-in_domain sys h (subst IsWellFormed (sym s) w) b legal p)))
    (subst (λ x. Within t.base (frontier_of x f)) (sym is) t.within)
    (thinned-whole t.base all kept (subst (IsThinnedIf true t.base all) (sym k) t.trace.notified)))

pub sent-counts : (flow : Dataflow) (p : ℕ) (f : Front) (traces : Traces) (tally : SentTally) (n : ℕ) → IsWellFormed flow → tally ≡ counted_of traces p
    → n ≡ tally.inside + count_inside (inside f) tally.outside
    → (sys : System) (h : List Event) → sys.flow ≡ flow → HasEpochs sys → IsLegal sys h → counts_sent flow p ≡ true → IsTraceWithin true sys h p f traces
    → n ≡ sent_count sys h p (node_frontier flow p f)
sent-counts flow p f traces tally n w k is sys h s b legal counts t =
    is ∙ ap (λ (x : SentTally). x.inside + count_inside (inside f) x.outside) k
    ∙ tally-count (bounds_of sys.flow p) t.base (sent_by sys p (events_at sys.flow p h)) f (counted_of traces p)
    (sent-domain sys h p (legal_events-in_domain sys h (subst IsWellFormed (sym s) w) b legal p)) t.within
    (t.trace.counted (ap (λ g. counts_sent g p) s ∙ counts))
    ∙ ap (λ g. sent_count sys h p (node_frontier g p f)) s
