-- A checkpoint that is made of what is kept of a node is one of the machine's, and has a spelling.
use Rattle.std.proofs.Common.{◌≡◌, ℕ, Bool, true, false, not, List, refl, sym, ap, subst, ◌∙◌}
use Rattle.std.specs.List.{AllByRecursion}
use Rattle.std.proofs.lemmas.Bool.{cond-false, cond-true}
use Rattle.fw_frontier.specs.Frontier.{Within, nothing}
use Rattle.fw_frontier.specs.Front.{Front, IsCanonical, IsFrontOf}
use Rattle.fw_flow.specs.declared.choice.Cut.TheVariants.{At}
use Rattle.fw_flow.specs.declared.choice.Recorded.{Recorded}
use Rattle.fw_flow.specs.Kind.{Kind}
use Rattle.fw_flow.specs.declared.kind.Policy.{Policy}
use Rattle.fw_flow.specs.declared.kind.Policy.TheVariants as policy
use Rattle.fw_flow.specs.declared.restoring.Restoring.{Restoring}
use Rattle.fw_flow.specs.declared.restoring.Restoring.TheVariants.{Checkpoints}
use Rattle.fw_flow.specs.Dataflow.{System, kind_of, policy_of, sender, receiver, in_edges, out_edges, bounds_of, node_frontier}
use Rattle.fw_flow.specs.Restoring.{can_resend, way_of}
use Rattle.fw_flow.specs.WellFormed.{IsWellFormedSystem}
use Rattle.fw_flow.proofs.EdgeLaws.{in_edges-at, in_edges-from}
use Rattle.fw_flow.proofs.OutEdgeLaws.{out_edges-at, out_edges-from}
use Rattle.fw_model.specs.Covers.{covers_in, tallies_in, discarded_at, takes_its_cut, takes_its_notices}
use Rattle.fw_model.specs.Machine.{Machine, events, family_of}
use Rattle.fw_model.specs.Offers.{front_of_edge}
use Rattle.fw_model.specs.Reached.{IsReached}
use Rattle.fw_model.specs.Writes.{takes_checkpoints}
use Rattle.fw_model.proofs.AskedLaws.{takes-declared, takes-restoring}
use Rattle.fw_model.proofs.DomainLaws.{has_epochs}
use Rattle.fw_policy.specs.Entries.{IsRecorded}
use Rattle.fw_progress.specs.declared.traces.Traces.{Traces}
use Rattle.fw_progress.specs.Trace.{IsTraceOf, IsTraceWithin, IsTraceIf}
use Rattle.fw_stands.specs.Parts.{IsTraceIn}
use Rattle.fw_stands.proofs.AtReached.{reached-legal}
use Rattle.fw_stands.proofs.SettlingLaws.{base-settled}
use Rattle.fw_settle.specs.Checkpoints.{IsCoverDelivered, IsDiscarded, IsRecordedAt}
use Rattle.fw_settle.proofs.EachEdgeLaws.{IsAmong, zip-edges, zip-fronts, fronts-of_edges, each-among, front-at}

-- ---- what traces tell

-- the traces of a node that takes checkpoints are thinned inside a base that a frontier holds which holds what is settled
pub within-front : (sys : System) (floor : List Front) (state : Machine) (p : ℕ) (f : Front) (traces : Traces) → takes_checkpoints (policy_of sys.flow p) ≡ true
    → Within (family_of sys.flow state.settled p) (node_frontier sys.flow p f) → IsTraceIn sys floor state p traces → IsTraceWithin true sys (events state.history) p f traces
within-front sys floor state p f traces takes within t = record {
  base = family_of sys.flow state.settled p;
  within = within;
  trace = subst (λ whole. IsTraceIf whole sys (events state.history) p (family_of sys.flow state.settled p) traces) takes
      (subst (λ base. IsTraceOf sys (events state.history) p base traces) (base-settled sys floor state p takes) t);
}

no-notices : (k : Kind) (p : Policy) → takes_checkpoints p ≡ true → takes_its_notices k p ≡ false
no-notices k policy.None e = absurd (cc)
no-notices k policy.Lazy e = refl
no-notices k policy.Logged e = refl
no-notices k policy.Eager e = refl
no-notices k policy.Full e = refl

-- ---- what is recorded

delivered-counts : (sys : System) (state : Machine) (p : ℕ) (f : Front) (traces : Traces) → IsWellFormedSystem sys → IsReached sys state
    → way_of sys.flow p ≡ Checkpoints → IsTraceWithin true sys (events state.history) p f traces
    → AllByRecursion (λ d. (front : Front) → IsCoverDelivered sys.flow traces f d front
    → IsFrontOf (bounds_of sys.flow (receiver sys.flow d)) front ((covers_in sys state).delivered d (At f))) (in_edges sys.flow p)
delivered-counts sys state p f traces w r way t =
    in_edges-from (λ d. (front : Front) → IsCoverDelivered sys.flow traces f d front
    → IsFrontOf (bounds_of sys.flow (receiver sys.flow d)) front ((covers_in sys state).delivered d (At f))) sys.flow p
    (λ d l e front told.
    let q = receiver sys.flow d in
    let its : way_of sys.flow q ≡ Checkpoints = ap (way_of sys.flow) e ∙ way in
    subst (IsFrontOf (bounds_of sys.flow q) front)
    (sym (cond-false (takes_its_cut (way_of sys.flow q)) (node_frontier sys.flow q f) ((tallies_in sys state).delivered d (At f)) (ap takes_its_cut its)))
    (told sys (events state.history) refl (has_epochs sys w) (reached-legal sys state w r)
    (subst (λ n. IsTraceWithin true sys (events state.history) n f traces) (sym e) t)))

discarded-counts : (sys : System) (state : Machine) (p : ℕ) (f : Front) (traces : Traces) → IsWellFormedSystem sys → IsReached sys state
    → way_of sys.flow p ≡ Checkpoints → IsTraceWithin true sys (events state.history) p f traces
    → AllByRecursion (λ e. (front : Front) → IsDiscarded sys.flow traces f (can_resend (policy_of sys.flow p)) e front
    → IsFrontOf (bounds_of sys.flow (receiver sys.flow e)) front ((covers_in sys state).discarded e (At f))) (out_edges sys.flow p)
discarded-counts sys state p f traces w r way t =
    out_edges-from (λ e. (front : Front) → IsDiscarded sys.flow traces f (can_resend (policy_of sys.flow p)) e front
    → IsFrontOf (bounds_of sys.flow (receiver sys.flow e)) front ((covers_in sys state).discarded e (At f))) sys.flow p
    (λ e l s front told. by e s front (can_resend (policy_of sys.flow p)) refl told)
  where
    by : (e : ℕ) → sender sys.flow e ≡ p → (front : Front) (b : Bool) → can_resend (policy_of sys.flow p) ≡ b → IsDiscarded sys.flow traces f b e front
        → IsFrontOf (bounds_of sys.flow (receiver sys.flow e)) front ((covers_in sys state).discarded e (At f))
    by e s front true k told =
        let q = sender sys.flow e in
        let b = bounds_of sys.flow (receiver sys.flow e) in
        let sent = (tallies_in sys state).sent e (At f) in
        subst (IsFrontOf b front)
        (sym (cond-true (can_resend (policy_of sys.flow q)) nothing (discarded_at sys.flow e (way_of sys.flow q) sent f) (ap (λ n. can_resend (policy_of sys.flow n)) s ∙ k))) told
    by e s front false k told =
        let q = sender sys.flow e in
        let b = bounds_of sys.flow (receiver sys.flow e) in
        let sent = (tallies_in sys state).sent e (At f) in
        subst (IsFrontOf b front)
        (sym (cond-false (can_resend (policy_of sys.flow q)) nothing (discarded_at sys.flow e (way_of sys.flow q) sent f) (ap (λ n. can_resend (policy_of sys.flow n)) s ∙ k)
        ∙ ap (λ (way : Restoring). discarded_at sys.flow e way sent f) (ap (way_of sys.flow) s ∙ way)))
        (told sys (events state.history) refl (has_epochs sys w) (reached-legal sys state w r)
        (subst (λ n. IsTraceWithin true sys (events state.history) n f traces) (sym s) t)
        (ap (λ n. not (can_resend (policy_of sys.flow n))) s ∙ ap not k))

pub recorded-at : (sys : System) (state : Machine) (p : ℕ) (f : Front) (traces : Traces) (r : Recorded) → IsWellFormedSystem sys → IsReached sys state
    → takes_checkpoints (policy_of sys.flow p) ≡ true → IsCanonical (bounds_of sys.flow p) f → IsTraceWithin true sys (events state.history) p f traces
    → IsRecordedAt sys.flow traces p f r → IsRecorded sys state p f r
recorded-at sys state p f traces r w reached takes c t i =
    let flow = sys.flow in
    let covers = covers_in sys state in
    let way : way_of flow p ≡ Checkpoints = takes-restoring (kind_of flow p) (policy_of flow p) (w.flow.policies p (takes-declared flow p takes)) takes in
    let notified = i.notified sys (events state.history) refl (has_epochs sys w) (reached-legal sys state w reached) t in
    let delivered = zip-fronts (IsCoverDelivered flow traces f) flow (λ d. covers.delivered d (At f)) (in_edges flow p) r.delivered
    (delivered-counts sys state p f traces w reached way t) i.delivered in
    let discarded = zip-fronts (IsDiscarded flow traces f (can_resend (policy_of flow p))) flow (λ e. covers.discarded e (At f)) (out_edges flow p) r.discarded
    (discarded-counts sys state p f traces w reached way t) i.discarded in
    let in_each = zip-edges (IsCoverDelivered flow traces f) (in_edges flow p) r.delivered i.delivered in
    let out_each = zip-edges (IsDiscarded flow traces f (can_resend (policy_of flow p))) (out_edges flow p) r.discarded i.discarded in
    record {
      front = i.front;
      of_flow = record {
        front = subst (IsCanonical (bounds_of flow p)) (sym i.front) c;
        notified = notified.canonical;
        delivered = fronts-of_edges flow (λ d. covers.delivered d (At f)) r.delivered delivered;
        discarded = fronts-of_edges flow (λ e. covers.discarded e (At f)) r.discarded discarded;
      };
      delivered = λ d l e.
          subst (λ n. front_of_edge (bounds_of flow n) d r.delivered ≡ covers.delivered d (At f)) e
          (front-at flow (λ n. covers.delivered n (At f)) d r.delivered delivered
          (subst (IsAmong d) (sym in_each) (in_edges-at (λ n. IsAmong n (in_edges flow p)) flow p (each-among (in_edges flow p)) d l e)));
      notified =
          (λ j u. notified.same u j)
          ∙ sym (cond-false (takes_its_notices (kind_of flow p) (policy_of flow p)) (node_frontier flow p f) ((tallies_in sys state).notified p (At f))
          (no-notices (kind_of flow p) (policy_of flow p) takes));
      discarded = λ e l s.
          front-at flow (λ n. covers.discarded n (At f)) e r.discarded discarded
          (subst (IsAmong e) (sym out_each) (out_edges-at (λ n. IsAmong n (out_edges flow p)) flow p (each-among (out_edges flow p)) e l s));
    }
