-- What a node's table is asked where an event comes, and of which tables it is one afterwards.
use Rattle.std.proofs.Common.{◌≡◌, ℕ, ◌<◌, true, false, not, ◌&&◌, ◌==◌, List, [], ◌∷◌, length, Some, None, refl, sym, ap, subst, ◌∙◌, inl, inr, arith, Option}
use Rattle.std.specs.Ordering.{is_gt}
use Rattle.std.proofs.lemmas.Bool.{and_parts, both_ways, cases_lt, cond-true, cond-false, eq-eqb, false_from_ne_true, false≢true}
use Rattle.std.proofs.lemmas.Cmp.{tied_itself}
use Rattle.fw_time.specs.Stamp.{Stamp, stamp_cmp}
use Rattle.fw_flow.specs.declared.event.Event.{Event}
use Rattle.fw_flow.specs.declared.event.Event.TheVariants.{Deliver, Notify}
use Rattle.fw_flow.specs.declared.event.Message.{Message}
use Rattle.fw_flow.specs.Kind.{Kind}
use Rattle.fw_flow.specs.declared.kind.Kind.TheVariants as kind
use Rattle.fw_flow.specs.Dataflow.{System, Dataflow, in_edges, is_input_kind, is_notified_kind, is_one_of, is_output_kind, kind_of, node_frontier, receiver}
use Rattle.fw_flow.specs.NodeFunction.{event_node}
use Rattle.fw_flow.specs.Projection.{events_at}
use Rattle.fw_flow.specs.WellFormed.{IsInDegree, IsWellFormed, IsWellFormedSystem}
use Rattle.fw_model.specs.History.{was_delivered_to, was_notified, pending_messages, IsNotifiable, IsEnabled}
use Rattle.fw_model.specs.Machine.{Machine, events, family_of, is_failed}
use Rattle.fw_flow.specs.Message.{is_message_among}
use Rattle.fw_flow.specs.declared.step.Step.TheVariants.{Inject, Deliver as DeliverStep, Notify as NotifyStep}
use Rattle.fw_model.proofs.CmpLaws.{stamp_total}
use Rattle.fw_model.proofs.DomainLaws.{has_epochs}
use Rattle.fw_model.proofs.LowLaws.{input-is}
use Rattle.fw_model.proofs.NothingInsideLaws.{kind-declared, settled-nothing_inside}
use Rattle.fw_model.proofs.ToldLaws.{after-notice, settled-told, totals-sum}
use Rattle.fw_model.specs.Steps.{with_event, StepsTo, idle, did, silent}
use Rattle.fw_model.specs.Reached.{IsReached}
use Rattle.fw_node.specs.Arrived.{AreOnEdges, IsOneOf}
use Rattle.fw_node.specs.TableOf.{IsTableOf}
use Rattle.fw_node.proofs.OnEdgesLaws.{events_come_on_in_edges}
use Rattle.fw_node.specs.declared.node.Node.{Node}
use Rattle.fw_stands.proofs.EventBorderLaws.{enabled-domain}
use Rattle.fw_stands.proofs.EventNextLaws.{legal-reached}
use Rattle.fw_stands.proofs.EventQueueLaws.{none-pending_past}
use Rattle.fw_stands.specs.Parts.{IsTableIn, has_table, table_base}
use Rattle.fw_stands.specs.Events.{CanTakeNotice, CanTakeIn}
use Rattle.fw_stands.proofs.TableBaseLaws.{base-within, event-front, same_table-stands, sums-by_less, unsettled-base}

-- ---- deliveries

-- an edge on which something is pending is declared
pending-declared : (sys : System) (state : Machine) (e : ℕ) (m : Message) → is_message_among m (pending_messages sys (events state.history) e) ≡ true
    → e < length sys.flow.edges
pending-declared sys state e m k = elim (cases_lt e (length sys.flow.edges)) [
  | inl l ↦ l
  | inr past ↦ absurd (false≢true (sym (ap (is_message_among m) (none-pending_past sys (events state.history) e past)) ∙ k))
]

-- an edge is one of the in-edges of its receiver
on-edge : (flow : Dataflow) → IsWellFormed flow → (e : ℕ) (m : Message) → e < length flow.edges → IsOneOf (in_edges flow (receiver flow e)) e
on-edge flow w e m l =
    let p = receiver flow e in
    let one : AreOnEdges (in_edges flow p) (events_at flow p (Deliver e m ∷ [])) = (events_come_on_in_edges flow p (w.receivers_declared e l) (Deliver e m ∷ []) (λ s. true)).0 in
    (subst (AreOnEdges (in_edges flow p)) (cond-true (p == p) (Deliver e m ∷ []) [] (eq-eqb p p refl)) one).0

some-edge : (es : List ℕ) (e : ℕ) → is_one_of e es ≡ true → 0 < length es
some-edge [] e k = absurd (false≢true k)
some-edge (d ∷ ds) e k = omega arith

-- a node that receives is no input
not-input : (flow : Dataflow) → IsWellFormed flow → (e : ℕ) (m : Message) → e < length flow.edges → is_input_kind (kind_of flow (receiver flow e)) ≡ false
not-input flow w e m l =
    let p = receiver flow e in
    false_from_ne_true (is_input_kind (kind_of flow p)) (λ k.
    let none : length (in_edges flow p) ≡ 0 =
    subst (λ kind. IsInDegree kind (length (in_edges flow p))) (input-is (kind_of flow p) k) (w.in_degrees p (w.receivers_declared e l)) in
    let some = some-edge (in_edges flow p) e (on-edge flow w e m l) in
    omega arith)

-- in each reached state each delivery that may come next can be taken in
pub deliveries-can_be_taken_in : (sys : System) (state : Machine) → IsWellFormedSystem sys → IsReached sys state
    → (e : ℕ) (m : Message) → IsEnabled sys (events state.history) (Deliver e m) → CanTakeIn sys state e m
deliveries-can_be_taken_in sys state w r e m k =
    let v : Event = Deliver e m in
    let p = receiver sys.flow e in
    let h = events state.history in
    let l = pending-declared sys state e m k.is_pending in
    let n = not-input sys.flow w.flow e m l in
    record {
      edge = l;
      declared = w.flow.receivers_declared e l;
      no_input = n;
      on_edge = on-edge sys.flow w.flow e m l;
      in_the_domain = enabled-domain sys state w r v k;
      unsettled = unsettled-base sys w state r p m.at ((settled-nothing_inside sys w r.0 r.1 state r.2 v k).settled n);
      untold = λ i. after-notice sys h w.flow (has_epochs sys w) (legal-reached sys state w r) p i v k refl;
    }

-- ---- notifications

notified-no_input : (k : Kind) → is_notified_kind k ≡ true → is_input_kind k ≡ false
notified-no_input kind.Input n = absurd (false≢true n)
notified-no_input k n = refl

notified-no_output : (k : Kind) → is_notified_kind k ≡ true → is_output_kind k ≡ false
notified-no_output kind.OutputEpoch n = absurd (false≢true n)
notified-no_output kind.OutputNumber n = absurd (false≢true n)
notified-no_output k n = refl

-- in each reached state each notification that may come next can be taken
pub notices-can_be_taken : (sys : System) (state : Machine) → IsWellFormedSystem sys → IsReached sys state
    → (p : ℕ) (t : Stamp) → IsEnabled sys (events state.history) (Notify p t) → CanTakeNotice sys state p t
notices-can_be_taken sys state w r p t k =
    let v : Event = Notify p t in
    let h = events state.history in
    let owing = and_parts (is_notified_kind (kind_of sys.flow p) && was_delivered_to sys.flow p t h) (not (was_notified p t h)) k.is_owed in
    let n = (and_parts (is_notified_kind (kind_of sys.flow p)) (was_delivered_to sys.flow p t h) owing.0).0 in
    let no_input = notified-no_input (kind_of sys.flow p) n in
    record {
      declared = kind-declared sys.flow p is_notified_kind n refl;
      notified = n;
      no_input = no_input;
      no_output = notified-no_output (kind_of sys.flow p) n;
      in_the_domain = enabled-domain sys state w r v k;
      unsettled = unsettled-base sys w state r p t ((settled-nothing_inside sys w r.0 r.1 state r.2 v k).settled no_input);
      untold = after-notice sys h w.flow (has_epochs sys w) (legal-reached sys state w r) p n v k refl;
      sums = λ is.
          sums-by_less (family_of sys.flow state.settled p) (table_base sys state p) (events_at sys.flow p h) t (base-within sys w state r p)
          (settled-told sys w r.0 r.1 state r.2 p n) (totals-sum sys w r.0 r.1 state r.2 p is t k);
    }

-- a notification of a stamp that is asked for is taken exactly where a node that is not failed may be notified
-- of it; where it may not the step is idle
pub notices-take_asked : (sys : System) (state : Machine) (p : ℕ) (t : Stamp) → is_failed state p ≡ false
    → (IsNotifiable sys (events state.history) p t → StepsTo sys state (NotifyStep p (Some t)) (with_event sys state (Notify p t)) (did silent))
    × ((IsNotifiable sys (events state.history) p t → ⊥) → StepsTo sys state (NotifyStep p (Some t)) state idle)
notices-take_asked sys state p t f = (
  (λ k. (
    t,
    record {
      enabled = k;
      asked = refl;
      least = λ other o a. subst (λ s. is_gt (stamp_cmp t s) ≡ false) a (self t);
    },
    f,
    refl,
    refl,
  )),
  (λ n. ((λ other effect a. n (subst (IsNotifiable sys (events state.history) p) (sym a.1.asked) a.1.enabled)), refl)),
)
  where
    self : (s : Stamp) → is_gt (stamp_cmp s s) ≡ false
    self s = ap is_gt (tied_itself stamp_total s)

-- a node that is failed injects nothing, is delivered nothing and is notified of nothing
pub failed-idle : (sys : System) (state : Machine) (p : ℕ) → is_failed state p ≡ true
    → StepsTo sys state (Inject p) state idle × ((e : ℕ) (at : Option Stamp) → receiver sys.flow e ≡ p → StepsTo sys state (DeliverStep e at) state idle)
    × ((at : Option Stamp) → StepsTo sys state (NotifyStep p at) state idle)
failed-idle sys state p f = (
  ((λ other effect t. both_ways (is_failed state p) t.2 f), refl),
  (λ e at i. ((λ other effect t. both_ways (is_failed state p) (ap (is_failed state) (sym i) ∙ t.2) f), refl)),
  (λ at. ((λ other effect t. both_ways (is_failed state p) t.2 f), refl)),
)

-- ---- tables

-- a table that took an event in is that of its node after the event
pub tables-take_in : (sys : System) (state : Machine) (v : Event) (p : ℕ) → event_node sys.flow v ≡ p → has_table sys state p ≡ true
    → (table : Node) → IsTableOf sys.flow p (table_base sys state p) table (v ∷ events_at sys.flow p (events state.history))
    → IsTableIn sys (with_event sys state v) p (Some table)
tables-take_in sys state v p i t table o =
    let h = events state.history in
    record {
      there = sym t;
      of_events = subst (λ f. IsTableOf sys.flow p (node_frontier sys.flow p f) table (events_at sys.flow p (v ∷ h))) (sym (event-front sys state v p))
          (subst (IsTableOf sys.flow p (table_base sys state p) table)
          (sym (cond-true (event_node sys.flow v == p) (v ∷ events_at sys.flow p h) (events_at sys.flow p h) (eq-eqb (event_node sys.flow v) p i))) o);
    }

-- an event of another node leaves a table
pub tables-stay : (sys : System) (state : Machine) (v : Event) (p : ℕ) → (event_node sys.flow v == p) ≡ false
    → (table : Option Node) → IsTableIn sys state p table → IsTableIn sys (with_event sys state v) p table
tables-stay sys state v p n table i =
    let h = events state.history in
    same_table-stands sys state (with_event sys state v) p table refl (event-front sys state v p)
    (cond-false (event_node sys.flow v == p) (v ∷ events_at sys.flow p h) (events_at sys.flow p h) n) i

-- where there is no table, there is none after an event
pub no-tables_stay : (sys : System) (state : Machine) (v : Event) (p : ℕ) → IsTableIn sys state p None → IsTableIn sys (with_event sys state v) p None
no-tables_stay sys state v p i = record { there = i.there; of_events = tt }
