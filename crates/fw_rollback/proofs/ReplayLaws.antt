-- Events that are done again, one after the other.
use Rattle.std.proofs.Common.{◌≡◌, ℕ, ◌+◌, ◌<◌, true, false, List, [], ◌∷◌, ◌++◌, length, take, get_or, Result, Ok, Err, refl, sym, ap, subst, ◌∙◌}
use Rattle.std.specs.Prelude.{OnOk}
use Rattle.std.proofs.lemmas.List.{append-nil, take_more}
use Rattle.std.proofs.lemmas.Grind.{flat_map-append}
use Rattle.fw_time.specs.Stamp.{Stamp}
use Rattle.fw_bag.specs.declared.rec.Rec.{Rec}
use Rattle.fw_flow.specs.declared.event.Event.{Event}
use Rattle.fw_flow.specs.declared.event.Event.TheVariants.{Inject, Deliver, Notify}
use Rattle.fw_flow.specs.declared.event.Message.{Message}
use Rattle.fw_flow.specs.declared.kind.Kind.TheVariants as kind
use Rattle.fw_flow.specs.Dataflow.{Dataflow, System, sender, kind_of, in_edges, is_notified_kind}
use Rattle.fw_flow.specs.NodeFunction.{sends, sent_by}
use Rattle.fw_record.specs.declared.record.Event.{Event as LoggedEvent}
use Rattle.fw_record.specs.declared.record.Event.TheVariants as logged
use Rattle.fw_model.specs.Carried.{carried}
use Rattle.fw_model.proofs.CarriedLaws.{carried-append, carried-none}
use Rattle.fw_model.proofs.SortedLaws.{sorted_messages-carried}
use Rattle.fw_model.specs.Told.{is_told, IsSumOfTold}
use Rattle.fw_node.specs.Answers.{caused_by}
use Rattle.fw_node.specs.Arrived.{IsOneOf}
use Rattle.fw_node.specs.Sends.{notice_sends}
use Rattle.fw_node.proofs.NoticeLaws.{notices_are_sends}
use Rattle.fw_frontier.specs.Front.{Front}
use Rattle.fw_model.specs.SortedMessages.{sorted_messages}
use Rattle.fw_record.specs.declared.record.Record.{Record}
use Rattle.fw_edge.specs.Messages.{MessagesState}
use Rattle.fw_node.specs.declared.node.Node.{Node}
use Rattle.fw_node.specs.TableOf.{IsTableOf}
use Rattle.fw_record.specs.Event.{event_of, logged_events}
use Rattle.fw_rollback.specs.Asked.{events_of}
use Rattle.fw_rollback.specs.Edges.{on_edge, nothing_there}
use Rattle.fw_rollback.specs.Restored.{log_of, HasLogs, HaveSent, StandsForRedone}
use Rattle.fw_rollback.proofs.LogLaws.{log_of-same, sorted_messages-before}
use Rattle.fw_rollback.specs.Replay.{CanBeDone, AreDoneAgain}
use Rattle.fw_rollback.proofs.ListLaws.{same_end, not_empty}

-- ---- the latest event

-- Of events that are done again the latest is the last of the logged ones, and the others are done again.
pub record LatestIs (flow : Dataflow) (p : ℕ) (before : List LoggedEvent) (l : LoggedEvent) (events : List Event) : Type 0 where
  pub earlier : List Event
  pub latest : Event
  pub parts : events ≡ latest ∷ earlier
  pub logged : logged_events (latest ∷ []) ≡ l ∷ []
  pub again : AreDoneAgain flow p before earlier
  pub can : CanBeDone flow p (latest ∷ earlier)

pub latest_is : (flow : Dataflow) (p : ℕ) (ls : List LoggedEvent) (l : LoggedEvent) (events : List Event)
    → AreDoneAgain flow p (ls ++ l ∷ []) events → LatestIs flow p ls l events
latest_is flow p ls l [] a = absurd (not_empty ls l a.logged)
latest_is flow p ls l (Inject s x ∷ before) a = absurd a.each
latest_is flow p ls l (Deliver e m ∷ before) a =
    let h = same_end (logged_events before) ls (logged.Deliver e m.at m.rec) l a.logged in
    record {
      earlier = before;
      latest = Deliver e m;
      parts = refl;
      logged = ap (λ (x : LoggedEvent). x ∷ []) h.last;
      again = record { logged = h.before; each = a.each.2 };
      can = a.each;
    }
latest_is flow p ls l (Notify q t ∷ before) a =
    let h = same_end (logged_events before) ls (logged.Notify t) l a.logged in
    record {
      earlier = before;
      latest = Notify q t;
      parts = refl;
      logged = ap (λ (x : LoggedEvent). x ∷ []) h.last;
      again = record { logged = h.before; each = a.each.3 };
      can = a.each;
    }

-- where nothing is logged nothing is done
pub none_done : (flow : Dataflow) (p : ℕ) (events : List Event) → AreDoneAgain flow p [] events → events ≡ []
none_done flow p [] a = refl
none_done flow p (Inject s x ∷ before) a = absurd a.each
none_done flow p (Deliver e m ∷ before) a = absurd (not_empty (logged_events before) (logged.Deliver e m.at m.rec) (sym a.logged))
none_done flow p (Notify q t ∷ before) a = absurd (not_empty (logged_events before) (logged.Notify t) (sym a.logged))

-- ---- by what was logged

-- an event that is logged as a delivery is one
pub of_delivery : (G : Event → Type 0) (flow : Dataflow) (p : ℕ) (before : List Event) (edge : ℕ) (at : Stamp) (rec : Rec) (v : Event)
    → logged_events (v ∷ []) ≡ logged.Deliver edge at rec ∷ [] → CanBeDone flow p (v ∷ before)
    → ((m : Message) → m.at ≡ at → m.rec ≡ rec → IsOneOf (in_edges flow p) edge → (is_notified_kind (kind_of flow p) ≡ true → is_told before at ≡ false) → G (Deliver edge m))
    → G v
of_delivery G flow p before edge at rec (Inject s x) l can f = absurd can
of_delivery G flow p before edge at rec (Deliver e m) l can f =
    let same : e ≡ edge = cc in
    let stamp : m.at ≡ at = cc in
    let r : m.rec ≡ rec = cc in
    subst (λ d. G (Deliver d m)) (sym same)
    (f m stamp r (subst (IsOneOf (in_edges flow p)) same can.0) (λ n. ap (is_told before) (sym stamp) ∙ can.1 n))
of_delivery G flow p before edge at rec (Notify q t) l can f = absurd cc

-- an event that is logged as a notification is one
pub of_notice : (G : Event → Type 0) (flow : Dataflow) (p : ℕ) (before : List Event) (at : Stamp) (v : Event)
    → logged_events (v ∷ []) ≡ logged.Notify at ∷ [] → CanBeDone flow p (v ∷ before)
    → (is_told before at ≡ false → (kind_of flow p ≡ kind.Total → IsSumOfTold (λ s. false) before at) → G (Notify p at)) → G v
of_notice G flow p before at (Inject s x) l can f = absurd can
of_notice G flow p before at (Deliver e m) l can f = absurd cc
of_notice G flow p before at (Notify q t) l can f =
    let stamp : t ≡ at = cc in
    let g : G (Notify p at) = f (ap (is_told before) (sym stamp) ∙ can.1) (λ k. subst (IsSumOfTold (λ s. false) before) stamp (can.2 k)) in
    subst (λ r. G (Notify r t)) (sym can.0) (subst (λ u. G (Notify p u)) (sym stamp) g)

-- ---- what is logged of an event

-- what is sent is logged as it is, in whatever order
pub sent-logged : (flow : Dataflow) (low : List Front) (e : ℕ) (sent all ms : List Message) → sorted_messages sent ≡ sorted_messages all
    → log_of flow low e (carried flow e sent ++ ms) ≡ log_of flow low e (carried flow e all ++ ms)
sent-logged flow low e sent all ms same =
    log_of-same flow low e (carried flow e sent ++ ms) (carried flow e all ++ ms)
    (sorted_messages-before (carried flow e sent) (carried flow e all) ms
    (sorted_messages-carried flow e sent ∙ ap (carried flow e) same ∙ sym (sorted_messages-carried flow e all)))

-- what a notification is said to send is logged as what it sends
pub notice-logged : (sys : System) (low : List Front) (e p : ℕ) (before : List Event) (at : Stamp) (sent ms : List Message)
    → sent ≡ caused_by at (notice_sends (kind_of sys.flow p) before at)
    → log_of sys.flow low e (carried sys.flow e sent ++ ms) ≡ log_of sys.flow low e (carried sys.flow e (sends sys p before (Notify p at)) ++ ms)
notice-logged sys low e p before at sent ms is =
    sent-logged sys.flow low e sent (sends sys p before (Notify p at)) ms (ap sorted_messages is ∙ sym (notices_are_sends sys p before at))

-- ---- one event more

pub events-more : (rs : List Record) (i : ℕ) (r : Record) → i < length rs → r ≡ get_or rs i r
    → events_of (take (i + 1) rs) ≡ events_of (take i rs) ++ event_of r
events-more rs i r l at =
    ap events_of (take_more rs i r l) ∙ flat_map-append event_of (take i rs) (get_or rs i r ∷ [])
    ∙ ap (λ (ls : List LoggedEvent). events_of (take i rs) ++ ls) (append-nil (event_of (get_or rs i r)))
    ∙ ap (λ (x : Record). events_of (take i rs) ++ event_of x) (sym at)

-- a node that stands for logged events stands for one more, where each event that is logged so may be added
pub stands-more : (flow : Dataflow) (p : ℕ) (ls : List LoggedEvent) (l : LoggedEvent) (old new : Node) → StandsForRedone flow p ls old
    → ((before : List Event) (v : Event) → logged_events (v ∷ []) ≡ l ∷ [] → CanBeDone flow p (v ∷ before) → IsTableOf flow p (λ s. false) old before
    → IsTableOf flow p (λ s. false) new (v ∷ before))
    → StandsForRedone flow p (ls ++ l ∷ []) new
stands-more flow p ls l old new st add events a =
    let h = latest_is flow p ls l events a in
    subst (λ (vs : List Event). IsTableOf flow p (λ s. false) new vs) (sym h.parts) (add h.earlier h.latest h.logged h.can (st h.earlier h.again))

-- logs that have what logged events sent have what one more sent
pub have_sent-more : {T E : Type 0} (flow : Dataflow) (low : List Front) (p : ℕ) (ls : List LoggedEvent) (l : LoggedEvent) (table : Node) (old new : List MessagesState)
    (r : Result T E) (sent : List Message) → StandsForRedone flow p ls table → HaveSent flow low p ls old
    → ((batches : List (List (List Rec))) (before : List Event) (v : Event) → logged_events (v ∷ []) ≡ l ∷ [] → CanBeDone flow p (v ∷ before)
    → IsTableOf flow p (λ s. false) table before → (e : ℕ) (ms : List Message)
    → log_of flow low e (carried flow e sent ++ ms) ≡ log_of flow low e (carried flow e (sends (record { flow = flow; batches = batches }) p before v) ++ ms))
    → ((e : ℕ) → e < length flow.edges → sender flow e ≡ p → (ms : List Message) → on_edge old e ≡ log_of flow low e ms → OnOk r (on_edge new e ≡ log_of flow low e (carried flow e sent ++ ms)))
    → OnOk r (HaveSent flow low p (ls ++ l ∷ []) new)
have_sent-more flow low p ls l table old new (Err x) sent st have same logged = tt
have_sent-more flow low p ls l table old new (Ok x) sent st have same logged = λ batches events a e k s.
    let h = latest_is flow p ls l events a in
    let sys : System = record { flow = flow; batches = batches } in
    let before : List Message = carried flow e (sent_by sys p h.earlier) in
    logged e k s before (have batches h.earlier h.again e k s)
    ∙ same batches h.earlier h.latest h.logged h.can (st h.earlier h.again) e before
    ∙ ap (log_of flow low e) (sym (carried-append flow e (sends sys p h.earlier h.latest) (sent_by sys p h.earlier)))
    ∙ ap (λ (vs : List Event). log_of flow low e (carried flow e (sent_by sys p vs))) (sym h.parts)

-- at first a node stands for nothing done, and empty logs have what nothing sent
pub stands-none : (flow : Dataflow) (p : ℕ) (node : Node) → IsTableOf flow p (λ s. false) node [] → StandsForRedone flow p [] node
stands-none flow p node t events a = subst (λ (vs : List Event). IsTableOf flow p (λ s. false) node vs) (sym (none_done flow p events a)) t

pub have_sent-none : (flow : Dataflow) (low : List Front) (p : ℕ) (logs : List MessagesState) → HasLogs flow p logs (λ e. nothing_there) → HaveSent flow low p [] logs
have_sent-none flow low p logs h batches events a e l s =
    let sys : System = record { flow = flow; batches = batches } in
    h e l s ∙ ap (log_of flow low e) (sym (carried-none flow e))
    ∙ ap (λ (vs : List Event). log_of flow low e (carried flow e (sent_by sys p vs))) (sym (none_done flow p events a))
