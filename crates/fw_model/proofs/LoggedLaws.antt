-- Logged events: each write that logs has its event, and each event of a live node that logs has its write.
use Rattle.std.proofs.Common.{◌≡◌, ℕ, ◌<◌, Bool, true, false, not, ◌&&◌, ◌||◌, ◌==◌, List, [], ◌∷◌, ◌++◌, length, filter, map, cond, refl, sym, ap, subst, ◌∙◌, inl, inr, arith}
use Rattle.std.specs.List.{AllByRecursion}
use Rattle.std.proofs.lemmas.Bool.{or_parts, or_cases, or_left, or_right, cond_both, eqb-true, eq-eqb}
use Rattle.std.proofs.lemmas.List.FromFn.{get_or-map-range_with_len}
use Rattle.fw_lemmas.proofs.Bools.{two_ways}
use Rattle.fw_lemmas.proofs.Each.{each-weaker, each-both, each-one, each-append, each-map, each-passed, each-replaced, each-each}
use Rattle.fw_lemmas.proofs.Numbers.{at_most-refl}
use Rattle.fw_time.specs.Stamp.{in_domain}
use Rattle.fw_frontier.specs.Front.{Front, frontier_of, same_front}
use Rattle.fw_flow.specs.declared.choice.Choice.{Choice}
use Rattle.fw_flow.specs.declared.choice.Cut.{Cut}
use Rattle.fw_flow.specs.declared.choice.Cut.TheVariants.{Present, At}
use Rattle.fw_flow.specs.declared.event.Event.{Event}
use Rattle.fw_flow.specs.declared.event.Event.TheVariants.{Inject as Injected, Deliver as Delivered, Notify as Notified}
use Rattle.fw_flow.specs.declared.kind.Policy.{Policy}
use Rattle.fw_flow.specs.declared.kind.Policy.TheVariants as policy
use Rattle.fw_flow.specs.declared.step.Step.{Step}
use Rattle.fw_flow.specs.declared.step.Step.TheVariants.{Inject, Deliver, Notify, Progress as ProgressStep, Checkpoint, Persist, Fail, Recover, Collect, Ack}
use Rattle.fw_flow.specs.Dataflow.{System, Dataflow, kind_of, policy_of, bounds_of, node_ids, is_one_of}
use Rattle.fw_flow.specs.NodeFunction.{event_node, event_stamp}
use Rattle.fw_flow.specs.Projection.{events_at}
use Rattle.fw_flow.specs.WellFormed.{IsWellFormed, IsWellFormedSystem}
use Rattle.fw_model.specs.Machine.{Machine, SerialEvent, Write, Written, checkpoint, logged_event, Stage, acknowledged, events, first_state, front_of, is_failed}
use Rattle.fw_model.specs.Choice.{kept, IsLogged, IsRestorable, IsCandidate, IsLargest, cut_of, kept_of, filtered_history}
use Rattle.fw_model.specs.Covers.{set_of}
use Rattle.fw_model.specs.Steps.{Effect, Outcome, did, idle, LeadsTo, Run, write_of_event, with_event, checkpoint_of, is_eager, is_in_flight, with_failed, without_lost, has_serial, is_kept_write, kept_writes, recovered_state, front_of_cut, after_collection, collected_writes, offers, AcknowledgesOldest, is_forgotten}
use Rattle.fw_model.specs.Writes.{LogsSerial}
use Rattle.fw_model.proofs.LegalLaws.{legal_events-in_domain}
use Rattle.fw_model.proofs.DomainLaws.{has_epochs}
use Rattle.fw_model.proofs.ChoosingLaws.{settled_writes}
use Rattle.fw_model.proofs.WriteLaws.{HoldsOfOne, some-weaker, some-append, some-passed, some-mapped, some-replaced, NamesEvent, LogsEvent, some-logged, ArePairs, pairs-append, pairs-passed, pairs-mapped, pairs-replaced}
use Rattle.fw_model.proofs.AskedLaws.{AreSerialsBelow, serials-each, IsAskedWell, IsWriteAskedWell, CanRecoverAndRestore, took-reached, first-reached, reached-all}
use Rattle.fw_model.proofs.RestoringLaws.{apart-events, all-logged, full-restoring, full-declared, some-both, only-one}
use Rattle.fw_model.specs.LawsOfWrites.{HasEventOf, HasItsEvent, serial_of, logged_serials, AreIncreasing, AreLatestFirst, LoggedEventsAreInOrder, IsLoggedFor, LiveNodesLogEachEvent}

-- the write is one of node p that logs the event of the serial
abbrev LogsFor : ℕ → ℕ → Write → Type 0
LogsFor p s x = (x.node ≡ p) × (x.written ≡ logged_event s)

-- of two that log events the first has the lesser serial
abbrev IsBefore : ℕ → Written → ℕ → Written → Type 0
IsBefore p (checkpoint f l) q w = Unit {0}
IsBefore p (logged_event r) q (checkpoint g m) = Unit {0}
IsBefore p (logged_event r) q (logged_event s) = r < s

-- each event of node p is logged
abbrev AreLogged : System → ℕ → List Write → List SerialEvent → Type 0
AreLogged sys p writes h = AllByRecursion (λ (v : SerialEvent). event_node sys.flow v.event ≡ p → HoldsOfOne (LogsFor p v.serial) writes) h

abbrev HaveEvents : System → List SerialEvent → List Write → Type 0
HaveEvents sys h writes = AllByRecursion (λ (x : Write). HasItsEvent sys.flow h x.node x.written) writes

-- what holds of each state of a run
record IsLogging (sys : System) (state : Machine) : Type 0 where
  there : HaveEvents sys state.history state.writes
  ascend : ArePairs IsBefore state.writes
  live : (p : ℕ) → policy_of sys.flow p ≡ policy.Full → is_failed state p ≡ false → AreLogged sys p state.writes state.history

-- ---- lists

some-append_right : {A : Type 0} (P : A → Type 0) (xs ys : List A) → HoldsOfOne P ys → HoldsOfOne P (xs ++ ys)
some-append_right P [] ys a = a
some-append_right P (x ∷ xs) ys a = inr (some-append_right P xs ys a)

-- where an event of the serial is, and those of the serial are the node's, one of the node is
any-event : (flow : Dataflow) (p s : ℕ) (h : List SerialEvent) → has_serial s h ≡ true → AllByRecursion (λ (v : SerialEvent). v.serial ≡ s → event_node flow v.event ≡ p) h
    → HasEventOf flow p s h
any-event flow p s [] k a = absurd (two_ways false k refl)
any-event flow p s (v ∷ h) k a = elim (or_cases (v.serial == s) (has_serial s h) k) [
  | inl i ↦ let e = eqb-true v.serial s i in inl (e, a.0 e)
  | inr i ↦ inr (any-event flow p s h i a.1)
]

-- each event of a history has its serial in it
own-serials : (h : List SerialEvent) → AllByRecursion (λ (v : SerialEvent). has_serial v.serial h ≡ true) h
own-serials [] = tt
own-serials (v ∷ h) = (
  or_left (v.serial == v.serial) (has_serial v.serial h) (eq-eqb v.serial v.serial refl),
  each-weaker (λ (u : SerialEvent). has_serial u.serial h ≡ true) (λ u. has_serial u.serial (v ∷ h) ≡ true) h
      (λ u k. or_right (v.serial == u.serial) (has_serial u.serial h) k) (own-serials h),
)

event-passed : (flow : Dataflow) (p s : ℕ) (test : SerialEvent → Bool) (h : List SerialEvent) → AllByRecursion (λ (v : SerialEvent). event_node flow v.event ≡ p → test v ≡ true) h
    → HasEventOf flow p s h → HasEventOf flow p s (filter test h)
event-passed flow p s test [] k a = absurd a
event-passed flow p s test (v ∷ h) k (inl a) =
    cond_both (test v) (v ∷ filter test h) (filter test h) (HasEventOf flow p s) (λ e. inl a) (λ e. absurd (two_ways (test v) (k.0 a.1) e))
event-passed flow p s test (v ∷ h) k (inr a) =
    let rest = event-passed flow p s test h k.1 a in
    cond_both (test v) (v ∷ filter test h) (filter test h) (HasEventOf flow p s) (λ e. inr rest) (λ e. rest)

-- ---- an event

later-event : (flow : Dataflow) (v : SerialEvent) (h : List SerialEvent) (p : ℕ) (w : Written) → HasItsEvent flow h p w → HasItsEvent flow (v ∷ h) p w
later-event flow v h p (checkpoint f l) a = tt
later-event flow v h p (logged_event s) a = inr a

new-event : (sys : System) (v : Event) (next : ℕ) (h : List SerialEvent) (pol : Policy)
    → HaveEvents sys (record { serial = next; event = v } ∷ h) (write_of_event pol (event_node sys.flow v) next)
new-event sys v next h policy.Full = (inl (refl, refl), tt)
new-event sys v next h pol = tt

new-alone : (pol : Policy) (q serial : ℕ) → ArePairs IsBefore (write_of_event pol q serial)
new-alone policy.Full q serial = (tt, tt)
new-alone pol q serial = tt

written-before : (sys : System) (low : List Front) (next : ℕ) (h : List SerialEvent) (p : ℕ) (w : Written) (far : Stage) (q : ℕ) → IsAskedWell sys low next h p w far
    → IsBefore p w q (logged_event next)
written-before sys low next h p (checkpoint f l) far q a = tt
written-before sys low next h p (logged_event s) far q a = a.0

new-before : (sys : System) (low : List Front) (next : ℕ) (h : List SerialEvent) (x : Write) (pol : Policy) (q : ℕ) → IsWriteAskedWell sys low next h x
    → AllByRecursion (λ (y : Write). IsBefore x.node x.written y.node y.written) (write_of_event pol q next)
new-before sys low next h x policy.Full q a = (written-before sys low next h x.node x.written x.stage q a, tt)
new-before sys low next h x pol q a = tt

new-logged : (pol : Policy) (q serial : ℕ) → pol ≡ policy.Full → HoldsOfOne (LogsFor q serial) (write_of_event pol q serial)
new-logged policy.Full q serial e = inl (refl, refl)
new-logged pol q serial e = absurd (cc)

event-logging : (sys : System) (state : Machine) (v : Event) → CanRecoverAndRestore sys state → IsLogging sys state → IsLogging sys (with_event sys state v)
event-logging sys state v f a =
    let q = event_node sys.flow v in
    let asks = policy_of sys.flow q in
    let now : SerialEvent = record { serial = state.next; event = v } in
    let more = write_of_event asks q state.next in
    let W : Write → Type 0 = IsWriteAskedWell sys state.low state.next state.history in
    record {
      there = each-append (λ (x : Write). HasItsEvent sys.flow (now ∷ state.history) x.node x.written) state.writes more
          (each-weaker (λ (x : Write). HasItsEvent sys.flow state.history x.node x.written) (λ x. HasItsEvent sys.flow (now ∷ state.history) x.node x.written) state.writes
          (λ x b. later-event sys.flow now state.history x.node x.written b) a.there)
          (new-event sys v state.next state.history asks);
      ascend = pairs-append IsBefore state.writes more a.ascend (new-alone asks q state.next)
          (each-weaker W (λ x. AllByRecursion (λ (y : Write). IsBefore x.node x.written y.node y.written) more) state.writes
          (λ x b. new-before sys state.low state.next state.history x asks q b) f.restore.asked);
      live = λ p full l. (
        λ e. subst (λ n. HoldsOfOne (LogsFor n state.next) (state.writes ++ more)) e
            (some-append_right (LogsFor q state.next) state.writes more (new-logged asks q state.next (ap (policy_of sys.flow) e ∙ full))),
        each-weaker (λ (u : SerialEvent). event_node sys.flow u.event ≡ p → HoldsOfOne (LogsFor p u.serial) state.writes)
            (λ u. event_node sys.flow u.event ≡ p → HoldsOfOne (LogsFor p u.serial) (state.writes ++ more)) state.history
            (λ u k e. some-append (LogsFor p u.serial) state.writes more (k e)) (a.live p full l),
      );
    }

-- ---- steps that ask checkpoints, or change writes

asked-logging : (sys : System) (state : Machine) (settled kept_settled : List Front) (ps : List ℕ) → IsLogging sys state
    → IsLogging sys (record state { settled = kept_settled; writes = state.writes ++ settled_writes state settled ps })
asked-logging sys state settled kept_settled ps a =
    let more = settled_writes state settled ps in
    let asks : ℕ → Write = λ p. checkpoint_of state p (front_of settled p) in
    record {
      there = each-append (λ (x : Write). HasItsEvent sys.flow state.history x.node x.written) state.writes more a.there
          (each-map (λ (x : Write). HasItsEvent sys.flow state.history x.node x.written) asks ps (each-one (λ p. Unit {0}) ps (λ p. tt)));
      ascend = pairs-append IsBefore state.writes more a.ascend (alone ps)
          (each-one (λ (x : Write). AllByRecursion (λ (y : Write). IsBefore x.node x.written y.node y.written) more) state.writes
          (λ x. each-map (λ (y : Write). IsBefore x.node x.written y.node y.written) asks ps
          (each-one (λ p. IsBefore x.node x.written p (checkpoint (front_of settled p) state.low)) ps (λ p. any-before x.node x.written p (front_of settled p) state.low))));
      live = λ p full l.
          each-weaker (λ (u : SerialEvent). event_node sys.flow u.event ≡ p → HoldsOfOne (LogsFor p u.serial) state.writes)
          (λ u. event_node sys.flow u.event ≡ p → HoldsOfOne (LogsFor p u.serial) (state.writes ++ more)) state.history
          (λ u k e. some-append (LogsFor p u.serial) state.writes more (k e)) (a.live p full l);
    }
  where
    any-before : (n : ℕ) (w : Written) (p : ℕ) (g : Front) (l : List Front) → IsBefore n w p (checkpoint g l)
    any-before n (checkpoint f m) p g l = tt
    any-before n (logged_event s) p g l = tt

    alone : (ps : List ℕ) → ArePairs IsBefore (settled_writes state settled ps)
    alone [] = tt
    alone (p ∷ ps) = (
      each-map (λ (y : Write). IsBefore p (checkpoint (front_of settled p) state.low) y.node y.written) (λ q. checkpoint_of state q (front_of settled q)) ps
          (each-one (λ q. Unit {0}) ps (λ q. tt)),
      alone ps,
    )

acknowledged-logging : (sys : System) (state : Machine) (writes : List Write) → AcknowledgesOldest state.writes writes → IsLogging sys state
    → IsLogging sys (record state { writes = writes })
acknowledged-logging sys state writes k a =
    let y = k.oldest in
    let z : Write = record y { stage = acknowledged } in
    let P : Write → Type 0 = λ x. HasItsEvent sys.flow state.history x.node x.written in
    record {
      there = subst (AllByRecursion P) (sym k.after) (each-replaced P k.earlier y z k.later (λ b. b) (subst (AllByRecursion P) k.before a.there));
      ascend = subst (ArePairs IsBefore) (sym k.after) (pairs-replaced IsBefore k.earlier y acknowledged k.later (subst (ArePairs IsBefore) k.before a.ascend));
      live = λ p full l.
          each-weaker (λ (u : SerialEvent). event_node sys.flow u.event ≡ p → HoldsOfOne (LogsFor p u.serial) state.writes)
          (λ u. event_node sys.flow u.event ≡ p → HoldsOfOne (LogsFor p u.serial) writes) state.history
          (λ u b e. subst (HoldsOfOne (LogsFor p u.serial)) (sym k.after)
          (some-replaced (LogsFor p u.serial) k.earlier y z k.later (λ c. c) (subst (HoldsOfOne (LogsFor p u.serial)) k.before (b e)))) (a.live p full l);
    }

collected-logging : (sys : System) (state : Machine) (low : List Front) → IsLogging sys state
    → IsLogging sys (record state { low = low; writes = collected_writes sys low state.history state.writes })
collected-logging sys state low a =
    let P : Write → Type 0 = λ x. HasItsEvent sys.flow state.history x.node x.written in
    let far : Write → Stage = λ x. after_collection (is_forgotten sys low state.history state.writes x) x.stage in
    record {
      there = each-map P (λ (x : Write). record x { stage = far x }) state.writes a.there;
      ascend = pairs-mapped IsBefore far state.writes a.ascend;
      live = λ p full l.
          each-weaker (λ (u : SerialEvent). event_node sys.flow u.event ≡ p → HoldsOfOne (LogsFor p u.serial) state.writes)
          (λ u. event_node sys.flow u.event ≡ p → HoldsOfOne (LogsFor p u.serial) (collected_writes sys low state.history state.writes)) state.history
          (λ u b e. some-mapped (LogsFor p u.serial) (LogsFor p u.serial) (λ (x : Write). record x { stage = far x }) state.writes (λ x c. c) (b e)) (a.live p full l);
    }

-- ---- a failure

failed-logging : (sys : System) (state : Machine) (ps : List ℕ) → IsLogging sys state
    → IsLogging sys (record state { failed = with_failed sys state ps; writes = without_lost ps state.writes })
failed-logging sys state ps a =
    let test : Write → Bool = λ write. not (is_one_of write.node ps && is_in_flight write.stage) in
    let P : Write → Type 0 = λ x. HasItsEvent sys.flow state.history x.node x.written in
    record {
      there = each-passed P P test state.writes (λ x k b. b) a.there;
      ascend = pairs-passed IsBefore test state.writes a.ascend;
      live = λ p full l.
          let now = sym (get_or-map-range_with_len (λ q. is_failed state q || is_one_of q ps) 0 (length sys.flow.nodes) p p false (full-declared sys.flow p full) (omega arith)) ∙ l in
          let parts = or_parts (is_failed state p) (is_one_of p ps) now in
          each-weaker (λ (u : SerialEvent). event_node sys.flow u.event ≡ p → HoldsOfOne (LogsFor p u.serial) state.writes)
          (λ u. event_node sys.flow u.event ≡ p → HoldsOfOne (LogsFor p u.serial) (without_lost ps state.writes)) state.history
          (λ u b e. some-passed (LogsFor p u.serial) test state.writes
          (λ x c. ap (λ i. not (i && is_in_flight x.stage)) (ap (λ n. is_one_of n ps) c.0 ∙ parts.1)) (b e)) (a.live p full parts.0);
    }

-- ---- a recovery

-- each event of a node that stays as it is, is kept
present-kept : (sys : System) (choice : Choice) (p : ℕ) → cut_of choice p ≡ Present → (h : List SerialEvent)
    → AllByRecursion (λ v. in_domain (bounds_of sys.flow p) (event_stamp v) ≡ true) (events_at sys.flow p (events h))
    → AllByRecursion (λ (v : SerialEvent). event_node sys.flow v.event ≡ p → kept_of sys.flow choice (event_node sys.flow v.event) (event_stamp v.event) ≡ true) h
present-kept sys choice p cut [] a = tt
present-kept sys choice p cut (v ∷ h) a =
    let vs = events_at sys.flow p (events h) in
    let D : Event → Type 0 = λ v. in_domain (bounds_of sys.flow p) (event_stamp v) ≡ true in
    let K : SerialEvent → Type 0 = λ v. event_node sys.flow v.event ≡ p → kept_of sys.flow choice (event_node sys.flow v.event) (event_stamp v.event) ≡ true in
    let both : (event_node sys.flow v.event ≡ p → D v.event) × AllByRecursion D vs =
    by (event_node sys.flow v.event == p) (eq-eqb (event_node sys.flow v.event) p) a in (
      λ e. ap (λ q. kept_of sys.flow choice q (event_stamp v.event)) e ∙ ap (λ c. set_of sys.flow p c (event_stamp v.event)) cut ∙ both.0 e,
      present-kept sys choice p cut h both.1,
    )
  where
    by : (b : Bool) → (event_node sys.flow v.event ≡ p → b ≡ true)
        → AllByRecursion (λ v. in_domain (bounds_of sys.flow p) (event_stamp v) ≡ true) (cond b (v.event ∷ events_at sys.flow p (events h)) (events_at sys.flow p (events h)))
        → (event_node sys.flow v.event ≡ p → in_domain (bounds_of sys.flow p) (event_stamp v.event) ≡ true)
        × AllByRecursion (λ v. in_domain (bounds_of sys.flow p) (event_stamp v) ≡ true) (events_at sys.flow p (events h))
    by true k a = (λ e. a.0, a.1)
    by false k a = (λ e. absurd (two_ways false (k e) refl), a)

-- what is kept of the writes has its events in what is kept of the history
written-kept : (sys : System) (low : List Front) (next : ℕ) (h : List SerialEvent) (keeps : SerialEvent → Bool) (p : ℕ) (cut : Cut)
    → (cut ≡ Present → AllByRecursion (λ (v : SerialEvent). event_node sys.flow v.event ≡ p → keeps v ≡ true) h) → (w : Written) (far : Stage)
    → is_kept_write cut w (filter keeps h) ≡ true → HasItsEvent sys.flow h p w → IsAskedWell sys low next h p w far → HasItsEvent sys.flow (filter keeps h) p w
written-kept sys low next h keeps p cut k (checkpoint f l) far i a b = tt
written-kept sys low next h keeps p Present k (logged_event s) far i a b = event-passed sys.flow p s keeps h (k refl) a
written-kept sys low next h keeps p (At f) k (logged_event s) far i a b =
    let N : SerialEvent → Type 0 = λ v. v.serial ≡ s → event_node sys.flow v.event ≡ p in
    any-event sys.flow p s (filter keeps h) i (each-passed N N keeps h (λ v e c. c) b.1)

-- what is written of a node is of an event of it, if it logs the event
abbrev IsOfNode : System → SerialEvent → ℕ → Written → Type 0
IsOfNode sys v n (checkpoint f l) = Unit {0}
IsOfNode sys v n (logged_event s) = v.serial ≡ s → event_node sys.flow v.event ≡ n

of_node-each : (sys : System) (low : List Front) (next : ℕ) (h : List SerialEvent) (n : ℕ) (w : Written) (far : Stage) → IsAskedWell sys low next h n w far
    → AllByRecursion (λ v. IsOfNode sys v n w) h
of_node-each sys low next h n (checkpoint f l) far a = each-one (λ (v : SerialEvent). Unit {0}) h (λ v. tt)
of_node-each sys low next h n (logged_event s) far a = a.1

logs-for : (sys : System) (v : SerialEvent) (p n : ℕ) (w : Written) (far : Stage) → event_node sys.flow v.event ≡ p → NamesEvent v.serial w far → IsOfNode sys v n w
    → (n ≡ p) × (w ≡ logged_event v.serial)
logs-for sys v p n (checkpoint f l) far e a b = absurd a
logs-for sys v p n (logged_event s) far e a b = (sym (b (sym a.0)) ∙ e, ap logged_event a.0)

kept-at : (cut : Cut) (f : Front) (w : Written) (s : ℕ) (h : List SerialEvent) → cut ≡ At f → w ≡ logged_event s → has_serial s h ≡ true → is_kept_write cut w h ≡ true
kept-at cut f w s h e i k = ap (λ c. is_kept_write c w h) e ∙ ap (λ x. is_kept_write (At f) x h) i ∙ k

recovered-logged : (sys : System) (state : Machine) (choice : Choice) → IsWellFormed sys.flow → CanRecoverAndRestore sys state → IsLogging sys state
    → IsLargest sys state (offers sys state) choice → (p : ℕ) → policy_of sys.flow p ≡ policy.Full
    → AreLogged sys p (kept_writes choice (filtered_history sys choice state.history) state.writes) (filtered_history sys choice state.history)
recovered-logged sys state choice w f a m p full =
    let l = full-declared sys.flow p full in
    by (cut_of choice p) refl (m.consistent.offered p l)
  where
    keeps : SerialEvent → Bool
    keeps v = kept_of sys.flow choice (event_node sys.flow v.event) (event_stamp v.event)

    h : List SerialEvent
    h = filtered_history sys choice state.history

    test : Write → Bool
    test x = is_kept_write (cut_of choice x.node) x.written (filtered_history sys choice state.history)

    by : (cut : Cut) → cut_of choice p ≡ cut → IsCandidate sys state (is_failed state) kept p cut
        → AreLogged sys p (kept_writes choice (filtered_history sys choice state.history) state.writes) (filtered_history sys choice state.history)
    by Present cut o =
        each-passed (λ (v : SerialEvent). event_node sys.flow v.event ≡ p → HoldsOfOne (LogsFor p v.serial) state.writes)
        (λ v. event_node sys.flow v.event ≡ p → HoldsOfOne (LogsFor p v.serial) (filter test state.writes)) keeps state.history
        (λ v k b e. some-passed (LogsFor p v.serial) test state.writes
        (λ x c. ap (λ n. is_kept_write (cut_of choice n) x.written h) c.0 ∙ ap (λ y. is_kept_write y x.written h) cut) (b e))
        (a.live p full o)
    by (At g) cut o =
        let way = full-restoring (kind_of sys.flow p) (policy_of sys.flow p) (w.policies p (full-declared sys.flow p full)) full in
        let restorable = subst (λ r. IsRestorable sys state kept p r g) way o.1 in
        let b = frontier_of (bounds_of sys.flow p) g in
        let Logs : SerialEvent → Type 0 = λ v. event_node sys.flow v.event ≡ p → b (event_stamp v.event) ≡ true → IsLogged v.serial state.writes in
        let Of : SerialEvent → Type 0 = λ v. AllByRecursion (λ (x : Write). IsOfNode sys v x.node x.written) state.writes in
        let Has : SerialEvent → Type 0 = λ v. has_serial v.serial h ≡ true in
        let W : Write → Type 0 = IsWriteAskedWell sys state.low state.next state.history in
        let each = each-each (λ (v : SerialEvent) (x : Write). IsOfNode sys v x.node x.written) state.history state.writes
        (each-weaker W (λ (x : Write). AllByRecursion (λ v. IsOfNode sys v x.node x.written) state.history) state.writes
        (λ x c. of_node-each sys state.low state.next state.history x.node x.written x.stage c) f.restore.asked) in
        let Both : SerialEvent → Type 0 = λ v. Logs v × Of v in
        let Inside : SerialEvent → Type 0 = λ v. (keeps v ≡ true) × Both v in
        each-weaker (λ v. Has v × Inside v) (λ v. event_node sys.flow v.event ≡ p → HoldsOfOne (LogsFor p v.serial) (filter test state.writes)) h
        (λ v k e.
        let at : b (event_stamp v.event) ≡ true = sym (ap (λ q. kept_of sys.flow choice q (event_stamp v.event)) e ∙ ap (λ c. set_of sys.flow p c (event_stamp v.event)) cut) ∙ k.1.0 in
        let one = some-both (LogsEvent v.serial) (λ (x : Write). IsOfNode sys v x.node x.written) state.writes (some-logged v.serial state.writes (k.1.1.0 e at)) k.1.1.1 in
        some-passed (LogsFor p v.serial) test state.writes
        (λ x c. kept-at (cut_of choice x.node) g x.written v.serial h (ap (cut_of choice) c.0 ∙ cut) c.1 k.0)
        (some-weaker (λ (x : Write). LogsEvent v.serial x × IsOfNode sys v x.node x.written) (LogsFor p v.serial) state.writes
        (λ x c. logs-for sys v p x.node x.written x.stage e c.0 c.1) one))
        (each-both Has Inside h (own-serials h)
        (each-passed Both Inside keeps state.history (λ v k c. (k, c))
        (each-both Logs Of state.history (all-logged sys p b state.writes state.history restorable.1) each)))

recovered-logging : (sys : System) (state : Machine) (choice : Choice) (settled : List Front) → IsWellFormedSystem sys → CanRecoverAndRestore sys state
    → IsLargest sys state (offers sys state) choice → IsLogging sys state → IsLogging sys (recovered_state sys state choice settled)
recovered-logging sys state choice settled w f m a =
    let keeps : SerialEvent → Bool = λ v. kept_of sys.flow choice (event_node sys.flow v.event) (event_stamp v.event) in
    let h = filtered_history sys choice state.history in
    let test : Write → Bool = λ x. is_kept_write (cut_of choice x.node) x.written h in
    let Has : Write → Type 0 = λ x. HasItsEvent sys.flow state.history x.node x.written in
    let W : Write → Type 0 = IsWriteAskedWell sys state.low state.next state.history in
    record {
      there = each-passed (λ x. Has x × W x) (λ x. HasItsEvent sys.flow h x.node x.written) test state.writes
          (λ x k b. written-kept sys state.low state.next state.history keeps x.node (cut_of choice x.node)
          (λ cut. present-kept sys choice x.node cut state.history
          (legal_events-in_domain sys (events state.history) w.flow (has_epochs sys w) f.recover.holds.legal x.node)) x.written x.stage k b.0 b.1)
          (each-both Has W state.writes a.there f.restore.asked);
      ascend = pairs-passed IsBefore test state.writes a.ascend;
      live = λ p full l. recovered-logged sys state choice w.flow f a m p full;
    }

-- ---- each state of a run

took-logging : (sys : System) → IsWellFormedSystem sys → (state : Machine) (step : Step) (next : Machine) (effect : Effect) → CanRecoverAndRestore sys state
    → LeadsTo sys state step next effect → IsLogging sys state → IsLogging sys next
took-logging sys w state (Inject s) next effect f t a = subst (IsLogging sys) (sym t.3) (event-logging sys state (Injected s t.0) f a)
took-logging sys w state (Deliver e at) next effect f t a = subst (IsLogging sys) (sym t.3) (event-logging sys state (Delivered e t.0) f a)
took-logging sys w state (Notify p at) next effect f t a = subst (IsLogging sys) (sym t.3) (event-logging sys state (Notified p t.0) f a)
took-logging sys w state ProgressStep next effect f t a =
    let settled = t.1 in
    let ps = filter (λ p. is_eager (policy_of sys.flow p) && not (same_front (front_of state.settled p) (front_of settled p))) (node_ids sys.flow) in
    subst (IsLogging sys) (sym t.3) (asked-logging sys state settled settled ps a)
took-logging sys w state (Checkpoint p) next effect f t a = subst (IsLogging sys) (sym t.3) (asked-logging sys state state.settled state.settled (p ∷ []) a)
took-logging sys w state Persist next effect f t a = subst (IsLogging sys) (sym t.2) (acknowledged-logging sys state t.0 t.1 a)
took-logging sys w state (Fail ps) next effect f t a = subst (IsLogging sys) (sym t.4) (failed-logging sys state ps a)
took-logging sys w state Recover next effect f t a = subst (IsLogging sys) (sym t.7) (recovered-logging sys state t.1 t.2 w f t.5 a)
took-logging sys w state Collect next effect f t a = subst (IsLogging sys) (sym t.3) (collected-logging sys state (map front_of_cut t.0.cuts) a)
took-logging sys w state (Ack o) next effect f t a = subst (IsLogging sys) (sym t.2) (record { there = a.there; ascend = a.ascend; live = a.live })

run-logging : (sys : System) → IsWellFormedSystem sys → (steps : List Step) (outcomes : List Outcome) (state last : Machine) → CanRecoverAndRestore sys state → IsLogging sys state
    → Run sys state steps outcomes last → IsLogging sys last
run-logging sys w [] [] state last f a r = subst (IsLogging sys) (sym r) a
run-logging sys w [] (o ∷ os) state last f a r = absurd r
run-logging sys w (s ∷ ss) [] state last f a r = absurd r
run-logging sys w (s ∷ ss) (did effect ∷ os) state last f a r =
    run-logging sys w ss os r.0 last (took-reached sys w state s r.0 effect f r.1) (took-logging sys w state s r.0 effect f r.1 a) r.2
run-logging sys w (s ∷ ss) (idle ∷ os) state last f a r =
    run-logging sys w ss os r.0 last (subst (CanRecoverAndRestore sys) (sym r.1.1) f) (subst (IsLogging sys) (sym r.1.1) a) r.2

all-logging : (sys : System) → IsWellFormedSystem sys → (steps : List Step) (outcomes : List Outcome) (last : Machine) → Run sys (first_state sys) steps outcomes last
    → IsLogging sys last
all-logging sys w steps outcomes last r =
    run-logging sys w steps outcomes (first_state sys) last (first-reached sys w) (record { there = tt; ascend = tt; live = λ p full l. tt }) r

-- ---- the laws

serials-above : (n s : ℕ) (xs : List Write) → AllByRecursion (λ (y : Write). IsBefore n (logged_event s) y.node y.written) xs → AllByRecursion (λ m. s < m) (logged_serials xs)
serials-above n s [] a = tt
serials-above n s (x ∷ xs) a =
    each-append (λ m. s < m) (serial_of x.written) (logged_serials xs) (by x.node x.written a.0) (serials-above n s xs a.1)
  where
    by : (q : ℕ) (w : Written) → IsBefore n (logged_event s) q w → AllByRecursion (λ m. s < m) (serial_of w)
    by q (checkpoint f l) b = tt
    by q (logged_event r) b = (b, tt)

serials-increase : (xs : List Write) → ArePairs IsBefore xs → AreIncreasing (logged_serials xs)
serials-increase [] a = tt
serials-increase (x ∷ xs) a = by x.node x.written a.0 (serials-increase xs a.1)
  where
    by : (n : ℕ) (w : Written) → AllByRecursion (λ (y : Write). IsBefore n w y.node y.written) xs → AreIncreasing (logged_serials xs)
        → AreIncreasing (serial_of w ++ logged_serials xs)
    by n (checkpoint f l) b rest = rest
    by n (logged_event s) b rest = (serials-above n s xs b, rest)

below-latest : (n : ℕ) (h : List SerialEvent) → AreSerialsBelow n h → AreLatestFirst h
below-latest n [] a = tt
below-latest n (v ∷ h) a = (serials-each v.serial v.serial h (at_most-refl v.serial) a.1, below-latest v.serial h a.1)

pub logged-in_order : LoggedEventsAreInOrder
logged-in_order sys w steps outcomes last r =
    let a = all-logging sys w steps outcomes last r in
    record {
      there = a.there;
      asked_in_order = serials-increase last.writes a.ascend;
      latest_first = below-latest last.next last.history (reached-all sys w steps outcomes last r).restore.serials;
    }

pub live-logged : LiveNodesLogEachEvent
live-logged sys w steps outcomes last r p full l =
    let a = all-logging sys w steps outcomes last r in
    let apart = (reached-all sys w steps outcomes last r).restore.apart in
    each-weaker (λ (v : SerialEvent). event_node sys.flow v.event ≡ p → HoldsOfOne (LogsFor p v.serial) last.writes)
    (λ v. event_node sys.flow v.event ≡ p → IsLoggedFor p v.serial last.writes) last.history
    (λ v k e. only-one (LogsSerial v.serial) (λ (x : Write). x.node ≡ p)
    (λ x y q b c. apart-events v.serial x.node x.written y.node y.written q b c) last.writes apart
    (some-weaker (LogsFor p v.serial) (λ (x : Write). LogsSerial v.serial x × (x.node ≡ p)) last.writes (λ x b. (b.1, b.0)) (k e))) (a.live p full l)
