-- Of what a node is notified.
use Rattle.std.proofs.Common.{◌≡◌, ◌≢◌, ℕ, ◌<◌, Bool, true, false, not, ◌||◌, nat_lt, cond, List, [], ◌∷◌, length, Option, Some, None, Result, Err, unwrap_or, refl, sym, ap, subst, ◌∙◌, inl, inr}
use Rattle.std.specs.Prelude.{IsErrOf, IsTrue, ◌↔◌, is_some}
use Rattle.std.specs.List.{AllByRecursion}
use Rattle.std.specs.Map.{keys_of, lookup}
use Rattle.std.specs.BTreeMap.{is_at}
use Rattle.std.proofs.lemmas.Bool.{cases_Bool, false≢true}
use Rattle.fw_time.specs.Stamp.{Stamp, in_domain, stamp_cmp}
use Rattle.fw_time.proofs.StampLaws.{same-is}
use Rattle.fw_flow.specs.declared.event.Event.{Event}
use Rattle.fw_flow.specs.declared.kind.Policy.TheVariants as policy
use Rattle.fw_flow.specs.Dataflow.{System, Dataflow, bounds_of, kind_of, policy_of, is_notified_kind, is_output_kind}
use Rattle.fw_flow.specs.declared.event.Event.TheVariants.{Notify as Notified}
use Rattle.fw_flow.specs.declared.step.Step.TheVariants.{Notify}
use Rattle.fw_model.specs.History.{IsEnabled, IsNotifiable}
use Rattle.fw_model.specs.Steps.{IsNextNotice, LeadsTo, silent, did, idle, with_event}
use Rattle.fw_model.specs.Machine.{Machine, events, is_failed}
use Rattle.fw_model.proofs.NothingInsideLaws.{kind-declared}
use Rattle.fw_record.specs.declared.record.Event.TheVariants as logged
use Rattle.fw_keep.specs.Catalogue.{KeepState}
use Rattle.fw_keep.specs.Stored.{Records}
use Rattle.fw_progress.specs.Counts.{owed_of}
use Rattle.fw_progress.specs.History.{StandsForHistory}
use Rattle.fw_progress.specs.Notices.{IsFirstNotice}
use Rattle.fw_progress.specs.Progress.{Standing, IsOfFlow}
use Rattle.fw_progress.specs.Tally.{times_in, has_one}
use Rattle.fw_progress.proofs.TallyLaws.{is_eq-same}
use Rattle.fw_progress.proofs.NoticeLaws.{notice-asked}
use Rattle.fw_stands.proofs.EventTableLaws.{failed-idle, notices-can_be_taken}
use Rattle.fw_running.specs.declared.running.Running.{Running}
use Rattle.fw_running.specs.BroughtUp.{IsBroughtUp}
use Rattle.fw_running.specs.Kept.{table_of, is_down}
use Rattle.fw_running.specs.Logging.{ChangesKeep, IsAskRefused, LogsEvent}
use Rattle.fw_running.specs.Stands.{Stands}
use Rattle.fw_running.specs.declared.fault.EngineFault.{EngineFault}
use Rattle.fw_running.specs.declared.fault.EngineFault.TheVariants as fault
use Rattle.fw_running.specs.Steps.{Follows, Answers, IsUndamaged}
use Rattle.fw_running.proofs.NeedsLaws.{notification-asks}
use Rattle.fw_running.proofs.BroughtUpLaws.{brought_up_stands}
use Rattle.fw_running.proofs.SameStateLaws.{down-failed, idle-follows, unasked-stands}
use Rattle.fw_events.specs.AfterEvent.{TakesEvent}
use Rattle.fw_events.specs.Noticing.{IsNoticeFound, FindsNotice, AnswersNotice, TakesNotice}
use Rattle.fw_events.proofs.DeliverLaws.{taken-from}
use Rattle.fw_events.proofs.AfterEventLaws.{events_are_followed, logged_events_are_followed}

-- what holds of each listed stamp holds of one of which there is one
each-counted : (P : Stamp → Type 0) (es : List (Stamp × ℕ)) → AllByRecursion P (keys_of es) → (s : Stamp) → has_one s es ≡ true → P s
unfolding times_in
each-counted P [] a s k = absurd (cc)
each-counted P (e ∷ es) a s k = elim (cases_Bool (is_at (stamp_cmp s) e.0)) [
  | inl i ↦ subst P (sym (same-is s e.0 (sym (is_eq-same s e.0) ∙ i))) a.0
  | inr i ↦ each-counted P es a.1 s (sym (ap (λ b. nat_lt 0 (unwrap_or (cond b (Some e.1) (lookup (is_at (stamp_cmp s)) es)) 0)) i) ∙ k)
]

-- the first notice is the next one
first-found : (sys : System) (h : List Event) (p : ℕ) (found : Option Stamp) → IsFirstNotice sys h p found → IsNoticeFound sys h p None found
first-found sys h p None f = λ t n. f t n.enabled
first-found sys h p (Some t) f = f

-- so it is found
pub first_finds : (old mid : Running) (p : ℕ) (found : Option Stamp) → IsBroughtUp old mid
    → ((sys : System) (h : List Event) → sys.flow ≡ mid.flow → StandsForHistory sys h mid.progress → IsFirstNotice sys h p found)
    → FindsNotice old.flow old.progress p None found
first_finds old mid p found up first = λ sys h e s.
    first-found sys h p found (first sys h (e ∙ sym (ap (λ (r : Running). r.flow) up.others)) (up.fresh.complete sys h e s).0)

-- a node is notified at stamps of its domain alone
pub notifiable_in_domain : (sys : System) (h : List Event) (progress : Standing) → IsOfFlow sys.flow progress → StandsForHistory sys h progress
    → (p : ℕ) → p < length sys.flow.nodes → (t : Stamp) → IsNotifiable sys h p t → in_domain (bounds_of sys.flow p) t ≡ true
notifiable_in_domain sys h progress o s p l t n =
    each-counted (λ x. in_domain (bounds_of sys.flow p) x ≡ true) (owed_of progress.counts p) (o.counts.owed p l).of_domain t (s.counts.owed p l t ∙ n.is_owed)

-- of a stamp outside the domain none is found
pub none_outside : (old mid : Running) (p : ℕ) (t : Stamp) → IsBroughtUp old mid → p < length old.flow.nodes
    → in_domain (bounds_of mid.flow p) t ≡ false → FindsNotice old.flow old.progress p (Some t) None
none_outside old mid p t up l out = λ sys h e s x n.
    let of_flow : IsOfFlow sys.flow mid.progress = subst (λ f. IsOfFlow f mid.progress) (sym e) up.progress in
    let here = notifiable_in_domain sys h mid.progress of_flow (up.fresh.complete sys h e s).0 p (subst (λ f. p < length f.nodes) (sym e) l) x n.enabled in
    let same : bounds_of sys.flow p ≡ bounds_of mid.flow p = ap (λ f. bounds_of f p) (e ∙ sym (ap (λ (r : Running). r.flow) up.others)) in
    both (in_domain (bounds_of mid.flow p) t) (ap (λ b. in_domain b t) (sym same) ∙ ap (in_domain (bounds_of sys.flow p)) n.asked ∙ here) out
  where
    both : (b : Bool) → b ≡ true → b ≡ false → ⊥
    both b e f = absurd (cc (e, f))

-- the stamp that is asked for is found, where the node may be notified of it
pub asked_finds : (old mid : Running) (p : ℕ) (t : Stamp) → IsBroughtUp old mid → (can : Bool) → can ≡ true
    → ((sys : System) (h : List Event) → sys.flow ≡ mid.flow → StandsForHistory sys h mid.progress → IsTrue can ↔ IsNextNotice sys h p (Some t) t)
    → FindsNotice old.flow old.progress p (Some t) (Some t)
asked_finds old mid p t up can so next = λ sys h e s.
    (next sys h (e ∙ sym (ap (λ (r : Running). r.flow) up.others)) (up.fresh.complete sys h e s).0).0 so

-- and else none is
pub asked_finds_none : (old mid : Running) (p : ℕ) (t : Stamp) → IsBroughtUp old mid → (can : Bool) → can ≡ false
    → ((sys : System) (h : List Event) → sys.flow ≡ mid.flow → StandsForHistory sys h mid.progress → IsTrue can ↔ IsNextNotice sys h p (Some t) t)
    → FindsNotice old.flow old.progress p (Some t) None
asked_finds_none old mid p t up can not_so next = λ sys h e s x n.
    let at_t : IsNextNotice sys h p (Some t) t = subst (λ y. IsNextNotice sys h p (Some t) y) (sym n.asked) n in
    none can not_so ((next sys h (e ∙ sym (ap (λ (r : Running). r.flow) up.others)) (up.fresh.complete sys h e s).0).1 at_t)
  where
    none : (b : Bool) → b ≡ false → IsTrue b → ⊥
    none b e i = false≢true (sym e ∙ i)

-- ---- a state for which an engine stands

-- a node that has a kind that is notified is declared
pub notified_declared : (flow : Dataflow) (p : ℕ) → is_notified_kind (kind_of flow p) ≡ true → p < length flow.nodes
notified_declared flow p k = kind-declared flow p is_notified_kind k refl

-- a node that is failed is not notified
pub failed_idle : (sys : System) (running : Running) (records : Option Records) (state : Machine) (p : ℕ) (at : Option Stamp)
    → Stands sys running records state → is_down running p ≡ true → Follows sys state (Notify p at) idle running records
failed_idle sys running records state p at s k =
    idle-follows sys running records state (Notify p at) s
    ((failed-idle sys state p (sym (down-failed sys running records state s p) ∙ k)).2 at)

-- nor is one of another kind
pub other_kinds_idle : (sys : System) (running : Running) (records : Option Records) (state : Machine) (p : ℕ) (at : Option Stamp)
    → Stands sys running records state → is_notified_kind (kind_of running.flow p) ≡ false → Follows sys state (Notify p at) idle running records
other_kinds_idle sys running records state p at s k =
    idle-follows sys running records state (Notify p at) s (
      (λ other effect leads.
          let can = notices-can_be_taken sys state s.apart.well_formed s.apart.reached p leads.0 leads.1.enabled in
          false≢true (sym k ∙ ap (λ f. is_notified_kind (kind_of f p)) s.apart.flow ∙ can.notified)),
      refl,
    )

-- where none is found, none may come
pub none_notified : (sys : System) (old new : Running) (records : Option Records) (state : Machine) (p : ℕ) (at : Option Stamp)
    → Stands sys old records state → IsBroughtUp old new → FindsNotice old.flow old.progress p at None
    → Follows sys state (Notify p at) idle new records
none_notified sys old new records state p at s up none =
    idle-follows sys new records state (Notify p at) (brought_up_stands sys state old new records s up)
    ((λ other effect leads. none sys (events state.history) (sym s.apart.flow) s.apart.progress leads.0 leads.1), refl)

-- the one that is found may come next
pub found_enabled : (sys : System) (old : Running) (records : Option Records) (state : Machine) (p : ℕ) (at : Option Stamp) (t : Stamp)
    → Stands sys old records state → FindsNotice old.flow old.progress p at (Some t) → IsNextNotice sys (events state.history) p at t
found_enabled sys old records state p at t s found = found sys (events state.history) (sym s.apart.flow) s.apart.progress

-- a node that may be notified has a table
pub notified_has_table : (sys : System) (running : Running) (records : Option Records) (state : Machine) (p : ℕ) (t : Stamp)
    → Stands sys running records state → is_failed state p ≡ false → IsEnabled sys (events state.history) (Notified p t) → table_of running p ≢ None
notified_has_table sys running records state p t s live k none =
    let can = notices-can_be_taken sys state s.apart.well_formed s.apart.reached p t k in
    let there : is_some (table_of running p) ≡ true =
    (s.apart.tables p can.declared).there ∙ ap (λ b. not (b || (is_output_kind (kind_of sys.flow p) || is_failed state p))) can.no_input
    ∙ ap (λ b. not (b || is_failed state p)) can.no_output ∙ ap not live in
    false≢true (sym (ap is_some none) ∙ there)

-- the engine stands for the state with the notification, where it takes it and logs it, if its node logs each event
pub notice_stands : (sys : System) (state : Machine) (p : ℕ) (t : Stamp) (old new : Running) (before after : Option Records)
    → Stands sys old before state → is_failed state p ≡ false → IsEnabled sys (events state.history) (Notified p t)
    → TakesEvent (Notified p t) old new
    → LogsEvent old.flow p (logged.Notify t) old.parts.keep.entries new.parts.keep.entries before after
    → Stands sys new after (with_event sys state (Notified p t))
notice_stands sys state p t old new before after s live enabled taken logs =
    let v = Notified p t in
    let steps : LeadsTo sys state (Notify p (Some t)) (with_event sys state v) silent = (t, this_next sys (events state.history) p t enabled, live, refl, refl) in
    let logs_it = subst (λ f. LogsEvent f p (logged.Notify t) old.parts.keep.entries new.parts.keep.entries before after) s.apart.flow logs in
    events_are_followed sys state v old new before after (Notify p (Some t)) silent s enabled live steps taken
    (logged_events_are_followed sys state v old new before after (Notify p (Some t)) silent s enabled steps (logged.Notify t) refl logs_it)
  where
    this_next : (sys : System) (h : List Event) (p : ℕ) (t : Stamp) → IsNotifiable sys h p t → IsNextNotice sys h p (Some t) t
    this_next sys h p t n = notice-asked sys h p t n

-- the machine notifies of the one that is found
notice-leads : (sys : System) (state : Machine) (p : ℕ) (at : Option Stamp) (t : Stamp) (old : Running) (before : Option Records)
    → Stands sys old before state → is_down old p ≡ false → FindsNotice old.flow old.progress p at (Some t)
    → LeadsTo sys state (Notify p at) (with_event sys state (Notified p t)) silent
notice-leads sys state p at t old before s live found =
    (t, found_enabled sys old before state p at t s found, sym (down-failed sys old before state s p) ∙ live, refl, refl)

-- so the engine follows the machine
pub notice_follows : (sys : System) (state : Machine) (p : ℕ) (at : Option Stamp) (t : Stamp) (old up new : Running) (before after : Option Records)
    → Stands sys old before state → is_down old p ≡ false → FindsNotice old.flow old.progress p at (Some t)
    → Stands sys new after (with_event sys state (Notified p t))
    → Follows sys state (Notify p at) (did silent) new after
notice_follows sys state p at t old up new before after s live found stands = record {
  next = with_event sys state (Notified p t);
  steps = notice-leads sys state p at t old before s live found;
  stands = stands;
}

-- a fault of the store while the write of a notification is asked leaves the state
pub notice-leaves : (T : Type 0) (sys : System) (old new : Running) (before after : Option Records) (state : Machine) (p : ℕ) (t : Stamp) (e : EngineFault)
    → Stands sys old before state → ChangesKeep old new → IsAskRefused old.parts.keep new.parts.keep before after
    → IsUndamaged {T = T} (Err e) → AnswersNotice {T = T} sys state p t (Err e) new after
notice-leaves T sys old new before after state p t fault.StoreFault s c n u = unasked-stands sys old new before after state s c n
notice-leaves T sys old new before after state p t (fault.Damaged id) s c n u = absurd u
notice-leaves T sys old new before after state p t fault.NoMemory s c n u = tt

-- what a notification answers at a fault the step answers, where it is enabled
pub fault-answers : (T : Type 0) (sys : System) (state : Machine) (p : ℕ) (t : Stamp) (at : Option Stamp) (e : EngineFault) (old new : Running) (before after : Option Records)
    → Stands sys old before state → is_down old p ≡ false → FindsNotice old.flow old.progress p at (Some t)
    → (IsErrOf {T = T} (Err e) fault.StoreFault → policy_of old.flow p ≡ policy.Full)
    → AnswersNotice {T = T} sys state p t (Err e) new after → Answers sys state (Notify p at) (Err e) new after
fault-answers T sys state p t at fault.StoreFault old new before after s live found full a = (
  notification-asks sys state p at (subst (λ (flow : Dataflow). policy_of flow p ≡ policy.Full) s.apart.flow (full refl))
      (with_event sys state (Notified p t), silent, notice-leads sys state p at t old before s live found),
  a,
)
fault-answers T sys state p t at (fault.Damaged id) old new before after s live found full a = absurd a
fault-answers T sys state p t at fault.NoMemory old new before after s live found full a = tt

-- where the engine is asked of a stamp of which the node may be notified, after the kept frontiers are brought up
pub notice-taken_up : {T : Type 0} (sys : System) (state : Machine) (p : ℕ) (at : Option Stamp) (t : Stamp) (old up new : Running) (before after : Option Records)
    (result : Result T EngineFault) → Stands sys old before state → is_down old p ≡ false → IsBroughtUp old up
    → FindsNotice old.flow old.progress p at (Some t) → TakesNotice up before p t result new after → AnswersNotice sys state p t result new after
notice-taken_up sys state p at t old up new before after result s live brought found takes =
    takes sys state (brought_up_stands sys state old up before s brought) (sym (down-failed sys old before state s p) ∙ live)
    (found_enabled sys old before state p at t s found).enabled

-- a notification that is logged and taken
pub notice-done : (old mid new : Running) (before after : Option Records) (p : ℕ) (t : Stamp) → ChangesKeep old mid
    → LogsEvent old.flow p (logged.Notify t) old.parts.keep.entries mid.parts.keep.entries before after → new.parts.keep ≡ mid.parts.keep
    → (table_of mid p ≢ None → TakesEvent (Notified p t) mid new) → (sys : System) (state : Machine) → Stands sys old before state
    → is_failed state p ≡ false → IsEnabled sys (events state.history) (Notified p t) → Stands sys new after (with_event sys state (Notified p t))
notice-done old mid new before after p t c logs keep takes = λ sys state s live enabled.
    let some : table_of mid p ≢ None = λ none.
    notified_has_table sys old before state p t s live enabled (sym (ap (λ (r : Running). table_of r p) c) ∙ none) in
    notice_stands sys state p t old new before after s live enabled (taken-from (Notified p t) old mid new c (takes some))
    (subst (λ (k : KeepState). LogsEvent old.flow p (logged.Notify t) old.parts.keep.entries k.entries before after) (sym keep) logs)
