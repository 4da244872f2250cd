-- The first step that is enabled is the one that the engine takes.
use Rattle.std.proofs.Common.{◌≡◌, ◌≢◌, ℕ, ◌<◌, true, false, List, [], ◌∷◌, length, slice_index_or, Result, Ok, Err, IsErrOf, Option, Some, None, refl, sym, ap, subst, ◌∙◌, arith}
use Rattle.std.specs.Result.{IsErrAnd}
use Rattle.fw_time.specs.Stamp.{Stamp}
use Rattle.fw_bag.specs.declared.rec.Rec.{Rec}
use Rattle.fw_flow.specs.declared.event.Event.TheVariants.{Notify as Notified}
use Rattle.fw_flow.specs.declared.event.Message.{Message}
use Rattle.fw_flow.specs.declared.kind.Policy.TheVariants as policy
use Rattle.fw_flow.specs.declared.step.Step.{Step}
use Rattle.fw_flow.specs.declared.step.Step.TheVariants.{Inject, Deliver, Notify, Progress, Ack}
use Rattle.fw_flow.specs.Dataflow.{Dataflow, System, kind_of, policy_of, receiver, is_input_kind}
use Rattle.fw_model.specs.Auto.{auto_steps, IsIdle, TakesFirst}
use Rattle.fw_model.specs.Machine.{Machine, events, is_failed}
use Rattle.fw_model.specs.Steps.{Effect, silent, did, LeadsTo, with_event}
use Rattle.fw_keep.specs.Stored.{Records}
use Rattle.fw_border.specs.Outputs.{AreByNumber}
use Rattle.fw_border.specs.Sources.{next_batch}
use Rattle.fw_stands.specs.FirstSteps.{delivery, notification, AreIdleBelow, NoneToAcknowledge, NoneToDeliver, NoneToNotify, NoneToSettle}
use Rattle.fw_stands.specs.Parts.{queued}
use Rattle.fw_stands.proofs.TakingLaws.{acknowledgements-next, deliveries-next, delivers-only, first_queued-delivered, injections-last, injects-only, next_batch-injected, nothing-taken, nothing_counted-idle, notifications-next}
use Rattle.fw_running.specs.declared.fault.EngineFault.{EngineFault}
use Rattle.fw_running.specs.declared.fault.EngineFault.TheVariants as fault
use Rattle.fw_running.specs.declared.running.Running.{Running}
use Rattle.fw_running.specs.declared.stepped.Effect.{Effect as Shown}
use Rattle.fw_running.specs.declared.stepped.Effect.TheVariants.{Quiet}
use Rattle.fw_running.specs.declared.stepped.Stepped.{Stepped}
use Rattle.fw_running.specs.declared.stepped.Stepped.TheVariants.{Did, Idle}
use Rattle.fw_running.proofs.SameStateLaws.{down-failed, same-stands}
use Rattle.fw_running.specs.Kept.{output_of, source_of}
use Rattle.fw_running.specs.Places.{IsFirstWhere}
use Rattle.fw_running.specs.Ready.{CanAcknowledge, CanDeliver, CanInject, IsOwing}
use Rattle.fw_running.specs.ReadyState.{ReadyState}
use Rattle.fw_running.specs.Stands.{Stands}
use Rattle.fw_running.specs.Steps.{AnswersFirst, FirstMayCall, HasEager, IsUndamaged, TakesStep, Trusts, effect_of}
use Rattle.fw_events.specs.Noticing.{AnswersNotice, TakesNotice}
use Rattle.fw_engine.specs.Searching.{with_ready, HasNoNotice, HasNotice, IsFirstNotified, IsSearched, NoneToPersist, InjectsFirst, TakesFirstAfter}
use Rattle.fw_engine.proofs.AckLaws.{acknowledges, idle-acknowledges}
use Rattle.fw_engine.proofs.FirstCallLaws.{delivery-calls, notification-calls, progress-calls}
use Rattle.fw_engine.proofs.FirstStepLaws.{earlier_answers, first_answers, ready_stands}

-- ---- any step

-- the step is trusted, whatever was put
abbrev pub IsTrusted : Step → Type 0
IsTrusted step = (sys : System) (state : Machine) (records : Option Records) → Trusts sys state step records

-- where nothing earlier is enabled, the step is the first
abbrev pub ComesNext : (System → Machine → Type 0) → Step → Type 0
ComesNext Earlier step = (sys : System) (state next : Machine) (effect : Effect) → Earlier sys state → LeadsTo sys state step next effect
    → TakesFirst sys state (auto_steps sys.flow) next (did effect)

-- where the step is enabled, something comes before the injections
abbrev pub ComesEarlier : Step → Type 0
ComesEarlier step = (sys : System) (state next : Machine) (effect : Effect) → LeadsTo sys state step next effect → NoneToAcknowledge sys state → ⊥

-- what a step shows is what the first one shows
pub did-first : (Earlier : System → Machine → Type 0) (step : Step) (old new : Running) (before after : Option Records) (shown : Shown)
    → ComesNext Earlier step → ComesEarlier step → IsTrusted step → TakesStep old before step (Ok (Did shown)) new after
    → TakesFirstAfter Earlier old before (Ok (Did shown)) new after
did-first Earlier step old new before after shown order comes trusted t = λ sys state s earlier.
    let f = t sys state s (trusted sys state after) in (
      comes sys state f.next (effect_of shown) f.steps,
      record { next = f.next; takes = order sys state f.next (effect_of shown) earlier f.steps; stands = f.stands },
    )

-- where a step is idle, a later one is the first
pub idle-later : (Earlier Later : System → Machine → Type 0) (step : Step) (old mid new : Running) (before between after : Option Records)
    (result : Result Stepped EngineFault) → ((sys : System) (state : Machine) → Earlier sys state → IsIdle sys state step → Later sys state)
    → IsTrusted step → TakesStep old before step (Ok Idle) mid between → TakesFirstAfter Later mid between result new after
    → TakesFirstAfter Earlier old before result new after
idle-later Earlier Later step old mid new before between after result more trusted t later = λ sys state s earlier.
    let f = t sys state s (trusted sys state between) in
    later sys state (subst (λ (m : Machine). Stands sys mid between m) f.steps.1 f.stands) (more sys state earlier f.steps.0)

-- a fault of progress is one of the first step
pub settle-err : (old new : Running) (before after : Option Records) (e : EngineFault) → (IsErrOf {T = Stepped} (Err e) fault.StoreFault → HasEager old.flow)
    → IsUndamaged {T = Stepped} (Err e) → TakesStep old before Progress (Err e) new after → TakesFirstAfter NoneToNotify old before (Err e) new after
settle-err old new before after fault.StoreFault eager sound t = λ sys state s none.
    let left = t sys state s in
    (progress-calls sys state none left.0 (subst (λ (f : Dataflow). HasEager f) s.apart.flow (eager refl)), left.1)
settle-err old new before after (fault.Damaged id) eager sound t = λ sys state s none. sound
settle-err old new before after fault.NoMemory eager sound t = λ sys state s none. tt

-- what is handed on of a fault
pub from-err : (r : Result Stepped EngineFault) (e : EngineFault) (P : Result Stepped EngineFault → Type 0) → IsErrAnd r (λ x. x ≡ e) → P (Err e) → P r
from-err (Ok x) e P i p = absurd i
from-err (Err x) e P i p = subst (λ (y : EngineFault). P (Err y)) (sym i) p

-- ---- deliveries

-- with other places an engine stands for the same states
pub with_ready_stands : (sys : System) (state : Machine) (old new : Running) (records : Option Records) (ready : ReadyState) → new ≡ with_ready ready old
    → Stands sys old records state → Stands sys new records state
with_ready_stands sys state old new records ready is s =
    subst (λ (r : Running). Stands sys r records state) (sym is) (ready_stands sys state old records ready s)

can_deliver-stands : (sys : System) (running : Running) (records : Option Records) (state : Machine) → Stands sys running records state
    → (e : ℕ) → e < length sys.flow.edges → is_failed state (receiver sys.flow e) ≡ false → queued sys state e ≢ [] → CanDeliver running e
can_deliver-stands sys running records state s e l live some = record {
  there = subst (λ (flow : Dataflow). e < length flow.edges) (sym s.apart.flow) l;
  live = ap (λ (flow : Dataflow). slice_index_or running.failed.items (receiver flow e) false) s.apart.flow
      ∙ down-failed sys running records state s (receiver sys.flow e) ∙ live;
  some = λ none. some (sym (s.apart.queues e l) ∙ none);
}

-- an edge on which nothing can be delivered is idle
no_delivery : (sys : System) (running : Running) (records : Option Records) (state : Machine) → Stands sys running records state
    → (e : ℕ) → e < length sys.flow.edges → (CanDeliver running e → ⊥) → IsIdle sys state (delivery e)
no_delivery sys running records state s e l none =
    delivers-only sys state e (λ live some. none (can_deliver-stands sys running records state s e l live some)) None

delivered : (sys : System) (running : Running) (records : Option Records) (state : Machine) → Stands sys running records state
    → (e : ℕ) → e < length sys.flow.edges → (ms : List Message) → queued sys state e ≡ ms → ms ≢ []
    → (next : Machine) × (effect : Effect) × LeadsTo sys state (Deliver e None) next effect
delivered sys running records state s e l [] is some = absurd (some refl)
delivered sys running records state s e l (m ∷ ms) is some =
    (_, silent, first_queued-delivered sys s.apart.well_formed state s.apart.reached e m ms is)

pub deliver-first : (old mid : Running) (ready : ReadyState) (new : Running) (before after : Option Records) (e : ℕ) (result : Result Stepped EngineFault)
    → mid ≡ with_ready ready old → IsFirstWhere (CanDeliver old) (Some e) → IsUndamaged result
    → (IsErrOf result fault.StoreFault → policy_of mid.flow (receiver mid.flow e) ≡ policy.Full) → TakesStep mid before (Deliver e None) result new after
    → TakesFirstAfter NoneToPersist old before result new after
deliver-first old mid ready new before after e result is first sound full t = λ sys state s none.
    let can = first.0 in
    let l : e < length sys.flow.edges = subst (λ (flow : Dataflow). e < length flow.edges) s.apart.flow can.there in
    let d = delivered sys old before state s e l (queued sys state e) refl (λ nothing. can.some (s.apart.queues e l ∙ nothing)) in
    let below : AreIdleBelow sys state delivery e = λ i k. no_delivery sys old before state s i (omega (arith, k, l)) (first.1 i k) in
    earlier_answers sys state d.0 (Deliver e None) d.1 result new after d.2
    (λ next shown leads. deliveries-next sys state none e l below next shown leads)
    (λ all. all.earlier.earlier.earlier.edges e l d.0 d.1 d.2) tt (λ P left. left.1) sound
    (λ failed. delivery-calls sys state none e l below d.0 d.1 d.2
    (subst (λ (flow : Dataflow). policy_of flow (receiver flow e) ≡ policy.Full) (ap (λ (r : Running). r.flow) is ∙ s.apart.flow) (full failed)))
    (t sys state (with_ready_stands sys state old mid before ready is s))

pub deliver-later : (old mid : Running) (ready : ReadyState) (new : Running) (before after : Option Records) (result : Result Stepped EngineFault)
    → mid ≡ with_ready ready old → IsFirstWhere (CanDeliver old) None → TakesFirstAfter NoneToDeliver mid before result new after
    → TakesFirstAfter NoneToPersist old before result new after
deliver-later old mid ready new before after result is first later = λ sys state s none.
    later sys state (with_ready_stands sys state old mid before ready is s)
    (record { writes = none; edges = λ i k. no_delivery sys old before state s i k (first i) })

-- ---- notifications

-- a search leaves what an engine stands for
pub searched_stands : (sys : System) (state : Machine) (old new : Running) (records : Option Records) → IsSearched old new → Stands sys old records state
    → Stands sys new records state
searched_stands sys state old new records found s = subst (λ (r : Running). Stands sys r records state) (sym found.others)
    (same-stands sys old old.parts.keep new.progress (record old.ready { growing = new.ready.growing; owing = new.ready.owing }) records records state s
    (found.settled ∙ s.apart.settled) (found.stands sys (events state.history) (sym s.apart.flow) s.apart.progress) s.apart.entries s.apart.bases s.apart.stored)

-- a node that may not be notified is idle
no_notification : (sys : System) (running : Running) (records : Option Records) (state : Machine) → Stands sys running records state
    → (p : ℕ) → p < length sys.flow.nodes → HasNoNotice running p → IsIdle sys state (notification p)
no_notification sys running records state s p l none next effect leads =
    let owing : IsOwing running p = record {
      there = subst (λ (flow : Dataflow). p < length flow.nodes) (sym s.apart.flow) l;
      live = down-failed sys running records state s p ∙ leads.2;
      some = λ nothing. nothing_counted-idle sys state running.progress.counts s.apart.progress.counts p l nothing None next effect leads;
    } in
    none owing sys (events state.history) (sym s.apart.flow) s.apart.progress leads.0 leads.1

notified : (sys : System) (running : Running) (records : Option Records) (state : Machine) → Stands sys running records state
    → (p : ℕ) (t : Stamp) → HasNotice running p t → LeadsTo sys state (Notify p None) (with_event sys state (Notified p t)) silent
notified sys running records state s p t n =
    (t, n.found sys (events state.history) (sym s.apart.flow) s.apart.progress, sym (down-failed sys running records state s p) ∙ n.owing.live, refl, refl)

-- the answer to a notification is that of the first step
notice-answers : (T : Type 0) (sys : System) (state : Machine) (p : ℕ) (t : Stamp) (e : EngineFault) (new : Running) (after : Option Records)
    → (IsErrOf {T = T} (Err e) fault.StoreFault → FirstMayCall sys state) → AnswersNotice {T = T} sys state p t (Err e) new after
    → AnswersFirst sys state (Err e) new after
notice-answers T sys state p t fault.StoreFault new after calls a = (calls refl, a)
notice-answers T sys state p t (fault.Damaged id) new after calls a = a
notice-answers T sys state p t fault.NoMemory new after calls a = a

pub notify-first : (T : Type 0) (old mid new : Running) (before after : Option Records) (p : ℕ) (t : Stamp) (x : T) → IsSearched old mid
    → HasNotice old p t → ((q : ℕ) → q < p → HasNoNotice old q) → TakesNotice {T = T} mid before p t (Ok x) new after
    → TakesFirstAfter NoneToDeliver old before (Ok (Did Quiet)) new after
unfolding notified
notify-first T old mid new before after p t x found n earlier taken = λ sys state s none.
    let leads = notified sys old before state s p t n in
    let l : p < length sys.flow.nodes = subst (λ (flow : Dataflow). p < length flow.nodes) s.apart.flow n.owing.there in
    let below : AreIdleBelow sys state notification p = λ i k. no_notification sys old before state s i (omega (arith, k, l)) (earlier i k) in (
      λ all. all.earlier.earlier.nodes p l (with_event sys state (Notified p t)) silent leads,
      record {
        next = with_event sys state (Notified p t);
        takes = notifications-next sys state none p l below (with_event sys state (Notified p t)) silent leads;
        stands = taken sys state (searched_stands sys state old mid before found s) leads.2 leads.1.enabled;
      },
    )

pub notify-err : (T : Type 0) (old mid new : Running) (before after : Option Records) (p : ℕ) (t : Stamp) (e : EngineFault) → IsSearched old mid
    → HasNotice old p t → ((q : ℕ) → q < p → HasNoNotice old q) → (IsErrOf {T = T} (Err e) fault.StoreFault → policy_of mid.flow p ≡ policy.Full)
    → TakesNotice {T = T} mid before p t (Err e) new after → TakesFirstAfter NoneToDeliver old before (Err e) new after
unfolding notified
notify-err T old mid new before after p t e found n earlier full taken = λ sys state s none.
    let leads = notified sys old before state s p t n in
    let l : p < length sys.flow.nodes = subst (λ (flow : Dataflow). p < length flow.nodes) s.apart.flow n.owing.there in
    let below : AreIdleBelow sys state notification p = λ i k. no_notification sys old before state s i (omega (arith, k, l)) (earlier i k) in
    notice-answers T sys state p t e new after
    (λ failed. notification-calls sys state none p l below (with_event sys state (Notified p t)) silent leads
    (subst (λ (flow : Dataflow). policy_of flow p ≡ policy.Full) (ap (λ (r : Running). r.flow) found.others ∙ s.apart.flow) (full failed)))
    (taken sys state (searched_stands sys state old mid before found s) leads.2 leads.1.enabled)

pub notify-later : (old mid new : Running) (before after : Option Records) (result : Result Stepped EngineFault) → IsSearched old mid
    → IsFirstNotified old None → TakesFirstAfter NoneToNotify mid before result new after → TakesFirstAfter NoneToDeliver old before result new after
notify-later old mid new before after result found first later = λ sys state s none.
    later sys state (searched_stands sys state old mid before found s)
    (record { earlier = none; nodes = λ i k. no_notification sys old before state s i k (first i) })

-- ---- acknowledgements

pub acknowledge-first : (old mid : Running) (ready : ReadyState) (new : Running) (records : Option Records) (o : ℕ) (result : Result Stepped EngineFault)
    → mid ≡ with_ready ready old → IsFirstWhere (CanAcknowledge old) (Some o) → AreByNumber (output_of old o).recs → IsUndamaged result
    → (IsErrOf result fault.StoreFault → ⊥) → TakesStep mid records (Ack o) result new records → TakesFirstAfter NoneToSettle old records result new records
acknowledge-first old mid ready new records o result is first numbered sound unfaulted t = λ sys state s none.
    let can = first.0 in
    let l : o < length sys.flow.nodes = subst (λ (flow : Dataflow). o < length flow.nodes) s.apart.flow can.there in
    let below : AreIdleBelow sys state Ack o = λ i k. idle-acknowledges sys state old records i s (first.1 i k) in
    let a = acknowledges sys state old records o s numbered can in
    earlier_answers sys state _ (Ack o) _ result new records a
    (λ next shown leads. acknowledgements-next sys state none o l below next shown leads)
    (λ all. all.outputs o l _ _ a) tt (λ P left. left.1) sound
    (λ failed. absurd (unfaulted failed))
    (t sys state (with_ready_stands sys state old mid records ready is s))

-- where no output acknowledges, nothing comes before the injections
pub acknowledge-none : (old new : Running) (ready : ReadyState) (records : Option Records) → new ≡ with_ready ready old
    → IsFirstWhere (CanAcknowledge old) None → TakesFirstAfter NoneToSettle old records (Ok Idle) new records
acknowledge-none old new ready records is first = λ sys state s none. (
  record { earlier = none; outputs = λ i k. idle-acknowledges sys state old records i s (first i) },
  with_ready_stands sys state old new records ready is s,
)

-- ---- injections

-- an input that cannot inject is idle
pub no_injection : (sys : System) (running : Running) (records : Option Records) (state : Machine) → Stands sys running records state
    → (p : ℕ) → p < length sys.flow.nodes → (CanInject running p → ⊥) → IsIdle sys state (Inject p)
no_injection sys running records state s p l none =
    injects-only sys s.apart.well_formed state s.apart.reached p (source_of running p) (λ input. s.apart.sources p l)
    (λ input live some. none (record {
      there = subst (λ (flow : Dataflow). p < length flow.nodes) (sym s.apart.flow) l;
      live = down-failed sys running records state s p ∙ live;
      input = ap (λ (flow : Dataflow). is_input_kind (kind_of flow p)) s.apart.flow ∙ input;
      some = some;
    }))

pub injected : (sys : System) (running : Running) (records : Option Records) (state : Machine) → Stands sys running records state
    → (p : ℕ) → p < length sys.flow.nodes → is_input_kind (kind_of sys.flow p) ≡ true → is_failed state p ≡ false
    → (batch : Option (List Rec)) → next_batch (source_of running p) ≡ batch → batch ≢ None
    → (next : Machine) × (effect : Effect) × LeadsTo sys state (Inject p) next effect
injected sys running records state s p l input live None is some = absurd (some refl)
injected sys running records state s p l input live (Some batch) is some =
    (_, silent, next_batch-injected sys s.apart.well_formed state s.apart.reached p (source_of running p) (s.apart.sources p l) input live batch is)

pub inject-first : (old mid : Running) (ready : ReadyState) (new : Running) (records : Option Records) (p : ℕ) (result : Result Stepped EngineFault)
    → mid ≡ with_ready ready old → IsFirstWhere (CanInject old) (Some p) → IsUndamaged result → (IsErrOf result fault.StoreFault → ⊥)
    → TakesStep mid records (Inject p) result new records
    → InjectsFirst old records result new records
inject-first old mid ready new records p result is first sound unfaulted t = λ sys state s none.
    let can = first.0 in
    let l : p < length sys.flow.nodes = subst (λ (flow : Dataflow). p < length flow.nodes) s.apart.flow can.there in
    let input : is_input_kind (kind_of sys.flow p) ≡ true = ap (λ (flow : Dataflow). is_input_kind (kind_of flow p)) (sym s.apart.flow) ∙ can.input in
    let live : is_failed state p ≡ false = sym (down-failed sys old records state s p) ∙ can.live in
    let d = injected sys old records state s p l input live (next_batch (source_of old p)) refl can.some in
    let below : AreIdleBelow sys state Inject p = λ i k. no_injection sys old records state s i (omega (arith, k, l)) (first.1 i k) in
    first_answers sys state d.0 (Inject p) d.1 result new records d.2
    (λ next shown leads. injections-last sys state none p l below next shown leads) tt (λ P left. left.1) sound
    (λ failed. absurd (unfaulted failed))
    (t sys state (with_ready_stands sys state old mid records ready is s))

pub nothing-first : (old new : Running) (ready : ReadyState) (records : Option Records) → new ≡ with_ready ready old → IsFirstWhere (CanInject old) None
    → InjectsFirst old records (Ok Idle) new records
nothing-first old new ready records is first = λ sys state s none. record {
  next = state;
  takes = nothing-taken sys state none (λ i k. no_injection sys old records state s i k (first i));
  stands = with_ready_stands sys state old new records ready is s;
}
