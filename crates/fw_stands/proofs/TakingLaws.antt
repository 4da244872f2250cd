-- Which step is taken by itself, and which steps are idle by what is kept.
use Rattle.std.proofs.Common.{◌≡◌, ℕ, zero, suc, ◌<◌, ◌≤◌, Bool, true, false, cond, not, nat_le, ◌&&◌, ◌==◌, List, [], ◌∷◌, ◌++◌, length, map, Option, Some, None, slice_get, refl, sym, ap, ◌∙◌, inl, inr, arith, ◌≢◌}
use Rattle.std.proofs.lemmas.Bool.{cases_Bool, cases_lt, cond-true, and_from, eqb-true, le-leb, not_from_false}
use Rattle.std.specs.List.{enumerate_from, range_with_len, list_any}
use Rattle.std.specs.Map.{lookup}
use Rattle.fw_time.specs.Stamp.{in_domain, Stamp}
use Rattle.fw_time.specs.declared.stamp.Bounds.{Bounds}
use Rattle.fw_frontier.specs.Front.{inside}
use Rattle.fw_flow.specs.declared.step.Step.{Step}
use Rattle.fw_flow.specs.declared.step.Step.TheVariants.{Inject, Progress as ProgressStep, Persist, Ack, Notify, Deliver}
use Rattle.fw_flow.specs.Dataflow.{System, kind_of, receiver, batches_of, bounds_of, greatest_number, is_input_kind}
use Rattle.fw_flow.specs.WellFormed.{IsWellFormedSystem}
use Rattle.fw_flow.specs.declared.event.Event.TheVariants.{Notify as Notified, Inject as Injected, Deliver as Delivered}
use Rattle.fw_flow.specs.declared.event.Message.{Message}
use Rattle.fw_model.specs.Auto.{IsIdle, AreIdle, IsFirstEnabled, deliveries, notifications, acknowledgements, injections, auto_steps, TakesFirst}
use Rattle.fw_model.specs.History.{injected_count, pending_messages, is_owed_notice, IsNotifiable}
use Rattle.fw_model.specs.Machine.{Machine, events, front_of, is_failed, Write}
use Rattle.fw_model.specs.Reached.{IsReached}
use Rattle.fw_model.specs.Steps.{Effect, LeadsTo, did, idle, with_event, silent, is_in_flight, Outcome, StepsTo}
use Rattle.fw_model.specs.SortedMessages.{sorted_messages}
use Rattle.fw_model.proofs.AutoLaws.{idle-append}
use Rattle.fw_model.proofs.ChoiceLaws.{bounds-input}
use Rattle.fw_model.proofs.DomainLaws.{has_epochs}
use Rattle.fw_model.proofs.RestoringLaws.{batches-outside}
use Rattle.std.proofs.lemmas.Map.Entries.{lookup-filter-keys}
use Rattle.fw_lemmas.proofs.Bools.{two_ways}
use Rattle.fw_border.proofs.NumberLaws.{held_at}
use Rattle.fw_model.proofs.LowLaws.{input-is}
use Rattle.fw_border.specs.Sources.{SourceState, next_batch}
use Rattle.fw_progress.specs.Counts.{owed_of}
use Rattle.fw_progress.specs.Tally.{times_in, has_one}
use Rattle.fw_progress.specs.declared.counts.Counts.{Counts}
use Rattle.fw_progress.specs.History.{IsCountOf}
use Rattle.fw_stands.specs.FirstSteps.{delivery, notification, AreIdleBelow, NoneToDeliver, NoneToNotify, NoneToSettle, NoneToAcknowledge, IsLeastNotice, DoesNothing}
use Rattle.fw_stands.specs.Parts.{queued, IsSourceOf}
use Rattle.fw_stands.proofs.AtReached.{reached-legal}
use Rattle.fw_stands.proofs.FirstStepLaws.{first-behind, first-before, group-idle, group-first, none_flying-idle, none_pending-idle, first-is_next}
use Rattle.fw_stands.proofs.EventNextLaws.{queued-live}
use Rattle.fw_bag.specs.declared.rec.Rec.{Rec}

-- ---- a group of steps

-- the steps of all places below n are idle
all-idle : (sys : System) (state : Machine) (step : ℕ → Step) (n : ℕ) → AreIdleBelow sys state step n → AreIdle sys state (map step (range_with_len 0 n))
all-idle sys state step n k = group-idle sys state step 0 n (λ i l m. k i (omega arith))

-- the step at a place below n is the first of its group
one-first : (sys : System) (state : Machine) (step : ℕ → Step) (n j : ℕ) → j < n → AreIdleBelow sys state step j → (next : Machine) (effect : Effect)
    → LeadsTo sys state (step j) next effect → IsFirstEnabled sys state (map step (range_with_len 0 n)) (step j) next effect
one-first sys state step n j l k next effect t = group-first sys state step 0 n j (omega arith) (omega arith) (λ i m o. k i o) next effect t

-- ---- the steps in their order

edges-idle : (sys : System) (state : Machine) → NoneToDeliver sys state → AreIdle sys state (deliveries sys.flow)
edges-idle sys state n = all-idle sys state delivery (length sys.flow.edges) n.edges

nodes-idle : (sys : System) (state : Machine) → NoneToNotify sys state → AreIdle sys state (notifications sys.flow)
nodes-idle sys state n = all-idle sys state notification (length sys.flow.nodes) n.nodes

outputs-idle : (sys : System) (state : Machine) → NoneToAcknowledge sys state → AreIdle sys state (acknowledgements sys.flow)
outputs-idle sys state n = all-idle sys state Ack (length sys.flow.nodes) n.outputs

-- a step that is the first after the writes, after the deliveries, after the notifications, after progress, and after the
-- acknowledgements is the first of all, where those before it are idle
after-writes : (sys : System) (state : Machine) (step : Step) (next : Machine) (effect : Effect) → IsIdle sys state Persist
    → IsFirstEnabled sys state (deliveries sys.flow ++ (notifications sys.flow ++ (ProgressStep ∷ (acknowledgements sys.flow ++ injections sys.flow)))) step next effect
    → IsFirstEnabled sys state (auto_steps sys.flow) step next effect
after-writes sys state step next effect i f =
    first-behind sys state (Persist ∷ []) (deliveries sys.flow ++ (notifications sys.flow ++ (ProgressStep ∷ (acknowledgements sys.flow ++ injections sys.flow)))) step next effect (i, tt) f

after-edges : (sys : System) (state : Machine) (step : Step) (next : Machine) (effect : Effect) → NoneToDeliver sys state
    → IsFirstEnabled sys state (notifications sys.flow ++ (ProgressStep ∷ (acknowledgements sys.flow ++ injections sys.flow))) step next effect
    → IsFirstEnabled sys state (auto_steps sys.flow) step next effect
after-edges sys state step next effect n f =
    after-writes sys state step next effect n.writes
    (first-behind sys state (deliveries sys.flow) (notifications sys.flow ++ (ProgressStep ∷ (acknowledgements sys.flow ++ injections sys.flow))) step next effect (edges-idle sys state n) f)

after-nodes : (sys : System) (state : Machine) (step : Step) (next : Machine) (effect : Effect) → NoneToNotify sys state
    → IsFirstEnabled sys state (ProgressStep ∷ (acknowledgements sys.flow ++ injections sys.flow)) step next effect
    → IsFirstEnabled sys state (auto_steps sys.flow) step next effect
after-nodes sys state step next effect n f =
    after-edges sys state step next effect n.earlier
    (first-behind sys state (notifications sys.flow) (ProgressStep ∷ (acknowledgements sys.flow ++ injections sys.flow)) step next effect (nodes-idle sys state n) f)

after-progress : (sys : System) (state : Machine) (step : Step) (next : Machine) (effect : Effect) → NoneToSettle sys state
    → IsFirstEnabled sys state (acknowledgements sys.flow ++ injections sys.flow) step next effect → IsFirstEnabled sys state (auto_steps sys.flow) step next effect
after-progress sys state step next effect n f =
    after-nodes sys state step next effect n.earlier
    (first-behind sys state (ProgressStep ∷ []) (acknowledgements sys.flow ++ injections sys.flow) step next effect (n.progress, tt) f)

-- the first step is the acknowledgement of the oldest write in flight, where it is enabled
pub writes-first : (sys : System) (state next : Machine) (effect : Effect) → LeadsTo sys state Persist next effect
    → TakesFirst sys state (auto_steps sys.flow) next (did effect)
writes-first sys state next effect t =
    (Persist, record { earlier = []; later = deliveries sys.flow ++ (notifications sys.flow ++ (ProgressStep ∷ (acknowledgements sys.flow ++ injections sys.flow))); among = refl; none_earlier = tt; leads = t })

-- where no write can be acknowledged, the first step is the delivery on the first edge on which it is enabled
pub deliveries-next : (sys : System) (state : Machine) → IsIdle sys state Persist → (e : ℕ) → e < length sys.flow.edges
    → AreIdleBelow sys state delivery e → (next : Machine) (effect : Effect) → LeadsTo sys state (Deliver e None) next effect
    → TakesFirst sys state (auto_steps sys.flow) next (did effect)
deliveries-next sys state i e l k next effect t = (
  delivery e,
  after-writes sys state (delivery e) next effect i
      (first-before sys state (deliveries sys.flow) (notifications sys.flow ++ (ProgressStep ∷ (acknowledgements sys.flow ++ injections sys.flow))) (delivery e) next effect
      (one-first sys state delivery (length sys.flow.edges) e l k next effect t)),
)

-- where besides nothing can be delivered, it is the notification of the first node of which it is enabled
pub notifications-next : (sys : System) (state : Machine) → NoneToDeliver sys state → (p : ℕ) → p < length sys.flow.nodes
    → AreIdleBelow sys state notification p → (next : Machine) (effect : Effect) → LeadsTo sys state (Notify p None) next effect
    → TakesFirst sys state (auto_steps sys.flow) next (did effect)
notifications-next sys state n p l k next effect t = (
  notification p,
  after-edges sys state (notification p) next effect n
      (first-before sys state (notifications sys.flow) (ProgressStep ∷ (acknowledgements sys.flow ++ injections sys.flow)) (notification p) next effect
      (one-first sys state notification (length sys.flow.nodes) p l k next effect t)),
)

-- where besides no node can be notified, it is progress, if that is enabled
pub progress-next : (sys : System) (state : Machine) → NoneToNotify sys state → (next : Machine) (effect : Effect)
    → LeadsTo sys state ProgressStep next effect → TakesFirst sys state (auto_steps sys.flow) next (did effect)
progress-next sys state n next effect t = (
  ProgressStep,
  after-nodes sys state ProgressStep next effect n
      (record { earlier = []; later = acknowledgements sys.flow ++ injections sys.flow; among = refl; none_earlier = tt; leads = t }),
)

-- where besides no more can be settled, it is the acknowledgement of the first output that may acknowledge
pub acknowledgements-next : (sys : System) (state : Machine) → NoneToSettle sys state → (o : ℕ) → o < length sys.flow.nodes
    → AreIdleBelow sys state Ack o → (next : Machine) (effect : Effect) → LeadsTo sys state (Ack o) next effect
    → TakesFirst sys state (auto_steps sys.flow) next (did effect)
acknowledgements-next sys state n o l k next effect t = (
  Ack o,
  after-progress sys state (Ack o) next effect n
      (first-before sys state (acknowledgements sys.flow) (injections sys.flow) (Ack o) next effect (one-first sys state Ack (length sys.flow.nodes) o l k next effect t)),
)

-- where besides no output may acknowledge, it is the injection of the first input that has a batch
pub injections-last : (sys : System) (state : Machine) → NoneToAcknowledge sys state → (s : ℕ) → s < length sys.flow.nodes
    → AreIdleBelow sys state Inject s → (next : Machine) (effect : Effect) → LeadsTo sys state (Inject s) next effect
    → TakesFirst sys state (auto_steps sys.flow) next (did effect)
injections-last sys state n s l k next effect t = (
  Inject s,
  after-progress sys state (Inject s) next effect n.earlier
      (first-behind sys state (acknowledgements sys.flow) (injections sys.flow) (Inject s) next effect (outputs-idle sys state n)
      (one-first sys state Inject (length sys.flow.nodes) s l k next effect t)),
)

-- where besides no input has a batch, no step is taken
pub nothing-taken : (sys : System) (state : Machine) → NoneToAcknowledge sys state → AreIdleBelow sys state Inject (length sys.flow.nodes)
    → TakesFirst sys state (auto_steps sys.flow) state idle
nothing-taken sys state n k =
    let settle = n.earlier in
    let notify = settle.earlier in
    let deliver = notify.earlier in
    let last = idle-append sys state (acknowledgements sys.flow) (injections sys.flow) (outputs-idle sys state n) (all-idle sys state Inject (length sys.flow.nodes) k) in
    let later = idle-append sys state (notifications sys.flow) (ProgressStep ∷ (acknowledgements sys.flow ++ injections sys.flow)) (nodes-idle sys state notify) (settle.progress, last) in
    ((deliver.writes, idle-append sys state (deliveries sys.flow) (notifications sys.flow ++ (ProgressStep ∷ (acknowledgements sys.flow ++ injections sys.flow))) (edges-idle sys state deliver) later), refl)

-- a step that is enabled is taken, and shows something
pub enabled_steps-taken : (sys : System) (state next : Machine) (step : Step) (outcome : Outcome) → StepsTo sys state step next outcome
    → (other : Machine) (effect : Effect) → LeadsTo sys state step other effect
    → (shown : Effect) × (outcome ≡ did shown) × LeadsTo sys state step next shown
enabled_steps-taken sys state next step (did shown) t other effect l = (shown, refl, t)
enabled_steps-taken sys state next step idle t other effect l = absurd (t.0 other effect l)

-- ---- which are idle

-- where no write is in flight, none is acknowledged
pub none_in_flight-idle : (sys : System) (state : Machine) → list_any (λ (write : Write). is_in_flight write.stage) state.writes ≡ false
    → IsIdle sys state Persist
none_in_flight-idle = none_flying-idle

-- where nothing is queued on an edge, nothing is delivered, at whatever stamp
pub nothing_queued-idle : (sys : System) (state : Machine) (e : ℕ) → queued sys state e ≡ [] → (at : Option Stamp) → IsIdle sys state (Deliver e at)
nothing_queued-idle sys state e none at next effect t =
    none_pending-idle sys (events state.history) e t.0 (sym (queued-live sys state e t.2) ∙ none) t.1.enabled.is_pending

-- the first message that is queued on an edge is delivered
pub first_queued-delivered : (sys : System) → IsWellFormedSystem sys → (state : Machine) → IsReached sys state
    → (e : ℕ) (m : Message) (rest : List Message) → queued sys state e ≡ m ∷ rest
    → LeadsTo sys state (Deliver e None) (with_event sys state (Delivered e m)) silent
first_queued-delivered sys w state r e m rest i = elim (cases_Bool (is_failed state (receiver sys.flow e))) [
  | inl f ↦ absurd (nothing (sym (cond-true (is_failed state (receiver sys.flow e)) [] (sorted_messages (pending_messages sys (events state.history) e)) f) ∙ i))
  | inr f ↦ (m, first-is_next sys (events state.history) w.flow (reached-legal sys state w r) e m rest (sym (queued-live sys state e f) ∙ i), f, refl, refl)
]
  where
    nothing : [] ≡ m ∷ rest → ⊥
    nothing e = absurd (cc)

-- a failed node does nothing
pub failed_nodes-do_nothing : (sys : System) (state : Machine) (p : ℕ) → is_failed state p ≡ true → DoesNothing sys state p
failed_nodes-do_nothing sys state p f = record {
  notify = λ at next effect t. two_ways (is_failed state p) f t.2;
  ack = λ next effect t. two_ways (is_failed state p) f t.1.live;
  inject = λ next effect t. two_ways (is_failed state p) f t.2;
}

-- where a node is owed no notification, it is not notified
pub nothing_owed-idle : (sys : System) (state : Machine) (p : ℕ) → ((t : Stamp) → is_owed_notice sys (events state.history) p t ≡ false)
    → (at : Option Stamp) → IsIdle sys state (Notify p at)
nothing_owed-idle sys state p none at next effect t = two_ways (is_owed_notice sys (events state.history) p t.0) t.1.enabled.is_owed (none t.0)

-- where by the counts a node is owed none, it is not notified
pub nothing_counted-idle : (sys : System) (state : Machine) (counts : Counts) → IsCountOf sys (events state.history) counts
    → (p : ℕ) → p < length sys.flow.nodes → owed_of counts p ≡ [] → (at : Option Stamp) → IsIdle sys state (Notify p at)
unfolding times_in
nothing_counted-idle sys state counts k p l none at next effect t =
    two_ways (is_owed_notice sys (events state.history) p t.0) t.1.enabled.is_owed (sym (k.owed p l t.0) ∙ ap (has_one t.0) none)

-- where a node may be notified of no stamp, it is not notified
pub none_notifiable-idle : (sys : System) (state : Machine) (p : ℕ) → ((t : Stamp) → IsNotifiable sys (events state.history) p t → ⊥)
    → (at : Option Stamp) → IsIdle sys state (Notify p at)
none_notifiable-idle sys state p none at next effect t = none t.0 t.1.enabled

-- a node that is no input injects nothing
pub only_inputs-have : (sys : System) (state : Machine) (s : ℕ) → is_input_kind (kind_of sys.flow s) ≡ false → IsIdle sys state (Inject s)
only_inputs-have sys state s none next effect t = two_ways (is_input_kind (kind_of sys.flow s)) t.1.input none

-- ---- batches

batch-there : {X : Type 0} (xs : List X) (i : ℕ) → i < length xs → slice_get xs i ≡ None → ⊥
batch-there [] i l e = absurd (omega arith)
batch-there (x ∷ xs) zero l e = absurd (cc)
batch-there (x ∷ xs) (suc i) l e = batch-there xs i (omega arith) e

batch-past : {X : Type 0} (xs : List X) (i : ℕ) → length xs ≤ i → slice_get xs i ≡ None
batch-past [] i l = refl
batch-past (x ∷ xs) zero l = absurd (omega arith)
batch-past (x ∷ xs) (suc i) l = batch-past xs i (omega arith)

-- the next batch of an input is that of its next epoch, where that lies outside the low watermark
next-held : (sys : System) (state : Machine) (s : ℕ) (source : SourceState) → IsSourceOf sys state s source
    → next_batch source ≡ cond (not (inside (front_of state.low s) (source.injected ∷ []))) (slice_get (batches_of sys s) source.injected) None
next-held sys state s source b =
    let x = source.injected in
    let f = front_of state.low s in
    let outside = not (inside f (x ∷ [])) in
    ap (lookup (λ y. x == y)) b.held
    ∙ lookup-filter-keys (λ y. x == y) (λ y. not (inside f (y ∷ []))) outside (λ y e. ap (λ n. not (inside f (n ∷ []))) (sym (eqb-true x y e))) (enumerate_from 0 (batches_of sys s))
    ∙ ap (λ o. cond outside o None) (held_at x 0 x (batches_of sys s) (omega arith))

epoch-in : (sys : System) → IsWellFormedSystem sys → (s x : ℕ) → is_input_kind (kind_of sys.flow s) ≡ true → x < length (batches_of sys s)
    → in_domain (bounds_of sys.flow s) (x ∷ []) ≡ true
epoch-in sys w s x i l =
    let few = has_epochs sys w s in
    ap (λ (b : Bounds). in_domain b (x ∷ [])) (bounds-input sys.flow s (input-is (kind_of sys.flow s) i))
    ∙ and_from (nat_le x greatest_number) true (le-leb x greatest_number (omega (arith, l, few))) refl

-- a batch to come lies outside the low watermark
to_come-outside : (sys : System) → IsWellFormedSystem sys → (state : Machine) → IsReached sys state → (s x : ℕ) → is_input_kind (kind_of sys.flow s) ≡ true
    → x ≡ injected_count s (events state.history) → x < length (batches_of sys s) → inside (front_of state.low s) (x ∷ []) ≡ false
to_come-outside sys w state r s x i e l =
    right (in_domain (bounds_of sys.flow s) (x ∷ [])) (inside (front_of state.low s) (x ∷ [])) (epoch-in sys w s x i l)
    (batches-outside sys w r.0 r.1 state r.2 [] [] state refl s x i (omega (arith, e)) l)
  where
    right : (a b : Bool) → a ≡ true → (a && b) ≡ false → b ≡ false
    right true b d e = e
    right false b d e = absurd (cc)

-- an input that holds no next batch injects nothing
pub no_batch-idle : (sys : System) → IsWellFormedSystem sys → (state : Machine) → IsReached sys state → (s : ℕ) (source : SourceState)
    → IsSourceOf sys state s source → next_batch source ≡ None → IsIdle sys state (Inject s)
no_batch-idle sys w state r s source b none next effect t =
    let same : t.0 ≡ source.injected = t.1.next ∙ sym b.injected in
    let outside = to_come-outside sys w state r s t.0 t.1.input t.1.next t.1.there in
    batch-there (batches_of sys s) t.0 t.1.there
    (sym (cond-true (not (inside (front_of state.low s) (t.0 ∷ []))) (slice_get (batches_of sys s) t.0) None (not_from_false (inside (front_of state.low s) (t.0 ∷ [])) outside))
    ∙ ap (λ x. cond (not (inside (front_of state.low s) (x ∷ []))) (slice_get (batches_of sys s) x) None) same
    ∙ sym (next-held sys state s source b) ∙ none)

found-there : {X : Type 0} (c : Bool) (o : Option X) (x : X) → cond c o None ≡ Some x → o ≡ None → ⊥
found-there true o x e k = absurd (cc)
found-there false o x e k = absurd (cc)

-- an input that is not failed and holds a next batch injects it
pub next_batch-injected : (sys : System) → IsWellFormedSystem sys → (state : Machine) → IsReached sys state → (s : ℕ) (source : SourceState)
    → IsSourceOf sys state s source → is_input_kind (kind_of sys.flow s) ≡ true → is_failed state s ≡ false
    → (batch : List Rec) → next_batch source ≡ Some batch
    → LeadsTo sys state (Inject s) (with_event sys state (Injected s source.injected)) silent
next_batch-injected sys w state r s source b i f batch has = (
  source.injected,
  record {
    input = i;
    next = b.injected;
    there = elim (cases_lt source.injected (length (batches_of sys s))) [
      | inl l ↦ l
      | inr l ↦ absurd (found-there (not (inside (front_of state.low s) (source.injected ∷ []))) (slice_get (batches_of sys s) source.injected) batch
          (sym (next-held sys state s source b) ∙ has) (batch-past (batches_of sys s) source.injected l))
    ];
  },
  f,
  refl,
  refl,
)

-- a node that is not failed is notified of the least stamp of which it may be
pub least_notice-taken : (sys : System) (state : Machine) (p : ℕ) (t : Stamp) → is_failed state p ≡ false → IsLeastNotice sys state p t
    → LeadsTo sys state (Notify p None) (with_event sys state (Notified p t)) silent
least_notice-taken sys state p t f k = (t, record { enabled = k.may; asked = tt; least = λ other e a. k.least other e }, f, refl, refl)

-- ---- where a step can be enabled at all

nothing-or : {A : Type 0} (xs : List A) → ((xs ≡ [] → ⊥) → ⊥) → xs ≡ []
nothing-or [] k = refl
nothing-or (x ∷ xs) k = absurd (k (λ e. absurd (cc)))

none-or : {A : Type 0} (o : Option A) → ((o ≡ None → ⊥) → ⊥) → o ≡ None
none-or None k = refl
none-or (Some x) k = absurd (k (λ e. absurd (cc)))

-- on an edge something is delivered only where its receiver is not failed and something is queued
pub delivers-only : (sys : System) (state : Machine) (e : ℕ)
    → (is_failed state (receiver sys.flow e) ≡ false → queued sys state e ≢ [] → ⊥) → (at : Option Stamp) → IsIdle sys state (Deliver e at)
delivers-only sys state e k at next effect t =
    nothing_queued-idle sys state e (nothing-or (queued sys state e) (k t.2)) at next effect t

-- a node is notified only where it is not failed and by the counts is owed a notification
pub notifies-only : (sys : System) (state : Machine) (counts : Counts) → IsCountOf sys (events state.history) counts
    → (p : ℕ) → p < length sys.flow.nodes → (is_failed state p ≡ false → owed_of counts p ≢ [] → ⊥)
    → (at : Option Stamp) → IsIdle sys state (Notify p at)
notifies-only sys state counts c p l k at next effect t =
    nothing_counted-idle sys state counts c p l (nothing-or (owed_of counts p) (k t.2)) at next effect t

-- a node injects only where it is an input, is not failed and holds a next batch
pub injects-only : (sys : System) → IsWellFormedSystem sys → (state : Machine) → IsReached sys state → (s : ℕ) (source : SourceState)
    → (is_input_kind (kind_of sys.flow s) ≡ true → IsSourceOf sys state s source)
    → (is_input_kind (kind_of sys.flow s) ≡ true → is_failed state s ≡ false → next_batch source ≢ None → ⊥) → IsIdle sys state (Inject s)
injects-only sys w state r s source b k next effect t =
    no_batch-idle sys w state r s source (b t.1.input) (none-or (next_batch source) (k t.1.input t.2)) next effect t
