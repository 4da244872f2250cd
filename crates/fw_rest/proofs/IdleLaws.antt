-- Where `auto` has nothing to do, no event may come.
use Rattle.std.proofs.Common.{◌≡◌, ℕ, zero, suc, ◌+◌, ◌<◌, ◌≤◌, true, false, ◌&&◌, ◌==◌, List, [], ◌∷◌, ◌++◌, length, Some, None, refl, sym, ap, subst, ◌∙◌, inl, inr, arith}
use Rattle.std.specs.List.{AllByRecursion, range_with_len}
use Rattle.std.specs.Ordering.{is_gt}
use Rattle.std.proofs.lemmas.Bool.{cases_Bool, cases_lt, and_parts, or_cases}
use Rattle.std.proofs.lemmas.Cmp.{tied_itself}
use Rattle.fw_lemmas.proofs.Bools.{two_ways}
use Rattle.fw_lemmas.proofs.Each.{each-prefix, each-suffix, each_of-map}
use Rattle.fw_time.specs.Stamp.{Stamp, same, stamp_cmp}
use Rattle.fw_frontier.specs.Frontier.{Frontier}
use Rattle.fw_flow.specs.declared.event.Event.{Event}
use Rattle.fw_flow.specs.declared.event.Event.TheVariants.{Inject as Injected, Deliver as Delivered, Notify as Notified}
use Rattle.fw_flow.specs.declared.event.Message.{Message}
use Rattle.fw_flow.specs.declared.step.Step.{Step}
use Rattle.fw_flow.specs.declared.step.Step.TheVariants.{Inject, Deliver, Notify, Progress as ProgressStep, Persist, Ack}
use Rattle.fw_flow.specs.Dataflow.{System, Dataflow, kind_of, receiver, is_notified_kind, is_numbered, node_ids, node_frontier}
use Rattle.fw_flow.specs.Message.{is_message_among, message_cmp}
use Rattle.fw_flow.specs.WellFormed.{IsWellFormed}
use Rattle.fw_flow.proofs.MessageLaws.{message_total, among-each}
use Rattle.fw_model.specs.Auto.{edge_ids, deliveries, notifications, acknowledgements, injections, IsIdle}
use Rattle.fw_model.specs.History.{pending_messages, delivered_messages, was_delivered_to, is_owed_notice, IsComplete, IsDeliverable, IsNotifiable, IsEnabled}
use Rattle.fw_model.specs.Machine.{Machine, events, front_of, is_failed}
use Rattle.fw_model.specs.Steps.{silent, eager_writes, with_event}
use Rattle.fw_model.proofs.CmpLaws.{stamp_total, decided-stamp, find_least}
use Rattle.fw_model.proofs.Decisions.{Decided}
use Rattle.fw_model.proofs.EnabledLaws.{notify-decided}
use Rattle.fw_model.proofs.SettleLaws.{settled-grows}
use Rattle.fw_model.proofs.StampLaws.{same-is}
use Rattle.fw_rest.specs.Rest.{HasNothingToDo}
use Rattle.fw_rest.specs.LawsOfRest.{NothingToDoIsRest}
use Rattle.fw_rest.proofs.MostEventsLaws.{input-declared, edge-declared, notified-declared}

-- ---- each step that `auto` tries is idle

range-at : (P : ℕ → Type 0) (n a : ℕ) → AllByRecursion P (range_with_len a n) → (p : ℕ) → a ≤ p → p < a + n → P p
range-at P zero a all p l k = absurd (omega arith)
range-at P (suc n) a all p l k = elim (cases_lt a p) [
  | inl i ↦ range-at P n (a + 1) all.1 p (omega arith) (omega arith)
  | inr i ↦ let e : a ≡ p = omega arith in subst P e all.0
]

-- none of the steps of `auto` is enabled, one by one
pub record IsIdleAtEach (sys : System) (state : Machine) : Type 0 where
  pub persist : IsIdle sys state Persist
  pub delivers : (e : ℕ) → e < length sys.flow.edges → IsIdle sys state (Deliver e None)
  pub notifies : (p : ℕ) → p < length sys.flow.nodes → IsIdle sys state (Notify p None)
  pub progress : IsIdle sys state ProgressStep
  pub acks : (o : ℕ) → o < length sys.flow.nodes → IsIdle sys state (Ack o)
  pub injects : (s : ℕ) → s < length sys.flow.nodes → IsIdle sys state (Inject s)

pub idle-each : (sys : System) (state : Machine) → HasNothingToDo sys state → IsIdleAtEach sys state
idle-each sys state i =
    let flow = sys.flow in
    let P : Step → Type 0 = IsIdle sys state in
    let later = ProgressStep ∷ (acknowledgements flow ++ injections flow) in
    let a = each-suffix P (deliveries flow) (notifications flow ++ later) i.1 in
    let b = each-suffix P (notifications flow) later a in
    record {
      persist = i.0;
      delivers = λ e l. range-at (λ d. P (Deliver d None)) (length flow.edges) 0
          (each_of-map P (λ d. Deliver d None) (edge_ids flow) (each-prefix P (deliveries flow) (notifications flow ++ later) i.1)) e (omega arith) (omega arith);
      notifies = λ p l. range-at (λ q. P (Notify q None)) (length flow.nodes) 0
          (each_of-map P (λ q. Notify q None) (node_ids flow) (each-prefix P (notifications flow) later a)) p (omega arith) (omega arith);
      progress = b.0;
      acks = λ o l. range-at (λ q. P (Ack q)) (length flow.nodes) 0
          (each_of-map P Ack (node_ids flow) (each-prefix P (acknowledgements flow) (injections flow) b.1)) o (omega arith) (omega arith);
      injects = λ s l. range-at (λ q. P (Inject q)) (length flow.nodes) 0
          (each_of-map P Inject (node_ids flow) (each-suffix P (acknowledgements flow) (injections flow) b.1)) s (omega arith) (omega arith);
    }

-- ---- deliveries

deliverable : (sys : System) (h : List Event) (e : ℕ) (m : Message) → Decided (IsDeliverable sys h e m)
deliverable sys h e m = elim (cases_Bool (is_message_among m (pending_messages sys h e))) [
  | inr k ↦ inr (λ d. two_ways _ d.is_pending k)
  | inl k ↦ elim (cases_Bool (is_numbered sys.flow e)) [
    | inr n ↦ inl (record { is_pending = k; numbered = λ j. absurd (two_ways _ j n) })
    | inl n ↦ elim (decided-stamp m.at (length (delivered_messages h e) ∷ [])) [
      | inl q ↦ inl (record { is_pending = k; numbered = λ j. q })
      | inr q ↦ inr (λ d. q (d.numbered n))
    ]
  ]
]

none-delivered : (sys : System) (state : Machine) (e : ℕ) → is_failed state (receiver sys.flow e) ≡ false → IsIdle sys state (Deliver e None)
    → (m : Message) → IsDeliverable sys (events state.history) e m → ⊥
none-delivered sys state e live idle m k =
    let h = events state.history in
    let P : Message → Type 0 = IsDeliverable sys h e in
    elim (find_least message_total P (deliverable sys h e) (pending_messages sys h e)) [
      | inr none ↦ among-each (λ y. P y → ⊥) m (pending_messages sys h e) k.is_pending none k
      | inl w ↦
          let l = w.1 in
          idle (with_event sys state (Delivered e w.0)) silent (
            w.0,
            record {
              enabled = l.has;
              asked = tt;
              least = λ other i a. among-each (λ y. P y → is_gt (message_cmp w.0 y) ≡ false) other (pending_messages sys h e) i.is_pending l.least i;
            },
            live,
            refl,
            refl,
          )
    ]

-- ---- notifications

-- the stamps of the deliveries of a history
stamps_came : List Event → List Stamp
stamps_came [] = []
stamps_came (Injected s x ∷ h) = stamps_came h
stamps_came (Delivered e m ∷ h) = m.at ∷ stamps_came h
stamps_came (Notified p t ∷ h) = stamps_came h

came-each : (P : Stamp → Type 0) (flow : Dataflow) (p : ℕ) (t : Stamp) (h : List Event) → was_delivered_to flow p t h ≡ true
    → AllByRecursion P (stamps_came h) → P t
unfolding stamps_came
came-each P flow p t [] k a = absurd (cc)
came-each P flow p t (Injected s x ∷ h) k a = came-each P flow p t h k a
came-each P flow p t (Delivered e m ∷ h) k a = elim (or_cases (receiver flow e == p && same m.at t) (was_delivered_to flow p t h) k) [
  | inr i ↦ came-each P flow p t h i a.1
  | inl i ↦ subst P (same-is m.at t (and_parts (receiver flow e == p) (same m.at t) i).1) a.0
]
came-each P flow p t (Notified q s ∷ h) k a = came-each P flow p t h k a

owed-delivered : (sys : System) (h : List Event) (p : ℕ) (t : Stamp) → is_owed_notice sys h p t ≡ true → was_delivered_to sys.flow p t h ≡ true
owed-delivered sys h p t k =
    let a = and_parts (is_notified_kind (kind_of sys.flow p) && was_delivered_to sys.flow p t h) _ k in
    (and_parts (is_notified_kind (kind_of sys.flow p)) (was_delivered_to sys.flow p t h) a.0).1

-- whether a live node may be notified of a stamp is decided: it may, where the notification of this stamp is enabled
notifiable : (sys : System) (state : Machine) → IsWellFormed sys.flow → (p : ℕ) → is_failed state p ≡ false → (t : Stamp)
    → Decided (IsNotifiable sys (events state.history) p t)
notifiable sys state w p live t = elim (notify-decided sys state w p (Some t)) [
  | inl d ↦
      let k = d.2 in
      inl (subst (IsNotifiable sys (events state.history) p) (sym k.1.asked) k.1.enabled)
  | inr none ↦ inr (λ k. none (with_event sys state (Notified p t)) silent (
    t,
    record {
      enabled = k;
      asked = refl;
      least = λ other i a. sym (ap (λ u. is_gt (stamp_cmp t u)) a) ∙ ap is_gt (tied_itself stamp_total t);
    },
    live,
    refl,
    refl,
  ))
]

none-notified : (sys : System) (state : Machine) → IsWellFormed sys.flow → (p : ℕ) → is_failed state p ≡ false → IsIdle sys state (Notify p None)
    → (t : Stamp) → IsNotifiable sys (events state.history) p t → ⊥
none-notified sys state wf p live idle t k =
    let h = events state.history in
    let P : Stamp → Type 0 = IsNotifiable sys h p in
    elim (find_least stamp_total P (notifiable sys state wf p live) (stamps_came h)) [
      | inr none ↦ came-each (λ s. P s → ⊥) sys.flow p t h (owed-delivered sys h p t k.is_owed) none k
      | inl w ↦
          let l = w.1 in
          idle (with_event sys state (Notified p w.0)) silent (
            w.0,
            record {
              enabled = l.has;
              asked = tt;
              least = λ other i a. came-each (λ s. P s → is_gt (stamp_cmp w.0 s) ≡ false) sys.flow p other h (owed-delivered sys h p other i.is_owed) l.least i;
            },
            live,
            refl,
            refl,
          )
    ]

-- ---- the law

pub nothing_to_do-rest : NothingToDoIsRest
nothing_to_do-rest sys state w live idle v k =
    let i = idle-each sys state idle in
    by i v k
  where
    by : IsIdleAtEach sys state → (v : Event) → IsEnabled sys (events state.history) v → ⊥
    by i (Injected s x) k =
        let there = input-declared sys.flow s k.input in
        i.injects s there (with_event sys state (Injected s x)) silent (x, k, live s there, refl, refl)
    by i (Delivered e m) k =
        let there = edge-declared sys (events state.history) e m k in
        none-delivered sys state e (live (receiver sys.flow e) (w.receivers_declared e there)) (i.delivers e there) m k
    by i (Notified p t) k =
        let there = notified-declared sys (events state.history) p t k.is_owed in
        none-notified sys state w p (live p there) (i.notifies p there) t k

-- ---- what is complete is settled

-- where no more can be settled, each stamp that is complete at a live node is settled
pub idle-settled : (sys : System) (state : Machine) → IsIdle sys state ProgressStep → (done : ℕ → Frontier) → IsComplete sys (events state.history) done
    → (p : ℕ) → p < length sys.flow.nodes → is_failed state p ≡ false → (t : Stamp) → done p t ≡ true → node_frontier sys.flow p (front_of state.settled p) t ≡ true
idle-settled sys state none done c p there live t k = elim (cases_Bool (node_frontier sys.flow p (front_of state.settled p) t)) [
  | inl e ↦ e
  | inr e ↦
      let g = settled-grows sys state done c (record { node = p; at = t; declared = there; live = live; complete = k; unsettled = e }) in
      absurd (none (record state { settled = g.0; writes = state.writes ++ eager_writes sys state g.0 (node_ids sys.flow) }) silent (done, g.0, g.1, refl, refl))
]
