-- Writes in flight are those of declared nodes that are not failed.
use Rattle.std.proofs.Common.{◌≡◌, ℕ, zero, suc, ◌+◌, ◌<◌, ◌≤◌, Bool, true, false, not, ◌&&◌, ◌||◌, List, [], ◌∷◌, ◌++◌, length, map, filter, refl, sym, ap, ◌∙◌, subst, inl, inr, arith, slice_index_or, slice_set, None}
use Rattle.std.proofs.lemmas.Bool.{cases_Bool, cases_lt, and_parts, not-true, or_from}
use Rattle.std.proofs.lemmas.List.{get_or_past}
use Rattle.std.proofs.lemmas.List.FromFn.{get_or-map-range_with_len}
use Rattle.std.specs.List.{AllByRecursion, range_with_len}
use Rattle.fw_lemmas.proofs.Bools.{two_ways}
use Rattle.fw_lemmas.proofs.Each.{each-weaker, each-append, each-map, each-filter, each-replaced}
use Rattle.fw_lemmas.proofs.Lists.{none-mapped}
use Rattle.fw_frontier.specs.Front.{Front, same_front}
use Rattle.fw_frontier.proofs.SameLaws.{same_front-from}
use Rattle.fw_flow.specs.declared.kind.Policy.{Policy}
use Rattle.fw_flow.specs.declared.kind.Policy.TheVariants as policy
use Rattle.fw_flow.specs.declared.event.Event.{Event}
use Rattle.fw_flow.specs.declared.event.Event.TheVariants.{Inject as Injected, Deliver as Delivered, Notify as Notified}
use Rattle.fw_flow.specs.declared.node.Node.{Node}
use Rattle.fw_flow.specs.declared.step.Step.{Step}
use Rattle.fw_flow.specs.declared.step.Step.TheVariants.{Inject, Deliver, Notify, Progress as ProgressStep, Checkpoint, Persist, Fail, Recover, Collect, Ack}
use Rattle.fw_flow.specs.Dataflow.{System, Dataflow, policy_of, node_ids, idle_node, is_one_of}
use Rattle.fw_flow.specs.NodeFunction.{event_node}
use Rattle.fw_model.specs.Machine.{Machine, Write, logged_event, Stage, in_flight, acknowledged, collected, first_state, front_of, is_failed}
use Rattle.fw_model.specs.Steps.{Effect, Outcome, did, idle, LeadsTo, StepsTo, Run, write_of_event, with_event, checkpoint_of, is_eager, eager_writes, GrowsTo, is_asked_for_checkpoints, is_in_flight, without_lost, with_failed, is_kept_write, recovered_state, front_of_cut, after_collection, collected_writes, is_forgotten}
use Rattle.fw_model.specs.Choice.{cut_of}
use Rattle.fw_model.specs.Reached.{IsReached}

-- a write in flight is one of a declared node that is not failed
abbrev pub IsOfLive : System → Machine → Write → Type 0
IsOfLive sys state write = is_in_flight write.stage ≡ true → (write.node < length sys.flow.nodes) × (is_failed state write.node ≡ false)

-- the state in which these nodes are failed too, and their writes in flight are lost
abbrev pub with_lost : System → Machine → List ℕ → Machine
with_lost sys state ps = record state { failed = with_failed sys state ps; writes = without_lost ps state.writes }

-- then those are failed that were, and these
failures-more : (sys : System) (state : Machine) (ps : List ℕ) (p : ℕ) → p < length sys.flow.nodes
    → is_failed (with_lost sys state ps) p ≡ (is_failed state p || is_one_of p ps)
failures-more sys state ps p l =
    get_or-map-range_with_len (λ q. is_failed state q || is_one_of q ps) 0 (length sys.flow.nodes) p p false l (omega arith)

-- ---- declared nodes

-- a node whose policy passes a test that the policy none does not is declared
declared-by : (flow : Dataflow) (test : Policy → Bool) (p : ℕ) → test policy.None ≡ false → test (policy_of flow p) ≡ true → p < length flow.nodes
unfolding policy_of
declared-by flow test p none some = elim (cases_lt p (length flow.nodes)) [
  | inl l ↦ l
  | inr l ↦ absurd (two_ways (test (policy_of flow p)) some (ap (λ (n : Node). test n.policy) (get_or_past flow.nodes p idle_node l) ∙ none))
]

is_full : Policy → Bool
is_full policy.Full = true
is_full other = false

-- ---- writes that are asked

-- an event is logged by a write of a node whose policy is full
event-each : (P : Write → Type 0) (kind : Policy) (p serial : ℕ) → (kind ≡ policy.Full → P (record { node = p; written = logged_event serial; base = None; depth = 0; stage = in_flight }))
    → AllByRecursion P (write_of_event kind p serial)
event-each P policy.Full p serial k = (k refl, tt)
event-each P kind p serial k = tt

event-live : (sys : System) (state : Machine) (v : Event) → is_failed state (event_node sys.flow v) ≡ false → AllByRecursion (IsOfLive sys state) state.writes
    → AllByRecursion (IsOfLive sys (with_event sys state v)) (with_event sys state v).writes
unfolding is_full
event-live sys state v f a =
    let p = event_node sys.flow v in
    each-append (IsOfLive sys state) state.writes (write_of_event (policy_of sys.flow p) p state.next) a
    (event-each (IsOfLive sys state) (policy_of sys.flow p) p state.next (λ full i. (declared-by sys.flow is_full p refl (ap is_full full), f)))

-- each of the places below a number
pub range-each : (P : ℕ → Type 0) (a n : ℕ) → ((i : ℕ) → a ≤ i → i < a + n → P i) → AllByRecursion P (range_with_len a n)
range-each P a zero k = tt
range-each P a (suc n) k = (k a (omega arith) (omega arith), range-each P (a + 1) n (λ i l m. k i (omega arith) (omega arith)))

eager-live : (sys : System) (state : Machine) (done : ℕ → (List ℕ → Bool)) (settled : List Front) → GrowsTo sys state done settled
    → AllByRecursion (IsOfLive sys state) (eager_writes sys state settled (node_ids sys.flow))
eager-live sys state done settled g =
    let test : ℕ → Bool = λ p. is_eager (policy_of sys.flow p) && not (same_front (front_of state.settled p) (front_of settled p)) in
    each-map (IsOfLive sys state) (λ p. checkpoint_of state p (front_of settled p)) (filter test (node_ids sys.flow))
    (each-filter (λ p. IsOfLive sys state (checkpoint_of state p (front_of settled p))) test (node_ids sys.flow)
    (range-each (λ p. test p ≡ true → IsOfLive sys state (checkpoint_of state p (front_of settled p))) 0 (length sys.flow.nodes)
    (λ p low l passes i. (omega arith, live p l passes))))
  where
    live : (p : ℕ) → p < 0 + length sys.flow.nodes → (is_eager (policy_of sys.flow p) && not (same_front (front_of state.settled p) (front_of settled p))) ≡ true → is_failed state p ≡ false
    live p l passes = elim (cases_Bool (is_failed state p)) [
      | inl f ↦
          let a = and_parts (is_eager (policy_of sys.flow p)) (not (same_front (front_of state.settled p) (front_of settled p))) passes in
          absurd (two_ways (same_front (front_of state.settled p) (front_of settled p))
          (same_front-from (front_of state.settled p) (front_of settled p) (sym (g.failed p (omega arith) f)))
          (not-true (same_front (front_of state.settled p) (front_of settled p)) a.1))
      | inr f ↦ f
    ]

-- ---- steps

-- the same nodes are failed
same-failed : (sys : System) (state next : Machine) → next.failed ≡ state.failed → (writes : List Write) → AllByRecursion (IsOfLive sys state) writes
    → AllByRecursion (IsOfLive sys next) writes
same-failed sys state next e writes a =
    each-weaker (IsOfLive sys state) (IsOfLive sys next) writes
    (λ x k i. ((k i).0, ap (λ fs. slice_index_or fs x.node false) e ∙ (k i).1)) a

to-live : (sys : System) (state next : Machine) → (made : Machine) → next ≡ made → AllByRecursion (IsOfLive sys made) made.writes → AllByRecursion (IsOfLive sys next) next.writes
to-live sys state next made e a = subst (λ (m : Machine). AllByRecursion (IsOfLive sys m) m.writes) (sym e) a

still-flying : (below : Bool) (far : Stage) → is_in_flight (after_collection below far) ≡ true → is_in_flight far ≡ true
still-flying below in_flight i = i
still-flying true acknowledged i = absurd (cc)
still-flying false acknowledged i = absurd (cc)
still-flying below collected i = absurd (cc)

lost-parts : (a b : Bool) → not (a && b) ≡ true → b ≡ true → a ≡ false
lost-parts true true h k = absurd (cc)
lost-parts true false h k = absurd (cc)
lost-parts false b h k = refl

takes-live : (sys : System) (state : Machine) (step : Step) (next : Machine) (effect : Effect) → LeadsTo sys state step next effect
    → AllByRecursion (IsOfLive sys state) state.writes → AllByRecursion (IsOfLive sys next) next.writes
takes-live sys state (Inject s) next effect t a = to-live sys state next (with_event sys state (Injected s t.0)) t.3 (event-live sys state (Injected s t.0) t.2 a)
takes-live sys state (Deliver e at) next effect t a = to-live sys state next (with_event sys state (Delivered e t.0)) t.3 (event-live sys state (Delivered e t.0) t.2 a)
takes-live sys state (Notify p at) next effect t a = to-live sys state next (with_event sys state (Notified p t.0)) t.3 (event-live sys state (Notified p t.0) t.2 a)
takes-live sys state ProgressStep next effect t a =
    let more = eager_writes sys state t.1 (node_ids sys.flow) in
    to-live sys state next (record state { settled = t.1; writes = state.writes ++ more }) t.3
    (same-failed sys state (record state { settled = t.1; writes = state.writes ++ more }) refl (state.writes ++ more)
    (each-append (IsOfLive sys state) state.writes more a (eager-live sys state t.0 t.1 t.2)))
takes-live sys state (Checkpoint p) next effect t a =
    let one = checkpoint_of state p (front_of state.settled p) in
    to-live sys state next (record state { writes = state.writes ++ one ∷ [] }) t.3
    (same-failed sys state (record state { writes = state.writes ++ one ∷ [] }) refl (state.writes ++ one ∷ [])
    (each-append (IsOfLive sys state) state.writes (one ∷ []) a ((λ i. (declared-by sys.flow is_asked_for_checkpoints p refl t.0, t.1)), tt)))
takes-live sys state Persist next effect t a =
    let k = t.1 in
    to-live sys state next (record state { writes = t.0 }) t.2
    (same-failed sys state (record state { writes = t.0 }) refl t.0
    (subst (AllByRecursion (IsOfLive sys state)) (sym k.after)
    (each-replaced (IsOfLive sys state) k.earlier k.oldest (record k.oldest { stage = acknowledged }) k.later (λ b i. absurd (flies i))
    (subst (AllByRecursion (IsOfLive sys state)) k.before a))))
  where
    flies : is_in_flight acknowledged ≡ true → ⊥
    flies i = absurd (cc)
takes-live sys state (Fail ps) next effect t a =
    let test : Write → Bool = λ write. not (is_one_of write.node ps && is_in_flight write.stage) in
    to-live sys state next (with_lost sys state ps) t.4
    (each-filter (IsOfLive sys (with_lost sys state ps)) test state.writes
    (each-weaker (IsOfLive sys state) (λ x. test x ≡ true → IsOfLive sys (with_lost sys state ps) x) state.writes
    (λ x k passes i. (
      (k i).0,
      failures-more sys state ps x.node (k i).0
          ∙ or_from (is_failed state x.node) (is_one_of x.node ps) (k i).1 (lost-parts (is_one_of x.node ps) (is_in_flight x.stage) passes i),
    )) a))
takes-live sys state Recover next effect t a =
    let choice = t.1 in
    let made = recovered_state sys state choice t.2 in
    to-live sys state next made t.7
    (each-filter (IsOfLive sys made) (λ write. is_kept_write (cut_of choice write.node) write.written made.history) state.writes
    (each-weaker (IsOfLive sys state) (λ x. is_kept_write (cut_of choice x.node) x.written made.history ≡ true → IsOfLive sys made x) state.writes
    (λ x k passes i. ((k i).0, none-mapped (node_ids sys.flow) x.node)) a))
takes-live sys state Collect next effect t a =
    let low = map front_of_cut t.0.cuts in
    let made : Machine = record state { low = low; writes = collected_writes sys low state.history state.writes } in
    to-live sys state next made t.3
    (each-map (IsOfLive sys made) (λ (x : Write). record x { stage = after_collection (is_forgotten sys low state.history state.writes x) x.stage }) state.writes
    (each-weaker (IsOfLive sys state) (λ x. IsOfLive sys made (record x { stage = after_collection (is_forgotten sys low state.history state.writes x) x.stage })) state.writes
    (λ x k i. k (still-flying (is_forgotten sys low state.history state.writes x) x.stage i)) a))
takes-live sys state (Ack o) next effect t a =
    let made : Machine = record state { ack_counts = slice_set state.ack_counts o (t.0 + 1) } in
    to-live sys state next made t.2 (same-failed sys state made refl state.writes a)

steps-live : (sys : System) (state : Machine) (step : Step) (next : Machine) (outcome : Outcome) → StepsTo sys state step next outcome
    → AllByRecursion (IsOfLive sys state) state.writes → AllByRecursion (IsOfLive sys next) next.writes
steps-live sys state step next (did effect) t a = takes-live sys state step next effect t a
steps-live sys state step next idle t a = to-live sys state next state t.1 a

run-live : (sys : System) (steps : List Step) (outcomes : List Outcome) (state last : Machine) → Run sys state steps outcomes last
    → AllByRecursion (IsOfLive sys state) state.writes → AllByRecursion (IsOfLive sys last) last.writes
run-live sys [] [] state last r a = to-live sys state last state r a
run-live sys [] (o ∷ os) state last r a = absurd r
run-live sys (s ∷ ss) [] state last r a = absurd r
run-live sys (s ∷ ss) (o ∷ os) state last r a = run-live sys ss os r.0 last r.2 (steps-live sys state s r.0 o r.1 a)

-- in each reached state the writes in flight are those of declared nodes that are not failed
pub flying-live : (sys : System) → (state : Machine) → IsReached sys state → AllByRecursion (IsOfLive sys state) state.writes
flying-live sys state r = run-live sys r.0 r.1 (first_state sys) state r.2 tt
