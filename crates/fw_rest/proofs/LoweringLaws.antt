-- Each step of `auto` lowers how many are left, so `auto` comes to rest.
use Rattle.std.proofs.Common.{◌≡◌, ℕ, zero, suc, ◌+◌, ◌-◌, ◌*◌, ◌<◌, ◌≤◌, Bool, true, false, cond, List, [], ◌∷◌, ◌++◌, length, map, filter, None, slice_set, refl, sym, ap, subst, ◌∙◌, inl, inr, arith}
use Rattle.std.specs.List.{AllByRecursion, range_with_len}
use Rattle.std.proofs.Math.Nat.{suc-mul}
use Rattle.std.proofs.lemmas.Bool.{cases_Bool, cases_eq, or_right, cond_both}
use Rattle.std.proofs.lemmas.List.{get_or-set_same, get_or-set_other}
use Rattle.fw_lemmas.proofs.Bools.{two_ways}
use Rattle.fw_lemmas.proofs.Each.{each-one, each-append, each-suffix, each-map}
use Rattle.fw_frontier.specs.Frontier.{Frontier}
use Rattle.fw_frontier.specs.Front.{Front}
use Rattle.fw_flow.specs.declared.event.Event.{Event}
use Rattle.fw_flow.specs.declared.event.Event.TheVariants.{Inject as Injected, Deliver as Delivered, Notify as Notified}
use Rattle.fw_flow.specs.declared.kind.Policy.{Policy}
use Rattle.fw_flow.specs.declared.kind.Policy.TheVariants as policy
use Rattle.fw_flow.specs.declared.step.Step.{Step}
use Rattle.fw_flow.specs.declared.step.Step.TheVariants.{Inject, Deliver, Notify, Progress as ProgressStep, Persist, Ack}
use Rattle.fw_flow.specs.Dataflow.{System, Dataflow, policy_of, node_ids, node_frontier}
use Rattle.fw_flow.specs.NodeFunction.{event_node}
use Rattle.fw_flow.specs.WellFormed.{IsWellFormedSystem}
use Rattle.fw_model.specs.Auto.{edge_ids, deliveries, notifications, acknowledgements, injections, auto_steps, IsIdle, AreIdle, IsFirstEnabled, IsAutoRun}
use Rattle.fw_model.specs.Denotation.{Family, IsDenotation}
use Rattle.fw_model.specs.History.{IsEnabled, IsLegal}
use Rattle.fw_model.specs.Machine.{Machine, SerialEvent, Write, acknowledged, events, first_state, front_of, ack_count_of}
use Rattle.fw_model.specs.Reached.{IsReached}
use Rattle.fw_model.specs.Steps.{Effect, silent, did, write_of_event, with_event, eager_writes, GrowsTo, is_in_flight, AcknowledgesOldest, LeadsTo, Run}
use Rattle.fw_model.proofs.AutoLaws.{auto-runs}
use Rattle.fw_model.proofs.DescentLaws.{complete-one}
use Rattle.fw_model.proofs.GoingOn.{runs-go_on}
use Rattle.fw_rest.specs.Rest.{HasNothingToDo, is_of_auto}
use Rattle.fw_rest.specs.StepsToRest.{most_events, stamps_due, stamps_left, count_in_flight, steps_to_rest}
use Rattle.fw_rest.specs.LawsOfRest.{AutoComesToRest, AutoTakesSoMany, StepsOfAutoEnd}
use Rattle.fw_rest.proofs.DueLaws.{may-due, reached-counts, reached-legal}
use Rattle.fw_rest.proofs.MostEventsLaws.{sum-rises, few_events}

-- ---- writes in flight

pub count-append : (xs ys : List Write) → count_in_flight (xs ++ ys) ≡ count_in_flight xs + count_in_flight ys
count-append [] ys = omega arith
count-append (x ∷ xs) ys =
    let h = count-append xs ys in by (is_in_flight x.stage) (count_in_flight (xs ++ ys)) (count_in_flight xs) (count_in_flight ys) h
  where
    by : (b : Bool) (all some more : ℕ) → all ≡ some + more → cond b (all + 1) all ≡ cond b (some + 1) some + more
    by true all some more h = omega arith
    by false all some more h = h

pub count-few : (xs : List Write) → count_in_flight xs ≤ length xs
count-few [] = omega arith
count-few (x ∷ xs) =
    let h = count-few xs in cond_both (is_in_flight x.stage) (count_in_flight xs + 1) (count_in_flight xs) (λ n. n ≤ suc (length xs)) (λ e. omega arith) (λ e. omega arith)

pub event-writes : (by : Policy) (p serial : ℕ) → length (write_of_event by p serial) ≤ 1
event-writes policy.Full p serial = omega arith
event-writes other p serial = omega arith

kept-few : {A B : Type 0} (f : A → B) (test : A → Bool) (xs : List A) → length (map f (filter test xs)) ≤ length xs
kept-few f test [] = omega arith
kept-few {A} f test (x ∷ xs) =
    let h = kept-few f test xs in
    cond_both (test x) (x ∷ filter test xs) (filter test xs) (λ (ys : List A). length (map f ys) ≤ suc (length xs)) (λ e. omega arith) (λ e. omega arith)

length-range : (n a : ℕ) → length (range_with_len a n) ≡ n
length-range zero a = refl
length-range (suc n) a = ap suc (length-range n (a + 1))

pub eager-few : (sys : System) (state : Machine) (settled : List Front) → count_in_flight (eager_writes sys state settled (node_ids sys.flow)) ≤ length sys.flow.nodes
eager-few sys state settled =
    let a = count-few (eager_writes sys state settled (node_ids sys.flow)) in
    let b = kept-few _ _ (node_ids sys.flow) in
    let c = length-range (length sys.flow.nodes) 0 in
    at_most a b c
  where
    at_most : {x y z n : ℕ} → x ≤ y → y ≤ z → z ≡ n → x ≤ n
    at_most a b c = omega arith

pub oldest-count : (writes next : List Write) → AcknowledgesOldest writes next → count_in_flight next + 1 ≡ count_in_flight writes
oldest-count writes next a =
    let before = ap count_in_flight a.before ∙ count-append a.earlier (a.oldest ∷ a.later) in
    let after = ap count_in_flight a.after ∙ count-append a.earlier (record a.oldest { stage = acknowledged } ∷ a.later) in
    let one_more : count_in_flight (a.oldest ∷ a.later) ≡ count_in_flight a.later + 1 =
    ap (λ b. cond b (count_in_flight a.later + 1) (count_in_flight a.later)) a.in_flight in
    omega arith

-- ---- how many steps are left

-- so many, by how many events may come, how many nodes there are, whether settled may grow before the next event, and how many writes and
-- stamps are to be acknowledged
unfoldable steps_with : ℕ → ℕ → Bool → ℕ → ℕ → ℕ
steps_with more nodes grows writes stamps = more * (nodes + 3) + cond grows (nodes + 1) 0 + writes + stamps

-- Of a state so many steps are left, if settled may grow, and else fewer.
record HasSteps (sys : System) (family : Family) (state : Machine) (n : ℕ) : Type 0 where
  pub grows : Bool
  pub else_not : grows ≡ false → IsIdle sys state ProgressStep
  pub count : n ≡ steps_with (most_events sys family - length state.history) (length sys.flow.nodes) grows (count_in_flight state.writes) (stamps_left sys family state)

-- a step leads to a state of which fewer are left
abbrev Lowers : System → Family → Machine → ℕ → Type 0
Lowers sys family next n = (m : ℕ) × (m < n) × HasSteps sys family next m

event-less : (most past nodes c d s : ℕ) (b : Bool) → past < most → d ≤ c + 1
    → steps_with (most - suc past) nodes true d s < steps_with (most - past) nodes b c s
unfolding steps_with
event-less most past nodes c d s b l k =
    let more : most - past ≡ suc (most - suc past) = omega arith in
    let all : (most - past) * (nodes + 3) ≡ (most - suc past) * (nodes + 3) + (nodes + 3) = ap (λ n. n * (nodes + 3)) more ∙ suc-mul (most - suc past) (nodes + 3) in
    by ((most - past) * (nodes + 3)) ((most - suc past) * (nodes + 3)) b all
  where
    by : (x y : ℕ) (b : Bool) → x ≡ y + (nodes + 3) → y + (nodes + 1) + d + s < x + cond b (nodes + 1) 0 + c + s
    by x y true e = omega arith
    by x y false e = omega arith

length-events : (h : List SerialEvent) → length (events h) ≡ length h
length-events [] = refl
length-events (v ∷ h) = ap suc (length-events h)

event-lowers : (sys : System) (family : Family) → IsWellFormedSystem sys → IsDenotation sys family → (state : Machine) → IsLegal sys (events state.history)
    → (n : ℕ) → HasSteps sys family state n → (v : Event) → IsEnabled sys (events state.history) v → Lowers sys family (with_event sys state v) n
event-lowers sys family w den state legal n s v k =
    let p = event_node sys.flow v in
    let new = write_of_event (policy_of sys.flow p) p state.next in
    let few = few_events sys (v ∷ events state.history) family w (k, legal) den in
    let past = length-events state.history in
    let a = count-append state.writes new in
    let b = count-few new in
    let c = event-writes (policy_of sys.flow p) p state.next in
    let less = event-less (most_events sys family) (length state.history) (length sys.flow.nodes) (count_in_flight state.writes) (count_in_flight (state.writes ++ new))
    (stamps_left sys family state) s.grows (omega arith) (omega arith) in
    let e = s.count in (
      steps_with (most_events sys family - suc (length state.history)) (length sys.flow.nodes) true (count_in_flight (state.writes ++ new)) (stamps_left sys family state),
      omega arith,
      record { grows = true; else_not = λ j. absurd (two_ways true refl j); count = refl },
    )

-- ---- settled grows once

-- once settled grew, it grows no more before the next event
grown-over : (sys : System) (state : Machine) (done : ℕ → Frontier) (settled : List Front) (writes : List Write) → GrowsTo sys state done settled
    → IsIdle sys (record state { settled = settled; writes = writes }) ProgressStep
grown-over sys state done settled writes g next effect t =
    let more = t.2 in
    let some = more.some in
    let p = some.0 in
    let u = some.1 in
    let same_family = complete-one sys (events state.history) t.0 done more.complete g.complete in
    let here : done p u ≡ true = sym (ap (λ (d : ℕ → Frontier). d p u) same_family) ∙ some.4 in
    let inside : node_frontier sys.flow p (front_of settled p) u ≡ true =
    (g.each p some.2 some.3).same u ∙ or_right (node_frontier sys.flow p (front_of state.settled p) u) (done p u) here in
    two_ways (node_frontier sys.flow p (front_of settled p) u) inside some.5

grows-less : (more nodes c d s : ℕ) → d ≤ c + nodes → steps_with more nodes false d s < steps_with more nodes true c s
unfolding steps_with
grows-less more nodes c d s l = by (more * (nodes + 3))
  where
    by : (x : ℕ) → x + 0 + d + s < x + (nodes + 1) + c + s
    by x = omega arith

progress-lowers : (sys : System) (family : Family) (state next : Machine) (effect : Effect) (n : ℕ) → HasSteps sys family state n → LeadsTo sys state ProgressStep next effect
    → Lowers sys family next n
progress-lowers sys family state next effect n s t =
    let settled = t.1 in
    let new = eager_writes sys state settled (node_ids sys.flow) in
    let more = most_events sys family - length state.history in
    let nodes = length sys.flow.nodes in
    let after : Machine = record state { settled = settled; writes = state.writes ++ new } in
    let grows : s.grows ≡ true = elim (cases_Bool s.grows) [ inl may ↦ may | inr never ↦ absurd (s.else_not never next effect t) ] in
    let count = s.count ∙ ap (λ b. steps_with more nodes b (count_in_flight state.writes) (stamps_left sys family state)) grows in
    let a = count-append state.writes new in
    let b = eager-few sys state settled in
    let less = grows-less more nodes (count_in_flight state.writes) (count_in_flight (state.writes ++ new)) (stamps_left sys family state) (omega arith) in (
      steps_with more nodes false (count_in_flight (state.writes ++ new)) (stamps_left sys family state),
      omega arith,
      subst (λ (m : Machine). HasSteps sys family m (steps_with more nodes false (count_in_flight (state.writes ++ new)) (stamps_left sys family state))) (sym t.3)
          (record { grows = false; else_not = λ j. grown-over sys state t.0 settled (state.writes ++ new) t.2; count = refl }),
    )

-- ---- a write and a stamp are acknowledged

-- where no more can be settled, none can after a step that keeps the history, what is settled and which nodes are failed
still-idle : (sys : System) (state : Machine) (writes : List Write) (counts : List ℕ) → IsIdle sys state ProgressStep
    → IsIdle sys (record state { writes = writes; ack_counts = counts }) ProgressStep
still-idle sys state writes counts none next effect t =
    let g = t.2 in
    none (record state { settled = t.1; writes = state.writes ++ eager_writes sys state t.1 (node_ids sys.flow) }) silent (
      t.0,
      t.1,
      record { complete = g.complete; some = g.some; one_each = g.one_each; each = g.each; failed = g.failed },
      refl,
      refl,
    )

fewer-less : (more nodes c d s r : ℕ) (b : Bool) → d + r < c + s → steps_with more nodes b d r < steps_with more nodes b c s
unfolding steps_with
fewer-less more nodes c d s r b l = by (more * (nodes + 3) + cond b (nodes + 1) 0)
  where
    by : (x : ℕ) → x + d + r < x + c + s
    by x = omega arith

persist-lowers : (sys : System) (family : Family) (state next : Machine) (effect : Effect) (n : ℕ) → HasSteps sys family state n → LeadsTo sys state Persist next effect
    → Lowers sys family next n
persist-lowers sys family state next effect n s t =
    let more = most_events sys family - length state.history in
    let nodes = length sys.flow.nodes in
    let stamps = stamps_left sys family state in
    let a = oldest-count state.writes t.0 t.1 in
    let less = fewer-less more nodes (count_in_flight state.writes) (count_in_flight t.0) stamps stamps s.grows (omega arith) in
    let e = s.count in (
      steps_with more nodes s.grows (count_in_flight t.0) stamps,
      omega arith,
      subst (λ (m : Machine). HasSteps sys family m (steps_with more nodes s.grows (count_in_flight t.0) stamps)) (sym t.2)
          (record { grows = s.grows; else_not = λ j. still-idle sys state t.0 state.ack_counts (s.else_not j); count = refl }),
    )

ack-lowers : (sys : System) (family : Family) → IsWellFormedSystem sys → IsDenotation sys family → (state : Machine) → IsLegal sys (events state.history)
    → length state.ack_counts ≡ length sys.flow.nodes → (o : ℕ) (next : Machine) (effect : Effect) (n : ℕ) → HasSteps sys family state n → LeadsTo sys state (Ack o) next effect
    → Lowers sys family next n
ack-lowers sys family w den state legal counts o next effect n s t =
    let more = most_events sys family - length state.history in
    let nodes = length sys.flow.nodes in
    let x = t.0 in
    let may = t.1 in
    let there = may.declared in
    let after : Machine = record state { ack_counts = slice_set state.ack_counts o (x + 1) } in
    let due = may-due sys family w den state legal o x may in
    let is = may.next in
    let here : ack_count_of after o ≡ x + 1 = get_or-set_same state.ack_counts o (x + 1) 0 (omega arith) in
    let each : (p : ℕ) → stamps_due sys family p - ack_count_of after p ≤ stamps_due sys family p - ack_count_of state p =
    λ p. elim (cases_eq p o) [
      | inl e ↦
          let a : ack_count_of after p ≡ ack_count_of after o = ap (ack_count_of after) e in
          let b : ack_count_of state p ≡ ack_count_of state o = ap (ack_count_of state) e in
          omega arith
      | inr e ↦ let a : ack_count_of after p ≡ ack_count_of state p = get_or-set_other state.ack_counts o p (x + 1) 0 e in omega arith
    ] in
    let fewer = sum-rises (λ p. stamps_due sys family p - ack_count_of after p) (λ p. stamps_due sys family p - ack_count_of state p) each o (omega arith) nodes 0 (omega arith) (omega arith) in
    let less = fewer-less more nodes (count_in_flight state.writes) (count_in_flight state.writes) (stamps_left sys family state) (stamps_left sys family after) s.grows (omega arith) in
    let e = s.count in (
      steps_with more nodes s.grows (count_in_flight state.writes) (stamps_left sys family after),
      omega arith,
      subst (λ (m : Machine). HasSteps sys family m (steps_with more nodes s.grows (count_in_flight state.writes) (stamps_left sys family after))) (sym t.2)
          (record { grows = s.grows; else_not = λ j. still-idle sys state state.writes (slice_set state.ack_counts o (x + 1)) (s.else_not j); count = refl }),
    )

-- ---- each step of `auto`

pub each-auto : (flow : Dataflow) → AllByRecursion (λ step. is_of_auto step ≡ true) (auto_steps flow)
each-auto flow =
    let P : Step → Type 0 = λ step. is_of_auto step ≡ true in
    let a = each-map P (λ e. Deliver e None) (edge_ids flow) (each-one (λ e. P (Deliver e None)) (edge_ids flow) (λ e. refl)) in
    let b = each-map P (λ p. Notify p None) (node_ids flow) (each-one (λ p. P (Notify p None)) (node_ids flow) (λ p. refl)) in
    let c = each-map P Ack (node_ids flow) (each-one (λ p. P (Ack p)) (node_ids flow) (λ p. refl)) in
    let d = each-map P Inject (node_ids flow) (each-one (λ p. P (Inject p)) (node_ids flow) (λ p. refl)) in (
      refl,
      each-append P (deliveries flow) (notifications flow ++ (ProgressStep ∷ (acknowledgements flow ++ injections flow))) a
          (each-append P (notifications flow) (ProgressStep ∷ (acknowledgements flow ++ injections flow)) b (refl, each-append P (acknowledgements flow) (injections flow) c d)),
    )

-- the first of its steps that is enabled is of its kinds
pub auto-first : (sys : System) (state : Machine) (step : Step) (next : Machine) (effect : Effect) → IsFirstEnabled sys state (auto_steps sys.flow) step next effect
    → is_of_auto step ≡ true
auto-first sys state step next effect first = (each-suffix (λ s. is_of_auto s ≡ true) first.earlier (step ∷ first.later)
    (subst (AllByRecursion (λ s. is_of_auto s ≡ true)) first.among (each-auto sys.flow))).0

lowers : (sys : System) (family : Family) → IsWellFormedSystem sys → IsDenotation sys family → (state : Machine) → IsReached sys state
    → (n : ℕ) → HasSteps sys family state n → (step : Step) → is_of_auto step ≡ true → (next : Machine) (effect : Effect) → LeadsTo sys state step next effect → Lowers sys family next n
lowers sys family w den state r n s (Inject q) k next effect t =
    subst (λ (m : Machine). Lowers sys family m n) (sym t.3) (event-lowers sys family w den state (reached-legal sys w state r) n s (Injected q t.0) t.1)
lowers sys family w den state r n s (Deliver e at) k next effect t =
    subst (λ (m : Machine). Lowers sys family m n) (sym t.3) (event-lowers sys family w den state (reached-legal sys w state r) n s (Delivered e t.0) t.1.enabled)
lowers sys family w den state r n s (Notify p at) k next effect t =
    subst (λ (m : Machine). Lowers sys family m n) (sym t.3) (event-lowers sys family w den state (reached-legal sys w state r) n s (Notified p t.0) t.1.enabled)
lowers sys family w den state r n s ProgressStep k next effect t = progress-lowers sys family state next effect n s t
lowers sys family w den state r n s Persist k next effect t = persist-lowers sys family state next effect n s t
lowers sys family w den state r n s (Ack o) k next effect t =
    ack-lowers sys family w den state (reached-legal sys w state r) (reached-counts sys state r) o next effect n s t
lowers sys family w den state r n s step k next effect t = absurd (cc)

-- ---- runs of `auto`

reached-on : (sys : System) (state : Machine) → IsReached sys state → (step : Step) (next : Machine) (effect : Effect) → LeadsTo sys state step next effect → IsReached sys next
reached-on sys state r step next effect t =
    (r.0 ++ step ∷ [], r.1 ++ did effect ∷ [], runs-go_on sys (first_state sys) state next r.0 (step ∷ []) r.1 (did effect ∷ []) r.2 (next, t, refl))

each-idle : (sys : System) (state : Machine) (P : Step → Type 0) (steps : List Step) → AllByRecursion P steps → ((step : Step) → P step → IsIdle sys state step)
    → AreIdle sys state steps
each-idle sys state P [] a h = tt
each-idle sys state P (x ∷ steps) a h = (h x a.0, each-idle sys state P steps a.1 h)

comes : (sys : System) (family : Family) → IsWellFormedSystem sys → IsDenotation sys family → (most : ℕ) (steps : List Step) (state last : Machine) → IsReached sys state
    → (n : ℕ) → HasSteps sys family state n → n ≤ most → IsAutoRun sys state most steps last → HasNothingToDo sys last
comes sys family w den zero [] state last r n s l run =
    subst (HasNothingToDo sys) (sym run)
    (each-idle sys state (λ step. is_of_auto step ≡ true) (auto_steps sys.flow) (each-auto sys.flow) (λ step k next effect t.
    let m = lowers sys family w den state r n s step k next effect t in
    let less = m.1 in
    omega arith))
comes sys family w den zero (x ∷ steps) state last r n s l run = absurd run
comes sys family w den (suc most) [] state last r n s l run = subst (HasNothingToDo sys) (sym run.1) run.0
comes sys family w den (suc most) (x ∷ steps) state last r n s l run =
    let first = run.2 in
    let auto = auto-first sys state x run.0 run.1 first in
    let m = lowers sys family w den state r n s x auto run.0 run.1 first.leads in
    let less = m.1 in
    comes sys family w den most steps run.0 last (reached-on sys state r x run.0 run.1 first.leads) m.0 m.2 (omega arith) run.3

pub auto-comes_to_rest : AutoComesToRest
unfolding steps_to_rest steps_with
auto-comes_to_rest sys family w den state r most l steps last run =
    comes sys family w den most steps state last r (steps_to_rest sys family state)
    (record { grows = true; else_not = λ j. absurd (two_ways true refl j); count = refl }) l run

-- ---- how many steps it takes

steps-end : (sys : System) (family : Family) → IsWellFormedSystem sys → IsDenotation sys family → (steps : List Step) (effects : List Effect) (state last : Machine)
    → IsReached sys state → (n : ℕ) → HasSteps sys family state n → AllByRecursion (λ step. is_of_auto step ≡ true) steps
    → Run sys state steps (map did effects) last → length steps ≤ n
steps-end sys family w den [] effects state last r n s kinds run = omega arith
steps-end sys family w den (x ∷ steps) [] state last r n s kinds run = absurd run
steps-end sys family w den (x ∷ steps) (effect ∷ effects) state last r n s kinds run =
    let m = lowers sys family w den state r n s x kinds.0 run.0 effect run.1 in
    let less = m.1 in
    let rest = steps-end sys family w den steps effects run.0 last (reached-on sys state r x run.0 effect run.1) m.0 m.2 kinds.1 run.2 in
    omega arith

pub steps_of_auto-end : StepsOfAutoEnd
unfolding steps_to_rest steps_with
steps_of_auto-end sys family w den state r steps kinds effects last run =
    steps-end sys family w den steps effects state last r (steps_to_rest sys family state)
    (record { grows = true; else_not = λ j. absurd (two_ways true refl j); count = refl }) kinds run

-- each step that `auto` takes is of its kinds
auto-steps : (sys : System) (most : ℕ) (steps : List Step) (state last : Machine) → IsAutoRun sys state most steps last → AllByRecursion (λ step. is_of_auto step ≡ true) steps
auto-steps sys zero [] state last run = tt
auto-steps sys zero (x ∷ steps) state last run = absurd run
auto-steps sys (suc most) [] state last run = tt
auto-steps sys (suc most) (x ∷ steps) state last run = (auto-first sys state x run.0 run.1 run.2, auto-steps sys most steps run.0 last run.3)

pub auto-takes : AutoTakesSoMany
auto-takes sys family w den state r most steps last run =
    let taken = auto-runs sys state last most steps run in
    steps_of_auto-end sys family w den state r steps (auto-steps sys most steps state last run) taken.0 last taken.1
