-- How many writes are in flight.
use Rattle.std.proofs.Common.{◌≡◌, ℕ, suc, ◌+◌, ◌*◌, ◌<◌, ◌≤◌, Bool, true, false, cond, List, [], ◌∷◌, length, filter, refl, ap, ◌∙◌, arith, map}
use Rattle.std.proofs.Math.Nat.{suc-mul}
use Rattle.std.proofs.lemmas.Bool.{cond_both}
use Rattle.fw_frontier.specs.Front.{Front}
use Rattle.fw_flow.specs.declared.event.Event.{Event}
use Rattle.fw_flow.specs.declared.event.Event.TheVariants.{Inject as Injected, Deliver as Delivered, Notify as Notified}
use Rattle.fw_flow.specs.declared.step.Step.{Step}
use Rattle.fw_flow.specs.declared.step.Step.TheVariants.{Inject, Deliver, Notify, Progress as ProgressStep, Checkpoint, Persist, Fail, Recover, Collect, Ack}
use Rattle.fw_flow.specs.Dataflow.{System, policy_of, node_ids}
use Rattle.fw_flow.specs.NodeFunction.{event_node}
use Rattle.fw_model.specs.Machine.{Machine, SerialEvent, Write, Stage, in_flight, acknowledged, collected, first_state, front_of}
use Rattle.fw_model.specs.Steps.{Effect, Outcome, did, idle, with_event, write_of_event, checkpoint_of, eager_writes, is_in_flight, after_collection, collected_writes, LeadsTo, StepsTo, Run, is_forgotten}
use Rattle.fw_rest.specs.StepsToRest.{count_in_flight}
use Rattle.fw_rest.specs.LawsOfRest.{FewAreInFlight}
use Rattle.fw_rest.proofs.LoweringLaws.{count-append, count-few, event-writes, eager-few, oldest-count}

-- ---- writes that are taken away

pub kept-in_flight : (test : Write → Bool) (xs : List Write) → count_in_flight (filter test xs) ≤ count_in_flight xs
kept-in_flight test [] = omega arith
kept-in_flight test (x ∷ xs) =
    let h = kept-in_flight test xs in
    let here = lesser_or_same (is_in_flight x.stage) (count_in_flight (filter test xs)) (count_in_flight xs) h in
    cond_both (test x) (x ∷ filter test xs) (filter test xs) (λ (ys : List Write). count_in_flight ys ≤ count_in_flight (x ∷ xs)) (λ e. here.0) (λ e. here.1)
  where
    lesser_or_same : (b : Bool) (m n : ℕ) → m ≤ n → (cond b (m + 1) m ≤ cond b (n + 1) n) × (m ≤ cond b (n + 1) n)
    lesser_or_same true m n l = (omega arith, omega arith)
    lesser_or_same false m n l = (omega arith, l)

-- a collection leaves in flight what was
collected-stage : (below : Bool) (stage : Stage) → is_in_flight (after_collection below stage) ≡ is_in_flight stage
collected-stage below in_flight = refl
collected-stage true acknowledged = refl
collected-stage false acknowledged = refl
collected-stage below collected = refl

staged-in_flight : (goes : Write → Bool) (xs : List Write)
    → count_in_flight (map (λ (x : Write). record x { stage = after_collection (goes x) x.stage }) xs) ≡ count_in_flight xs
staged-in_flight goes [] = refl
staged-in_flight goes (x ∷ xs) =
    let left = count_in_flight (map (λ (y : Write). record y { stage = after_collection (goes y) y.stage }) xs) in
    ap (λ b. cond b (left + 1) left) (collected-stage (goes x) x.stage) ∙ ap (λ n. cond (is_in_flight x.stage) (n + 1) n) (staged-in_flight goes xs)

collected-in_flight : (sys : System) (low : List Front) (h : List SerialEvent) (xs : List Write)
    → count_in_flight (collected_writes sys low h xs) ≡ count_in_flight xs
collected-in_flight sys low h xs = staged-in_flight (is_forgotten sys low h xs) xs

-- ---- steps

event-in_flight : (sys : System) (state : Machine) (v : Event) → 0 < length sys.flow.nodes
    → count_in_flight (with_event sys state v).writes ≤ count_in_flight state.writes + length sys.flow.nodes
event-in_flight sys state v some =
    let p = event_node sys.flow v in
    let a = count-append state.writes (write_of_event (policy_of sys.flow p) p state.next) in
    let b = count-few (write_of_event (policy_of sys.flow p) p state.next) in
    let c = event-writes (policy_of sys.flow p) p state.next in
    omega arith

at_most : {x y z : ℕ} → x ≡ y → y ≤ z → x ≤ z
at_most e l = omega arith

took-in_flight : (sys : System) → 0 < length sys.flow.nodes → (state : Machine) (step : Step) (next : Machine) (effect : Effect) → LeadsTo sys state step next effect
    → count_in_flight next.writes ≤ count_in_flight state.writes + length sys.flow.nodes
took-in_flight sys some state (Inject s) next effect t = at_most (ap (λ (m : Machine). count_in_flight m.writes) t.3) (event-in_flight sys state (Injected s t.0) some)
took-in_flight sys some state (Deliver e at) next effect t = at_most (ap (λ (m : Machine). count_in_flight m.writes) t.3) (event-in_flight sys state (Delivered e t.0) some)
took-in_flight sys some state (Notify p at) next effect t = at_most (ap (λ (m : Machine). count_in_flight m.writes) t.3) (event-in_flight sys state (Notified p t.0) some)
took-in_flight sys some state ProgressStep next effect t =
    let a = ap (λ (m : Machine). count_in_flight m.writes) t.3 in
    let b = count-append state.writes (eager_writes sys state t.1 (node_ids sys.flow)) in
    let c = eager-few sys state t.1 in
    omega arith
took-in_flight sys some state (Checkpoint p) next effect t =
    let a = ap (λ (m : Machine). count_in_flight m.writes) t.3 in
    let b = count-append state.writes (checkpoint_of state p (front_of state.settled p) ∷ []) in
    let c = count-few (checkpoint_of state p (front_of state.settled p) ∷ []) in
    omega arith
took-in_flight sys some state Persist next effect t =
    let a = ap (λ (m : Machine). count_in_flight m.writes) t.2 in
    let b = oldest-count state.writes t.0 t.1 in
    omega arith
took-in_flight sys some state (Fail ps) next effect t =
    let a = at_most (ap (λ (m : Machine). count_in_flight m.writes) t.4) (kept-in_flight _ state.writes) in
    omega arith
took-in_flight sys some state Recover next effect t =
    let a = at_most (ap (λ (m : Machine). count_in_flight m.writes) t.7) (kept-in_flight _ state.writes) in
    omega arith
took-in_flight sys some state Collect next effect t =
    let a = ap (λ (m : Machine). count_in_flight m.writes) t.3 ∙ collected-in_flight sys _ state.history state.writes in
    omega arith
took-in_flight sys some state (Ack o) next effect t =
    let a = ap (λ (m : Machine). count_in_flight m.writes) t.2 in
    omega arith

steps-in_flight : (sys : System) → 0 < length sys.flow.nodes → (state : Machine) (step : Step) (next : Machine) (outcome : Outcome) → StepsTo sys state step next outcome
    → count_in_flight next.writes ≤ count_in_flight state.writes + length sys.flow.nodes
steps-in_flight sys some state step next (did effect) t = took-in_flight sys some state step next effect t
steps-in_flight sys some state step next idle t = let a = ap (λ (m : Machine). count_in_flight m.writes) t.1 in omega arith

run-in_flight : (sys : System) → 0 < length sys.flow.nodes → (steps : List Step) (outcomes : List Outcome) (state last : Machine) → Run sys state steps outcomes last
    → count_in_flight last.writes ≤ count_in_flight state.writes + length steps * length sys.flow.nodes
run-in_flight sys some [] [] state last r = let a = ap (λ (m : Machine). count_in_flight m.writes) r in omega arith
run-in_flight sys some [] (o ∷ os) state last r = absurd r
run-in_flight sys some (s ∷ ss) [] state last r = absurd r
run-in_flight sys some (s ∷ ss) (o ∷ os) state last r =
    let a = steps-in_flight sys some state s r.0 o r.1 in
    let b = run-in_flight sys some ss os r.0 last r.2 in
    let c = suc-mul (length ss) (length sys.flow.nodes) in
    omega arith

pub few_in_flight : FewAreInFlight
few_in_flight sys w steps outcomes last r =
    let some = w.flow.input.1 in
    let a = run-in_flight sys (omega arith) steps outcomes (first_state sys) last r in
    omega arith

-- each step has its outcome
pub one-outcome_each : (sys : System) (steps : List Step) (outcomes : List Outcome) (state last : Machine) → Run sys state steps outcomes last
    → length outcomes ≡ length steps
one-outcome_each sys [] [] state last r = refl
one-outcome_each sys [] (o ∷ os) state last r = absurd r
one-outcome_each sys (s ∷ ss) [] state last r = absurd r
one-outcome_each sys (s ∷ ss) (o ∷ os) state last r = ap suc (one-outcome_each sys ss os r.0 last r.2)
