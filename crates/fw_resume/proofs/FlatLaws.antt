-- A write that logs an event stands on no other.
use Rattle.std.proofs.Common.{◌≡◌, ℕ, not, ◌&&◌, List, [], ◌∷◌, filter, map, refl, sym, subst}
use Rattle.std.specs.List.{AllByRecursion}
use Rattle.fw_lemmas.proofs.Each.{each-one, each-append, each-map, each-passed, each-replaced}
use Rattle.fw_frontier.specs.Front.{Front, same_front}
use Rattle.fw_flow.specs.declared.kind.Policy.{Policy}
use Rattle.fw_flow.specs.declared.kind.Policy.TheVariants as policy
use Rattle.fw_flow.specs.declared.step.Step.{Step}
use Rattle.fw_flow.specs.declared.step.Step.TheVariants.{Inject, Deliver, Notify, Progress as ProgressStep, Checkpoint, Persist, Fail, Recover, Collect, Ack}
use Rattle.fw_flow.specs.Dataflow.{System, policy_of, receiver, node_ids, is_one_of}
use Rattle.fw_model.specs.Machine.{Machine, Write, checkpoint, logged_event, first_state, front_of, acknowledged}
use Rattle.fw_model.specs.Choice.{cut_of, filtered_history}
use Rattle.fw_model.specs.Reached.{IsReached}
use Rattle.fw_model.specs.Steps.{Effect, Outcome, did, idle, LeadsTo, Run, write_of_event, checkpoint_of, is_eager, is_in_flight, is_kept_write, front_of_cut, is_forgotten, after_collection}

abbrev pub IsFlatIfLogged : Write → Type 0
IsFlatIfLogged x = (s : ℕ) → x.written ≡ logged_event s → x.depth ≡ 0

abbrev AreFlat : List Write → Type 0
AreFlat writes = AllByRecursion IsFlatIfLogged writes

event-flat : (asks : Policy) (p serial : ℕ) → AreFlat (write_of_event asks p serial)
event-flat policy.Full p serial = ((λ s k. refl), tt)
event-flat asks p serial = tt

asked-flat : (state : Machine) (p : ℕ) (f : Front) → IsFlatIfLogged (checkpoint_of state p f)
asked-flat state p f s k = absurd (let c : checkpoint f state.low ≡ logged_event s = k in cc)

eager-flat : (state : Machine) (settled : List Front) (ps : List ℕ) → AreFlat (map (λ p. checkpoint_of state p (front_of settled p)) ps)
eager-flat state settled ps =
    each-map IsFlatIfLogged (λ p. checkpoint_of state p (front_of settled p)) ps
    (each-one (λ p. IsFlatIfLogged (checkpoint_of state p (front_of settled p))) ps (λ p. asked-flat state p (front_of settled p)))

abbrev HasFlat : Machine → Type 0
HasFlat state = AreFlat state.writes

took-flat : (sys : System) (state : Machine) (step : Step) (next : Machine) (effect : Effect) → LeadsTo sys state step next effect → AreFlat state.writes → AreFlat next.writes
took-flat sys state (Inject s) next effect t a =
    subst HasFlat (sym t.3) (each-append IsFlatIfLogged state.writes (write_of_event (policy_of sys.flow s) s state.next) a (event-flat (policy_of sys.flow s) s state.next))
took-flat sys state (Deliver e at) next effect t a =
    let r = receiver sys.flow e in
    subst HasFlat (sym t.3) (each-append IsFlatIfLogged state.writes (write_of_event (policy_of sys.flow r) r state.next) a (event-flat (policy_of sys.flow r) r state.next))
took-flat sys state (Notify p at) next effect t a =
    subst HasFlat (sym t.3) (each-append IsFlatIfLogged state.writes (write_of_event (policy_of sys.flow p) p state.next) a (event-flat (policy_of sys.flow p) p state.next))
took-flat sys state ProgressStep next effect t a =
    let settled = t.1 in
    let ps = filter (λ p. is_eager (policy_of sys.flow p) && not (same_front (front_of state.settled p) (front_of settled p))) (node_ids sys.flow) in
    subst HasFlat (sym t.3) (each-append IsFlatIfLogged state.writes (map (λ p. checkpoint_of state p (front_of settled p)) ps) a (eager-flat state settled ps))
took-flat sys state (Checkpoint p) next effect t a =
    subst HasFlat (sym t.3)
    (each-append IsFlatIfLogged state.writes (checkpoint_of state p (front_of state.settled p) ∷ []) a (asked-flat state p (front_of state.settled p), tt))
took-flat sys state Persist next effect t a =
    let k = t.1 in
    subst HasFlat (sym t.2)
    (subst AreFlat (sym k.after) (each-replaced IsFlatIfLogged k.earlier k.oldest (record k.oldest { stage = acknowledged }) k.later (λ b. b) (subst AreFlat k.before a)))
took-flat sys state (Fail ps) next effect t a =
    subst HasFlat (sym t.4) (each-passed IsFlatIfLogged IsFlatIfLogged (λ write. not (is_one_of write.node ps && is_in_flight write.stage)) state.writes (λ x k b. b) a)
took-flat sys state Recover next effect t a =
    subst HasFlat (sym t.7)
    (each-passed IsFlatIfLogged IsFlatIfLogged (λ write. is_kept_write (cut_of t.1 write.node) write.written (filtered_history sys t.1 state.history)) state.writes (λ x k b. b) a)
took-flat sys state Collect next effect t a =
    let low = map front_of_cut t.0.cuts in
    subst HasFlat (sym t.3)
    (each-map IsFlatIfLogged (λ (x : Write). record x { stage = after_collection (is_forgotten sys low state.history state.writes x) x.stage }) state.writes a)
took-flat sys state (Ack o) next effect t a = subst HasFlat (sym t.2) a

run-flat : (sys : System) (steps : List Step) (outcomes : List Outcome) (state last : Machine) → AreFlat state.writes → Run sys state steps outcomes last → AreFlat last.writes
run-flat sys [] [] state last a r = subst HasFlat (sym r) a
run-flat sys [] (o ∷ os) state last a r = absurd r
run-flat sys (s ∷ ss) [] state last a r = absurd r
run-flat sys (s ∷ ss) (did effect ∷ os) state last a r = run-flat sys ss os r.0 last (took-flat sys state s r.0 effect r.1 a) r.2
run-flat sys (s ∷ ss) (idle ∷ os) state last a r = run-flat sys ss os r.0 last (subst HasFlat (sym r.1.1) a) r.2

-- in each state to which steps lead from the first one
pub reached-flat : (sys : System) (state : Machine) → IsReached sys state → AllByRecursion IsFlatIfLogged state.writes
reached-flat sys state r = run-flat sys r.0 r.1 (first_state sys) state tt r.2
