-- No write stands on more than seven others.
use Rattle.std.proofs.Common.{ℕ, ◌+◌, ◌≤◌, not, ◌&&◌, nat_lt, List, [], ◌∷◌, filter, map, sym, subst, arith}
use Rattle.std.specs.List.{AllByRecursion}
use Rattle.std.proofs.lemmas.Bool.{cond_both, ltb-true}
use Rattle.fw_lemmas.proofs.Each.{each-one, each-append, each-map, each-passed, each-replaced}
use Rattle.fw_frontier.specs.Front.{Front, same_front}
use Rattle.fw_flow.specs.declared.kind.Policy.{Policy}
use Rattle.fw_flow.specs.declared.kind.Policy.TheVariants as policy
use Rattle.fw_flow.specs.declared.step.Step.{Step}
use Rattle.fw_flow.specs.declared.step.Step.TheVariants.{Inject, Deliver, Notify, Progress as ProgressStep, Checkpoint, Persist, Fail, Recover, Collect, Ack}
use Rattle.fw_flow.specs.Dataflow.{System, policy_of, receiver, node_ids, is_one_of}
use Rattle.fw_model.specs.LawsOfChains.{IsShallow, EachStandsOnFew}
use Rattle.fw_model.specs.Machine.{Machine, Write, first_state, front_of, acknowledged}
use Rattle.fw_model.specs.Choice.{cut_of, filtered_history}
use Rattle.fw_model.specs.Steps.{Effect, Outcome, did, idle, LeadsTo, Run, write_of_event, checkpoint_of, depths_of, depth_after, is_eager, is_in_flight, is_kept_write, front_of_cut, is_forgotten, after_collection}

abbrev AreShallow : List Write → Type 0
AreShallow writes = AllByRecursion IsShallow writes

-- ---- the rule

after-shallow : (d : ℕ) (ds : List ℕ) → depth_after (d ∷ ds) ≤ 7
after-shallow d [] = cond_both (nat_lt d 7) (d + 1) 0 (λ n. n ≤ 7) (λ e. let l = ltb-true d 7 e in omega (arith, l)) (λ e. omega arith)
after-shallow d (e ∷ ds) = after-shallow e ds

next-shallow : (ds : List ℕ) → depth_after ds ≤ 7
next-shallow [] = omega arith
next-shallow (d ∷ ds) = after-shallow d ds

-- ---- each write of a run

event-shallow : (asks : Policy) (p serial : ℕ) → AreShallow (write_of_event asks p serial)
event-shallow policy.Full p serial = (omega arith, tt)
event-shallow asks p serial = tt

asked-shallow : (state : Machine) (settled : List Front) (ps : List ℕ) → AreShallow (map (λ p. checkpoint_of state p (front_of settled p)) ps)
asked-shallow state settled ps =
    each-map IsShallow (λ p. checkpoint_of state p (front_of settled p)) ps (each-one (λ p. IsShallow (checkpoint_of state p (front_of settled p))) ps (λ p. next-shallow (depths_of p state.writes)))

abbrev HasShallow : Machine → Type 0
HasShallow state = AreShallow state.writes

took-shallow : (sys : System) (state : Machine) (step : Step) (next : Machine) (effect : Effect) → LeadsTo sys state step next effect → AreShallow state.writes
    → AreShallow next.writes
took-shallow sys state (Inject s) next effect t a =
    subst HasShallow (sym t.3) (each-append IsShallow state.writes (write_of_event (policy_of sys.flow s) s state.next) a (event-shallow (policy_of sys.flow s) s state.next))
took-shallow sys state (Deliver e at) next effect t a =
    let r = receiver sys.flow e in
    subst HasShallow (sym t.3) (each-append IsShallow state.writes (write_of_event (policy_of sys.flow r) r state.next) a (event-shallow (policy_of sys.flow r) r state.next))
took-shallow sys state (Notify p at) next effect t a =
    subst HasShallow (sym t.3) (each-append IsShallow state.writes (write_of_event (policy_of sys.flow p) p state.next) a (event-shallow (policy_of sys.flow p) p state.next))
took-shallow sys state ProgressStep next effect t a =
    let settled = t.1 in
    let ps = filter (λ p. is_eager (policy_of sys.flow p) && not (same_front (front_of state.settled p) (front_of settled p))) (node_ids sys.flow) in
    subst HasShallow (sym t.3)
    (each-append IsShallow state.writes (map (λ p. checkpoint_of state p (front_of settled p)) ps) a (asked-shallow state settled ps))
took-shallow sys state (Checkpoint p) next effect t a =
    subst HasShallow (sym t.3) (each-append IsShallow state.writes (checkpoint_of state p (front_of state.settled p) ∷ []) a (next-shallow (depths_of p state.writes), tt))
took-shallow sys state Persist next effect t a =
    let k = t.1 in
    subst HasShallow (sym t.2)
    (subst AreShallow (sym k.after) (each-replaced IsShallow k.earlier k.oldest (record k.oldest { stage = acknowledged }) k.later (λ b. b) (subst AreShallow k.before a)))
took-shallow sys state (Fail ps) next effect t a =
    subst HasShallow (sym t.4) (each-passed IsShallow IsShallow (λ write. not (is_one_of write.node ps && is_in_flight write.stage)) state.writes (λ x k b. b) a)
took-shallow sys state Recover next effect t a =
    subst HasShallow (sym t.7)
    (each-passed IsShallow IsShallow (λ write. is_kept_write (cut_of t.1 write.node) write.written (filtered_history sys t.1 state.history)) state.writes (λ x k b. b) a)
took-shallow sys state Collect next effect t a =
    let low = map front_of_cut t.0.cuts in
    subst HasShallow (sym t.3)
    (each-map IsShallow (λ (x : Write). record x { stage = after_collection (is_forgotten sys low state.history state.writes x) x.stage }) state.writes a)
took-shallow sys state (Ack o) next effect t a = subst HasShallow (sym t.2) a

run-shallow : (sys : System) (steps : List Step) (outcomes : List Outcome) (state last : Machine) → AreShallow state.writes → Run sys state steps outcomes last
    → AreShallow last.writes
run-shallow sys [] [] state last a r = subst HasShallow (sym r) a
run-shallow sys [] (o ∷ os) state last a r = absurd r
run-shallow sys (s ∷ ss) [] state last a r = absurd r
run-shallow sys (s ∷ ss) (did effect ∷ os) state last a r = run-shallow sys ss os r.0 last (took-shallow sys state s r.0 effect r.1 a) r.2
run-shallow sys (s ∷ ss) (idle ∷ os) state last a r = run-shallow sys ss os r.0 last (subst HasShallow (sym r.1.1) a) r.2

pub reached-shallow : EachStandsOnFew
reached-shallow sys steps outcomes last r = run-shallow sys steps outcomes (first_state sys) last tt r
