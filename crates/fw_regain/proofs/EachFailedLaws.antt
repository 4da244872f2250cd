-- A state says of each node whether it is failed.
use Rattle.std.proofs.Common.{◌≡◌, ◌||◌, false, List, [], ◌∷◌, length, ap, ◌∙◌}
use Rattle.std.proofs.lemmas.List.FromFn.{length-map-range_with_len}
use Rattle.fw_flow.specs.declared.step.Step.{Step}
use Rattle.fw_flow.specs.declared.step.Step.TheVariants.{Inject, Deliver, Notify, Progress as ProgressStep, Checkpoint, Persist, Fail, Recover, Collect, Ack}
use Rattle.fw_flow.specs.Dataflow.{System, is_one_of}
use Rattle.fw_model.specs.Machine.{Machine, first_state, is_failed}
use Rattle.fw_model.specs.Reached.{IsReached}
use Rattle.fw_model.specs.Steps.{Effect, Outcome, did, idle, LeadsTo, StepsTo, Run}

-- whether it is failed is said of each
abbrev SaysOfEach : System → Machine → Type 0
SaysOfEach sys state = length state.failed ≡ length sys.flow.nodes

same-said : (sys : System) (state next : Machine) → next.failed ≡ state.failed → SaysOfEach sys state → SaysOfEach sys next
same-said sys state next e h = ap length e ∙ h

takes-said : (sys : System) (state : Machine) (step : Step) (next : Machine) (effect : Effect) → LeadsTo sys state step next effect → SaysOfEach sys state → SaysOfEach sys next
takes-said sys state (Inject s) next effect t h = same-said sys state next (ap (λ (m : Machine). m.failed) t.3) h
takes-said sys state (Deliver e at) next effect t h = same-said sys state next (ap (λ (m : Machine). m.failed) t.3) h
takes-said sys state (Notify p at) next effect t h = same-said sys state next (ap (λ (m : Machine). m.failed) t.3) h
takes-said sys state ProgressStep next effect t h = same-said sys state next (ap (λ (m : Machine). m.failed) t.3) h
takes-said sys state (Checkpoint p) next effect t h = same-said sys state next (ap (λ (m : Machine). m.failed) t.3) h
takes-said sys state Persist next effect t h = same-said sys state next (ap (λ (m : Machine). m.failed) t.2) h
takes-said sys state (Fail ps) next effect t h =
    ap (λ (m : Machine). length m.failed) t.4 ∙ length-map-range_with_len (λ p. is_failed state p || is_one_of p ps) 0 (length sys.flow.nodes)
takes-said sys state Recover next effect t h = ap (λ (m : Machine). length m.failed) t.7 ∙ length-map-range_with_len (λ p. false) 0 (length sys.flow.nodes)
takes-said sys state Collect next effect t h = same-said sys state next (ap (λ (m : Machine). m.failed) t.3) h
takes-said sys state (Ack o) next effect t h = same-said sys state next (ap (λ (m : Machine). m.failed) t.2) h

steps-said : (sys : System) (state : Machine) (step : Step) (next : Machine) (outcome : Outcome) → StepsTo sys state step next outcome → SaysOfEach sys state → SaysOfEach sys next
steps-said sys state step next (did effect) t h = takes-said sys state step next effect t h
steps-said sys state step next idle t h = same-said sys state next (ap (λ (m : Machine). m.failed) t.1) h

run-said : (sys : System) (steps : List Step) (outcomes : List Outcome) (state last : Machine) → Run sys state steps outcomes last → SaysOfEach sys state → SaysOfEach sys last
run-said sys [] [] state last r h = same-said sys state last (ap (λ (m : Machine). m.failed) r) h
run-said sys [] (o ∷ os) state last r h = absurd r
run-said sys (s ∷ ss) [] state last r h = absurd r
run-said sys (s ∷ ss) (o ∷ os) state last r h = run-said sys ss os r.0 last r.2 (steps-said sys state s r.0 o r.1 h)

pub reached-failed : (sys : System) (state : Machine) → IsReached sys state → length state.failed ≡ length sys.flow.nodes
reached-failed sys state r = run-said sys r.0 r.1 (first_state sys) state r.2 (length-map-range_with_len (λ p. false) 0 (length sys.flow.nodes))
