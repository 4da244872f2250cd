-- What holds of each reached state.
use Rattle.std.proofs.Common.{◌≡◌, ℕ, ◌<◌, false, List, [], ◌∷◌, ◌++◌, ◌||◌, ◌+◌, length, refl, ap, ◌∙◌, length-set}
use Rattle.std.proofs.lemmas.List.FromFn.{length-map-range_with_len}
use Rattle.fw_frontier.specs.Front.{IsCanonical}
use Rattle.fw_flow.specs.declared.step.Step.{Step}
use Rattle.fw_flow.specs.declared.step.Step.TheVariants.{Inject, Deliver, Notify, Progress as ProgressStep, Checkpoint, Persist, Fail, Recover, Collect, Ack}
use Rattle.fw_flow.specs.Dataflow.{System, bounds_of, is_one_of}
use Rattle.fw_flow.specs.WellFormed.{IsWellFormedSystem}
use Rattle.fw_model.specs.History.{IsLegal}
use Rattle.fw_model.specs.Machine.{Machine, events, front_of, first_state, is_failed}
use Rattle.fw_model.specs.Reached.{IsReached}
use Rattle.fw_model.specs.Steps.{Effect, Outcome, did, idle, LeadsTo, StepsTo, Run}
use Rattle.fw_model.proofs.AskedLaws.{reached-all}
use Rattle.fw_model.proofs.DomainLaws.{has_epochs}
use Rattle.fw_model.proofs.GoingOn.{runs-go_on}
use Rattle.fw_model.proofs.RecoveryLaws.{runs-legal}

-- a step leads to a reached state from one
pub reached-next : (sys : System) (state next : Machine) (step : Step) (outcome : Outcome) → IsReached sys state → StepsTo sys state step next outcome → IsReached sys next
reached-next sys state next step outcome r t =
    (r.0 ++ step ∷ [], r.1 ++ outcome ∷ [], runs-go_on sys (first_state sys) state next r.0 (step ∷ []) r.1 (outcome ∷ []) r.2 (next, t, refl))

-- the history is legal
pub reached-legal : (sys : System) (state : Machine) → IsWellFormedSystem sys → IsReached sys state → IsLegal sys (events state.history)
reached-legal sys state w r = runs-legal sys r.0 r.1 state w.flow (has_epochs sys w) r.2

-- what is settled is canonical
pub reached-settled : (sys : System) (state : Machine) → IsWellFormedSystem sys → IsReached sys state → (p : ℕ) → p < length sys.flow.nodes
    → IsCanonical (bounds_of sys.flow p) (front_of state.settled p)
reached-settled sys state w r = (reached-all sys w r.0 r.1 state r.2).restore.settled

-- ---- one for each node

abbrev HasOneEach : System → Machine → Type 0
HasOneEach sys state = (length state.failed ≡ length sys.flow.nodes) × (length state.ack_counts ≡ length sys.flow.nodes)

same-each : (sys : System) (state next : Machine) → next.failed ≡ state.failed → next.ack_counts ≡ state.ack_counts → HasOneEach sys state → HasOneEach sys next
same-each sys state next e f h = (ap length e ∙ h.0, ap length f ∙ h.1)

takes-each : (sys : System) (state : Machine) (step : Step) (next : Machine) (effect : Effect) → LeadsTo sys state step next effect → HasOneEach sys state → HasOneEach sys next
takes-each sys state (Inject s) next effect t h = same-each sys state next (ap (λ (m : Machine). m.failed) t.3) (ap (λ (m : Machine). m.ack_counts) t.3) h
takes-each sys state (Deliver e at) next effect t h = same-each sys state next (ap (λ (m : Machine). m.failed) t.3) (ap (λ (m : Machine). m.ack_counts) t.3) h
takes-each sys state (Notify p at) next effect t h = same-each sys state next (ap (λ (m : Machine). m.failed) t.3) (ap (λ (m : Machine). m.ack_counts) t.3) h
takes-each sys state ProgressStep next effect t h = same-each sys state next (ap (λ (m : Machine). m.failed) t.3) (ap (λ (m : Machine). m.ack_counts) t.3) h
takes-each sys state (Checkpoint p) next effect t h = same-each sys state next (ap (λ (m : Machine). m.failed) t.3) (ap (λ (m : Machine). m.ack_counts) t.3) h
takes-each sys state Persist next effect t h = same-each sys state next (ap (λ (m : Machine). m.failed) t.2) (ap (λ (m : Machine). m.ack_counts) t.2) h
takes-each sys state (Fail ps) next effect t h = (
  ap (λ (m : Machine). length m.failed) t.4 ∙ length-map-range_with_len (λ p. is_failed state p || is_one_of p ps) 0 (length sys.flow.nodes),
  ap (λ (m : Machine). length m.ack_counts) t.4 ∙ h.1,
)
takes-each sys state Recover next effect t h = (
  ap (λ (m : Machine). length m.failed) t.7 ∙ length-map-range_with_len (λ p. false) 0 (length sys.flow.nodes),
  ap (λ (m : Machine). length m.ack_counts) t.7 ∙ h.1,
)
takes-each sys state Collect next effect t h = same-each sys state next (ap (λ (m : Machine). m.failed) t.3) (ap (λ (m : Machine). m.ack_counts) t.3) h
takes-each sys state (Ack o) next effect t h = (
  ap (λ (m : Machine). length m.failed) t.2 ∙ h.0,
  ap (λ (m : Machine). length m.ack_counts) t.2 ∙ length-set state.ack_counts o (t.0 + 1) ∙ h.1,
)

steps-each : (sys : System) (state : Machine) (step : Step) (next : Machine) (outcome : Outcome) → StepsTo sys state step next outcome → HasOneEach sys state → HasOneEach sys next
steps-each sys state step next (did effect) t h = takes-each sys state step next effect t h
steps-each sys state step next idle t h = same-each sys state next (ap (λ (m : Machine). m.failed) t.1) (ap (λ (m : Machine). m.ack_counts) t.1) h

run-each : (sys : System) (steps : List Step) (outcomes : List Outcome) (state last : Machine) → Run sys state steps outcomes last → HasOneEach sys state → HasOneEach sys last
run-each sys [] [] state last r h = same-each sys state last (ap (λ (m : Machine). m.failed) r) (ap (λ (m : Machine). m.ack_counts) r) h
run-each sys [] (o ∷ os) state last r h = absurd r
run-each sys (s ∷ ss) [] state last r h = absurd r
run-each sys (s ∷ ss) (o ∷ os) state last r h = run-each sys ss os r.0 last r.2 (steps-each sys state s r.0 o r.1 h)

reached-each : (sys : System) (state : Machine) → IsReached sys state → HasOneEach sys state
reached-each sys state r = run-each sys r.0 r.1 (first_state sys) state r.2
    (length-map-range_with_len (λ p. false) 0 (length sys.flow.nodes), length-map-range_with_len (λ p. 0) 0 (length sys.flow.nodes))

-- each node has a bound
pub reached-bounds : (sys : System) (state : Machine) → IsReached sys state → length state.ack_counts ≡ length sys.flow.nodes
reached-bounds sys state r = (reached-each sys state r).1
