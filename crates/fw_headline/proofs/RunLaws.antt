-- Each list of steps of a well-formed system has exactly one run from its first state.
use Rattle.std.proofs.Common.{◌≡◌, List, [], ◌∷◌, ◌++◌, refl, sym, ◌∙◌, ap, subst}
use Rattle.fw_flow.specs.declared.step.Step.{Step}
use Rattle.fw_flow.specs.Dataflow.{System}
use Rattle.fw_flow.specs.WellFormed.{IsWellFormedSystem}
use Rattle.fw_headline.specs.Right.{IsTheRun}
use Rattle.fw_model.proofs.ChoosingLaws.{reached-one_next}
use Rattle.fw_model.proofs.GoingOn.{runs-go_on}
use Rattle.fw_model.proofs.OneNextLaws.{one_next}
use Rattle.fw_model.specs.Machine.{Machine, first_state}
use Rattle.fw_model.specs.Steps.{Outcome, Run}

-- steps have a run from each state to which others lead from the first one
run-exists : (sys : System) → IsWellFormedSystem sys → (before : List Step) (earlier : List Outcome) (state : Machine) → Run sys (first_state sys) before earlier state
    → (steps : List Step) → (outcomes : List Outcome) × (last : Machine) × Run sys state steps outcomes last
run-exists sys w before earlier state r [] = ([], state, refl)
run-exists sys w before earlier state r (step ∷ steps) =
    let next = reached-one_next sys w before earlier state r step in
    let further = runs-go_on sys (first_state sys) state next.0 before (step ∷ []) earlier (next.1 ∷ []) r (next.0, next.2.steps, refl) in
    let rest = run-exists sys w (before ++ step ∷ []) (earlier ++ next.1 ∷ []) next.0 further steps in
    (next.1 ∷ rest.0, rest.1, (next.0, next.2.steps, rest.2))

-- two runs of the same steps from a state are one
pub run-once : (sys : System) (state : Machine) (steps : List Step) (one other : List Outcome) (last final : Machine)
    → Run sys state steps one last → Run sys state steps other final → (other ≡ one) × (final ≡ last)
run-once sys state [] [] [] last final r s = (refl, s ∙ sym r)
run-once sys state [] [] (o ∷ other) last final r s = absurd s
run-once sys state [] (o ∷ one) other last final r s = absurd r
run-once sys state (step ∷ steps) [] other last final r s = absurd r
run-once sys state (step ∷ steps) (o ∷ one) [] last final r s = absurd s
run-once sys state (step ∷ steps) (o ∷ one) (q ∷ other) last final r s =
    let next = one_next sys state step s.0 r.0 q o s.1 r.1 in
    let rest = run-once sys r.0 steps one other last final r.2 (subst (λ m. Run sys m steps other final) next.0 s.2) in
    (ap (λ x. x ∷ other) next.1 ∙ ap (λ xs. o ∷ xs) rest.0, rest.1)

-- a run is the one of its steps
pub the-run : (sys : System) (steps : List Step) (outcomes : List Outcome) (state : Machine) → Run sys (first_state sys) steps outcomes state
    → IsTheRun sys steps outcomes state
the-run sys steps outcomes state r = record { run = r; only = λ others other s. run-once sys (first_state sys) steps outcomes others state other r s }

pub one-run : (sys : System) → IsWellFormedSystem sys → (steps : List Step)
    → (outcomes : List Outcome) × (state : Machine) × IsTheRun sys steps outcomes state
one-run sys w steps =
    let run = run-exists sys w [] [] (first_state sys) refl steps in
    (run.0, run.1, the-run sys steps run.0 run.1 run.2)
