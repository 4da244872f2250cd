-- What comes of steps through faults of the store.
use Rattle.std.proofs.Common.{◌≡◌, ℕ, ◌+◌, Bool, true, false, List, [], ◌∷◌, ◌++◌, length, refl, sym, ◌∙◌, ap, subst, arith, append_assoc, cond}
use Rattle.fw_flow.specs.declared.step.Step.{Step}
use Rattle.fw_flow.specs.Dataflow.{System}
use Rattle.fw_flow.specs.WellFormed.{IsWellFormedSystem}
use Rattle.fw_model.proofs.GoingOn.{runs-go_on}
use Rattle.fw_model.specs.Machine.{Machine, first_state}
use Rattle.fw_model.specs.Reached.{IsReached}
use Rattle.fw_model.specs.Steps.{Outcome, StepsTo, Run}
use Rattle.fw_running.specs.EffectText.{outcome_text}
use Rattle.fw_run.proofs.ReasonLaws.{lines-with, some_told}
use Rattle.fw_run.specs.Reports.{Report, came, not_taken, unswept, is_fault, faults_in, outcomes_in, shown_in, reports_text, report_text, AreLinesOf, RunShown}
use Rattle.fw_command.specs.Command.{Showing}

-- ---- reports

pub outcomes_in-append : (reports others : List Report) → outcomes_in (reports ++ others) ≡ outcomes_in reports ++ outcomes_in others
outcomes_in-append [] others = refl
outcomes_in-append (came o l ∷ reports) others = ap (λ (os : List Outcome). o ∷ os) (outcomes_in-append reports others)
outcomes_in-append (not_taken ∷ reports) others = outcomes_in-append reports others
outcomes_in-append (unswept o ∷ reports) others = ap (λ (os : List Outcome). o ∷ os) (outcomes_in-append reports others)

pub shown_in-append : (reports others : List Report) → shown_in (reports ++ others) ≡ shown_in reports ++ shown_in others
shown_in-append [] others = refl
shown_in-append (came o l ∷ reports) others = ap (λ (os : List Outcome). o ∷ os) (shown_in-append reports others)
shown_in-append (not_taken ∷ reports) others = shown_in-append reports others
shown_in-append (unswept o ∷ reports) others = shown_in-append reports others

pub faults-append : (reports others : List Report) → faults_in (reports ++ others) ≡ faults_in reports + faults_in others
faults-append [] others = omega arith
faults-append (x ∷ reports) others = both (is_fault x) (faults_in (reports ++ others)) (faults_in reports) (faults_in others) (faults-append reports others)
  where
    both : (b : Bool) (n m k : ℕ) → n ≡ m + k → cond b (n + 1) n ≡ cond b (m + 1) m + k
    both true n m k e = omega (arith, e)
    both false n m k e = e

-- the lines of more steps are numbered on
pub reports_text-append : (before : ℕ) (reports others : List Report)
    → reports_text before (reports ++ others) ≡ reports_text before reports ++ reports_text (before + length reports) others
reports_text-append before [] others = ap (λ (n : ℕ). reports_text n others) (omega arith)
reports_text-append before (x ∷ reports) others =
    let first = report_text (before + 1) x in
    let same : (before + 1) + length reports ≡ before + length (x ∷ reports) = omega arith in
    ap (λ (t : List ℕ). first ++ t) (reports_text-append (before + 1) reports others)
    ∙ ap (λ (n : ℕ). first ++ (reports_text (before + 1) reports ++ reports_text n others)) same
    ∙ sym (append_assoc first (reports_text (before + 1) reports) (reports_text (before + length (x ∷ reports)) others))

-- ---- steps in which the store does not fail

-- they are a run of the machine
pub shown-run : (showing : Showing) (sys : System) (state last : Machine) (steps : List Step) (reports : List Report) → RunShown showing sys state steps reports last
    → Run sys state steps (outcomes_in reports) last
shown-run showing sys state last [] [] r = r
shown-run showing sys state last [] (x ∷ reports) r = absurd r
shown-run showing sys state last (step ∷ steps) [] r = absurd r
shown-run showing sys state last (step ∷ steps) (came o l ∷ reports) r = (r.0, r.1, shown-run showing sys r.0 last steps reports r.3)
shown-run showing sys state last (step ∷ steps) (not_taken ∷ reports) r = absurd r
shown-run showing sys state last (step ∷ steps) (unswept o ∷ reports) r = absurd r

pub shown-faults : (showing : Showing) (sys : System) (state last : Machine) (steps : List Step) (reports : List Report) → RunShown showing sys state steps reports last
    → faults_in reports ≡ 0
shown-faults showing sys state last [] [] r = refl
shown-faults showing sys state last [] (x ∷ reports) r = absurd r
shown-faults showing sys state last (step ∷ steps) [] r = absurd r
shown-faults showing sys state last (step ∷ steps) (came o l ∷ reports) r = shown-faults showing sys r.0 last steps reports r.3
shown-faults showing sys state last (step ∷ steps) (not_taken ∷ reports) r = absurd r
shown-faults showing sys state last (step ∷ steps) (unswept o ∷ reports) r = absurd r

-- they go on by others
pub shown-on : (showing : Showing) (sys : System) (state mid last : Machine) (steps more : List Step) (reports others : List Report)
    → RunShown showing sys state steps reports mid → RunShown showing sys mid more others last → RunShown showing sys state (steps ++ more) (reports ++ others) last
shown-on showing sys state mid last [] more [] others r s = subst (λ (m : Machine). RunShown showing sys m more others last) r s
shown-on showing sys state mid last [] more (x ∷ reports) others r s = absurd r
shown-on showing sys state mid last (step ∷ steps) more [] others r s = absurd r
shown-on showing sys state mid last (step ∷ steps) more (came o l ∷ reports) others r s =
    (r.0, r.1, r.2, shown-on showing sys r.0 mid last steps more reports others r.3 s)
shown-on showing sys state mid last (step ∷ steps) more (not_taken ∷ reports) others r s = absurd r
shown-on showing sys state mid last (step ∷ steps) more (unswept o ∷ reports) others r s = absurd r

-- of no steps there are no reports
pub no_reports : (showing : Showing) (sys : System) (state now : Machine) (steps : List Step) (reports : List Report) → steps ≡ [] → RunShown showing sys state steps reports now
    → reports ≡ []
no_reports showing sys state now [] [] e r = refl
no_reports showing sys state now [] (x ∷ reports) e r = absurd r
no_reports showing sys state now (s ∷ steps) reports e r = absurd (cc)

-- ---- lines

-- what comes of a step has lines, in each state to which steps lead
pub some_lines : (showing : Showing) (sys : System) → IsWellFormedSystem sys → (state : Machine) → IsReached sys state → (step : Step) (next : Machine) (outcome : Outcome)
    → StepsTo sys state step next outcome → (lines : List ℕ) × AreLinesOf showing sys state outcome lines
some_lines showing sys w state reached step next outcome t =
    let told = some_told showing sys w state reached step next outcome t in
    (outcome_text sys.flow outcome ++ told.0, lines-with showing sys state outcome told.0 told.1)

-- where a step leads steps lead too
pub reached-next : (sys : System) (state next : Machine) (step : Step) (outcome : Outcome) → IsReached sys state → StepsTo sys state step next outcome → IsReached sys next
reached-next sys state next step outcome r t =
    (r.0 ++ step ∷ [], r.1 ++ outcome ∷ [], runs-go_on sys (first_state sys) state next r.0 (step ∷ []) r.1 (outcome ∷ []) r.2 (next, t, refl))

pub reached-on : (sys : System) (state next : Machine) (steps : List Step) (outcomes : List Outcome) → IsReached sys state → Run sys state steps outcomes next → IsReached sys next
reached-on sys state next steps outcomes r t = (r.0 ++ steps, r.1 ++ outcomes, runs-go_on sys (first_state sys) state next r.0 steps r.1 outcomes r.2 t)

-- a run of the machine has reports
pub some_reports : (showing : Showing) (sys : System) → IsWellFormedSystem sys → (state last : Machine) → IsReached sys state → (steps : List Step) (outcomes : List Outcome)
    → Run sys state steps outcomes last → (reports : List Report) × RunShown showing sys state steps reports last
some_reports showing sys w state last reached [] [] r = ([], r)
some_reports showing sys w state last reached [] (o ∷ outcomes) r = absurd r
some_reports showing sys w state last reached (step ∷ steps) [] r = absurd r
some_reports showing sys w state last reached (step ∷ steps) (o ∷ outcomes) r =
    let lines = some_lines showing sys w state reached step r.0 o r.1 in
    let rest = some_reports showing sys w r.0 last (reached-next sys state r.0 step o reached r.1) steps outcomes r.2 in
    (came o lines.0 ∷ rest.0, (r.0, r.1, lines.1, rest.1))
