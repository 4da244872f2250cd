-- What comes of steps through faults of the store, and its lines.
use Rattle.std.specs.Prelude.{◌≡◌, ℕ, ◌+◌, Bool, true, false, List, [], ◌∷◌, ◌++◌, length, codes}
use Rattle.std.specs.Fmt.{decimal}
use Rattle.fw_flow.specs.declared.step.Step.{Step}
use Rattle.fw_flow.specs.Counting.{how_many}
use Rattle.fw_flow.specs.Dataflow.{System}
use Rattle.fw_model.specs.Machine.{Machine}
use Rattle.fw_model.specs.Steps.{Outcome, StepsTo}
use Rattle.fw_running.specs.EffectText.{outcome_text}
use Rattle.fw_command.specs.Command.{Showing, by_effect, with_certificates}
use Rattle.fw_run.specs.Explained.{IsToldBehind}

-- ---- reports

-- What came of a step: what the machine shows, by these lines; that the store failed and the step was not taken; or that the store
-- failed in the sweep of a collection, of which all else was done, and its outcome is not shown.
pub data Report : Type 0 where
  came : Outcome → List ℕ → Report
  not_taken : Report
  unswept : Outcome → Report

-- the store failed
abbrev pub is_fault : Report → Bool
is_fault (came outcome lines) = false
is_fault not_taken = true
is_fault (unswept outcome) = true

-- how often it did
abbrev pub faults_in : List Report → ℕ
faults_in reports = how_many is_fault reports

-- what came of the steps that the machine took
abbrev pub outcomes_in : List Report → List Outcome
outcomes_in [] = []
outcomes_in (came outcome lines ∷ reports) = outcome ∷ outcomes_in reports
outcomes_in (not_taken ∷ reports) = outcomes_in reports
outcomes_in (unswept outcome ∷ reports) = outcome ∷ outcomes_in reports

-- what of it is shown
abbrev pub shown_in : List Report → List Outcome
shown_in [] = []
shown_in (came outcome lines ∷ reports) = outcome ∷ shown_in reports
shown_in (not_taken ∷ reports) = shown_in reports
shown_in (unswept outcome ∷ reports) = shown_in reports

-- ---- what the machine shows

-- these are the lines of what comes of a step, in the state before it: those of its effect; and with certificates what is told behind them
abbrev pub AreLinesOf : Showing → System → Machine → Outcome → List ℕ → Type 0
AreLinesOf by_effect sys state outcome lines = lines ≡ outcome_text sys.flow outcome
AreLinesOf with_certificates sys state outcome lines =
    (behind : List ℕ) × IsToldBehind with_certificates sys state outcome behind × (lines ≡ outcome_text sys.flow outcome ++ behind)

-- From a state the machine takes the steps to the last one, and these are reports of what it shows: the store failed in none.
abbrev pub RunShown : Showing → System → Machine → List Step → List Report → Machine → Type 0
RunShown showing sys state [] [] last = last ≡ state
RunShown showing sys state [] (report ∷ reports) last = ⊥
RunShown showing sys state (step ∷ steps) [] last = ⊥
RunShown showing sys state (step ∷ steps) (came outcome lines ∷ reports) last =
    (next : Machine) × StepsTo sys state step next outcome × AreLinesOf showing sys state outcome lines × RunShown showing sys next steps reports last
RunShown showing sys state (step ∷ steps) (not_taken ∷ reports) last = ⊥
RunShown showing sys state (step ∷ steps) (unswept outcome ∷ reports) last = ⊥

-- ---- what is printed

-- `fault step NUMBER`
abbrev pub fault_line : ℕ → List ℕ
fault_line number = codes "fault step " ++ (decimal number ++ codes "\n")

-- the lines of a step of this number
abbrev pub report_text : ℕ → Report → List ℕ
report_text number (came outcome lines) = lines
report_text number not_taken = fault_line number
report_text number (unswept outcome) = fault_line number

-- the lines of steps that come after so many others
abbrev pub reports_text : ℕ → List Report → List ℕ
reports_text before [] = []
reports_text before (report ∷ reports) = report_text (before + 1) report ++ reports_text (before + 1) reports

-- The bytes are the lines of steps that come after so many others, but for those of the last one, of which they are first bytes.
pub record AreCutInLast (before : ℕ) (reports : List Report) (bytes : List ℕ) : Type 0 where
  pub shown : List Report
  pub last : Report
  pub parts : reports ≡ shown ++ last ∷ []
  pub some : List ℕ
  pub left : List ℕ
  pub lines : reports_text (before + length shown) (last ∷ []) ≡ some ++ left
  pub text : bytes ≡ reports_text before shown ++ some
