-- What `explain` prints is the machine's run too, and behind the lines of each recovery's cuts those of a certificate of them.
use Rattle.std.specs.Prelude.{◌≡◌, ℕ, List, [], ◌∷◌, ◌++◌, length, Option, IsSome}
use Rattle.fw_flow.specs.declared.step.Step.{Step}
use Rattle.fw_flow.specs.Dataflow.{Dataflow, System}
use Rattle.fw_schedule.specs.declared.item.Item.{Item}
use Rattle.fw_model.specs.Machine.{Machine, first_state}
use Rattle.fw_model.specs.Steps.{Outcome}
use Rattle.fw_keep.specs.Stored.{Records}
use Rattle.fw_running.specs.EffectText.{outcome_text}
use Rattle.fw_command.specs.Command.{Showing, by_effect, with_certificates, by_lines, by_reasons}
use Rattle.fw_run.specs.Ends.{AreKnown, PrintsOfRun, NoFaults, NoneLeft}
use Rattle.fw_run.specs.Headline.{PrintsRun}
use Rattle.fw_run.specs.Items.{ComesTo}
use Rattle.fw_run.specs.Printed.{done_line, idle_count}
use Rattle.fw_run.specs.Reports.{Report, came, not_taken, unswept, outcomes_in, reports_text, AreLinesOf, RunShown}

-- ---- texts

-- what `run` prints of items, where by what its store tells it is known what comes of them, is the text of the machine's run over them
abbrev pub RunPrintsMachine : Type 0
RunPrintsMachine = (records : Option Records) (sys : System) (items : List Item) (printed : List ℕ)
    → PrintsOfRun (IsSome records) NoFaults NoneLeft by_lines sys items printed → AreKnown by_lines (IsSome records) sys items
    → PrintsRun sys items printed

-- the items come to steps, the machine takes these from its first state, and of each of them this is told: the lines of what comes of it,
-- and exactly behind those of cuts the certificate that the trail of its state is; and last how many there were
pub record PrintsReasons (sys : System) (items : List Item) (printed : List ℕ) : Type 0 where
  pub steps : List Step
  pub last : Machine
  pub comes : ComesTo sys (first_state sys) items steps last
  pub reports : List Report
  pub shown : RunShown with_certificates sys (first_state sys) steps reports last
  pub text : printed ≡ reports_text 0 reports ++ done_line (length (outcomes_in reports)) (idle_count (outcomes_in reports))

-- so `explain` prints
abbrev pub ExplainPrintsReasons : Type 0
ExplainPrintsReasons = (records : Option Records) (sys : System) (items : List Item) (printed : List ℕ)
    → PrintsOfRun (IsSome records) NoFaults NoneLeft by_reasons sys items printed → AreKnown by_reasons (IsSome records) sys items
    → PrintsReasons sys items printed

-- ---- steps

-- the reports, each told by its effect alone
abbrev pub told_by_effect : Dataflow → List Report → List Report
told_by_effect flow [] = []
told_by_effect flow (came outcome lines ∷ reports) = came outcome (outcome_text flow outcome) ∷ told_by_effect flow reports
told_by_effect flow (not_taken ∷ reports) = not_taken ∷ told_by_effect flow reports
told_by_effect flow (unswept outcome ∷ reports) = unswept outcome ∷ told_by_effect flow reports

-- what is told with certificates is, but for these, what `run` tells of the same steps
abbrev pub ExplainIsRun : Type 0
ExplainIsRun = (sys : System) (state last : Machine) (steps : List Step) (reports : List Report)
    → RunShown with_certificates sys state steps reports last → RunShown by_effect sys state steps (told_by_effect sys.flow reports) last

-- what comes of a step in a state has one text, however it is shown
abbrev pub LinesAreOne : Type 0
LinesAreOne = (showing : Showing) (sys : System) (state : Machine) (outcome : Outcome) (one other : List ℕ)
    → AreLinesOf showing sys state outcome one → AreLinesOf showing sys state outcome other → one ≡ other
