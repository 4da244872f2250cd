-- What is printed of a run by lines, in which the store did not fail, is the text of the machine's run over the items.
use Rattle.std.proofs.Common.{◌≡◌, inl, inr, ℕ, ◌+◌, List, [], ◌∷◌, ◌++◌, length, refl, sym, ◌∙◌, ap, arith}
use Rattle.std.proofs.lemmas.Grind.{flat_map-append}
use Rattle.std.proofs.lemmas.List.{append-nil}
use Rattle.fw_flow.specs.declared.step.Step.{Step}
use Rattle.fw_flow.specs.Dataflow.{Dataflow, System}
use Rattle.fw_schedule.specs.declared.item.Item.{Item}
use Rattle.fw_schedule.specs.declared.item.Item.TheVariants.{One, Auto}
use Rattle.fw_model.specs.Machine.{Machine, first_state}
use Rattle.fw_model.specs.Steps.{Outcome}
use Rattle.fw_running.specs.EffectText.{outcome_text}
use Rattle.fw_run.proofs.EnduringLaws.{came_run}
use Rattle.fw_run.proofs.ReportLaws.{outcomes_in-append, faults-append, reports_text-append}
use Rattle.fw_run.specs.Enduring.{ItemEndures, ItemsEndure}
use Rattle.fw_run.specs.Printed.{outcomes_text, idle_count, done_line, run_text}
use Rattle.fw_run.specs.Reports.{Report, came, not_taken, unswept, faults_in, outcomes_in, shown_in, reports_text, RunShown}
use Rattle.fw_run.specs.TellingMore.{RunPrintsMachine}
use Rattle.fw_command.specs.Command.{by_effect, by_lines}

-- ---- reports of no faults

pub came-shown : (reports : List Report) → faults_in reports ≡ 0 → shown_in reports ≡ outcomes_in reports
came-shown [] none = refl
came-shown (came o l ∷ reports) none = ap (λ (os : List Outcome). o ∷ os) (came-shown reports none)
came-shown (not_taken ∷ reports) none = absurd (omega (arith, none))
came-shown (unswept o ∷ reports) none = absurd (omega (arith, none))

pub came-length : (reports : List Report) → faults_in reports ≡ 0 → length reports ≡ length (outcomes_in reports)
came-length [] none = refl
came-length (came o l ∷ reports) none = omega (arith, came-length reports none)
came-length (not_taken ∷ reports) none = absurd (omega (arith, none))
came-length (unswept o ∷ reports) none = absurd (omega (arith, none))

-- ---- their lines

abbrev IsMachineText : System → ℕ → List Report → Type 0
IsMachineText sys before reports = reports_text before reports ≡ outcomes_text sys.flow (outcomes_in reports)

shown-text : (sys : System) (before : ℕ) (state last : Machine) (steps : List Step) (reports : List Report) → RunShown by_effect sys state steps reports last → IsMachineText sys before reports
shown-text sys before state last [] [] r = refl
shown-text sys before state last [] (x ∷ reports) r = absurd r
shown-text sys before state last (step ∷ steps) [] r = absurd r
shown-text sys before state last (step ∷ steps) (came o l ∷ reports) r =
    ap (λ (t : List ℕ). t ++ reports_text (before + 1) reports) r.2
    ∙ ap (λ (t : List ℕ). outcome_text sys.flow o ++ t) (shown-text sys (before + 1) r.0 last steps reports r.3)
shown-text sys before state last (step ∷ steps) (not_taken ∷ reports) r = absurd r
shown-text sys before state last (step ∷ steps) (unswept o ∷ reports) r = absurd r

same-text : (sys : System) (before : ℕ) (reports others : List Report) → reports ≡ others → IsMachineText sys before others → IsMachineText sys before reports
same-text sys before reports others e t = ap (reports_text before) e ∙ t ∙ ap (λ (rs : List Report). outcomes_text sys.flow (outcomes_in rs)) (sym e)

item-text : (sys : System) (before : ℕ) (state last : Machine) (item : Item) (steps : List Step) (reports : List Report) → ItemEndures by_effect sys state item steps reports last
    → faults_in reports ≡ 0 → IsMachineText sys before reports
item-text sys before state last (One step) steps reports (came o l, e, same) none =
    same-text sys before reports (came o l ∷ []) same (ap (λ (t : List ℕ). t ++ []) e.1)
item-text sys before state last (One step) steps reports (not_taken, e, same) none = absurd (omega (arith, none, ap faults_in same))
item-text sys before state last (One step) steps reports (unswept o, e, same) none = absurd (omega (arith, none, ap faults_in same))
item-text sys before state last (Auto most) steps reports (shown, run, inl all) none =
    same-text sys before reports shown all.1 (shown-text sys before state last steps shown run)
item-text sys before state last (Auto most) steps reports (shown, run, inr some) none =
    absurd (omega (arith, none, ap faults_in some.3, faults-append shown (not_taken ∷ [])))

items-text : (sys : System) (before : ℕ) (state last : Machine) (items : List Item) (steps : List Step) (reports : List Report) → ItemsEndure by_effect sys state items steps reports last
    → faults_in reports ≡ 0 → IsMachineText sys before reports
items-text sys before state last [] steps reports e none = same-text sys before reports [] e.1 refl
items-text sys before state last (item ∷ items) steps reports e none =
    let parts : faults_in reports ≡ faults_in e.1 + faults_in e.4 = ap faults_in e.8 ∙ faults-append e.1 e.4 in
    let one = item-text sys before state e.2 item e.0 e.1 e.5 (omega (arith, none, parts)) in
    let rest = items-text sys (before + length e.1) e.2 last items e.3 e.4 e.6 (omega (arith, none, parts)) in
    let lines : reports_text before (e.1 ++ e.4) ≡ outcomes_text sys.flow (outcomes_in e.1) ++ outcomes_text sys.flow (outcomes_in e.4) =
    reports_text-append before e.1 e.4
    ∙ ap (λ (t : List ℕ). t ++ reports_text (before + length e.1) e.4) one
    ∙ ap (λ (t : List ℕ). outcomes_text sys.flow (outcomes_in e.1) ++ t) rest in
    let outcomes : outcomes_text sys.flow (outcomes_in (e.1 ++ e.4)) ≡ outcomes_text sys.flow (outcomes_in e.1) ++ outcomes_text sys.flow (outcomes_in e.4) =
    ap (outcomes_text sys.flow) (outcomes_in-append e.1 e.4) ∙ flat_map-append (outcome_text sys.flow) (outcomes_in e.1) (outcomes_in e.4) in
    same-text sys before reports (e.1 ++ e.4) e.8 (lines ∙ sym outcomes)

-- ---- the text

pub machine_prints : RunPrintsMachine
machine_prints records sys items printed p k =
    let whole = p.whole k in
    let left = whole.0 in
    let r = whole.2.run in
    let none : faults_in r.reports ≡ 0 = whole.2.faults in
    let m = came_run by_lines.course sys (first_state sys) items r none in
    let lines = items-text sys 0 (first_state sys) r.last items r.steps r.reports r.endured none in
    let steps : 0 + length r.reports ≡ length (outcomes_in r.reports) = omega (arith, came-length r.reports none) in
    let idle : 0 + idle_count (shown_in r.reports) ≡ idle_count (outcomes_in r.reports) =
    let same = ap idle_count (came-shown r.reports none) in omega (arith, same) in
    record {
      steps = m.steps;
      last = m.last;
      comes = m.comes;
      outcomes = m.outcomes;
      run = m.run;
      text = sym (append-nil printed) ∙ ap (λ (t : List ℕ). printed ++ t) (sym whole.1) ∙ sym whole.2.text
          ∙ ap (λ (t : List ℕ). t ++ done_line (0 + length r.reports) (0 + idle_count (shown_in r.reports))) lines
          ∙ ap (λ (n : ℕ). outcomes_text sys.flow (outcomes_in r.reports) ++ done_line n (0 + idle_count (shown_in r.reports))) steps
          ∙ ap (λ (n : ℕ). outcomes_text sys.flow (outcomes_in r.reports) ++ done_line (length (outcomes_in r.reports)) n) idle;
    }
