-- What `explain` tells is what `run` tells, and more.
use Rattle.std.proofs.Common.{◌≡◌, inl, inr, ℕ, ◌+◌, List, [], ◌∷◌, ◌++◌, length, refl, sym, ◌∙◌, ap, subst, arith}
use Rattle.std.proofs.lemmas.List.{append-nil}
use Rattle.fw_flow.specs.declared.step.Step.{Step}
use Rattle.fw_flow.specs.Dataflow.{System}
use Rattle.fw_schedule.specs.declared.item.Item.{Item}
use Rattle.fw_schedule.specs.declared.item.Item.TheVariants.{One, Auto}
use Rattle.fw_model.specs.Machine.{Machine, first_state}
use Rattle.fw_run.proofs.EnduringLaws.{came_run}
use Rattle.fw_run.proofs.MachineTextLaws.{came-length, came-shown}
use Rattle.fw_run.proofs.ReportLaws.{faults-append, shown-on}
use Rattle.fw_run.specs.Enduring.{ItemEndures, ItemsEndure}
use Rattle.fw_run.specs.Printed.{idle_count, done_line}
use Rattle.fw_run.specs.Reports.{Report, came, not_taken, unswept, faults_in, outcomes_in, shown_in, reports_text, RunShown}
use Rattle.fw_run.specs.TellingMore.{ExplainIsRun, ExplainPrintsReasons}
use Rattle.fw_command.specs.Command.{Showing, with_certificates, by_reasons}

-- ---- steps

pub explain-is_run : ExplainIsRun
explain-is_run sys state last [] [] r = r
explain-is_run sys state last [] (report ∷ reports) r = absurd r
explain-is_run sys state last (step ∷ steps) [] r = absurd r
explain-is_run sys state last (step ∷ steps) (came outcome lines ∷ reports) r = (r.0, r.1, refl, explain-is_run sys r.0 last steps reports r.3)
explain-is_run sys state last (step ∷ steps) (not_taken ∷ reports) r = absurd r
explain-is_run sys state last (step ∷ steps) (unswept outcome ∷ reports) r = absurd r

-- ---- items

-- these reports of the steps are those
same-shown : (showing : Showing) (sys : System) (state last : Machine) (steps others : List Step) (reports told : List Report) → others ≡ steps → told ≡ reports
    → RunShown showing sys state steps reports last → RunShown showing sys state others told last
same-shown showing sys state last steps others reports told e f r =
    subst (λ (s : List Step). RunShown showing sys state s told last) (sym e) (subst (λ (rs : List Report). RunShown showing sys state steps rs last) (sym f) r)

-- an item in which the store does not fail is told by the steps that it takes
shown_item : (showing : Showing) (sys : System) (state last : Machine) (item : Item) (steps : List Step) (reports : List Report) → ItemEndures showing sys state item steps reports last
    → faults_in reports ≡ 0 → RunShown showing sys state steps reports last
shown_item showing sys state last (One step) steps reports (came o l, e, same) none =
    same-shown showing sys state last (step ∷ []) steps (came o l ∷ []) reports e.2 same (last, e.0, e.1, refl)
shown_item showing sys state last (One step) steps reports (not_taken, e, same) none = absurd (omega (arith, none, ap faults_in same))
shown_item showing sys state last (One step) steps reports (unswept o, e, same) none = absurd (omega (arith, none, ap faults_in same))
shown_item showing sys state last (Auto most) steps reports (shown, run, inl all) none = same-shown showing sys state last steps steps shown reports refl all.1 run
shown_item showing sys state last (Auto most) steps reports (shown, run, inr some) none =
    absurd (omega (arith, none, ap faults_in some.3, faults-append shown (not_taken ∷ [])))

shown_items : (showing : Showing) (sys : System) (state last : Machine) (items : List Item) (steps : List Step) (reports : List Report) → ItemsEndure showing sys state items steps reports last
    → faults_in reports ≡ 0 → RunShown showing sys state steps reports last
shown_items showing sys state last [] steps reports e none = same-shown showing sys state last [] steps [] reports e.0 e.1 e.2
shown_items showing sys state last (item ∷ items) steps reports e none =
    let parts : faults_in reports ≡ faults_in e.1 + faults_in e.4 = ap faults_in e.8 ∙ faults-append e.1 e.4 in
    let one = shown_item showing sys state e.2 item e.0 e.1 e.5 (omega (arith, none, parts)) in
    let rest = shown_items showing sys e.2 last items e.3 e.4 e.6 (omega (arith, none, parts)) in
    same-shown showing sys state last (e.0 ++ e.3) steps (e.1 ++ e.4) reports e.7 e.8 (shown-on showing sys state e.2 last e.0 e.3 e.1 e.4 one rest)

-- ---- the text

pub explain-prints : ExplainPrintsReasons
explain-prints records sys items printed p k =
    let whole = p.whole k in
    let r = whole.2.run in
    let none : faults_in r.reports ≡ 0 = whole.2.faults in
    let m = came_run by_reasons.course sys (first_state sys) items r none in
    let steps : 0 + length r.reports ≡ length (outcomes_in r.reports) = omega (arith, came-length r.reports none) in
    let idle : 0 + idle_count (shown_in r.reports) ≡ idle_count (outcomes_in r.reports) =
    let same = ap idle_count (came-shown r.reports none) in omega (arith, same) in
    record {
      steps = r.steps;
      last = r.last;
      comes = m.comes;
      reports = r.reports;
      shown = shown_items with_certificates sys (first_state sys) r.last items r.steps r.reports r.endured none;
      text = sym (append-nil printed) ∙ ap (λ (t : List ℕ). printed ++ t) (sym whole.1) ∙ sym whole.2.text
          ∙ ap (λ (n : ℕ). reports_text 0 r.reports ++ done_line n (0 + idle_count (shown_in r.reports))) steps
          ∙ ap (λ (n : ℕ). reports_text 0 r.reports ++ done_line (length (outcomes_in r.reports)) n) idle;
    }
