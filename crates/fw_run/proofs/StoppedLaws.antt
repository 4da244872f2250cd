-- An item that was stopped.
use Rattle.std.proofs.Common.{◌≡◌, inl, ℕ, ◌+◌, ◌-◌, List, [], ◌++◌, length, Option, Some, None, Err, refl, sym, ◌∙◌, ap, subst, arith}
use Rattle.std.proofs.lemmas.Bool.{false≢true}
use Rattle.std.specs.Prelude.{IsSome}
use Rattle.fw_outside.specs.declared.fault.OutFault.TheVariants as output
use Rattle.fw_outside.specs.Outside.{SinkView}
use Rattle.fw_flow.specs.declared.step.Step.{Step}
use Rattle.fw_flow.specs.Dataflow.{System}
use Rattle.fw_flow.specs.WellFormed.{IsWellFormedSystem}
use Rattle.fw_schedule.specs.declared.item.Item.{Item}
use Rattle.fw_schedule.specs.declared.item.Item.TheVariants.{One, Auto}
use Rattle.fw_model.specs.Machine.{Machine}
use Rattle.fw_model.specs.Reached.{IsReached}
use Rattle.fw_keep.specs.Stored.{Records}
use Rattle.fw_run.proofs.EnduringLaws.{endured-taken, may_none}
use Rattle.fw_run.proofs.ItemLaws.{item-run}
use Rattle.fw_engine.specs.declared.engine.Engine.{Engine}
use Rattle.fw_run.proofs.ItemPrintLaws.{IsNone, auto_on}
use Rattle.fw_run.proofs.ReportLaws.{no_reports, reached-on, reports_text-append, shown-faults, shown-on, shown-run, some_reports}
use Rattle.fw_run.proofs.TakenLaws.{taken_nothing}
use Rattle.fw_run.specs.declared.fault.RunFault.TheVariants as stop
use Rattle.fw_run.specs.declared.tally.StepCounts.{StepCounts}
use Rattle.fw_run.specs.Performing.{IsItemBegun, IsItemStopped, PrintsItem}
use Rattle.fw_run.specs.Reports.{Report, faults_in, outcomes_in, reports_text}
use Rattle.fw_command.specs.Command.{Course, Showing, up_to_fault}

-- where an item was stopped it goes on, and the store does not fail
pub stopped_begun : (course : Course) (sys : System) (item : Item) (state : Machine) (tally counts : StepCounts) (bytes : List ℕ) (IsSo : Machine → Type 0) (IsCount : ℕ → Type 0) → IsCount 0
    → IsWellFormedSystem sys → IsReached sys state → IsItemStopped course.showing sys state item tally counts bytes IsSo → IsItemBegun course sys state item tally bytes IsCount
stopped_begun course sys (One step) state tally counts bytes IsSo IsCount none w reached t =
    let found = endured-taken course sys w state reached (One step) (item-run sys w reached.0 reached.1 state reached.2 (One step)) in
    let nothing : t.reports ≡ [] = no_reports course.showing sys state t.now t.begun t.reports t.begins.0 t.run in
    record {
      of_item = found.0;
      others = reports_text tally.steps found.0.reports;
      text = sym (ap (λ (b : List ℕ). b ++ reports_text tally.steps found.0.reports) (t.text ∙ ap (λ (rs : List Report). reports_text tally.steps rs) nothing));
      faults = subst IsCount (sym found.1) none;
    }
stopped_begun course sys (Auto most) state tally counts bytes IsSo IsCount none w reached t =
    let showing = course.showing in
    let there = reached-on sys state t.now t.begun (outcomes_in t.reports) reached (shown-run showing sys state t.now t.begun t.reports t.run) in
    let rest = item-run sys w there.0 there.1 t.now there.2 (Auto (most - length t.begun)) in
    let told = some_reports showing sys w t.now rest.last there rest.steps rest.outcomes rest.run in
    let all : length t.begun + (most - length t.begun) ≡ most = omega (arith, t.begins.0) in
    let run = shown-on showing sys state t.now rest.last t.begun rest.steps t.reports told.0 t.run told.1 in
    let never = shown-faults showing sys state rest.last (t.begun ++ rest.steps) (t.reports ++ told.0) run in
    let behind = reports_text (tally.steps + length t.reports) told.0 in
    record {
      of_item = record {
        steps = t.begun ++ rest.steps;
        reports = t.reports ++ told.0;
        last = rest.last;
        endures = (t.reports ++ told.0, run, inl (auto_on sys state t.now rest.last t.begun rest.steps (most - length t.begun) most t.begins.1 rest.comes all, refl));
        run = shown-run showing sys state rest.last (t.begun ++ rest.steps) (t.reports ++ told.0) run;
        may = may_none course.goes_on (faults_in (t.reports ++ told.0)) never;
      };
      others = behind;
      text = reports_text-append tally.steps t.reports told.0 ∙ ap (λ (b : List ℕ). b ++ behind) (sym t.text);
      faults = subst IsCount (sym never) none;
    }

-- memory was refused before the step was taken
pub step_refused : (showing : Showing) (engine : Engine) (records : Option Records) (step : Step) (tally : StepCounts) (view : SinkView)
    → PrintsItem (up_to_fault showing) engine records (One step) tally IsNone (Err (stop.Out output.NoMemory)) engine records tally view view
step_refused showing engine records step tally view = record {
  bytes = [];
  taken = taken_nothing view;
  does = λ sys state st trusts.
      let w = st.apart.well_formed in
      let reached = st.apart.reached in
      let found = endured-taken (up_to_fault showing) sys w state reached (One step) (item-run sys w reached.0 reached.1 state reached.2 (One step)) in
      (record { of_item = found.0; others = reports_text tally.steps found.0.reports; text = refl; faults = found.1 }, λ failed. absurd (cc));
}

-- nothing is told where no records are
pub none_told : (records : Option Records) → records ≡ None → IsSome records → ⊥
none_told None e told = absurd (false≢true told)
none_told (Some held) e told = absurd (cc)
