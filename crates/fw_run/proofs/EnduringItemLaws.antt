-- An item that is taken through a fault of the store, or up to it, where an engine takes its steps.
use Rattle.std.proofs.Common.{◌≡◌, inr, ℕ, ◌+◌, true, List, [], ◌∷◌, ◌++◌, length, Option, Result, Ok, Err, refl, sym, ◌∙◌, ap, subst, arith, append_assoc}
use Rattle.std.proofs.lemmas.List.{append-nil, length-append}
use Rattle.std.specs.Result.{IsErrOf}
use Rattle.fw_outside.specs.declared.fault.OutFault.{OutFault}
use Rattle.fw_outside.specs.Outside.{SinkView}
use Rattle.fw_flow.specs.declared.step.Step.{Step}
use Rattle.fw_flow.specs.declared.step.Step.TheVariants.{Inject, Deliver, Notify, Progress, Checkpoint, Persist, Fail, Recover, Collect, Ack}
use Rattle.fw_flow.specs.Dataflow.{System}
use Rattle.fw_schedule.specs.declared.item.Item.{Item}
use Rattle.fw_schedule.specs.declared.item.Item.TheVariants.{One, Auto}
use Rattle.fw_model.specs.Machine.{Machine}
use Rattle.fw_model.specs.Steps.{Run}
use Rattle.fw_keep.specs.Stored.{Records}
use Rattle.fw_running.specs.declared.fault.EngineFault.TheVariants as fault
use Rattle.fw_running.specs.Steps.{MayCallStore, NeedsStore, IsLeftBy}
use Rattle.fw_engine.specs.declared.engine.Engine.{Engine}
use Rattle.fw_engine.specs.Engine.{StandsFor}
use Rattle.fw_run.proofs.EnduringLaws.{may_none, any_may}
use Rattle.fw_run.proofs.ReportLaws.{outcomes_in-append, shown_in-append, faults-append, reports_text-append, shown-run, shown-faults, no_reports}
use Rattle.fw_run.proofs.TallyLaws.{counted-fault}
use Rattle.fw_command.proofs.WritingLaws.{written_more}
use Rattle.fw_run.proofs.TakenLaws.{taken_part, taken_more}
use Rattle.fw_run.specs.declared.fault.RunFault.{RunFault}
use Rattle.fw_run.specs.declared.fault.RunFault.TheVariants as stop
use Rattle.fw_run.specs.declared.tally.StepCounts.{StepCounts}
use Rattle.fw_run.specs.Enduring.{Endures, EnduredItem, RoseBy}
use Rattle.fw_run.specs.Fault.{faults_after_run}
use Rattle.fw_run.specs.Reports.{Report, not_taken, unswept, faults_in, outcomes_in, shown_in, fault_line, reports_text}
use Rattle.fw_run.specs.Performing.{IsItemStopped, IsCountAt, PrintsItem}
use Rattle.fw_run.specs.Stopping.{IsPartOf, MayCallIn, IsLeftIn}
use Rattle.fw_run.specs.Tallies.{tally_shown, with_fault, with_tally}
use Rattle.fw_command.specs.Command.{Showing, Course, up_to_fault}
use Rattle.fw_command.specs.Writing.{IsWritten, IsCutOff}

-- ---- where the store fails

-- The store failed in a step of the item, in a run that goes on; these are the lines of the steps, the last of which tells the fault, and
-- so they are counted; and of the state to which the item leads this is true.
pub record IsItemFaulted (showing : Showing) (sys : System) (state : Machine) (item : Item) (old counts : StepCounts) (bytes : List ℕ) (IsSo : Machine → Type 0) : Type 0 where
  pub of_item : EnduredItem (record { goes_on = true; showing = showing }) sys state item
  pub text : reports_text old.steps of_item.reports ≡ bytes ++ fault_line (counts.steps + 1)
  pub shown : List Report
  pub failed : Report
  pub parts : of_item.reports ≡ shown ++ failed ∷ []
  pub lines : bytes ≡ reports_text old.steps shown
  pub line : reports_text (old.steps + length shown) (failed ∷ []) ≡ fault_line (counts.steps + 1)
  pub counted : with_fault counts ≡ with_tally old (tally_shown of_item.reports)
  pub once : faults_in of_item.reports ≡ 1
  pub so : IsSo of_item.last

-- a step in which the store fails leads where it leaves the engine
pub record IsStepFaulted (showing : Showing) (sys : System) (state : Machine) (step : Step) (IsSo : Machine → Type 0) : Type 0 where
  pub steps : List Step
  pub report : Report
  pub last : Machine
  pub endures : Endures showing sys state step steps report last
  pub run : Run sys state steps (outcomes_in (report ∷ [])) last
  pub line : (before : ℕ) → reports_text before (report ∷ []) ≡ fault_line (before + 1)
  pub unseen : shown_in (report ∷ []) ≡ []
  pub once : faults_in (report ∷ []) ≡ 1
  pub so : IsSo last

-- a step that is not done
step_failed : (showing : Showing) (sys : System) (state : Machine) (step : Step) (IsSo : Machine → Type 0) → MayCallStore sys.flow step → NeedsStore sys state step → (step ≡ Collect → ⊥) → IsSo state
    → IsStepFaulted showing sys state step IsSo
step_failed showing sys state step IsSo calls needs other so = record {
  steps = [];
  report = not_taken;
  last = state;
  endures = (calls, needs, other, refl, refl);
  run = refl;
  line = λ before. append-nil (fault_line (before + 1));
  unseen = refl;
  once = refl;
  so = so;
}

step_faulted : (showing : Showing) (sys : System) (state : Machine) (step : Step) (IsSo : Machine → Type 0) → MayCallStore sys.flow step → IsLeftBy sys state step IsSo → IsStepFaulted showing sys state step IsSo
step_faulted showing sys state (Inject s) IsSo calls l = absurd calls
step_faulted showing sys state (Deliver e at) IsSo calls l = step_failed showing sys state (Deliver e at) IsSo calls l.0 (λ e. absurd (cc)) l.1
step_faulted showing sys state (Notify p at) IsSo calls l = step_failed showing sys state (Notify p at) IsSo calls l.0 (λ e. absurd (cc)) l.1
step_faulted showing sys state Progress IsSo calls l = step_failed showing sys state Progress IsSo calls l.0 (λ e. absurd (cc)) l.1
step_faulted showing sys state (Checkpoint p) IsSo calls l = step_failed showing sys state (Checkpoint p) IsSo calls l.0 (λ e. absurd (cc)) l.1
step_faulted showing sys state Persist IsSo calls l = absurd calls
step_faulted showing sys state (Fail ps) IsSo calls l = absurd calls
step_faulted showing sys state Recover IsSo calls l = step_failed showing sys state Recover IsSo calls l.0 (λ e. absurd (cc)) l.1
step_faulted showing sys state Collect IsSo calls l = record {
  steps = Collect ∷ [];
  report = unswept l.1;
  last = l.0;
  endures = (refl, l.2, refl);
  run = (l.0, l.2, refl);
  line = λ before. append-nil (fault_line (before + 1));
  unseen = refl;
  once = refl;
  so = l.3;
}
step_faulted showing sys state (Ack o) IsSo calls l = absurd calls

item_faulted : (showing : Showing) (sys : System) (state : Machine) (item : Item) (old counts : StepCounts) (bytes : List ℕ) (P : Machine → Type 0) → MayCallIn sys.flow item
    → (t : IsItemStopped showing sys state item old counts bytes (λ now. IsLeftIn sys now item P)) → IsItemFaulted showing sys state item old counts bytes P
item_faulted showing sys state (One step) old counts bytes P calls t =
    let left : IsLeftBy sys state step P = subst (λ (m : Machine). IsLeftBy sys m step P) t.begins.1 t.so in
    let f = step_faulted showing sys state step P calls left in
    let none : t.reports ≡ [] = no_reports showing sys state t.now t.begun t.reports t.begins.0 t.run in
    let steps : counts.steps ≡ old.steps + 0 = ap (λ (c : StepCounts). c.steps) t.counted ∙ ap (λ (rs : List Report). old.steps + length rs) none in
    let nothing : bytes ≡ [] = t.text ∙ ap (λ (rs : List Report). reports_text old.steps rs) none in
    let number : old.steps + 1 ≡ counts.steps + 1 = omega (arith, steps) in
    let here : (old.steps + 0) + 1 ≡ counts.steps + 1 = omega (arith, steps) in
    let more : faults_in (f.report ∷ []) ≡ faults_in t.reports + 1 = f.once ∙ ap (λ (rs : List Report). faults_in rs + 1) (sym none) in
    record {
      of_item = record { steps = f.steps; reports = f.report ∷ []; last = f.last; endures = (f.report, f.endures, refl); run = f.run; may = tt };
      text = f.line old.steps ∙ ap fault_line number ∙ ap (λ (b : List ℕ). b ++ fault_line (counts.steps + 1)) (sym nothing);
      shown = [];
      failed = f.report;
      parts = refl;
      lines = nothing;
      line = f.line (old.steps + 0) ∙ ap fault_line here;
      counted = counted-fault old counts t.reports (f.report ∷ []) t.counted (f.unseen ∙ ap shown_in (sym none)) (ap (λ (rs : List Report). length rs + 1) (sym none)) more;
      once = f.once;
      so = f.so;
    }
item_faulted showing sys state (Auto most) old counts bytes P calls t =
    let steps : counts.steps ≡ old.steps + length t.reports = ap (λ (c : StepCounts). c.steps) t.counted in
    let all : List Report = t.reports ++ not_taken ∷ [] in
    let taken : outcomes_in all ≡ outcomes_in t.reports = outcomes_in-append t.reports (not_taken ∷ []) ∙ append-nil (outcomes_in t.reports) in
    let seen : shown_in all ≡ shown_in t.reports = shown_in-append t.reports (not_taken ∷ []) ∙ append-nil (shown_in t.reports) in
    let number : (old.steps + length t.reports) + 1 ≡ counts.steps + 1 = omega (arith, steps) in
    let last : reports_text (old.steps + length t.reports) (not_taken ∷ []) ≡ fault_line (counts.steps + 1) = append-nil (fault_line ((old.steps + length t.reports) + 1)) ∙ ap fault_line number in
    let never = shown-faults showing sys state t.now t.begun t.reports t.run in
    record {
      of_item = record {
        steps = t.begun;
        reports = all;
        last = t.now;
        endures = (t.reports, t.run, inr (t.begins.0, t.begins.1, t.so.0, refl));
        run = subst (λ os. Run sys state t.begun os t.now) (sym taken) (shown-run showing sys state t.now t.begun t.reports t.run);
        may = tt;
      };
      text = reports_text-append old.steps t.reports (not_taken ∷ [])
          ∙ ap (λ (b : List ℕ). b ++ reports_text (old.steps + length t.reports) (not_taken ∷ [])) (sym t.text)
          ∙ ap (λ (b : List ℕ). bytes ++ b) last;
      shown = t.reports;
      failed = not_taken;
      parts = refl;
      lines = t.text;
      line = last;
      counted = counted-fault old counts t.reports all t.counted seen (length-append t.reports (not_taken ∷ [])) (faults-append t.reports (not_taken ∷ []));
      once = faults-append t.reports (not_taken ∷ []) ∙ ap (λ (n : ℕ). n + 1) never;
      so = t.so.1;
    }

-- ---- what is printed of an item

-- an answer with a fault that is the same
pub fault_of_answer : (f g : RunFault) → f ≡ g → IsErrOf {T = Unit {0}} (Err f) g
fault_of_answer f g e = ap with_fault_of e
  where
    with_fault_of : RunFault → Result (Unit {0}) RunFault
    with_fault_of x = Err x

-- all of an item was begun
part_of-itself : (item : Item) → IsPartOf item item
part_of-itself (One step) = refl
part_of-itself (Auto most) = (most, omega arith, refl)

-- an item of which no fault is counted is one of each run
abbrev of_any : (course : Course) (sys : System) (state : Machine) (item : Item) → EnduredItem (up_to_fault course.showing) sys state item → EnduredItem course sys state item
of_any course sys state item e =
    record { steps = e.steps; reports = e.reports; last = e.last; endures = e.endures; run = e.run; may = may_none course.goes_on (faults_in e.reports) e.may }

-- the item was taken, and the store did not fail
pub through-taken : (course : Course) (old new : Engine) (before after : Option Records) (item : Item) (counted counts : StepCounts) (Never IsCount : ℕ → Type 0) (value : Unit {0}) (first last : SinkView)
    → PrintsItem (up_to_fault course.showing) old before item counted Never (Ok value) new after counts first last
    → PrintsItem course old before item counted IsCount (Ok value) new after counts first last
through-taken course old new before after item counted counts Never IsCount value first last p = record {
  bytes = p.bytes;
  taken = p.taken;
  does = λ sys state st trusts.
      let t = p.does sys state st trusts in
      record { of_item = of_any course sys state item t.of_item; text = t.text; counted = t.counted; stands = t.stands; swept = t.swept };
}

-- how often the store failed where it does not end the run
pub stopped_count : (f : RunFault) (before after : ℕ) → after ≡ faults_after_run {T = Unit {0}} (Err f) before → IsCountAt f (RoseBy before after) 0
stopped_count (stop.Out f) before after e = e
stopped_count (stop.Engine fault.StoreFault) before after e = tt
stopped_count (stop.Engine (fault.Damaged id)) before after e = e
stopped_count (stop.Engine fault.NoMemory) before after e = e

-- the item was not taken whole
pub through-stopped : (course : Course) (f : RunFault) (old new : Engine) (before after : Option Records) (item : Item) (counted counts : StepCounts) (Never IsCount : ℕ → Type 0) (first last : SinkView)
    → IsCountAt f IsCount 0 → PrintsItem (up_to_fault course.showing) old before item counted Never (Err f) new after counts first last
    → PrintsItem course old before item counted IsCount (Err f) new after counts first last
through-stopped course (stop.Out f) old new before after item counted counts Never IsCount first last none p = record {
  bytes = p.bytes;
  taken = p.taken;
  does = λ sys state st trusts.
      let d = p.does sys state st trusts in
      let b = d.0 in (
        record { of_item = of_any course sys state item b.of_item; others = b.others; text = b.text; faults = subst IsCount (sym b.of_item.may) none },
        λ failed.
            let c = d.1 failed in
            record {
              part = c.part;
              begun = c.begun;
              of_item = of_any course sys state c.part c.of_item;
              cut = c.cut;
              faults = subst IsCount (sym c.of_item.may) none;
              stands = c.stands;
              swept = c.swept;
            },
      );
}
through-stopped course (stop.Engine f) old new before after item counted counts Never IsCount first last none p = record {
  bytes = p.bytes;
  taken = p.taken;
  does = λ sys state st. ((p.does sys state st).0, none);
}

-- an item through a fault is one of a run that goes on
abbrev of_on : (course : Course) (sys : System) (state : Machine) (item : Item) → course.goes_on ≡ true
    → EnduredItem (record { goes_on = true; showing = course.showing }) sys state item → EnduredItem course sys state item
of_on course sys state item on e =
    record { steps = e.steps; reports = e.reports; last = e.last; endures = e.endures; run = e.run; may = any_may course.goes_on (faults_in e.reports) on }

-- the store failed in the item, and the line that tells it was written
pub through-fault : (course : Course) (old new : Engine) (before after : Option Records) (item : Item) (counted counts : StepCounts) (Never IsCount : ℕ → Type 0) (value : Unit {0}) (first mid last : SinkView)
    → course.goes_on ≡ true → ((sys : System) (state : Machine) → StandsFor sys old before state → MayCallIn sys.flow item)
    → PrintsItem (up_to_fault course.showing) old before item counted Never (Err (stop.Engine fault.StoreFault)) new after counts first mid → IsWritten (fault_line (counts.steps + 1)) mid last
    → PrintsItem course old before item counted IsCount (Ok value) new after (with_fault counts) first last
through-fault course old new before after item counted counts Never IsCount value first mid last on calls p w = record {
  bytes = p.bytes ++ fault_line (counts.steps + 1);
  taken = written_more p.bytes (fault_line (counts.steps + 1)) first mid last p.taken w;
  does = λ sys state st trusts.
      let f = item_faulted course.showing sys state item counted counts p.bytes (StandsFor sys new after) (calls sys state st) (p.does sys state st).0 in
      record { of_item = of_on course sys state item on f.of_item; text = sym f.text; counted = f.counted; stands = f.so; swept = λ is none. absurd (omega (arith, f.once, none)) };
}

-- or the line was cut off
pub through-fault_cut : (course : Course) (old new : Engine) (before after : Option Records) (item : Item) (counted counts : StepCounts) (Never IsCount : ℕ → Type 0) (f : OutFault) (first mid last : SinkView)
    → course.goes_on ≡ true → ((sys : System) (state : Machine) → StandsFor sys old before state → MayCallIn sys.flow item)
    → PrintsItem (up_to_fault course.showing) old before item counted Never (Err (stop.Engine fault.StoreFault)) new after counts first mid → IsCutOff (fault_line (counts.steps + 1)) f mid last
    → IsCount 1 → (now : StepCounts) → PrintsItem course old before item counted IsCount (Err (stop.Out f)) new after now first last
through-fault_cut course old new before after item counted counts Never IsCount f first mid last on calls p c once now =
    let line = fault_line (counts.steps + 1) in
    let at = taken_part line f mid last c in
    record {
      bytes = p.bytes ++ at.one;
      taken = taken_more p.bytes at.one f first mid last p.taken at.taken;
      does = λ sys state st trusts.
          let g = item_faulted course.showing sys state item counted counts p.bytes (StandsFor sys new after) (calls sys state st) (p.does sys state st).0 in (
            record {
              of_item = of_on course sys state item on g.of_item;
              others = at.other;
              text = g.text ∙ ap (λ (t : List ℕ). p.bytes ++ t) at.parts ∙ sym (append_assoc p.bytes at.one at.other);
              faults = subst IsCount (sym g.once) once;
            },
            λ failed. record {
              part = item;
              begun = part_of-itself item;
              of_item = of_on course sys state item on g.of_item;
              cut = record {
                shown = g.shown;
                last = g.failed;
                parts = g.parts;
                some = at.one;
                left = at.other;
                lines = g.line ∙ at.parts;
                text = ap (λ (b : List ℕ). b ++ at.one) g.lines;
              };
              faults = subst IsCount (sym g.once) once;
              stands = g.so;
              swept = λ is none. absurd (omega (arith, g.once, none));
            },
          );
    }
