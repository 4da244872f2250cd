-- What was printed of an item, where an engine took its steps, up to the first fault of its store.
use Rattle.std.proofs.Common.{◌≡◌, inl, ℕ, zero, suc, ◌+◌, ◌-◌, ◌^◌, ◌<◌, ◌≤◌, true, false, List, [], ◌∷◌, ◌++◌, length, Option, None, Ok, Err, refl, sym, ◌∙◌, ap, subst, arith, append_assoc}
use Rattle.std.proofs.lemmas.Bool.{false≢true, true≢false}
use Rattle.std.proofs.lemmas.List.{append-nil, length-append}
use Rattle.std.specs.Result.{IsErrOf}
use Rattle.fw_outside.specs.declared.fault.OutFault.{OutFault}
use Rattle.fw_outside.specs.Outside.{SinkView}
use Rattle.fw_flow.specs.declared.step.Step.{Step}
use Rattle.fw_flow.specs.declared.step.Step.TheVariants.{Collect, Recover}
use Rattle.fw_flow.specs.Dataflow.{Dataflow, System}
use Rattle.fw_schedule.specs.declared.item.Item.{Item}
use Rattle.fw_schedule.specs.declared.item.Item.TheVariants.{One, Auto}
use Rattle.fw_schedule.specs.Schedule.{steps_in}
use Rattle.fw_model.proofs.AutoLaws.{auto-goes_on}
use Rattle.fw_model.specs.Auto.{auto_steps, TakesFirst, IsAutoRun}
use Rattle.fw_model.specs.Machine.{Machine}
use Rattle.fw_model.specs.Steps.{Effect, Outcome, did}
use Rattle.fw_keep.specs.Stored.{Records}
use Rattle.fw_running.specs.declared.fault.EngineFault.{EngineFault}
use Rattle.fw_running.specs.declared.fault.EngineFault.TheVariants as fault
use Rattle.fw_running.specs.declared.stepped.Stepped.{Stepped}
use Rattle.fw_running.specs.declared.stepped.Stepped.TheVariants.{Did, Idle}
use Rattle.fw_running.specs.EffectText.{outcome_text}
use Rattle.fw_running.specs.Steps.{effect_of, outcome_of, FirstMayCall, IsStepEnabled, Trusts, IsLeftBy}
use Rattle.fw_engine.specs.declared.engine.Engine.{Engine}
use Rattle.fw_engine.specs.Engine.{flow_of, keep_of, StandsFor, FollowsStep, FollowsFirstStep}
use Rattle.fw_run.proofs.ItemLaws.{item-run}
use Rattle.fw_run.proofs.ReasonLaws.{auto-told, lines-with}
use Rattle.fw_run.proofs.ReportLaws.{reports_text-append, shown-run, shown-faults, shown-on, some_reports}
use Rattle.fw_run.proofs.TallyLaws.{counted-none, counted-more}
use Rattle.fw_command.proofs.WritingLaws.{written_nothing, written_more}
use Rattle.fw_run.proofs.TakenLaws.{taken_part, taken_more}
use Rattle.fw_run.specs.declared.fault.RunFault.TheVariants as stop
use Rattle.fw_run.specs.declared.tally.StepCounts.{StepCounts}
use Rattle.fw_run.specs.Enduring.{EnduredItem}
use Rattle.fw_run.specs.Explained.{AreReasonsFor}
use Rattle.fw_run.specs.Performing.{IsLeftAfter, IsCountAt, PrintsItem, AreFew}
use Rattle.fw_run.specs.Printed.{is_idle}
use Rattle.fw_run.specs.Reports.{Report, came, reports_text, RunShown}
use Rattle.fw_run.specs.Tallies.{tally_of, tally_shown, with_tally, AreOfSteps}
use Rattle.fw_command.specs.Command.{Showing, up_to_fault}
use Rattle.fw_command.specs.Writing.{IsWritten, IsCutOff}

-- no fault of the store is counted
abbrev pub IsNone : ℕ → Type 0
IsNone times = times ≡ 0

none_at : (f : EngineFault) → IsCountAt (stop.Engine f) IsNone 0
none_at fault.StoreFault = tt
none_at (fault.Damaged id) = refl
none_at fault.NoMemory = refl

-- ---- a step

-- an item that is one step is no other one
same_step : (step other : Step) → One step ≡ One other → step ≡ other
same_step step other is = cc

-- what a fault of the engine in a step leaves
step_left : (old new : Engine) (before after : Option Records) (step : Step) (f : EngineFault)
    → ((sys : System) (state : Machine) → StandsFor sys old before state → IsErrOf {T = Stepped} (Err f) fault.StoreFault → IsLeftBy sys state step (λ next. StandsFor sys new after next))
    → ((id : ℕ) (sys : System) (state : Machine) → StandsFor sys old before state → IsErrOf {T = Stepped} (Err f) (fault.Damaged id) → (after ≡ None) × IsStepEnabled sys state Recover × StandsFor sys new after state)
    → (sys : System) (state : Machine) → StandsFor sys old before state → IsLeftAfter sys (One step) f new after state
step_left old new before after step fault.StoreFault faulted unharmed sys state st = faulted sys state st refl
step_left old new before after step (fault.Damaged id) faulted unharmed sys state st =
    let h = unharmed id sys state st refl in
    (h.0, h.1)
step_left old new before after step fault.NoMemory faulted unharmed sys state st = tt

-- the engine took no step
pub step_stopped : (showing : Showing) (old new : Engine) (before after : Option Records) (step : Step) (tally : StepCounts) (f : EngineFault) (view : SinkView) → tally.sum < 2 ^ 64
    → ((sys : System) (state : Machine) → StandsFor sys old before state → IsErrOf {T = Stepped} (Err f) fault.StoreFault → IsLeftBy sys state step (λ next. StandsFor sys new after next))
    → ((id : ℕ) (sys : System) (state : Machine) → StandsFor sys old before state → IsErrOf {T = Stepped} (Err f) (fault.Damaged id) → (after ≡ None) × IsStepEnabled sys state Recover × StandsFor sys new after state)
    → PrintsItem (up_to_fault showing) old before (One step) tally IsNone (Err (stop.Engine f)) new after tally view view
step_stopped showing old new before after step tally f view fits faulted unharmed = record {
  bytes = [];
  taken = written_nothing view;
  does = λ sys state st. (
    record {
      begun = [];
      now = state;
      begins = (refl, refl);
      reports = [];
      run = refl;
      text = refl;
      counted = counted-none tally fits;
      so = step_left old new before after step f faulted unharmed sys state st;
    },
    none_at f,
  );
}

-- the report of what comes of a step, with what is told behind its lines
abbrev report_of : Dataflow → Outcome → List ℕ → Report
report_of flow outcome behind = came outcome (outcome_text flow outcome ++ behind)

-- what comes of one step
abbrev of_step : (showing : Showing) (sys : System) (state : Machine) (step : Step) (stepped : Stepped) (behind : List ℕ) (new : Engine) (after : Option Records)
    → AreReasonsFor showing sys state step behind → FollowsStep sys state step stepped new after → EnduredItem (up_to_fault showing) sys state (One step)
of_step showing sys state step stepped behind new after told f = record {
  steps = step ∷ [];
  reports = report_of sys.flow (outcome_of stepped) behind ∷ [];
  last = f.next;
  endures = (
    report_of sys.flow (outcome_of stepped) behind,
    (f.steps, lines-with showing sys state (outcome_of stepped) behind (told f.next (outcome_of stepped) f.steps), refl),
    refl,
  );
  run = (f.next, f.steps, refl);
  may = refl;
}

-- the lines of a step, with the names of an engine's flow
line_of-step : (sys : System) (flow : Dataflow) (new : Engine) (after : Option Records) (state : Machine) (outcome : Outcome) (behind : List ℕ) (number : ℕ) → flow ≡ flow_of new
    → StandsFor sys new after state → outcome_text flow outcome ++ behind ≡ reports_text number (report_of sys.flow outcome behind ∷ [])
line_of-step sys flow new after state outcome behind number e st =
    ap (λ (f : Dataflow). outcome_text f outcome ++ behind) (e ∙ st.apart.flow) ∙ sym (append-nil (outcome_text sys.flow outcome ++ behind))

-- these are told behind the lines of the step, in each state for which the engine stands
abbrev pub AreTold : Showing → Engine → Option Records → Step → List ℕ → Type 0
AreTold showing engine records step behind = (sys : System) (state : Machine) → StandsFor sys engine records state → AreReasonsFor showing sys state step behind

-- it took the step, and its lines were cut off
pub step_begun : (showing : Showing) (old new : Engine) (before after : Option Records) (step : Step) (tally counts : StepCounts) (flow : Dataflow) (stepped : Stepped) (behind : List ℕ) (f : OutFault)
    (first last : SinkView) → flow ≡ flow_of new → AreTold showing old before step behind
    → ((sys : System) (state : Machine) → StandsFor sys old before state → Trusts sys state step after → FollowsStep sys state step stepped new after)
    → (step ≡ Collect → (keep_of new).waiting ≡ []) → IsCutOff (outcome_text flow (outcome_of stepped) ++ behind) f first last
    → PrintsItem (up_to_fault showing) old before (One step) tally IsNone (Err (stop.Out f)) new after counts first last
step_begun showing old new before after step tally counts flow stepped behind f first last e told follows swept c =
    let part = taken_part (outcome_text flow (outcome_of stepped) ++ behind) f first last c in
    record {
      bytes = part.one;
      taken = part.taken;
      does = λ sys state st trusts.
          let next = follows sys state st trusts in
          let of_item = of_step showing sys state step stepped behind new after (told sys state st) next in
          let lines : (n : ℕ) → reports_text n of_item.reports ≡ part.one ++ part.other =
          λ n. sym (line_of-step sys flow new after next.next (outcome_of stepped) behind n e next.stands) ∙ part.parts in (
            record { of_item = of_item; others = part.other; text = lines tally.steps; faults = refl },
            λ failed. record {
              part = One step;
              begun = refl;
              of_item = of_item;
              cut = record {
                shown = [];
                last = report_of sys.flow (outcome_of stepped) behind;
                parts = refl;
                some = part.one;
                left = part.other;
                lines = lines (tally.steps + 0);
                text = refl;
              };
              faults = refl;
              stands = next.stands;
              swept = λ is none. swept (same_step step Collect is);
            },
          );
    }

-- or were written
pub step_taken : (showing : Showing) (old new : Engine) (before after : Option Records) (step : Step) (tally counts : StepCounts) (flow : Dataflow) (stepped : Stepped) (behind : List ℕ)
    (value : Unit {0}) (first last : SinkView) → flow ≡ flow_of new → AreTold showing old before step behind
    → ((sys : System) (state : Machine) → StandsFor sys old before state → Trusts sys state step after → FollowsStep sys state step stepped new after)
    → (step ≡ Collect → (keep_of new).waiting ≡ []) → counts ≡ with_tally tally (tally_of (outcome_of stepped ∷ [])) → IsWritten (outcome_text flow (outcome_of stepped) ++ behind) first last
    → PrintsItem (up_to_fault showing) old before (One step) tally IsNone (Ok value) new after counts first last
step_taken showing old new before after step tally counts flow stepped behind value first last e told follows swept i w = record {
  bytes = outcome_text flow (outcome_of stepped) ++ behind;
  taken = w;
  does = λ sys state st trusts.
      let next = follows sys state st trusts in
      record {
        of_item = of_step showing sys state step stepped behind new after (told sys state st) next;
        text = line_of-step sys flow new after next.next (outcome_of stepped) behind tally.steps e next.stands;
        counted = i;
        stands = next.stands;
        swept = λ is none. swept (same_step step Collect is);
      };
}

-- ---- steps that are taken by themselves

-- From the state so many steps were taken by themselves, each the first that was enabled; so they are counted, and these are their
-- lines, whatever is shown; and the engine stands for the state to which they led.
pub record AutoGoes (sys : System) (state : Machine) (count : ℕ) (tally counts : StepCounts) (bytes : List ℕ) (engine : Engine) (records : Option Records) : Type 0 where
  pub steps : List Step
  pub full : length steps ≡ count
  pub now : Machine
  pub comes : IsAutoRun sys state (length steps) steps now
  pub reports : List Report
  pub run : (showing : Showing) → RunShown showing sys state steps reports now
  pub counted : counts ≡ with_tally tally (tally_shown reports)
  pub text : bytes ≡ reports_text tally.steps reports
  pub stands : StandsFor sys engine records now

-- so it was from each state for which the engine stood, and the lines were written
pub record IsAutoSoFar (old new : Engine) (before after : Option Records) (count : ℕ) (tally counts : StepCounts) (first last : SinkView) : Type 0 where
  pub bytes : List ℕ
  pub written : IsWritten bytes first last
  pub goes : (sys : System) (state : Machine) → StandsFor sys old before state → AutoGoes sys state count tally counts bytes new after

pub auto-none : (engine : Engine) (records : Option Records) (tally : StepCounts) (view : SinkView) → tally.sum < 2 ^ 64 → IsAutoSoFar engine engine records records 0 tally tally view view
auto-none engine records tally view fits = record {
  bytes = [];
  written = written_nothing view;
  goes = λ sys state st.
      record { steps = []; full = refl; now = state; comes = refl; reports = []; run = λ showing. refl; counted = counted-none tally fits; text = refl; stands = st };
}

-- one step more
abbrev more_goes : (sys : System) (state : Machine) (count : ℕ) (tally counts more : StepCounts) (bytes : List ℕ) (mid new : Engine) (between after : Option Records) (flow : Dataflow) (shown : Effect) (next : Machine)
    → (g : AutoGoes sys state count tally counts bytes mid between) → more ≡ with_tally counts (tally_of (did shown ∷ [])) → flow ≡ flow_of new → TakesFirst sys g.now (auto_steps sys.flow) next (did shown) → StandsFor sys new after next
    → AutoGoes sys state (count + 1) tally more (bytes ++ outcome_text flow (did shown)) new after
more_goes sys state count tally counts more bytes mid new between after flow shown next g i e t st =
    let report = came (did shown) (outcome_text sys.flow (did shown)) in
    let longer : length (g.steps ++ t.0 ∷ []) ≡ length g.steps + suc zero = length-append g.steps (t.0 ∷ []) in
    let one : IsAutoRun sys g.now (suc zero) (t.0 ∷ []) next = (next, shown, t.1, refl) in
    let line : outcome_text flow (did shown) ≡ reports_text (tally.steps + length g.reports) (report ∷ []) =
    ap (λ (f : Dataflow). outcome_text f (did shown)) (e ∙ st.apart.flow) ∙ sym (append-nil (outcome_text sys.flow (did shown))) in
    record {
      steps = g.steps ++ t.0 ∷ [];
      full = omega (arith, longer, g.full);
      now = next;
      comes = subst (λ n. IsAutoRun sys state n (g.steps ++ t.0 ∷ []) next) (sym longer) (auto-goes_on sys state g.now next g.steps (t.0 ∷ []) (suc zero) g.comes one);
      reports = g.reports ++ report ∷ [];
      run = λ showing. shown-on showing sys state g.now next g.steps (t.0 ∷ []) g.reports (report ∷ []) (g.run showing)
          (next, t.1.leads, auto-told showing sys g.now next t.0 shown t.1, refl);
      counted = i ∙ ap (λ (t : StepCounts). with_tally t (tally_shown (report ∷ []))) g.counted ∙ counted-more tally g.reports (report ∷ []);
      text = ap (λ (b : List ℕ). b ++ outcome_text flow (did shown)) g.text ∙ ap (λ (b : List ℕ). reports_text tally.steps g.reports ++ b) line
          ∙ sym (reports_text-append tally.steps g.reports (report ∷ []));
      stands = st;
    }

pub auto-more : (old mid new : Engine) (before between after : Option Records) (flow : Dataflow) (stepped : Stepped) (count : ℕ) (tally counts more : StepCounts) (first middle last : SinkView)
    → IsAutoSoFar old mid before between count tally counts first middle → more ≡ with_tally counts (tally_of (outcome_of stepped ∷ [])) → flow ≡ flow_of new
    → ((sys : System) (state : Machine) → StandsFor sys mid between state → FollowsFirstStep sys state stepped new after)
    → is_idle (outcome_of stepped) ≡ false → IsWritten (outcome_text flow (outcome_of stepped)) middle last
    → IsAutoSoFar old new before after (count + 1) tally more first last
auto-more old mid new before between after flow (Did shown) count tally counts more first middle last s m e follows i w = record {
  bytes = s.bytes ++ outcome_text flow (did (effect_of shown));
  written = written_more s.bytes (outcome_text flow (did (effect_of shown))) first middle last s.written w;
  goes = λ sys state st.
      let g = s.goes sys state st in
      let f = follows sys g.now g.stands in
      more_goes sys state count tally counts more s.bytes mid new between after flow (effect_of shown) f.next g m e f.takes f.stands;
}
auto-more old mid new before between after flow Idle count tally counts more first middle last s m e follows i w = absurd (true≢false i)

-- steps that are taken by themselves behind others, to as many as may be taken
pub auto_on : (sys : System) (state now last : Machine) (steps others : List Step) (rest most : ℕ) → IsAutoRun sys state (length steps) steps now → IsAutoRun sys now rest others last
    → length steps + rest ≡ most → IsAutoRun sys state most (steps ++ others) last
auto_on sys state now last steps others rest most c d e =
    subst (λ n. IsAutoRun sys state n (steps ++ others) last) e (auto-goes_on sys state now last steps others rest c d)

-- the steps that were taken by themselves are those of the item
abbrev of_auto : (showing : Showing) (sys : System) (state last : Machine) (most : ℕ) (steps : List Step) (reports : List Report) → IsAutoRun sys state most steps last
    → RunShown showing sys state steps reports last → EnduredItem (up_to_fault showing) sys state (Auto most)
of_auto showing sys state last most steps reports comes run = record {
  steps = steps;
  reports = reports;
  last = last;
  endures = (reports, run, inl (comes, refl));
  run = shown-run showing sys state last steps reports run;
  may = shown-faults showing sys state last steps reports run;
}

-- they end where none is enabled
pub auto-ends : (showing : Showing) (old mid new : Engine) (before between after : Option Records) (stepped : Stepped) (count most : ℕ) (tally counts : StepCounts) (value : Unit {0}) (first last : SinkView)
    → IsAutoSoFar old mid before between count tally counts first last → count < most
    → ((sys : System) (state : Machine) → StandsFor sys mid between state → FollowsFirstStep sys state stepped new after)
    → is_idle (outcome_of stepped) ≡ true → PrintsItem (up_to_fault showing) old before (Auto most) tally IsNone (Ok value) new after counts first last
auto-ends showing old mid new before between after (Did shown) count most tally counts value first last s below follows i = absurd (false≢true i)
auto-ends showing old mid new before between after Idle count most tally counts value first last s below follows i = record {
  bytes = s.bytes;
  taken = s.written;
  does = λ sys state st trusts.
      let g = s.goes sys state st in
      let f = follows sys g.now g.stands in
      let none : IsAutoRun sys g.now (suc (most - count - 1)) [] g.now = (f.takes.0, refl) in
      let all : length g.steps + suc (most - count - 1) ≡ most = omega (arith, below, g.full) in
      let comes : IsAutoRun sys state most g.steps g.now = subst (λ (steps : List Step). IsAutoRun sys state most steps g.now) (append-nil g.steps)
      (auto_on sys state g.now g.now g.steps [] (suc (most - count - 1)) most g.comes none all) in
      record {
        of_item = of_auto showing sys state g.now most g.steps g.reports comes (g.run showing);
        text = g.text;
        counted = g.counted;
        stands = subst (StandsFor sys new after) f.takes.1 f.stands;
        swept = λ is none. absurd (cc);
      };
}

-- or where as many were taken as may be
pub auto-full : (showing : Showing) (old new : Engine) (before after : Option Records) (count most : ℕ) (tally counts : StepCounts) (value : Unit {0}) (first last : SinkView)
    → IsAutoSoFar old new before after count tally counts first last → count ≡ most → PrintsItem (up_to_fault showing) old before (Auto most) tally IsNone (Ok value) new after counts first last
auto-full showing old new before after count most tally counts value first last s all = record {
  bytes = s.bytes;
  taken = s.written;
  does = λ sys state st trusts.
      let g = s.goes sys state st in
      record {
        of_item = of_auto showing sys state g.now most g.steps g.reports (subst (λ n. IsAutoRun sys state n g.steps g.now) (g.full ∙ all) g.comes) (g.run showing);
        text = g.text;
        counted = g.counted;
        stands = g.stands;
        swept = λ is none. absurd (cc);
      };
}

-- the lines of a step were cut off
pub auto_begun : (showing : Showing) (old mid new : Engine) (before between after : Option Records) (flow : Dataflow) (stepped : Stepped) (count most : ℕ) (tally counts more : StepCounts) (f : OutFault)
    (first middle last : SinkView) → IsAutoSoFar old mid before between count tally counts first middle → count < most
    → more ≡ with_tally counts (tally_of (outcome_of stepped ∷ [])) → flow ≡ flow_of new
    → ((sys : System) (state : Machine) → StandsFor sys mid between state → FollowsFirstStep sys state stepped new after)
    → is_idle (outcome_of stepped) ≡ false → IsCutOff (outcome_text flow (outcome_of stepped)) f middle last
    → PrintsItem (up_to_fault showing) old before (Auto most) tally IsNone (Err (stop.Out f)) new after more first last
auto_begun showing old mid new before between after flow (Did shown) count most tally counts more f first middle last s below m e follows i c =
    let part = taken_part (outcome_text flow (did (effect_of shown))) f middle last c in
    record {
      bytes = s.bytes ++ part.one;
      taken = taken_more s.bytes part.one f first middle last s.written part.taken;
      does = λ sys state st trusts.
          let g = s.goes sys state st in
          let next = follows sys g.now g.stands in
          let one = more_goes sys state count tally counts more s.bytes mid new between after flow (effect_of shown) next.next g m e next.takes next.stands in
          let reached = one.stands.apart.reached in
          let rest = item-run sys one.stands.apart.well_formed reached.0 reached.1 one.now reached.2 (Auto (most - count - 1)) in
          let told = some_reports showing sys one.stands.apart.well_formed one.now rest.last reached rest.steps rest.outcomes rest.run in
          let behind = reports_text (tally.steps + length one.reports) told.0 in
          let all : length one.steps + (most - count - 1) ≡ most = omega (arith, below, one.full) in
          let run = shown-on showing sys state one.now rest.last one.steps rest.steps one.reports told.0 (one.run showing) told.1 in
          let lines : reports_text tally.steps (one.reports ++ told.0) ≡ (s.bytes ++ (part.one ++ part.other)) ++ behind =
          reports_text-append tally.steps one.reports told.0
          ∙ ap (λ (b : List ℕ). b ++ behind) (sym one.text ∙ ap (λ (b : List ℕ). s.bytes ++ b) part.parts) in
          let parts : (s.bytes ++ (part.one ++ part.other)) ++ behind ≡ (s.bytes ++ part.one) ++ (part.other ++ behind) =
          ap (λ (b : List ℕ). b ++ behind) (sym (append_assoc s.bytes part.one part.other)) ∙ append_assoc (s.bytes ++ part.one) part.other behind in
          let whole : reports_text tally.steps (one.reports ++ told.0) ≡ (s.bytes ++ part.one) ++ (part.other ++ behind) = lines ∙ parts in
          let report = came (did (effect_of shown)) (outcome_text sys.flow (did (effect_of shown))) in
          let line : outcome_text flow (did (effect_of shown)) ≡ reports_text (tally.steps + length g.reports) (report ∷ []) =
          ap (λ (x : Dataflow). outcome_text x (did (effect_of shown))) (e ∙ next.stands.apart.flow) ∙ sym (append-nil (outcome_text sys.flow (did (effect_of shown)))) in (
            record {
              of_item = of_auto showing sys state rest.last most (one.steps ++ rest.steps) (one.reports ++ told.0)
                  (auto_on sys state one.now rest.last one.steps rest.steps (most - count - 1) most one.comes rest.comes all) run;
              others = part.other ++ behind;
              text = whole;
              faults = shown-faults showing sys state rest.last (one.steps ++ rest.steps) (one.reports ++ told.0) run;
            },
            λ failed. record {
              part = Auto (length one.steps);
              begun = (length one.steps, omega (arith, below, one.full), refl);
              of_item = of_auto showing sys state one.now (length one.steps) one.steps one.reports one.comes (one.run showing);
              cut = record {
                shown = g.reports;
                last = report;
                parts = refl;
                some = part.one;
                left = part.other;
                lines = sym line ∙ part.parts;
                text = ap (λ (b : List ℕ). b ++ part.one) g.text;
              };
              faults = shown-faults showing sys state one.now one.steps one.reports (one.run showing);
              stands = one.stands;
              swept = λ is none. absurd (cc);
            },
          );
    }
auto_begun showing old mid new before between after flow Idle count most tally counts more f first middle last s below m e follows i c = absurd (true≢false i)

-- what a fault of the engine in such a step leaves
auto_left : (mid new : Engine) (between after : Option Records) (most : ℕ) (f : EngineFault)
    → ((sys : System) (state : Machine) → StandsFor sys mid between state → IsErrOf {T = Stepped} (Err f) fault.StoreFault → FirstMayCall sys state)
    → ((sys : System) (state : Machine) → StandsFor sys mid between state → IsErrOf {T = Stepped} (Err f) fault.StoreFault → StandsFor sys new after state)
    → ((id : ℕ) → IsErrOf {T = Stepped} (Err f) (fault.Damaged id) → ⊥)
    → (sys : System) (state : Machine) → StandsFor sys mid between state → IsLeftAfter sys (Auto most) f new after state
auto_left mid new between after most fault.StoreFault calls faulted unharmed sys state st = (calls sys state st refl, faulted sys state st refl)
auto_left mid new between after most (fault.Damaged id) calls faulted unharmed sys state st = absurd (unharmed id refl)
auto_left mid new between after most fault.NoMemory calls faulted unharmed sys state st = tt

-- the engine took no step more
pub auto_stopped : (showing : Showing) (old mid new : Engine) (before between after : Option Records) (count most : ℕ) (tally counts : StepCounts) (f : EngineFault) (first last : SinkView)
    → IsAutoSoFar old mid before between count tally counts first last → count < most
    → ((sys : System) (state : Machine) → StandsFor sys mid between state → IsErrOf {T = Stepped} (Err f) fault.StoreFault → FirstMayCall sys state)
    → ((sys : System) (state : Machine) → StandsFor sys mid between state → IsErrOf {T = Stepped} (Err f) fault.StoreFault → StandsFor sys new after state)
    → ((id : ℕ) → IsErrOf {T = Stepped} (Err f) (fault.Damaged id) → ⊥)
    → PrintsItem (up_to_fault showing) old before (Auto most) tally IsNone (Err (stop.Engine f)) new after counts first last
auto_stopped showing old mid new before between after count most tally counts f first last s below calls faulted unharmed = record {
  bytes = s.bytes;
  taken = s.written;
  does = λ sys state st.
      let g = s.goes sys state st in
      let few : length g.steps < most = omega (arith, below, g.full) in (
        record {
          begun = g.steps;
          now = g.now;
          begins = (few, g.comes);
          reports = g.reports;
          run = g.run showing;
          text = g.text;
          counted = g.counted;
          so = auto_left mid new between after most f calls faulted unharmed sys g.now g.stands;
        },
        none_at f,
      );
}

-- ---- how many steps were counted

-- an engine that took no step leaves the tally, and of its steps there were fewer than the item asks for
pub few_stopped : (T : Type 0) (item : Item) (count : ℕ) (tally counts : StepCounts) (f : EngineFault) → AreOfSteps counts → counts.steps ≡ tally.steps + count → count < steps_in item
    → AreFew {T = T} item (Err (stop.Engine f)) tally counts
few_stopped T item count tally counts fault.StoreFault are e below = (are, omega (arith, e, below))
few_stopped T item count tally counts (fault.Damaged id) are e below = (are, omega (arith, e, below))
few_stopped T item count tally counts fault.NoMemory are e below = (are, omega (arith, e, below))

-- there are no more than the item asks for where its lines were written or cut off
pub few_taken : {T : Type 0} (item : Item) (count : ℕ) (tally counts : StepCounts) (value : T) → AreOfSteps counts → counts.steps ≡ tally.steps + count → count ≤ steps_in item
    → AreFew {T = T} item (Ok value) tally counts
few_taken item count tally counts value are e below = (are, omega (arith, e, below))

pub few_cut : (T : Type 0) (item : Item) (count : ℕ) (tally counts : StepCounts) (f : OutFault) → AreOfSteps counts → counts.steps ≡ tally.steps + count → count ≤ steps_in item
    → AreFew {T = T} item (Err (stop.Out f)) tally counts
few_cut T item count tally counts f are e below = (are, omega (arith, e, below))
