-- What an engine answers, from what its step does.
use Rattle.std.proofs.Common.{◌≡◌, ◌≢◌, ◌<◌, ℕ, Bool, true, false, length, Option, Result, Ok, Err, refl, ap, subst}
use Rattle.std.specs.Prelude.{IfOk}
use Rattle.fw_flow.specs.declared.step.Step.{Step}
use Rattle.fw_flow.specs.declared.step.Step.TheVariants.{Inject, Deliver, Notify, Progress, Checkpoint, Persist, Fail, Recover, Collect, Ack}
use Rattle.fw_flow.specs.Dataflow.{System}
use Rattle.fw_flow.specs.WellFormed.{IsWellFormedSystem}
use Rattle.fw_model.specs.Auto.{auto_steps}
use Rattle.fw_model.specs.Machine.{Machine, is_failed}
use Rattle.fw_model.specs.Reached.{IsReached}
use Rattle.fw_keep.specs.Catalogue.{AreAscending, ids_of}
use Rattle.fw_keep.specs.Stored.{Records, IsStored}
use Rattle.fw_outside.specs.Outside.{StoreView}
use Rattle.fw_running.specs.declared.fault.EngineFault.{EngineFault}
use Rattle.fw_running.specs.declared.fault.EngineFault.TheVariants as fault
use Rattle.fw_running.specs.declared.running.Running.{Running}
use Rattle.fw_running.specs.declared.stepped.Stepped.{Stepped}
use Rattle.fw_running.specs.declared.stepped.Stepped.TheVariants.{Idle}
use Rattle.fw_running.specs.Drawn.{supply}
use Rattle.fw_running.specs.Faults.{is_refusal}
use Rattle.fw_running.specs.Steps.{FollowsFirst, HasOutcome, IsStepEnabled, MayCallByItself, PartAnswers, StepAnswers, TakesFirstStep, outcome_of}
use Rattle.fw_running.proofs.AnswerLaws.{refused-after, taken, shown, left, unharmed, first-taken, first-left, no_damage}
use Rattle.fw_engine.specs.declared.engine.Engine.{Engine}
use Rattle.fw_engine.specs.Engine.{keep_of, was_refused, StepDraws, EngineAnswers, FirstAnswers}
use Rattle.fw_engine.specs.Right.{IsRightIn}
use Rattle.fw_engine.proofs.DrawnLaws.{draws-none}
use Rattle.fw_engine.proofs.RightLaws.{first-right, idle-recovery, outcome-right}

-- ---- what is told is right

shown-right : (sys : System) → IsWellFormedSystem sys → (state : Machine) → IsReached sys state → (step : Step) (result : Result Stepped EngineFault)
    → IfOk result (λ stepped. HasOutcome sys state step (outcome_of stepped)) → IfOk result (λ stepped. IsRightIn sys state (outcome_of stepped))
shown-right sys w state reached step (Ok stepped) h = outcome-right sys w state reached step h.0 (outcome_of stepped) h.1
shown-right sys w state reached step (Err e) h = tt

recovery-idle : (sys : System) → IsWellFormedSystem sys → (state : Machine) → IsReached sys state → (step : Step) (result : Result Stepped EngineFault)
    → step ≡ Recover → result ≡ Ok Idle → IfOk result (λ stepped. HasOutcome sys state step (outcome_of stepped))
    → (p : ℕ) → p < length sys.flow.nodes → is_failed state p ≡ false
recovery-idle sys w state reached step result is e shows =
    let of_idle : HasOutcome sys state step (outcome_of Idle) =
    subst (λ (r : Result Stepped EngineFault). IfOk r (λ stepped. HasOutcome sys state step (outcome_of stepped))) e shows in
    let h : HasOutcome sys state Recover (outcome_of Idle) = subst (λ (s : Step). HasOutcome sys state s (outcome_of Idle)) is of_idle in
    idle-recovery sys w state reached h.0 h.1

first-shown_right : (sys : System) → IsWellFormedSystem sys → (state : Machine) → IsReached sys state → (new : Running) (after : Option Records)
    → (result : Result Stepped EngineFault) → IfOk result (λ stepped. FollowsFirst sys state (outcome_of stepped) new after)
    → IfOk result (λ stepped. IsRightIn sys state (outcome_of stepped))
first-shown_right sys w state reached new after (Ok stepped) f = first-right sys w state reached (auto_steps sys.flow) f.next (outcome_of stepped) f.takes
first-shown_right sys w state reached new after (Err e) f = tt

-- ---- a step

pub step-answered : {K : Type 0} {view : K → StoreView} {old new : Engine} {before after : K} {step : Step} {result : Result Stepped EngineFault}
    → was_refused old ≡ false → AreAscending (ids_of (keep_of new).entries) → was_refused new ≡ is_refusal result
    → StepAnswers view old.running before step result new.running after
    → (step ≢ Collect → StepDraws old.running (view before).records result new.running (view after).records)
    → (step ≡ Collect → supply (keep_of new) ≡ supply (keep_of old)) → EngineAnswers view old before step result new after
step-answered {K} {view} {old} {new} {before} {after} {step} {result} live ascending told a draws undrawn =
    let records = (view before).records in
    let left_over = (view after).records in
    record {
      stored = a.stored;
      flow = a.flow;
      in_order = ascending;
      ok = taken old.running records step result new.running left_over a.takes;
      shows = shown old.running records step result new.running left_over a.takes a.shows;
      right = λ sys state s.
          shown-right sys s.apart.well_formed state s.apart.reached step result
          (shown old.running records step result new.running left_over a.takes a.shows sys state s);
      recovers = λ is e sys state s.
          recovery-idle sys s.apart.well_formed state s.apart.reached step result is e
          (shown old.running records step result new.running left_over a.takes a.shows sys state s);
      swept = a.swept;
      tells = a.tells;
      told_before = a.told_before;
      quiet = a.quiet;
      unasked = a.unasked;
      idle = a.idle;
      draws = draws;
      undrawn = undrawn;
      faults = a.faults;
      calls = a.calls;
      faulted = left old.running records step result new.running left_over a.takes;
      damaged = a.damaged;
      in_recovery = a.in_recovery;
      unharmed = λ id sys state s e.
          let u = unharmed old.running records step result new.running left_over id a.takes sys state s e in
          (u.0, subst (λ step. IsStepEnabled sys state step) (a.in_recovery id e) u.1, u.2);
      refused = refused-after result (was_refused new) told;
      told = told;
      stays = λ r. absurd (cc);
    }

-- whether its store may hold records that others put, no step changes
pub shared-stays : {K : Type 0} {view : K → StoreView} {old new : Engine} {before after : K} (step : Step) {result : Result Stepped EngineFault}
    → EngineAnswers view old before step result new after → (keep_of new).shared ≡ (keep_of old).shared
shared-stays (Inject s) a = (a.draws (λ is. absurd (cc))).shared
shared-stays (Deliver e at) a = (a.draws (λ is. absurd (cc))).shared
shared-stays (Notify p at) a = (a.draws (λ is. absurd (cc))).shared
shared-stays Progress a = (a.draws (λ is. absurd (cc))).shared
shared-stays (Checkpoint p) a = (a.draws (λ is. absurd (cc))).shared
shared-stays Persist a = (a.draws (λ is. absurd (cc))).shared
shared-stays (Fail ps) a = (a.draws (λ is. absurd (cc))).shared
shared-stays Recover a = (a.draws (λ is. absurd (cc))).shared
shared-stays Collect a = ap (λ (s : ℕ × Bool). s.1) (a.undrawn refl)
shared-stays (Ack o) a = (a.draws (λ is. absurd (cc))).shared

-- where memory was refused before, nothing is done
pub step-refused : {K : Type 0} {view : K → StoreView} {engine : Engine} {store : K} {step : Step} → was_refused engine ≡ true
    → IsStored (keep_of engine) (view store).records → AreAscending (ids_of (keep_of engine).entries)
    → EngineAnswers view engine store step (Err fault.NoMemory) engine store
step-refused {K} {view} {engine} {store} refused stored ascending = record {
  stored = stored;
  flow = refl;
  in_order = ascending;
  ok = λ sys state s trust. tt;
  shows = λ sys state s. tt;
  right = λ sys state s. tt;
  recovers = λ is e. absurd (cc);
  swept = λ is. tt;
  tells = λ other. refl;
  told_before = λ told. told;
  quiet = λ none. refl;
  unasked = λ is sys state s none. refl;
  idle = λ other is. refl;
  draws = λ other. draws-none engine.running engine.running (view store).records (Err fault.NoMemory) refl;
  undrawn = λ is. refl;
  faults = refl;
  calls = λ e. absurd (cc);
  faulted = λ sys state s e. absurd (cc);
  damaged = λ id e. absurd (cc);
  in_recovery = λ id e. absurd (cc);
  unharmed = λ id sys state s e. absurd (cc);
  refused = λ e. refused;
  told = refused;
  stays = λ r. refl;
}

-- ---- the first step that is enabled

pub first-answered : {K : Type 0} {view : K → StoreView} {old new : Engine} {before after : K} {result : Result Stepped EngineFault}
    → was_refused old ≡ false → AreAscending (ids_of (keep_of new).entries) → was_refused new ≡ is_refusal result
    → TakesFirstStep old.running (view before).records result new.running (view after).records
    → PartAnswers view (MayCallByItself old.running.flow) old.running before result new.running after → (result ≡ Ok Idle → after ≡ before)
    → StepDraws old.running (view before).records result new.running (view after).records → FirstAnswers view old before result new after
first-answered {K} {view} {old} {new} {before} {after} {result} live ascending told takes part idle draws =
    let records = (view before).records in
    let left_over = (view after).records in
    record {
      stored = part.stored;
      flow = part.flow;
      in_order = ascending;
      ok = first-taken old.running records result new.running left_over takes;
      right = λ sys state s.
          first-shown_right sys s.apart.well_formed state s.apart.reached new.running left_over result
          (first-taken old.running records result new.running left_over takes sys state s);
      tells = part.tells;
      quiet = part.quiet;
      idle = idle;
      draws = draws;
      faults = part.faults;
      calls = λ sys state s e. (first-left old.running records result new.running left_over takes sys state s e).0;
      faulted = λ sys state s e. (first-left old.running records result new.running left_over takes sys state s e).1;
      unharmed = λ id. no_damage result id part.undamaged;
      refused = refused-after result (was_refused new) told;
      told = told;
      stays = λ r. absurd (cc);
    }

pub first-refused : {K : Type 0} {view : K → StoreView} {engine : Engine} {store : K} → was_refused engine ≡ true
    → IsStored (keep_of engine) (view store).records → AreAscending (ids_of (keep_of engine).entries)
    → FirstAnswers view engine store (Err fault.NoMemory) engine store
first-refused {K} {view} {engine} {store} refused stored ascending = record {
  stored = stored;
  flow = refl;
  in_order = ascending;
  ok = λ sys state s. tt;
  right = λ sys state s. tt;
  tells = refl;
  quiet = λ none. refl;
  idle = λ is. refl;
  draws = draws-none engine.running engine.running (view store).records (Err fault.NoMemory) refl;
  faults = refl;
  calls = λ sys state s e. absurd (cc);
  faulted = λ sys state s e. absurd (cc);
  unharmed = λ id e. cc;
  refused = λ e. refused;
  told = refused;
  stays = λ r. refl;
}
