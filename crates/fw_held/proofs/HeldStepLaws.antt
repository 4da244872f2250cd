-- What steps of an engine answer from which a run can start again, by what those of the engine answer.
use Rattle.std.proofs.Common.{◌≡◌, ◌≢◌, ◌⊎◌, ℕ, ◌≤◌, Bool, true, Option, Result, Ok, Err, length, refl, sym, ap, subst, ◌∙◌, arith}
use Rattle.std.specs.Prelude.{IfOk}
use Rattle.std.proofs.lemmas.Result.{IfOk-weaker}
use Rattle.fw_outside.specs.Outside.{StoreView}
use Rattle.fw_flow.specs.declared.step.Step.{Step}
use Rattle.fw_flow.specs.declared.step.Step.TheVariants.{Collect}
use Rattle.fw_flow.specs.Dataflow.{Dataflow, System}
use Rattle.fw_flow.specs.WellFormed.{IsWellFormed}
use Rattle.fw_model.specs.Machine.{Machine}
use Rattle.fw_keep.specs.Catalogue.{KeepState, has_entry}
use Rattle.fw_keep.specs.Stored.{Records, IsStored}
use Rattle.fw_running.specs.declared.fault.EngineFault.{EngineFault}
use Rattle.fw_running.specs.declared.fault.EngineFault.TheVariants as fault
use Rattle.fw_running.specs.declared.stepped.Stepped.{Stepped}
use Rattle.fw_running.specs.Drawn.{DrawsAtMost}
use Rattle.fw_running.specs.Faults.{faults_after_step}
use Rattle.fw_running.specs.Steps.{IsUndamaged}
use Rattle.fw_running.proofs.AnswerLaws.{no_damage}
use Rattle.fw_running.proofs.DrawnLaws.{draws_same}
use Rattle.fw_engine.specs.declared.engine.Engine.{Engine}
use Rattle.fw_engine.specs.Engine as engine
use Rattle.fw_engine.specs.Engine.{StandsFor, EngineAnswers, FirstAnswers, RaiseAnswers, SweepAnswers}
use Rattle.fw_hold.specs.Engine.{KeepsOutside, Standings, LeavesHeld, StepsHeld, StepsFirstHeld, SweepsHeld}
use Rattle.fw_held.specs.declared.restartable.RestartableEngine.{RestartableEngine}
use Rattle.fw_held.proofs.StoreLaws.{drawn-few, drawn-outside, idle-next, none-told, stored-there}

-- what is told of one
abbrev pub stand_of : Standings RestartableEngine
stand_of sys made records state = StandsFor sys made.engine records state

abbrev pub keep_of : RestartableEngine → KeepState
keep_of made = engine.keep_of made.engine

abbrev pub flow_of : RestartableEngine → Dataflow
flow_of made = engine.flow_of made.engine

-- The engine is shared: its store may hold what others put.
pub record IsShared (old new : Engine) : Type 0 where
  pub keep : engine.keep_of new ≡ record (engine.keep_of old) { shared = true }
  pub flow : engine.flow_of new ≡ engine.flow_of old
  pub stands : (records : Option Records) (sys : System) (state : Machine) → StandsFor sys old records state → StandsFor sys new records state

pub shared-next : {old new : Engine} → IsShared old new → (engine.keep_of new).next ≡ (engine.keep_of old).next
shared-next shared = ap (λ (k : KeepState). k.next) shared.keep

module _ {K : Type 0} {view : K → StoreView} {old new : RestartableEngine} {mid : Engine} {before after : K} where
  leaves : {T : Type 0} {n : ℕ} {result : Result T EngineFault} → IsShared old.engine mid → n ≤ 256 → flow_of new ≡ engine.flow_of mid
      → IsStored (keep_of new) (view after).records
      → DrawsAtMost n (engine.keep_of mid) (keep_of new) (view before).records (view after).records
      → (view after).faults ≡ faults_after_step result (view before).faults → LeavesHeld view keep_of flow_of old before result new after
  leaves {T} {n} shared few flow stored draws faults =
      let next = shared-next shared in
      let drawn = draws.few in
      let back = draws.never_back in
      record {
        flow = flow ∙ shared.flow;
        stored = stored-there (keep_of new) (view after).records stored;
        outside = subst (λ first. KeepsOutside first (keep_of new).next (view before).records (view after).records) next (drawn-outside draws);
        drawn = omega (arith, few, drawn, next);
        never_back = omega (arith, back, next);
        faults = faults;
      }

  -- a step that is no collection
  pub step-held : {step : Step} {result : Result Stepped EngineFault} → IsShared old.engine mid → IsWellFormed (engine.flow_of mid) → step ≢ Collect
      → EngineAnswers view mid before step result new.engine after → StepsHeld view stand_of keep_of flow_of old before step result new after
  step-held {step} {result} shared well other a =
      let draws = a.draws other in
      let stands = shared.stands (view before).records in
      record {
        leaves = leaves shared (drawn-few (engine.flow_of mid) result well) a.flow a.stored draws a.faults;
        ok = λ sys state s trust. IfOk-weaker result (λ stepped. engine.FollowsStep sys state step stepped new.engine (view after).records) _
            (λ stepped f. (f.next, f.steps, f.stands)) (a.ok sys state (stands sys state s) trust);
        shows = λ sys state s. a.shows sys state (stands sys state s);
        idle = a.idle other;
        none_drawn = λ e. idle-next (length (engine.flow_of mid).nodes) result draws e ∙ shared-next shared;
        damaged = λ id e. let d = a.damaged id e in (d.bytes, d.gave);
        in_recovery = a.in_recovery;
        unharmed = λ id sys state s e told. none-told (view after).records (a.unharmed id sys state (stands sys state s) e).0 told;
      }

  -- the first step that is enabled
  pub first-held : {result : Result Stepped EngineFault} → IsShared old.engine mid → IsWellFormed (engine.flow_of mid)
      → FirstAnswers view mid before result new.engine after → StepsFirstHeld view stand_of keep_of flow_of old before result new after
  first-held {result} shared well a =
      let stands = shared.stands (view before).records in
      record {
        leaves = leaves shared (drawn-few (engine.flow_of mid) result well) a.flow a.stored a.draws a.faults;
        ok = λ sys state s. IfOk-weaker result (λ stepped. engine.FollowsFirstStep sys state stepped new.engine (view after).records) _
            (λ stepped f. (f.next, f.takes, f.stands)) (a.ok sys state (stands sys state s));
        idle = a.idle;
        none_drawn = λ e. idle-next (length (engine.flow_of mid).nodes) result a.draws e ∙ shared-next shared;
        unharmed = a.unharmed;
      }

  -- a sweep
  pub sweep-held : {result : Result (Unit {0}) EngineFault} → IsShared old.engine mid → SweepAnswers view mid before result new.engine after
      → SweepsHeld view stand_of keep_of flow_of old before result new after
  sweep-held {result} shared a = record {
    flow = a.flow ∙ shared.flow;
    stored = stored-there (keep_of new) (view after).records a.stored;
    next = ap (λ (s : ℕ × Bool). s.0) a.undrawn ∙ shared-next shared;
    stands = λ sys state s. anyway result (a.stands sys state (shared.stands (view before).records sys state s));
    swept = a.swept;
    told_before = λ told. sym a.tells ∙ told;
    others = λ told id held. a.others id (subst (λ (k : KeepState). (has_entry id k.entries ≡ true) ⊎ (k.next ≤ id)) (sym shared.keep) held);
    faults = a.faults;
    undamaged = a.unharmed;
  }
    where
      anyway : {P : Type 0} (result : Result (Unit {0}) EngineFault) → P → IfOk result (λ done. P)
      anyway (Ok done) p = p
      anyway (Err e) p = tt

-- the first part of a collection, over a store that it does not call
module _ {K : Type 0} {view : K → StoreView} {old new : RestartableEngine} {mid : Engine} {store : K} where
  raised : {E : Type 0} {r : Result Stepped E} (result : Result Stepped EngineFault) → IsShared old.engine mid → IsStored (engine.keep_of mid) (view store).records
      → RaiseAnswers mid r new.engine → (view store).faults ≡ faults_after_step result (view store).faults → IsUndamaged result
      → ((sys : System) (state : Machine) → StandsFor sys mid (view store).records state
      → IfOk result (λ stepped. engine.FollowsStep sys state Collect stepped new.engine (view store).records))
      → StepsHeld view stand_of keep_of flow_of old store Collect result new store
  raised result shared stored a faults undamaged ok =
      let records = (view store).records in
      record {
        leaves = leaves {n = 0} shared (omega arith) a.flow (a.stored records stored) (draws_same a.undrawn) faults;
        ok = λ sys state s trust. IfOk-weaker result (λ stepped. engine.FollowsStep sys state Collect stepped new.engine records) _
            (λ stepped f. (f.next, f.steps, f.stands)) (ok sys state (shared.stands records sys state s));
        shows = λ sys state s. IfOk-weaker result (λ stepped. engine.FollowsStep sys state Collect stepped new.engine records) _
            (λ stepped f. (f.next, f.steps)) (ok sys state (shared.stands records sys state s));
        idle = λ e. refl;
        none_drawn = λ e. ap (λ (s : ℕ × Bool). s.0) a.undrawn ∙ shared-next shared;
        damaged = λ id e. absurd (no_damage result id undamaged e);
        in_recovery = λ id e. absurd (no_damage result id undamaged e);
        unharmed = λ id sys state s e told. no_damage result id undamaged e;
      }

  pub raise-held : {E : Type 0} {stepped : Stepped} → IsShared old.engine mid → IsStored (engine.keep_of mid) (view store).records
      → RaiseAnswers {E = E} mid (Ok stepped) new.engine → StepsHeld view stand_of keep_of flow_of old store Collect (Ok stepped) new store
  raise-held {E} {stepped} shared stored a = raised (Ok stepped) shared stored a refl tt (λ sys state s. a.ok (view store).records sys state s)

  pub raise-refused : {E : Type 0} {e : E} → IsShared old.engine mid → IsStored (engine.keep_of mid) (view store).records
      → RaiseAnswers mid (Err e) new.engine → StepsHeld view stand_of keep_of flow_of old store Collect (Err fault.NoMemory) new store
  raise-refused shared stored a = raised (Err fault.NoMemory) shared stored a refl tt (λ sys state s. tt)
