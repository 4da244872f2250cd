-- What an engine answers that starts again, by what it is made of.
use Rattle.std.proofs.Common.{◌≡◌, ℕ, List, Option, Some, None, IsSome, Ok, Err, refl, sym, ap, subst, ◌∙◌}
use Rattle.fw_outside.specs.Outside.{StoreView, StayIfTold}
use Rattle.fw_flow.specs.declared.choice.Choice.{Choice}
use Rattle.fw_flow.specs.declared.step.Step.TheVariants.{Recover}
use Rattle.fw_flow.specs.Dataflow.{Dataflow, System, system_of}
use Rattle.fw_flow.specs.WellFormed.{IsWellFormedSystem}
use Rattle.fw_model.specs.Machine.{Machine}
use Rattle.fw_model.specs.Reached.{IsReached}
use Rattle.fw_model.specs.Steps.{Effect, Outcome, cuts, did, idle, LeadsTo, StepsTo}
use Rattle.fw_keep.specs.Stored.{Records}
use Rattle.fw_named.specs.Named.{AreNamed}
use Rattle.fw_regain.specs.Down.{down}
use Rattle.fw_regain.specs.RootOf.{IsRootOf}
use Rattle.fw_regain.proofs.DownLaws.{starts-again}
use Rattle.fw_root.specs.OfFlow.{Given}
use Rattle.fw_root.specs.declared.root.Root.{Root}
use Rattle.fw_running.specs.declared.fault.EngineFault.{EngineFault}
use Rattle.fw_running.specs.declared.fault.EngineFault.TheVariants as fault
use Rattle.fw_running.specs.declared.running.Running.{Running}
use Rattle.fw_running.specs.declared.stepped.Stepped.{Stepped}
use Rattle.fw_running.specs.Drawn.{DrawsAtMost}
use Rattle.fw_running.specs.Faults.{faults_after_step}
use Rattle.fw_running.specs.Held.{AnswersHeld, RecoversHeld}
use Rattle.fw_running.specs.Stands.{Stands}
use Rattle.fw_running.specs.Steps.{Follows, StepAnswers, Trusts, outcome_of}
use Rattle.fw_resume.proofs.StayLaws.{down_has_the_same_writes}
use Rattle.fw_resume.specs.Resumed.{Resumes, TellsDamaged}
use Rattle.fw_engine.specs.Engine as engine
use Rattle.fw_hold.specs.Engine.{EntriesAreThere, GaveBytes, KeepsOutside, ResumesHeld, RestoresAll}
use Rattle.fw_held.specs.declared.restartable.RestartableEngine.{RestartableEngine}
use Rattle.fw_held.proofs.HeldStepLaws.{stand_of, keep_of, flow_of}
use Rattle.fw_held.proofs.StoreLaws.{none-outside, none-told, same-next, stays-outside, stored-there}

-- ---- the recovery

-- a recovery that reads what the store tells reads what was put
trusts-told : (sys : System) (state : Machine) (records : Option Records) → IsSome records → Trusts sys state Recover records
trusts-told sys state None told = absurd (cc)
trusts-told sys state (Some held) told = tt

-- where every node is failed the machine recovers
restored : (sys : System) (state next : Machine) (outcome : Outcome) → IsWellFormedSystem sys → IsReached sys state → StepsTo sys (down sys state) Recover next outcome
    → (choice : Choice) × LeadsTo sys (down sys state) Recover next (cuts choice) × (outcome ≡ did (cuts choice))
restored sys state next idle well reached stays =
    let again = starts-again sys state well reached in
    absurd (stays.0 again.0 (cuts again.1) again.2.recovered)
restored sys state next (did effect) well reached leads =
    (leads.1, subst (λ (e : Effect). LeadsTo sys (down sys state) Recover next e) leads.8 leads, ap did leads.8)

-- so does the engine
restores : (sys : System) (state : Machine) (stepped : Stepped) (running : Running) (made : RestartableEngine) (records : Option Records)
    → engine.running_of made.engine ≡ running → IsWellFormedSystem sys → IsReached sys state
    → Follows sys (down sys state) Recover (outcome_of stepped) running records → RestoresAll stand_of sys state (outcome_of stepped) made records
restores sys state stepped running made records runs well reached f =
    let r = restored sys state f.next (outcome_of stepped) well reached f.steps in
    (f.next, r.0, r.1, r.2, subst (λ (x : Running). Stands sys x records f.next) (sym runs) f.stands)

-- what is told of the states of which the root is one, and whose writes the records hold
abbrev FromRoot : Dataflow → Given → Root → Option Records → (Machine → Type 0) → Type 0
FromRoot flow batches root records P = (state : Machine) → IsReached (system_of flow batches) state → IsRootOf (system_of flow batches) state root
    → AreNamed (system_of flow batches) (down (system_of flow batches) state) root records → P state

-- they hold those of the state in which every node is failed
left : (sys : System) (state : Machine) (root : Root) (records : Option Records) → AreNamed sys state root records
    → AreNamed sys (down sys state) root records
left sys state root records n = (down_has_the_same_writes sys state root records).0 n

-- ---- where a fault is answered

module _ {K : Type 0} {view : K → StoreView} {flow : Dataflow} {batches : Given} {root : Root} where
  failed : {before after : K} (e : EngineFault) → KeepsOutside 0 0 (view before).records (view after).records
      → (view after).faults ≡ faults_after_step {T = RestartableEngine × Stepped} (Err e) (view before).faults
      → ((id : ℕ) → e ≡ fault.Damaged id → GaveBytes id (view after).given)
      → FromRoot flow batches root (view before).records (λ state. IsSome (view after).records → (id : ℕ) → e ≡ fault.Damaged id → ⊥)
      → ResumesHeld view stand_of keep_of flow_of flow batches root before (Err e) after
  failed {before} {after} e stays faults gave unharmed = record {
    runs = tt;
    stored = tt;
    next = tt;
    stays = stays;
    restores = λ state reached of named told. tt;
    damaged = λ id is. gave id (cc);
    unharmed = λ id state reached of named told is. unharmed state reached of (left (system_of flow batches) state root (view before).records named) told id (cc);
    faults = faults;
  }

  -- by the root and its records
  pub resume-failed : {before after : K} (e : EngineFault) → StayIfTold (view before).records (view after).records
      → (view after).faults ≡ faults_after_step {T = Running} (Err e) (view before).faults → TellsDamaged flow root (view after).given (Err e)
      → FromRoot flow batches root (view before).records (λ state. IsSome (view after).records
      → Resumes (system_of flow batches) (down (system_of flow batches) state) (view after).records (Err e))
      → ResumesHeld view stand_of keep_of flow_of flow batches root before (Err e) after
  resume-failed {before} {after} e stay faults gave held =
      failed e (stays-outside (view before).records (view after).records stay) (faults ∙ same-count e (view before).faults)
      (gave-bytes e (view after).given gave)
      (λ state reached of named told. undamaged e state (held state reached of named told))
    where
      same-count : (e : EngineFault) (n : ℕ) → faults_after_step {T = Running} (Err e) n ≡ faults_after_step {T = RestartableEngine × Stepped} (Err e) n
      same-count fault.StoreFault n = refl
      same-count (fault.Damaged id) n = refl
      same-count fault.NoMemory n = refl

      gave-bytes : (e : EngineFault) (given : Option (ℕ × List ℕ)) → TellsDamaged flow root given (Err e) → (id : ℕ) → e ≡ fault.Damaged id → GaveBytes id given
      gave-bytes fault.StoreFault given t id is = absurd (cc)
      gave-bytes (fault.Damaged at) given t id is = let same : at ≡ id = cc in (t.bytes, t.gave ∙ ap (λ n. Some (n, t.bytes)) same)
      gave-bytes fault.NoMemory given t id is = absurd (cc)

      undamaged : (e : EngineFault) (state : Machine)
          → Resumes (system_of flow batches) (down (system_of flow batches) state) (view after).records (Err e) → (id : ℕ) → e ≡ fault.Damaged id → ⊥
      undamaged fault.StoreFault state h id is = absurd (cc)
      undamaged (fault.Damaged at) state h id is = h
      undamaged fault.NoMemory state h id is = absurd (cc)

  -- by the recovery
  pub recover-failed : {before mid after : K} (running new : Running) (e : EngineFault) → StayIfTold (view before).records (view mid).records
      → (view mid).faults ≡ (view before).faults
      → FromRoot flow batches root (view before).records (λ state. IsSome (view mid).records
      → Resumes (system_of flow batches) (down (system_of flow batches) state) (view mid).records (Ok running))
      → StepAnswers view running mid Recover (Err e) new after → RecoversHeld running (view mid).records (Err e) new (view after).records
      → DrawsAtMost 0 running.parts.keep new.parts.keep (view mid).records (view after).records
      → ResumesHeld view stand_of keep_of flow_of flow batches root before (Err e) after
  recover-failed {before} {mid} {after} running new e stay same held a recovers draws =
      failed e (none-outside stay draws) (a.faults ∙ ap (faults_after_step {T = Stepped} (Err e)) same ∙ same-count e (view before).faults)
      (λ id is. let d = a.damaged id (ap Err is) in (d.bytes, d.gave))
      (λ state reached of named told. undamaged e state told
      (recovers (system_of flow batches) (down (system_of flow batches) state) (held state reached of named (a.told_before told))))
    where
      same-count : (e : EngineFault) (n : ℕ) → faults_after_step {T = Stepped} (Err e) n ≡ faults_after_step {T = RestartableEngine × Stepped} (Err e) n
      same-count fault.StoreFault n = refl
      same-count (fault.Damaged id) n = refl
      same-count fault.NoMemory n = refl

      undamaged : (e : EngineFault) (state : Machine) → IsSome (view after).records
          → AnswersHeld (system_of flow batches) (down (system_of flow batches) state) (Err e) new (view after).records → (id : ℕ) → e ≡ fault.Damaged id → ⊥
      undamaged fault.StoreFault state told h id is = absurd (cc)
      undamaged (fault.Damaged at) state told h id is = none-told (view after).records h.0 told
      undamaged fault.NoMemory state told h id is = absurd (cc)

  -- ---- where it is done

  pub resumed-held : {before mid after : K} (running new : Running) (made : RestartableEngine) (stepped : Stepped) → IsWellFormedSystem (system_of flow batches)
      → running.flow ≡ flow → running.parts.keep.next ≡ root.next_id → StayIfTold (view before).records (view mid).records
      → (view mid).faults ≡ (view before).faults
      → FromRoot flow batches root (view before).records (λ state. IsSome (view mid).records
      → Resumes (system_of flow batches) (down (system_of flow batches) state) (view mid).records (Ok running))
      → StepAnswers view running mid Recover (Ok stepped) new after → RecoversHeld running (view mid).records (Ok stepped) new (view after).records
      → DrawsAtMost 0 running.parts.keep new.parts.keep (view mid).records (view after).records → engine.running_of made.engine ≡ new
      → ResumesHeld view stand_of keep_of flow_of flow batches root before (Ok (made, stepped)) after
  resumed-held {before} {mid} {after} running new made stepped well runs next stay same held a recovers draws is =
      let sys = system_of flow batches in
      record {
        runs = ap (λ (r : Running). r.flow) is ∙ a.flow ∙ runs;
        stored = subst (λ (r : Running). EntriesAreThere r.parts.keep (view after).records) (sym is) (stored-there new.parts.keep (view after).records a.stored);
        next = ap (λ (r : Running). r.parts.keep.next) is ∙ same-next draws ∙ next;
        stays = none-outside stay draws;
        restores = λ state reached of named told.
            restores sys state stepped new made (view after).records is well reached
            (recovers sys (down sys state) (held state reached of (left (system_of flow batches) state root (view before).records named) (a.told_before told)) (trusts-told sys (down sys state) (view after).records told));
        damaged = λ id e. absurd (cc);
        unharmed = λ id state reached of named told e. absurd (cc);
        faults = a.faults ∙ same;
      }
