-- The whole answer of a step, from those of its parts.
use Rattle.std.proofs.Common.{◌≡◌, ℕ, Bool, true, false, [], Option, Result, Ok, Err, refl, subst, sym, ap, ◌∙◌}
use Rattle.std.proofs.lemmas.Result.{err_from_is_err_and}
use Rattle.std.specs.Prelude.{IsErrOf, OnOk, IsSome, is_some}
use Rattle.std.specs.Result.{IsErrAnd}
use Rattle.fw_flow.specs.declared.step.Step.{Step}
use Rattle.fw_flow.specs.declared.step.Step.TheVariants.{Progress as ProgressStep, Recover, Collect}
use Rattle.fw_flow.specs.Dataflow.{Dataflow}
use Rattle.fw_model.specs.Steps.{is_recovery}
use Rattle.fw_keep.specs.declared.fault.KeepFault.{KeepFault}
use Rattle.fw_keep.specs.declared.fault.KeepFault.TheVariants as keep_fault
use Rattle.fw_keep.specs.Catalogue.{KeepState}
use Rattle.fw_keep.specs.Faults as kept
use Rattle.fw_keep.specs.Stored.{Records, IsStored}
use Rattle.fw_outside.specs.Outside.{StoreView}
use Rattle.fw_running.specs.declared.fault.EngineFault.{EngineFault}
use Rattle.fw_running.specs.declared.fault.EngineFault.TheVariants as fault
use Rattle.fw_running.specs.declared.running.Running.{Running}
use Rattle.fw_running.specs.declared.stepped.Effect.{Effect as Shown}
use Rattle.fw_running.specs.declared.stepped.Stepped.{Stepped}
use Rattle.fw_running.specs.declared.stepped.Stepped.TheVariants.{Did, Idle}
use Rattle.fw_running.specs.Faults.{fault_of, faults_after_step}
use Rattle.fw_running.specs.Shaped.{IsShaped}
use Rattle.fw_running.specs.Steps.{HasEager, InnerAnswers, IsDamage, IsUndamaged, LeavesUnasked, MayCallStore, PartAnswers, ShowsOutcome, StaysShaped, StepAnswers, TakesStep}
use Rattle.fw_running.proofs.AnswerLaws.{no_damage}

-- ---- faults

-- as often as before, after a step that does not call the store
unfaulted-counts : {T : Type 0} (result : Result T EngineFault) (count : ℕ) → (IsErrOf result fault.StoreFault → ⊥) → count ≡ faults_after_step result count
unfaulted-counts (Ok x) count u = refl
unfaulted-counts (Err fault.StoreFault) count u = absurd (u refl)
unfaulted-counts (Err (fault.Damaged id)) count u = refl
unfaulted-counts (Err fault.NoMemory) count u = refl

pub ok-unfaulted : {T : Type 0} {x : T} → IsErrOf (Ok x) fault.StoreFault → ⊥
ok-unfaulted e = cc

pub refused-unfaulted : {T : Type 0} → IsErrOf {T = T} (Err fault.NoMemory) fault.StoreFault → ⊥
refused-unfaulted e = cc

-- what did something is not idle
pub busy : {A : Type 0} {shown : Shown} → ◌≡◌ {A = Result Stepped EngineFault} (Ok (Did shown)) (Ok Idle) → A
busy e = absurd (cc)

-- what the catalogue hands on of a fault counts as its own does
pub fault-counts : (T S : Type 0) (f : KeepFault) (count : ℕ) → kept.keep_faults_after {T = T} (Err f) count ≡ faults_after_step {T = S} (Err (fault_of f)) count
fault-counts T S keep_fault.StoreFault count = refl
fault-counts T S (keep_fault.Damaged id bytes) count = refl
fault-counts T S keep_fault.NoMemory count = refl

-- a result of another type with the same fault has it too
same_fault : (A B : Type 0) (e other : EngineFault) → IsErrOf {T = A} (Err e) other → IsErrOf {T = B} (Err e) other
same_fault A B e other is = let same : e ≡ other = cc in ap (λ x. Err x) same

-- what is handed on of a fault
handed : {S : Type 0} (result : Result S EngineFault) (e : EngineFault) → IsErrAnd result (λ x. x ≡ e) → result ≡ Err e
handed result e is =
    let err = err_from_is_err_and result is in
    err.1 ∙ ap (λ (x : EngineFault). Err x) err.2

-- all keeps its shape where that is so whatever is answered
pub stays-shaped : {T : Type 0} (result : Result T EngineFault) (running : Running) → IsShaped running → StaysShaped result running
stays-shaped (Ok x) running s = s
stays-shaped (Err fault.StoreFault) running s = s
stays-shaped (Err (fault.Damaged id)) running s = s
stays-shaped (Err fault.NoMemory) running s = tt

undamaged-by : {T : Type 0} (result : Result T EngineFault) → ((id : ℕ) → IsErrOf result (fault.Damaged id) → ⊥) → IsUndamaged result
undamaged-by (Ok x) none = tt
undamaged-by (Err fault.StoreFault) none = tt
undamaged-by (Err (fault.Damaged id)) none = none id refl
undamaged-by (Err fault.NoMemory) none = tt

-- ---- a part of a step

-- one that does nothing
pub part-none : {K : Type 0} {view : K → StoreView} {MayCall : Type 0} {old : Running} {store : K} → IsStored old.parts.keep (view store).records
    → PartAnswers {T = Unit {0}} view MayCall old store (Ok tt) old store
part-none stored =
    record { stored = stored; flow = refl; faults = refl; calls = λ e. absurd (ok-unfaulted e); undamaged = tt; tells = refl; quiet = λ none. refl }

module _ {T K : Type 0} {view : K → StoreView} {old new : Running} {before after : K} where
  -- it hands a fault on
  pub part-err : {S : Type 0} {MayCall : Type 0} {e : EngineFault} {result : Result S EngineFault}
      → PartAnswers {T = T} view MayCall old before (Err e) new after → IsErrAnd result (λ x. x ≡ e) → PartAnswers view MayCall old before result new after
  part-err {S} {MayCall} {e} {result} p is =
      subst (λ (r : Result S EngineFault). PartAnswers view MayCall old before r new after) (sym (handed result e is)) (record {
        stored = p.stored;
        flow = p.flow;
        faults = p.faults;
        calls = λ f. p.calls (same_fault S T e fault.StoreFault f);
        undamaged = p.undamaged;
        tells = p.tells;
        quiet = p.quiet;
      })

  -- the store may be called in more cases
  pub part-may : {MayCall More : Type 0} {result : Result T EngineFault} → (MayCall → More) → PartAnswers view MayCall old before result new after
      → PartAnswers view More old before result new after
  part-may more p = record {
    stored = p.stored;
    flow = p.flow;
    faults = p.faults;
    calls = λ e. more (p.calls e);
    undamaged = p.undamaged;
    tells = p.tells;
    quiet = λ none. p.quiet (λ may. none (more may));
  }

  -- it began where the flow is the same
  pub part-of : {mid : Running} {result : Result T EngineFault} (MayCall : Dataflow → Type 0) → mid.flow ≡ old.flow
      → PartAnswers view (MayCall mid.flow) mid before result new after → PartAnswers view (MayCall old.flow) old before result new after
  part-of MayCall same p = part-may (subst MayCall same) (record {
    stored = p.stored;
    flow = p.flow ∙ same;
    faults = p.faults;
    calls = p.calls;
    undamaged = p.undamaged;
    tells = p.tells;
    quiet = p.quiet;
  })

  -- it goes on after one that went well, and calls the store no more
  pub part-on : {S : Type 0} {MayCall : Type 0} {part : Running} {x : T} {result : Result S EngineFault}
      → PartAnswers {T = T} view MayCall old before (Ok x) part after → IsStored new.parts.keep (view after).records → new.flow ≡ part.flow → IsUndamaged result
      → (IsErrOf result fault.StoreFault → ⊥) → PartAnswers view MayCall old before result new after
  part-on {S} {MayCall} {part} {x} {result} p stored flow undamaged unfaulted = record {
    stored = stored;
    flow = flow ∙ p.flow;
    faults = p.faults ∙ unfaulted-counts result (view before).faults unfaulted;
    calls = λ e. absurd (unfaulted e);
    undamaged = undamaged;
    tells = p.tells;
    quiet = p.quiet;
  }

  -- the same where the catalogue stays
  pub part-later : {S : Type 0} {MayCall : Type 0} {part : Running} {x : T} {result : Result S EngineFault}
      → PartAnswers {T = T} view MayCall old before (Ok x) part after → new.parts.keep ≡ part.parts.keep → new.flow ≡ part.flow → IsUndamaged result
      → (IsErrOf result fault.StoreFault → ⊥) → PartAnswers view MayCall old before result new after
  part-later p keep flow undamaged unfaulted =
      part-on p (subst (λ (k : KeepState). IsStored k (view after).records) (sym keep) p.stored) flow undamaged unfaulted

  -- memory is refused to it after one that went well
  pub part-refused : {S : Type 0} {MayCall : Type 0} {part : Running} {x : T} {result : Result S EngineFault}
      → PartAnswers {T = T} view MayCall old before (Ok x) part after → new.parts.keep ≡ part.parts.keep → new.flow ≡ part.flow
      → IsErrAnd result (λ e. e ≡ fault.NoMemory) → PartAnswers view MayCall old before result new after
  part-refused {S} {MayCall} {part} {x} {result} p keep flow is =
      subst (λ (r : Result S EngineFault). PartAnswers view MayCall old before r new after) (sym (handed result fault.NoMemory is))
      (part-later p keep flow tt refused-unfaulted)

-- before the store was called
pub part-refused_first : {S K : Type 0} {view : K → StoreView} {MayCall : Type 0} {old new : Running} {store : K} {result : Result S EngineFault}
    → IsStored old.parts.keep (view store).records → new.parts.keep ≡ old.parts.keep → new.flow ≡ old.flow → IsErrAnd result (λ e. e ≡ fault.NoMemory)
    → PartAnswers view MayCall old store result new store
part-refused_first stored keep flow is = part-refused (part-none stored) keep flow is

-- ---- a step that is no progress, no recovery and no collection

abbrev pub is_plain : Step → Bool
is_plain ProgressStep = false
is_plain Recover = false
is_plain Collect = false
is_plain step = true

not-plain : (step other : Step) → is_plain step ≡ true → is_plain other ≡ false → step ≡ other → ⊥
not-plain step other p n e = let same = ap is_plain e in cc

not-recovery : (step : Step) → is_recovery step ≡ false → step ≡ Recover → ⊥
not-recovery step n e = let same = ap is_recovery e in cc

module _ {K : Type 0} {view : K → StoreView} {old new : Running} {before after : K} {step : Step} where
  -- its answer is that of one part
  pub step-answers : {result : Result Stepped EngineFault} → is_plain step ≡ true
      → PartAnswers view (MayCallStore old.flow step) old before result new after → StaysShaped result new
      → TakesStep old (view before).records step result new (view after).records → (result ≡ Ok Idle → after ≡ before)
      → StepAnswers view old before step result new after
  step-answers {result} plain p shaped takes idle = record {
    shaped = shaped;
    stored = p.stored;
    flow = p.flow;
    takes = takes;
    shows = λ is. absurd (not-plain step Recover plain refl is);
    faults = p.faults;
    calls = p.calls;
    damaged = λ id e. absurd (no_damage result id p.undamaged e);
    in_recovery = λ id e. absurd (no_damage result id p.undamaged e);
    tells = λ other. p.tells;
    told_before = λ told. sym p.tells ∙ told;
    swept = λ is. absurd (not-plain step Collect plain refl is);
    quiet = p.quiet;
    unasked = λ is. absurd (not-plain step ProgressStep plain refl is);
    idle = λ other. idle;
  }

  -- of a step that is no recovery
  pub step-part : {result : Result Stepped EngineFault} → is_recovery step ≡ false → StepAnswers view old before step result new after
      → PartAnswers view (MayCallStore old.flow step) old before result new after
  step-part {result} other a = record {
    stored = a.stored;
    flow = a.flow;
    faults = a.faults;
    calls = a.calls;
    undamaged = undamaged-by result (λ id e. not-recovery step other (a.in_recovery id e));
    tells = a.tells (not-recovery step other);
    quiet = a.quiet;
  }

  -- a part of it fails
  pub step-fails : {T : Type 0} {mid : Running} {e : EngineFault} {result : Result Stepped EngineFault} → is_plain step ≡ true → mid.flow ≡ old.flow
      → PartAnswers {T = T} view (MayCallStore mid.flow step) mid before (Err e) new after → IsErrAnd result (λ x. x ≡ e) → StaysShaped {T = T} (Err e) new
      → TakesStep old (view before).records step (Err e) new (view after).records → StepAnswers view old before step result new after
  step-fails {T} {mid} {e} {result} plain same p is shaped takes =
      subst (λ (r : Result Stepped EngineFault). StepAnswers view old before step r new after) (sym (handed result e is))
      (step-answers plain (part-err {T = T} {e = e} (part-of (λ flow. MayCallStore flow step) same p) refl) shaped takes (λ i. absurd (cc)))

  -- a part of it went well, and it did something
  pub step-did : {T : Type 0} {mid part : Running} {x : T} {shown : Shown} → is_plain step ≡ true → mid.flow ≡ old.flow
      → PartAnswers {T = T} view (MayCallStore mid.flow step) mid before (Ok x) part after → new.parts.keep ≡ part.parts.keep → new.flow ≡ part.flow → IsShaped new
      → TakesStep old (view before).records step (Ok (Did shown)) new (view after).records → StepAnswers view old before step (Ok (Did shown)) new after
  step-did {T} {mid} {part} {x} plain same p keep flow shaped takes =
      step-answers plain (part-later {T = T} {x = x} (part-of (λ flow. MayCallStore flow step) same p) keep flow tt ok-unfaulted) shaped takes busy

  -- a part of it went well, and then memory was refused
  pub step-refused : {T : Type 0} {mid part : Running} {x : T} {result : Result Stepped EngineFault} → is_plain step ≡ true → mid.flow ≡ old.flow
      → PartAnswers {T = T} view (MayCallStore mid.flow step) mid before (Ok x) part after → new.parts.keep ≡ part.parts.keep → new.flow ≡ part.flow
      → IsErrAnd result (λ e. e ≡ fault.NoMemory) → StepAnswers view old before step result new after
  step-refused {T} {mid} {part} {x} {result} plain same p keep flow is =
      subst (λ (r : Result Stepped EngineFault). StepAnswers view old before step r new after) (sym (handed result fault.NoMemory is))
      (step-answers plain (part-later {T = T} {x = x} (part-of (λ flow. MayCallStore flow step) same p) keep flow tt refused-unfaulted) tt (λ sys state s. tt) (λ i. absurd (cc)))

-- it is idle
pub step-idle : {K : Type 0} {view : K → StoreView} {old new : Running} {store : K} {step : Step} → is_plain step ≡ true
    → IsStored old.parts.keep (view store).records → new.parts.keep ≡ old.parts.keep → new.flow ≡ old.flow → IsShaped new
    → TakesStep old (view store).records step (Ok Idle) new (view store).records → StepAnswers view old store step (Ok Idle) new store
step-idle plain stored keep flow shaped takes = step-answers plain (part-later (part-none stored) keep flow tt ok-unfaulted) shaped takes (λ e. refl)

-- memory was refused before the store was called
pub step-refused_first : {K : Type 0} {view : K → StoreView} {old new : Running} {store : K} {step : Step} {result : Result Stepped EngineFault}
    → is_plain step ≡ true → IsStored old.parts.keep (view store).records → new.parts.keep ≡ old.parts.keep → new.flow ≡ old.flow
    → IsErrAnd result (λ e. e ≡ fault.NoMemory) → StepAnswers view old store step result new store
step-refused_first {K} {view} {old} plain stored keep flow is = step-refused {mid = old} {part = old} plain refl (part-none stored) keep flow is

-- ---- a progress

module _ {K : Type 0} {view : K → StoreView} {old new : Running} {before after : K} where
  -- its answer is that of one part
  pub progress-answers : {result : Result Stepped EngineFault} → PartAnswers view (HasEager old.flow) old before result new after → StaysShaped result new
      → TakesStep old (view before).records ProgressStep result new (view after).records → LeavesUnasked old (view before).records (after ≡ before)
      → (result ≡ Ok Idle → after ≡ before) → StepAnswers view old before ProgressStep result new after
  progress-answers {result} p shaped takes unasked idle = record {
    shaped = shaped;
    stored = p.stored;
    flow = p.flow;
    takes = takes;
    shows = λ is. absurd (cc);
    faults = p.faults;
    calls = p.calls;
    damaged = λ id e. absurd (no_damage result id p.undamaged e);
    in_recovery = λ id e. absurd (no_damage result id p.undamaged e);
    tells = λ other. p.tells;
    told_before = λ told. sym p.tells ∙ told;
    swept = λ is. absurd (cc);
    quiet = p.quiet;
    unasked = λ is. unasked;
    idle = λ other. idle;
  }

  -- a part of it fails
  pub progress-fails : {T : Type 0} {e : EngineFault} {result : Result Stepped EngineFault} → IsErrAnd result (λ x. x ≡ e)
      → PartAnswers {T = T} view (HasEager old.flow) old before (Err e) new after → StaysShaped {T = T} (Err e) new
      → TakesStep old (view before).records ProgressStep (Err e) new (view after).records → LeavesUnasked old (view before).records (after ≡ before)
      → StepAnswers view old before ProgressStep result new after
  progress-fails {T} {e} {result} is p shaped takes unasked =
      subst (λ (r : Result Stepped EngineFault). StepAnswers view old before ProgressStep r new after) (sym (handed result e is))
      (progress-answers (part-err {T = T} {e = e} p refl) shaped takes unasked (λ i. absurd (cc)))

-- ---- a step that never calls the store

module _ {old new : Running} {step : Step} where
  -- it is no fault, and the catalogue stays
  pub inner-ok : {stepped : Stepped} → IsShaped new → new.parts.keep ≡ old.parts.keep → new.flow ≡ old.flow
      → ((records : Option Records) → TakesStep old records step (Ok stepped) new records) → InnerAnswers old step (Ok stepped) new
  inner-ok shaped keep flow takes = record {
    shaped = shaped;
    stored = λ records held. subst (λ (k : KeepState). IsStored k records) (sym keep) held;
    flow = flow;
    takes = takes;
    unfaulted = ok-unfaulted;
    undamaged = tt;
  }

  -- memory is refused, and the catalogue keeps what is stored
  pub inner-refused : {result : Result Stepped EngineFault}
      → ((records : Option Records) → IsStored old.parts.keep records → IsStored new.parts.keep records) → new.flow ≡ old.flow
      → IsErrAnd result (λ e. e ≡ fault.NoMemory) → InnerAnswers old step result new
  inner-refused {result} stored flow is =
      subst (λ (r : Result Stepped EngineFault). InnerAnswers old step r new) (sym (handed result fault.NoMemory is))
      (record { shaped = tt; stored = stored; flow = flow; takes = λ records sys state s. tt; unfaulted = refused-unfaulted; undamaged = tt })

  -- over a store its answer is one of a part, and one of a step
  pub inner-part : {K : Type 0} {view : K → StoreView} {MayCall : Type 0} {store : K} {result : Result Stepped EngineFault}
      → IsStored old.parts.keep (view store).records → InnerAnswers old step result new → PartAnswers view MayCall old store result new store
  inner-part {K} {view} {MayCall} {store} stored a =
      part-on (part-none stored) (a.stored (view store).records stored) a.flow a.undamaged a.unfaulted

  pub inner-answers : {K : Type 0} {view : K → StoreView} {store : K} {result : Result Stepped EngineFault} → is_plain step ≡ true
      → IsStored old.parts.keep (view store).records → InnerAnswers old step result new → StepAnswers view old store step result new store
  inner-answers {K} {view} {store} plain stored a = step-answers plain (inner-part stored a) a.shaped (a.takes (view store).records) (λ e. refl)

-- ---- a collection and a recovery

module _ {K : Type 0} {view : K → StoreView} {old new : Running} {before after : K} {result : Result Stepped EngineFault} where
  pub collection-answers : StaysShaped result new → IsStored new.parts.keep (view after).records → new.flow ≡ old.flow
      → TakesStep old (view before).records Collect result new (view after).records → (view after).faults ≡ faults_after_step result (view before).faults
      → IsUndamaged result → is_some (view after).records ≡ is_some (view before).records → OnOk result (new.parts.keep.waiting ≡ [])
      → StepAnswers view old before Collect result new after
  collection-answers shaped stored flow takes faults undamaged tells swept = record {
    shaped = shaped;
    stored = stored;
    flow = flow;
    takes = takes;
    shows = λ is. absurd (cc);
    faults = faults;
    calls = λ e. tt;
    damaged = λ id e. absurd (no_damage result id undamaged e);
    in_recovery = λ id e. absurd (no_damage result id undamaged e);
    tells = λ other. tells;
    told_before = λ told. sym tells ∙ told;
    swept = λ is. swept;
    quiet = λ none. absurd (none tt);
    unasked = λ is. absurd (cc);
    idle = λ other. absurd (other refl);
  }

  pub recovery-answers : StaysShaped result new → IsStored new.parts.keep (view after).records → new.flow ≡ old.flow
      → TakesStep old (view before).records Recover result new (view after).records → ShowsOutcome old (view before).records Recover result
      → (view after).faults ≡ faults_after_step result (view before).faults → ((id : ℕ) → IsErrOf result (fault.Damaged id) → IsDamage old id (view after).given)
      → (IsSome (view after).records → IsSome (view before).records) → (result ≡ Ok Idle → after ≡ before) → StepAnswers view old before Recover result new after
  recovery-answers shaped stored flow takes shows faults damaged told_before idle = record {
    shaped = shaped;
    stored = stored;
    flow = flow;
    takes = takes;
    shows = λ is. shows;
    faults = faults;
    calls = λ e. tt;
    damaged = damaged;
    in_recovery = λ id e. refl;
    tells = λ other. absurd (other refl);
    told_before = told_before;
    swept = λ is. absurd (cc);
    quiet = λ none. absurd (none tt);
    unasked = λ is. absurd (cc);
    idle = λ other. idle;
  }

-- memory is refused
pub collection-refused : {K : Type 0} {view : K → StoreView} {old new : Running} {store : K} {result : Result Stepped EngineFault}
    → IsStored new.parts.keep (view store).records → new.flow ≡ old.flow → IsErrAnd result (λ e. e ≡ fault.NoMemory)
    → StepAnswers view old store Collect result new store
collection-refused {K} {view} {old} {new} {store} {result} stored flow is =
    subst (λ (r : Result Stepped EngineFault). StepAnswers view old store Collect r new store) (sym (handed result fault.NoMemory is))
    (collection-answers tt stored flow (λ sys state s. tt) refl tt refl tt)

module _ {K : Type 0} {view : K → StoreView} {old new : Running} {before after : K} {result : Result Stepped EngineFault} where
  pub recovery-fails : (e : EngineFault) → IsErrAnd result (λ x. x ≡ e) → IsShaped new → IsStored new.parts.keep (view after).records → new.flow ≡ old.flow
      → TakesStep old (view before).records Recover result new (view after).records → (view after).faults ≡ faults_after_step {T = Stepped} (Err e) (view before).faults
      → ((id : ℕ) → IsErrOf result (fault.Damaged id) → IsDamage old id (view after).given) → (IsSome (view after).records → IsSome (view before).records)
      → StepAnswers view old before Recover result new after
  recovery-fails e is shaped stored flow takes faults damaged told_before =
      let at = sym (handed result e is) in
      recovery-answers (stays-shaped result new shaped) stored flow takes
      (subst (λ (r : Result Stepped EngineFault). ShowsOutcome old (view before).records Recover r) at (λ sys state s. tt))
      (subst (λ (r : Result Stepped EngineFault). (view after).faults ≡ faults_after_step r (view before).faults) at faults) damaged told_before
      (subst (λ (r : Result Stepped EngineFault). r ≡ Ok Idle → after ≡ before) at (λ i. absurd (cc)))

  pub recovery-refused : IsErrAnd result (λ e. e ≡ fault.NoMemory) → IsStored new.parts.keep (view after).records → new.flow ≡ old.flow
      → (view after).faults ≡ (view before).faults → (IsSome (view after).records → IsSome (view before).records)
      → StepAnswers view old before Recover result new after
  recovery-refused is stored flow faults told_before =
      subst (λ (r : Result Stepped EngineFault). StepAnswers view old before Recover r new after) (sym (handed result fault.NoMemory is))
      (recovery-answers tt stored flow (λ sys state s. tt) (λ sys state s. tt) faults (λ id e. absurd (no_damage {T = Stepped} (Err fault.NoMemory) id tt e)) told_before
      (λ i. absurd (cc)))
