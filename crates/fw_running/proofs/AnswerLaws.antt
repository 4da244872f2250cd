-- What follows from what a step answers.
use Rattle.std.proofs.Common.{◌≡◌, inl, ℕ, Bool, true, false, Option, Some, None, Result, Ok, Err, refl, subst, sym, ap, ◌∙◌}
use Rattle.std.specs.FinMap as map_of
use Rattle.std.specs.Prelude.{IfOk, IsErrOf, OnOk, OnErr, is_some, option_map}
use Rattle.fw_flow.specs.declared.choice.Stamps.{Stamps}
use Rattle.fw_flow.specs.declared.step.Step.{Step}
use Rattle.fw_flow.specs.declared.step.Step.TheVariants.{Inject, Deliver, Notify, Progress as ProgressStep, Checkpoint, Persist, Fail, Recover, Collect, Ack}
use Rattle.fw_flow.specs.Dataflow.{System}
use Rattle.fw_model.specs.Machine.{Machine}
use Rattle.fw_keep.specs.Catalogue.{KeepState}
use Rattle.fw_keep.specs.Stored.{Records}
use Rattle.fw_keep.proofs.StoredLaws.{freed-mapped}
use Rattle.fw_record.specs.declared.record.Record.{Record}
use Rattle.fw_record.specs.Spelling.{spelling}
use Rattle.fw_running.specs.declared.fault.EngineFault.{EngineFault}
use Rattle.fw_running.specs.declared.fault.EngineFault.TheVariants as fault
use Rattle.fw_running.specs.declared.running.Running.{Running}
use Rattle.fw_running.specs.declared.stepped.Stepped.{Stepped}
use Rattle.fw_running.specs.Faults.{is_refusal}
use Rattle.fw_running.specs.Logging.{IsAsked, IsAskRefused}
use Rattle.fw_running.specs.Shaped.{IsShaped}
use Rattle.fw_running.specs.Stands.{Stands}
use Rattle.fw_running.specs.Steps.{Follows, FollowsFirst, FirstMayCall, Trusts, HasOutcome, IsLeftBy, IsStepEnabled, ShowsOutcome, Answers, AnswersFirst, TakesStep, TakesFirstStep, StaysShaped, IsUndamaged, outcome_of}

-- ---- the shape

pub shape_left : {T : Type 0} (result : Result T EngineFault) (running : Running) → StaysShaped result running → is_refusal result ≡ false → IsShaped running
shape_left (Ok x) running s n = s
shape_left (Err fault.StoreFault) running s n = s
shape_left (Err (fault.Damaged id)) running s n = s
shape_left (Err fault.NoMemory) running s n = absurd (cc)

pub sound-after : {T : Type 0} (result : Result T EngineFault) (running : Running) (refused : Bool) → StaysShaped result running → refused ≡ is_refusal result
    → refused ≡ false → IsShaped running
sound-after result running refused s e n = shape_left result running s (sym e ∙ n)

pub refused-after : {T : Type 0} (result : Result T EngineFault) (refused : Bool) → refused ≡ is_refusal result → IsErrOf result fault.NoMemory → refused ≡ true
refused-after {T} result refused e n = e ∙ ap (λ (r : Result T EngineFault). is_refusal r) n

-- ---- the answers of a step

pub taken : (old : Running) (before : Option Records) (step : Step) (result : Result Stepped EngineFault) (new : Running) (after : Option Records)
    → TakesStep old before step result new after → (sys : System) (state : Machine) → Stands sys old before state → Trusts sys state step after
    → IfOk result (λ stepped. Follows sys state step (outcome_of stepped) new after)
taken old before step (Ok stepped) new after t sys state s trust = t sys state s trust
taken old before step (Err e) new after t sys state s trust = tt

-- what is answered is the machine's outcome, also of a recovery that can not trust what it reads
pub shown : (old : Running) (before : Option Records) (step : Step) (result : Result Stepped EngineFault) (new : Running) (after : Option Records)
    → TakesStep old before step result new after → (step ≡ Recover → ShowsOutcome old before step result) → (sys : System) (state : Machine)
    → Stands sys old before state → IfOk result (λ stepped. HasOutcome sys state step (outcome_of stepped))
shown old before step (Err e) new after t r sys state s = tt
shown old before Recover (Ok stepped) new after t r sys state s = r refl sys state s
shown old before (Inject i) (Ok stepped) new after t r sys state s = let f = t sys state s tt in (f.next, f.steps)
shown old before (Deliver e at) (Ok stepped) new after t r sys state s = let f = t sys state s tt in (f.next, f.steps)
shown old before (Notify p at) (Ok stepped) new after t r sys state s = let f = t sys state s tt in (f.next, f.steps)
shown old before ProgressStep (Ok stepped) new after t r sys state s = let f = t sys state s tt in (f.next, f.steps)
shown old before (Checkpoint p) (Ok stepped) new after t r sys state s = let f = t sys state s tt in (f.next, f.steps)
shown old before Persist (Ok stepped) new after t r sys state s = let f = t sys state s tt in (f.next, f.steps)
shown old before (Fail ps) (Ok stepped) new after t r sys state s = let f = t sys state s tt in (f.next, f.steps)
shown old before Collect (Ok stepped) new after t r sys state s = let f = t sys state s tt in (f.next, f.steps)
shown old before (Ack o) (Ok stepped) new after t r sys state s = let f = t sys state s tt in (f.next, f.steps)

pub left : (old : Running) (before : Option Records) (step : Step) (result : Result Stepped EngineFault) (new : Running) (after : Option Records)
    → TakesStep old before step result new after → (sys : System) (state : Machine) → Stands sys old before state → IsErrOf result fault.StoreFault
    → IsLeftBy sys state step (λ next. Stands sys new after next)
left old before step result new after t sys state s e = subst (λ (r : Result Stepped EngineFault). Answers sys state step r new after) e (t sys state s)

-- what a fault of the store leaves is answered at each fault that is no damage
pub left-answers : (T : Type 0) (sys : System) (state : Machine) (step : Step) (e : EngineFault) (new : Running) (after : Option Records)
    → IsUndamaged {T = T} (Err e) → (IsErrOf {T = T} (Err e) fault.StoreFault → IsLeftBy sys state step (λ next. Stands sys new after next))
    → Answers sys state step (Err e) new after
left-answers T sys state step fault.StoreFault new after u l = l refl
left-answers T sys state step (fault.Damaged id) new after u l = absurd u
left-answers T sys state step fault.NoMemory new after u l = tt

pub unharmed : (old : Running) (before : Option Records) (step : Step) (result : Result Stepped EngineFault) (new : Running) (after : Option Records) (id : ℕ)
    → TakesStep old before step result new after → (sys : System) (state : Machine) → Stands sys old before state → IsErrOf result (fault.Damaged id)
    → (after ≡ None) × IsStepEnabled sys state step × Stands sys new after state
unharmed old before step result new after id t sys state s e = subst (λ (r : Result Stepped EngineFault). Answers sys state step r new after) e (t sys state s)

-- ---- those of the first step that is enabled

pub first-taken : (old : Running) (before : Option Records) (result : Result Stepped EngineFault) (new : Running) (after : Option Records)
    → TakesFirstStep old before result new after → (sys : System) (state : Machine) → Stands sys old before state
    → IfOk result (λ stepped. FollowsFirst sys state (outcome_of stepped) new after)
first-taken old before (Ok stepped) new after t sys state s = t sys state s
first-taken old before (Err e) new after t sys state s = tt

pub first-left : (old : Running) (before : Option Records) (result : Result Stepped EngineFault) (new : Running) (after : Option Records)
    → TakesFirstStep old before result new after → (sys : System) (state : Machine) → Stands sys old before state → IsErrOf result fault.StoreFault
    → FirstMayCall sys state × Stands sys new after state
first-left old before result new after t sys state s e = subst (λ (r : Result Stepped EngineFault). AnswersFirst sys state r new after) e (t sys state s)

-- ---- no damage

pub no_damage : {T : Type 0} (result : Result T EngineFault) (id : ℕ) → IsUndamaged result → IsErrOf result (fault.Damaged id) → ⊥
no_damage {T} result id u e = subst (λ (r : Result T EngineFault). IsUndamaged r) e u

-- ---- a store that tells its records goes on telling them

pub mapped-tells : (change : Records → Records) (before after : Option Records) → after ≡ option_map change before → is_some after ≡ is_some before
mapped-tells change None after e = ap (λ (r : Option Records). is_some r) e
mapped-tells change (Some held) after e = ap (λ (r : Option Records). is_some r) e

-- where nothing is done at all, the asking may have been refused
pub refused_none : (keep : KeepState) (records : Option Records) → IsAskRefused keep keep records records
refused_none keep records = record { entries = refl; records = inl refl; bytes = λ e c. refl }

pub asking-tells : {T : Type 0} (result : Result T EngineFault) (what : Record) (stamps : Stamps) (old new : KeepState) (before after : Option Records)
    → OnOk result (IsAsked what stamps old.entries new.entries before after) → OnErr result (IsAskRefused old new before after) → is_some after ≡ is_some before
asking-tells (Ok x) what stamps old new before after a n = mapped-tells (λ held. map_of.insert held a.id (spelling what)) before after a.records
asking-tells (Err e) what stamps old new before after a n =
    let freed = freed-mapped old.shared old.next before after n.records in
    mapped-tells freed.0 before after freed.1
