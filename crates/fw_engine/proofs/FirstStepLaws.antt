-- The first step that is enabled.
use Rattle.std.proofs.Common.{◌≡◌, Result, Ok, Err, IsErrOf, Option, refl, sym, subst}
use Rattle.fw_flow.specs.declared.step.Step.{Step}
use Rattle.fw_flow.specs.Dataflow.{System}
use Rattle.fw_model.specs.Auto.{auto_steps, TakesFirst}
use Rattle.fw_model.specs.Machine.{Machine}
use Rattle.fw_model.specs.Steps.{Effect, Outcome, did, idle, LeadsTo}
use Rattle.fw_keep.specs.Stored.{Records}
use Rattle.fw_stands.specs.FirstSteps.{NoneToAcknowledge}
use Rattle.fw_stands.proofs.TakingLaws.{enabled_steps-taken}
use Rattle.fw_running.specs.declared.fault.EngineFault.{EngineFault}
use Rattle.fw_running.specs.declared.fault.EngineFault.TheVariants as fault
use Rattle.fw_running.specs.declared.running.Running.{Running}
use Rattle.fw_running.specs.declared.stepped.Stepped.{Stepped}
use Rattle.fw_running.specs.declared.stepped.Stepped.TheVariants.{Did, Idle}
use Rattle.fw_running.specs.ReadyState.{ReadyState}
use Rattle.fw_running.specs.Stands.{Stands}
use Rattle.fw_running.specs.Steps.{outcome_of, Answers, AnswersFirst, FirstMayCall, IsLeftBy, IsUndamaged, Trusts}
use Rattle.fw_running.proofs.SameStateLaws.{same-stands}
use Rattle.fw_engine.specs.Searching.{AnswersEarlier}

-- which places are kept as ready is nothing that a state tells
pub ready_stands : (sys : System) (state : Machine) (running : Running) (records : Option Records) (ready : ReadyState) → Stands sys running records state
    → Stands sys (record running { ready = ready }) records state
ready_stands sys state running records ready s =
    same-stands sys running running.parts.keep running.progress ready records records state s s.apart.settled s.apart.progress s.apart.entries
    s.apart.bases s.apart.stored

-- a step that is enabled, and where it is the first one, answers as the first one does
pub first_answers : (sys : System) (state other : Machine) (step : Step) (effect : Effect) (result : Result Stepped EngineFault)
    → (new : Running) (after : Option Records) → LeadsTo sys state step other effect
    → ((next : Machine) (shown : Effect) → LeadsTo sys state step next shown → TakesFirst sys state (auto_steps sys.flow) next (did shown))
    → Trusts sys state step after → ((P : Machine → Type 0) → IsLeftBy sys state step P → P state) → IsUndamaged result
    → (IsErrOf result fault.StoreFault → FirstMayCall sys state) → Answers sys state step result new after → AnswersFirst sys state result new after
first_answers sys state other step effect (Ok stepped) new after leads first trusts left sound calls answers =
    let f = answers trusts in
    let t = enabled_steps-taken sys state f.next step (outcome_of stepped) f.steps other effect leads in
    record {
      next = f.next;
      takes = subst (λ (o : Outcome). TakesFirst sys state (auto_steps sys.flow) f.next o) (sym t.1) (first f.next t.0 t.2);
      stands = f.stands;
    }
first_answers sys state other step effect (Err fault.StoreFault) new after leads first trusts left sound calls answers =
    (calls refl, left (λ next. Stands sys new after next) answers)
first_answers sys state other step effect (Err (fault.Damaged id)) new after leads first trusts left sound calls answers = sound
first_answers sys state other step effect (Err fault.NoMemory) new after leads first trusts left sound calls answers = tt

idle-shows : (effect : Effect) → idle ≡ did effect → ⊥
idle-shows effect e = cc

-- a step that is enabled and comes before the injections answers as the first one does, and something comes before them
pub earlier_answers : (sys : System) (state other : Machine) (step : Step) (effect : Effect) (result : Result Stepped EngineFault)
    → (new : Running) (after : Option Records) → LeadsTo sys state step other effect
    → ((next : Machine) (shown : Effect) → LeadsTo sys state step next shown → TakesFirst sys state (auto_steps sys.flow) next (did shown))
    → (NoneToAcknowledge sys state → ⊥) → Trusts sys state step after → ((P : Machine → Type 0) → IsLeftBy sys state step P → P state) → IsUndamaged result
    → (IsErrOf result fault.StoreFault → FirstMayCall sys state) → Answers sys state step result new after → AnswersEarlier sys state result new after
earlier_answers sys state other step effect (Ok (Did shown)) new after leads first some trusts left sound calls answers =
    (some, first_answers sys state other step effect (Ok (Did shown)) new after leads first trusts left sound calls answers)
earlier_answers sys state other step effect (Ok Idle) new after leads first some trusts left sound calls answers =
    let f = answers trusts in
    absurd (idle-shows _ (enabled_steps-taken sys state f.next step idle f.steps other effect leads).1)
earlier_answers sys state other step effect (Err e) new after leads first some trusts left sound calls answers =
    first_answers sys state other step effect (Err e) new after leads first trusts left sound calls answers
