-- What a step of a shared engine answers.
use Rattle.std.proofs.Common.{◌≡◌, ◌≢◌, ℕ, ◌≤◌, true, Option, Result, Ok, Err, length, refl, sym, ap, subst, ◌∙◌, arith}
use Rattle.std.specs.Prelude.{IfOk}
use Rattle.fw_engine.specs.declared.engine.Engine.{Engine}
use Rattle.fw_engine.specs.Engine.{flow_of, keep_of, EngineAnswers, RaiseAnswers, StandsFor, WithinAnswers}
use Rattle.fw_feeding.specs.OpenRuns.{HoldsBack}
use Rattle.fw_flow.specs.declared.step.Step.{Step}
use Rattle.fw_flow.specs.declared.step.Step.TheVariants.{Collect}
use Rattle.fw_flow.specs.Dataflow.{System}
use Rattle.fw_flow.specs.WellFormed.{IsWellFormed}
use Rattle.fw_held.proofs.StoreLaws.{drawn-few, drawn-outside}
use Rattle.fw_hold.specs.Engine.{KeepsOutside}
use Rattle.fw_keep.specs.Catalogue.{KeepState}
use Rattle.fw_keep.specs.Stored.{Records, IsStored}
use Rattle.fw_model.specs.Machine.{Machine}
use Rattle.fw_outside.specs.Outside.{StoreView}
use Rattle.fw_running.specs.declared.fault.EngineFault.{EngineFault}
use Rattle.fw_running.specs.declared.fault.EngineFault.TheVariants as fault
use Rattle.fw_running.specs.declared.stepped.Stepped.{Stepped}
use Rattle.fw_running.specs.declared.stepped.Stepped.TheVariants.{Idle}
use Rattle.fw_running.specs.Drawn.{DrawsAtMost}
use Rattle.fw_running.proofs.DrawnLaws.{draws_same}
use Rattle.fw_session.specs.declared.arrivals.Arrivals.{Arrivals}
use Rattle.fw_session.specs.Session.{came_in, FirstGoesOn, IsAt, StepGoesOn}
use Rattle.fw_session.specs.Story.{Story, system_now}
use Rattle.fw_session.proofs.SessionLaws.{at-stays}
use Rattle.fw_session.proofs.TurnLaws.{by-result, first-goes_on, held-goes_on, shown, step-goes_on}
use Rattle.fw_lasting.specs.UnderWay.{LeavesRecords}

-- the engine is shared: its store may hold what others put
pub record HasShared (old new : Engine) : Type 0 where
  pub keep : keep_of new ≡ record (keep_of old) { shared = true }
  pub flow : flow_of new ≡ flow_of old
  pub stands : (records : Option Records) (sys : System) (state : Machine) → StandsFor sys old records state → StandsFor sys new records state

-- ---- what is left of the records

pub leaves-drawn : (old mid new : Engine) (before after : Option Records) (n : ℕ) → HasShared old mid → n ≤ 256 → flow_of new ≡ flow_of mid
    → IsStored (keep_of new) after → DrawsAtMost n (keep_of mid) (keep_of new) before after → LeavesRecords old before new after
leaves-drawn old mid new before after n shared few flow stored draws =
    let ids : (keep_of mid).next ≡ (keep_of old).next = ap (λ (k : KeepState). k.next) shared.keep in
    let drawn = draws.few in
    let back = draws.never_back in
    record {
      flow = flow ∙ shared.flow;
      stored = λ held told. (stored held told).0;
      outside = subst (λ first. KeepsOutside first (keep_of new).next before after) ids (drawn-outside draws);
      drawn = omega (arith, few, drawn, ids);
      never_back = omega (arith, back, ids);
    }

pub leaves-shared : (old mid : Engine) (records : Option Records) → HasShared old mid → IsStored (keep_of mid) records
    → LeavesRecords old records mid records
leaves-shared old mid records shared stored = leaves-drawn old mid mid records records 0 shared (omega arith) refl stored (draws_same refl)

pub leaves-raised : {E : Type 0} {result : Result Stepped E} (old mid new : Engine) (records : Option Records) → HasShared old mid
    → IsStored (keep_of mid) records → RaiseAnswers mid result new → LeavesRecords old records new records
leaves-raised old mid new records shared stored a =
    leaves-drawn old mid new records records 0 shared (omega arith) a.flow (a.stored records stored) (draws_same a.undrawn)

pub leaves-step : {K : Type 0} (view : K → StoreView) (old mid new : Engine) (before after : K) (step : Step) (result : Result Stepped EngineFault)
    → HasShared old mid → IsWellFormed (flow_of mid) → step ≢ Collect → EngineAnswers view mid before step result new after
    → LeavesRecords old (view before).records new (view after).records
leaves-step view old mid new before after step result shared well other a =
    leaves-drawn old mid new (view before).records (view after).records _ shared (drawn-few (flow_of mid) result well) a.flow a.stored (a.draws other)

pub leaves-first : {K : Type 0} (view : K → StoreView) (old mid new : Engine) (before after : K) (came : ℕ → ℕ) (result : Result Stepped EngineFault)
    → HasShared old mid → IsWellFormed (flow_of mid) → WithinAnswers view mid before came result new after
    → LeavesRecords old (view before).records new (view after).records
leaves-first view old mid new before after came result shared well a =
    leaves-drawn old mid new (view before).records (view after).records _ shared (drawn-few (flow_of mid) result well) a.flow a.stored a.draws

-- ---- how a session goes on

at-shared : (old mid : Engine) (records : Option Records) (arrivals : Arrivals) (story : Story) → HasShared old mid → IsAt old records arrivals story
    → IsAt mid records arrivals story
at-shared old mid records arrivals story shared at =
    at-stays old mid records records arrivals story at shared.flow
    (shared.stands records (system_now (flow_of old) story) story.now.state at.stands)

goes-shared : (old mid new : Engine) (before after : Option Records) (arrivals : Arrivals) (step : Step) (result : Result Stepped EngineFault)
    → HasShared old mid → StepGoesOn (flow_of mid) step result after (IsAt mid before arrivals) (IsAt new after arrivals)
    → StepGoesOn (flow_of old) step result after (IsAt old before arrivals) (IsAt new after arrivals)
goes-shared old mid new before after arrivals step result shared g =
    let h = subst (λ f. StepGoesOn f step result after (IsAt mid before arrivals) (IsAt new after arrivals)) shared.flow g in
    record {
      ok = λ story at trusts. h.ok story (at-shared old mid before arrivals story shared at) trusts;
      shows = λ story at. h.shows story (at-shared old mid before arrivals story shared at);
      faulted = λ story at e. h.faulted story (at-shared old mid before arrivals story shared at) e;
      unharmed = λ id story at e. h.unharmed id story (at-shared old mid before arrivals story shared at) e;
    }

pub goes-step : {K : Type 0} (view : K → StoreView) (old mid new : Engine) (before after : K) (arrivals : Arrivals) (step : Step)
    (result : Result Stepped EngineFault) → HasShared old mid → EngineAnswers view mid before step result new after
    → ((story : Story) → IsAt mid (view before).records arrivals story
    → HoldsBack story.now.opened (system_now (flow_of mid) story) story.now.state step)
    → StepGoesOn (flow_of old) step result (view after).records (IsAt old (view before).records arrivals) (IsAt new (view after).records arrivals)
goes-step view old mid new before after arrivals step result shared a back =
    goes-shared old mid new (view before).records (view after).records arrivals step result shared
    (step-goes_on view mid before step result new after arrivals a back)

pub goes-held : (old mid : Engine) (records : Option Records) (step : Step) (arrivals : Arrivals) → HasShared old mid
    → ((story : Story) → IsAt mid records arrivals story → HoldsBack story.now.opened (system_now (flow_of mid) story) story.now.state step → ⊥)
    → StepGoesOn (flow_of old) step (Ok Idle) records (IsAt old records arrivals) (IsAt mid records arrivals)
goes-held old mid records step arrivals shared last =
    goes-shared old mid mid records records arrivals step (Ok Idle) shared (held-goes_on mid records step arrivals last)

pub goes-raised : {E : Type 0} (old mid new : Engine) (records : Option Records) (arrivals : Arrivals) (stepped : Stepped) → HasShared old mid
    → RaiseAnswers {E = E} mid (Ok stepped) new
    → StepGoesOn (flow_of old) Collect (Ok stepped) records (IsAt old records arrivals) (IsAt new records arrivals)
goes-raised old mid new records arrivals stepped shared a =
    goes-shared old mid new records records arrivals Collect (Ok stepped) shared (record {
      ok = λ story at trusts. by-result mid new records records arrivals story (record { at = at; same = a.flow }) Collect tt (Ok stepped)
          (a.ok records (system_now (flow_of mid) story) story.now.state at.stands);
      shows = λ story at. shown (flow_of mid) story at.of_story Collect tt (Ok stepped)
          (let f = a.ok records (system_now (flow_of mid) story) story.now.state at.stands in (f.next, f.steps));
      faulted = λ story at e. absurd (cc);
      unharmed = λ id story at e. absurd (cc);
    })

pub goes-first : {K : Type 0} (view : K → StoreView) (old mid new : Engine) (before after : K) (arrivals : Arrivals) (result : Result Stepped EngineFault)
    → HasShared old mid → WithinAnswers view mid before (came_in arrivals) result new after
    → FirstGoesOn (flow_of old) arrivals result (IsAt old (view before).records arrivals) (IsAt new (view after).records arrivals)
goes-first view old mid new before after arrivals result shared a =
    let b = (view before).records in
    let d = (view after).records in
    let h = subst (λ f. FirstGoesOn f arrivals result (IsAt mid b arrivals) (IsAt new d arrivals)) shared.flow
    (first-goes_on view mid before result new after arrivals a) in
    record {
      ok = λ story at. h.ok story (at-shared old mid b arrivals story shared at);
      faulted = λ story at e. h.faulted story (at-shared old mid b arrivals story shared at) e;
      unharmed = h.unharmed;
    }
