-- How a session goes on by a step.
use Rattle.std.proofs.Common.{◌≡◌, ℕ, ◌<◌, ◌≤◌, Bool, true, false, nat_lt, List, ◌∷◌, ◌++◌, length, filter, get_or, Option, None, Some, Result, Ok, Err, refl, sym, ap, subst, ◌∙◌, arith}
use Rattle.std.specs.List.{AllByRecursion}
use Rattle.std.specs.Prelude.{IfOk, IsErrOf, IsSome, IsTrue}
use Rattle.std.proofs.lemmas.Bool.{false≢true, ltb-true}
use Rattle.fw_lemmas.proofs.Each.{each-append, each-suffix, each-map, each-filter, each-one}
use Rattle.fw_flow.specs.declared.step.Step.{Step}
use Rattle.fw_flow.specs.declared.step.Step.TheVariants.{Inject, Deliver, Notify, Progress, Recover, Collect, Ack}
use Rattle.fw_flow.specs.Dataflow.{System, Dataflow, node_ids, kind_of, is_input_kind}
use Rattle.fw_outside.specs.Outside.{StoreView}
use Rattle.fw_keep.specs.Stored.{Records}
use Rattle.fw_model.specs.Auto.{IsFirstEnabled, deliveries, notifications, acknowledgements, edge_ids}
use Rattle.fw_model.specs.History.{injected_count}
use Rattle.fw_model.specs.Machine.{Machine, events}
use Rattle.fw_model.specs.Steps.{Effect, Outcome, did, idle, LeadsTo}
use Rattle.fw_running.specs.declared.fault.EngineFault.{EngineFault}
use Rattle.fw_running.specs.declared.fault.EngineFault.TheVariants as fault
use Rattle.fw_running.specs.declared.stepped.Stepped.{Stepped}
use Rattle.fw_running.specs.declared.stepped.Stepped.TheVariants.{Idle}
use Rattle.fw_running.specs.Fed.{injections_within, auto_steps_within, FollowsFirstWithin}
use Rattle.fw_running.specs.Faults.{is_refusal}
use Rattle.fw_running.specs.Steps.{Follows, HasOutcome, IsLeftBy, Trusts, outcome_of}
use Rattle.fw_feeding.specs.OpenRuns.{HoldsBack}
use Rattle.fw_engine.specs.declared.engine.Engine.{Engine}
use Rattle.fw_engine.specs.Engine.{flow_of, was_refused, StandsFor, EngineAnswers, WithinAnswers}
use Rattle.fw_session.specs.declared.arrivals.Arrivals.{Arrivals}
use Rattle.fw_session.specs.Story.{Story, IsStory, system_now, came_to, after_step}
use Rattle.fw_session.specs.Session.{is_open_in, came_in, IsAt, IsAtSome, GoesOnTo, GoesOnFirst, IsLeftAt, StepGoesOn, FirstGoesOn}
use Rattle.fw_session.proofs.SessionLaws.{at-stays}
use Rattle.fw_session.proofs.StoryLaws.{came-open, input-there, story-open, story-stepped}

-- ---- what is held back

-- where a source that is open injected all that came, its injection is that of its last batch
pub held-back : (engine : Engine) (records : Option Records) (arrivals : Arrivals) (story : Story) → IsAt engine records arrivals story → (s : ℕ)
    → is_open_in arrivals s ≡ true → came_in arrivals s ≤ injected_count s (events story.now.state.history)
    → HoldsBack story.now.opened (system_now (flow_of engine) story) story.now.state (Inject s) → ⊥
held-back engine records arrivals story at s is_open many back =
    let o : story.now.opened s ≡ true = sym (at.opens s) ∙ is_open in
    let all = came-open (flow_of engine) story at.of_story s o in
    let here = at.counts s in
    let few = back o in
    absurd (omega arith)

-- and where it did not, it is not
pub not-held : (engine : Engine) (records : Option Records) (arrivals : Arrivals) (story : Story) → IsAt engine records arrivals story → (s : ℕ)
    → (is_open_in arrivals s ≡ true → injected_count s (events story.now.state.history) < came_in arrivals s)
    → HoldsBack story.now.opened (system_now (flow_of engine) story) story.now.state (Inject s)
not-held engine records arrivals story at s few = λ o.
    let all = came-open (flow_of engine) story at.of_story s o in
    let here = at.counts s in
    let less = few (at.opens s ∙ o) in
    omega arith

-- an open source is an input
pub open-input : (engine : Engine) (records : Option Records) (arrivals : Arrivals) (story : Story) → IsAt engine records arrivals story → (s : ℕ)
    → is_open_in arrivals s ≡ true → is_input_kind (kind_of (flow_of engine) s) ≡ true
open-input engine records arrivals story at s is_open =
    (story-open (flow_of engine) story at.of_story).input s (sym (at.opens s) ∙ is_open)

-- the same of a step that is that injection, by a count of what came
pub is-held : (engine : Engine) (records : Option Records) (arrivals : Arrivals) (story : Story) → IsAt engine records arrivals story → (step : Step)
    (s count : ℕ) → step ≡ Inject s → is_open_in arrivals s ≡ true → count ≡ came_in arrivals s
    → count ≤ injected_count s (events story.now.state.history)
    → HoldsBack story.now.opened (system_now (flow_of engine) story) story.now.state step → ⊥
is-held engine records arrivals story at step s count is is_open e many back =
    held-back engine records arrivals story at s is_open (omega (arith, e, many))
    (subst (HoldsBack story.now.opened (system_now (flow_of engine) story) story.now.state) is back)

pub is-free : (engine : Engine) (records : Option Records) (arrivals : Arrivals) (story : Story) → IsAt engine records arrivals story → (step : Step)
    (s count : ℕ) → step ≡ Inject s → count ≡ came_in arrivals s
    → (s < length (flow_of engine).nodes → is_input_kind (kind_of (flow_of engine) s) ≡ true
    → injected_count s (events story.now.state.history) < count)
    → HoldsBack story.now.opened (system_now (flow_of engine) story) story.now.state step
is-free engine records arrivals story at step s count is e few =
    subst (HoldsBack story.now.opened (system_now (flow_of engine) story) story.now.state) (sym is)
    (not-held engine records arrivals story at s (λ o.
    let input = open-input engine records arrivals story at s o in
    let less = few (input-there (flow_of engine) s input) input in
    omega arith))

-- ---- a step

at-stepped : (old new : Engine) (before after : Option Records) (arrivals : Arrivals) (story : Story) → IsAt old before arrivals story
    → flow_of new ≡ flow_of old → (step : Step) (effect : Effect) (next : Machine)
    → HoldsBack story.now.opened (system_now (flow_of old) story) story.now.state step
    → LeadsTo (system_now (flow_of old) story) story.now.state step next effect → StandsFor (system_now (flow_of old) story) new after next
    → IsAt new after arrivals (after_step step effect next story)
at-stepped old new before after arrivals story at same step effect next back leads stands =
    let there = sym same in
    record {
      of_story = subst (λ f. IsStory f (after_step step effect next story)) there
          (story-stepped (flow_of old) story at.of_story step effect next back leads);
      stands = subst (λ f. StandsFor (system_now f story) new after next) there stands;
      opens = at.opens;
      counts = λ s. at.counts s ∙ ap (λ f. length (came_to f story.now s)) there;
      one_each = at.one_each ∙ ap (λ (f : Dataflow). length f.nodes) there;
    }

-- what is known of a session before and after a step
pub record Around (old new : Engine) (before after : Option Records) (arrivals : Arrivals) (story : Story) : Type 0 where
  pub at : IsAt old before arrivals story
  pub same : flow_of new ≡ flow_of old

by-outcome : (old new : Engine) (before after : Option Records) (arrivals : Arrivals) (story : Story)
    → Around old new before after arrivals story → (step : Step) → HoldsBack story.now.opened (system_now (flow_of old) story) story.now.state step
    → (outcome : Outcome) → Follows (system_now (flow_of old) story) story.now.state step outcome new.running after
    → GoesOnTo (flow_of old) step outcome story (IsAt new after arrivals)
by-outcome old new before after arrivals story a step back (did effect) f = (
  after_step step effect f.next story,
  (f.next, refl),
  at-stepped old new before after arrivals story a.at a.same step effect f.next back f.steps f.stands,
)
by-outcome old new before after arrivals story a step back idle f = (
  story,
  ((λ b. f.steps.0), refl),
  at-stays old new before after arrivals story a.at a.same (subst (StandsFor (system_now (flow_of old) story) new after) f.steps.1 f.stands),
)

pub by-result : (old new : Engine) (before after : Option Records) (arrivals : Arrivals) (story : Story)
    → Around old new before after arrivals story → (step : Step) → HoldsBack story.now.opened (system_now (flow_of old) story) story.now.state step
    → (result : Result Stepped EngineFault)
    → IfOk result (λ stepped. Follows (system_now (flow_of old) story) story.now.state step (outcome_of stepped) new.running after)
    → IfOk result (λ stepped. GoesOnTo (flow_of old) step (outcome_of stepped) story (IsAt new after arrivals))
by-result old new before after arrivals story a step back (Ok stepped) f =
    by-outcome old new before after arrivals story a step back (outcome_of stepped) f
by-result old new before after arrivals story a step back (Err e) f = tt

pub shown : (flow : Dataflow) (story : Story) → IsStory flow story → (step : Step)
    → HoldsBack story.now.opened (system_now flow story) story.now.state step → (result : Result Stepped EngineFault)
    → IfOk result (λ stepped. HasOutcome (system_now flow story) story.now.state step (outcome_of stepped))
    → IfOk result (λ stepped. GoesOnTo flow step (outcome_of stepped) story (IsStory flow))
shown flow story k step back (Ok stepped) f = by (outcome_of stepped) f
  where
    by : (outcome : Outcome) → HasOutcome (system_now flow story) story.now.state step outcome → GoesOnTo flow step outcome story (IsStory flow)
    by (did effect) h = (after_step step effect h.0 story, (h.0, refl), story-stepped flow story k step effect h.0 back h.1)
    by idle h = (story, ((λ b. h.1.0), refl), k)
shown flow story k step back (Err e) f = tt

left-by : (old new : Engine) (before after : Option Records) (arrivals : Arrivals) (story : Story)
    → Around old new before after arrivals story → (step : Step)
    → IsLeftBy (system_now (flow_of old) story) story.now.state step (λ next. StandsFor (system_now (flow_of old) story) new after next)
    → IsLeftAt (flow_of old) step story (IsAt new after arrivals)
left-by old new before after arrivals story a Collect left =
    (left.1, by-outcome old new before after arrivals story a Collect tt left.1 (record { next = left.0; steps = left.2; stands = left.3 }))
left-by old new before after arrivals story a step left = (left.0, at-stays old new before after arrivals story a.at a.same left.1)

pub step-goes_on : {K : Type 0} (view : K → StoreView) (old : Engine) (before : K) (step : Step) (result : Result Stepped EngineFault) (new : Engine)
    (after : K) (arrivals : Arrivals) → EngineAnswers view old before step result new after
    → ((story : Story) → IsAt old (view before).records arrivals story
    → HoldsBack story.now.opened (system_now (flow_of old) story) story.now.state step)
    → StepGoesOn (flow_of old) step result (view after).records (IsAt old (view before).records arrivals) (IsAt new (view after).records arrivals)
step-goes_on view old before step result new after arrivals answers back =
    let b = (view before).records in
    let d = (view after).records in
    record {
      ok = λ story at trusts.
          by-result old new b d arrivals story (record { at = at; same = answers.flow }) step (back story at) result
          (answers.ok (system_now (flow_of old) story) story.now.state at.stands trusts);
      shows = λ story at.
          shown (flow_of old) story at.of_story step (back story at) result (answers.shows (system_now (flow_of old) story) story.now.state at.stands);
      faulted = λ story at e.
          left-by old new b d arrivals story (record { at = at; same = answers.flow }) step
          (answers.faulted (system_now (flow_of old) story) story.now.state at.stands e);
      unharmed = λ id story at e.
          let u = answers.unharmed id (system_now (flow_of old) story) story.now.state at.stands e in
          (u.0, at-stays old new b d arrivals story at answers.flow u.2);
    }

-- the injection of the last batch of an open source is idle
pub held-goes_on : (engine : Engine) (records : Option Records) (step : Step) (arrivals : Arrivals)
    → ((story : Story) → IsAt engine records arrivals story
    → HoldsBack story.now.opened (system_now (flow_of engine) story) story.now.state step → ⊥)
    → StepGoesOn (flow_of engine) step (Ok Idle) records (IsAt engine records arrivals) (IsAt engine records arrivals)
held-goes_on engine records step arrivals last = record {
  ok = λ story at trusts. (story, ((λ back. absurd (last story at back)), refl), at);
  shows = λ story at. (story, ((λ back. absurd (last story at back)), refl), at.of_story);
  faulted = λ story at e. absurd (cc);
  unharmed = λ id story at e. absurd (cc);
}

-- want of memory tells nothing
pub refused-goes_on : (flow : Dataflow) (step : Step) (after : Option Records) (Before After : Story → Type 0)
    → StepGoesOn flow step (Err fault.NoMemory) after Before After
refused-goes_on flow step after Before After = record {
  ok = λ story at trusts. tt;
  shows = λ story at. tt;
  faulted = λ story at e. absurd (cc);
  unharmed = λ id story at e. absurd (cc);
}

-- ---- the first step

-- the step is no injection of a source that injected as many batches as these
IsFew : (ℕ → ℕ) → Machine → Step → Type 0
IsFew came state (Inject s) = injected_count s (events state.history) < came s
IsFew came state step = Unit {0}

each-few : (flow : Dataflow) (came : ℕ → ℕ) (state : Machine) → AllByRecursion (IsFew came state) (auto_steps_within flow came state)
unfolding IsFew
each-few flow came state =
    let P = IsFew came state in
    let fewer : ℕ → Bool = λ s. nat_lt (injected_count s (events state.history)) (came s) in
    let injections = each-map P Inject (filter fewer (node_ids flow)) (each-filter (λ s. P (Inject s)) fewer (node_ids flow)
    (each-one (λ s. fewer s ≡ true → P (Inject s)) (node_ids flow) (λ s e. ltb-true (injected_count s (events state.history)) (came s) e))) in
    let acks = each-map P Ack (node_ids flow) (each-one (λ p. P (Ack p)) (node_ids flow) (λ p. tt)) in
    let notes = each-map P (λ p. Notify p None) (node_ids flow) (each-one (λ p. P (Notify p None)) (node_ids flow) (λ p. tt)) in
    let brought = each-map P (λ e. Deliver e None) (edge_ids flow) (each-one (λ e. P (Deliver e None)) (edge_ids flow) (λ e. tt)) in (
      tt,
      each-append P (deliveries flow) (notifications flow ++ (Progress ∷ (acknowledgements flow ++ injections_within flow came state))) brought
          (each-append P (notifications flow) (Progress ∷ (acknowledgements flow ++ injections_within flow came state)) notes
          (tt, each-append P (acknowledgements flow) (injections_within flow came state) acks injections)),
    )

first-few : (flow : Dataflow) (story : Story) (came : ℕ → ℕ) (step : Step) (next : Machine) (effect : Effect)
    → IsFirstEnabled (system_now flow story) story.now.state (auto_steps_within flow came story.now.state) step next effect
    → IsFew came story.now.state step
first-few flow story came step next effect f =
    (each-suffix (IsFew came story.now.state) f.earlier (step ∷ f.later)
    (subst (AllByRecursion (IsFew came story.now.state)) f.among (each-few flow came story.now.state))).0

few-back : (engine : Engine) (records : Option Records) (arrivals : Arrivals) (story : Story) → IsAt engine records arrivals story → (step : Step)
    → IsFew (came_in arrivals) story.now.state step → HoldsBack story.now.opened (system_now (flow_of engine) story) story.now.state step
unfolding IsFew
few-back engine records arrivals story at (Inject s) few = not-held engine records arrivals story at s (λ o. few)
few-back engine records arrivals story at step few = tt

first-by : (old new : Engine) (before after : Option Records) (arrivals : Arrivals) (story : Story)
    → Around old new before after arrivals story → (outcome : Outcome)
    → FollowsFirstWithin (system_now (flow_of old) story) (came_in arrivals) story.now.state outcome new.running after
    → GoesOnFirst (flow_of old) arrivals outcome story (IsAt new after arrivals)
first-by old new before after arrivals story a (did effect) f =
    let taken = f.takes in
    let step = taken.0 in
    let few = first-few (flow_of old) story (came_in arrivals) step f.next effect taken.1 in
    let back = few-back old before arrivals story a.at step few in
    (step, f.next, at-stepped old new before after arrivals story a.at a.same step effect f.next back taken.1.leads f.stands, taken.1)
first-by old new before after arrivals story a idle f = (
  at-stays old new before after arrivals story a.at a.same (subst (StandsFor (system_now (flow_of old) story) new after) f.takes.1 f.stands),
  f.takes.0,
)

first-result : (old new : Engine) (before after : Option Records) (arrivals : Arrivals) (story : Story)
    → Around old new before after arrivals story → (result : Result Stepped EngineFault)
    → IfOk result (λ stepped.
    FollowsFirstWithin (system_now (flow_of old) story) (came_in arrivals) story.now.state (outcome_of stepped) new.running after)
    → IfOk result (λ stepped. GoesOnFirst (flow_of old) arrivals (outcome_of stepped) story (IsAt new after arrivals))
first-result old new before after arrivals story a (Ok stepped) f = first-by old new before after arrivals story a (outcome_of stepped) f
first-result old new before after arrivals story a (Err e) f = tt

pub first-goes_on : {K : Type 0} (view : K → StoreView) (old : Engine) (before : K) (result : Result Stepped EngineFault) (new : Engine) (after : K)
    (arrivals : Arrivals) → WithinAnswers view old before (came_in arrivals) result new after
    → FirstGoesOn (flow_of old) arrivals result (IsAt old (view before).records arrivals) (IsAt new (view after).records arrivals)
first-goes_on view old before result new after arrivals answers =
    let b = (view before).records in
    let d = (view after).records in
    record {
      ok = λ story at.
          first-result old new b d arrivals story (record { at = at; same = answers.flow }) result
          (answers.ok (system_now (flow_of old) story) story.now.state at.stands);
      faulted = λ story at e. (
        answers.asks (system_now (flow_of old) story) story.now.state at.stands e,
        at-stays old new b d arrivals story at answers.flow (answers.faulted (system_now (flow_of old) story) story.now.state at.stands e),
      );
      unharmed = answers.unharmed;
    }

-- the bounds that are lent are those that are kept
pub within-kept : {K : Type 0} (view : K → StoreView) (old : Engine) (before : K) (result : Result Stepped EngineFault) (new : Engine) (after : K)
    (arrivals : Arrivals) (lent : List ℕ) → lent ≡ arrivals.came.items → WithinAnswers view old before (λ s. get_or lent s 0) result new after
    → WithinAnswers view old before (came_in arrivals) result new after
within-kept view old before result new after arrivals lent e answers =
    subst (λ (ns : List ℕ). WithinAnswers view old before (λ s. get_or ns s 0) result new after) e answers

-- ---- it stays at some story

-- unless memory was refused, it is at some story, over a store that tells its records
abbrev pub IsReal : Bool → Option Records → (Story → Type 0) → Type 0
IsReal refused records At = refused ≡ false → IsSome records → (story : Story) × At story

trusted : (sys : System) (state : Machine) (step : Step) (records : Option Records) → IsSome records → Trusts sys state step records
trusted sys state step None told = absurd (false≢true told)
trusted sys state Recover (Some held) told = tt
trusted sys state step (Some held) told = tt

not-refused : (was : Bool) (result : Result Stepped EngineFault) → (IsTrue was → IsErrOf result fault.NoMemory) → is_refusal result ≡ false → was ≡ false
not-refused false result stays e = refl
not-refused true (Ok stepped) stays e = let f = stays refl in absurd (cc)
not-refused true (Err fault.StoreFault) stays e = let f = stays refl in absurd (cc)
not-refused true (Err (fault.Damaged id)) stays e = let f = stays refl in absurd (cc)
not-refused true (Err fault.NoMemory) stays e = absurd (false≢true (sym e))

left-some : (flow : Dataflow) (step : Step) (story : Story) (P : Story → Type 0) → IsLeftAt flow step story P → (next : Story) × P next
left-some flow Collect story P left = (left.1.0, left.1.2)
left-some flow step story P left = (story, left.1)

pub real-step : (flow : Dataflow) (step : Step) (result : Result Stepped EngineFault) (before after : Option Records) (Before After : Story → Type 0)
    (was now : Bool) → StepGoesOn flow step result after Before After → (IsSome after → IsSome before) → now ≡ is_refusal result
    → (IsTrue was → IsErrOf result fault.NoMemory) → IsReal was before Before → IsReal now after After
real-step flow step (Ok stepped) before after Before After was now g told refuses stays real live some =
    let r = real (not-refused was (Ok stepped) stays refl) (told some) in
    let on = g.ok r.0 r.1 (trusted (system_now flow r.0) r.0.now.state step after some) in
    (on.0, on.2)
real-step flow step (Err fault.StoreFault) before after Before After was now g told refuses stays real live some =
    let r = real (not-refused was (Err fault.StoreFault) stays refl) (told some) in
    left-some flow step r.0 After (g.faulted r.0 r.1 refl)
real-step flow step (Err (fault.Damaged id)) before after Before After was now g told refuses stays real live some =
    let r = real (not-refused was (Err (fault.Damaged id)) stays refl) (told some) in
    (r.0, (g.unharmed id r.0 r.1 refl).1)
real-step flow step (Err fault.NoMemory) before after Before After was now g told refuses stays real live some =
    absurd (false≢true (sym live ∙ refuses))

first-some : (flow : Dataflow) (arrivals : Arrivals) (outcome : Outcome) (story : Story) (P : Story → Type 0) → GoesOnFirst flow arrivals outcome story P
    → (next : Story) × P next
first-some flow arrivals (did effect) story P g = (after_step g.0 effect g.1 story, g.2)
first-some flow arrivals idle story P g = (story, g.0)

pub real-first : (flow : Dataflow) (arrivals : Arrivals) (result : Result Stepped EngineFault) (before after : Option Records) (Before After : Story → Type 0)
    (was now : Bool) → FirstGoesOn flow arrivals result Before After → (IsSome after → IsSome before) → now ≡ is_refusal result
    → (IsTrue was → IsErrOf result fault.NoMemory) → IsReal was before Before → IsReal now after After
real-first flow arrivals (Ok stepped) before after Before After was now g told refuses stays real live some =
    let r = real (not-refused was (Ok stepped) stays refl) (told some) in
    first-some flow arrivals (outcome_of stepped) r.0 After (g.ok r.0 r.1)
real-first flow arrivals (Err fault.StoreFault) before after Before After was now g told refuses stays real live some =
    let r = real (not-refused was (Err fault.StoreFault) stays refl) (told some) in
    (r.0, (g.faulted r.0 r.1 refl).1)
real-first flow arrivals (Err (fault.Damaged id)) before after Before After was now g told refuses stays real live some = absurd (g.unharmed id refl)
real-first flow arrivals (Err fault.NoMemory) before after Before After was now g told refuses stays real live some =
    absurd (false≢true (sym live ∙ refuses))

pub step-real : {K : Type 0} (view : K → StoreView) (old : Engine) (before : K) (step : Step) (result : Result Stepped EngineFault) (new : Engine)
    (after : K) (arrivals : Arrivals) → EngineAnswers view old before step result new after
    → ((story : Story) → IsAt old (view before).records arrivals story
    → HoldsBack story.now.opened (system_now (flow_of old) story) story.now.state step)
    → IsAtSome old (view before).records arrivals → IsAtSome new (view after).records arrivals
step-real view old before step result new after arrivals answers back =
    real-step (flow_of old) step result (view before).records (view after).records (IsAt old (view before).records arrivals)
    (IsAt new (view after).records arrivals) (was_refused old) (was_refused new) (step-goes_on view old before step result new after arrivals answers back)
    answers.told_before answers.told answers.stays

pub first-real : {K : Type 0} (view : K → StoreView) (old : Engine) (before : K) (result : Result Stepped EngineFault) (new : Engine) (after : K)
    (arrivals : Arrivals) → WithinAnswers view old before (came_in arrivals) result new after
    → IsAtSome old (view before).records arrivals → IsAtSome new (view after).records arrivals
first-real view old before result new after arrivals answers =
    real-first (flow_of old) arrivals result (view before).records (view after).records (IsAt old (view before).records arrivals)
    (IsAt new (view after).records arrivals) (was_refused old) (was_refused new) (first-goes_on view old before result new after arrivals answers)
    (λ some. sym answers.tells ∙ some) answers.told answers.stays
