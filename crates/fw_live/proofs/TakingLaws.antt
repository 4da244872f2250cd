-- How steps are taken and printed.
use Rattle.std.proofs.Common.{◌≡◌, ℕ, true, false, ◌+◌, ◌<◌, List, [], ◌∷◌, ◌++◌, length, map, Option, Some, None, Result, Ok, Err, refl, sym, ap, subst, ◌∙◌, inl, inr, arith}
use Rattle.std.proofs.lemmas.List.{append-nil, append_assoc, length-append}
use Rattle.std.proofs.lemmas.Bool.{false≢true}
use Rattle.std.specs.Prelude.{IsErrOf, IsSome}
use Rattle.fw_flow.specs.declared.step.Step.{Step}
use Rattle.fw_flow.specs.declared.step.Step.TheVariants.{Recover, Collect}
use Rattle.fw_flow.specs.Dataflow.{System, Dataflow}
use Rattle.fw_schedule.specs.declared.item.Item.{Item}
use Rattle.fw_schedule.specs.declared.item.Item.TheVariants.{One, Auto}
use Rattle.fw_keep.specs.Stored.{Records}
use Rattle.fw_model.specs.Auto.{IsFirstEnabled}
use Rattle.fw_model.specs.Machine.{Machine}
use Rattle.fw_model.specs.Steps.{Effect, Outcome, did, idle}
use Rattle.fw_running.specs.declared.fault.EngineFault.{EngineFault}
use Rattle.fw_running.specs.declared.fault.EngineFault.TheVariants as fault
use Rattle.fw_running.specs.declared.stepped.Stepped.{Stepped}
use Rattle.fw_running.specs.EffectText.{outcome_text}
use Rattle.fw_running.specs.Steps.{FirstMayCall, Trusts, outcome_of}
use Rattle.fw_run.specs.Printed.{outcomes_text, is_idle}
use Rattle.fw_session.specs.Session.{IsLeftAt, StepGoesOn}
use Rattle.fw_session.specs.Story.{Story, IsStory, system_now, after_step}
use Rattle.fw_living.specs.Life.{auto_steps_now, AutoGoesOn, GoesOnByAuto}
use Rattle.fw_live.specs.declared.counts.TurnCounts.{TurnCounts}
use Rattle.fw_live.specs.Relies.{IsReliedOn, IsItemReliedOn, IsMaybeReliedOn, Printed, GoesOnPrinting, EndsSo, turn_counts, step_counted}
use Rattle.fw_live.specs.Taken.{Ending, all, failed, spoiled, EndsItem, EndsMaybe, EndsBoth, IsLeftInStory, TakesFirsts}

-- ---- what is printed and counted

pub outcomes-append : (flow : Dataflow) (xs ys : List Outcome) → outcomes_text flow (xs ++ ys) ≡ outcomes_text flow xs ++ outcomes_text flow ys
outcomes-append flow [] ys = refl
outcomes-append flow (x ∷ xs) ys = ap (λ text. outcome_text flow x ++ text) (outcomes-append flow xs ys)
    ∙ sym (append_assoc (outcome_text flow x) (outcomes_text flow xs) (outcomes_text flow ys))

counts-append : (xs ys : List Outcome) (counts : TurnCounts) → turn_counts (xs ++ ys) counts ≡ turn_counts ys (turn_counts xs counts)
counts-append [] ys counts = refl
counts-append (x ∷ xs) ys counts = counts-append xs ys (step_counted x counts)

-- nothing was printed
pub prints-none : (flow : Dataflow) (GoesOn : List Outcome → Story → Type 0) (printed : Printed) (At : Story → Type 0) (next : Story) → GoesOn [] next
    → At next → GoesOnPrinting flow GoesOn printed printed At
prints-none flow GoesOn printed At next goes at = record {
  outcomes = [];
  next = next;
  goes_on = goes;
  printed = sym (append-nil printed.bytes);
  counted = refl;
  at = at;
}

-- first one thing was printed, and then another
pub prints-both : (flow : Dataflow) (First Second All : List Outcome → Story → Type 0) (before between after : Printed) (At : Story → Type 0)
    (xs : List Outcome) (story : Story) → First xs story → between.bytes ≡ before.bytes ++ outcomes_text flow xs
    → between.counts ≡ turn_counts xs before.counts → GoesOnPrinting flow Second between after At
    → ((ys : List Outcome) (next : Story) → First xs story → Second ys next → All (xs ++ ys) next) → GoesOnPrinting flow All before after At
prints-both flow First Second All before between after At xs story first printed counted second join = record {
  outcomes = xs ++ second.outcomes;
  next = second.next;
  goes_on = join second.outcomes second.next first second.goes_on;
  printed = second.printed ∙ ap (λ bytes. bytes ++ outcomes_text flow second.outcomes) printed
      ∙ append_assoc before.bytes (outcomes_text flow xs) (outcomes_text flow second.outcomes)
      ∙ ap (λ text. before.bytes ++ text) (sym (outcomes-append flow xs second.outcomes));
  counted = second.counted ∙ ap (turn_counts second.outcomes) counted ∙ sym (counts-append xs second.outcomes before.counts);
  at = second.at;
}

-- ---- one step

trusts : (sys : System) (state : Machine) (step : Step) (records : Option Records) → IsReliedOn records step → Trusts sys state step records
trusts sys state Recover None r = absurd r
trusts sys state Recover (Some x) r = tt
trusts sys state step records r = tt

-- what the store left
left : (flow : Dataflow) (step : Step) (story : Story) (P : Story → Type 0) → IsLeftAt flow step story P
    → (next : Story) × IsLeftInStory flow story step next × P next
left flow Collect story P l = (l.1.0, (l.0, (l.1.0, l.1.1, refl)), l.1.2)
left flow step story P l = (story, (l.0, refl), l.1)

pub step-done : (flow : Dataflow) (step : Step) (stepped : Stepped) (after : Option Records) (Before After : Story → Type 0) (story : Story)
    (old new : List ℕ) (counts counted : TurnCounts) → StepGoesOn flow step (Ok stepped) after Before After → ((s : Story) → After s → IsStory flow s)
    → Before story → IsReliedOn after step → new ≡ old ++ outcome_text flow (outcome_of stepped) → counted ≡ step_counted (outcome_of stepped) counts
    → GoesOnPrinting flow (EndsItem flow story (One step) all) (record { bytes = old; counts = counts }) (record { bytes = new; counts = counted }) After
step-done flow step stepped after Before After story old new counts counted goes there before relied text count =
    let to = goes.ok story before (trusts (system_now flow story) story.now.state step after relied) in
    record {
      outcomes = outcome_of stepped ∷ [];
      next = to.0;
      goes_on = record { outcome = outcome_of stepped; are = refl; goes_on = to.1; is_story = there to.0 to.2 };
      printed = text ∙ ap (λ bytes. old ++ bytes) (sym (append-nil (outcome_text flow (outcome_of stepped))));
      counted = count;
      at = to.2;
    }

pub step-fails : (flow : Dataflow) (step : Step) (f : EngineFault) (after : Option Records) (Before After : Story → Type 0) (story : Story)
    (printed : Printed) → StepGoesOn flow step (Err f) after Before After → Before story
    → EndsSo {T = Unit {0}} (λ ending. GoesOnPrinting flow (EndsItem flow story (One step) ending) printed printed After) (Err f)
step-fails flow step fault.StoreFault after Before After story printed goes before =
    let l = left flow step story After (goes.faulted story before refl) in
    prints-none flow (EndsItem flow story (One step) failed) printed After l.0 (refl, l.1) l.2
step-fails flow step (fault.Damaged id) after Before After story printed goes before =
    prints-none flow (EndsItem flow story (One step) (spoiled id)) printed After story (refl, refl) (goes.unharmed id story before refl).1
step-fails flow step fault.NoMemory after Before After story printed goes before = tt

-- a record was damaged
pub step-harm : (flow : Dataflow) (step : Step) (f : EngineFault) (after : Option Records) (Before After : Story → Type 0) (story : Story) (id : ℕ)
    → StepGoesOn flow step (Err f) after Before After → Before story → IsErrOf {T = Unit {0}} (Err f) (fault.Damaged id) → after ≡ None
step-harm flow step fault.StoreFault after Before After story id goes before e = absurd cc
step-harm flow step (fault.Damaged other) after Before After story id goes before e = (goes.unharmed other story before refl).0
step-harm flow step fault.NoMemory after Before After story id goes before e = absurd cc

-- ---- steps that are taken by themselves

-- so many steps were taken
pub record HasTaken (flow : Dataflow) (story : Story) (count : ℕ) (outcomes : List Outcome) (next : Story) : Type 0 where
  pub effects : List Effect
  pub are : outcomes ≡ map did effects
  pub firsts : TakesFirsts flow story effects next
  pub many : length effects ≡ count

firsts-more : (flow : Dataflow) (story : Story) (effects : List Effect) (between : Story) → TakesFirsts flow story effects between → (step : Step)
    (state : Machine) (effect : Effect) → IsFirstEnabled (system_now flow between) between.now.state (auto_steps_now flow between) step state effect
    → TakesFirsts flow story (effects ++ effect ∷ []) (after_step step effect state between)
firsts-more flow story [] between e step state effect first =
    subst (λ s. TakesFirsts flow s (effect ∷ []) (after_step step effect state between)) e (step, state, first, refl)
firsts-more flow story (x ∷ effects) between t step state effect first =
    (t.0, t.1, t.2, firsts-more flow (after_step t.0 x t.1 story) effects between t.3 step state effect first)

map-more : (effects : List Effect) (effect : Effect) → map did effects ++ did effect ∷ [] ≡ map did (effects ++ effect ∷ [])
map-more [] effect = refl
map-more (x ∷ effects) effect = ap (λ xs. did x ∷ xs) (map-more effects effect)

pub auto-begun : (flow : Dataflow) (story : Story) (printed : Printed) (At : Story → Type 0) → At story
    → GoesOnPrinting flow (HasTaken flow story 0) printed printed At
auto-begun flow story printed At at =
    prints-none flow (HasTaken flow story 0) printed At story (record { effects = []; are = refl; firsts = refl; many = refl }) at

-- one step more was taken by itself
pub auto-more : (flow same : Dataflow) (story : Story) (n : ℕ) (o : Outcome) (Before After : Story → Type 0) (before between after : Printed)
    → same ≡ flow → GoesOnPrinting flow (HasTaken flow story n) before between Before
    → ((s : Story) → Before s → GoesOnByAuto same o s After) → is_idle o ≡ false
    → after.bytes ≡ between.bytes ++ outcome_text flow o → after.counts ≡ step_counted o between.counts
    → GoesOnPrinting flow (HasTaken flow story (n + 1)) before after After
auto-more flow same story n idle Before After before between after e so first stays text count = absurd (false≢true (sym stays))
auto-more flow same story n (did x) Before After before between after e so first stays text count =
    let f = subst (λ d. GoesOnByAuto d (did x) so.next After) e (first so.next so.at) in
    let ot = outcome_text flow (did x) in
    let lines = outcomes_text flow so.outcomes in
    let done = so.goes_on in
    record {
      outcomes = so.outcomes ++ did x ∷ [];
      next = after_step f.0 x f.1 so.next;
      goes_on = record {
        effects = done.effects ++ x ∷ [];
        are = ap (λ xs. xs ++ did x ∷ []) done.are ∙ map-more done.effects x;
        firsts = firsts-more flow story done.effects so.next done.firsts f.0 f.1 x f.3;
        many = omega (arith, length-append done.effects (x ∷ []), done.many);
      };
      printed = text ∙ ap (λ bytes. bytes ++ ot) so.printed ∙ append_assoc before.bytes lines ot
          ∙ ap (λ more. before.bytes ++ more) (ap (λ more. lines ++ more) (sym (append-nil ot)) ∙ sym (outcomes-append flow so.outcomes (did x ∷ [])));
      counted = count ∙ ap (step_counted (did x)) so.counted ∙ sym (counts-append so.outcomes (did x ∷ []) before.counts);
      at = f.2;
    }

-- none was enabled any more
pub auto-ends : (flow same : Dataflow) (story : Story) (n most : ℕ) (o : Outcome) (Before After : Story → Type 0) (before between : Printed)
    → same ≡ flow → GoesOnPrinting flow (HasTaken flow story n) before between Before
    → ((s : Story) → Before s → GoesOnByAuto same o s After) → is_idle o ≡ true → n < most
    → GoesOnPrinting flow (EndsItem flow story (Auto most) all) before between After
auto-ends flow same story n most (did x) Before After before between e so first stops few = absurd (false≢true stops)
auto-ends flow same story n most idle Before After before between e so first stops few =
    let f = subst (λ d. GoesOnByAuto d idle so.next After) e (first so.next so.at) in
    let done = so.goes_on in
    record {
      outcomes = so.outcomes;
      next = so.next;
      goes_on = record {
        effects = done.effects;
        are = done.are;
        firsts = done.firsts;
        few = omega (arith, done.many, few);
        rest = λ less. f.1;
      };
      printed = so.printed;
      counted = so.counted;
      at = f.0;
    }

-- all were taken
pub auto-full : (flow : Dataflow) (story : Story) (n most : ℕ) (At : Story → Type 0) (before between : Printed)
    → GoesOnPrinting flow (HasTaken flow story n) before between At → n ≡ most
    → GoesOnPrinting flow (EndsItem flow story (Auto most) all) before between At
auto-full flow story n most At before between so full =
    let done = so.goes_on in
    record {
      outcomes = so.outcomes;
      next = so.next;
      goes_on = record {
        effects = done.effects;
        are = done.are;
        firsts = done.firsts;
        few = omega (arith, done.many, full);
        rest = λ less. absurd (omega (arith, done.many, full, less));
      };
      printed = so.printed;
      counted = so.counted;
      at = so.at;
    }

-- the store failed in one
pub auto-fails : (flow same : Dataflow) (story : Story) (n most : ℕ) (f : EngineFault) (Before After : Story → Type 0)
    (before between : Printed) → same ≡ flow → GoesOnPrinting flow (HasTaken flow story n) before between Before
    → AutoGoesOn same (Err f) Before After → n < most → EndsSo {T = Unit {0}} (λ ending. GoesOnPrinting flow (EndsItem flow story (Auto most) ending) before between After) (Err f)
auto-fails flow same story n most fault.StoreFault Before After before between flows so goes few =
    let done = so.goes_on in
    let left = goes.faulted so.next so.at refl in
    record {
      outcomes = so.outcomes;
      next = so.next;
      goes_on = (
        done.effects,
        done.are,
        done.firsts,
        omega (arith, done.many, few),
        subst (λ d. FirstMayCall (system_now d so.next) so.next.now.state) flows left.0,
      );
      printed = so.printed;
      counted = so.counted;
      at = left.1;
    }
auto-fails flow same story n most (fault.Damaged id) Before After before between flows so goes few = absurd (goes.unharmed id refl)
auto-fails flow same story n most fault.NoMemory Before After before between flows so goes few = tt

-- ---- the steps of a line

pub goes-as : (flow : Dataflow) (First Second : List Outcome → Story → Type 0) (before after : Printed) (At : Story → Type 0)
    → GoesOnPrinting flow First before after At → ((xs : List Outcome) (s : Story) → First xs s → Second xs s)
    → GoesOnPrinting flow Second before after At
goes-as flow First Second before after At goes each = record {
  outcomes = goes.outcomes;
  next = goes.next;
  goes_on = each goes.outcomes goes.next goes.goes_on;
  printed = goes.printed;
  counted = goes.counted;
  at = goes.at;
}

pub ends-as : (P Q : Ending → Type 0) (r : Result (Unit {0}) EngineFault) → ((ending : Ending) → P ending → Q ending)
    → EndsSo P r → EndsSo Q r
ends-as P Q (Ok x) each p = each all p
ends-as P Q (Err fault.StoreFault) each p = each failed p
ends-as P Q (Err (fault.Damaged id)) each p = each (spoiled id) p
ends-as P Q (Err fault.NoMemory) each p = tt

failed≢all : failed ≡ all → ⊥
failed≢all e = cc

spoiled≢all : (id : ℕ) → spoiled id ≡ all → ⊥
spoiled≢all id e = cc

-- the first of two ended so
pub first-ends : (flow : Dataflow) (story : Story) (first second : Option Item) (f : EngineFault) (before after : Printed) (At : Story → Type 0)
    → EndsSo {T = Unit {0}} (λ ending. GoesOnPrinting flow (EndsMaybe flow story first ending) before after At) (Err f)
    → EndsSo {T = Unit {0}} (λ ending. GoesOnPrinting flow (EndsBoth flow story first second ending) before after At) (Err f)
first-ends flow story first second fault.StoreFault before after At goes =
    goes-as flow (EndsMaybe flow story first failed) (EndsBoth flow story first second failed) before after At goes (λ xs s e. inl (failed≢all, e))
first-ends flow story first second (fault.Damaged id) before after At goes =
    goes-as flow (EndsMaybe flow story first (spoiled id)) (EndsBoth flow story first second (spoiled id)) before after At goes
    (λ xs s e. inl (spoiled≢all id, e))
first-ends flow story first second fault.NoMemory before after At goes = tt

-- the second of two ended so
pub second-ends : (flow : Dataflow) (story : Story) (first second : Option Item) (r : Result (Unit {0}) EngineFault) (before between after : Printed)
    (Mid At : Story → Type 0) → GoesOnPrinting flow (EndsMaybe flow story first all) before between Mid
    → ((s : Story) → Mid s → EndsSo (λ ending. GoesOnPrinting flow (EndsMaybe flow s second ending) between after At) r)
    → EndsSo (λ ending. GoesOnPrinting flow (EndsBoth flow story first second ending) before after At) r
second-ends flow story first second r before between after Mid At so more =
    ends-as (λ ending. GoesOnPrinting flow (EndsMaybe flow so.next second ending) between after At)
    (λ ending. GoesOnPrinting flow (EndsBoth flow story first second ending) before after At) r
    (λ ending goes. prints-both flow (EndsMaybe flow story first all) (EndsMaybe flow so.next second ending)
    (EndsBoth flow story first second ending) before between after At so.outcomes so.next so.goes_on so.printed so.counted goes
    (λ ys next one two. inr (record {
      before = so.outcomes;
      between = so.next;
      takes = so.goes_on;
      behind = ys;
      ends = two;
      are = refl;
    })))
    (more so.next so.at)

-- what was relied on before
relied-step : (before after : Option Records) (step : Step) → (IsSome after → IsSome before) → IsReliedOn after step → IsReliedOn before step
relied-step (Some x) after Recover told r = tt
relied-step (Some x) after step told r = tt
relied-step None None step told r = r
relied-step None (Some x) step told r = absurd (false≢true (told refl))

relied-item : (before after : Option Records) (item : Item) → (IsSome after → IsSome before) → IsItemReliedOn after item → IsItemReliedOn before item
relied-item before after (One step) told r = relied-step before after step told r
relied-item before after (Auto most) told r = tt

pub relied-maybe : (before after : Option Records) (item : Option Item) → (IsSome after → IsSome before) → IsMaybeReliedOn after item
    → IsMaybeReliedOn before item
relied-maybe before after item told r = λ x e. relied-item before after x told (r x e)

-- where steps end that memory was not refused for, the session is at a story
pub ends-at : {T R : Type 0} (flow : Dataflow) (Goes : Ending → List Outcome → Story → Type 0) (before after : Printed) (result : Result T EngineFault)
    (At : Story → Type 0) → (R → EndsSo (λ ending. GoesOnPrinting flow (Goes ending) before after At) result) → R
    → (IsErrOf result fault.NoMemory → ⊥) → (story : Story) × At story
ends-at flow Goes before after (Ok x) At ends r n = ((ends r).next, (ends r).at)
ends-at flow Goes before after (Err fault.StoreFault) At ends r n = ((ends r).next, (ends r).at)
ends-at flow Goes before after (Err (fault.Damaged id)) At ends r n = ((ends r).next, (ends r).at)
ends-at flow Goes before after (Err fault.NoMemory) At ends r n = absurd (n refl)
