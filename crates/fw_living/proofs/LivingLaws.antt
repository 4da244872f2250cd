-- A session over a store that ends with it is one over which lines are answered.
use Rattle.std.proofs.Common.{◌≡◌, ◌⊎◌, inl, inr, ℕ, ◌-◌, ◌^◌, ◌≤◌, Bool, true, false, Option, Result, Ok, Err, refl, sym, ap, subst, ◌∙◌}
use Rattle.std.proofs.Math.Path.{fun_ext}
use Rattle.std.specs.Prelude.{◌↔◌, IfOk, IsErr, IsErrOf}
use Rattle.fw_keep.specs.Stored.{Records}
use Rattle.fw_model.specs.Auto.{AreIdle, IsFirstEnabled}
use Rattle.fw_model.specs.Steps.{Outcome, did, idle}
use Rattle.fw_running.specs.declared.fault.EngineFault.{EngineFault}
use Rattle.fw_running.specs.declared.stepped.Stepped.{Stepped}
use Rattle.fw_running.specs.Fed.{auto_steps_within}
use Rattle.fw_running.specs.Steps.{outcome_of}
use Rattle.fw_engine.specs.declared.engine.Engine.{Engine}
use Rattle.fw_engine.specs.Engine.{flow_of}
use Rattle.fw_session.specs.declared.arrivals.Arrivals.{Arrivals}
use Rattle.fw_session.specs.declared.fault.FeedFault.{FeedFault}
use Rattle.fw_session.specs.declared.fault.FeedFault.TheVariants as feed
use Rattle.fw_session.specs.Session.{IsAt, GoesOnFirst, FirstGoesOn, came_in, is_open_in}
use Rattle.fw_session.specs.Story.{Story, system_now}
use Rattle.fw_living.specs.declared.fault.LifeFault.{LifeFault}
use Rattle.fw_living.specs.declared.fault.LifeFault.TheVariants.{NotFed, StoreFault}
use Rattle.fw_living.specs.Life.{auto_steps_now, came_in_story, life_faults_after, life_of, AutoGoesOn, CountsKeeping, GoesOnByAuto}

-- ---- steps that are taken by themselves

-- what came, by the session and by the story
same-steps : (engine : Engine) (records : Option Records) (arrivals : Arrivals) (story : Story) → IsAt engine records arrivals story
    → auto_steps_within (flow_of engine) (came_in arrivals) story.now.state ≡ auto_steps_now (flow_of engine) story
same-steps engine records arrivals story at = ap (λ came. auto_steps_within (flow_of engine) came story.now.state) (fun_ext at.counts)

by-auto : (engine : Engine) (records : Option Records) (arrivals : Arrivals) (o : Outcome) (story : Story) (P : Story → Type 0)
    → IsAt engine records arrivals story → GoesOnFirst (flow_of engine) arrivals o story P → GoesOnByAuto (flow_of engine) o story P
by-auto engine records arrivals (did effect) story P at f = (
  f.0,
  f.1,
  f.2,
  subst (λ steps. IsFirstEnabled (system_now (flow_of engine) story) story.now.state steps f.0 f.1 effect)
      (same-steps engine records arrivals story at) f.3,
)
by-auto engine records arrivals idle story P at f =
    (f.0, subst (AreIdle (system_now (flow_of engine) story) story.now.state) (same-steps engine records arrivals story at) f.1)

if-ok : {T E : Type 0} (r : Result T E) (A B : T → Type 0) → IfOk r A → ((x : T) → A x → B x) → IfOk r B
if-ok (Ok x) A B a f = f x a
if-ok (Err e) A B a f = tt

pub auto-on : (engine : Engine) (records : Option Records) (arrivals : Arrivals) (result : Result Stepped EngineFault) (After : Story → Type 0)
    → FirstGoesOn (flow_of engine) arrivals result (IsAt engine records arrivals) After
    → AutoGoesOn (flow_of engine) result (IsAt engine records arrivals) After
auto-on engine records arrivals result After goes = record {
  ok = λ story at. if-ok result (λ stepped. GoesOnFirst (flow_of engine) arrivals (outcome_of stepped) story After)
      (λ stepped. GoesOnByAuto (flow_of engine) (outcome_of stepped) story After) (goes.ok story at)
      (λ stepped f. by-auto engine records arrivals (outcome_of stepped) story After at f);
  faulted = goes.faulted;
  unharmed = goes.unharmed;
}

-- ---- batches

-- what stays is at the same story
pub at-same : (old new : Engine) (before after : Option Records) (arrivals later : Arrivals) (story : Story) → IsAt old before arrivals story
    → new ≡ old → after ≡ before → later ≡ arrivals → IsAt new after later story
at-same old new before after arrivals later story at e r a =
    subst (λ engine. IsAt engine after later story) (sym e)
    (subst (λ records. IsAt old records later story) (sym r) (subst (λ came. IsAt old before came story) (sym a) at))

pub fed-life : (r : Result ℕ FeedFault) (q : Result ℕ LifeFault) (n m : ℕ) (At : Type 0) → q ≡ life_of r → IfOk r (λ x. x ≡ n) → IfOk r (λ x. At)
    → n ≡ m → IfOk q (λ x. (x ≡ m) × At)
fed-life (Ok x) q n m At e a b same = subst (λ p. IfOk p (λ y. (y ≡ m) × At)) (sym e) (a ∙ same, b)
fed-life (Err (feed.Closed s)) q n m At e a b same = subst (λ p. IfOk p (λ y. (y ≡ m) × At)) (sym e) tt
fed-life (Err (feed.Full s)) q n m At e a b same = subst (λ p. IfOk p (λ y. (y ≡ m) × At)) (sym e) tt
fed-life (Err feed.NoMemory) q n m At e a b same = subst (λ p. IfOk p (λ y. (y ≡ m) × At)) (sym e) tt

pub never-store : (r : Result ℕ FeedFault) (q : Result ℕ LifeFault) → q ≡ life_of r → IsErrOf q StoreFault → ⊥
never-store (Ok x) q e f = absurd cc
never-store (Err (feed.Closed s)) q e f = absurd cc
never-store (Err (feed.Full s)) q e f = absurd cc
never-store (Err feed.NoMemory) q e f = absurd cc

life-closed : (r : Result ℕ FeedFault) (q : Result ℕ LifeFault) (s : ℕ) → q ≡ life_of r → r ≡ Err (feed.Closed s) → q ≡ Err NotFed
life-closed r q s e c = e ∙ ap life_of c

life-full : (r : Result ℕ FeedFault) (q : Result ℕ LifeFault) (s : ℕ) → q ≡ life_of r → r ≡ Err (feed.Full s) → q ≡ Err NotFed
life-full r q s e c = e ∙ ap life_of c

not-memory : (r : Result ℕ FeedFault) (q : Result ℕ LifeFault) → q ≡ life_of r → r ≡ Err feed.NoMemory → q ≡ Err NotFed → ⊥
not-memory r q e m f = absurd (apart (sym (e ∙ ap life_of m) ∙ f))
  where
    apart : life_of (Err feed.NoMemory) ≡ Err NotFed → ⊥
    apart e = absurd cc

pub is-err : (r : Result ℕ FeedFault) (q : Result ℕ LifeFault) → q ≡ life_of r → q ≡ Err NotFed → IsErr r
is-err (Ok x) q e f = absurd cc
is-err (Err g) q e f = refl

-- where a source is closed, and where it is full, it takes no batch
pub not_fed-life : (r : Result ℕ FeedFault) (q : Result ℕ LifeFault) (s : ℕ) (here opened : Bool) (Full More : Type 0) → q ≡ life_of r
    → (IsErrOf r (feed.Closed s) ↔ here ≡ false) → (IsErrOf r (feed.Full s) ↔ (here ≡ true) × Full)
    → (IsErr r → IsErrOf r (feed.Closed s) ⊎ (IsErrOf r (feed.Full s) ⊎ IsErrOf r feed.NoMemory)) → here ≡ opened → (Full → More) → (More → Full)
    → (IsErrOf q NotFed ↔ (opened ≡ false) ⊎ More)
not_fed-life r q s here opened Full More e closed full only same to from = (λ f. forth f (only (is-err r q e f)), λ m. back here refl m)
  where
    forth : q ≡ Err NotFed → IsErrOf r (feed.Closed s) ⊎ (IsErrOf r (feed.Full s) ⊎ IsErrOf r feed.NoMemory) → (opened ≡ false) ⊎ More
    forth f (inl c) = inl (sym same ∙ closed.0 c)
    forth f (inr (inl c)) = inr (to (full.0 c).1)
    forth f (inr (inr m)) = absurd (not-memory r q e m f)

    back : (b : Bool) → here ≡ b → (opened ≡ false) ⊎ More → q ≡ Err NotFed
    back b o (inl c) = life-closed r q s e (closed.1 (same ∙ c))
    back true o (inr m) = life-full r q s e (full.1 (o, from m))
    back false o (inr m) = life-closed r q s e (closed.1 o)

pub not_closed-life : (r : Result ℕ FeedFault) (q : Result ℕ LifeFault) (s : ℕ) (here opened : Bool) → q ≡ life_of r
    → (IsErrOf r (feed.Closed s) ↔ here ≡ false) → (IsErr r → IsErrOf r (feed.Closed s)) → here ≡ opened → (IsErrOf q NotFed ↔ opened ≡ false)
not_closed-life r q s here opened e closed only same =
    (λ f. sym same ∙ closed.0 (only (is-err r q e f)), λ c. life-closed r q s e (closed.1 (same ∙ c)))

-- a store that keeps nothing is not asked
pub counts-none : (r : Result ℕ FeedFault) (q : Result ℕ LifeFault) (records : Option Records) (At : Story → Type 0) (before after : ℕ)
    → q ≡ life_of r → after ≡ before → CountsKeeping q records At before after
counts-none r q records At before after e same = inl (same ∙ quiet r ∙ ap (λ p. life_faults_after p before) (sym e))
  where
    quiet : (r : Result ℕ FeedFault) → before ≡ life_faults_after (life_of r) before
    quiet (Ok x) = refl
    quiet (Err (feed.Closed s)) = refl
    quiet (Err (feed.Full s)) = refl
    quiet (Err feed.NoMemory) = refl
