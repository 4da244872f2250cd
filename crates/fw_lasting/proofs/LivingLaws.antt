-- A session that lasts as one over which lines are answered: it is at a story where it is under way at it, whatever its store holds.
use Rattle.std.proofs.Common.{◌≡◌, ◌⊎◌, ◌↔◌, ℕ, ◌+◌, ◌-◌, ◌≤◌, ◌^◌, Bool, false, true, Option, Result, Ok, Err, refl, sym, ap, subst, ◌∙◌, inl, inr}
use Rattle.std.specs.Option.{ForSome}
use Rattle.std.specs.Prelude.{IfOk, IsErrOf, OnErr, OnOk}
use Rattle.fw_engine.specs.declared.engine.Engine.{Engine}
use Rattle.fw_engine.specs.Engine.{flow_of, keep_of}
use Rattle.fw_flow.specs.declared.step.Step.{Step}
use Rattle.fw_flow.specs.declared.step.Step.TheVariants.{Collect}
use Rattle.fw_flow.specs.Dataflow.{Dataflow}
use Rattle.fw_keep.specs.Stored.{Records}
use Rattle.fw_living.specs.Life.{came_in_story, AutoGoesOn, GoesOnByAuto}
use Rattle.fw_model.specs.Steps.{Outcome, did, idle}
use Rattle.fw_root.specs.declared.root.Digests.{Digests}
use Rattle.fw_running.specs.declared.fault.EngineFault.{EngineFault}
use Rattle.fw_running.specs.declared.stepped.Stepped.{Stepped}
use Rattle.fw_running.specs.Steps.{outcome_of}
use Rattle.fw_session.specs.declared.arrivals.Arrivals.{Arrivals}
use Rattle.fw_session.specs.Session.{came_in, is_open_in, GoesOnTo, IsLeftAt, StepGoesOn}
use Rattle.fw_session.specs.Story.{Story, opening}
use Rattle.fw_lasting.specs.KeptStory.{HoldsStory}
use Rattle.fw_lasting.specs.Starting.{HoldsSome}
use Rattle.fw_lasting.specs.UnderWay.{IsUnderWay, KeepsEither, StillHolds}

-- it is at a story
abbrev IsAtOne : (Story → Story → Type 0) → Story → Type 0
IsAtOne Under now = (kept : Story) × Under kept now

module _ (flow : Dataflow) (Before After : Story → Story → Type 0) where
  on-one : (kept : Story) (step : Step) (story : Story) (result : Result Stepped EngineFault)
      → IfOk result (λ stepped. GoesOnTo flow step (outcome_of stepped) story (After kept))
      → IfOk result (λ stepped. GoesOnTo flow step (outcome_of stepped) story (IsAtOne After))
  on-one kept step story (Ok stepped) (next, by, p) = (next, by, (kept, p))
  on-one kept step story (Err e) g = tt

  left-one : (kept : Story) (step : Step) (story : Story) → IsLeftAt flow step story (After kept) → IsLeftAt flow step story (IsAtOne After)
  left-one kept Collect story (outcome, (next, by, p)) = (outcome, (next, by, (kept, p)))
  left-one kept step story p = (p.0, (kept, p.1))

  pub step-one : (step : Step) (result : Result Stepped EngineFault) (after : Option Records)
      → ((kept : Story) → StepGoesOn flow step result after (Before kept) (After kept))
      → StepGoesOn flow step result after (IsAtOne Before) (IsAtOne After)
  step-one step result after g = record {
    ok = λ story at trusts. on-one at.0 step story result ((g at.0).ok story at.1 trusts);
    shows = λ story at. (g at.0).shows story at.1;
    faulted = λ story at e. left-one at.0 step story ((g at.0).faulted story at.1 e);
    unharmed = λ id story at e. let h = (g at.0).unharmed id story at.1 e in (h.0, (at.0, h.1));
  }

  auto-one : (kept story : Story) (outcome : Outcome) → GoesOnByAuto flow outcome story (After kept) → GoesOnByAuto flow outcome story (IsAtOne After)
  auto-one kept story (did effect) (step, state, p, first) = (step, state, (kept, p), first)
  auto-one kept story idle (p, none) = ((kept, p), none)

  auto-result : (kept story : Story) (result : Result Stepped EngineFault) → IfOk result (λ stepped. GoesOnByAuto flow (outcome_of stepped) story (After kept))
      → IfOk result (λ stepped. GoesOnByAuto flow (outcome_of stepped) story (IsAtOne After))
  auto-result kept story (Ok stepped) g = auto-one kept story (outcome_of stepped) g
  auto-result kept story (Err e) g = tt

  pub first-one : (result : Result Stepped EngineFault) → ((kept : Story) → AutoGoesOn flow result (Before kept) (After kept))
      → AutoGoesOn flow result (IsAtOne Before) (IsAtOne After)
  first-one result g = record {
    ok = λ story at. auto-result at.0 story result ((g at.0).ok story at.1);
    faulted = λ story at e. let f = (g at.0).faulted story at.1 e in (f.0, (at.0, f.1));
    unharmed = λ id e. (g (opening flow)).unharmed id e;
  }

-- what came to a source, and whether it is one
pub came-at : (digests : Digests) (engine : Engine) (arrivals : Arrivals) (records : Option Records) (turn : ℕ) (kept now : Story) (s : ℕ)
    → IsUnderWay digests engine arrivals records turn kept now
    → (is_open_in arrivals s ≡ now.now.opened s) × (came_in arrivals s ≡ came_in_story (flow_of engine) now s)
came-at digests engine arrivals records turn kept now s u = (u.at.opens s, u.at.counts s)

-- why it is not fed, by the story
pub not-fed_at : (digests : Digests) (engine : Engine) (arrivals : Arrivals) (records : Option Records) (turn : ℕ) (kept now : Story) (s : ℕ)
    (A : Type 0) → (A ↔ (is_open_in arrivals s ≡ false) ⊎ (2 ^ 20 - 1 ≤ came_in arrivals s))
    → IsUnderWay digests engine arrivals records turn kept now
    → (A ↔ (now.now.opened s ≡ false) ⊎ (2 ^ 20 - 1 ≤ came_in_story (flow_of engine) now s))
not-fed_at digests engine arrivals records turn kept now s A f u =
    subst (λ b. A ↔ (b ≡ false) ⊎ (2 ^ 20 - 1 ≤ came_in_story (flow_of engine) now s)) (u.at.opens s)
    (subst (λ n. A ↔ (is_open_in arrivals s ≡ false) ⊎ (2 ^ 20 - 1 ≤ n)) (u.at.counts s) f)

pub not-closed_at : (digests : Digests) (engine : Engine) (arrivals : Arrivals) (records : Option Records) (turn : ℕ) (kept now : Story) (s : ℕ)
    (A : Type 0) → (A ↔ is_open_in arrivals s ≡ false) → IsUnderWay digests engine arrivals records turn kept now
    → (A ↔ now.now.opened s ≡ false)
not-closed_at digests engine arrivals records turn kept now s A f u = subst (λ b. A ↔ b ≡ false) (u.at.opens s) f

-- what was fed, and at which story it is then
pub fed-one : {E : Type 0} (n m : ℕ) (Q : Story → Story → Type 0) (kept next : Story) (result : Result ℕ E) → n ≡ m → IfOk result (λ epoch. epoch ≡ n)
    → IfOk result (λ epoch. Q kept next) → IfOk result (λ epoch. (epoch ≡ m) × IsAtOne Q next)
fed-one n m Q kept next (Ok epoch) same e q = (e ∙ same, (kept, q))
fed-one n m Q kept next (Err fault) same e q = tt

-- what is kept is what was done
pub kept-one : {E : Type 0} (Q : Story → Story → Type 0) (S : Type 0) (story : Story) (result : Result (Unit {0}) E)
    → OnOk result (Q story story × S) → OnOk result (IsAtOne Q story × (Q story story × S))
kept-one Q S story (Ok done) q = ((story, q.0), q)
kept-one Q S story (Err fault) q = tt

-- ---- what the store holds, whatever was answered

pub some-under : (digests : Digests) (engine : Engine) (arrivals : Arrivals) (records : Option Records) (turn : ℕ) (kept now : Story)
    → IsUnderWay digests engine arrivals records turn kept now → ForSome records (HoldsSome (flow_of engine) digests)
some-under digests engine arrivals records turn kept now u = λ held is. (kept, turn, (keep_of engine).next, u.holds held is)

some-same : (flow flow2 : Dataflow) (digests digests2 : Digests) (records : Option Records) → flow2 ≡ flow → digests2 ≡ digests
    → ForSome records (HoldsSome flow digests) → ForSome records (HoldsSome flow2 digests2)
some-same flow flow2 digests digests2 records f d some =
    subst (λ x. ForSome records (HoldsSome x digests2)) (sym f) (subst (λ x. ForSome records (HoldsSome flow x)) (sym d) some)

some-either : (flow : Dataflow) (digests : Digests) (records : Option Records) (kept now : Story) → KeepsEither flow digests records kept now
    → ForSome records (HoldsSome flow digests)
some-either flow digests records kept now k = λ held is. one held (k held is)
  where
    one : (held : Records)
        → (turn : ℕ) × (next : ℕ) × (HoldsStory flow digests held kept turn next ⊎ HoldsStory flow digests held now turn next)
        → HoldsSome flow digests held
    one held (turn, next, inl h) = (kept, turn, next, h)
    one held (turn, next, inr h) = (now, turn, next, h)

pub some-still : (flow flow2 : Dataflow) (digests digests2 : Digests) (records : Option Records) (kept : Story) → flow2 ≡ flow → digests2 ≡ digests
    → StillHolds flow digests records kept → ForSome records (HoldsSome flow2 digests2)
some-still flow flow2 digests digests2 records kept f d k =
    some-same flow flow2 digests digests2 records f d (λ held is. (kept, (k held is).0, (k held is).1, (k held is).2))

-- behind a call that leads from what is kept to one story where all went well, and to one of two else
pub some-left : {T E : Type 0} (result : Result T E) (flow : Dataflow) (digests : Digests) (engine : Engine) (digests2 : Digests) (arrivals : Arrivals)
    (records : Option Records) (turn : ℕ) (one two kept now : Story) → flow_of engine ≡ flow → digests2 ≡ digests
    → IfOk result (λ x. IsUnderWay digests2 engine arrivals records turn one two) → OnErr result (KeepsEither flow digests records kept now)
    → ForSome records (HoldsSome (flow_of engine) digests2)
some-left (Ok x) flow digests engine digests2 arrivals records turn one two kept now f d ok err =
    some-under digests2 engine arrivals records turn one two ok
some-left (Err e) flow digests engine digests2 arrivals records turn one two kept now f d ok err =
    some-same flow (flow_of engine) digests digests2 records f d (some-either flow digests records kept now err)

pub some-kept : {E : Type 0} (result : Result (Unit {0}) E) (flow : Dataflow) (digests : Digests) (engine : Engine) (digests2 : Digests)
    (arrivals : Arrivals) (records : Option Records) (turn : ℕ) (kept now : Story) (Says : Type 0) → flow_of engine ≡ flow → digests2 ≡ digests
    → OnOk result (IsUnderWay digests2 engine arrivals records turn now now × Says) → OnErr result (KeepsEither flow digests records kept now)
    → ForSome records (HoldsSome (flow_of engine) digests2)
some-kept (Ok x) flow digests engine digests2 arrivals records turn kept now Says f d ok err =
    some-under digests2 engine arrivals records turn now now ok.0
some-kept (Err e) flow digests engine digests2 arrivals records turn kept now Says f d ok err =
    some-same flow (flow_of engine) digests digests2 records f d (some-either flow digests records kept now err)
