-- Steps that are taken by themselves: the first that is enabled is one, and from a reached state there is one run of them.
use Rattle.std.proofs.Common.{◌≡◌, ◌⊎◌, inl, inr, ℕ, zero, suc, ◌+◌, List, [], ◌∷◌, ◌++◌, length, refl, sym, ap, subst, ◌∙◌, arith}
use Rattle.fw_flow.specs.declared.step.Step.{Step}
use Rattle.fw_flow.specs.Dataflow.{System}
use Rattle.fw_flow.specs.WellFormed.{IsWellFormedSystem}
use Rattle.fw_model.specs.Auto.{auto_steps, IsIdle, AreIdle, IsFirstEnabled, IsAutoRun}
use Rattle.fw_model.specs.LawsOfAuto.{AutoRunsAreOne, AutoRunsAreRuns, AutoRunsGoOn}
use Rattle.fw_model.specs.Machine.{Machine, first_state}
use Rattle.fw_model.specs.Steps.{Effect, Outcome, did, idle, LeadsTo, StepsTo, Run}
use Rattle.fw_model.proofs.ChoosingLaws.{reached-one_next}
use Rattle.fw_model.proofs.GoingOn.{runs-go_on}
use Rattle.fw_model.proofs.OneNextLaws.{one_next}

-- ---- the first that is enabled

abbrev first_of : Step → List Step → Step
first_of step [] = step
first_of step (x ∷ xs) = x

abbrev rest_of : List Step → List Step
rest_of [] = []
rest_of (x ∷ xs) = xs

-- two steps with none enabled before them in one list, both enabled, are one
first-one : (sys : System) (state : Machine) (before other_before later other_later : List Step) (one other : Step) (next other_next : Machine) (effect other_effect : Effect)
    → before ++ one ∷ later ≡ other_before ++ other ∷ other_later → AreIdle sys state before → AreIdle sys state other_before
    → LeadsTo sys state one next effect → LeadsTo sys state other other_next other_effect → one ≡ other
first-one sys state [] [] later other_later one other next other_next effect other_effect e i j l m = ap (first_of one) e
first-one sys state [] (y ∷ ys) later other_later one other next other_next effect other_effect e i j l m =
    absurd (j.0 next effect (subst (λ s. LeadsTo sys state s next effect) (ap (first_of one) e) l))
first-one sys state (x ∷ xs) [] later other_later one other next other_next effect other_effect e i j l m =
    absurd (i.0 other_next other_effect (subst (λ s. LeadsTo sys state s other_next other_effect) (sym (ap (first_of other) e)) m))
first-one sys state (x ∷ xs) (y ∷ ys) later other_later one other next other_next effect other_effect e i j l m =
    first-one sys state xs ys later other_later one other next other_next effect other_effect (ap rest_of e) i.1 j.1 l m

first_enabled-one : (sys : System) (state : Machine) (steps : List Step) (one other : Step) (next other_next : Machine) (effect other_effect : Effect)
    → IsFirstEnabled sys state steps one next effect → IsFirstEnabled sys state steps other other_next other_effect → (other ≡ one) × (other_next ≡ next)
first_enabled-one sys state steps one other next other_next effect other_effect f g =
    let same : one ≡ other = first-one sys state f.earlier g.earlier f.later g.later one other next other_next effect other_effect (sym f.among ∙ g.among) f.none_earlier g.none_earlier f.leads g.leads in
    let also : LeadsTo sys state one other_next other_effect = subst (λ s. LeadsTo sys state s other_next other_effect) (sym same) g.leads in
    (sym same, (one_next sys state one other_next next (did other_effect) (did effect) also f.leads).0)

-- where none is enabled, none is the first
idle-among : (sys : System) (state : Machine) (earlier later : List Step) (step : Step) → AreIdle sys state (earlier ++ step ∷ later) → IsIdle sys state step
idle-among sys state [] later step i = i.0
idle-among sys state (x ∷ earlier) later step i = idle-among sys state earlier later step i.1

none-first : (sys : System) (state : Machine) (steps : List Step) (step : Step) (next : Machine) (effect : Effect) → AreIdle sys state steps → IsFirstEnabled sys state steps step next effect → ⊥
none-first sys state steps step next effect i f =
    idle-among sys state f.earlier f.later step (subst (AreIdle sys state) f.among i) next effect f.leads

-- what comes of the first of steps, and then of the others
first-more : (sys : System) (state : Machine) (step : Step) (steps : List Step) (next : Machine) (outcome : Outcome) → StepsTo sys state step next outcome
    → AreIdle sys state steps ⊎ ((first : Step) × (last : Machine) × (effect : Effect) × IsFirstEnabled sys state steps first last effect)
    → AreIdle sys state (step ∷ steps) ⊎ ((first : Step) × (last : Machine) × (effect : Effect) × IsFirstEnabled sys state (step ∷ steps) first last effect)
first-more sys state step steps next (did effect) t more = inr (step, next, effect, record { earlier = []; later = steps; among = refl; none_earlier = tt; leads = t })
first-more sys state step steps next idle t (inl none) = inl (t.0, none)
first-more sys state step steps next idle t (inr f) = inr (
  f.0,
  f.1,
  f.2,
  record {
    earlier = step ∷ f.3.earlier;
    later = f.3.later;
    among = ap (λ others. step ∷ others) f.3.among;
    none_earlier = (t.0, f.3.none_earlier);
    leads = f.3.leads;
  },
)

-- none of the steps is enabled, or one is the first that is
first-found : (sys : System) (state : Machine) → ((step : Step) → (next : Machine) × (outcome : Outcome) × StepsTo sys state step next outcome) → (steps : List Step)
    → AreIdle sys state steps ⊎ ((first : Step) × (last : Machine) × (effect : Effect) × IsFirstEnabled sys state steps first last effect)
first-found sys state each [] = inl tt
first-found sys state each (step ∷ steps) =
    let one = each step in
    first-more sys state step steps one.0 one.1 one.2 (first-found sys state each steps)

-- ---- in lists that are put together

pub idle-append : (sys : System) (state : Machine) (steps others : List Step) → AreIdle sys state steps → AreIdle sys state others → AreIdle sys state (steps ++ others)
idle-append sys state [] others i j = j
idle-append sys state (x ∷ steps) others i j = (i.0, idle-append sys state steps others i.1 j)

-- ---- runs

auto-exists : (sys : System) → IsWellFormedSystem sys → (before : List Step) (outcomes : List Outcome) (state : Machine)
    → Run sys (first_state sys) before outcomes state → (most : ℕ) → (steps : List Step) × (last : Machine) × IsAutoRun sys state most steps last
auto-exists sys w before outcomes state r zero = ([], state, refl)
auto-exists sys w before outcomes state r (suc most) =
    let each : (step : Step) → (next : Machine) × (outcome : Outcome) × StepsTo sys state step next outcome =
    λ step. let n = reached-one_next sys w before outcomes state r step in (n.0, n.1, n.2.steps) in
    elim (first-found sys state each (auto_steps sys.flow)) [
      | inl none ↦ ([], state, (none, refl))
      | inr f ↦
          let further = runs-go_on sys (first_state sys) state f.1 before (f.0 ∷ []) outcomes (did f.2 ∷ []) r (f.1, f.3.leads, refl) in
          let rest = auto-exists sys w (before ++ f.0 ∷ []) (outcomes ++ did f.2 ∷ []) f.1 further most in
          (f.0 ∷ rest.0, rest.1, (f.1, f.2, f.3, rest.2))
    ]

auto-once : (sys : System) (state : Machine) (most : ℕ) (one other : List Step) (last final : Machine) → IsAutoRun sys state most one last → IsAutoRun sys state most other final
    → (other ≡ one) × (final ≡ last)
auto-once sys state zero [] [] last final r s = (refl, s ∙ sym r)
auto-once sys state zero [] (y ∷ other) last final r s = absurd s
auto-once sys state zero (x ∷ one) other last final r s = absurd r
auto-once sys state (suc most) [] [] last final r s = (refl, s.1 ∙ sym r.1)
auto-once sys state (suc most) [] (y ∷ other) last final r s = absurd (none-first sys state (auto_steps sys.flow) y s.0 s.1 r.0 s.2)
auto-once sys state (suc most) (x ∷ one) [] last final r s = absurd (none-first sys state (auto_steps sys.flow) x r.0 r.1 s.0 r.2)
auto-once sys state (suc most) (x ∷ one) (y ∷ other) last final r s =
    let same = first_enabled-one sys state (auto_steps sys.flow) x y r.0 s.0 r.1 s.1 r.2 s.2 in
    let rest = auto-once sys r.0 most one other last final r.3 (subst (λ m. IsAutoRun sys m most other final) same.1 s.3) in
    (ap (λ z. z ∷ other) same.0 ∙ ap (λ zs. x ∷ zs) rest.0, rest.1)

pub auto-one : AutoRunsAreOne
auto-one sys w before outcomes state r most =
    let run = auto-exists sys w before outcomes state r most in
    (run.0, run.1, run.2, λ others other s. auto-once sys state most run.0 others run.1 other run.2 s)

pub auto-runs : AutoRunsAreRuns
auto-runs sys state last zero [] r = ([], r)
auto-runs sys state last zero (x ∷ steps) r = absurd r
auto-runs sys state last (suc most) [] r = ([], r.1)
auto-runs sys state last (suc most) (x ∷ steps) r =
    let rest = auto-runs sys r.0 last most steps r.3 in
    (r.1 ∷ rest.0, (r.0, r.2.leads, rest.1))

pub auto-goes_on : AutoRunsGoOn
auto-goes_on sys state between last [] others most r s =
    let here : IsAutoRun sys state most others last = subst (λ (m : Machine). IsAutoRun sys m most others last) r s in
    let none : most ≡ 0 + most = omega arith in
    subst (λ n. IsAutoRun sys state n others last) none here
auto-goes_on sys state between last (x ∷ steps) others most r s =
    let more : IsAutoRun sys state (suc (length steps + most)) (x ∷ (steps ++ others)) last = (r.0, r.1, r.2, auto-goes_on sys r.0 between last steps others most r.3 s) in
    let count : suc (length steps + most) ≡ suc (length steps) + most = omega arith in
    subst (λ n. IsAutoRun sys state n (x ∷ (steps ++ others)) last) count more
