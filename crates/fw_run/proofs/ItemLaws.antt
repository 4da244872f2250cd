-- Items come to one list of steps, which has one run.
use Rattle.std.proofs.Common.{◌≡◌, ℕ, zero, suc, ◌+◌, ◌≤◌, Bool, true, false, List, [], ◌∷◌, ◌++◌, length, map, slice_index_or, refl, sym, ◌∙◌, ap, subst, append_assoc, arith}
use Rattle.std.proofs.lemmas.List.{append-nil, length-append}
use Rattle.fw_flow.specs.declared.step.Step.{Step}
use Rattle.fw_flow.specs.declared.step.Step.TheVariants.{Inject, Deliver, Notify, Progress as ProgressStep, Checkpoint, Persist, Fail, Recover, Collect, Ack}
use Rattle.fw_flow.specs.Dataflow.{System}
use Rattle.fw_flow.specs.WellFormed.{IsWellFormedSystem}
use Rattle.fw_schedule.specs.declared.item.Item.{Item}
use Rattle.fw_schedule.specs.declared.item.Item.TheVariants.{One, Auto}
use Rattle.fw_model.proofs.AutoLaws.{auto-one, auto-runs}
use Rattle.fw_model.proofs.ChoosingLaws.{reached-one_next}
use Rattle.fw_model.proofs.GoingOn.{runs-go_on}
use Rattle.fw_model.proofs.OneNextLaws.{one_next}
use Rattle.fw_model.specs.Auto.{AreIdle, IsFirstEnabled, IsAutoRun, IsIdle, auto_steps}
use Rattle.fw_model.specs.Machine.{Machine, first_state}
use Rattle.fw_model.specs.Steps.{Outcome, did, idle, StepsTo, Run}
use Rattle.fw_rest.proofs.FinishLaws.{recovered-live, auto-live}
use Rattle.fw_rest.specs.Rest.{AreAllLive}
use Rattle.fw_schedule.specs.Schedule.{step_count}
use Rattle.fw_run.specs.Items.{ItemComesTo, ComesTo, ItemRun, ItemsRun, live_after, all_live_after}

-- ---- an item

-- each item has a run from each state to which steps lead from the first one
pub item-run : (sys : System) → IsWellFormedSystem sys → (before : List Step) (earlier : List Outcome) (state : Machine) → Run sys (first_state sys) before earlier state
    → (item : Item) → ItemRun sys state item
item-run sys w before earlier state r (One step) =
    let n = reached-one_next sys w before earlier state r step in
    record { steps = step ∷ []; outcomes = n.1 ∷ []; last = n.0; comes = (n.1, n.2.steps, refl); run = (n.0, n.2.steps, refl) }
item-run sys w before earlier state r (Auto most) =
    let a = auto-one sys w before earlier state r most in
    let e = auto-runs sys state a.1 most a.0 a.2 in
    record { steps = a.0; outcomes = map did e.0; last = a.1; comes = a.2; run = e.1 }

-- to which it comes in one way
item_once : (sys : System) → IsWellFormedSystem sys → (before : List Step) (earlier : List Outcome) (state : Machine) → Run sys (first_state sys) before earlier state
    → (item : Item) (one other : List Step) (last final : Machine) → ItemComesTo sys state item one last → ItemComesTo sys state item other final
    → (other ≡ one) × (final ≡ last)
item_once sys w before earlier state r (One step) one other last final c d =
    (d.2 ∙ sym c.2, (one_next sys state step final last d.0 c.0 d.1 c.1).0)
item_once sys w before earlier state r (Auto most) one other last final c d =
    let a = auto-one sys w before earlier state r most in
    let first = a.3 one last c in
    let second = a.3 other final d in
    (second.0 ∙ sym first.0, second.1 ∙ sym first.1)

-- ---- items

-- items that go on where others ended
pub comes-on : (sys : System) (state between last : Machine) (items others : List Item) (steps more : List Step)
    → ComesTo sys state items steps between → ComesTo sys between others more last → ComesTo sys state (items ++ others) (steps ++ more) last
comes-on sys state between last [] others steps more c d =
    let here : ComesTo sys state others more last = subst (λ (m : Machine). ComesTo sys m others more last) c.1 d in
    subst (λ (s : List Step). ComesTo sys state others (s ++ more) last) (sym c.0) here
comes-on sys state between last (item ∷ items) others steps more c d =
    let rest = comes-on sys c.1 between last items others c.2 more c.4 d in
    (c.0, c.1, c.2 ++ more, c.3, rest, ap (λ (s : List Step). s ++ more) c.5 ∙ append_assoc c.0 c.2 more)

-- one item after others
pub comes-next : (sys : System) (state between last : Machine) (items : List Item) (item : Item) (steps more : List Step)
    → ComesTo sys state items steps between → ItemComesTo sys between item more last → ComesTo sys state (items ++ item ∷ []) (steps ++ more) last
comes-next sys state between last items item steps more c d =
    let one : ComesTo sys between (item ∷ []) more last = (more, last, [], d, (refl, refl), sym (append-nil more)) in
    comes-on sys state between last items (item ∷ []) steps more c one

-- items come to steps with a run, from each state to which steps lead from the first one
pub items-run : (sys : System) → IsWellFormedSystem sys → (before : List Step) (earlier : List Outcome) (state : Machine) → Run sys (first_state sys) before earlier state
    → (items : List Item) → ItemsRun sys state items
items-run sys w before earlier state r [] = record { steps = []; outcomes = []; last = state; comes = (refl, refl); run = refl }
items-run sys w before earlier state r (item ∷ items) =
    let one = item-run sys w before earlier state r item in
    let further = runs-go_on sys (first_state sys) state one.last before one.steps earlier one.outcomes r one.run in
    let rest = items-run sys w (before ++ one.steps) (earlier ++ one.outcomes) one.last further items in
    record {
      steps = one.steps ++ rest.steps;
      outcomes = one.outcomes ++ rest.outcomes;
      last = rest.last;
      comes = (one.steps, one.last, rest.steps, one.comes, rest.comes, refl);
      run = runs-go_on sys state one.last rest.last one.steps rest.steps one.outcomes rest.outcomes one.run rest.run;
    }

-- in one way
items_once : (sys : System) → IsWellFormedSystem sys → (before : List Step) (earlier : List Outcome) (state : Machine) → Run sys (first_state sys) before earlier state
    → (items : List Item) (one other : List Step) (last final : Machine) → ComesTo sys state items one last → ComesTo sys state items other final
    → (other ≡ one) × (final ≡ last)
items_once sys w before earlier state r [] one other last final c d = (d.0 ∙ sym c.0, d.1 ∙ sym c.1)
items_once sys w before earlier state r (item ∷ items) one other last final c d =
    let found = item-run sys w before earlier state r item in
    let first = item_once sys w before earlier state r item found.steps c.0 found.last c.1 found.comes c.3 in
    let second = item_once sys w before earlier state r item found.steps d.0 found.last d.1 found.comes d.3 in
    let further = runs-go_on sys (first_state sys) state found.last before found.steps earlier found.outcomes r found.run in
    let here : ComesTo sys found.last items c.2 last = subst (λ (m : Machine). ComesTo sys m items c.2 last) first.1 c.4 in
    let there : ComesTo sys found.last items d.2 final = subst (λ (m : Machine). ComesTo sys m items d.2 final) second.1 d.4 in
    let rest = items_once sys w (before ++ found.steps) (earlier ++ found.outcomes) found.last further items c.2 d.2 last final here there in (
      d.5 ∙ ap (λ (s : List Step). s ++ d.2) (second.0 ∙ sym first.0) ∙ ap (λ (s : List Step). c.0 ++ s) rest.0 ∙ sym c.5,
      rest.1,
    )

-- from the first state
pub items-one : (sys : System) → IsWellFormedSystem sys → (items : List Item)
    → (steps : List Step) × (last : Machine) × ComesTo sys (first_state sys) items steps last
    × ((others : List Step) (other : Machine) → ComesTo sys (first_state sys) items others other → (others ≡ steps) × (other ≡ last))
items-one sys w items =
    let found = items-run sys w [] [] (first_state sys) refl items in
    (found.steps, found.last, found.comes, λ others other c. items_once sys w [] [] (first_state sys) refl items found.steps others found.last other found.comes c)

-- ---- lines of `auto`

-- where no step is enabled, none is the first that is
idle-none : (sys : System) (state : Machine) (earlier later : List Step) (step : Step) → AreIdle sys state (earlier ++ step ∷ later) → IsIdle sys state step
idle-none sys state [] later step i = i.0
idle-none sys state (x ∷ earlier) later step i = idle-none sys state earlier later step i.1

-- so `auto` takes none
auto-none : (sys : System) (state last : Machine) (most : ℕ) (steps : List Step) → AreIdle sys state (auto_steps sys.flow) → IsAutoRun sys state most steps last
    → (steps ≡ []) × (last ≡ state)
auto-none sys state last zero [] i r = (refl, r)
auto-none sys state last zero (x ∷ steps) i r = absurd r
auto-none sys state last (suc most) [] i r = (refl, r.1)
auto-none sys state last (suc most) (x ∷ steps) i r =
    let f = r.2 in
    absurd (idle-none sys state f.earlier f.later x (subst (AreIdle sys state) f.among i) r.0 r.1 f.leads)

-- two lines of `auto` take the steps of one of their sum
auto-joined : (sys : System) (state between last : Machine) (most more : ℕ) (steps others : List Step) → IsAutoRun sys state most steps between → IsAutoRun sys between more others last
    → IsAutoRun sys state (most + more) (steps ++ others) last
auto-joined sys state between last zero more [] others r s =
    let here : IsAutoRun sys state more others last = subst (λ (m : Machine). IsAutoRun sys m more others last) r s in
    let count : more ≡ 0 + more = omega arith in
    subst (λ n. IsAutoRun sys state n others last) count here
auto-joined sys state between last zero more (x ∷ steps) others r s = absurd r
auto-joined sys state between last (suc most) more [] others r s =
    let none = auto-none sys state last more others r.0 (subst (λ (m : Machine). IsAutoRun sys m more others last) r.1 s) in
    let here : IsAutoRun sys state (suc (most + more)) [] last = (r.0, none.1) in
    let there : IsAutoRun sys state (suc (most + more)) others last = subst (λ (steps : List Step). IsAutoRun sys state (suc (most + more)) steps last) (sym none.0) here in
    let count : suc (most + more) ≡ suc most + more = omega arith in
    subst (λ n. IsAutoRun sys state n others last) count there
auto-joined sys state between last (suc most) more (x ∷ steps) others r s =
    let here : IsAutoRun sys state (suc (most + more)) (x ∷ (steps ++ others)) last = (r.0, r.1, r.2, auto-joined sys r.0 between last most more steps others r.3 s) in
    let count : suc (most + more) ≡ suc most + more = omega arith in
    subst (λ n. IsAutoRun sys state n (x ∷ (steps ++ others)) last) count here

-- lines of `auto` take the steps of one that asks for as many
pub autos-one : (sys : System) (counts : List ℕ) (steps : List Step) (state last : Machine) → ComesTo sys state (map Auto counts) steps last
    → IsAutoRun sys state (step_count (map Auto counts)) steps last
autos-one sys [] steps state last c = subst (λ (s : List Step). IsAutoRun sys state 0 s last) (sym c.0) c.1
autos-one sys (most ∷ counts) steps state last c =
    let rest = autos-one sys counts c.2 c.1 last c.4 in
    subst (λ (s : List Step). IsAutoRun sys state (most + step_count (map Auto counts)) s last) (sym c.5)
    (auto-joined sys state c.1 last most (step_count (map Auto counts)) c.0 c.2 c.3 rest)

-- ---- how many steps items take, and whether they leave a node failed

auto-few : (sys : System) (most : ℕ) (steps : List Step) (state last : Machine) → IsAutoRun sys state most steps last → length steps ≤ most
auto-few sys zero [] state last r = omega arith
auto-few sys zero (x ∷ steps) state last r = absurd r
auto-few sys (suc most) [] state last r = omega arith
auto-few sys (suc most) (x ∷ steps) state last r = let few = auto-few sys most steps r.0 last r.3 in omega arith

pub items-few : (sys : System) (items : List Item) (steps : List Step) (state last : Machine) → ComesTo sys state items steps last → length steps ≤ step_count items
items-few sys [] steps state last c = let none = ap (λ (s : List Step). length s) c.0 in omega arith
items-few sys (One step ∷ items) steps state last c =
    let few = items-few sys items c.2 c.1 last c.4 in
    let one = ap (λ (s : List Step). length s) c.3.2 in
    let all = ap (λ (s : List Step). length s) c.5 ∙ length-append c.0 c.2 in
    omega arith
items-few sys (Auto most ∷ items) steps state last c =
    let few = items-few sys items c.2 c.1 last c.4 in
    let some = auto-few sys most c.0 state c.1 c.3 in
    let all = ap (λ (s : List Step). length s) c.5 ∙ length-append c.0 c.2 in
    omega arith

still-live : (sys : System) (state next : Machine) → next.failed ≡ state.failed → AreAllLive sys state → AreAllLive sys next
still-live sys state next same live p l = ap (λ (fs : List Bool). slice_index_or fs p false) same ∙ live p l

step-live : (sys : System) → IsWellFormedSystem sys → (before : List Step) (earlier : List Outcome) (state : Machine) → Run sys (first_state sys) before earlier state
    → (step : Step) (next : Machine) (outcome : Outcome) → StepsTo sys state step next outcome
    → (live : Bool) → (live ≡ true → AreAllLive sys state) → live_after live (One step) ≡ true → AreAllLive sys next
step-live sys w before earlier state r (Fail ps) next outcome t live k e = absurd (cc)
step-live sys w before earlier state r Recover next outcome t live k e = recovered-live sys w state (before, earlier, r) next outcome t
step-live sys w before earlier state r (Inject s) next (did effect) t live k e = still-live sys state next (ap (λ (m : Machine). m.failed) t.3) (k e)
step-live sys w before earlier state r (Deliver d at) next (did effect) t live k e = still-live sys state next (ap (λ (m : Machine). m.failed) t.3) (k e)
step-live sys w before earlier state r (Notify p at) next (did effect) t live k e = still-live sys state next (ap (λ (m : Machine). m.failed) t.3) (k e)
step-live sys w before earlier state r ProgressStep next (did effect) t live k e = still-live sys state next (ap (λ (m : Machine). m.failed) t.3) (k e)
step-live sys w before earlier state r (Checkpoint p) next (did effect) t live k e = still-live sys state next (ap (λ (m : Machine). m.failed) t.3) (k e)
step-live sys w before earlier state r Persist next (did effect) t live k e = still-live sys state next (ap (λ (m : Machine). m.failed) t.2) (k e)
step-live sys w before earlier state r Collect next (did effect) t live k e = still-live sys state next (ap (λ (m : Machine). m.failed) t.3) (k e)
step-live sys w before earlier state r (Ack o) next (did effect) t live k e = still-live sys state next (ap (λ (m : Machine). m.failed) t.2) (k e)
step-live sys w before earlier state r step next idle t live k e = still-live sys state next (ap (λ (m : Machine). m.failed) t.1) (k e)

item-live : (sys : System) → IsWellFormedSystem sys → (before : List Step) (earlier : List Outcome) (state : Machine) → Run sys (first_state sys) before earlier state
    → (item : Item) (steps : List Step) (next : Machine) → ItemComesTo sys state item steps next
    → (live : Bool) → (live ≡ true → AreAllLive sys state) → live_after live item ≡ true → AreAllLive sys next
item-live sys w before earlier state r (One step) steps next c live k e = step-live sys w before earlier state r step next c.0 c.1 live k e
item-live sys w before earlier state r (Auto most) steps next c live k e = auto-live sys most steps state next c (k e)

pub items-live : (sys : System) → IsWellFormedSystem sys → (before : List Step) (earlier : List Outcome) (state : Machine) → Run sys (first_state sys) before earlier state
    → (items : List Item) (steps : List Step) (last : Machine) → ComesTo sys state items steps last
    → (live : Bool) → (live ≡ true → AreAllLive sys state) → all_live_after live items ≡ true → AreAllLive sys last
items-live sys w before earlier state r [] steps last c live k e = subst (AreAllLive sys) (sym c.1) (k e)
items-live sys w before earlier state r (item ∷ items) steps last c live k e =
    let found = item-run sys w before earlier state r item in
    let one = item_once sys w before earlier state r item found.steps c.0 found.last c.1 found.comes c.3 in
    let further = runs-go_on sys (first_state sys) state found.last before found.steps earlier found.outcomes r found.run in
    let here : ComesTo sys found.last items c.2 last = subst (λ (m : Machine). ComesTo sys m items c.2 last) one.1 c.4 in
    items-live sys w (before ++ found.steps) (earlier ++ found.outcomes) found.last further items c.2 last here (live_after live item)
    (item-live sys w before earlier state r item found.steps found.last found.comes live k) e
