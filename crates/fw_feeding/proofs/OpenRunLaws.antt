-- Runs in which no open source injects its last batch.
use Rattle.std.proofs.Common.{◌≡◌, ℕ, ◌+◌, ◌<◌, ◌≤◌, Bool, true, false, cond, ◌==◌, List, [], ◌∷◌, length, filter, map, get_or, refl, sym, ap, subst, ◌∙◌, arith}
use Rattle.std.specs.List.{AllByRecursion}
use Rattle.std.proofs.lemmas.Bool.{cond_both, eqb-true, false≢true}
use Rattle.fw_lemmas.proofs.Each.{each-weaker, each_of-map, each-kept}
use Rattle.fw_lemmas.proofs.Numbers.{other_number, count-grows}
use Rattle.fw_bag.specs.declared.rec.Rec.{Rec}
use Rattle.fw_flow.specs.Counting.{how_many}
use Rattle.fw_flow.specs.declared.choice.Choice.{Choice}
use Rattle.fw_flow.specs.declared.event.Event.{Event}
use Rattle.fw_flow.specs.declared.event.Event.TheVariants.{Inject as Injected, Deliver as Delivered, Notify as Notified}
use Rattle.fw_flow.specs.declared.step.Step.{Step}
use Rattle.fw_flow.specs.declared.step.Step.TheVariants.{Inject, Deliver, Notify, Progress, Checkpoint, Persist, Fail, Recover, Collect, Ack}
use Rattle.fw_flow.specs.Dataflow.{System, Dataflow, batches_of}
use Rattle.fw_flow.specs.NodeFunction.{event_node, event_stamp}
use Rattle.fw_model.specs.Acknowledgements.{IsDenoted}
use Rattle.fw_model.specs.Choice.{kept_of, filtered_history}
use Rattle.fw_model.specs.History.{injected_count, is_injection}
use Rattle.fw_model.specs.Machine.{Machine, SerialEvent, events, first_state}
use Rattle.fw_model.specs.Steps.{Effect, did, LeadsTo}
use Rattle.fw_model.proofs.FilteredLaws.{filtered-events}
use Rattle.fw_model.proofs.RecoveryLaws.{acknowledged-denoted}
use Rattle.fw_feeding.specs.Feeding.{with_batches, GoOn, GoOnEach}
use Rattle.fw_feeding.specs.LawsOfFeeding.{OpenRunsGoOnOverMore, OpenRunsAreRuns, ClosingKeepsOpenRuns, OpenRunsShowWhatIsDenoted}
use Rattle.fw_feeding.specs.OpenRuns.{HoldsBack, OpenRun}
use Rattle.fw_feeding.proofs.AlikeLaws.{AreAlikeIn, InjectsAlike}
use Rattle.fw_feeding.proofs.AlikeSteps.{AreMore, leads-alike}

-- the event injects none of the last batches of open sources
InjectsCame : (ℕ → Bool) → System → Event → Type 0
InjectsCame opened sys (Injected s x) = opened s ≡ true → x + 1 < length (batches_of sys s)
InjectsCame opened sys (Delivered e m) = Unit {0}
InjectsCame opened sys (Notified p t) = Unit {0}

-- In a history no event injects the last batch of an open source, nor were all of its batches injected.
record HeldIn (opened : ℕ → Bool) (sys : System) (h : List Event) : Type 0 where
  few : (s : ℕ) → opened s ≡ true → injected_count s h < length (batches_of sys s)
  came : AllByRecursion (InjectsCame opened sys) h

-- ---- later batches are more, and alike in such a history

more-one : (b : Bool) (now later : List (List Rec)) → GoOn b now later → length now ≤ length later
more-one false now later g = let same : length later ≡ length now = ap length g in omega arith
more-one true now later g = g.1

pub goes-more : (opened : ℕ → Bool) (flow : Dataflow) (now later : List (List (List Rec))) → GoOnEach opened flow now later → AreMore flow now later
goes-more opened flow now later g = λ s. more-one (opened s) (batches_of (with_batches flow now) s) (batches_of (with_batches flow later) s) (g s)

same-batch : (b : Bool) (now later : List (List Rec)) (x : ℕ) → GoOn b now later → (b ≡ true → x + 1 < length now) → get_or now x [] ≡ get_or later x []
same-batch false now later x g k = ap (λ bs. get_or bs x []) (sym g)
same-batch true now later x g k = sym (g.2 x (k refl))

event-alike : (opened : ℕ → Bool) (flow : Dataflow) (now later : List (List (List Rec))) → GoOnEach opened flow now later → (v : Event)
    → InjectsCame opened (with_batches flow now) v → InjectsAlike flow now later v
unfolding InjectsCame
event-alike opened flow now later g (Injected s x) k = same-batch (opened s) (batches_of (with_batches flow now) s) (batches_of (with_batches flow later) s) x (g s) k
event-alike opened flow now later g (Delivered e m) k = tt
event-alike opened flow now later g (Notified p t) k = tt

same-exhausted : (b : Bool) (now later : List (List Rec)) (k : ℕ) → GoOn b now later → (b ≡ true → k < length now)
    → (k == length now) ≡ (k == length later)
same-exhausted false now later k g l = ap (λ bs. k == length bs) (sym g)
same-exhausted true now later k g l =
    let few : k < length now = l refl in
    let many : length now ≤ length later = g.1 in
    let much : k < length later = omega arith in
    other_number k (length now) few ∙ sym (other_number k (length later) much)

held-alike : (opened : ℕ → Bool) (flow : Dataflow) (now later : List (List (List Rec))) → GoOnEach opened flow now later → (h : List Event)
    → HeldIn opened (with_batches flow now) h → AreAlikeIn flow now later h
held-alike opened flow now later g h k = record {
  injected = each-weaker (InjectsCame opened (with_batches flow now)) (InjectsAlike flow now later) h (λ v i. event-alike opened flow now later g v i) k.came;
  exhausted = λ s. same-exhausted (opened s) (batches_of (with_batches flow now) s) (batches_of (with_batches flow later) s) (injected_count s h) (g s) (λ o. k.few s o);
}

-- ---- steps keep it so

stays-below : (b : Bool) (m n : ℕ) → m ≤ n → cond b (m + 1) m ≤ cond b (n + 1) n
stays-below true m n l = omega arith
stays-below false m n l = l

fewer-kept : {X : Type 0} (test keep : X → Bool) (xs : List X) → how_many test (filter keep xs) ≤ how_many test xs
fewer-kept test keep [] = omega arith
fewer-kept test keep (x ∷ xs) =
    let rest = fewer-kept test keep xs in
    let m = how_many test (filter keep xs) in
    let n = how_many test xs in
    cond_both (keep x) (x ∷ filter keep xs) (filter keep xs) (λ ys. how_many test ys ≤ how_many test (x ∷ xs))
    (λ e. stays-below (test x) m n rest) (λ e. count-grows (test x) m n rest)

-- of what a recovery keeps the same holds
recovery-held : (opened : ℕ → Bool) (sys : System) (choice : Choice) (h : List SerialEvent) → HeldIn opened sys (events h)
    → HeldIn opened sys (events (filtered_history sys choice h))
recovery-held opened sys choice h k =
    let keep = λ (v : Event). kept_of sys.flow choice (event_node sys.flow v) (event_stamp v) in
    subst (HeldIn opened sys) (sym (filtered-events sys choice h)) (record {
      few = λ s o.
          let l = k.few s o in
          let m = fewer-kept (is_injection s) keep (events h) in
          omega arith;
      came = each-kept (InjectsCame opened sys) keep (events h) k.came;
    })

counted : (b : Bool) (n k : ℕ) → (b ≡ true → n + 1 < k) → n < k → cond b (n + 1) n < k
counted true n k l m = l refl
counted false n k l m = m

inject-held : (opened : ℕ → Bool) (sys : System) (h : List Event) (s x : ℕ) → x ≡ injected_count s h
    → (opened s ≡ true → injected_count s h + 1 < length (batches_of sys s)) → HeldIn opened sys h → HeldIn opened sys (Injected s x ∷ h)
unfolding InjectsCame
inject-held opened sys h s x next back k = record {
  few = λ q o. counted (s == q) (injected_count q h) (length (batches_of sys q))
      (λ e. let same = eqb-true s q e in
      subst (λ p. injected_count p h + 1 < length (batches_of sys p)) same (back (subst (λ p. opened p ≡ true) (sym same) o)))
      (k.few q o);
  came = (λ o. subst (λ n. n + 1 < length (batches_of sys s)) (sym next) (back o), k.came);
}

step-held : (opened : ℕ → Bool) (sys : System) (state : Machine) (step : Step) (next : Machine) (effect : Effect) → LeadsTo sys state step next effect
    → HoldsBack opened sys state step → HeldIn opened sys (events state.history) → HeldIn opened sys (events next.history)
unfolding InjectsCame
step-held opened sys state (Inject s) next effect k back held =
    subst (λ (m : Machine). HeldIn opened sys (events m.history)) (sym k.3) (inject-held opened sys (events state.history) s k.0 k.1.next back held)
step-held opened sys state (Deliver e at) next effect k back held =
    subst (λ (m : Machine). HeldIn opened sys (events m.history)) (sym k.3) (record { few = held.few; came = (tt, held.came) })
step-held opened sys state (Notify p at) next effect k back held =
    subst (λ (m : Machine). HeldIn opened sys (events m.history)) (sym k.3) (record { few = held.few; came = (tt, held.came) })
step-held opened sys state Progress next effect k back held = subst (λ (m : Machine). HeldIn opened sys (events m.history)) (sym k.3) held
step-held opened sys state (Checkpoint p) next effect k back held = subst (λ (m : Machine). HeldIn opened sys (events m.history)) (sym k.3) held
step-held opened sys state Persist next effect k back held = subst (λ (m : Machine). HeldIn opened sys (events m.history)) (sym k.2) held
step-held opened sys state (Fail ps) next effect k back held = subst (λ (m : Machine). HeldIn opened sys (events m.history)) (sym k.4) held
step-held opened sys state Recover next effect k back held =
    subst (λ (m : Machine). HeldIn opened sys (events m.history)) (sym k.7)
    (recovery-held opened sys k.1 state.history held)
step-held opened sys state Collect next effect k back held = subst (λ (m : Machine). HeldIn opened sys (events m.history)) (sym k.3) held
step-held opened sys state (Ack o) next effect k back held = subst (λ (m : Machine). HeldIn opened sys (events m.history)) (sym k.2) held

-- ---- runs

-- a step that holds back does so over at least as many batches, and where fewer sources are open
holds-more : (opened : ℕ → Bool) (flow : Dataflow) (now later : List (List (List Rec))) → AreMore flow now later → (state : Machine) (step : Step)
    → HoldsBack opened (with_batches flow now) state step → HoldsBack opened (with_batches flow later) state step
holds-more opened flow now later more state (Inject s) back = λ o. let l = back o in let m = more s in omega arith
holds-more opened flow now later more state step back = tt

from-more : (opened : ℕ → Bool) (flow : Dataflow) (now later : List (List (List Rec))) → GoOnEach opened flow now later
    → (state : Machine) → HeldIn opened (with_batches flow now) (events state.history) → (steps : List Step) (effects : List Effect) (last : Machine)
    → OpenRun opened (with_batches flow now) state steps effects last → OpenRun opened (with_batches flow later) state steps effects last
from-more opened flow now later g state held [] [] last r = r
from-more opened flow now later g state held [] (effect ∷ effects) last r = absurd r
from-more opened flow now later g state held (step ∷ steps) [] last r = absurd r
from-more opened flow now later g state held (step ∷ steps) (effect ∷ effects) last r =
    let more = goes-more opened flow now later g in
    let alike = held-alike opened flow now later g (events state.history) held in (
      r.0,
      holds-more opened flow now later more state step r.1,
      leads-alike flow now later more state alike step r.0 effect r.2,
      from-more opened flow now later g r.0 (step-held opened (with_batches flow now) state step r.0 effect r.2 r.1 held) steps effects last r.3,
    )

first-few : (b : Bool) (now later : List (List Rec)) → GoOn b now later → b ≡ true → 0 < length now
first-few false now later g e = absurd (false≢true e)
first-few true now later g e = g.0

pub open-runs_go_on : OpenRunsGoOnOverMore
open-runs_go_on opened flow now later g steps effects last r =
    from-more opened flow now later g (first_state (with_batches flow now))
    (record { few = λ s o. first-few (opened s) (batches_of (with_batches flow now) s) (batches_of (with_batches flow later) s) (g s) o; came = tt })
    steps effects last r

pub open-runs_are_runs : OpenRunsAreRuns
open-runs_are_runs opened sys state [] [] last r = r
open-runs_are_runs opened sys state [] (effect ∷ effects) last r = absurd r
open-runs_are_runs opened sys state (step ∷ steps) [] last r = absurd r
open-runs_are_runs opened sys state (step ∷ steps) (effect ∷ effects) last r = (r.0, r.2, open-runs_are_runs opened sys r.0 steps effects last r.3)

holds-closed : (opened left : ℕ → Bool) → ((s : ℕ) → left s ≡ true → opened s ≡ true) → (sys : System) (state : Machine) (step : Step)
    → HoldsBack opened sys state step → HoldsBack left sys state step
holds-closed opened left k sys state (Inject s) h = λ l. h (k s l)
holds-closed opened left k sys state step h = tt

pub open-runs_closed : ClosingKeepsOpenRuns
open-runs_closed opened left k sys state [] [] last r = r
open-runs_closed opened left k sys state [] (effect ∷ effects) last r = absurd r
open-runs_closed opened left k sys state (step ∷ steps) [] last r = absurd r
open-runs_closed opened left k sys state (step ∷ steps) (effect ∷ effects) last r =
    (r.0, holds-closed opened left k sys state step r.1, r.2, open-runs_closed opened left k sys r.0 steps effects last r.3)

pub open-runs_denoted : OpenRunsShowWhatIsDenoted
open-runs_denoted opened flow now later g well family denotes steps effects last r =
    let sys = with_batches flow later in
    let run = open-runs_are_runs opened sys (first_state sys) steps effects last (open-runs_go_on opened flow now later g steps effects last r) in
    each_of-map (IsDenoted sys family) did effects (acknowledged-denoted sys family well denotes steps (map did effects) last run)

-- in its last state no event injected the last batch of an open source
run-held : (opened : ℕ → Bool) (sys : System) (state : Machine) → HeldIn opened sys (events state.history) → (steps : List Step) (effects : List Effect) (last : Machine)
    → OpenRun opened sys state steps effects last → HeldIn opened sys (events last.history)
run-held opened sys state held [] [] last r = subst (λ (m : Machine). HeldIn opened sys (events m.history)) (sym r) held
run-held opened sys state held [] (effect ∷ effects) last r = absurd r
run-held opened sys state held (step ∷ steps) [] last r = absurd r
run-held opened sys state held (step ∷ steps) (effect ∷ effects) last r =
    run-held opened sys r.0 (step-held opened sys state step r.0 effect r.2 r.1 held) steps effects last r.3

-- so later batches are alike in it
pub run-alike : (opened : ℕ → Bool) (flow : Dataflow) (now later : List (List (List Rec))) → GoOnEach opened flow now later
    → (steps : List Step) (effects : List Effect) (last : Machine)
    → OpenRun opened (with_batches flow now) (first_state (with_batches flow now)) steps effects last → AreAlikeIn flow now later (events last.history)
run-alike opened flow now later g steps effects last r =
    held-alike opened flow now later g (events last.history)
    (run-held opened (with_batches flow now) (first_state (with_batches flow now))
    (record { few = λ s o. first-few (opened s) (batches_of (with_batches flow now) s) (batches_of (with_batches flow later) s) (g s) o; came = tt })
    steps effects last r)

-- nor did an open source inject all of its batches
pub run-few : (opened : ℕ → Bool) (sys : System) → ((s : ℕ) → opened s ≡ true → 0 < length (batches_of sys s)) → (steps : List Step)
    (effects : List Effect) (last : Machine) → OpenRun opened sys (first_state sys) steps effects last
    → (s : ℕ) → opened s ≡ true → injected_count s (events last.history) < length (batches_of sys s)
run-few opened sys has steps effects last r =
    (run-held opened sys (first_state sys) (record { few = has; came = tt }) steps effects last r).few
