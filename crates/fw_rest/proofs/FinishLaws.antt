-- A recovery and then `auto` come to where all is acknowledged, and shown.
use Rattle.std.proofs.Common.{◌≡◌, ℕ, zero, suc, ◌+◌, ◌-◌, ◌*◌, ◌<◌, ◌≤◌, Bool, true, false, ◌==◌, cond, List, [], ◌∷◌, ◌++◌, length, map, slice_index_or, refl, sym, ap, subst, ◌∙◌, inl, inr, arith}
use Rattle.std.specs.List.{AllByRecursion, range_with_len}
use Rattle.std.proofs.Math.Nat.{mul-le-mul_right}
use Rattle.std.proofs.lemmas.Bool.{cases_Bool, cases_lt, eqb-true}
use Rattle.fw_lemmas.proofs.Each.{each-weaker}
use Rattle.fw_lemmas.proofs.Lists.{none-mapped}
use Rattle.fw_time.specs.Stamp.{Stamp}
use Rattle.fw_flow.specs.declared.step.Step.{Step}
use Rattle.fw_flow.specs.declared.step.Step.TheVariants.{Inject, Deliver, Notify, Progress as ProgressStep, Persist, Recover, Ack}
use Rattle.fw_flow.specs.Dataflow.{System, kind_of, receiver, node_ids, is_output_kind}
use Rattle.fw_flow.specs.WellFormed.{IsWellFormedSystem}
use Rattle.fw_flow.specs.WholeBags.{Timed}
use Rattle.fw_model.specs.Acknowledgements.{IsDenoted, stamps_acknowledged, first_stamps, Shows}
use Rattle.fw_model.specs.Auto.{IsAutoRun}
use Rattle.fw_model.specs.Denotation.{Family, IsDenotation, bag_at}
use Rattle.fw_model.specs.Machine.{Machine, first_state, is_failed, ack_count_of}
use Rattle.fw_model.specs.Reached.{IsReached}
use Rattle.fw_model.specs.Steps.{Effect, silent, acked, cuts, lows, Outcome, did, idle, LeadsTo, StepsTo, Run}
use Rattle.fw_model.proofs.AutoLaws.{auto-one, auto-runs}
use Rattle.fw_model.proofs.ChoosingLaws.{failed-recovered, reached-one_next}
use Rattle.fw_model.proofs.GoingOn.{runs-go_on}
use Rattle.fw_model.proofs.ListedLaws.{IsIn, in-map}
use Rattle.fw_model.proofs.RecoveryLaws.{acknowledged-denoted, edge-there}
use Rattle.fw_model.proofs.RunLaws.{acknowledgements-in_order}
use Rattle.fw_rest.specs.Rest.{is_of_auto, AreAllLive, HasNothingToDo, IsAcknowledged, HasAcknowledgedAll, HasShownAll}
use Rattle.fw_rest.specs.StepsToRest.{most_events, stamps_due, count_in_flight, steps_to_rest, steps_in_all, steps_enough}
use Rattle.fw_rest.specs.Coming.{AllComesOfEachState}
use Rattle.fw_rest.specs.LawsOfRest.{AcknowledgedIsShown, EachStateGoesOn, RecoveryComesToRest, WhatIsGivenIsAcknowledged}
use Rattle.fw_rest.proofs.AckLaws.{rest-acknowledged}
use Rattle.fw_rest.proofs.InFlightLaws.{kept-in_flight, few_in_flight, one-outcome_each}
use Rattle.fw_rest.proofs.LoweringLaws.{auto-first, auto-comes_to_rest, steps_of_auto-end}
use Rattle.fw_rest.proofs.MostEventsLaws.{sum-at_most}

-- ---- all nodes are live

pub recovered-live : (sys : System) → IsWellFormedSystem sys → (state : Machine) → IsReached sys state → (next : Machine) (outcome : Outcome)
    → StepsTo sys state Recover next outcome → AreAllLive sys next
recovered-live sys w state r next (did effect) t p l = ap (λ (m : Machine). is_failed m p) t.7 ∙ none-mapped (node_ids sys.flow) p
recovered-live sys w state r next idle t p l = ap (λ (m : Machine). is_failed m p) t.1 ∙ elim (cases_Bool (is_failed state p)) [
  | inr e ↦ e
  | inl e ↦ let f = failed-recovered sys w r.0 r.1 state r.2 p l e in absurd (t.0 f.0 (cuts f.1) f.2)
]

-- a step of `auto` keeps which nodes are failed
took-failed : (sys : System) (state : Machine) (step : Step) → is_of_auto step ≡ true → (next : Machine) (effect : Effect) → LeadsTo sys state step next effect
    → next.failed ≡ state.failed
took-failed sys state (Inject s) k next effect t = ap (λ (m : Machine). m.failed) t.3
took-failed sys state (Deliver e at) k next effect t = ap (λ (m : Machine). m.failed) t.3
took-failed sys state (Notify p at) k next effect t = ap (λ (m : Machine). m.failed) t.3
took-failed sys state ProgressStep k next effect t = ap (λ (m : Machine). m.failed) t.3
took-failed sys state Persist k next effect t = ap (λ (m : Machine). m.failed) t.2
took-failed sys state (Ack o) k next effect t = ap (λ (m : Machine). m.failed) t.2
took-failed sys state step k next effect t = absurd (cc)

auto-failed : (sys : System) (most : ℕ) (steps : List Step) (state last : Machine) → IsAutoRun sys state most steps last → last.failed ≡ state.failed
auto-failed sys zero [] state last run = ap (λ (m : Machine). m.failed) run
auto-failed sys zero (x ∷ steps) state last run = absurd run
auto-failed sys (suc most) [] state last run = ap (λ (m : Machine). m.failed) run.1
auto-failed sys (suc most) (x ∷ steps) state last run =
    let first = run.2 in
    let auto = auto-first sys state x run.0 run.1 first in
    auto-failed sys most steps run.0 last run.3 ∙ took-failed sys state x auto run.0 run.1 first.leads

pub auto-live : (sys : System) (most : ℕ) (steps : List Step) (state last : Machine) → IsAutoRun sys state most steps last → AreAllLive sys state → AreAllLive sys last
auto-live sys most steps state last run live p l = ap (λ (fs : List Bool). slice_index_or fs p false) (auto-failed sys most steps state last run) ∙ live p l

-- ---- how many steps it takes

recovered-in_flight : (sys : System) (state next : Machine) (outcome : Outcome) → StepsTo sys state Recover next outcome
    → count_in_flight next.writes ≤ count_in_flight state.writes
recovered-in_flight sys state next (did effect) t =
    let writes = ap (λ (m : Machine). count_in_flight m.writes) t.7 in
    let fewer = kept-in_flight _ state.writes in
    at_most writes fewer
  where
    at_most : {x y z : ℕ} → x ≡ y → y ≤ z → x ≤ z
    at_most e l = omega arith
recovered-in_flight sys state next idle t = let writes = ap (λ (m : Machine). count_in_flight m.writes) t.1 in omega arith

pub within-all : (sys : System) (family : Family) (state : Machine) → steps_to_rest sys family state ≤ steps_in_all sys family + count_in_flight state.writes
unfolding steps_to_rest steps_in_all
within-all sys family state =
    let fewer : most_events sys family - length state.history ≤ most_events sys family = omega arith in
    let a = mul-le-mul_right (length sys.flow.nodes + 3) fewer in
    let b = sum-at_most (λ o. stamps_due sys family o - ack_count_of state o) (stamps_due sys family) (λ o. omega arith) (node_ids sys.flow) in
    at_most (length sys.flow.nodes + 1) (count_in_flight state.writes) a b
  where
    at_most : {x y s t : ℕ} (n c : ℕ) → x ≤ y → s ≤ t → x + n + c + s ≤ y + n + t + c
    at_most n c k l = omega arith

-- ---- what is shown

in-range : (n a x : ℕ) → a ≤ x → x < a + n → IsIn x (range_with_len a n)
unfolding IsIn
in-range zero a x l k = absurd (omega arith)
in-range (suc n) a x l k = elim (cases_lt a x) [ inl i ↦ inr (in-range n (a + 1) x (omega arith) (omega arith)) | inr i ↦ inl (omega arith) ]

-- where a stamp was acknowledged at an output, an outcome shows what is denoted there
shown-at : (sys : System) (family : Family) (o e : ℕ) → e < length sys.flow.edges → receiver sys.flow e ≡ o → (t : Stamp) (outcomes : List Outcome)
    → AllByRecursion (IsDenoted sys family) outcomes → IsIn t (stamps_acknowledged o outcomes) → Shows o t (bag_at family e t) outcomes
unfolding IsIn
shown-at sys family o e l is t [] a i = absurd i
shown-at sys family o e l is t (idle ∷ outcomes) a i = inr (shown-at sys family o e l is t outcomes a.1 i)
shown-at sys family o e l is t (did silent ∷ outcomes) a i = inr (shown-at sys family o e l is t outcomes a.1 i)
shown-at sys family o e l is t (did (cuts choice) ∷ outcomes) a i = inr (shown-at sys family o e l is t outcomes a.1 i)
shown-at sys family o e l is t (did (lows choice) ∷ outcomes) a i = inr (shown-at sys family o e l is t outcomes a.1 i)
shown-at sys family o e l is t (did (acked q u recs) ∷ outcomes) a i = by (q == o) refl (λ j. shown-at sys family o e l is t outcomes a.1 j) i
  where
    by : (b : Bool) → (q == o) ≡ b → (IsIn t (stamps_acknowledged o outcomes) → Shows o t (bag_at family e t) outcomes)
        → IsIn t (cond b (u ∷ []) [] ++ stamps_acknowledged o outcomes)
        → Shows o t (bag_at family e t) (did (acked q u recs) ∷ outcomes)
    by false c later j = inr (later j)
    by true c later (inr j) = inr (later j)
    by true c later (inl j) =
        let node = eqb-true q o c in
        let all : recs ≡ bag_at family e u = a.0 e l (is ∙ sym node) in
        inl (ap (λ p. did (acked p u recs)) node ∙ ap (λ rs. did (acked o u rs)) all ∙ ap (λ s. did (acked o s (bag_at family e s))) (sym j))

pub acknowledged-shown : AcknowledgedIsShown
acknowledged-shown sys family w den steps outcomes last run o e there is x l =
    let count = ack_count_of last o in
    let among : IsIn (x ∷ []) (first_stamps count) = in-map (λ n. n ∷ []) x (range_with_len 0 count) (in-range count 0 x (omega arith) (omega arith)) in
    shown-at sys family o e (edge-there sys.flow e o is there) is (x ∷ []) outcomes (acknowledged-denoted sys family w den steps outcomes last run)
    (subst (IsIn (x ∷ [])) (sym (acknowledgements-in_order sys steps outcomes last run o)) among)

-- ---- the laws

pub each-goes_on : EachStateGoesOn
each-goes_on sys w state r most =
    let first = reached-one_next sys w r.0 r.1 state r.2 Recover in
    let recovers = first.2.steps in
    let run = runs-go_on sys (first_state sys) state first.0 r.0 (Recover ∷ []) r.1 (first.1 ∷ []) r.2 (first.0, recovers, refl) in
    let auto = auto-one sys w (r.0 ++ Recover ∷ []) (r.1 ++ first.1 ∷ []) first.0 run most in
    let effects = auto-runs sys first.0 auto.1 most auto.0 auto.2 in (
      first.1 ∷ map did effects.0,
      auto.1,
      record {
        recovered = first.0;
        recovery = first.1;
        recovers = recovers;
        steps = auto.0;
        taken = auto.2;
        runs = (first.0, recovers, effects.1);
      },
    )

-- what a recovery leads to is reached
reached-again : (sys : System) (state : Machine) → IsReached sys state → (next : Machine) (outcome : Outcome) → StepsTo sys state Recover next outcome → IsReached sys next
reached-again sys state r next outcome t =
    (r.0 ++ Recover ∷ [], r.1 ++ outcome ∷ [], runs-go_on sys (first_state sys) state next r.0 (Recover ∷ []) r.1 (outcome ∷ []) r.2 (next, t, refl))

pub recovery-comes_to_rest : RecoveryComesToRest
recovery-comes_to_rest sys family w den state r most l also last g =
    let a = within-all sys family g.recovered in
    let b = recovered-in_flight sys state g.recovered g.recovery g.recovers in
    let again = reached-again sys state r g.recovered g.recovery g.recovers in (
      auto-live sys most g.steps g.recovered last g.taken (recovered-live sys w state r g.recovered g.recovery g.recovers),
      auto-comes_to_rest sys family w den g.recovered again most (omega arith) g.steps last g.taken,
    )

-- a run that comes to rest has acknowledged all, and shown it
rest-shown : (sys : System) (family : Family) → IsWellFormedSystem sys → IsDenotation sys family
    → (steps : List Step) (outcomes : List Outcome) (last : Machine) → Run sys (first_state sys) steps outcomes last → AreAllLive sys last → HasNothingToDo sys last
    → (o : ℕ) → o < length sys.flow.nodes → is_output_kind (kind_of sys.flow o) ≡ true
    → HasAcknowledgedAll sys family last o × HasShownAll sys family outcomes o
rest-shown sys family w den steps outcomes last run live nothing o there output =
    let all = rest-acknowledged sys family w den last (steps, outcomes, run) live nothing o there output in
    let shown = acknowledged-shown sys family w den steps outcomes last run o in (
      all,
      record {
        recs = λ e is. each-weaker (λ (r : Timed). IsAcknowledged (ack_count_of last o) r.at) (λ (r : Timed). Shows o r.at (bag_at family e r.at) outcomes) (family e)
            (λ r k. subst (λ t. Shows o t (bag_at family e t) outcomes) (sym k.2) (shown e there is k.0 k.1)) (all.recs e is);
        batches = λ kind e is x k. shown e there is x (all.batches kind x k);
        stamps = acknowledgements-in_order sys steps outcomes last run o ∙ ap first_stamps all.count;
      },
    )

pub given-acknowledged : WhatIsGivenIsAcknowledged
given-acknowledged sys family w den before outcomes state run most l also last g o there output =
    let rest = recovery-comes_to_rest sys family w den state (before, outcomes, run) most l also last g in
    let whole = runs-go_on sys (first_state sys) state last before (Recover ∷ g.steps) outcomes also run g.runs in
    rest-shown sys family w den (before ++ Recover ∷ g.steps) (outcomes ++ also) last whole rest.0 rest.1 o there output

-- Whatever at most so many steps led to a state, failures among them: where no node is failed there, and `auto` may take enough steps behind
-- so many, each output has then acknowledged all that is denoted at it, and has shown it.
pub enough-acknowledged : (sys : System) (family : Family) → IsWellFormedSystem sys → IsDenotation sys family
    → (before : List Step) (outcomes : List Outcome) (state : Machine) → Run sys (first_state sys) before outcomes state → AreAllLive sys state
    → (count most : ℕ) → length before ≤ count → steps_enough sys family count ≤ most
    → (steps : List Step) (also : List Outcome) (last : Machine) → IsAutoRun sys state most steps last → Run sys state steps also last
    → (o : ℕ) → o < length sys.flow.nodes → is_output_kind (kind_of sys.flow o) ≡ true
    → HasAcknowledgedAll sys family last o × HasShownAll sys family (outcomes ++ also) o
unfolding steps_enough
enough-acknowledged sys family w den before outcomes state run live count most few l steps also last taken more o there output =
    let fewer = mul-le-mul_right (length sys.flow.nodes) few in
    let enough = at_most (steps_in_all sys family) (within-all sys family state) (few_in_flight sys w before outcomes state run) fewer l in
    let whole = runs-go_on sys (first_state sys) state last before steps outcomes also run more in
    let nothing = auto-comes_to_rest sys family w den state (before, outcomes, run) most enough steps last taken in
    rest-shown sys family w den (before ++ steps) (outcomes ++ also) last whole (auto-live sys most steps state last taken live) nothing o there output
  where
    at_most : {rest writes each both most : ℕ} (all : ℕ) → rest ≤ all + writes → writes ≤ each → each ≤ both → all + both ≤ most → rest ≤ most
    at_most all a b c d = omega arith

pub all-comes : AllComesOfEachState
all-comes sys family w den steps outcomes state run =
    let reached : IsReached sys state = (steps, outcomes, run) in
    let finished = given-acknowledged sys family w den steps outcomes state run in
    record {
      goes_on = λ most. each-goes_on sys w state reached most;
      ends = λ more of_auto effects last taken. steps_of_auto-end sys family w den state reached more of_auto effects last taken;
      in_flight = subst (λ n. count_in_flight state.writes ≤ n * length sys.flow.nodes) (sym (one-outcome_each sys steps outcomes (first_state sys) state run))
          (few_in_flight sys w steps outcomes state run);
      rests = λ most l also last g. recovery-comes_to_rest sys family w den state reached most l also last g;
      acknowledged = λ most l also last g o there output. (finished most l also last g o there output).0;
      shown = λ most l also last g o there output. (finished most l also last g o there output).1;
    }
