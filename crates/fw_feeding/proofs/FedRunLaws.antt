-- What is done while batches come is a run over those that came in the end.
use Rattle.std.proofs.Common.{◌≡◌, ℕ, ◌+◌, ◌<◌, ◌≤◌, Bool, true, false, List, [], ◌∷◌, ◌++◌, length, get_or, refl, sym, ap, subst, ◌∙◌, inl, inr, arith}
use Rattle.std.proofs.lemmas.Bool.{cases_eq, false≢true}
use Rattle.std.proofs.lemmas.List.{append-nil, append_assoc, length-append, get_or_append_left}
use Rattle.fw_bag.specs.declared.rec.Rec.{Rec}
use Rattle.fw_flow.specs.declared.step.Step.{Step}
use Rattle.fw_flow.specs.Dataflow.{System, Dataflow, batches_of}
use Rattle.fw_model.specs.Machine.{Machine, first_state}
use Rattle.fw_model.specs.Steps.{Effect, LeadsTo}
use Rattle.fw_feeding.specs.Feeding.{with_batches, GoOn, GoOnEach, HaveLast, TakesLastPlace, Feeds, Closes}
use Rattle.fw_feeding.specs.FedRuns.{Action, feed, close, close_with, do_step, steps_among, FedMachine, FedRun}
use Rattle.fw_feeding.specs.LawsOfFeeding.{FedRunsAreRuns}
use Rattle.fw_feeding.specs.OpenRuns.{HoldsBack, OpenRun}
use Rattle.fw_feeding.proofs.OpenRunLaws.{open-runs_go_on, open-runs_are_runs, open-runs_closed}

-- ---- what goes on behind what

-- batches that are the same go on
same-on : (b : Bool) (bs : List (List Rec)) → (b ≡ true → 0 < length bs) → GoOn b bs bs
same-on false bs k = refl
same-on true bs k = (k refl, omega arith, λ x l. refl)

-- those of a source that is fed do, if it is open
place-on : (recs : List Rec) (behind now next : List (List Rec)) → TakesLastPlace recs behind now next → GoOn true now next
place-on recs behind now next t =
    let n : length now ≡ length t.came + 1 = ap length t.before ∙ length-append t.came (t.last ∷ []) in
    let m : length next ≡ length t.came + length (recs ∷ behind) = ap length t.after ∙ length-append t.came (recs ∷ behind) in (
      omega arith,
      omega arith,
      λ x l.
          let few : x < length t.came = omega arith in
          ap (λ bs. get_or bs x []) t.after ∙ get_or_append_left t.came (recs ∷ behind) [] x few
          ∙ sym (get_or_append_left t.came (t.last ∷ []) [] x few) ∙ sym (ap (λ bs. get_or bs x []) t.before),
    )

-- and so do those of each node
pub feeds-on : (flow : Dataflow) (opened : ℕ → Bool) (now next : List (List (List Rec))) (s : ℕ) (recs : List Rec) (behind : List (List Rec))
    → HaveLast flow opened now → opened s ≡ true → Feeds flow s recs behind now next → GoOnEach opened flow now next
feeds-on flow opened now next s recs behind has is f = λ q. elim (cases_eq q s) [
  | inl e ↦ subst (λ p. GoOn (opened p) (batches_of (with_batches flow now) p) (batches_of (with_batches flow next) p)) (sym e)
      (subst (λ b. GoOn b (batches_of (with_batches flow now) s) (batches_of (with_batches flow next) s)) (sym is)
      (place-on recs behind (batches_of (with_batches flow now) s) (batches_of (with_batches flow next) s) f.here))
  | inr n ↦ subst (λ bs. GoOn (opened q) (batches_of (with_batches flow now) q) bs) (sym (f.others q n))
      (same-on (opened q) (batches_of (with_batches flow now) q) (has q))
]

has-after : (b : Bool) (now later : List (List Rec)) → GoOn b now later → b ≡ true → 0 < length later
has-after false now later g e = absurd (false≢true e)
has-after true now later g e = let l : 0 < length now = g.0 in let m : length now ≤ length later = g.1 in omega arith

was-open : (s : ℕ) (opened left : ℕ → Bool) → Closes s opened left → (q : ℕ) → left q ≡ true → opened q ≡ true
was-open s opened left c q e = elim (cases_eq q s) [
  | inl same ↦ absurd (false≢true (sym c.here ∙ ap left (sym same) ∙ e))
  | inr n ↦ sym (c.others q n) ∙ e
]

-- ---- the steps that were done are an open run over the batches of now

-- one step more at the end of an open run
run-on : (opened : ℕ → Bool) (sys : System) (state : Machine) (steps : List Step) (effects : List Effect) (between : Machine)
    → OpenRun opened sys state steps effects between → (step : Step) (effect : Effect) (last : Machine)
    → HoldsBack opened sys between step → LeadsTo sys between step last effect
    → OpenRun opened sys state (steps ++ step ∷ []) (effects ++ effect ∷ []) last
run-on opened sys state [] [] between r step effect last back leads =
    subst (λ m. OpenRun opened sys m (step ∷ []) (effect ∷ []) last) r (last, back, leads, refl)
run-on opened sys state [] (e ∷ effects) between r step effect last back leads = absurd r
run-on opened sys state (s ∷ steps) [] between r step effect last back leads = absurd r
run-on opened sys state (s ∷ steps) (e ∷ effects) between r step effect last back leads =
    (r.0, r.1, r.2, run-on opened sys r.0 steps effects between r.3 step effect last back leads)

-- the steps that were done with these effects are an open run to the state of a fed machine, over its batches
IsAfter : Dataflow → List Step → List Effect → FedMachine → Type 0
IsAfter flow steps effects now = OpenRun now.opened (with_batches flow now.batches) (first_state (with_batches flow now.batches)) steps effects now.state

fed-after : (flow : Dataflow) (now : FedMachine) → HaveLast flow now.opened now.batches → (before : List Step) (shown : List Effect)
    → IsAfter flow before shown now → (actions : List Action) (effects : List Effect) (last : FedMachine) → FedRun flow now actions effects last
    → IsAfter flow (before ++ steps_among actions) (shown ++ effects) last
unfolding IsAfter
fed-after flow now has before shown r [] [] last k =
    subst (λ m. IsAfter flow (before ++ []) (shown ++ []) m) (sym k)
    (subst (λ ss. IsAfter flow ss (shown ++ []) now) (sym (append-nil before)) (subst (λ es. IsAfter flow before es now) (sym (append-nil shown)) r))
fed-after flow now has before shown r [] (effect ∷ effects) last k = absurd k
fed-after flow now has before shown r (feed s recs ∷ actions) effects last k =
    let on = feeds-on flow now.opened now.batches k.1 s recs ([] ∷ []) has k.0 k.2 in
    fed-after flow (record now { batches = k.1 })
    (λ q o. has-after (now.opened q) (batches_of (with_batches flow now.batches) q) (batches_of (with_batches flow k.1) q) (on q) o)
    before shown (open-runs_go_on now.opened flow now.batches k.1 on before shown now.state r) actions effects last k.3
fed-after flow now has before shown r (close s ∷ actions) effects last k =
    let was = was-open s now.opened k.1 k.2 in
    fed-after flow (record now { opened = k.1 }) (λ q o. has q (was q o)) before shown
    (open-runs_closed now.opened k.1 was (with_batches flow now.batches) (first_state (with_batches flow now.batches)) before shown now.state r)
    actions effects last k.3
fed-after flow now has before shown r (close_with s recs ∷ actions) effects last k =
    let on = feeds-on flow now.opened now.batches k.1 s recs [] has k.0 k.2 in
    let was = was-open s now.opened k.3 k.4 in
    fed-after flow (record now { opened = k.3; batches = k.1 })
    (λ q o. has-after (now.opened q) (batches_of (with_batches flow now.batches) q) (batches_of (with_batches flow k.1) q) (on q) (was q o))
    before shown
    (open-runs_closed now.opened k.3 was (with_batches flow k.1) (first_state (with_batches flow k.1)) before shown now.state
    (open-runs_go_on now.opened flow now.batches k.1 on before shown now.state r)) actions effects last k.5
fed-after flow now has before shown r (do_step step ∷ actions) [] last k = absurd k
fed-after flow now has before shown r (do_step step ∷ actions) (effect ∷ effects) last k =
    let sys = with_batches flow now.batches in
    let more = run-on now.opened sys (first_state sys) before shown now.state r step effect k.0 k.1 k.2 in
    let all = fed-after flow (record now { state = k.0 }) has (before ++ step ∷ []) (shown ++ effect ∷ []) more actions effects last k.3 in
    subst (λ ss. IsAfter flow ss (shown ++ effect ∷ effects) last) (append_assoc before (step ∷ []) (steps_among actions))
    (subst (λ es. IsAfter flow ((before ++ step ∷ []) ++ steps_among actions) es last) (append_assoc shown (effect ∷ []) effects) all)

-- so what was done from a first state on is an open run over the batches of now
pub fed-run : (flow : Dataflow) (now : FedMachine) → HaveLast flow now.opened now.batches → now.state ≡ first_state (with_batches flow now.batches)
    → (actions : List Action) (effects : List Effect) (last : FedMachine) → FedRun flow now actions effects last
    → OpenRun last.opened (with_batches flow last.batches) (first_state (with_batches flow last.batches)) (steps_among actions) effects last.state
unfolding IsAfter
fed-run flow now has first actions effects last k = fed-after flow now has [] [] first actions effects last k

pub fed-runs_are_runs : FedRunsAreRuns
unfolding IsAfter
fed-runs_are_runs flow opened batches has actions effects last k end on =
    let from : FedMachine = record { opened = opened; batches = batches; state = first_state (with_batches flow batches) } in
    let run = fed-after flow from has [] [] refl actions effects last k in
    open-runs_are_runs last.opened (with_batches flow end) (first_state (with_batches flow end)) (steps_among actions) effects last.state
    (open-runs_go_on last.opened flow last.batches end on (steps_among actions) effects last.state run)
