-- From a state a step leads to some next state, and with what leads to at most one, to exactly one.
use Rattle.std.proofs.Common.{◌≡◌, ◌<◌, ℕ, true, List, length, map, ap, ◌∙◌, refl, inl, inr}
use Rattle.std.specs.Cmp.Lexicographic.{slice_cmp}
use Rattle.std.proofs.lemmas.Cmp.{lists_total}
use Rattle.fw_lemmas.proofs.Orderings.{slice_cmp-same}
use Rattle.fw_time.specs.Stamp.{stamp_cmp}
use Rattle.fw_frontier.specs.Frontier.{meet}
use Rattle.fw_frontier.specs.Front.{Front, frontier_of}
use Rattle.fw_frontier.proofs.NamesLaws.{frontier-closed}
use Rattle.fw_flow.specs.declared.choice.Cut.{Cut}
use Rattle.fw_flow.specs.declared.choice.Cut.TheVariants.{Present, At}
use Rattle.fw_flow.specs.declared.step.Step.{Step}
use Rattle.fw_flow.specs.declared.step.Step.TheVariants.{Inject, Deliver, Notify, Progress as ProgressStep, Checkpoint, Persist, Fail, Recover, Collect, Ack}
use Rattle.fw_flow.specs.Dataflow.{System, bounds_of}
use Rattle.fw_flow.specs.WellFormed.{IsWellFormed}
use Rattle.fw_model.specs.Machine.{Machine, front_of, is_failed}
use Rattle.fw_flow.specs.declared.choice.Choice.{Choice}
use Rattle.fw_model.specs.Choice.{kept, cut_of}
use Rattle.fw_model.specs.Steps.{cuts, lows, did, idle, IsSettledCut, CutsTo, LeadsTo, recovered_state, front_of_cut, collected_writes}
use Rattle.fw_model.specs.LawsOfSteps.{SomeNextState, ExactlyOneNextState}
use Rattle.fw_model.proofs.ChoiceLaws.{largest-one}
use Rattle.fw_model.proofs.CmpLaws.{decided-same, stamp_total, fronts_cmp-same}
use Rattle.fw_model.proofs.Decisions.{Decided, decided-test, find_place}
use Rattle.fw_model.proofs.EnabledLaws.{DecidedStep, inject-decided, deliver-decided, notify-decided, progress-decided, checkpoint-decided, persist-decided, fail-decided, ack-decided}
use Rattle.fw_model.proofs.FrontLaws.{has_front}
use Rattle.fw_model.proofs.LargestLaws.{largest-exists}
use Rattle.fw_model.proofs.OneNextLaws.{one_next}
use Rattle.fw_model.proofs.SettleLaws.{meet-frontier, fronts-each}
use Rattle.fw_model.specs.Choosing.{CanChoose, HasItsChoice}

settled_cut : (sys : System) (p : ℕ) (cut : Cut) (before : Front) → (after : Front) × IsSettledCut sys p cut before after
settled_cut sys p Present before = (before, refl)
settled_cut sys p (At f) before =
    let b = bounds_of sys.flow p in
    has_front b (meet (frontier_of b before) (frontier_of b f)) (meet-frontier b (frontier_of b before) (frontier_of b f) (frontier-closed b before) (frontier-closed b f))

settled_cuts : (sys : System) (state : Machine) (choice : Choice) → (settled : List Front) × CutsTo sys state choice settled
settled_cuts sys state choice =
    let w = fronts-each (length sys.flow.nodes) (λ p os. IsSettledCut sys p (cut_of choice p) (front_of state.settled p) os)
    (λ p. settled_cut sys p (cut_of choice p) (front_of state.settled p)) in
    (w.0, record { one_each = w.1; each = w.2 })

-- a recovery is enabled where a node is failed and there is something to choose
pub recover-enabled : (sys : System) (state : Machine) → CanChoose sys state (is_failed state) → (p : ℕ) → p < length sys.flow.nodes → is_failed state p ≡ true
    → (next : Machine) × (choice : Choice) × LeadsTo sys state Recover next (cuts choice)
recover-enabled sys state c p there failed =
    let l = largest-exists sys state (is_failed state) kept c.chains c.choice c.consistent in
    let s = settled_cuts sys state l.0 in
    (recovered_state sys state l.0 s.0, l.0, (p, l.0, s.0, there, failed, l.1, s.1, refl, refl))

recover-decided : (sys : System) (state : Machine) → CanChoose sys state (is_failed state) → DecidedStep sys state Recover
recover-decided sys state c = elim (find_place (length sys.flow.nodes) (λ p. is_failed state p ≡ true) (λ p. decided-test (is_failed state p) true)) [
  | inr none ↦ inr (λ next effect t. none t.0 t.3 t.4)
  | inl w ↦ let r = recover-enabled sys state c w.0 w.1 w.2 in inl (r.0, cuts r.1, r.2)
]

decided-fronts : (fs gs : List Front) → Decided (fs ≡ gs)
decided-fronts fs gs = decided-same (lists_total (lists_total stamp_total)) (slice_cmp-same (slice_cmp stamp_cmp) fronts_cmp-same) fs gs

collect-decided : (sys : System) (state : Machine) → CanChoose sys state (λ p. true) → DecidedStep sys state Collect
collect-decided sys state c =
    let l = largest-exists sys state (λ p. true) kept c.chains c.choice c.consistent in
    let low = map front_of_cut l.0.cuts in
    elim (decided-fronts low state.low) [
      | inl e ↦ inr (λ next effect t.
          t.2 (ap (λ (x : Choice). map front_of_cut x.cuts) (largest-one sys state (λ p. true) kept t.0 l.0 t.1 l.1) ∙ e))
      | inr n ↦ inl (record state { low = low; writes = collected_writes sys low state.history state.writes }, lows l.0, (l.0, l.1, n, refl, refl))
    ]

step-decided : (sys : System) (state : Machine) → IsWellFormed sys.flow → (step : Step) → HasItsChoice sys state step → DecidedStep sys state step
step-decided sys state w (Inject s) c = inject-decided sys state s
step-decided sys state w (Deliver e at) c = deliver-decided sys state e at
step-decided sys state w (Notify p at) c = notify-decided sys state w p at
step-decided sys state w ProgressStep c = progress-decided sys state w
step-decided sys state w (Checkpoint p) c = checkpoint-decided sys state p
step-decided sys state w Persist c = persist-decided sys state
step-decided sys state w (Fail ps) c = fail-decided sys state ps
step-decided sys state w Recover c = recover-decided sys state c
step-decided sys state w Collect c = collect-decided sys state c
step-decided sys state w (Ack o) c = ack-decided sys state o

pub some_next : SomeNextState
some_next sys state w step c = elim (step-decided sys state w step c) [
  | inl t ↦ (t.0, did t.1, t.2)
  | inr n ↦ (state, idle, (n, refl))
]

pub exactly_one_next : ExactlyOneNextState
exactly_one_next sys state w step c =
    let s = some_next sys state w step c in
    (s.0, s.1, record { steps = s.2; only = λ other another t. one_next sys state step s.0 other s.1 another s.2 t })
