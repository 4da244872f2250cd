-- Which of the steps that are taken by themselves may call the store.
use Rattle.std.proofs.Common.{◌≡◌, ℕ, zero, suc, ◌+◌, ◌<◌, ◌≤◌, List, [], ◌∷◌, ◌++◌, length, map, refl, sym, ap, subst, inl, inr, arith}
use Rattle.std.proofs.lemmas.Bool.{cases_eq}
use Rattle.std.proofs.lemmas.List.Elements.{Contains-append_left, Contains-append_right}
use Rattle.std.specs.List.{Contains, range_with_len}
use Rattle.fw_flow.specs.declared.kind.Policy.TheVariants as policy
use Rattle.fw_flow.specs.declared.step.Step.{Step}
use Rattle.fw_flow.specs.declared.step.Step.TheVariants.{Progress as ProgressStep, Persist}
use Rattle.fw_flow.specs.Dataflow.{Dataflow, policy_of, receiver}
use Rattle.fw_model.specs.Auto.{deliveries, notifications, acknowledgements, injections, auto_steps}
use Rattle.fw_stands.specs.FirstSteps.{delivery, notification}
use Rattle.fw_running.specs.declared.running.Running.{Running}
use Rattle.fw_running.specs.Ready.{CanDeliver}
use Rattle.fw_running.specs.ReadyState.{ReadyState}
use Rattle.fw_running.specs.Steps.{HasEager, MayCallByItself}
use Rattle.fw_engine.specs.Searching.{with_ready}

-- ---- which steps are taken by themselves

-- the step of each place is among those of all places
in-group : (step : ℕ → Step) (a n j : ℕ) → a ≤ j → j < a + n → Contains (map step (range_with_len a n)) (step j)
in-group step a zero j l m = absurd (omega arith)
in-group step a (suc n) j l m = elim (cases_eq j a) [
  | inl e ↦ Contains-append_left (step a ∷ []) (map step (range_with_len (a + 1) n)) (step j) (0, omega arith, ap step (sym e))
  | inr e ↦
      Contains-append_right (step a ∷ []) (map step (range_with_len (a + 1) n)) (step j) (in-group step (a + 1) n j (omega (arith, e)) (omega arith))
]

-- the steps after the deliveries, and after the notifications
abbrev after-deliveries : Dataflow → List Step
after-deliveries flow = notifications flow ++ (ProgressStep ∷ (acknowledgements flow ++ injections flow))

abbrev after-notifications : Dataflow → List Step
after-notifications flow = ProgressStep ∷ (acknowledgements flow ++ injections flow)

-- what is after the deliveries is taken by itself
behind-deliveries : (flow : Dataflow) (step : Step) → Contains (after-deliveries flow) step → Contains (auto_steps flow) step
behind-deliveries flow step c =
    Contains-append_right (Persist ∷ []) (deliveries flow ++ after-deliveries flow) step (Contains-append_right (deliveries flow) (after-deliveries flow) step c)

-- ---- which may call the store

-- a delivery may where its receiver logs each event
delivery-may_call : (flow : Dataflow) (e : ℕ) → e < length flow.edges → policy_of flow (receiver flow e) ≡ policy.Full → MayCallByItself flow
delivery-may_call flow e l full = (
  delivery e,
  Contains-append_right (Persist ∷ []) (deliveries flow ++ after-deliveries flow) (delivery e)
      (Contains-append_left (deliveries flow) (after-deliveries flow) (delivery e) (in-group delivery 0 (length flow.edges) e (omega arith) (omega (arith, l)))),
  full,
)

-- a notification where its node does
notification-may_call : (flow : Dataflow) (p : ℕ) → p < length flow.nodes → policy_of flow p ≡ policy.Full → MayCallByItself flow
notification-may_call flow p l full = (
  notification p,
  behind-deliveries flow (notification p)
      (Contains-append_left (notifications flow) (after-notifications flow) (notification p)
      (in-group notification 0 (length flow.nodes) p (omega arith) (omega (arith, l)))),
  full,
)

-- and progress where some node is eager
pub progress-may_call : (flow : Dataflow) → HasEager flow → MayCallByItself flow
progress-may_call flow eager = (
  ProgressStep,
  behind-deliveries flow ProgressStep (Contains-append_right (notifications flow) (after-notifications flow) ProgressStep (0, omega arith, refl)),
  eager,
)

-- ---- of a search that came first

-- an edge on which something can be delivered
pub delivery-may_call_later : (old mid : Running) (ready : ReadyState) (e : ℕ) → mid ≡ with_ready ready old → CanDeliver old e
    → policy_of mid.flow (receiver mid.flow e) ≡ policy.Full → MayCallByItself mid.flow
delivery-may_call_later old mid ready e is can =
    delivery-may_call mid.flow e (subst (λ (r : Running). e < length r.flow.edges) (sym is) can.there)

-- a node that is notified
pub notification-may_call_later : (flow mid : Dataflow) (p : ℕ) → mid ≡ flow → p < length flow.nodes → policy_of mid p ≡ policy.Full → MayCallByItself mid
notification-may_call_later flow mid p is l = notification-may_call mid p (subst (λ (f : Dataflow). p < length f.nodes) (sym is) l)
