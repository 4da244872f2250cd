-- The first step that is enabled, where it may call the store.
use Rattle.std.proofs.Common.{◌≡◌, ℕ, ◌<◌, [], ◌∷◌, ◌++◌, length, map, None, refl, arith}
use Rattle.std.specs.List.{range_with_len}
use Rattle.fw_flow.specs.declared.kind.Policy.TheVariants as policy
use Rattle.fw_flow.specs.declared.step.Step.{Step}
use Rattle.fw_flow.specs.declared.step.Step.TheVariants.{Deliver, Notify, Progress as ProgressStep, Persist}
use Rattle.fw_flow.specs.Dataflow.{System, policy_of, receiver}
use Rattle.fw_model.specs.Auto.{IsIdle, AreIdle, IsFirstEnabled, deliveries, notifications, acknowledgements, injections, auto_steps}
use Rattle.fw_model.specs.Machine.{Machine}
use Rattle.fw_model.specs.Steps.{Effect, LeadsTo}
use Rattle.fw_stands.specs.FirstSteps.{delivery, notification, AreIdleBelow, NoneToDeliver, NoneToNotify}
use Rattle.fw_stands.proofs.FirstStepLaws.{first-behind, first-before, group-idle, group-first}
use Rattle.fw_running.specs.Steps.{AsksAWrite, FirstMayCall, HasEager}
use Rattle.fw_running.proofs.NeedsLaws.{delivery-more, notification-more}

-- the steps of all places below n are idle
all-idle : (sys : System) (state : Machine) (step : ℕ → Step) (n : ℕ) → AreIdleBelow sys state step n → AreIdle sys state (map step (range_with_len 0 n))
all-idle sys state step n k = group-idle sys state step 0 n (λ i l m. k i (omega arith))

-- the step at a place below n is the first of its group
one-first : (sys : System) (state : Machine) (step : ℕ → Step) (n j : ℕ) → j < n → AreIdleBelow sys state step j → (next : Machine) (effect : Effect)
    → LeadsTo sys state (step j) next effect → IsFirstEnabled sys state (map step (range_with_len 0 n)) (step j) next effect
one-first sys state step n j l k next effect t = group-first sys state step 0 n j (omega arith) (omega arith) (λ i m o. k i o) next effect t

-- the first step after the writes is the first of all, where no write can be acknowledged
after-writes : (sys : System) (state : Machine) (step : Step) (next : Machine) (effect : Effect) → IsIdle sys state Persist
    → IsFirstEnabled sys state (deliveries sys.flow ++ (notifications sys.flow ++ (ProgressStep ∷ (acknowledgements sys.flow ++ injections sys.flow)))) step next effect
    → IsFirstEnabled sys state (auto_steps sys.flow) step next effect
after-writes sys state step next effect i f =
    first-behind sys state (Persist ∷ []) (deliveries sys.flow ++ (notifications sys.flow ++ (ProgressStep ∷ (acknowledgements sys.flow ++ injections sys.flow)))) step next effect (i, tt) f

-- the first after the deliveries, where besides nothing can be delivered
after-edges : (sys : System) (state : Machine) (step : Step) (next : Machine) (effect : Effect) → NoneToDeliver sys state
    → IsFirstEnabled sys state (notifications sys.flow ++ (ProgressStep ∷ (acknowledgements sys.flow ++ injections sys.flow))) step next effect
    → IsFirstEnabled sys state (auto_steps sys.flow) step next effect
after-edges sys state step next effect n f =
    after-writes sys state step next effect n.writes
    (first-behind sys state (deliveries sys.flow) (notifications sys.flow ++ (ProgressStep ∷ (acknowledgements sys.flow ++ injections sys.flow))) step next effect
    (all-idle sys state delivery (length sys.flow.edges) n.edges) f)

-- a delivery that comes first may call the store where its receiver logs each event
pub delivery-calls : (sys : System) (state : Machine) → IsIdle sys state Persist → (e : ℕ) → e < length sys.flow.edges → AreIdleBelow sys state delivery e
    → (next : Machine) (effect : Effect) → LeadsTo sys state (Deliver e None) next effect → policy_of sys.flow (receiver sys.flow e) ≡ policy.Full
    → FirstMayCall sys state
delivery-calls sys state i e l k next effect t full = record {
  step = Deliver e None;
  next = next;
  effect = effect;
  first = after-writes sys state (delivery e) next effect i
      (first-before sys state (deliveries sys.flow) (notifications sys.flow ++ (ProgressStep ∷ (acknowledgements sys.flow ++ injections sys.flow))) (delivery e) next effect
      (one-first sys state delivery (length sys.flow.edges) e l k next effect t));
  may_call = full;
  asks = delivery-more sys state e None full next effect t;
}

-- so may a notification where its node does
pub notification-calls : (sys : System) (state : Machine) → NoneToDeliver sys state → (p : ℕ) → p < length sys.flow.nodes → AreIdleBelow sys state notification p
    → (next : Machine) (effect : Effect) → LeadsTo sys state (Notify p None) next effect → policy_of sys.flow p ≡ policy.Full → FirstMayCall sys state
notification-calls sys state n p l k next effect t full = record {
  step = Notify p None;
  next = next;
  effect = effect;
  first = after-edges sys state (notification p) next effect n
      (first-before sys state (notifications sys.flow) (ProgressStep ∷ (acknowledgements sys.flow ++ injections sys.flow)) (notification p) next effect
      (one-first sys state notification (length sys.flow.nodes) p l k next effect t));
  may_call = full;
  asks = notification-more sys state p None full next effect t;
}

-- and progress where some node is eager, and it asks for a write
pub progress-calls : (sys : System) (state : Machine) → NoneToNotify sys state → AsksAWrite sys state ProgressStep → HasEager sys.flow → FirstMayCall sys state
progress-calls sys state n (next, effect, t, more) eager = record {
  step = ProgressStep;
  next = next;
  effect = effect;
  first = after-edges sys state ProgressStep next effect n.earlier
      (first-behind sys state (notifications sys.flow) (ProgressStep ∷ (acknowledgements sys.flow ++ injections sys.flow)) ProgressStep next effect
      (all-idle sys state notification (length sys.flow.nodes) n.nodes)
      (record { earlier = []; later = acknowledgements sys.flow ++ injections sys.flow; among = refl; none_earlier = tt; leads = t }));
  may_call = eager;
  asks = more;
}
