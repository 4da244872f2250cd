-- Which step is the first that is enabled: the one that is taken by itself.
use Rattle.std.specs.Prelude.{◌≡◌, ℕ, ◌<◌, false, length, Option, None}
use Rattle.fw_time.specs.Stamp.{Stamp, stamp_cmp}
use Rattle.std.specs.Ordering.{is_gt}
use Rattle.fw_flow.specs.declared.step.Step.{Step}
use Rattle.fw_flow.specs.declared.step.Step.TheVariants.{Inject, Deliver, Notify, Progress as ProgressStep, Persist, Ack}
use Rattle.fw_flow.specs.Dataflow.{System}
use Rattle.fw_model.specs.Auto.{IsIdle}
use Rattle.fw_model.specs.History.{IsNotifiable}
use Rattle.fw_model.specs.Machine.{Machine, events}

-- ---- which is the first

-- the delivery of the next message on an edge
abbrev pub delivery : ℕ → Step
delivery e = Deliver e None

-- the next notification of a node
abbrev pub notification : ℕ → Step
notification p = Notify p None

-- the steps at the places below k are idle
abbrev pub AreIdleBelow : System → Machine → (ℕ → Step) → ℕ → Type 0
AreIdleBelow sys state step k = (i : ℕ) → i < k → IsIdle sys state (step i)

-- No write can be acknowledged, and no message delivered.
pub record NoneToDeliver (sys : System) (state : Machine) : Type 0 where
  pub writes : IsIdle sys state Persist
  pub edges : AreIdleBelow sys state delivery (length sys.flow.edges)

-- Besides no node can be notified.
pub record NoneToNotify (sys : System) (state : Machine) : Type 0 where
  pub earlier : NoneToDeliver sys state
  pub nodes : AreIdleBelow sys state notification (length sys.flow.nodes)

-- Besides no more can be settled.
pub record NoneToSettle (sys : System) (state : Machine) : Type 0 where
  pub earlier : NoneToNotify sys state
  pub progress : IsIdle sys state ProgressStep

-- Besides no output can acknowledge.
pub record NoneToAcknowledge (sys : System) (state : Machine) : Type 0 where
  pub earlier : NoneToSettle sys state
  pub outputs : AreIdleBelow sys state Ack (length sys.flow.nodes)

-- ---- which are idle

-- A node is not notified, acknowledges nothing and injects nothing.
pub record DoesNothing (sys : System) (state : Machine) (p : ℕ) : Type 0 where
  pub notify : (at : Option Stamp) → IsIdle sys state (Notify p at)
  pub ack : IsIdle sys state (Ack p)
  pub inject : IsIdle sys state (Inject p)

-- the stamp is the least of which a node may be notified
pub record IsLeastNotice (sys : System) (state : Machine) (p : ℕ) (t : Stamp) : Type 0 where
  pub may : IsNotifiable sys (events state.history) p t
  pub least : (other : Stamp) → IsNotifiable sys (events state.history) p other → is_gt (stamp_cmp t other) ≡ false
