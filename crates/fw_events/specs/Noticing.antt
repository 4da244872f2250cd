-- Of what a node is notified, and what that makes of what an engine keeps.
use Rattle.std.specs.Prelude.{◌≡◌, ℕ, false, List, Option, Some, None, Result, Ok, Err}
use Rattle.fw_time.specs.Stamp.{Stamp}
use Rattle.fw_flow.specs.declared.event.Event.{Event}
use Rattle.fw_flow.specs.declared.event.Event.TheVariants.{Notify as Notified}
use Rattle.fw_flow.specs.Dataflow.{System, Dataflow}
use Rattle.fw_model.specs.History.{IsEnabled}
use Rattle.fw_model.specs.Machine.{Machine, events, is_failed}
use Rattle.fw_model.specs.Steps.{IsNextNotice, with_event}
use Rattle.fw_keep.specs.Stored.{Records}
use Rattle.fw_progress.specs.History.{StandsForHistory}
use Rattle.fw_progress.specs.Progress.{Standing}
use Rattle.fw_running.specs.declared.fault.EngineFault.{EngineFault}
use Rattle.fw_running.specs.declared.fault.EngineFault.TheVariants as fault
use Rattle.fw_running.specs.declared.running.Running.{Running}
use Rattle.fw_running.specs.Stands.{Stands}

-- the stamp is the next one of which node p may be notified, where this is asked for; none where there is none
abbrev pub IsNoticeFound : System → List Event → ℕ → Option Stamp → Option Stamp → Type 0
IsNoticeFound sys h p at None = (t : Stamp) → IsNextNotice sys h p at t → ⊥
IsNoticeFound sys h p at (Some t) = IsNextNotice sys h p at t

-- so it is after each history for which progress stands
abbrev pub FindsNotice : Dataflow → Standing → ℕ → Option Stamp → Option Stamp → Type 0
FindsNotice flow progress p at found = (sys : System) (h : List Event) → sys.flow ≡ flow → StandsForHistory sys h progress → IsNoticeFound sys h p at found

-- What being notified answers in a state in which the notification may come next: the engine stands for the state with the event;
-- after a fault of the store for the state still.
abbrev pub AnswersNotice : {T : Type 0} → System → Machine → ℕ → Stamp → Result T EngineFault → Running → Option Records → Type 0
AnswersNotice sys state p t (Ok x) new after = Stands sys new after (with_event sys state (Notified p t))
AnswersNotice sys state p t (Err fault.StoreFault) new after = Stands sys new after state
AnswersNotice sys state p t (Err (fault.Damaged id)) new after = ⊥
AnswersNotice sys state p t (Err fault.NoMemory) new after = Unit {0}

-- so it does from each state for which the engine stood, and in which the node is not failed and may be notified of the stamp
abbrev pub TakesNotice : {T : Type 0} → Running → Option Records → ℕ → Stamp → Result T EngineFault → Running → Option Records → Type 0
TakesNotice old before p t result new after =
    (sys : System) (state : Machine) → Stands sys old before state → is_failed state p ≡ false → IsEnabled sys (events state.history) (Notified p t)
    → AnswersNotice sys state p t result new after
