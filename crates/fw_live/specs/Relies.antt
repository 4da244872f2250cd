-- Where it is known what a session answers: a recovery reads what was put, if the store tells its records.
use Rattle.std.specs.Prelude.{◌≡◌, ℕ, ◌+◌, List, [], ◌∷◌, ◌++◌, Option, None, Result, Ok, Err}
use Rattle.std.specs.Option.{ForSome}
use Rattle.fw_flow.specs.declared.step.Step.{Step}
use Rattle.fw_flow.specs.declared.step.Step.TheVariants.{Recover}
use Rattle.fw_flow.specs.Dataflow.{Dataflow}
use Rattle.fw_schedule.specs.declared.item.Item.{Item}
use Rattle.fw_schedule.specs.declared.item.Item.TheVariants.{One, Auto}
use Rattle.fw_keep.specs.Stored.{Records}
use Rattle.fw_running.specs.declared.fault.EngineFault.{EngineFault}
use Rattle.fw_running.specs.declared.fault.EngineFault.TheVariants as fault
use Rattle.fw_model.specs.Steps.{Outcome, did, idle}
use Rattle.fw_run.specs.Printed.{outcomes_text}
use Rattle.fw_session.specs.Story.{Story}
use Rattle.fw_live.specs.declared.counts.TurnCounts.{TurnCounts}
use Rattle.fw_live.specs.declared.rule.LineRule.{LineRule}
use Rattle.fw_live.specs.Answers.{saturated}
use Rattle.fw_live.specs.Asked.{Asked, LineIn, asked_for}
use Rattle.fw_live.specs.Taken.{Ending, all, failed, spoiled}

-- the step can be relied on, by what the store tells behind it: it is no recovery, or the store tells its records
abbrev pub IsReliedOn : Option Records → Step → Type 0
IsReliedOn None Recover = ⊥
IsReliedOn records step = Unit {0}

-- so can the steps of an item
abbrev pub IsItemReliedOn : Option Records → Item → Type 0
IsItemReliedOn records (One step) = IsReliedOn records step
IsItemReliedOn records (Auto most) = Unit {0}

-- so can those of one that may be none
abbrev pub IsMaybeReliedOn : Option Records → Option Item → Type 0
IsMaybeReliedOn records item = ForSome item (IsItemReliedOn records)

-- so can those of a line
abbrev pub IsAskedReliedOn : Option Records → Result Asked LineRule → Type 0
IsAskedReliedOn records (Ok asked) = IsMaybeReliedOn records asked.item
IsAskedReliedOn records (Err rule) = Unit {0}

abbrev pub IsLineReliedOn : Option Records → Dataflow → LineIn → Type 0
IsLineReliedOn records flow line = IsAskedReliedOn records (asked_for flow line)

-- ---- while a line is answered

-- one step more is counted
abbrev pub step_counted : Outcome → TurnCounts → TurnCounts
step_counted (did effect) counts = record counts { done = saturated (counts.done + 1) }
step_counted idle counts = record counts { idle = saturated (counts.idle + 1) }

-- the steps with these outcomes are counted
abbrev pub turn_counts : List Outcome → TurnCounts → TurnCounts
turn_counts [] counts = counts
turn_counts (outcome ∷ outcomes) counts = turn_counts outcomes (step_counted outcome counts)

-- what was printed of a line so far, and what was counted
pub record Printed : Type 0 where
  pub bytes : List ℕ
  pub counts : TurnCounts

-- From a story it went on in such a way, with outcomes whose lines are printed, and which are counted; and at the next story this is true.
pub record GoesOnPrinting (flow : Dataflow) (GoesOn : List Outcome → Story → Type 0) (before after : Printed) (At : Story → Type 0) : Type 0 where
  pub outcomes : List Outcome
  pub next : Story
  pub goes_on : GoesOn outcomes next
  pub printed : after.bytes ≡ before.bytes ++ outcomes_text flow outcomes
  pub counted : after.counts ≡ turn_counts outcomes before.counts
  pub at : At next

-- how steps end that are answered so; want of memory says nothing
abbrev pub EndsSo : {T : Type 0} → (Ending → Type 0) → Result T EngineFault → Type 0
EndsSo P (Ok x) = P all
EndsSo P (Err fault.StoreFault) = P failed
EndsSo P (Err (fault.Damaged id)) = P (spoiled id)
EndsSo P (Err fault.NoMemory) = Unit {0}
