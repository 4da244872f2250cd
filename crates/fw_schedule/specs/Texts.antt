-- What the text of a schedule spells.
use Rattle.std.specs.Prelude.{ℕ, List}
use Rattle.fw_lines.specs.Lines.{said_lines}
use Rattle.fw_flow.specs.Dataflow.{Dataflow}
use Rattle.fw_schedule.specs.Grammar.{IsAcceptedSchedule, items_of}

-- the text is a schedule of the dataflow
abbrev pub IsScheduleOf : Dataflow → List ℕ → Type 0
IsScheduleOf flow text = IsAcceptedSchedule text flow (items_of flow (said_lines text))
