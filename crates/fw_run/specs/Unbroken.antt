-- What a start prints that finds no root, and is taken to its end.
use Rattle.std.specs.Prelude.{ℕ, List, ◌++◌, Option, Ok}
use Rattle.fw_outside.specs.Outside.{SinkView}
use Rattle.fw_flow.specs.Dataflow.{Dataflow}
use Rattle.fw_keep.specs.Stored.{Records}
use Rattle.fw_generate.specs.Texts.{Texts}
use Rattle.fw_command.specs.Texts.{spelled_items, spelled_system}
use Rattle.fw_command.specs.Writing.{IsWritten}
use Rattle.fw_hold.specs.declared.place.HeldCounts.{HeldCounts}
use Rattle.fw_hold.specs.Hold.{IsAtEnd}
use Rattle.fw_hold.specs.Kept.{HeldTexts, no_root, kept_at_first, system_in}
use Rattle.fw_hold.specs.Starting.{EndsStart}
use Rattle.fw_run.specs.declared.status.Status.TheVariants.{Done}
use Rattle.fw_run.specs.Headline.{PrintsRun}
use Rattle.fw_run.specs.Held.{GoesOnFrom}
use Rattle.fw_run.specs.HeldCalls.{no_starts}
use Rattle.fw_run.specs.Printed.{done_line}

-- What a start printed that found no root and was taken to its end is, with the line `done` of its counts behind it, what `run` prints: the
-- text of the machine's run over the items.
abbrev pub UnbrokenIsRun : Type 0
UnbrokenIsRun = (texts : HeldTexts) (starts : ℕ) (counts : HeldCounts) (records : Option Records) (before after : SinkView)
    → EndsStart {T = HeldCounts} texts starts no_root (kept_at_first (system_in texts)) (Ok counts) records before after (IsAtEnd texts)
    → (text : List ℕ) × IsWritten text before after × PrintsRun (system_in texts) texts.items (text ++ done_line counts.steps counts.idle)

-- What a call of `hold` wrote that found nothing kept, and ended at 0, is what `run` writes of the same texts, where the store tells its
-- records.
abbrev pub FirstHoldIsRun : Type 0
FirstHoldIsRun = (flow : Dataflow) (texts : Texts) (records : Option Records) (before after : SinkView)
    → GoesOnFrom flow texts (no_starts flow texts) records Done before after
    → (printed : List ℕ) × IsWritten printed before after × PrintsRun (spelled_system flow texts) (spelled_items flow texts) printed
