-- Where a held run ends.
use Rattle.std.specs.Prelude.{◌≡◌, length}
use Rattle.fw_hold.specs.declared.place.HeldCounts.{HeldCounts}
use Rattle.fw_hold.specs.Kept.{HeldTexts}
use Rattle.fw_hold.specs.Moves.{SchedulePoint, KeptPoint}

-- no item is left, and so the steps were counted
pub record IsAtEnd (texts : HeldTexts) (counts : HeldCounts) (now : KeptPoint) (last : SchedulePoint) : Type 0 where
  pub none_left : last.ended ≡ length texts.items
  pub steps : counts.steps ≡ last.steps
  pub idle : counts.idle ≡ last.idle
