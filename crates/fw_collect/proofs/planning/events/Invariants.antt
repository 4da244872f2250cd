use Rattle.std.proofs.Common.{◌≡◌, take}
use Rattle.fw_collect.specs.Drops.{watermark, dropped_events}
use Rattle.fw_collect.proofs.planning.events.Given as goal

abbrev pub invariant-loop-entry : goal.invariant-loop-entry
invariant-loop-entry l = l.drops.items ≡ dropped_events l.flow (watermark l.choice) (take l.entry-index l.entries)
