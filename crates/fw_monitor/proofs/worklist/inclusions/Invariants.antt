use Rattle.std.proofs.Common.{◌≡◌}
use Rattle.fw_model.specs.Inclusions.{inclusions_to}
use Rattle.fw_monitor.specs.Worklist.{AreBegins}
use Rattle.fw_monitor.proofs.worklist.inclusions.Given as goal

abbrev pub invariant-loop-place : goal.invariant-loop-place
invariant-loop-place l = (l.all.items ≡ inclusions_to l.flow l.place) × AreBegins l.flow l.place l.begins.items
