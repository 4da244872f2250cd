use Rattle.std.proofs.Common.{◌≡◌, take}
use Rattle.fw_running.specs.BroughtUp.{AreNoted}
use Rattle.fw_running.proofs.refreshing.note_growths.Given as goal

abbrev pub invariant-loop-growth : goal.invariant-loop-growth
invariant-loop-growth l = record {
  others : l.ready ≡ record l.initial.ready { growing = l.ready.growing };
  noted : AreNoted (take l.growth-index l.growths) l.initial.ready.growing l.ready.growing;
}
