use Rattle.std.proofs.Common.{◌+◌, ◌≤◌, take}
use Rattle.std.specs.List.{AllByRecursion}
use Rattle.fw_certify.specs.Checked.{IsHeld}
use Rattle.fw_certify.proofs.left.Left.records_lie_within.Given as goal

abbrev pub invariant-loop-record : goal.invariant-loop-record
invariant-loop-record g l = record {
  held : AllByRecursion (λ r. IsHeld l.self.flow.now l.self.offers.now l.self.side l.self.from.now l.self.bound.now l.front r.front) (take l.record-index l.records);
  spent : l.steps ≤ l.fn.steps + l.record-index;
}
