use Rattle.std.proofs.Common.{◌+◌, ◌≤◌, take}
use Rattle.std.specs.List.{AllByRecursion}
use Rattle.fw_certify.specs.Checked.{IsBroken}
use Rattle.fw_certify.proofs.left.Left.breaks_outside.Given as goal

abbrev pub invariant-loop-stamp : goal.invariant-loop-stamp
invariant-loop-stamp g l = record {
  broken : AllByRecursion (λ o. IsBroken l.self.flow.now l.self.offers.now l.self.side l.self.from.now l.greatest l.self.bound.now o) (take l.stamp-index l.front);
  spent : l.steps ≤ l.fn.steps + l.stamp-index;
}
