use Rattle.std.proofs.Common.{◌≡◌, ◌+◌, ◌≤◌, drop}
use Rattle.fw_frontier.specs.Outside.{rise_count}
use Rattle.fw_frontier.proofs.outside.count_of_rises.Given as goal

abbrev pub invariant-loop-i : goal.invariant-loop-i
invariant-loop-i l = record {
  few : l.count ≤ l.i;
  so_far : l.count + rise_count (drop l.i l.s) (drop l.i l.p) ≡ rise_count l.s l.p;
}
