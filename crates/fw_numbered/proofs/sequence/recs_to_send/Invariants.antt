use Rattle.std.proofs.Common.{◌≡◌, ◌+◌, ◌≤◌, ◌^◌, ◌++◌, length}
use Rattle.fw_numbered.specs.Numbers.{at_numbers, recs_numbered}
use Rattle.fw_numbered.proofs.sequence.recs_to_send.Given as goal

abbrev pub invariant-loop-rec : goal.invariant-loop-rec
invariant-loop-rec l = record {
  few : l.next ≤ 2 ^ 32;
  count : l.first + length l.recs ≡ l.next;
  sent : at_numbers l.first l.recs ++ recs_numbered l.next l.rec-iterator ≡ recs_numbered l.first l.bag.recs;
}
