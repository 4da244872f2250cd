use Rattle.fw_running.specs.Shaped.{IsShaped}
use Rattle.fw_settle.specs.Settling.{ChangesSettled}
use Rattle.fw_settle.proofs.SearchLaws.{HaveSettledUpTo, left}
use Rattle.fw_settle.proofs.settling.settle_grown.Given as goal

abbrev pub invariant-loop-next : goal.invariant-loop-next
invariant-loop-next l = record {
  others : ChangesSettled l.fn.running l.running;
  shaped : IsShaped l.running;
  settled : HaveSettledUpTo l.fn.running l.running l.next;
}

abbrev pub decreases-loop-next : goal.decreases-loop-next
decreases-loop-next l = left l.next
