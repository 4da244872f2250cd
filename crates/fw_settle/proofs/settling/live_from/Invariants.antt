use Rattle.fw_settle.proofs.SearchLaws.{IsSearched, left}
use Rattle.fw_settle.proofs.settling.live_from.Given as goal

abbrev pub invariant-loop-next : goal.invariant-loop-next
invariant-loop-next l = IsSearched l.running l.place l.next

abbrev pub decreases-loop-next : goal.decreases-loop-next
decreases-loop-next l = left l.next
