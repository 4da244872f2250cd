use Rattle.std.proofs.Common.{ℕ, ◌-◌, Option, Some, None}
use Rattle.fw_running.specs.Places.{place_limit}
use Rattle.fw_running.specs.Shaped.{IsShaped}
use Rattle.fw_engine.specs.Searching.{HasNoneBefore, IsSearched}
use Rattle.fw_engine.proofs.auto.first_notice.Given as goal

-- how many numbers are left from the next one on
abbrev left : Option ℕ → ℕ
left None = 0
left (Some n) = place_limit - n

abbrev pub invariant-loop-next : goal.invariant-loop-next
invariant-loop-next l = record {
  searched : IsSearched l.fn.running l.running;
  shaped : IsShaped l.running;
  before : HasNoneBefore l.fn.running l.next;
}

abbrev pub decreases-loop-next : goal.decreases-loop-next
decreases-loop-next l = left l.next
