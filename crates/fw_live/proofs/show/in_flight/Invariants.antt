use Rattle.std.proofs.Common.{◌≡◌, ◌+◌, ◌≤◌, not, drop, filter, length}
use Rattle.fw_keep.specs.declared.entry.Entry.{Entry}
use Rattle.fw_live.proofs.show.in_flight.Given as goal

-- with the ones that follow it is all of them
abbrev pub invariant-loop-entry : goal.invariant-loop-entry
invariant-loop-entry l = record {
  few : l.flying ≤ l.entry-index;
  so_far : l.flying + length (filter (λ (e : Entry). not e.acknowledged) (drop l.entry-index l.writes))
      ≡ length (filter (λ (e : Entry). not e.acknowledged) l.writes);
}
