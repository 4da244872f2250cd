use Rattle.std.proofs.Common.{◌≡◌, ℕ, [], length}
use Rattle.fw_flow.specs.Flow.{edges_at}
use Rattle.fw_flow.proofs.check.empty_lists.Given as goal

abbrev pub invariant-loop : goal.invariant-loop
invariant-loop l = record {
  len : length l.lists.items ≡ l.counter;
  empty : (p : ℕ) → edges_at l.lists.items p ≡ [];
}
