use Rattle.std.proofs.Common.{◌≡◌, ℕ, [], length}
use Rattle.fw_flow.specs.Flow.{edges_at}
use Rattle.fw_flow.proofs.walks.no_receivers.Given as goal

abbrev pub invariant-loop : goal.invariant-loop
invariant-loop l = record {
  len : length l.onward.items ≡ l.counter;
  empty : (p : ℕ) → edges_at l.onward.items p ≡ [];
}
