use Rattle.std.proofs.Common.{◌≡◌, ℕ, take, length}
use Rattle.fw_flow.specs.Flow.{edges_at}
use Rattle.fw_flow.specs.Parts.{places_from}
use Rattle.fw_flow.proofs.check.edges_by_end.Given as goal

abbrev pub invariant-loop-place : goal.invariant-loop-place
invariant-loop-place l = record {
  len : length l.lists.items ≡ l.nodes;
  so_far : (p : ℕ) → edges_at l.lists.items p ≡ places_from 0 (take l.place l.ends) p;
}
