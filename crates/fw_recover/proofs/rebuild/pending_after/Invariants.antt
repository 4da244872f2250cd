use Rattle.std.proofs.Common.{◌≡◌, ℕ, ◌<◌, [], length}
use Rattle.std.specs.Prelude.{slice_index_or}
use Rattle.fw_time.specs.Stamp.{Stamp}
use Rattle.fw_flow.specs.Dataflow.{bounds_of, receiver}
use Rattle.fw_progress.specs.History.{count_at}
use Rattle.fw_progress.specs.Tally.{times_in, IsTallyOf}
use Rattle.fw_rollback.specs.Edges.{on_edge}
use Rattle.fw_recover.proofs.rebuild.pending_after.Given as goal

abbrev pub invariant-loop-place : goal.invariant-loop-place
invariant-loop-place l = record {
  one_each : length l.pending.items ≡ l.place;
  tallies : (e : ℕ) → e < l.place → IsTallyOf (bounds_of l.flow (receiver l.flow e)) (slice_index_or l.pending.items e []);
  counted : (e : ℕ) → e < l.place → (t : Stamp) → times_in t (slice_index_or l.pending.items e []) ≡ count_at t (on_edge l.queues e).messages;
}
