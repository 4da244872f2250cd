use Rattle.std.proofs.Common.{◌≡◌, ℕ, ◌<◌, [], length}
use Rattle.std.specs.Prelude.{slice_index_or}
use Rattle.fw_model.specs.Choice.{cut_of}
use Rattle.fw_progress.specs.Counts.{sent_of}
use Rattle.fw_stands.specs.Recovered.{table_left}
use Rattle.fw_recover.proofs.rebuild.sent_after.Given as goal

abbrev pub invariant-loop-place : goal.invariant-loop-place
invariant-loop-place l = record {
  one_each : length l.tables.items ≡ l.place;
  left : (p : ℕ) → p < l.place → slice_index_or l.tables.items p [] ≡ table_left (cut_of l.choice p) (sent_of l.counts p);
}
