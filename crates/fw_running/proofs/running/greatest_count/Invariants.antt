use Rattle.fw_flow.specs.Dataflow.{system_of}
use Rattle.fw_running.proofs.CountLaws.{IsGreatestOf}
use Rattle.fw_running.proofs.running.greatest_count.Given as goal

abbrev pub invariant-loop-place : goal.invariant-loop-place
invariant-loop-place l = IsGreatestOf (system_of l.flow l.batches) l.place l.greatest
