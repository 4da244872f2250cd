use Rattle.fw_resume.specs.Recalled.{AreReady, HaveRecalled, recalls_of_inputs}
use Rattle.fw_resume.proofs.traces.recall_inputs.Given as goal

abbrev pub invariant-loop-place : goal.invariant-loop-place
invariant-loop-place l = AreReady l.flow l.traces × HaveRecalled (recalls_of_inputs l.flow l.batches l.injected l.low l.place) l.initial.traces l.traces
