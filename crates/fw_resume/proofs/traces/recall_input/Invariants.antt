use Rattle.std.proofs.Common.{map}
use Rattle.fw_resume.specs.Recalled.{AreReady, HaveRecalled, recalls_of_input}
use Rattle.fw_resume.proofs.traces.recall_input.Given as goal

abbrev pub invariant-loop-epoch : goal.invariant-loop-epoch
invariant-loop-epoch l = AreReady l.flow l.traces × HaveRecalled (recalls_of_input l.flow l.node l.low (map (λ b. b.recs) l.batches) l.epoch) l.initial.traces l.traces
