use Rattle.std.proofs.Common.{[], ◌∷◌, take}
use Rattle.std.specs.List.{flat_map}
use Rattle.fw_resume.specs.Recalled.{AreReady, HaveRecalled, sending_on}
use Rattle.fw_resume.proofs.traces.recall_out.Given as goal

abbrev pub invariant-loop-edge : goal.invariant-loop-edge
invariant-loop-edge l = AreReady l.flow l.traces × HaveRecalled (flat_map (sending_on l.flow l.batch.recs (l.epoch ∷ [])) (take l.edge-index l.edges)) l.initial.traces l.traces
