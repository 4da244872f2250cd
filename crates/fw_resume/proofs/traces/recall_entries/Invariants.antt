use Rattle.std.proofs.Common.{take}
use Rattle.std.specs.List.{flat_map}
use Rattle.fw_resume.specs.Recalled.{AreReady, HaveRecalled, recalls_of_entry}
use Rattle.fw_resume.proofs.traces.recall_entries.Given as goal

abbrev pub invariant-loop-entry : goal.invariant-loop-entry
invariant-loop-entry l = AreReady l.flow l.traces × HaveRecalled (flat_map (recalls_of_entry l.flow) (take l.entry-index l.entries)) l.initial.traces l.traces
