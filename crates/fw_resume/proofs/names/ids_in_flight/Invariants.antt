use Rattle.std.proofs.Common.{◌≡◌, not, filter, map, take}
use Rattle.fw_keep.specs.declared.entry.Entry.{Entry}
use Rattle.fw_resume.proofs.names.ids_in_flight.Given as goal

abbrev pub invariant-loop-entry : goal.invariant-loop-entry
invariant-loop-entry l = l.ids.items ≡ map (λ (e : Entry). e.id) (filter (λ (e : Entry). not e.acknowledged) (take l.entry-index l.entries))
