use Rattle.std.proofs.Common.{◌≡◌, filter, map, take}
use Rattle.fw_keep.specs.declared.entry.Entry.{Entry}
use Rattle.fw_resume.specs.Names.{name_of}
use Rattle.fw_resume.proofs.names.names_of.Given as goal

abbrev pub invariant-loop-entry : goal.invariant-loop-entry
invariant-loop-entry l = l.names.items ≡ map name_of (filter (λ (e : Entry). e.acknowledged) (take l.entry-index l.entries))
