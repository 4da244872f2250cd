use Rattle.std.proofs.Common.{◌≡◌, ◌++◌, length, drop}
use Rattle.std.specs.Prelude.{string_bytes}
use Rattle.fw_disk.specs.RunLines.{text_of}
use Rattle.fw_disk.proofs.lines.RunLines.all_lines.Given as goal

abbrev pub invariant-loop-id : goal.invariant-loop-id
invariant-loop-id l = string_bytes l.text ++ text_of (drop (length l.yielded) l.self.told.entries) ≡ text_of l.self.told.entries
