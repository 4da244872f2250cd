use Rattle.std.proofs.Common.{◌≡◌, ◌++◌, drop}
use Rattle.std.specs.Prelude.{string_bytes}
use Rattle.fw_disk.specs.RunLines.{lines_under}
use Rattle.fw_disk.proofs.lines.push_lines.Given as goal

abbrev pub invariant-loop-digest : goal.invariant-loop-digest
invariant-loop-digest l =
    string_bytes l.text ++ lines_under l.id (drop l.digest-index l.digests) ≡ string_bytes l.fn.text ++ lines_under l.id l.digests
