use Rattle.std.proofs.Common.{◌≢◌, All}
use Rattle.std.specs.Io.KnownBytes.{Consumes}
use Rattle.fw_live.proofs.stream_lines.read_line.Given as goal

-- what was read so far stood in front, without a line feed
abbrev pub invariant-loop : goal.invariant-loop
invariant-loop g l = record {
  read : Consumes (g.R.Read.remaining l.fn.stream) (g.R.Read.remaining l.stream) l.into.items;
  lacks : All (λ b. b ≢ 10) l.into.items;
}
