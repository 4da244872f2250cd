use Rattle.std.specs.Io.KnownBytes.{Consumes}
use Rattle.fw_disk.proofs.names.read_names.Given as goal

abbrev pub invariant-loop : goal.invariant-loop
invariant-loop g l = Consumes (g.D.Read.remaining l.fn.dir) (g.D.Read.remaining l.dir) l.read.items
