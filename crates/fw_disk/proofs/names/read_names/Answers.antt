use Rattle.std.proofs.Common.{sym, subst}
use Rattle.std.specs.Io.KnownBytes.{Consumes}
use Rattle.fw_disk.proofs.NameLaws.{none_read}
use Rattle.fw_disk.proofs.names.read_names.Goals as goal

pub loop-init : goal.loop-init
loop-init g c = let known = g.D.Read.remaining c.args.dir.now in subst (Consumes known known) (sym c.new-read.ensures.items) (none_read known)
