use Rattle.std.proofs.Common.{sym}
use Rattle.fw_disk.proofs.TextLaws.{none_told, whole_told}
use Rattle.fw_disk.proofs.lines.told_in.Goals as goal

pub returns-in-None : goal.returns-in-None
returns-in-None c = sym (none_told c.args.line.now (λ id digest is. let some = c.in-None.ensures.found id digest is in absurd (cc)))

pub returns-in-Some : goal.returns-in-Some
returns-in-Some c =
    whole_told c.args.line.now c.in-Some.told c.if_written.result c.in-Some.ensures.ranges.0 c.in-Some.ensures.ranges.1 c.in-Some.ensures.found c.if_written.ensures.written c.if_written.ensures.other
