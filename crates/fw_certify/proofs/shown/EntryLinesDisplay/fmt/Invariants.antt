use Rattle.std.proofs.Common.{take}
use Rattle.std.specs.Fmt.{HasWritten, IsPlainFormatter}
use Rattle.fw_certify.specs.CertificateText.{down_lines}
use Rattle.fw_certify.proofs.shown.EntryLinesDisplay.fmt.Given as goal

abbrev pub invariant-loop-lowering : goal.invariant-loop-lowering
invariant-loop-lowering g l =
    IsPlainFormatter l.initial.f
    → HasWritten g.W.Write.write_str_gives l.initial.f (down_lines l.self.flow.now (take l.lowering-index l.self.entries.now)) l.f
