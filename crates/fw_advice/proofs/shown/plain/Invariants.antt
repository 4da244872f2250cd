use Rattle.std.proofs.Common.{All}
use Rattle.fw_advice.specs.Plain.{IsPlain}
use Rattle.fw_advice.proofs.shown.plain.Given as goal

abbrev pub invariant-loop-byte : goal.invariant-loop-byte
invariant-loop-byte l = All IsPlain l.bytes.items
