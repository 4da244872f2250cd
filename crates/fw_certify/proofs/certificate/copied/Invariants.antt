use Rattle.std.proofs.Common.{◌≡◌, take}
use Rattle.fw_certify.proofs.certificate.copied.Given as goal

abbrev pub invariant-loop-lowering : goal.invariant-loop-lowering
invariant-loop-lowering l = l.copy.items ≡ take l.lowering-index l.lowerings
