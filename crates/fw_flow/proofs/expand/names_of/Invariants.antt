use Rattle.std.proofs.Common.{◌≡◌, take}
use Rattle.fw_flow.specs.Raw.{names_of}
use Rattle.fw_flow.proofs.expand.names_of.Given as goal

abbrev pub invariant-loop-one : goal.invariant-loop-one
invariant-loop-one l = l.names ≡ names_of (take l.one-index l.declared)
