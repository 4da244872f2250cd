use Rattle.std.proofs.Common.{◌≡◌, drop}
use Rattle.fw_flow.specs.Expand.{split_of}
use Rattle.fw_flow.proofs.expand.split_of.Given as goal

abbrev pub invariant-loop-one : goal.invariant-loop-one
invariant-loop-one l = split_of l.raw l.name ≡ split_of (drop l.one-index l.raw) l.name
