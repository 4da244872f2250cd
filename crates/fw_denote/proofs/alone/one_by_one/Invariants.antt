use Rattle.std.proofs.Common.{◌≡◌, ◌++◌, drop}
use Rattle.fw_flow.specs.WholeBags.{one_by_one}
use Rattle.fw_denote.proofs.alone.one_by_one.Given as goal

abbrev pub invariant-loop-r : goal.invariant-loop-r
invariant-loop-r l = l.sent.items ++ one_by_one l.flow l.kind (drop l.r-index l.rs) ≡ one_by_one l.flow l.kind l.rs
