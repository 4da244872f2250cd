use Rattle.std.proofs.Common.{◌≡◌, ◌++◌, drop}
use Rattle.fw_flow.specs.WholeBags.{joined_timed}
use Rattle.fw_denote.proofs.join.joined.Given as goal

abbrev pub invariant-loop-left : goal.invariant-loop-left
invariant-loop-left l = l.sent.items ++ joined_timed (drop l.left-index l.lefts) l.rights ≡ joined_timed l.lefts l.rights
