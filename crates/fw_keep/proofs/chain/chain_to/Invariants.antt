use Rattle.std.proofs.Common.{◌≡◌, ◌++◌, length, reverse}
use Rattle.fw_keep.specs.Catalogue.{ids_of}
use Rattle.fw_keep.specs.Joined.{chain_to}
use Rattle.fw_keep.proofs.chain.chain_to.Given as goal

abbrev pub invariant-loop-entry : goal.invariant-loop-entry
invariant-loop-entry l = ids_of (chain_to l.wanted (reverse l.rest)) ++ reverse l.chain.items ≡ ids_of (chain_to l.fn.top (reverse l.entries))

abbrev pub decreases-loop-entry : goal.decreases-loop-entry
decreases-loop-entry l = length l.rest
