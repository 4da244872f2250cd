use Rattle.std.proofs.Common.{◌≡◌, reverse, take}
use Rattle.std.specs.BTreeSet.{contains}
use Rattle.fw_flow.specs.WholeBags.{Timed, timed_cmp, is_among_timed}
use Rattle.fw_denote.proofs.distinct.seen.Given as goal

abbrev pub invariant-loop-r : goal.invariant-loop-r
invariant-loop-r l = (r : Timed) → contains timed_cmp l.seen r ≡ is_among_timed r (reverse (take l.r-index l.rs))
