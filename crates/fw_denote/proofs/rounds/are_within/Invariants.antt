use Rattle.std.proofs.Common.{◌≡◌, true, length}
use Rattle.std.specs.List.{AllByRecursion}
use Rattle.fw_time.specs.Stamp.{in_domain}
use Rattle.fw_flow.specs.WholeBags.{Timed}
use Rattle.fw_denote.proofs.rounds.are_within.Given as goal

abbrev pub invariant-loop-r : goal.invariant-loop-r
invariant-loop-r l = AllByRecursion (λ (r : Timed). in_domain l.bounds r.at ≡ true) l.rest → AllByRecursion (λ (r : Timed). in_domain l.bounds r.at ≡ true) l.rs

abbrev pub decreases-loop-r : goal.decreases-loop-r
decreases-loop-r l = length l.rest
