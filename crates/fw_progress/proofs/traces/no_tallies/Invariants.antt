use Rattle.std.proofs.Common.{◌≡◌, ◌≤◌, ◌-◌, length}
use Rattle.std.specs.List.{AllByRecursion}
use Rattle.fw_progress.specs.Trace.{no_tally}
use Rattle.fw_progress.proofs.traces.no_tallies.Given as goal

abbrev pub invariant-each : goal.invariant-each
invariant-each l = (length l.tallies.items ≤ l.count) × AllByRecursion (λ tally. tally ≡ no_tally) l.tallies.items

abbrev pub decreases-each : goal.decreases-each
decreases-each l = l.count - length l.tallies.items
