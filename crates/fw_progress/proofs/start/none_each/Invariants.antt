use Rattle.std.proofs.Common.{◌≡◌, ◌≤◌, ◌-◌, [], length}
use Rattle.std.specs.List.{AllByRecursion}
use Rattle.fw_progress.proofs.start.none_each.Given as goal

abbrev pub invariant-each : goal.invariant-each
invariant-each l = (length l.tallies.items ≤ l.count) × AllByRecursion (λ x. x ≡ []) l.tallies.items

abbrev pub decreases-each : goal.decreases-each
decreases-each l = l.count - length l.tallies.items
