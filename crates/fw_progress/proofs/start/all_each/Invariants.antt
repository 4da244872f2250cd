use Rattle.std.proofs.Common.{◌≡◌, ◌≤◌, ◌-◌, [], length}
use Rattle.std.specs.List.{AllByRecursion}
use Rattle.fw_progress.proofs.start.all_each.Given as goal

abbrev pub invariant-each : goal.invariant-each
invariant-each l = (length l.fronts.items ≤ l.count) × AllByRecursion (λ x. x ≡ []) l.fronts.items

abbrev pub decreases-each : goal.decreases-each
decreases-each l = l.count - length l.fronts.items
