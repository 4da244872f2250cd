use Rattle.std.proofs.Common.{◌≡◌, ◌≤◌, ◌-◌, [], length}
use Rattle.std.specs.List.{AllByRecursion}
use Rattle.fw_progress.proofs.traces.no_stamps.Given as goal

abbrev pub invariant-each : goal.invariant-each
invariant-each l = (length l.lists.items ≤ l.count) × AllByRecursion (λ x. x ≡ []) l.lists.items

abbrev pub decreases-each : goal.decreases-each
decreases-each l = l.count - length l.lists.items
