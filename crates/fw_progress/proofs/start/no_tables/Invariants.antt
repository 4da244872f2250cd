use Rattle.std.proofs.Common.{◌≡◌, ◌≤◌, ◌-◌, [], length}
use Rattle.std.specs.List.{AllByRecursion}
use Rattle.fw_progress.proofs.start.no_tables.Given as goal

abbrev pub invariant-each : goal.invariant-each
invariant-each l = (length l.tables.items ≤ l.count) × AllByRecursion (λ x. x ≡ []) l.tables.items

abbrev pub decreases-each : goal.decreases-each
decreases-each l = l.count - length l.tables.items
