use Rattle.std.proofs.Common.{◌≡◌, [], length}
use Rattle.std.specs.List.{AllByRecursion}
use Rattle.fw_resume.proofs.told.none_each.Given as goal

abbrev pub invariant-loop-place : goal.invariant-loop-place
invariant-loop-place l = (length l.tallies.items ≡ l._place) × AllByRecursion (λ x. x ≡ []) l.tallies.items
