use Rattle.std.proofs.Common.{◌≡◌, ℕ}
use Rattle.std.specs.Prelude.{IsSome}
use Rattle.std.specs.List.{All}
use Rattle.fw_disk.specs.RunLines.{digests_of, digests_under}
use Rattle.fw_disk.proofs.lines.RunLines.add_gone.Given as goal

abbrev pub invariant-loop-id : goal.invariant-loop-id
invariant-loop-id l =
    ((other : ℕ) → digests_under l.self.told other ≡ digests_under l.fn.self.told other)
    × All (λ id. IsSome (digests_of l.self.told id.now)) l.yielded
