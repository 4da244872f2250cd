use Rattle.std.proofs.Common.{◌≡◌, ℕ, ◌<◌, ◌≤◌, ◌^◌, ◌∷◌, [], nat_lt, take}
use Rattle.fw_frontier.specs.Front.{inside}
use Rattle.fw_settle.proofs.record.limit_of.Given as goal

abbrev pub invariant-loop-o : goal.invariant-loop-o
invariant-loop-o l = ((x : ℕ) → x < 2 ^ 32 → inside (take l.o-index l.o-items) (x ∷ []) ≡ nat_lt x l.limit) × (l.limit ≤ 2 ^ 32)
