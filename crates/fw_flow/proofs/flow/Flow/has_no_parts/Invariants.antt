use Rattle.std.proofs.Common.{◌≡◌, ◌<◌, ℕ, None}
use Rattle.fw_flow.specs.KeyParts.{part_of}
use Rattle.fw_flow.proofs.flow.Flow.has_no_parts.Given as goal

abbrev pub invariant-loop-place : goal.invariant-loop-place
invariant-loop-place l = record {
  none : (p : ℕ) → p < l.place → part_of l.self p ≡ None;
}
