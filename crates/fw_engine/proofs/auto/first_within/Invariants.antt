use Rattle.std.proofs.Common.{ℕ, ◌<◌}
use Rattle.fw_engine.specs.Searching.{CanInjectWithin}
use Rattle.fw_engine.proofs.auto.first_within.Given as goal

abbrev pub invariant-loop-place : goal.invariant-loop-place
invariant-loop-place l = (q : ℕ) → q < l.place → CanInjectWithin l.came l.running q → ⊥
