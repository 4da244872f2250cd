use Rattle.std.proofs.Common.{ℕ, ◌<◌}
use Rattle.fw_flow.specs.declared.choice.Cut.{Cut}
use Rattle.fw_model.specs.Offers.{IsOffered}
use Rattle.fw_choosing.proofs.bare.first_bare.Given as goal

abbrev pub invariant-loop-place : goal.invariant-loop-place
invariant-loop-place l = (p : ℕ) → p < l.place → (cut : Cut) × IsOffered l.flow l.offers p cut
