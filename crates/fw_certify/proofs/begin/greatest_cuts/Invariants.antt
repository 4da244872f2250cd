use Rattle.std.proofs.Common.{◌≡◌, ℕ, ◌<◌, length, get_or}
use Rattle.fw_flow.specs.declared.choice.Cut.TheVariants.{Present}
use Rattle.fw_model.specs.Certificates.{IsGreatestOffered}
use Rattle.fw_model.specs.Offers.{IsOffered}
use Rattle.fw_certify.proofs.begin.greatest_cuts.Given as goal

abbrev pub invariant-loop-place : goal.invariant-loop-place
invariant-loop-place l = record {
  one_each : length l.cuts.items ≡ l.place;
  greatest : (p : ℕ) → p < l.place → IsGreatestOffered l.flow (IsOffered l.flow l.offers) p (get_or l.cuts.items p Present);
}
