use Rattle.std.proofs.Common.{◌≡◌, length}
use Rattle.flow_rows.specs.Written.{AreOffersFrom}
use Rattle.flow_rows.proofs.choices.offers.Given as goal

abbrev pub invariant-loop-place : goal.invariant-loop-place
invariant-loop-place l = record {
  one_each : length l.offers.items ≡ l.place;
  each : AreOffersFrom l.flow 0 l.offers.items;
}
