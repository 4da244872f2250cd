-- Floors of the running total, covers that lack what is below one, and stamps of which those below one are missing.
use Rattle.std.specs.Prelude.{[], drop, false, not, true, ◌&&◌, ◌∷◌, ◌≡◌}
use Rattle.fw_flow.specs.Dataflow.{Dataflow, node_frontier, receiver, sender}
use Rattle.fw_flow.specs.declared.choice.Choice.{Choice}
use Rattle.fw_flow.specs.declared.choice.Cut.TheVariants.{At, Present}
use Rattle.fw_model.specs.Choice.{cut_of, until}
use Rattle.fw_model.specs.Covers.{Covers, covers_in}
use Rattle.fw_model.specs.Floors.{IsFloor}
use Rattle.fw_model.specs.LawsOfPoorerCovers.{ArePoorerIn}
use Rattle.fw_model.specs.Machine.{Machine, first_state, is_failed}
use Rattle.fw_model.specs.Offers.{AreOffersAbove}
use Rattle.fw_model.specs.Steps.{Run}
use Rattle.fw_model.specs.Thinned.{IsThinned, IsThinnedIf}
use Rattle.fw_examples.specs.OffersOfTotals.{offers_of_totals}
use Rattle.fw_examples.specs.RunningTotal.{alike, outcomes_up_to_two, output_failed, src_to_run, steps_up_to_two, total_flow, total_node, totals, two_epochs_kept}
use Rattle.fw_examples.specs.Witnesses.{four_epochs}

-- In the state of the failure the low watermark is a floor. Before the collection that raised it, it held nothing, and two epochs
-- were a floor above it.
pub record FloorsAreThere : Type 0 where
  pub low : IsFloor totals output_failed (alike 2)
  pub before : Machine
  pub reached : Run totals (first_state totals) steps_up_to_two outcomes_up_to_two before
  pub low_before : before.low ≡ alike 0
  pub above_low : IsFloor totals before (alike 2)

-- these covers without what they have at a choice's cuts
abbrev pub covers_beyond : Dataflow → Choice → Covers → Covers
covers_beyond flow choice covers = record {
  delivered = λ d cut t. covers.delivered d cut t && not (covers.delivered d (cut_of choice (receiver flow d)) t);
  discarded = λ e cut t. covers.discarded e cut t && not (covers.discarded e (cut_of choice (sender flow e)) t);
  notified = λ p cut t. covers.notified p cut t && not (covers.notified p (cut_of choice p) t);
  arrived = λ e f. covers.arrived e f;
}

-- what counts in the state of the failure, without what two epochs have
abbrev pub beyond_two : Covers
beyond_two = covers_beyond total_flow two_epochs_kept (covers_in totals output_failed)

-- They are poorer: what was delivered in two epochs is missing, and what was delivered after them is not.
pub record CoversArePoorer : Type 0 where
  pub poorer : ArePoorerIn totals output_failed (is_failed output_failed) beyond_two two_epochs_kept
  pub was_there : (covers_in totals output_failed).delivered src_to_run (At (until 2)) (1 ∷ []) ≡ true
  pub missing : beyond_two.delivered src_to_run (At (until 2)) (1 ∷ []) ≡ false
  pub left : beyond_two.delivered src_to_run Present (2 ∷ []) ≡ true

-- What the nodes offer as data, of which nothing is missing, is what the machine offers above the floor too.
abbrev pub OffersAreAbove : Type 0
OffersAreAbove = AreOffersAbove totals output_failed (is_failed output_failed) two_epochs_kept offers_of_totals

-- Of four epochs those after the first two are thinned inside these where not the whole is asked, and not where it is.
pub record EpochsAreMissing : Type 0 where
  pub thinned : IsThinnedIf false (node_frontier total_flow total_node (until 2)) four_epochs (drop 2 four_epochs)
  pub not_whole : IsThinned (node_frontier total_flow total_node (until 2)) four_epochs (drop 2 four_epochs) → ⊥
