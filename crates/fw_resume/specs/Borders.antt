-- What inputs and outputs are that start again: as many batches are injected, and as many stamps acknowledged, as a root says.
use Rattle.std.specs.Prelude.{◌≡◌, ℕ, zero, suc, ◌<◌, List, length, unwrap_or}
use Rattle.fw_frontier.specs.Front.{Front}
use Rattle.fw_model.specs.Machine.{front_of}
use Rattle.fw_border.specs.Outputs.{OutputState, output_at, acknowledged}
use Rattle.fw_border.specs.Sources.{SourceState, source_at, advanced, given_up}
use Rattle.fw_root.specs.OfFlow.{number_standing_for}

-- with so many batches more injected, if there are so many
abbrev pub advanced_by : ℕ → SourceState → SourceState
advanced_by zero source = source
advanced_by (suc n) source = advanced (advanced_by n source)

-- the same, without the batches of the epochs inside
abbrev pub started : ℕ → Front → SourceState → SourceState
started n low source = given_up low (advanced_by n source)

-- with so many stamps more acknowledged
abbrev pub acknowledged_by : ℕ → OutputState → OutputState
acknowledged_by zero output = output
acknowledged_by (suc n) output = acknowledged (acknowledged_by n output)

-- the number that stands for a node; 0 for one that is none of these
abbrev pub number_or_none : List ℕ → List ℕ → ℕ → ℕ
number_or_none nodes numbers p = unwrap_or (number_standing_for nodes numbers p) 0

-- Of each of the first n nodes so many batches are injected as stand for it, and none is held that lies inside its low watermark.
pub record AreStarted (inputs injected : List ℕ) (low : List Front) (n : ℕ) (old new : List SourceState) : Type 0 where
  pub one_each : length new ≡ length old
  pub each : (p : ℕ) → p < n → source_at new p ≡ started (number_or_none inputs injected p) (front_of low p) (source_at old p)

-- Of each of the first n nodes so many stamps are acknowledged as stand for it.
pub record AreRaised (nodes bounds : List ℕ) (n : ℕ) (old new : List OutputState) : Type 0 where
  pub one_each : length new ≡ length old
  pub each : (p : ℕ) → p < n → output_at new p ≡ acknowledged_by (number_or_none nodes bounds p) (output_at old p)
