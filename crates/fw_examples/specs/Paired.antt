-- Recs that meet across epochs, for the law of pairs.
use Rattle.std.specs.Prelude.{List, [], ◌∷◌, ◌≡◌, map}
use Rattle.fw_bag.specs.Arrivals.{Arrival, arrival}
use Rattle.fw_bag.specs.declared.rec.Rec.{Rec}
use Rattle.fw_time.specs.Stamp.{Stamp}
use Rattle.fw_paired.specs.declared.pair.Pair.{Pair}
use Rattle.fw_paired.specs.Bags.{AreReordered}
use Rattle.fw_paired.specs.Pairs.{all_pairs, pair_stamp, pairs_made}
use Rattle.fw_examples.specs.Flows.{pair}
use Rattle.fw_examples.specs.KindsSend.{at}

-- recs of one key came on two in-edges, at epochs 0 and 1 each
abbrev pub came_on_two : List Arrival
came_on_two =
    arrival 1 (at 1) (pair 1 5) ∷ arrival 0 (at 1) (pair 1 20) ∷ arrival 1 (at 0) (pair 1 1) ∷ arrival 0 (at 0) (pair 1 10) ∷ []

-- the pairs, as recs at the stamps at which they meet
abbrev pub met_recs : List Pair → List (Stamp × Rec)
met_recs pairs = map (λ (p : Pair). (pair_stamp p, p.rec)) pairs

-- Two recs on each of two in-edges make four pairs, of which one is at epoch 0. They are those of each on the first with each on the
-- second.
pub record PairsAreMade : Type 0 where
  pub made : met_recs (pairs_made came_on_two) ≡ (at 1, pair 1 25) ∷ (at 1, pair 1 15) ∷ (at 1, pair 1 21) ∷ (at 0, pair 1 11) ∷ []
  pub all : met_recs (all_pairs came_on_two) ≡ (at 1, pair 1 25) ∷ (at 1, pair 1 21) ∷ (at 1, pair 1 15) ∷ (at 0, pair 1 11) ∷ []
  pub same : AreReordered (all_pairs came_on_two) (pairs_made came_on_two)
