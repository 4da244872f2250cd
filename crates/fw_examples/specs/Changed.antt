-- What changed of the totals of some recs since an epoch was settled, for the law of changes.
use Rattle.std.specs.Prelude.{Bool, List, [], not, ◌&&◌, ◌∷◌, ◌||◌, ◌≡◌}
use Rattle.fw_bag.specs.Arrivals.{Arrival, arrival, recs_inside}
use Rattle.fw_time.specs.Stamp.{Stamp, same}
use Rattle.fw_frontier.specs.Frontier.{Within}
use Rattle.fw_table.specs.Sums.{sums_at_keys}
use Rattle.fw_totals.specs.Totals.{WritesOver}
use Rattle.fw_examples.specs.Answers.{is_first}
use Rattle.fw_examples.specs.Flows.{pair}
use Rattle.fw_examples.specs.KindsSend.{at}

-- recs of two keys came at epoch 0, and one of the first of them at epoch 1
abbrev pub came_of_two_keys : List Arrival
came_of_two_keys = arrival 0 (at 1) (pair 1 6) ∷ arrival 0 (at 0) (pair 2 3) ∷ arrival 0 (at 0) (pair 1 5) ∷ []

-- whether a stamp is one of the first two epochs
abbrev pub is_of_two : Stamp → Bool
is_of_two t = same t (at 0) || same t (at 1)

-- Since epoch 0 the total of one key of two changed, and so the changes are its new total alone. Written over the totals of epoch 0 it
-- gives those of both epochs.
pub record ChangesAreJoined : Type 0 where
  pub within : Within is_first is_of_two
  pub before : recs_inside is_first came_of_two_keys ≡ pair 2 3 ∷ pair 1 5 ∷ []
  pub all : recs_inside is_of_two came_of_two_keys ≡ pair 1 6 ∷ pair 2 3 ∷ pair 1 5 ∷ []
  pub changes : sums_at_keys (recs_inside (λ t. is_of_two t && not (is_first t)) came_of_two_keys) (recs_inside is_of_two came_of_two_keys)
      ≡ pair 1 11 ∷ []
  pub joined : WritesOver (pair 1 11 ∷ []) (pair 2 3 ∷ pair 1 5 ∷ []) (pair 1 6 ∷ pair 2 3 ∷ pair 1 5 ∷ [])
