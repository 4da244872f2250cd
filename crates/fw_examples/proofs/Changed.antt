-- What changed of the totals of some recs since an epoch was settled.
use Rattle.std.proofs.Common.{Bool, ap, refl, ◌||◌}
use Rattle.fw_time.specs.Stamp.{same}
use Rattle.fw_frontier.specs.Frontier.{Within}
use Rattle.fw_totals.proofs.SinceLaws.{changes_over}
use Rattle.fw_examples.specs.Answers.{is_first}
use Rattle.fw_examples.specs.Changed.{ChangesAreJoined, came_of_two_keys, is_of_two}
use Rattle.fw_examples.specs.KindsSend.{at}

within : Within is_first is_of_two
within t first = ap (λ (b : Bool). b || same t (at 1)) first

pub changes_are_joined : ChangesAreJoined
changes_are_joined = record {
  within = within;
  before = refl;
  all = refl;
  changes = refl;
  joined = changes_over is_first is_of_two within came_of_two_keys;
}
