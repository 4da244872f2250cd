-- Which stamps of a list are its least ones, whatever their lengths.
use Rattle.std.specs.Prelude.{◌≡◌, ◌↔◌, true, List}
use Rattle.std.specs.List.{Contains}
use Rattle.std.specs.List.Sorted.{IsStrictlySortedBy}
use Rattle.fw_time.specs.Stamp.{Stamp, leq, stamp_cmp}
use Rattle.fw_frontier.specs.Front.{Front}

-- the stamp is one of these, and none of them but itself is at most it
pub record IsOneOfTheLeast (ss : List Stamp) (o : Stamp) : Type 0 where
  pub one_of_them : Contains ss o
  pub only_itself : (s : Stamp) → Contains ss s → leq s o ≡ true → s ≡ o

-- the list has the least of these stamps, each once, in ascending order
pub record AreLeastOf (ss : List Stamp) (os : Front) : Type 0 where
  pub ascending : IsStrictlySortedBy stamp_cmp os
  pub members : (o : Stamp) → Contains os o ↔ IsOneOfTheLeast ss o
