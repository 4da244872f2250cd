-- What is inside one of two frontiers, by the least upper bounds of all pairs. No code does so; the laws compare with it.
use Rattle.std.specs.Prelude.{[], ◌∷◌}
use Rattle.fw_time.specs.Stamp.{Stamp, lub}
use Rattle.fw_frontier.specs.Front.{Front}
use Rattle.fw_frontier.specs.Outside.{front_without}

-- what is at least a stamp and one of the list is outside too
abbrev pub excluding_lubs : Stamp → Front → Front → Front
excluding_lubs s [] os = os
excluding_lubs s (p ∷ ps) os = excluding_lubs s ps (front_without (lub s p) os)

-- what is at least one of either list is outside too
abbrev pub excluding_pairs : Front → Front → Front → Front
excluding_pairs [] ps os = os
excluding_pairs (s ∷ ss) ps os = excluding_pairs ss ps (excluding_lubs s ps os)
