-- How a frontier is printed.
use Rattle.std.specs.Prelude.{ℕ, List, [], ◌∷◌, ◌++◌, codes}
use Rattle.fw_time.specs.StampText.{stamp_text}
use Rattle.fw_frontier.specs.Front.{Front}

-- the stamps, each after a space
abbrev pub spaces_text : Front → List ℕ
spaces_text [] = []
spaces_text (o ∷ os) = (32 ∷ stamp_text o) ++ spaces_text os

-- `all`, or `until` and the least stamps outside in ascending order, each after a space
abbrev pub front_text : Front → List ℕ
front_text [] = codes "all"
front_text (o ∷ os) = codes "until" ++ spaces_text (o ∷ os)
