-- The stamps of messages, with how many are at each.
use Rattle.std.specs.Prelude.{ℕ, ◌+◌, if◌then◌else◌, List, [], ◌∷◌, Option, None, Some}
use Rattle.std.specs.Borrow.{Bor}
use Rattle.fw_time.specs.Stamp.{Stamp, same}
use Rattle.fw_flow.specs.declared.event.Message.{Message}

-- the counts with one more at a stamp that comes before the others or is the first of them
abbrev pub counted_before : Stamp → List (Stamp × ℕ) → List (Stamp × ℕ)
counted_before t [] = (t, 1) ∷ []
counted_before t (e ∷ es) = if same t e.0 then (e.0, e.1 + 1) ∷ es else (t, 1) ∷ e ∷ es

-- the stamps of messages in order, each once, with how many are at it
abbrev pub counted_stamps : List Message → List (Stamp × ℕ)
counted_stamps [] = []
counted_stamps (m ∷ ms) = counted_before m.at (counted_stamps ms)

-- the first stamp with how many are at it, where it was not gone over yet
abbrev pub counted_first : Option (Bor Stamp × ℕ) → List (Stamp × ℕ)
counted_first None = []
counted_first (Some first) = (first.0.now, first.1) ∷ []
