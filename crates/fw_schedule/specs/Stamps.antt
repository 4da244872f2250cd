-- How stamps are spelled.
use Rattle.std.specs.Prelude.{ℕ, ◌==◌, nat_le, nat_lt, Bool, List, map, length, slice_index, Option, Some, None, if◌then◌else◌}
use Rattle.std.specs.List.{slice_split, list_all}
use Rattle.std.specs.Str.Parse.{digits_value}
use Rattle.fw_time.specs.Stamp.{Stamp}
use Rattle.fw_lines.specs.Spelling.{is_numeral}

-- the byte between coordinates
abbrev pub is_dot : ℕ → Bool
is_dot b = b == 46

-- the coordinates of a word as it spells them
abbrev pub coordinates : List ℕ → List (List ℕ)
coordinates word = slice_split is_dot word

-- whether the word is a stamp: numbers joined by dots
abbrev pub is_stamp : List ℕ → Bool
is_stamp word = list_all is_numeral (coordinates word)

-- the stamp that a word spells
abbrev pub stamp_spelled : List ℕ → Stamp
stamp_spelled word = map (digits_value 10) (coordinates word)

-- the number, if it is at most the greatest one
abbrev pub if_at_most : ℕ → ℕ → Option ℕ
if_at_most greatest n = if nat_le n greatest then Some n else None

-- the number, if the greatest stamp has a coordinate at the place that is not lesser
abbrev pub coord_up_to : Stamp → ℕ → ℕ → Option ℕ
coord_up_to greatest place n = if nat_lt place (length greatest) then if_at_most (slice_index greatest place) n else None
