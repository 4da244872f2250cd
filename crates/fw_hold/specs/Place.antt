-- Where a held run stands, in numbers.
use Rattle.std.specs.Prelude.{ℕ, ◌+◌, nat_lt, if◌then◌else◌}
use Rattle.fw_hold.specs.declared.place.SchedulePlace.{SchedulePlace}

-- nothing was done
abbrev pub place_at_first : SchedulePlace
place_at_first = record { turn = 0; ended = 0; singles = 0; steps = 0; idle = 0 }

-- the item that comes next has ended
abbrev pub place_past_item : SchedulePlace → SchedulePlace
place_past_item s = record { turn = s.turn; ended = s.ended + 1; singles = 0; steps = s.steps; idle = s.idle }

-- a step did nothing
abbrev pub place_with_idle_step : SchedulePlace → SchedulePlace
place_with_idle_step s = record { turn = s.turn; ended = s.ended; singles = s.singles; steps = s.steps + 1; idle = s.idle + 1 }

-- a step is done
abbrev pub place_with_step : SchedulePlace → SchedulePlace
place_with_step s = record { turn = s.turn; ended = s.ended; singles = s.singles + 1; steps = s.steps + 1; idle = s.idle }

-- a single step of an item that has so many is done
abbrev pub place_after_single : ℕ → SchedulePlace → SchedulePlace
place_after_single most s = if nat_lt (s.singles + 1) most then place_with_step s else place_past_item (place_with_step s)

-- a turn more
abbrev pub place_with_turn : SchedulePlace → SchedulePlace
place_with_turn s = record { turn = s.turn + 1; ended = s.ended; singles = s.singles; steps = s.steps; idle = s.idle }
